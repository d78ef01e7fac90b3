use Rattle.std.proofs.Common.{sym, refl, arith}
use Rattle.std.proofs.lemmas.Grind.{common_steps}
use Rattle.std.proofs.lemmas.List.{take_all}
use Rattle.std.proofs.lemmas.List.Elements.{All-more, All-same}
use Rattle.rules.specs.Lawful.{Lawful}
use Rattle.rules.proofs.check_lines.Goals as goal

pub loop-i-preserved : goal.loop-i-preserved
loop-i-preserved c =
    let lawful = Lawful c.args.listings.rows.now c.args.listings.securities.now in
    record {
      value = grind (arith, common_steps);
      lawful = All-more lawful c.args.sheet.now c.loop-i.i-counter _ c.loop-i-test.true c.loop-i.invariant.lawful (c.check_line.ensures.lawful.0 (grind (arith, common_steps)));
    }

pub returns-clause-lawful : goal.returns-clause-lawful
returns-clause-lawful c =
    let lawful = Lawful c.args.listings.rows.now c.args.listings.securities.now in
    (λ _. All-same lawful c.args.sheet.now _ (sym (take_all c.loop-i.i-counter c.args.sheet.now c.loop-i-test.false)) c.loop-i.invariant.lawful, λ _. refl)
