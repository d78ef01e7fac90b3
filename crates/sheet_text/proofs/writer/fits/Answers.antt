use Rattle.std.proofs.Common.{◌≡◌, [], length, get_or, sym, ◌∙◌, rules}
use Rattle.std.proofs.ByRecursion.{All-more}
use Rattle.terms.specs.declared.strategy.Line.{Line}
use Rattle.terms.specs.declared.strategy.Kind.TheVariants.{Opposed}
use Rattle.sheet_text.proofs.Writes.{fit_none}
use Rattle.sheet_text.proofs.Fitting.{line-fits, first-unfit}
use Rattle.sheet_text.proofs.writer.fits.Goals as goal
use Rattle.sheet_text.specs.Sheet.{LineFits}

pub returns-in-Some-clause-all : goal.returns-in-Some-clause-all
returns-in-Some-clause-all c = first-unfit c.args.lines.now c.loop-i.i c.in-Some.j (record { kind = Opposed; legs = [] }) c.loop-i-test.true c.loop-i.invariant.1 c.in-Some.ensures

pub loop-i-preserved : goal.loop-i-preserved
loop-i-preserved c =
    let d : Line = record { kind = Opposed; legs = [] } in
    let l : Line = get_or c.args.lines.now c.loop-i.i d in
    let l4 : length (get_or c.args.lines.now c.loop-i.i (record { kind = Opposed; legs = [] })).legs ≡ 4 = search rules in (
      sym (fit_none c.args.lines.now c.loop-i.i d c.loop-i-test.true c.in_default.ensures) ∙ c.loop-i.invariant.0,
      All-more LineFits c.args.lines.now c.loop-i.i d c.loop-i-test.true c.loop-i.invariant.1 (line-fits l l4 c.in_default.ensures),
    )
