use Rattle.std.proofs.Common.{rules, sym, ◌∙◌}
use Rattle.std.specs.List.{zip}
use Rattle.std.proofs.lemmas.Iterator.{YieldsList-from_slice, YieldsList-from_zip}
use Rattle.std.proofs.lemmas.Iterator.Adapters.{position_from-zero}
use Rattle.std.proofs.lemmas.Iterator.Search.{position_from_yields_List}
use Rattle.lines.proofs.Tallies.{misfit, beside}
use Rattle.lines.proofs.tally.Tally.first_overdrawn.Goals as goal

pub returns : goal.returns
returns c =
    position_from_yields_List misfit c.position.new.self _ c.position.result c.position.ensures.ran
    (YieldsList-from_zip (YieldsList-from_slice c.args.rows.now (search rules)) (YieldsList-from_slice c.args.self.now (search rules)))
    (λ x b q k. search rules)
    ∙ (position_from-zero misfit (zip c.args.rows.now c.args.self.now)
    ∙ sym (beside c.args.self.now c.args.rows.now 0))
