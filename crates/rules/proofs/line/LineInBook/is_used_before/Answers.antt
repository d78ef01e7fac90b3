use Rattle.std.proofs.Common.{◌&&◌, eqb, ◌∙◌, rules}
use Rattle.std.proofs.lemmas.Iterator.{YieldsList-from_slice, YieldsList-from_take}
use Rattle.std.proofs.lemmas.Iterator.Search.{any_from_yields_List}
use Rattle.rules.specs.Legs.{used}
use Rattle.rules.proofs.Chains.{before_any}
use Rattle.rules.proofs.line.LineInBook.is_used_before.Goals as goal

pub returns : goal.returns
returns c =
    let legs = c.args.self.line.now.legs in
    any_from_yields_List (λ leg. used leg && eqb leg.row c.args.leg.row) _ _ _ c.any.ensures.ran
    (YieldsList-from_take c.args.i (YieldsList-from_slice legs (cc)) c.take.ensures.count)
    (λ x b q k. search rules)
    ∙ before_any c.args.i c.args.leg.row legs
