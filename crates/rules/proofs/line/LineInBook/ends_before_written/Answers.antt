use Rattle.std.proofs.Common.{◌&&◌, ◌∙◌, rules}
use Rattle.std.proofs.lemmas.Iterator.{YieldsList-from_slice}
use Rattle.std.proofs.lemmas.Iterator.Consumers.{YieldsList-from_enumerate}
use Rattle.std.proofs.lemmas.Iterator.Search.{any_from_yields_List}
use Rattle.rules.specs.Legs.{used}
use Rattle.rules.specs.Rules.{outlives}
use Rattle.rules.proofs.Chains.{any_leg}
use Rattle.rules.proofs.line.LineInBook.ends_before_written.Goals as goal

pub returns : goal.returns
returns c =
    let line = c.args.self.line.now in
    let is = outlives line.kind c.args.self.listings.rows.now c.args.contract in
    any_from_yields_List (λ p. used p.1 && is p.0 p.1) _ _ _ c.any.ensures.ran
    (YieldsList-from_enumerate (YieldsList-from_slice line.legs (cc)) c.enumerate.ensures.count)
    (λ x b q k. search rules)
    ∙ any_leg is line.legs
