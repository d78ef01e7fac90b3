use Rattle.std.proofs.Common.{rules, eqb, ℕ, length, ap, ◌∙◌, w32}
use Rattle.std.proofs.lemmas.Int.{to_z-of_z}
use Rattle.lines.proofs.Withouts.{broken-is}
use Rattle.lines.proofs.table.Lines.fit.Goals as goal

pub returns-clause-broken : goal.returns-clause-broken
returns-clause-broken c =
    let spared = c.spare_from.ensures.spared (λ (r : ℕ). eqb r c.args.row) (λ r lt b called. search rules) in
    broken-is c.args.row c.fitting_front-front.result c.len-before.result c.len.result c.args.net _ _ _ _
    (to_z-of_z w32 c.args.net c.ranges.net) (c.as_slice.ensures.value ∙ c.self.view_is) c.fitting_front-front.ensures spared
    (c.len-before.ensures.value ∙ ap length c.self.view_is) (c.len.ensures.value ∙ ap length c.self-2.view_is)
