use Rattle.std.proofs.Common.{rules, ℕ, not, ◌∙◌, ap}
use Rattle.terms.specs.declared.strategy.Line.{Line}
use Rattle.lines.specs.Lots.{uses_any}
use Rattle.lines.specs.Broken.{sparing_from}
use Rattle.lines.proofs.Spared.{kept_from}
use Rattle.lines.proofs.table.Lines.spare_from.Goals as goal

pub returns-clause-spared : goal.returns-clause-spared
returns-clause-spared g c = λ has decides.
    kept_from _ (λ (line : Line). not (uses_any has line)) (λ (n : ℕ). (n, c.args.in_set)) (λ n x b f y called. search rules) c.args.from _ _ c.retain.ensures.filtered
    ∙ ap (sparing_from c.args.from has) c.self.view_is
