use Rattle.std.proofs.Common.{◌≡◌, Some, sym, ap, ◌∙◌, refl, rules, Bor}
use Rattle.std.proofs.lemmas.Fn.{fold_over, fronts}
use Rattle.std.proofs.lemmas.Iterator.{YieldsList-from_slice}
use Rattle.rates.specs.declared.percentages.Percentages.{Percentages}
use Rattle.desk.specs.Present.{raised_by, stacked}
use Rattle.desk.proofs.Stacks.{stacked_push}
use Rattle.desk.proofs.present.raise_by_all.Goals as goal

pub returns : goal.returns
returns c =
    let security = c.args.security in
    let first = Some c.args.amount in
    fold_over fronts (λ (p : Bor Percentages). p.now) _ (λ ps n. Some n ≡ stacked ps security first) _
    (λ ps before p after closure so_far told.
    let raised : Some after ≡ raised_by security (Some before) p.now = search rules in
    (raised ∙ ap (λ n. raised_by security n p.now) so_far ∙ sym (stacked_push ps p.now security first), search rules))
    c.iter.result _ _ _ (YieldsList-from_slice {s = c.iter.result} c.args.surcharges.now c.iter.ensures.rest).runs refl c.fold.ensures.ran
