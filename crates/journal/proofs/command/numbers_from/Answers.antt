use Rattle.std.proofs.Common.{◌≡◌, ◌+◌, ◌++◌, ◌∷◌, [], length, is_ok, sym, ap, ◌∙◌, ◌≤◌, arith}
use Rattle.std.proofs.ResultArms.{chosen}
use Rattle.std.proofs.lemmas.List.{length_push}
use Rattle.std.proofs.lemmas.Result.{err_from_is_err_and}
use Rattle.std.proofs.lemmas.Iterator.Consumers.{YieldsList-turn, YieldsList-end}
use Rattle.journal.specs.Words.{texts}
use Rattle.journal.proofs.Lines.{indexed, length-indexed, item_at, ahead_more, ahead-stop, ahead-all}
use Rattle.journal.proofs.command.numbers_from.Goals as goal

pub returns-in_err-placed_number : goal.returns-in_err-placed_number
returns-in_err-placed_number c =
    let line = c.args.line.now in
    let all = indexed line c.args.first c.iter.ensures.rest (c.enumerate.ensures.source, c.enumerate.ensures.count) (c.skip-k-items.ensures.source, c.skip-k-items.ensures.count) c.into_iter-k-iterator.ensures.into_iter_gives in
    let t = YieldsList-turn all c.loop-k.yielded _ c.loop-k.yielded_by _ _ (c.in-Some.k, c.in-Some.word) c.in-Some.is c.next.ensures.steps in
    let i = item_at line c.args.first (length c.loop-k.yielded) _ _ t in
    let p = err_from_is_err_and c.from_residual.result c.from_residual.ensures.1 in
    rw (p.1, p.2) (sym (ahead-stop _ _ _ _ i.0 (c.in_err-placed_number.ensures ∙ i.2)) ∙ c.loop-k.invariant)

pub loop-k-preserved : goal.loop-k-preserved
loop-k-preserved c =
    let line = c.args.line.now in
    let all = indexed line c.args.first c.iter.ensures.rest (c.enumerate.ensures.source, c.enumerate.ensures.count) (c.skip-k-items.ensures.source, c.skip-k-items.ensures.count) c.into_iter-k-iterator.ensures.into_iter_gives in
    let t = YieldsList-turn all c.loop-k.yielded _ c.loop-k.yielded_by _ _ (c.in-Some.k, c.in-Some.word) c.in-Some.is c.next.ensures.steps in
    let i = item_at line c.args.first (length c.loop-k.yielded) _ _ t in
    let pushed = chosen _ _ _ _ c.push.ensures.items (ap is_ok c.in_ok-push.was) in
    let next : c.args.first + length (c.loop-k.yielded ++ (c.in-Some.k, c.in-Some.word) ∷ []) ≡ c.args.first + length c.loop-k.yielded + 1 = omega (arith, length_push c.loop-k.yielded (c.in-Some.k, c.in-Some.word)) in
    rw (pushed, next) (sym (ahead_more _ _ _ _ i.0 (c.in_ok-placed_number.ensures ∙ i.2)) ∙ c.loop-k.invariant)

pub returns : goal.returns
returns c =
    let line = c.args.line.now in
    let all = indexed line c.args.first c.iter.ensures.rest (c.enumerate.ensures.source, c.enumerate.ensures.count) (c.skip-k-items.ensures.source, c.skip-k-items.ensures.count) c.into_iter-k-iterator.ensures.into_iter_gives in
    let t = YieldsList-end all c.loop-k.yielded _ c.loop-k.yielded_by _ _ c.in-None.is c.next.ensures.steps in
    let past : length (texts line) ≤ c.args.first + length c.loop-k.yielded = omega (arith, t.1, length-indexed line c.args.first) in
    sym (ahead-all _ _ _ past) ∙ c.loop-k.invariant
