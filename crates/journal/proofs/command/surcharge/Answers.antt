use Rattle.std.proofs.Common.{◌≡◌, ◌+◌, ◌≤◌, ◌++◌, ◌∷◌, [], length, sym, arith, rules, ◌∙◌}
use Rattle.std.proofs.lemmas.List.{length_push}
use Rattle.std.proofs.lemmas.Result.{err_from_is_err_and}
use Rattle.std.proofs.lemmas.Iterator.Consumers.{YieldsList-turn, YieldsList-end}
use Rattle.journal.specs.Commands.{surcharge_of}
use Rattle.journal.specs.Words.{texts}
use Rattle.journal.proofs.Lines.{length_texts, indexed, length-indexed, item_at, filled_more, filled-stop, filled-all}
use Rattle.journal.proofs.command.surcharge.Goals as goal

pub returns-then-line : goal.returns-then-line
unfolding surcharge_of
returns-then-line c = search (rules, length_texts)

pub returns-in_err-percentages : goal.returns-in_err-percentages
returns-in_err-percentages c =
    let line = c.args.line.now in
    let few : length (texts line) ≤ 17 = rw length_texts (omega arith) in
    let all = indexed line 1 c.iter.ensures.rest (c.enumerate.ensures.source, c.enumerate.ensures.count) (c.skip-k-items.ensures.source, c.skip-k-items.ensures.count) c.into_iter-k-iterator.ensures.into_iter_gives in
    let t = YieldsList-turn all c.loop-k.yielded _ c.loop-k.yielded_by _ _ (c.in-Some.k, c.in-Some.word) c.in-Some.is c.next.ensures.steps in
    let i = item_at line 1 (length c.loop-k.yielded) _ _ t in
    let p = err_from_is_err_and c.from_residual.result c.from_residual.ensures.1 in
    rw (p.1, p.2) (sym (filled-stop c.loop-k.invariant few _ i.0 (c.in_err-percentages.ensures ∙ i.2)))

pub loop-k-preserved : goal.loop-k-preserved
loop-k-preserved c =
    let line = c.args.line.now in
    let few : length (texts line) ≤ 17 = rw length_texts (omega arith) in
    let all = indexed line 1 c.iter.ensures.rest (c.enumerate.ensures.source, c.enumerate.ensures.count) (c.skip-k-items.ensures.source, c.skip-k-items.ensures.count) c.into_iter-k-iterator.ensures.into_iter_gives in
    let t = YieldsList-turn all c.loop-k.yielded _ c.loop-k.yielded_by _ _ (c.in-Some.k, c.in-Some.word) c.in-Some.is c.next.ensures.steps in
    let i = item_at line 1 (length c.loop-k.yielded) _ _ t in
    let next : 1 + length (c.loop-k.yielded ++ (c.in-Some.k, c.in-Some.word) ∷ []) ≡ 1 + length c.loop-k.yielded + 1 = omega (arith, length_push c.loop-k.yielded (c.in-Some.k, c.in-Some.word)) in
    rw (next, i.1) (filled_more c.loop-k.invariant few _ i.0 (c.in_ok-percentages.ensures ∙ i.2))

pub returns : goal.returns
returns c =
    let line = c.args.line.now in
    let few : length (texts line) ≤ 17 = rw length_texts (omega arith) in
    let all = indexed line 1 c.iter.ensures.rest (c.enumerate.ensures.source, c.enumerate.ensures.count) (c.skip-k-items.ensures.source, c.skip-k-items.ensures.count) c.into_iter-k-iterator.ensures.into_iter_gives in
    let t = YieldsList-end all c.loop-k.yielded _ c.loop-k.yielded_by _ _ c.in-None.is c.next.ensures.steps in
    let past : length (texts line) ≤ 1 + length c.loop-k.yielded = omega (arith, t.1, length-indexed line 1) in
    sym (filled-all c.loop-k.invariant few past)
