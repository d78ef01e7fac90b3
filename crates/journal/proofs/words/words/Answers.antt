use Rattle.std.proofs.Common.{◌≡◌, vec_items, rules, tests}
use Rattle.std.proofs.lemmas.Result.{IfOk-weaker}
use Rattle.std.proofs.lemmas.Iterator.Consumers.{map_from_collect, YieldsList-from_filter, YieldsList-at}
use Rattle.std.proofs.lemmas.Iterator.Splits.{YieldsList-from_slice_split}
use Rattle.journal.specs.Words.{words_of, texts}
use Rattle.journal.proofs.Cuts.{cuts}
use Rattle.journal.proofs.words.words.Goals as goal

pub returns : goal.returns
returns c =
    let value =
    map_from_collect _ c.collect.ensures.ran
    (YieldsList-from_filter _ _
    (YieldsList-at c.filter.ensures.source (YieldsList-from_slice_split _ _ c.args.line.now c.split.ensures.rest c.split.ensures.done c.split.ensures.closure (λ x r q k. search (rules, tests))))
    c.filter.ensures.closure (λ x r q k. search (rules, tests))) in
    record {
      value = value;
      cuts = IfOk-weaker _ _ _ (λ v (e : texts (vec_items v) ≡ words_of c.args.line.now). rw e (cuts c.args.line.now)) value;
    }
