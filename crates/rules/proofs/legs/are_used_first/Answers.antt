use Rattle.std.proofs.Common.{not, ◌∙◌, rules}
use Rattle.std.proofs.lemmas.Iterator.{YieldsList-from_slice}
use Rattle.std.proofs.lemmas.Iterator.Adapters.{YieldsList-from_skip_while}
use Rattle.std.proofs.lemmas.Iterator.Search.{all_from_yields_List}
use Rattle.rules.specs.Legs.{used}
use Rattle.rules.proofs.Chains.{first_all}
use Rattle.rules.proofs.legs.are_used_first.Goals as goal

pub returns : goal.returns
returns c =
    all_from_yields_List (λ leg. not (used leg)) _ _ _ c.all.ensures.ran
    (YieldsList-from_skip_while _ _ _ used _ (λ x b q k. search rules) (YieldsList-from_slice c.args.legs.now (cc)) c.skip_while.ensures.closure c.skip_while.ensures.done_skipping)
    (λ x b q k. search rules)
    ∙ first_all c.args.legs.now
