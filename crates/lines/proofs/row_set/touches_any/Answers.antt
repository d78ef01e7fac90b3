use Rattle.std.proofs.Common.{rules}
use Rattle.std.proofs.lemmas.Iterator.{YieldsList-from_slice}
use Rattle.std.proofs.lemmas.Iterator.Search.{any_from_yields_List}
use Rattle.lines.specs.Lots.{takes}
use Rattle.lines.proofs.row_set.touches_any.Goals as goal

pub returns : goal.returns
returns g c = λ has decides.
    any_from_yields_List (takes has) c.any.new.self _ c.any.result c.any.ensures.ran (YieldsList-from_slice c.args.legs.now c.iter.ensures.rest) (λ x b q k. search rules)
