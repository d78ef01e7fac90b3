-- How a denial's layer and place are written.
use Rattle.std.specs.Prelude.{ℕ, List, [], ◌++◌, codes, decimal}
use Rattle.terms.specs.declared.denial.Layer.{Layer}
use Rattle.terms.specs.declared.denial.Layer.TheVariants.{Text, Sheet, Book}
use Rattle.terms.specs.declared.denial.Place.{Place}
use Rattle.terms.specs.declared.denial.Place.TheVariants.{Nowhere, Number, Leg}

abbrev pub layer_text : Layer → List ℕ
layer_text Text = codes "text"
layer_text Sheet = codes "sheet"
layer_text Book = codes "book"

-- nothing where there is no place
abbrev pub place_text : Place → List ℕ
place_text Nowhere = []
place_text (Number n) = codes " at " ++ decimal n
place_text (Leg line leg) = codes " at " ++ (decimal line ++ (codes " " ++ decimal leg))
