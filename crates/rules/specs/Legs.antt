-- What a leg and its row are, in tables of rows and securities.
use Rattle.std.specs.Prelude.{ℕ, ◌+◌, Bool, true, cond, not, ◌&&◌, List, [], ◌∷◌, get_or, is_some, Some, None, Option, nat_lt}
use Rattle.terms.specs.declared.holdings.Class.{Class}
use Rattle.terms.specs.declared.holdings.Security.{Security}
use Rattle.terms.specs.declared.holdings.Contract.{Contract}
use Rattle.terms.specs.declared.holdings.Row.{Row}
use Rattle.terms.specs.declared.strategy.Leg.{Leg}
use Rattle.terms.specs.Holdings.{no_security}
use Rattle.terms.specs.Listings.{row_at, contract_at}

-- the row that a leg names
abbrev pub row_of : List Row → Leg → Row
row_of rows leg = row_at rows leg.row

-- what the lots of a leg are lots of
abbrev pub contract_of : List Row → Leg → Contract
contract_of rows leg = contract_at rows leg.row

-- the class of a security
abbrev pub class_at : List Security → ℕ → Class
class_at securities i = (get_or securities i no_security).class

-- the class of the security that a leg's row is on
abbrev pub class_of : List Row → List Security → Leg → Class
class_of rows securities leg = class_at securities (row_of rows leg).security

-- a leg is used: it has lots
abbrev pub used : Leg → Bool
used leg = nat_lt 0 leg.lots

-- the first used leg of which something is so, where the first of the legs has the index i
abbrev pub first_leg : (ℕ → Leg → Bool) → ℕ → List Leg → Option ℕ
first_leg is i [] = None
first_leg is i (leg ∷ legs) = cond (used leg && is i leg) (Some i) (first_leg is (i + 1) legs)

-- something is so of some used leg
abbrev pub some_leg : (ℕ → Leg → Bool) → List Leg → Bool
some_leg is legs = is_some (first_leg is 0 legs)

-- no leg is used
abbrev pub none_used : List Leg → Bool
none_used [] = true
none_used (leg ∷ legs) = not (used leg) && none_used legs

-- the used legs come first: none comes after a leg that is not used
abbrev pub used_first : List Leg → Bool
used_first [] = true
used_first (leg ∷ legs) = cond (used leg) (used_first legs) (none_used legs)
