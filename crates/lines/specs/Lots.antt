-- Which lots of a row strategy lines group.
use Rattle.std.specs.Prelude.{ℕ, ◌≡◌, ◌+◌, ◌^◌, ◌<◌, ◌≤◌, Bool, cond, not, ◌&&◌, List, [], ◌∷◌, ℤ, sum_by, count_by, ◌==◌, nat_eq, nat_le, nat_lt}
use Rattle.std.specs.List.{list_any}
use borrow.Author.Differences.{up, down}
use Rattle.terms.specs.declared.strategy.Kind.{Kind}
use Rattle.terms.specs.declared.strategy.Leg.{Leg}
use Rattle.terms.specs.declared.strategy.Line.{Line}
use Rattle.terms.specs.Sides as sides
use Rattle.lines.specs.declared.lots.Lots.{Lots}

-- a sum over legs, the first of which has the index i
abbrev pub leg_sum : (ℕ → Leg → ℕ) → ℕ → List Leg → ℕ
leg_sum f i [] = 0
leg_sum f i (leg ∷ legs) = f i leg + leg_sum f (i + 1) legs

-- the lots of a row that the leg of index i holds
abbrev pub held_leg : Kind → ℕ → ℕ → Leg → ℕ
held_leg kind row i leg = cond (not (sides.writes kind i) && leg.row == row) leg.lots 0

-- the lots of a row that the leg of index i writes
abbrev pub written_leg : Kind → ℕ → ℕ → Leg → ℕ
written_leg kind row i leg = cond (sides.writes kind i && leg.row == row) leg.lots 0

-- the lots of a row that a line holds
abbrev pub holds : ℕ → Line → ℕ
holds row line = leg_sum (held_leg line.kind row) 0 line.legs

-- the lots of a row that a line writes
abbrev pub writes : ℕ → Line → ℕ
writes row line = leg_sum (written_leg line.kind row) 0 line.legs

-- the lots of a row that are held in lines
abbrev pub held : ℕ → List Line → ℕ
held row lines = sum_by (holds row) lines

-- the lots of a row that are written in lines
abbrev pub written : ℕ → List Line → ℕ
written row lines = sum_by (writes row) lines

-- lots held and written lie within a net, on its side
abbrev pub fits : ℤ → ℕ → ℕ → Bool
fits net held written = nat_le held (up net) && nat_le written (down net)

-- the lots of a row in lines lie within its net, on its side
abbrev pub fitting : ℕ → ℤ → List Line → Bool
fitting row net lines = fits net (held row lines) (written row lines)

-- neither lots held nor lots written are above a bound
abbrev pub AtMost : ℕ → Lots → Type 0
AtMost most lots = (lots.held ≤ most) × (lots.written ≤ most)

-- a leg is used, and has a row of the set
abbrev pub takes : (ℕ → Bool) → Leg → Bool
takes has leg = nat_lt 0 leg.lots && has leg.row

-- one of the legs is used and has a row of the set
abbrev pub touches : (ℕ → Bool) → List Leg → Bool
touches has legs = list_any (takes has) legs

-- what a closure answers of each row is whether it is in the set
abbrev pub Computes : (ℕ → Bool → Type 0) → (ℕ → Bool) → Type 0
Computes answers has = (row : ℕ) → row < 2 ^ 32 → (b : Bool) → answers row b → b ≡ has row

-- a line uses a row of the set
abbrev pub uses_any : (ℕ → Bool) → Line → Bool
uses_any has line = touches has line.legs

-- a line uses the row
abbrev pub uses : ℕ → Line → Bool
uses row line = uses_any (λ r. nat_eq r row) line

-- how many lines use the row
abbrev pub users : ℕ → List Line → ℕ
users row lines = count_by (uses row) lines
