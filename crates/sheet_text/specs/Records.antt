-- The fields of a record.
use Rattle.std.specs.Prelude.{◌≡◌, ℕ, cond, List, [], map, length, Some, None, Ok, Err, Option, Result, ◌==◌, nat_lt, slice_index, slice_index_or}
use denote.Ref.{Bor}
use Rattle.std.specs.List.{between}
use Rattle.terms.specs.declared.strategy.Kind.{Kind}
use Rattle.sheet_text.specs.declared.letters.Sort.{Sort}
use Rattle.sheet_text.specs.declared.letters.Sort.TheVariants as sort
use Rattle.sheet_text.specs.declared.records.Record.{Record}
use Rattle.sheet_text.specs.declared.records.Record.TheVariants as rec
use Rattle.sheet_text.specs.declared.fault.TextFault.{TextFault}
use Rattle.sheet_text.specs.declared.fault.TextFault.TheVariants.{BrokenRecord, UnknownLetter}
use Rattle.sheet_text.specs.Letters.{sort_of}

-- a record by what its fields hold: a number and 28 spaces, or a kind and four legs
pub data Shape : Type 0 where
  head : List ℕ → List ℕ → Shape
  strategy : Kind → List ℕ → List ℕ → List ℕ → List ℕ → Shape
  trailer : List ℕ → List ℕ → Shape

-- what the i-th of some parts of a text holds
abbrev pub part : List (Bor (List ℕ)) → ℕ → List ℕ
part parts i = slice_index_or (map (λ p. p.now) parts) i []

-- what the parts of a text hold that a record is cut into
abbrev pub shape_of : Record → Shape
shape_of (rec.Head f) = head f.number.now f.spaces.now
shape_of (rec.Strategy kind a b c d) = strategy kind a.now b.now c.now d.now
shape_of (rec.Trailer f) = trailer f.number.now f.spaces.now

-- the same of an answer
abbrev pub shape_ok : Result Record TextFault → Result Shape TextFault
shape_ok (Ok r) = Ok (shape_of r)
shape_ok (Err e) = Err e

-- the fields of a whole record at `at`, by what its letter stands for
abbrev pub cut : ℕ → List ℕ → Option Sort → Result Shape TextFault
cut at bs None = Err (UnknownLetter at)
cut at bs (Some sort.Head) = Ok (head (between 1 9 bs) (between 9 37 bs))
cut at bs (Some (sort.Strategy k)) = Ok (strategy k (between 1 10 bs) (between 10 19 bs) (between 19 28 bs) (between 28 37 bs))
cut at bs (Some sort.Trailer) = Ok (trailer (between 1 9 bs) (between 9 37 bs))

-- the record at the front of what is left of a text: 38 bytes with a line feed at the last, or broken
abbrev pub record_of : ℕ → List ℕ → Result Shape TextFault
record_of at bs = cond (nat_lt (length bs) 38) (Err (BrokenRecord at)) (cond (slice_index bs 37 == 10) (cut at bs (sort_of (slice_index bs 0))) (Err (BrokenRecord at)))

-- the widths of a record's fields
abbrev pub Wide : Shape → Type 0
Wide (head f b) = (length f ≡ 8) × (length b ≡ 28)
Wide (strategy k f g h i) = (length f ≡ 9) × (length g ≡ 9) × (length h ≡ 9) × (length i ≡ 9)
Wide (trailer f b) = (length f ≡ 8) × (length b ≡ 28)

-- the same of an answer
abbrev pub WideOk : Result Record TextFault → Type 0
WideOk (Ok r) = Wide (shape_of r)
WideOk (Err e) = Unit {0}
