-- A line that obeys every rule.
use Rattle.std.specs.Prelude.{◌≡◌, ℕ, ◌<◌, true, false, List, length, Ok, count_by, Result, ◌≢◌}
use Rattle.std.specs.List.{All}
use Rattle.terms.specs.declared.holdings.Security.{Security}
use Rattle.terms.specs.declared.holdings.Row.{Row}
use Rattle.terms.specs.declared.strategy.Line.{Line}
use Rattle.terms.specs.Sides.{writes, leg_at}
use Rattle.denials.specs.declared.sheet.LineFault.{LineFault}
use Rattle.denials.specs.declared.sheet.SheetFault.{SheetFault}
use Rattle.rules.specs.Legs.{row_of, contract_of, used}
use Rattle.rules.specs.Sorts.{of_one_type, right_sort, ends_before}
use Rattle.rules.specs.Rules.{right_number, right_class, right_lots, right_strikes}

-- a leg of a line is used
abbrev pub Used : Line → ℕ → Type 0
Used line i = used (leg_at line.legs i) ≡ true

pub record Lawful (rows : List Row) (securities : List Security) (line : Line) : Type 0 where
  -- each used leg names a row that is listed
  pub listed : (i : ℕ) → Used line i → (leg_at line.legs i).row < length rows
  -- as many legs are used as the kind has
  pub number : right_number line.kind (count_by used line.legs) ≡ true
  -- the used legs come first
  pub first : (i j : ℕ) → i < j → Used line j → Used line i
  -- each used leg is of the sort that its kind names
  pub sorts : (i : ℕ) → Used line i → right_sort line.kind (contract_of rows (leg_at line.legs 0)) i (contract_of rows (leg_at line.legs i)) ≡ true
  -- no two used legs have one row
  pub apart : (i j : ℕ) → i < j → Used line i → Used line j → (leg_at line.legs i).row ≢ (leg_at line.legs j).row
  -- the used legs are on one security
  pub together : (i : ℕ) → Used line i → (row_of rows (leg_at line.legs i)).security ≡ (row_of rows (leg_at line.legs 0)).security
  -- the security's class admits the kind, with leg 0's option type
  pub class : right_class line.kind line.legs rows securities ≡ true
  -- the lots match
  pub lots : right_lots line.kind line.legs ≡ true
  -- among options of one type, no held leg ends before a written one
  pub days : of_one_type line.kind ≡ true → (i j : ℕ) → Used line i → Used line j → writes line.kind i ≡ false → writes line.kind j ≡ true
      → ends_before (contract_of rows (leg_at line.legs i)) (contract_of rows (leg_at line.legs j)) ≡ false
  -- the strikes obey the rule of the kind
  pub strikes : right_strikes line.kind line.legs rows ≡ true

-- a line passes exactly if it obeys every rule
abbrev pub PassesLawful : List Row → List Security → Line → Result (Unit {0}) LineFault → Type 0
PassesLawful rows securities line r = (r ≡ Ok tt → Lawful rows securities line) × (Lawful rows securities line → r ≡ Ok tt)

-- a sheet passes exactly if each of its lines obeys every rule
abbrev pub PassesAllLawful : List Row → List Security → List Line → Result (Unit {0}) SheetFault → Type 0
PassesAllLawful rows securities lines r = (r ≡ Ok tt → All (Lawful rows securities) lines) × (All (Lawful rows securities) lines → r ≡ Ok tt)
