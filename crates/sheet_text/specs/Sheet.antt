-- The text of a sheet: one rendering, which reading and writing are held to.
use Rattle.std.specs.Prelude.{◌≡◌, ℕ, ◌^◌, ◌<◌, cond, List, [], ◌∷◌, ◌++◌, length, replicate, ◌==◌}
use Rattle.std.specs.List.{flat_map}
use Rattle.terms.specs.declared.strategy.Leg.{Leg}
use Rattle.terms.specs.declared.strategy.Line.{Line}
use Rattle.sheet_text.specs.Columns.{column}
use Rattle.sheet_text.specs.Letters.{kind_letter}

-- a leg: its row in 3 columns and its lots in 6, or nine spaces where it is unused
abbrev pub leg_text : Leg → List ℕ
leg_text l = cond (l.lots == 0) (replicate 9 32) (column 3 l.row ++ column 6 l.lots)

-- a strategy: its letter, its legs and a line feed
abbrev pub line_text : Line → List ℕ
line_text l = kind_letter l.kind ∷ (flat_map leg_text l.legs ++ (10 ∷ []))

-- a head: H, the day in 8 columns, 28 spaces and a line feed
abbrev pub head_text : ℕ → List ℕ
head_text day = 72 ∷ (column 8 day ++ (replicate 28 32 ++ (10 ∷ [])))

-- a trailer: T, the number of strategies in 8 columns, 28 spaces and a line feed
abbrev pub trailer_text : ℕ → List ℕ
trailer_text n = 84 ∷ (column 8 n ++ (replicate 28 32 ++ (10 ∷ [])))

-- a sheet: its head, its strategies and its trailer
abbrev pub render : ℕ → List Line → List ℕ
render day lines = head_text day ++ (flat_map line_text lines ++ trailer_text (length lines))

-- a leg that its columns can show: an unused one has row 0
pub record LegFits (l : Leg) : Type 0 where
  pub row_fits : l.row < 10 ^ 3
  pub lots_fit : l.lots < 10 ^ 6
  pub unused : l.lots ≡ 0 → l.row ≡ 0

-- a line of four such legs
pub record LineFits (l : Line) : Type 0 where
  pub leg_1 : Leg
  pub leg_2 : Leg
  pub leg_3 : Leg
  pub leg_4 : Leg
  pub legs_are : l.legs ≡ leg_1 ∷ leg_2 ∷ leg_3 ∷ leg_4 ∷ []
  pub fit_1 : LegFits leg_1
  pub fit_2 : LegFits leg_2
  pub fit_3 : LegFits leg_3
  pub fit_4 : LegFits leg_4
