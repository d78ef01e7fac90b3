-- The legs of a strategy: what stands where there is none, and which are written.
use Rattle.std.specs.Prelude.{ℕ, Bool, ◌||◌, List, ◌==◌, slice_index_or}
use Rattle.terms.specs.declared.strategy.Leg.{Leg}
use Rattle.terms.specs.declared.strategy.Kind.{Kind}
use Rattle.terms.specs.declared.strategy.Kind.TheVariants.{Opposed, BoughtButterfly, SoldButterfly, SoldCone, Covered, TermPurchase, TermSale}

-- a leg that is not used
abbrev pub no_leg : Leg
no_leg = record { row = 0; lots = 0 }

-- the leg of an index
abbrev pub leg_at : List Leg → ℕ → Leg
leg_at legs i = slice_index_or legs i no_leg

-- whether the lots of a leg are written ones; those of every other leg are held
abbrev pub writes : Kind → ℕ → Bool
writes Opposed leg = leg == 0
writes BoughtButterfly leg = leg == 1
writes SoldButterfly leg = leg == 0 || leg == 2
writes SoldCone leg = leg == 0 || leg == 1
writes Covered leg = leg == 0
writes TermPurchase leg = leg == 0
writes TermSale leg = leg == 1
