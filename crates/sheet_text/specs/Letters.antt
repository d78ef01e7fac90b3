-- The letters that records begin with.
use Rattle.std.specs.Prelude.{ℕ, cond, Some, None, Option, ◌==◌}
use Rattle.terms.specs.declared.strategy.Kind.{Kind}
use Rattle.terms.specs.declared.strategy.Kind.TheVariants.{Opposed, BoughtButterfly, SoldButterfly, SoldCone, Covered, TermPurchase, TermSale}
use Rattle.sheet_text.specs.declared.letters.Sort.{Sort}
use Rattle.sheet_text.specs.declared.letters.Sort.TheVariants as sort

-- the letter of a strategy: O, M, V, C, K, F, G
abbrev pub kind_letter : Kind → ℕ
kind_letter Opposed = 79
kind_letter BoughtButterfly = 77
kind_letter SoldButterfly = 86
kind_letter SoldCone = 67
kind_letter Covered = 75
kind_letter TermPurchase = 70
kind_letter TermSale = 71

-- the letter of a record: H for a head, T for a trailer
abbrev pub sort_letter : Sort → ℕ
sort_letter sort.Head = 72
sort_letter (sort.Strategy k) = kind_letter k
sort_letter sort.Trailer = 84

-- what a letter stands for, if it is a record's
abbrev pub sort_of : ℕ → Option Sort
sort_of b =
    cond (b == 72) (Some sort.Head)
    (cond (b == 84) (Some sort.Trailer)
    (cond (b == 79) (Some (sort.Strategy Opposed))
    (cond (b == 77) (Some (sort.Strategy BoughtButterfly))
    (cond (b == 86) (Some (sort.Strategy SoldButterfly))
    (cond (b == 67) (Some (sort.Strategy SoldCone))
    (cond (b == 75) (Some (sort.Strategy Covered))
    (cond (b == 70) (Some (sort.Strategy TermPurchase))
    (cond (b == 71) (Some (sort.Strategy TermSale)) None))))))))
