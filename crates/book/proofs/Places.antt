-- What stands at each place of a list that was pushed to.
use Rattle.std.proofs.Common.{◌≡◌, ℕ, ◌-◌, List, [], ◌∷◌, ◌++◌, length, get_or, sym, refl, ◌∙◌, ⊎_elim, arith}
use Rattle.std.proofs.lemmas.List.{get_or_append_left, get_or-append_right, get_or_past}
use Rattle.std.proofs.lemmas.Bool.{cases_lt}

pub push-other : {X : Type 0} (xs : List X) (y d : X) (i : ℕ) → (length xs ≡ i → ⊥) → get_or (xs ++ y ∷ []) i d ≡ get_or xs i d
push-other xs y d i ne =
    ⊎_elim (λ lt. get_or_append_left xs (y ∷ []) d i lt)
    (λ le. get_or-append_right xs (y ∷ []) (length xs) i d refl le ∙ (get_or_past (y ∷ []) (i - length xs) d (omega (arith, ne)) ∙ sym (get_or_past xs i d le)))
    (cases_lt i (length xs))
