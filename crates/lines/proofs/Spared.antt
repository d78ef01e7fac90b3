-- What `retain` keeps, where its closure lets so many elements pass first.
use Rattle.std.proofs.Common.{◌≡◌, ℕ, zero, suc, ◌-◌, Bool, true, cond, ◌||◌, ltb, List, [], ◌∷◌, ◌++◌, take, drop, filter, subst, ap, ◌∙◌, arith}
use Rattle.std.proofs.lemmas.Bool.{lt-ltb}
use Rattle.std.specs.List.Retain.{RetainsInTurn}

module _ {X F : Type 0} (R : F → X → Bool → F → X → Type 0) (test : X → Bool) (state : ℕ → F)
    (says : (n : ℕ) (x : X) (b : Bool) (f : F) (y : X) → R (state n) x b f y → (b ≡ (ltb 0 n || test x)) × (f ≡ state (n - 1)) × (y ≡ x)) where
  pub kept_from : (n : ℕ) (xs ys : List X) → RetainsInTurn R (state n) xs ys → ys ≡ take n xs ++ filter test (drop n xs)
  kept_from zero [] ys h = h
  kept_from (suc n) [] ys h = h
  kept_from zero (x ∷ xs) ys h =
      let said = says zero x h.0 h.1 h.2 h.3 in
      let later = subst (λ g. RetainsInTurn R g xs h.4) said.1 h.5 in
      let rest = kept_from zero xs h.4 later in
      h.6 ∙ (λ i. cond (said.0 i) (said.2 i ∷ rest i) (rest i))
  kept_from (suc n) (x ∷ xs) ys h =
      let said = says (suc n) x h.0 h.1 h.2 h.3 in
      let stays : h.0 ≡ true = said.0 ∙ ap (λ b. b || test x) (lt-ltb 0 (suc n) (omega arith)) in
      let next : suc n - 1 ≡ n = omega arith in
      let later = subst (λ g. RetainsInTurn R g xs h.4) (said.1 ∙ ap state next) h.5 in
      let rest = kept_from n xs h.4 later in
      h.6 ∙ (λ i. cond (stays i) (said.2 i ∷ rest i) (rest i))
