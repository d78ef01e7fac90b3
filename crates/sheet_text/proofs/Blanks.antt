-- Fields that hold spaces alone.
use Rattle.std.proofs.Common.{◌≡◌, ℕ, zero, suc, true, false, List, [], ◌∷◌, length, replicate, sym, refl, ◌∙◌, ⊎_elim, arith}
use Rattle.std.proofs.lemmas.Bool.{eq-eqb, ne_eqb, cases_eq}
use Rattle.sheet_text.specs.Columns.{blank}

pub blank-spaces : (k : ℕ) → blank (replicate k 32) ≡ true
blank-spaces zero = refl
blank-spaces (suc k) = blank-spaces k

pub spaces-blank : (f : List ℕ) → blank f ≡ true → f ≡ replicate (length f) 32
spaces-blank [] e = refl
spaces-blank (b ∷ bs) e = ⊎_elim
    (λ y. let c : blank (b ∷ bs) ≡ blank bs = rw (eq-eqb b 32 y) in let h = spaces-blank bs (sym c ∙ e) in rw (y, ← h))
    (λ n. absurd (let c : blank (b ∷ bs) ≡ false = rw (ne_eqb b 32 n) in let z : ◌≡◌ {A = ℕ} 0 1 = cc in omega arith))
    (cases_eq b 32)
