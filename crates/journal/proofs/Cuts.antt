-- The law of `words_of`.
use Rattle.std.proofs.Common.{◌≡◌, ℕ, zero, suc, true, false, eqb, List, [], ◌∷◌, refl, ⊎_elim, arith}
use Rattle.std.specs.Str.Iter.{LacksByte}
use Rattle.std.specs.List.{slice_split, onto_first, AllByRecursion}
use Rattle.std.proofs.lemmas.List.Splits.{join_with_byte-slice_split}
use Rattle.std.proofs.lemmas.Bool.{cases_Bool, eqb-false}
use Rattle.journal.specs.Words.{words_of, Cuts}

lacks-more : (b : ℕ) (part : List ℕ) → (b ≡ 32 → ⊥) → LacksByte 32 part → LacksByte 32 (b ∷ part)
lacks-more b part other lacks zero h e = other e
lacks-more b part other lacks (suc k) h e = lacks k (omega arith) e

apart-first : (b : ℕ) (parts : List (List ℕ)) → (b ≡ 32 → ⊥) → AllByRecursion (λ part. LacksByte 32 part) parts → AllByRecursion (λ part. LacksByte 32 part) (onto_first b parts)
apart-first b [] other apart = (lacks-more b [] other (λ k h. absurd (omega arith)), tt)
apart-first b (part ∷ parts) other apart = (lacks-more b part other apart.0, apart.1)

apart : (line : List ℕ) → AllByRecursion (λ part. LacksByte 32 part) (slice_split (λ b. eqb b 32) line)
apart [] = (λ k h. absurd (omega arith), tt)
apart (b ∷ line) =
    ⊎_elim
    (λ (e : eqb b 32 ≡ true). simp e (λ k h. absurd (omega arith), apart line))
    (λ (e : eqb b 32 ≡ false). simp e (apart-first b (slice_split (λ b. eqb b 32) line) (eqb-false b 32 e) (apart line)))
    (cases_Bool (eqb b 32))

pub cuts : (line : List ℕ) → Cuts (words_of line) line
cuts line = record { parts = slice_split (λ b. eqb b 32) line; whole = join_with_byte-slice_split 32 line; apart = apart line; kept = refl }
