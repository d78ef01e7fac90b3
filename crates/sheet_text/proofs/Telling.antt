-- What a field, a leg, a line or a count tells that is refused.
use Rattle.std.proofs.Common.{◌≡◌, ℕ, ◌+◌, ◌<◌, Bool, true, false, eqb, ltb, ◌⊎◌, List, length, take, replicate, Some, None, Ok, Err, Option, Result, sym, refl, ap, ◌∙◌, subst, inl, inr, ⊎_elim, arith, length-take}
use Rattle.std.specs.List.{between}
use Rattle.std.proofs.lemmas.Bool.{cond-true, cond-false, eqb-false, ltb-false, cases_Bool}
use Rattle.terms.specs.declared.strategy.Kind.{Kind}
use Rattle.sheet_text.specs.Brought.{Brought}
use Rattle.sheet_text.specs.declared.fault.TextFault.{TextFault}
use Rattle.sheet_text.specs.declared.fault.TextFault.TheVariants.{IllFormed, Differs}
use Rattle.sheet_text.specs.Columns.{blank, field_of}
use Rattle.sheet_text.specs.Records.{strategy, Wide}
use Rattle.sheet_text.specs.Reading.{and_then, leg_from, leg_of, line_of, count_is}
use Rattle.sheet_text.specs.Told.{Shows, ShowsNone, LegShown, LegIll, FirstIll}
use Rattle.sheet_text.proofs.Laws.{field_is, field-column, leg-sound}
use Rattle.sheet_text.proofs.Blanks.{blank-spaces, spaces-blank}

-- fields ------------------------------------------------------------------

pub shows-none : (w : ℕ) (f : List ℕ) → 0 < w → field_of f ≡ None → ShowsNone w f
shows-none w f p e n s = let a = ap field_of s.is ∙ field-column w n p s.fits in let z : ◌≡◌ {A = ℕ} 0 1 = cc in omega arith

pub shows-some : (w : ℕ) (f : List ℕ) (n : ℕ) → 0 < w → length f ≡ w → field_of f ≡ Some n → Shows w f n
shows-some w f n p l e = let x = field_is f w n l p e in record { fits = x.1; is = x.0 }

pub no-spaces : (f : List ℕ) (k : ℕ) → blank f ≡ false → f ≡ replicate k 32 → ⊥
no-spaces f k e s = let a = ap blank s ∙ blank-spaces k in let z : ◌≡◌ {A = ℕ} 0 1 = cc in omega arith

pub all-spaces : (f : List ℕ) (k : ℕ) → length f ≡ k → blank f ≡ true → f ≡ replicate k 32
all-spaces f k l e = spaces-blank f e ∙ ap (λ (n : ℕ). replicate n 32) l

-- what a leg, a line or a count that is refused tells, for any statement P of its fault
module _ (P : TextFault → Type 0) where
  leg-from : (at : ℕ) (o q : Option ℕ) (e : TextFault) → (o ≡ None → P (IllFormed at)) → ((r : ℕ) → o ≡ Some r → ((n : ℕ) → 0 < n → q ≡ Some n → ⊥) → P (IllFormed (at + 3))) →
      leg_from at o q ≡ Err e → P e
  leg-from at None q e a b h = let x : IllFormed at ≡ e = cc in subst P x (a refl)
  leg-from at (Some r) None e a b h = let x : IllFormed (at + 3) ≡ e = cc in subst P x (b r refl (λ n p k. let z : ◌≡◌ {A = ℕ} 0 1 = cc in omega arith))
  leg-from at (Some r) (Some m) e a b h = ⊎_elim
      (λ t. absurd (let c = sym h ∙ cond-true (ltb 0 m) _ _ t in let z : ◌≡◌ {A = ℕ} 0 1 = cc in omega arith))
      (λ t. let c : Err e ≡ Err (IllFormed (at + 3)) = sym h ∙ cond-false (ltb 0 m) _ _ t in
      let x : IllFormed (at + 3) ≡ e = cc in
      let le = ltb-false 0 m t in
      subst P x (b r refl (λ n p k. let y : m ≡ n = cc in omega arith)))
      (cases_Bool (ltb 0 m))

  pub leg-told : (at : ℕ) (f : List ℕ) (e : TextFault) → length f ≡ 9 → ((p : ℕ) → LegIll at f p → P (IllFormed p)) → leg_of at f ≡ Err e → P e
  leg-told at f e w k h = ⊎_elim
      (λ t. absurd (let c = sym h ∙ cond-true (blank f) _ _ t in let z : ◌≡◌ {A = ℕ} 0 1 = cc in omega arith))
      (λ t. let g : leg_from at (field_of (take 3 f)) (field_of (between 3 9 f)) ≡ Err e = sym (cond-false (blank f) _ _ t) ∙ h in
      let wa : length (take 3 f) ≡ 3 = simp length-take (omega arith) in
      leg-from at (field_of (take 3 f)) (field_of (between 3 9 f)) e
      (λ none. k at (no-spaces f 9 t, inl (refl, shows-none 3 (take 3 f) (omega arith) none)))
      (λ r some no. k (at + 3) (
        no-spaces f 9 t,
        inr (
          refl,
          (r, shows-some 3 (take 3 f) r (omega arith) wa some),
          λ n pos s. no n pos (ap field_of s.is ∙ field-column 6 n (omega arith) s.fits),
        ),
      ))
      g)
      (cases_Bool (blank f))

  pub count-told : (at n : ℕ) (o : Option ℕ) (b : Bool) (s : Brought) (e : TextFault) → (o ≡ None → P (IllFormed (at + 1))) → ((m : ℕ) → o ≡ Some m → b ≡ false → P (IllFormed (at + 9))) →
      ((m : ℕ) → o ≡ Some m → b ≡ true → (m ≡ n → ⊥) → P (Differs (at + 1))) → count_is at n o b s ≡ Err e → P e
  count-told at n None b s e x y z h = let q : IllFormed (at + 1) ≡ e = cc in subst P q (x refl)
  count-told at n (Some m) false s e x y z h = let q : IllFormed (at + 9) ≡ e = cc in subst P q (y m refl refl)
  count-told at n (Some m) true s e x y z h = ⊎_elim
      (λ t. absurd (let c = sym h ∙ cond-true (eqb m n) _ _ t in let z : ◌≡◌ {A = ℕ} 0 1 = cc in omega arith))
      (λ t. let c : Err e ≡ Err (Differs (at + 1)) = sym h ∙ cond-false (eqb m n) _ _ t in
      let q : Differs (at + 1) ≡ e = cc in
      subst P q (z m refl refl (eqb-false m n t)))
      (cases_Bool (eqb m n))

and-err : {A B E : Type 0} (x : Result A E) (f : A → Result B E) (e : E) → and_then x f ≡ Err e → (x ≡ Err e) ⊎ ((a : A) × (x ≡ Ok a) × (f a ≡ Err e))
and-err (Ok a) f e h = inr (a, refl, h)
and-err (Err r) f e h = inl (let q : r ≡ e = cc in ap Err q)

module _ (P : TextFault → Type 0) where
  pub line-told : (at : ℕ) (k : Kind) (f g h i : List ℕ) (e : TextFault) → Wide (strategy k f g h i) →
      ((p : ℕ) → FirstIll (at + 1) f p (FirstIll (at + 10) g p (FirstIll (at + 19) h p (FirstIll (at + 28) i p ⊥))) → P (IllFormed p)) → line_of at k f g h i ≡ Err e → P e
  line-told at k f g h i e w t er = ⊎_elim
      (λ x. leg-told P (at + 1) f e w.0 (λ p ill. t p (inl ill)) x)
      (λ a. let sa : LegShown f = (let s = leg-sound (at + 1) f a.0 w.0 a.1 in (a.0, s.1, s.0)) in ⊎_elim
      (λ x. leg-told P (at + 10) g e w.1 (λ p ill. t p (inr (sa, inl ill))) x)
      (λ b. let sb : LegShown g = (let s = leg-sound (at + 10) g b.0 w.1 b.1 in (b.0, s.1, s.0)) in ⊎_elim
      (λ x. leg-told P (at + 19) h e w.2 (λ p ill. t p (inr (sa, inr (sb, inl ill)))) x)
      (λ c. let sc : LegShown h = (let s = leg-sound (at + 19) h c.0 w.2 c.1 in (c.0, s.1, s.0)) in ⊎_elim
      (λ x. leg-told P (at + 28) i e w.3 (λ p ill. t p (inr (sa, inr (sb, inr (sc, inl ill))))) x)
      (λ d. absurd (let y = d.2 in let z : ◌≡◌ {A = ℕ} 0 1 = cc in omega arith))
      (and-err (leg_of (at + 28) i) _ e c.2))
      (and-err (leg_of (at + 19) h) _ e b.2))
      (and-err (leg_of (at + 10) g) _ e a.2))
      (and-err (leg_of (at + 1) f) _ e er)
