-- What is read of what is written, and the other way round: letters, legs, records.
use Rattle.std.proofs.Common.{◌≡◌, ℕ, ◌-◌, ◌^◌, ◌<◌, false, cond, eqb, ltb, List, ◌++◌, length, take, drop, replicate, Some, None, Ok, Option, sym, refl, ap, ◌∙◌, subst, ⊎_elim, arith, length-append, length-drop, length-take}
use Rattle.std.specs.List.{between}
use Rattle.std.proofs.lemmas.List.{take_all, take_at, drop_at, take-append-drop, drop-replicate}
use Rattle.std.proofs.lemmas.Bool.{cond_both, cond-true, cond-false, eqb-true, eq-eqb, ne_eqb, lt-ltb, ltb-true, cases_Bool, cases_eq}
use Rattle.terms.specs.declared.strategy.Kind.TheVariants.{Opposed, BoughtButterfly, SoldButterfly, SoldCone, Covered, TermPurchase, TermSale}
use Rattle.sheet_text.specs.declared.letters.Sort.{Sort}
use Rattle.sheet_text.specs.declared.letters.Sort.TheVariants as sort
use Rattle.terms.specs.declared.strategy.Leg.{Leg}
use Rattle.sheet_text.specs.declared.fields.Seen.TheVariants.{Blank, Number}
use Rattle.sheet_text.proofs.Columns.{seen-column, seen-blank, field-exact, length-column}
use Rattle.sheet_text.proofs.Blanks.{spaces-blank}
use Rattle.sheet_text.specs.Letters.{sort_letter, sort_of}
use Rattle.sheet_text.specs.Columns.{column, seen_of, value_of, FieldIs, field_of, blank}
use Rattle.sheet_text.specs.Sheet.{leg_text, LegFits}
use Rattle.sheet_text.specs.Reading.{leg_from, leg_of}

-- letters
pub sort-back : (s : Sort) → sort_of (sort_letter s) ≡ Some s
sort-back sort.Head = refl
sort-back sort.Trailer = refl
sort-back (sort.Strategy Opposed) = refl
sort-back (sort.Strategy BoughtButterfly) = refl
sort-back (sort.Strategy SoldButterfly) = refl
sort-back (sort.Strategy SoldCone) = refl
sort-back (sort.Strategy Covered) = refl
sort-back (sort.Strategy TermPurchase) = refl
sort-back (sort.Strategy TermSale) = refl

abbrev pub LetterIs : ℕ → Option Sort → Type 0
LetterIs b None = Unit {0}
LetterIs b (Some s) = b ≡ sort_letter s

letter-next : (b k : ℕ) (s : Sort) (rest : Option Sort) → k ≡ sort_letter s → LetterIs b rest → LetterIs b (cond (eqb b k) (Some s) rest)
letter-next b k s rest e r = cond_both (eqb b k) (Some s) rest (LetterIs b) (λ t. eqb-true b k t ∙ e) (λ _. r)

pub letter-is : (b : ℕ) → LetterIs b (sort_of b)
letter-is b =
    letter-next b 72 sort.Head _ refl
    (letter-next b 84 sort.Trailer _ refl
    (letter-next b 79 (sort.Strategy Opposed) _ refl
    (letter-next b 77 (sort.Strategy BoughtButterfly) _ refl
    (letter-next b 86 (sort.Strategy SoldButterfly) _ refl
    (letter-next b 67 (sort.Strategy SoldCone) _ refl
    (letter-next b 75 (sort.Strategy Covered) _ refl
    (letter-next b 70 (sort.Strategy TermPurchase) _ refl
    (letter-next b 71 (sort.Strategy TermSale) _ refl tt))))))))

-- legs
pub leg-width : (l : Leg) → length (leg_text l) ≡ 9
leg-width l = cond_both (eqb l.lots 0) (replicate 9 32) (column 3 l.row ++ column 6 l.lots) (λ (x : List ℕ). length x ≡ 9) (λ _. refl) (λ _. simp (length-append, length-column))

-- the number that a column shows
pub field-column : (k n : ℕ) → 0 < k → n < 10 ^ k → field_of (column k n) ≡ Some n
field-column k n p h = ap value_of (seen-column k n p h)

leg-same : (l : Leg) → l.row ≡ 0 → l.lots ≡ 0 → ◌≡◌ {A = Leg} (record { row = 0; lots = 0 }) l
leg-same l p q =
    let a : (x : ℕ) → Leg = λ x. record { row = x; lots = 0 } in
    let b : (x : ℕ) → Leg = λ x. record { row = l.row; lots = x } in
    ap a (sym p) ∙ ap b (sym q)

leg-from : (at r n : ℕ) (o p : Option ℕ) → o ≡ Some r → p ≡ Some n → 0 < n → leg_from at o p ≡ Ok (record { row = r; lots = n })
leg-from at r n o p e f h = rw (e, f) (cond-true (ltb 0 n) _ _ (lt-ltb 0 n h))

not-blank : (f : List ℕ) (n : ℕ) → drop 3 f ≡ column 6 n → n < 10 ^ 6 → blank f ≡ false
not-blank f n e h = ⊎_elim
    (λ t. absurd (
    let s = spaces-blank f t in
    let d : drop 3 f ≡ replicate (length f - 3) 32 = ap (drop 3) s ∙ drop-replicate 3 (length f) 32 in
    let a : seen_of (drop 3 f) ≡ Blank = ap seen_of d ∙ seen-blank (length f - 3) in
    let b : seen_of (drop 3 f) ≡ Number n = ap seen_of e ∙ seen-column 6 n (omega arith) h in
    let z : ◌≡◌ {A = ℕ} 0 1 = cc in omega arith))
    (λ t. t)
    (cases_Bool (blank f))

pub leg-back : (at : ℕ) (l : Leg) → LegFits l → leg_of at (leg_text l) ≡ Ok l
leg-back at l fit = ⊎_elim
    (λ z. let t : leg_text l ≡ replicate 9 32 = cond-true (eqb l.lots 0) _ _ (eq-eqb l.lots 0 z) in
    let y : record { row = 0; lots = 0 } ≡ l = leg-same l (fit.unused z) z in
    ap (leg_of at) t ∙ ap Ok y)
    (λ n. let t : leg_text l ≡ column 3 l.row ++ column 6 l.lots = cond-false (eqb l.lots 0) _ _ (ne_eqb l.lots 0 n) in
    let w = length-column 3 l.row in
    let a : take 3 (leg_text l) ≡ column 3 l.row = ap (take 3) t ∙ take_at (column 3 l.row) (column 6 l.lots) 3 w in
    let b : drop 3 (leg_text l) ≡ column 6 l.lots = ap (drop 3) t ∙ drop_at (column 3 l.row) (column 6 l.lots) 3 w in
    let c : between 3 9 (leg_text l) ≡ column 6 l.lots = ap (take 6) b ∙ take_all 6 (column 6 l.lots) (omega (arith, length-column 6 l.lots)) in
    let fa : field_of (take 3 (leg_text l)) ≡ Some l.row = ap field_of a ∙ field-column 3 l.row (omega arith) fit.row_fits in
    let fc : field_of (between 3 9 (leg_text l)) ≡ Some l.lots = ap field_of c ∙ field-column 6 l.lots (omega arith) fit.lots_fit in
    let k : blank (leg_text l) ≡ false = not-blank (leg_text l) l.lots b fit.lots_fit in
    cond-false (blank (leg_text l)) _ _ k ∙ (leg-from at l.row l.lots _ _ fa fc (omega arith)))
    (cases_eq l.lots 0)

pub field_is : (f : List ℕ) (w n : ℕ) → length f ≡ w → 0 < w → field_of f ≡ Some n → (f ≡ column w n) × (n < 10 ^ w)
field_is f w n e p h =
    let P : Option ℕ → Type 0 = λ o. FieldIs f o in
    let x = subst P h (field-exact f (omega arith)) in
    (x.0 ∙ ap (λ (k : ℕ). column k n) e, (rw e at x.1))

-- what is taken for a leg is a leg's text
leg_from-ok : (at : ℕ) (o p : Option ℕ) (l : Leg) → leg_from at o p ≡ Ok l → (o ≡ Some l.row) × (p ≡ Some l.lots) × (0 < l.lots)
leg_from-ok at None p l e = absurd (let z : ◌≡◌ {A = ℕ} 0 1 = cc in omega arith)
leg_from-ok at (Some r) None l e = absurd (let z : ◌≡◌ {A = ℕ} 0 1 = cc in omega arith)
leg_from-ok at (Some r) (Some n) l e = ⊎_elim
    (λ t. let c : Ok l ≡ Ok (record { row = r; lots = n }) = sym e ∙ cond-true (ltb 0 n) _ _ t in
    let q : l ≡ record { row = r; lots = n } = cc in
    let a : r ≡ l.row = ap (λ (x : Leg). x.row) (sym q) in
    let b : n ≡ l.lots = ap (λ (x : Leg). x.lots) (sym q) in
    (ap Some a, ap Some b, omega (arith, ltb-true 0 n t, b)))
    (λ t. absurd (let c = sym e ∙ cond-false (ltb 0 n) _ _ t in let z : ◌≡◌ {A = ℕ} 0 1 = cc in omega arith))
    (cases_Bool (ltb 0 n))

pub leg-sound : (at : ℕ) (f : List ℕ) (l : Leg) → length f ≡ 9 → leg_of at f ≡ Ok l → (f ≡ leg_text l) × LegFits l
leg-sound at f l w e = ⊎_elim
    (λ t. let c : Ok l ≡ Ok (record { row = 0; lots = 0 }) = sym e ∙ cond-true (blank f) _ _ t in
    let q : l ≡ record { row = 0; lots = 0 } = cc in
    let s : f ≡ replicate 9 32 = spaces-blank f t ∙ ap (λ (k : ℕ). replicate k 32) w in
    let r0 : l.row ≡ 0 = ap (λ (x : Leg). x.row) q in
    let n0 : l.lots ≡ 0 = ap (λ (x : Leg). x.lots) q in
    (s ∙ sym (cond-true (eqb l.lots 0) _ _ (eq-eqb l.lots 0 n0)), record { row_fits = omega arith; lots_fit = omega arith; unused = λ _. r0 }))
    (λ t. let g : leg_from at (field_of (take 3 f)) (field_of (between 3 9 f)) ≡ Ok l = sym (cond-false (blank f) _ _ t) ∙ e in
    let p = leg_from-ok at (field_of (take 3 f)) (field_of (between 3 9 f)) l g in
    let wa : length (take 3 f) ≡ 3 = simp length-take (omega arith) in
    let wd : length (drop 3 f) ≡ 6 = simp length-drop (omega arith) in
    let d : between 3 9 f ≡ drop 3 f = take_all 6 (drop 3 f) (omega arith) in
    let a = field_is (take 3 f) 3 l.row wa (omega arith) p.0 in
    let b = field_is (drop 3 f) 6 l.lots wd (omega arith) (ap field_of (sym d) ∙ p.1) in
    let s : f ≡ column 3 l.row ++ column 6 l.lots = sym (take-append-drop 3 f) ∙ rw (a.0, b.0) in
    let pos = p.2 in
    (s ∙ sym (cond-false (eqb l.lots 0) _ _ (ne_eqb l.lots 0 (λ z. omega arith))), record { row_fits = a.1; lots_fit = b.1; unused = λ z. absurd (omega arith) }))
    (cases_Bool (blank f))
