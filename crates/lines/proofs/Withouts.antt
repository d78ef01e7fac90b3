-- What is left without the highest-numbered users of a row.
use Rattle.std.proofs.Common.{◌≡◌, ℕ, zero, suc, ◌+◌, ◌-◌, ◌<◌, ◌≤◌, Bool, true, false, cond, not, ◌&&◌, eqb, ltb, List, [], ◌∷◌, ◌++◌, length, get_or, take, drop, ℤ, sum_by, sym, refl, ap, ap₂, ◌∙◌, subst₂, ⊎_elim, le_refl, arith, length-append, length-drop, length-take}
use Rattle.std.proofs.lemmas.Bool.{lt-ltb, le-ltb, or_parts, and_right, not-true, cases_lt, cond_both, cond-true, cond-false}
use Rattle.std.proofs.lemmas.List.Sums.{sum_by-cons, sum_by-append, sum_by-take-drop, length-filter, sum_by-drop_more}
use Rattle.std.proofs.lemmas.List.{at_drop_all}
use Rattle.std.proofs.lemmas.List.Filters.{length-filter_both}
use Rattle.std.proofs.lemmas.Bool.Decides.{nat_tests}
use Rattle.terms.specs.declared.strategy.Kind.TheVariants.{Opposed}
use Rattle.terms.specs.declared.strategy.Leg.{Leg}
use Rattle.terms.specs.declared.strategy.Line.{Line}
use Rattle.terms.specs.Sides as sides
use Rattle.lines.specs.Lots.{leg_sum, holds, writes, held, written, fits, fitting, takes, touches, uses, users}
use Rattle.lines.specs.Broken.{without, sparing, sparing_from, Front, Broken}

-- a line for places that there are not
blank : Line
blank = record { kind = Opposed; legs = [] }

-- whether lots fit, by their sums
fitting-is : (row : ℕ) (net : ℤ) (lines : List Line) (h w : ℕ) (b : Bool) → h ≡ held row lines → w ≡ written row lines → b ≡ fits net h w → fitting row net lines ≡ b
fitting-is row net lines h w b p q e = ap₂ (fits net) (sym p) (sym q) ∙ sym e

not-not : (b : Bool) → not (not b) ≡ b
not-not true = refl
not-not false = refl

-- a line that does not use the row has no lots of it
leg-none : (b : Bool) (row : ℕ) (leg : Leg) → takes (λ r. eqb r row) leg ≡ false → cond (b && eqb leg.row row) leg.lots 0 ≡ 0
leg-none b row leg e = grind (arith, nat_tests)

legs-none : (side : ℕ → Bool) (row i : ℕ) (legs : List Leg) → touches (λ r. eqb r row) legs ≡ false
    → leg_sum (λ k leg. cond (side k && eqb leg.row row) leg.lots 0) i legs ≡ 0
legs-none side row i [] e = refl
legs-none side row i (leg ∷ legs) e =
    let p = or_parts (takes (λ r. eqb r row) leg) (touches (λ r. eqb r row) legs) e in
    omega (arith, leg-none (side i) row leg p.0, legs-none side row (i + 1) legs p.1)

pub holds-none : (row : ℕ) (line : Line) → uses row line ≡ false → holds row line ≡ 0
holds-none row line e = legs-none (λ i. not (sides.writes line.kind i)) row 0 line.legs e

pub writes-none : (row : ℕ) (line : Line) → uses row line ≡ false → writes row line ≡ 0
writes-none row line e = legs-none (λ i. sides.writes line.kind i) row 0 line.legs e

-- what only users of the row have is 0 in the lines that spare it
pub spared-none : (row : ℕ) (f : Line → ℕ) → ((line : Line) → uses row line ≡ false → f line ≡ 0) → (xs : List Line) → sum_by f (sparing (λ r. eqb r row) xs) ≡ 0
spared-none row f h [] = refl
spared-none row f h (x ∷ xs) =
    let rest = sparing (λ r. eqb r row) xs in
    let ih = spared-none row f h xs in
    cond_both (not (uses row x)) (x ∷ rest) rest (λ ys. sum_by f ys ≡ 0)
    (λ e. omega (arith, sum_by-cons f x rest, h x (not-true (uses row x) e), ih)) (λ e. ih)

users-cons : (row : ℕ) (x : Line) (xs : List Line) → users row (x ∷ xs) ≡ cond (uses row x) 1 0 + users row xs
users-cons row x xs = sum_by-cons (λ line. cond (uses row line) 1 0) x xs

-- without all of its users, the lines are those that spare the row
pub without_all : (k row : ℕ) (xs : List Line) → users row xs ≤ k → without k row xs ≡ sparing (λ r. eqb r row) xs
without_all k row [] h = refl
without_all k row (x ∷ xs) h = go (uses row x) refl (without_all k row xs (omega (arith, users-cons row x xs)))
  where
    go : (b : Bool) → uses row x ≡ b → without k row xs ≡ sparing (λ r. eqb r row) xs
        → cond (b && ltb (users row xs) k) (without k row xs) (x ∷ without k row xs) ≡ cond (not b) (x ∷ sparing (λ r. eqb r row) xs) (sparing (λ r. eqb r row) xs)
    go true e ih = cond-true _ _ _ (lt-ltb (users row xs) k (omega (arith, users-cons row x xs, cond-true {A = ℕ} (uses row x) 1 0 e))) ∙ ih
    go false e ih = ap (λ ys. x ∷ ys) ih

-- the first n lines stay, where no fewer than j users stand after them
pub without-front : (j row n : ℕ) (xs : List Line) → j ≤ users row (drop n xs) → without j row xs ≡ take n xs ++ without j row (drop n xs)
without-front j row zero xs h = refl
without-front j row (suc n) [] h = refl
without-front j row (suc n) (x ∷ xs) h =
    cond-false (uses row x && ltb (users row xs) j) _ _ (and_right _ _ (le-ltb (users row xs) j (omega (arith, sum_by-take-drop (λ line. cond (uses row line) 1 0) xs n))))
    ∙ ap (λ ys. x ∷ ys) (without-front j row n xs h)

users-drop : (row n : ℕ) (xs : List Line) → n < length xs → users row (drop n xs) ≤ 1 + users row (drop (n + 1) xs)
users-drop row n xs lt =
    let e = sum_by-drop_more (λ line. cond (uses row line) 1 0) xs n blank lt in
    cond_both (uses row (get_or xs n blank)) 1 0 (λ m. users row (drop n xs) ≡ m + users row (drop (n + 1) xs) → users row (drop n xs) ≤ 1 + users row (drop (n + 1) xs))
    (λ _ q. omega arith) (λ _ q. omega arith) e

fits_more : (net : ℤ) (h w h' w' : ℕ) → h ≤ h' → w ≤ w' → fits net h w ≡ false → fits net h' w' ≡ false
fits_more net h w h' w' p q e = grind (arith, nat_tests)

-- the longest front that fits, and what spares the row after it: the least number of the highest users was broken
pub broken-from : (row : ℕ) (net : ℤ) (xs : List Line) (n : ℕ) → Front row net xs n → Broken row net xs (users row (drop n xs)) (sparing_from n (λ r. eqb r row) xs)
broken-from row net xs n front = record { rest = rest; count = count; fits = fit; least = least }
  where
    rest : sparing_from n (λ r. eqb r row) xs ≡ without (users row (drop n xs)) row xs
    rest = sym (without-front (users row (drop n xs)) row n xs (le_refl _) ∙ ap (λ ys. take n xs ++ ys) (without_all (users row (drop n xs)) row (drop n xs) (le_refl _)))

    count : length (sparing_from n (λ r. eqb r row) xs) + users row (drop n xs) ≡ length xs
    count =
        let a = length-append (take n xs) (sparing (λ r. eqb r row) (drop n xs)) in
        let b = length-filter_both (λ line. not (uses row line)) (uses row) (λ line. sym (not-not (uses row line))) (drop n xs) in
        let c = length-filter (uses row) (drop n xs) in
        let d = front.within in
        omega (arith, length-take n xs, length-drop n xs)

    fit : fitting row net (sparing_from n (λ r. eqb r row) xs) ≡ true
    fit =
        fitting-is row net (sparing_from n (λ r. eqb r row) xs) (held row (take n xs)) (written row (take n xs)) true
        (omega (arith, sum_by-append (holds row) (take n xs) (sparing (λ r. eqb r row) (drop n xs)), spared-none row (holds row) (holds-none row) (drop n xs)))
        (omega (arith, sum_by-append (writes row) (take n xs) (sparing (λ r. eqb r row) (drop n xs)), spared-none row (writes row) (writes-none row) (drop n xs)))
        (sym front.fits)

    here : (j : ℕ) → j < users row (drop n xs) → n < length xs → fitting row net (without j row xs) ≡ false
    here j lt in-xs =
        let one : users row (drop n xs) ≤ 1 + users row (drop (n + 1) xs) = users-drop row n xs in-xs in
        let e = without-front j row (n + 1) xs (omega arith) in
        let left = without j row (drop (n + 1) xs) in
        ap (fitting row net) e
        ∙ fits_more net (held row (take (n + 1) xs)) (written row (take (n + 1) xs)) (held row (take (n + 1) xs ++ left)) (written row (take (n + 1) xs ++ left))
        (omega (arith, sum_by-append (holds row) (take (n + 1) xs) left)) (omega (arith, sum_by-append (writes row) (take (n + 1) xs) left)) (front.stops in-xs)

    least : (j : ℕ) → j < users row (drop n xs) → fitting row net (without j row xs) ≡ false
    least j lt = ⊎_elim (here j lt) (λ past. absurd (omega (arith, at_drop_all (users row) xs n past))) (cases_lt n (length xs))

-- the same, as the table has it: the net read from its bits, the number as a difference of lengths
pub broken-is : (row n before after : ℕ) (net z : ℤ) (xs ys left : List Line) → z ≡ net → ys ≡ xs → Front row z ys n → left ≡ sparing_from n (λ r. eqb r row) xs
    → before ≡ length xs → after ≡ length left → Broken row net xs (before - after) left
broken-is row n before after net z xs ys left same items front e p q =
    let b = broken-from row net xs n (subst₂ (λ m ls. Front row m ls n) same items front) in
    let k : users row (drop n xs) ≡ before - after = omega (arith, b.count, ap length e) in
    subst₂ (λ m ls. Broken row net xs m ls) k (sym e) b
