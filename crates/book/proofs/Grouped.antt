-- Grouped lots, where lines are broken.
use Rattle.std.proofs.Common.{◌≡◌, ℕ, ◌≤◌, Bool, true, false, not, ◌&&◌, eqb, ltb, List, [], ◌∷◌, ℤ, sum_by, sym, refl, ap, ◌∙◌, ⊎_elim, le_refl, arith}
use Rattle.std.proofs.lemmas.List.Filters.{sum_by-filter_both}
use Rattle.std.proofs.lemmas.List.Sums.{sum_by-cons}
use Rattle.std.proofs.lemmas.Bool.{cond_both, cases_Bool, both_ways, eqb-true, not-true, or_parts, or_from, and_cases, and_left, and_right}
use Rattle.std.proofs.lemmas.Bool.Decides.{nat_tests}
use Rattle.terms.specs.declared.strategy.Leg.{Leg}
use Rattle.terms.specs.declared.strategy.Line.{Line}
use Rattle.lines.specs.Lots.{holds, writes, held, written, fits, fitting, takes, touches, uses_any, uses, users}
use Rattle.lines.specs.Broken.{without, sparing}
use Rattle.lines.proofs.Withouts.{holds-none, writes-none}

-- no sum over the lines grows
pub without-le : (f : Line → ℕ) (k row : ℕ) (xs : List Line) → sum_by f (without k row xs) ≤ sum_by f xs
without-le f k row [] = le_refl 0
without-le f k row (x ∷ xs) =
    let ih = without-le f k row xs in
    cond_both (uses row x && ltb (users row xs) k) (without k row xs) (x ∷ without k row xs) (λ ys. sum_by f ys ≤ sum_by f (x ∷ xs))
    (λ _. omega (arith, sum_by-cons f x xs, ih)) (λ _. omega (arith, sum_by-cons f x xs, sum_by-cons f x (without k row xs), ih))

pub sparing-le : (f : Line → ℕ) (has : ℕ → Bool) (xs : List Line) → sum_by f (sparing has xs) ≤ sum_by f xs
sparing-le f has xs = omega (arith, sum_by-filter_both (uses_any has) (λ line. not (uses_any has line)) (λ line. refl) f xs)

-- fewer lots fit where more did
pub fits-less : (net : ℤ) (h w h' w' : ℕ) → h ≤ h' → w ≤ w' → fits net h' w' ≡ true → fits net h w ≡ true
fits-less net h w h' w' p q e = grind (arith, nat_tests)

-- a line that spares a set does not use a row of it
leg-spares : (has : ℕ → Bool) (row : ℕ) (leg : Leg) → has row ≡ true → takes has leg ≡ false → takes (λ r. eqb r row) leg ≡ false
leg-spares has row leg h e =
    ⊎_elim (λ unused. and_left (ltb 0 leg.lots) (eqb leg.row row) unused)
    (λ other. ⊎_elim
    (λ same. absurd (both_ways (has row) (ap has (sym (eqb-true leg.row row same)) ∙ other) h))
    (λ apart. and_right (ltb 0 leg.lots) (eqb leg.row row) apart) (cases_Bool (eqb leg.row row)))
    (and_cases (ltb 0 leg.lots) (has leg.row) e)

legs-spare : (has : ℕ → Bool) (row : ℕ) (legs : List Leg) → has row ≡ true → touches has legs ≡ false → touches (λ r. eqb r row) legs ≡ false
legs-spare has row [] h e = refl
legs-spare has row (leg ∷ legs) h e =
    let p = or_parts (takes has leg) (touches has legs) e in
    or_from _ _ (leg-spares has row leg h p.0) (legs-spare has row legs h p.1)

-- no lots of a row of the set are left
pub sparing-none : (f : Line → ℕ) (has : ℕ → Bool) (row : ℕ) → ((line : Line) → uses row line ≡ false → f line ≡ 0) → has row ≡ true → (xs : List Line) → sum_by f (sparing has xs) ≡ 0
sparing-none f has row zero_of h [] = refl
sparing-none f has row zero_of h (x ∷ xs) =
    let ih = sparing-none f has row zero_of h xs in
    cond_both (not (uses_any has x)) (x ∷ sparing has xs) (sparing has xs) (λ ys. sum_by f ys ≡ 0)
    (λ e. omega (arith, sum_by-cons f x (sparing has xs), zero_of x (legs-spare has row x.legs h (not-true (uses_any has x) e)), ih)) (λ _. ih)

pub fitting-without : (k row i : ℕ) (net : ℤ) (xs : List Line) → fitting i net xs ≡ true → fitting i net (without k row xs) ≡ true
fitting-without k row i net xs e =
    fits-less net (held i (without k row xs)) (written i (without k row xs)) (held i xs) (written i xs) (without-le (holds i) k row xs) (without-le (writes i) k row xs) e

pub fitting-sparing : (has : ℕ → Bool) (i : ℕ) (net : ℤ) (xs : List Line) → fitting i net xs ≡ true → fitting i net (sparing has xs) ≡ true
fitting-sparing has i net xs e =
    fits-less net (held i (sparing has xs)) (written i (sparing has xs)) (held i xs) (written i xs) (sparing-le (holds i) has xs) (sparing-le (writes i) has xs) e

pub fitting-spared : (has : ℕ → Bool) (i : ℕ) (net : ℤ) (xs : List Line) → has i ≡ true → fitting i net (sparing has xs) ≡ true
fitting-spared has i net xs h =
    let p = sparing-none (holds i) has i (holds-none i) h xs in
    let q = sparing-none (writes i) has i (writes-none i) h xs in
    fits-none net (held i (sparing has xs)) (written i (sparing has xs)) p q
  where
    fits-none : (net : ℤ) (h w : ℕ) → h ≡ 0 → w ≡ 0 → fits net h w ≡ true
    fits-none net h w p q = grind (arith, nat_tests)
