-- A column that the automaton takes is `column` of its number, and it takes each such column.
use Rattle.std.proofs.Common.{Bor, map, ◌≡◌, ℕ, zero, suc, ◌+◌, ◌-◌, ◌*◌, ◌/◌, ◌%◌, ◌^◌, ◌<◌, ◌≤◌, true, false, cond, eqb, ltb, List, [], ◌∷◌, ◌++◌, length, replicate, None, fold, Option, sym, refl, ap, subst, ⊎_elim, append_assoc, append-nil, pow-suc, add-one, arith, length-append}
use native.Mathlib.Nat.{pow-le-pow_right}
use lib.ListN.{length-replicate}
use Rattle.std.proofs.lemmas.List.Sums.{fold_push}
use Rattle.std.proofs.lemmas.List.{map-append, length-map, replicate_more}
use Rattle.std.proofs.lemmas.Bool.{cond_both, eqb-true, lt-ltb, le-ltb, ne_eqb, cases_lt}
use Rattle.std.proofs.lemmas.Bool.Decides.{nat_tests}
use Rattle.sheet_text.specs.declared.fields.Seen.{Seen}
use Rattle.sheet_text.specs.declared.fields.Seen.TheVariants.{Blank, Number, Bad}
use Rattle.sheet_text.specs.Columns.{column, is_digit, stepped, seen_of, value_of, FieldIs, SmallSeen}

pub digit-is : (b : ℕ) → is_digit b ≡ true → (48 ≤ b) × (b ≤ 57)
digit-is b e = grind (arith, nat_tests)

pub digit-yes : (d : ℕ) → d < 10 → is_digit (48 + d) ≡ true
digit-yes d h = grind (arith, nat_tests)

pub column-one : (k d : ℕ) → d < 10 → column (suc k) d ≡ replicate k 32 ++ ((48 + d) ∷ [])
unfolding column
column-one k d h = let m : d % 10 ≡ d = omega arith in simp (lt-ltb d 10 h, m)

pub column-more : (k v d : ℕ) → 0 < v → d < 10 → column (suc k) (v * 10 + d) ≡ column k v ++ ((48 + d) ∷ [])
unfolding column
column-more k v d p h =
    let m : (v * 10 + d) % 10 ≡ d = omega arith in
    let q : (v * 10 + d) / 10 ≡ v = omega arith in
    let t : ltb (v * 10 + d) 10 ≡ false = le-ltb (v * 10 + d) 10 (omega arith) in
    simp (t, m, q)

abbrev pub Good : ℕ → List ℕ → Seen → Type 0
Good k xs Blank = xs ≡ replicate k 32
Good k xs (Number n) = (xs ≡ column k n) × (n < 10 ^ k) × (0 < k)
Good k xs Bad = Unit {0}

pub good-step : (k : ℕ) (xs : List ℕ) (s : Seen) (b : ℕ) → Good k xs s → Good (suc k) (xs ++ (b ∷ [])) (stepped s b)
good-step k xs Blank b g =
    cond_both (eqb b 32) Blank (cond (is_digit b) (Number (b - 48)) Bad) (Good (suc k) (xs ++ (b ∷ [])))
    (λ e. rw (g, eqb-true b 32 e, replicate_more, add-one))
    (λ _. cond_both (is_digit b) (Number (b - 48)) Bad (Good (suc k) (xs ++ (b ∷ [])))
    (λ e. let r = digit-is b e in
    let a : 48 + (b - 48) ≡ b = omega arith in
    let p : 1 ≤ 10 ^ k = pow-le-pow_right {n = 10} (omega arith) {i = 0} {j = k} (omega arith) in
    (rw (column-one k (b - 48) (omega arith), a, g), rw pow-suc (omega arith), omega arith))
    (λ _. tt))
good-step k xs (Number n) b g =
    cond_both (is_digit b) (cond (ltb 0 n) (Number (n * 10 + (b - 48))) Bad) Bad (Good (suc k) (xs ++ (b ∷ [])))
    (λ e. cond_both (ltb 0 n) (Number (n * 10 + (b - 48))) Bad (Good (suc k) (xs ++ (b ∷ [])))
    (λ t. let r = digit-is b e in
    let a : 48 + (b - 48) ≡ b = omega arith in
    let pos : 0 < n = grind (arith, nat_tests) in
    (rw (column-more k n (b - 48) pos (omega arith), a, ← g.0), rw pow-suc (omega arith), omega arith))
    (λ _. tt))
    (λ _. tt)
good-step k xs Bad b g = tt

pub good-from : (k : ℕ) (xs : List ℕ) (s : Seen) (ys : List ℕ) → Good k xs s → Good (k + length ys) (xs ++ ys) (fold stepped s ys)
good-from k xs s [] g = let e : k + 0 ≡ k = omega arith in rw (append-nil, e) g
good-from k xs s (y ∷ ys) g =
    let h = good-from (suc k) (xs ++ (y ∷ [])) (stepped s y) ys (good-step k xs s y g) in
    let e : suc k + length ys ≡ k + length (y ∷ ys) = omega arith in
    rw (e, append_assoc) at h

pub good : (xs : List ℕ) → Good (length xs) xs (seen_of xs)
good xs = let h = good-from 0 [] Blank xs refl in let e : 0 + length xs ≡ length xs = omega arith in rw e at h

pub seen-blank : (k : ℕ) → seen_of (replicate k 32) ≡ Blank
seen-blank zero = refl
seen-blank (suc k) = seen-blank k

wide_from : (k n : ℕ) → 10 ≤ n → n < 10 ^ suc k → 0 < k
wide_from zero n big h = absurd (omega arith)
wide_from (suc k) n big h = omega arith

pub seen-column : (k n : ℕ) → 0 < k → n < 10 ^ k → seen_of (column k n) ≡ Number n
unfolding column
seen-column zero n p h = absurd (omega arith)
seen-column (suc k) n p h =
    ⊎_elim
    (λ small.
    let t : stepped Blank (48 + n) ≡ Number n = (let a : 48 + n - 48 ≡ n = omega arith in let z : eqb (48 + n) 32 ≡ false = ne_eqb (48 + n) 32 (λ e. omega arith) in simp (digit-yes n small, z, a)) in
    rw (column-one k n small, fold_push stepped Blank (replicate k 32) (48 + n), seen-blank k) t)
    (λ big.
    let q : n / 10 < 10 ^ k = (let h2 = rw pow-suc at h in omega arith) in
    let e : n ≡ n / 10 * 10 + n % 10 = omega arith in
    let c : column (suc k) n ≡ column k (n / 10) ++ ((48 + n % 10) ∷ []) = simp (le-ltb n 10 big) in
    let wide : 0 < k = wide_from k n big h in
    let a : 48 + n % 10 - 48 ≡ n % 10 = omega arith in
    let t : stepped (Number (n / 10)) (48 + n % 10) ≡ Number n = simp (digit-yes (n % 10) (omega arith), lt-ltb 0 (n / 10) (omega arith), a) (ap Number (sym e)) in
    rw (c, fold_push stepped Blank (column k (n / 10)) (48 + n % 10), seen-column k (n / 10) wide q) t)
    (cases_lt n 10)

pub length-column : (k n : ℕ) → length (column k n) ≡ k
unfolding column
length-column zero n = refl
length-column (suc k) n =
    cond_both (ltb n 10) (replicate k 32) (column k (n / 10)) (λ (x : List ℕ). length (x ++ ((48 + n % 10) ∷ [])) ≡ suc k)
    (λ _. simp (length-append, length-replicate) (omega arith))
    (λ _. simp (length-append, length-column k (n / 10)) (omega arith))

pub column-same : (k m n : ℕ) → 0 < k → m < 10 ^ k → n < 10 ^ k → column k m ≡ column k n → m ≡ n
column-same k m n p hm hn e = let a = seen-column k m p hm in let b = seen-column k n p hn in let z = ap seen_of e in cc

-- what a taken column is, and that no column is refused
pub field-exact : (f : List ℕ) → 0 < length f → FieldIs f (value_of (seen_of f))
field-exact f p = exact (seen_of f) (good f) refl
  where
    exact : (s : Seen) → Good (length f) f s → seen_of f ≡ s → FieldIs f (value_of s)
    exact Blank g e = λ n h c. absurd (let a = seen-column (length f) n p h in let z : ◌≡◌ {A = ℕ} 0 1 = cc in omega arith)
    exact (Number n) g e = (g.0, g.1)
    exact Bad g e = λ n h c. absurd (let a = seen-column (length f) n p h in let z : ◌≡◌ {A = ℕ} 0 1 = cc in omega arith)

pub small : (bs : List ℕ) → length bs ≤ 8 → SmallSeen (seen_of bs)
small bs le = go (seen_of bs) (good bs)
  where
    go : (s : Seen) → Good (length bs) bs s → SmallSeen s
    go Blank g = tt
    go (Number n) g = let w : 10 ^ length bs ≤ 10 ^ 8 = pow-le-pow_right {n = 10} (omega arith) le in omega (arith, g.1)
    go Bad g = tt

-- one more byte of those that a fold takes
pub seen-more : (xs : List (Bor ℕ)) (x : Bor ℕ) (s t : Seen) → s ≡ seen_of (map (λ (b : Bor ℕ). b.now) xs) → t ≡ stepped s x.now → t ≡ seen_of (map (λ (b : Bor ℕ). b.now) (xs ++ (x ∷ [])))
seen-more xs x s t e f =
    let m : map (λ (b : Bor ℕ). b.now) (xs ++ (x ∷ [])) ≡ map (λ (b : Bor ℕ). b.now) xs ++ (x.now ∷ []) = map-append (λ (b : Bor ℕ). b.now) xs (x ∷ []) in
    rw (f, e, m, fold_push stepped Blank (map (λ (b : Bor ℕ). b.now) xs) x.now)

pub small-before : (xs : List (Bor ℕ)) (s : Seen) → s ≡ seen_of (map (λ (b : Bor ℕ). b.now) xs) → length xs < 9 → SmallSeen s
small-before xs s e h =
    let n : length (map (λ (b : Bor ℕ). b.now) xs) ≤ 8 = (let e : length (map (λ (b : Bor ℕ). b.now) xs) ≡ length xs = simp length-map in omega arith) in
    subst SmallSeen (sym e) (small (map (λ (b : Bor ℕ). b.now) xs) n)

pub field_told : (f : List ℕ) (r : Option ℕ) → 0 < length f → r ≡ value_of (seen_of f) → FieldIs f r
field_told f r p e = let P : Option ℕ → Type 0 = λ o. FieldIs f o in subst P (sym e) (field-exact f p)

pub none_from : (s : Seen) → ((x : ℕ) → s ≡ Number x → ⊥) → None ≡ value_of s
none_from Blank h = refl
none_from (Number n) h = absurd (h n refl)
none_from Bad h = refl

-- a column is its last digit, and before it the rest or spaces
pub put_last : (w k n v : ℕ) (front : List ℕ) → w ≡ k + 1 → v ≡ 48 + n % 10 → front ≡ cond (ltb n 10) (replicate k 32) (column k (n / 10)) → front ++ (v ∷ []) ≡ column w n
unfolding column
put_last w k n v front ew ev e =
    let s : w ≡ suc k = omega arith in
    let q : column w n ≡ column (suc k) n = ap (λ (j : ℕ). column j n) s in
    rw (q, e, ev)

pub put-none : (xs : List ℕ) (n : ℕ) → length xs ≡ 0 → xs ≡ column (length xs) n
unfolding column
put-none [] n e = refl
put-none (x ∷ xs) n e = absurd (omega arith)
