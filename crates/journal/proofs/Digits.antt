-- The digits of a word, turn by turn.
use Rattle.std.proofs.Common.{◌≡◌, ℕ, ◌+◌, ◌-◌, ◌*◌, ◌^◌, ◌<◌, ◌≤◌, Bool, true, List, [], ◌∷◌, length, get_or, drop, Ok, sym, refl, ◌∙◌, arith}
use native.Mathlib.Nat.{pow-le-pow_right}
use Rattle.std.specs.Str.Parse.{digits_value, digits_value_after, AllDigits}
use Rattle.std.specs.Char.{is_ascii_digit, digit_value}
use Rattle.std.proofs.lemmas.Int.Digits.{digits_value-lt}
use Rattle.std.proofs.lemmas.List.{at_drop_more, at_drop_all}
use Rattle.std.proofs.lemmas.Bool.{and_parts, lt-ltb, le-leb}
use Rattle.std.proofs.lemmas.Bool.Decides.{nat_tests}
use Rattle.std.specs.List.{list_all}
use Rattle.journal.specs.Words.{number_of}

abbrev all_digits : List ℕ → Bool
all_digits word = list_all is_ascii_digit word

digit-is : (b : ℕ) → is_ascii_digit b ≡ true → (48 ≤ b) × (digit_value b ≡ b - 48) × (digit_value b < 10)
digit-is b e = (grind (arith, nat_tests), grind (arith, nat_tests), grind (arith, nat_tests))

digits_from : (w : List ℕ) → all_digits w ≡ true → AllDigits 10 w
digits_from [] e = tt
digits_from (b ∷ w) e = let p = and_parts (is_ascii_digit b) (all_digits w) e in ((digit-is b p.0).2, digits_from w p.1)

grows : (n : ℕ) (w : List ℕ) → n ≤ digits_value_after 10 n w
grows n [] = omega arith
grows n (b ∷ w) = omega (arith, grows (n * 10 + digit_value b) w)

-- number: n is what the first i digits write
pub record Part (w : List ℕ) (i n : ℕ) : Type 0 where
  pub few : length w ≤ 18
  pub all : all_digits w ≡ true
  pub left : all_digits (drop i w) ≡ true
  pub writes : digits_value_after 10 n (drop i w) ≡ digits_value 10 w

-- one digit more
pub record Turn (w : List ℕ) (i n : ℕ) : Type 0 where
  pub digit : 48 ≤ get_or w i 0
  pub small : n * 10 + (get_or w i 0 - 48) < 2 ^ 64
  pub more : Part w (i + 1) (n * 10 + (get_or w i 0 - 48))

pub turn : {w : List ℕ} {i n : ℕ} → Part w i n → i < length w → Turn w i n
turn {w} {i} {n} part h =
    let d = get_or w i 0 in
    let p = and_parts (is_ascii_digit d) (all_digits (drop (i + 1) w)) (sym (at_drop_more all_digits w i 0 h) ∙ part.left) in
    let is = digit-is d p.0 in
    let next : digits_value_after 10 (n * 10 + digit_value d) (drop (i + 1) w) ≡ digits_value 10 w = sym (at_drop_more (digits_value_after 10 n) w i 0 h) ∙ part.writes in
    let writes : digits_value_after 10 (n * 10 + (d - 48)) (drop (i + 1) w) ≡ digits_value 10 w = rw is.1 at next in
    let low = grows (n * 10 + (d - 48)) (drop (i + 1) w) in
    let high = digits_value-lt 10 w (digits_from w part.all) in
    let top : 10 ^ length w ≤ 10 ^ 18 = pow-le-pow_right (omega arith) part.few in
    record { digit = is.0; small = omega arith; more = record { few = part.few; all = part.all; left = p.1; writes = writes } }

pub ends : {w : List ℕ} {i n : ℕ} → Part w i n → length w ≤ i → 0 < length w → Ok n ≡ number_of w
ends {w} {i} {n} part h some =
    let e : n ≡ digits_value 10 w = sym (at_drop_all (digits_value_after 10 n) w i h) ∙ part.writes in
    rw (e, part.all, lt-ltb 0 (length w) some, le-leb (length w) 18 part.few) refl
