-- What is told of the legs of a line, as a chain over them finds it.
use Rattle.std.proofs.Common.{◌≡◌, ℕ, zero, suc, ◌+◌, ◌≤◌, Bool, true, false, cond, not, ◌&&◌, ◌||◌, eqb, List, [], ◌∷◌, drop, take, is_some, Some, None, Option, sym, refl, ap, rules, ◌∙◌, arith}
use Rattle.std.proofs.lemmas.Grind.{common_steps}
use Rattle.std.proofs.lemmas.Bool.{lt-ltb}
use Rattle.std.specs.List.{list_all, list_any, prefix_len, enumerate_from}
use Rattle.terms.specs.declared.strategy.Leg.{Leg}
use Rattle.rules.specs.Legs.{used, first_leg, some_leg, none_used, used_first}
use Rattle.rules.specs.Rules.{is_earlier}

first_or : (b : Bool) (i : ℕ) (rest : Bool) (first : Option ℕ) → rest ≡ is_some first → (b || rest) ≡ is_some (cond b (Some i) first)
first_or true i rest first e = refl
first_or false i rest first e = e

any_from : (is : ℕ → Leg → Bool) (i : ℕ) (legs : List Leg) → list_any (λ p. used p.1 && is p.0 p.1) (enumerate_from i legs) ≡ is_some (first_leg is i legs)
any_from is i [] = refl
any_from is i (leg ∷ legs) = first_or (used leg && is i leg) i _ (first_leg is (i + 1) legs) (any_from is (i + 1) legs)

-- something is so of some used leg
pub any_leg : (is : ℕ → Leg → Bool) (legs : List Leg) → list_any (λ p. used p.1 && is p.0 p.1) (enumerate_from 0 legs) ≡ some_leg is legs
any_leg is legs = any_from is 0 legs

none_all : (legs : List Leg) → list_all (λ leg. not (used leg)) legs ≡ none_used legs
none_all [] = refl
none_all (leg ∷ legs) = ap (λ b. not (used leg) && b) (none_all legs)

first_step : (b : Bool) (n : ℕ) (leg : Leg) (legs : List Leg) → used leg ≡ b → list_all (λ leg. not (used leg)) (drop n legs) ≡ used_first legs
    → list_all (λ leg. not (used leg)) (drop (cond b (1 + n) 0) (leg ∷ legs)) ≡ cond b (used_first legs) (none_used legs)
first_step true n leg legs is e = search (rules, e)
first_step false n leg legs is e = ap (λ b. not b && list_all (λ leg. not (used leg)) legs) is ∙ none_all legs

-- after the used legs at the front, none is used
pub first_all : (legs : List Leg) → list_all (λ leg. not (used leg)) (drop (prefix_len used legs) legs) ≡ used_first legs
first_all [] = refl
first_all (leg ∷ legs) = first_step (used leg) (prefix_len used legs) leg legs refl (first_all legs)

-- an earlier leg uses the row

none_earlier : (i row j : ℕ) (legs : List Leg) → i ≤ j → first_leg (is_earlier i row) j legs ≡ None
none_earlier i row j [] h = refl
none_earlier i row j (leg ∷ legs) h = grind (arith, common_steps, none_earlier i row (j + 1) legs (omega arith))

before_from : (n j i row : ℕ) (legs : List Leg) → j + n ≡ i
    → list_any (λ leg. used leg && eqb leg.row row) (take n legs) ≡ is_some (first_leg (is_earlier i row) j legs)
before_from zero j i row legs e = sym (ap is_some (none_earlier i row j legs (omega arith)))
before_from (suc n) j i row [] e = refl
before_from (suc n) j i row (leg ∷ legs) e =
    let rest = list_any (λ leg. used leg && eqb leg.row row) (take n legs) in
    ap (λ b. (used leg && (b && eqb leg.row row)) || rest) (sym (lt-ltb j i (omega arith)))
    ∙ first_or (used leg && is_earlier i row j leg) j rest (first_leg (is_earlier i row) (j + 1) legs) (before_from n (j + 1) i row legs (omega arith))

pub before_any : (i row : ℕ) (legs : List Leg) → list_any (λ leg. used leg && eqb leg.row row) (take i legs) ≡ some_leg (is_earlier i row) legs
before_any i row legs = before_from i 0 i row legs (omega arith)
