-- A line whose legs pass the test is within its limits.
use Rattle.std.proofs.Common.{◌≡◌, ℕ, ◌+◌, ◌<◌, ◌≤◌, true, false, List, [], ◌∷◌, ◌++◌, length, get_or, take, drop, Some, None, sym, refl, ap, ◌∙◌, ⊎_elim, arith}
use Rattle.std.specs.List.{AllByRecursion}
use Rattle.std.proofs.lemmas.List.{take-append-drop, drop_more, length-take-le}
use Rattle.std.proofs.lemmas.Bool.{cond-true, cond-false, cases_Bool}
use Rattle.std.proofs.lemmas.Bool.Decides.{nat_tests}
use Rattle.terms.specs.declared.strategy.Leg.{Leg}
use Rattle.terms.specs.declared.strategy.Line.{Line}
use Rattle.sheet_text.proofs.Writes.{four, unfit_from, unfit-is}
use Rattle.sheet_text.specs.Sheet.{LegFits, LineFits}
use Rattle.sheet_text.specs.Writing.{leg_fits, unfit, FirstUnfit}

leg-fits : (l : Leg) → leg_fits l ≡ true → LegFits l
leg-fits l e =
    let a : l.row ≤ 999 = grind (arith, nat_tests) in
    let b : l.lots ≤ 999999 = grind (arith, nat_tests) in
    let c : l.lots ≡ 0 → l.row ≡ 0 = λ z. grind (arith, nat_tests) in
    record { row_fits = omega arith; lots_fit = omega arith; unused = c }

fit_next : (j : ℕ) (l : Leg) (ls : List Leg) → None ≡ unfit_from j (l ∷ ls) → LegFits l × (None ≡ unfit_from (j + 1) ls)
fit_next j l ls e = ⊎_elim
    (λ t. (leg-fits l t, e ∙ cond-true (leg_fits l) _ _ t))
    (λ t. absurd (let c = e ∙ cond-false (leg_fits l) _ _ t in let z : ◌≡◌ {A = ℕ} 0 1 = cc in omega arith))
    (cases_Bool (leg_fits l))

pub line-fits : (l : Line) → length l.legs ≡ 4 → None ≡ unfit l.legs → LineFits l
line-fits l n e =
    let q = four l.legs n in
    let a = fit_next 0 (get_or l.legs 0 (record { row = 0; lots = 0 })) ((get_or l.legs 1 (record { row = 0; lots = 0 })) ∷ (get_or l.legs 2 (record { row = 0; lots = 0 })) ∷ (get_or l.legs 3 (record { row = 0; lots = 0 })) ∷ []) (e ∙ (unfit-is l.legs ∙ ap (unfit_from 0) q)) in
    let b = fit_next (0 + 1) (get_or l.legs 1 (record { row = 0; lots = 0 })) ((get_or l.legs 2 (record { row = 0; lots = 0 })) ∷ (get_or l.legs 3 (record { row = 0; lots = 0 })) ∷ []) a.1 in
    let c = fit_next (0 + 1 + 1) (get_or l.legs 2 (record { row = 0; lots = 0 })) ((get_or l.legs 3 (record { row = 0; lots = 0 })) ∷ []) b.1 in
    let d = fit_next (0 + 1 + 1 + 1) (get_or l.legs 3 (record { row = 0; lots = 0 })) [] c.1 in
    record { leg_1 = _; leg_2 = _; leg_3 = _; leg_4 = _; legs_are = q; fit_1 = a.0; fit_2 = b.0; fit_3 = c.0; fit_4 = d.0 }

leg-unfits : (l : Leg) → leg_fits l ≡ false → LegFits l → ⊥
leg-unfits l e fit =
    let a = fit.row_fits in
    let b = fit.lots_fit in
    let c = fit.unused in
    grind (arith, nat_tests)

-- the first leg that does not fit, and those before it
pub unfit-split : (k : ℕ) (ls : List Leg) (j : ℕ) → Some j ≡ unfit_from k ls → (pre : List Leg) × (leg : Leg) × (post : List Leg) × (ls ≡ pre ++ (leg ∷ post)) × (k + length pre ≡ j) × AllByRecursion LegFits pre × (LegFits leg → ⊥)
unfit-split k [] j e = absurd (let z : ◌≡◌ {A = ℕ} 0 1 = cc in omega arith)
unfit-split k (l ∷ ls) j e = ⊎_elim
    (λ t. let r = unfit-split (k + 1) ls j (e ∙ cond-true (leg_fits l) _ _ t) in
    (l ∷ r.0, r.1, r.2, ap (λ (x : List Leg). l ∷ x) r.3, omega (arith, r.4), (leg-fits l t, r.5), r.6))
    (λ t. let c : Some j ≡ Some k = e ∙ cond-false (leg_fits l) _ _ t in
    let q : k ≡ j = cc in
    ([], l, ls, refl, omega arith, tt, leg-unfits l t))
    (cases_Bool (leg_fits l))

pub first-unfit : (ls : List Line) (i j : ℕ) (d : Line) → i < length ls → AllByRecursion LineFits (take i ls) → Some j ≡ unfit (get_or ls i d).legs → FirstUnfit ls i j
first-unfit ls i j d h all e =
    let r = unfit-split 0 (get_or ls i d).legs j (e ∙ unfit-is (get_or ls i d).legs) in
    let a : ls ≡ take i ls ++ (get_or ls i d ∷ drop (i + 1) ls) = sym (take-append-drop i ls) ∙ ap (λ (x : List Line). take i ls ++ x) (drop_more ls i d h) in
    record {
      before = take i ls;
      line = get_or ls i d;
      after = drop (i + 1) ls;
      lines_are = a;
      line_at = length-take-le i ls (omega arith);
      before_fit = all;
      first = r.0;
      leg = r.1;
      more = r.2;
      legs_are = r.3;
      at_leg = omega (arith, r.4);
      first_fit = r.5;
      unfit_leg = r.6;
    }
