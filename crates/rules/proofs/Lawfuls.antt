-- A line passes exactly if it obeys every rule.
use Rattle.std.proofs.Common.{◌≡◌, ℕ, zero, suc, ◌+◌, ◌<◌, Bool, true, false, cond, not, ◌&&◌, List, [], ◌∷◌, is_some, Some, None, Ok, Err, Option, Result, sym, refl, ap, ◌∙◌, subst, arith}
use Rattle.std.proofs.lemmas.Bool.{both_ways, cond_both, false_from_ne_true, and_parts, and_from, not-true, not-false, not_from_true, not_from_false, ltb-true, lt-ltb, leb-false, lt-leb, eqb-true, eq-eqb}
use Rattle.terms.specs.declared.holdings.Security.{Security}
use Rattle.terms.specs.declared.holdings.Row.{Row}
use Rattle.terms.specs.declared.strategy.Leg.{Leg}
use Rattle.terms.specs.declared.strategy.Line.{Line}
use Rattle.terms.specs.Sides.{writes, leg_at}
use Rattle.denials.specs.declared.sheet.LegFault.{LegFault}
use Rattle.denials.specs.declared.sheet.LegFault.TheVariants.{NoSuchRow, WrongSort, RowUsedTwice, OtherSecurity, EndsTooEarly}
use Rattle.denials.specs.declared.sheet.LineFault.{LineFault}
use Rattle.denials.specs.declared.sheet.LineFault.TheVariants as faults
use Rattle.rules.specs.Legs.{contract_of, used, first_leg, some_leg, none_used, used_first}
use Rattle.rules.specs.Sorts.{of_one_type, ends_before}
use Rattle.rules.specs.Rules.{and_then, unless, told_at, at_fault, legs_checked, is_earlier, outlives, line_checked}
use Rattle.rules.specs.Lawful.{Used, Lawful, PassesLawful}

-- tests that are passed

and_both : {F : Type 0} (a b : Result (Unit {0}) F) → and_then a b ≡ Ok tt → (a ≡ Ok tt) × (b ≡ Ok tt)
and_both (Ok u) b e = (refl, e)
and_both (Err fault) b e = (cc, cc)

then_both : {F : Type 0} (a b : Result (Unit {0}) F) → a ≡ Ok tt → b ≡ Ok tt → and_then a b ≡ Ok tt
then_both a b p q = ap (λ r. and_then r b) p ∙ q

was_right : (right : Bool) (fault : LineFault) → unless right fault ≡ Ok tt → right ≡ true
was_right true fault e = refl
was_right false fault e = cc

is_right : (right : Bool) (fault : LineFault) → right ≡ true → unless right fault ≡ Ok tt
is_right right fault e = ap (λ b. unless b fault) e

was_none : (fault : LegFault) (first : Option ℕ) → told_at fault first ≡ Ok tt → first ≡ None
was_none fault None e = refl
was_none fault (Some i) e = cc

unsome : (first : Option ℕ) → is_some first ≡ false → first ≡ None
unsome None e = refl
unsome (Some i) e = cc

-- the first used leg

here_no : (u b : Bool) (k : ℕ) (rest : Option ℕ) → cond (u && b) (Some k) rest ≡ None → (u ≡ true → b ≡ false) × (rest ≡ None)
here_no true true k rest e = (λ t. cc, cc)
here_no true false k rest e = (λ t. refl, e)
here_no false b k rest e = (λ t. cc, e)

no_here : (u b : Bool) (k : ℕ) (rest : Option ℕ) → (u ≡ true → b ≡ false) → rest ≡ None → cond (u && b) (Some k) rest ≡ None
no_here true b k rest h e = ap (λ x. cond x (Some k) rest) (h refl) ∙ e
no_here false b k rest h e = e

module _ (is : ℕ → Leg → Bool) where
  none_from : (legs : List Leg) (k i j : ℕ) → k + i ≡ j → first_leg is k legs ≡ None → used (leg_at legs i) ≡ true → is j (leg_at legs i) ≡ false
  none_from [] k i j n e u = cc
  none_from (leg ∷ legs) k zero j n e u = let same : k ≡ j = omega arith in subst (λ n. is n leg ≡ false) same ((here_no (used leg) (is k leg) k _ e).0 u)
  none_from (leg ∷ legs) k (suc i) j n e u = none_from legs (k + 1) i j (omega arith) (here_no (used leg) (is k leg) k _ e).1 u

  from_none : (legs : List Leg) (k : ℕ) → ((i j : ℕ) → k + i ≡ j → used (leg_at legs i) ≡ true → is j (leg_at legs i) ≡ false) → first_leg is k legs ≡ None
  from_none [] k h = refl
  from_none (leg ∷ legs) k h = no_here (used leg) (is k leg) k _ (h zero k (omega arith)) (from_none legs (k + 1) (λ i j n u. h (suc i) j (omega arith) u))

  -- no used leg is so
  pub none_is : (legs : List Leg) → first_leg is 0 legs ≡ None → (i : ℕ) → used (leg_at legs i) ≡ true → is i (leg_at legs i) ≡ false
  none_is legs e i u = none_from legs 0 i i (omega arith) e u

  pub is_none : (legs : List Leg) → ((i : ℕ) → used (leg_at legs i) ≡ true → is i (leg_at legs i) ≡ false) → first_leg is 0 legs ≡ None
  is_none legs h = from_none legs 0 (λ i j n u. let same : i ≡ j = omega arith in subst (λ n. is n (leg_at legs i) ≡ false) same (h i u))

  pub some_not : (legs : List Leg) → some_leg is legs ≡ false → (i : ℕ) → used (leg_at legs i) ≡ true → is i (leg_at legs i) ≡ false
  some_not legs e = none_is legs (unsome (first_leg is 0 legs) e)

  pub not_some : (legs : List Leg) → ((i : ℕ) → used (leg_at legs i) ≡ true → is i (leg_at legs i) ≡ false) → some_leg is legs ≡ false
  not_some legs h = ap is_some (is_none legs h)

-- the used legs come first

unused_at : (legs : List Leg) → none_used legs ≡ true → (i : ℕ) → used (leg_at legs i) ≡ false
unused_at [] e i = refl
unused_at (leg ∷ legs) e zero = not-true (used leg) (and_parts (not (used leg)) (none_used legs) e).0
unused_at (leg ∷ legs) e (suc i) = unused_at legs (and_parts (not (used leg)) (none_used legs) e).1 i

at_unused : (legs : List Leg) → ((i : ℕ) → used (leg_at legs i) ≡ false) → none_used legs ≡ true
at_unused [] h = refl
at_unused (leg ∷ legs) h = and_from (not (used leg)) (none_used legs) (not_from_false (used leg) (h zero)) (at_unused legs (λ i. h (suc i)))

rest_first : (b : Bool) (legs : List Leg) → cond b (used_first legs) (none_used legs) ≡ true → (j : ℕ) → used (leg_at legs j) ≡ true → (b ≡ true) × (used_first legs ≡ true)
rest_first true legs e j u = (refl, e)
rest_first false legs e j u = absurd (both_ways _ (unused_at legs e j) u)

first_used : (legs : List Leg) → used_first legs ≡ true → (i j : ℕ) → i < j → used (leg_at legs j) ≡ true → used (leg_at legs i) ≡ true
first_used [] e i j h u = u
first_used (leg ∷ legs) e i zero h u = absurd (omega arith)
first_used (leg ∷ legs) e zero (suc j) h u = (rest_first (used leg) legs e j u).0
first_used (leg ∷ legs) e (suc i) (suc j) h u = first_used legs (rest_first (used leg) legs e j u).1 i j (omega arith) u

of_first : (legs : List Leg) → ((i j : ℕ) → i < j → used (leg_at legs j) ≡ true → used (leg_at legs i) ≡ true) → used_first legs ≡ true
of_first [] h = refl
of_first (leg ∷ legs) h =
    cond_both (used leg) (used_first legs) (none_used legs) (λ b. b ≡ true)
    (λ t. of_first legs (λ i j lt u. h (suc i) (suc j) (omega arith) u))
    (λ f. at_unused legs (λ i. false_from_ne_true _ (λ u. both_ways _ f (h zero (suc i) (omega arith) u))))

-- the rules of one line

rest_no : (x y : Bool) → x ≡ true → (x && y) ≡ false → y ≡ false
rest_no x y p e = sym (ap (λ b. b && y) p) ∙ e

module _ (rows : List Row) (securities : List Security) (line : Line) where
  -- no used leg has the fault
  abbrev Free : LegFault → Type 0
  Free fault = (i : ℕ) → Used line i → at_fault fault line.kind line.legs rows i (leg_at line.legs i) ≡ false

  free_of : (fault : LegFault) → legs_checked fault line.kind line.legs rows ≡ Ok tt → Free fault
  free_of fault e = none_is (at_fault fault line.kind line.legs rows) line.legs (was_none fault _ e)

  of_free : (fault : LegFault) → Free fault → legs_checked fault line.kind line.legs rows ≡ Ok tt
  of_free fault h = ap (told_at fault) (is_none (at_fault fault line.kind line.legs rows) line.legs h)

  apart_of : Free RowUsedTwice → (i j : ℕ) → i < j → Used line i → Used line j → (leg_at line.legs i).row ≡ (leg_at line.legs j).row → ⊥
  apart_of h i j lt u v e =
      both_ways _ (some_not (is_earlier j (leg_at line.legs j).row) line.legs (h j v) i u) (and_from _ _ (lt-ltb i j lt) (eq-eqb _ _ e))

  of_apart : ((i j : ℕ) → i < j → Used line i → Used line j → (leg_at line.legs i).row ≡ (leg_at line.legs j).row → ⊥) → Free RowUsedTwice
  of_apart h j v =
      not_some (is_earlier j (leg_at line.legs j).row) line.legs
      (λ i u. false_from_ne_true _ (λ t. let p = and_parts _ _ t in h i j (ltb-true i j p.0) u v (eqb-true _ _ p.1)))

  abbrev Days : Type 0
  Days = of_one_type line.kind ≡ true → (i j : ℕ) → Used line i → Used line j → writes line.kind i ≡ false → writes line.kind j ≡ true
      → ends_before (contract_of rows (leg_at line.legs i)) (contract_of rows (leg_at line.legs j)) ≡ false

  days_of : Free EndsTooEarly → Days
  days_of h o i j u v held written =
      let later = rest_no _ _ (not_from_false _ held) (rest_no _ _ o (h i u)) in
      rest_no _ _ written (some_not (outlives line.kind rows (contract_of rows (leg_at line.legs i))) line.legs later j v)

  of_days : Days → Free EndsTooEarly
  of_days h i u =
      false_from_ne_true _ (λ t.
      let p = and_parts _ _ t in
      let q = and_parts _ _ p.1 in
      both_ways _
      (not_some (outlives line.kind rows (contract_of rows (leg_at line.legs i))) line.legs
      (λ j v. false_from_ne_true _ (λ s. let w = and_parts _ _ s in both_ways _ (h p.0 i j u v (not-true _ q.0) w.0) w.1)))
      q.1)

  lawful_of : line_checked rows securities line ≡ Ok tt → Lawful rows securities line
  lawful_of e =
      let t3 = and_both _ _ e in
      let t9 = and_both _ _ t3.1 in
      let t10 = and_both _ _ t9.1 in
      let t11 = and_both _ _ t10.1 in
      let t12 = and_both _ _ t11.1 in
      let t13 = and_both _ _ t12.1 in
      let t14 = and_both _ _ t13.1 in
      let t15 = and_both _ _ t14.1 in
      let count = and_parts _ _ (was_right _ _ t9.0) in
      record {
        listed = λ i u. leb-false _ _ (free_of NoSuchRow t3.0 i u);
        number = count.0;
        first = first_used line.legs count.1;
        sorts = λ i u. not-false _ (free_of WrongSort t10.0 i u);
        apart = apart_of (free_of RowUsedTwice t11.0);
        together = λ i u. eqb-true _ _ (not-false _ (free_of OtherSecurity t12.0 i u));
        class = was_right _ _ t13.0;
        lots = was_right _ _ t14.0;
        days = days_of (free_of EndsTooEarly t15.0);
        strikes = was_right _ _ t15.1;
      }

  of_lawful : Lawful rows securities line → line_checked rows securities line ≡ Ok tt
  of_lawful h =
      then_both _ _ (of_free NoSuchRow (λ i u. lt-leb _ _ (h.listed i u)))
      (then_both _ _ (is_right _ faults.LegCount (and_from _ _ h.number (of_first line.legs h.first)))
      (then_both _ _ (of_free WrongSort (λ i u. not_from_true _ (h.sorts i u)))
      (then_both _ _ (of_free RowUsedTwice (of_apart h.apart))
      (then_both _ _ (of_free OtherSecurity (λ i u. not_from_true _ (eq-eqb _ _ (h.together i u))))
      (then_both _ _ (is_right _ faults.ClassNotAdmitted h.class)
      (then_both _ _ (is_right _ faults.LotsDoNotMatch h.lots)
      (then_both _ _ (of_free EndsTooEarly (of_days h.days))
      (is_right _ faults.StrikesBreakRule h.strikes))))))))

  pub passes_lawful : (r : Result (Unit {0}) LineFault) → r ≡ line_checked rows securities line → PassesLawful rows securities line r
  passes_lawful r e = (λ p. lawful_of (sym e ∙ p), λ h. e ∙ of_lawful h)
