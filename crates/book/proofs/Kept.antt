-- What each call keeps true of a book and the history that led to it.
use Rattle.std.proofs.Common.{◌≡◌, ℕ, ◌<◌, true, false, cond, ◌||◌, eqb, List, [], ◌∷◌, length, get_or, pos, ◌+ℤ◌, Some, None, Option, sym, refl, ap, ◌∙◌, subst, ap₂, ⊎_elim, arith}
use Rattle.std.proofs.Math.IntN.{+ℤ_idr}
use Rattle.std.proofs.lemmas.List.{get_or_push, get_or_past}
use Rattle.std.proofs.lemmas.Bool.{le-ltb, leb-false, eq-eqb, ne_eqb, cases_eq, cases_Bool, both_ways, cond-true, cond-false}
use Rattle.terms.specs.declared.holdings.Row.{Row}
use Rattle.lines.specs.Lots.{fitting}
use Rattle.terms.specs.Holdings.{no_row, contract_last_day, is_over, has_ended}
use Rattle.book.specs.Calls.{State, Opening, opened, with_row}
use Rattle.book.specs.History.{Event, adds, bought_less_sold, last_day_of, brings, passed, lots_of, standing}
use Rattle.book.proofs.Places.{push-other}

-- the row of a number
abbrev pub at : State → ℕ → Row
at s i = get_or s.rows i no_row

pub record Kept (h : List Event) (s : State) : Type 0 where
  pub last : (i : ℕ) → last_day_of i h ≡ contract_last_day (at s i).contract
  pub before : (n : ℕ) → passed (Some n) h ≡ true → n < s.day
  pub past : (i : ℕ) → passed (last_day_of i h) h ≡ has_ended (contract_last_day (at s i).contract) s.day
  pub nets : (i : ℕ) → (at s i).net ≡ lots_of i h
  pub lines : s.lines ≡ standing h
  pub fits : (i : ℕ) → fitting i (at s i).net s.lines ≡ true

pub kept-opened : (o : Opening) → Kept [] (opened o)
kept-opened o = record {
  last = λ i. refl;
  before = λ n e. absurd (both_ways false refl e);
  past = λ i. refl;
  nets = λ i. refl;
  lines = refl;
  fits = λ i. refl;
}

-- an event that adds no lots, lists no row, brings no day and breaks no line
pub record Idle (h : List Event) (e : Event) : Type 0 where
  pub lots : (i : ℕ) → adds i e ≡ pos 0
  pub last : (i : ℕ) → last_day_of i (e ∷ h) ≡ last_day_of i h
  pub day : (n : Option ℕ) → brings n e ≡ false
  pub lines : standing (e ∷ h) ≡ standing h

-- a book whose rows have the last days and nets that they had
pub record Alike (s s' : State) : Type 0 where
  pub last : (i : ℕ) → contract_last_day (at s' i).contract ≡ contract_last_day (at s i).contract
  pub nets : (i : ℕ) → (at s' i).net ≡ (at s i).net
  pub day : s'.day ≡ s.day
  pub lines : s'.lines ≡ s.lines

pub alike_same : (s : State) → Alike s s
alike_same s = record { last = λ i. refl; nets = λ i. refl; day = refl; lines = refl }

passed-idle : (h : List Event) (e : Event) → ((n : Option ℕ) → brings n e ≡ false) → (n : Option ℕ) → passed n (e ∷ h) ≡ passed n h
passed-idle h e d n = ap (λ b. b || passed n h) (d n)

pub bought-idle : (h : List Event) (e : Event) (i : ℕ) → adds i e ≡ pos 0 → bought_less_sold i (e ∷ h) ≡ bought_less_sold i h
bought-idle h e i a = ap (λ z. bought_less_sold i h +ℤ z) a ∙ +ℤ_idr (bought_less_sold i h)

pub kept-idle : (h : List Event) (e : Event) (s s' : State) → Idle h e → Alike s s' → Kept h s → Kept (e ∷ h) s'
kept-idle h e s s' idle alike k = record {
  last = λ i. idle.last i ∙ (k.last i ∙ sym (alike.last i));
  before = λ n p. subst (λ d. n < d) (sym alike.day) (k.before n (sym (passed-idle h e idle.day (Some n)) ∙ p));
  past = λ i. same i ∙ (k.past i ∙ ap₂ has_ended (sym (alike.last i)) (sym alike.day));
  nets = λ i. alike.nets i ∙ (k.nets i ∙ sym (ap₂ (λ b z. cond b (pos 0) z) (same i) (bought-idle h e i (idle.lots i))));
  lines = alike.lines ∙ (k.lines ∙ sym idle.lines);
  fits = λ i. ap₂ (fitting i) (alike.nets i) alike.lines ∙ k.fits i;
}
  where
    same : (i : ℕ) → passed (last_day_of i (e ∷ h)) (e ∷ h) ≡ passed (last_day_of i h) h
    same i = passed-idle h e idle.day (last_day_of i (e ∷ h)) ∙ ap (λ n. passed n h) (idle.last i)

pub over-ended : (n : Option ℕ) (day : ℕ) → is_over n day ≡ false → has_ended n day ≡ false
over-ended None day e = refl
over-ended (Some last) day e = le-ltb last day (omega (arith, leb-false last day e))

-- a row more, under the next number
module _ (h : List Event) (e : Event) (s : State) (row : Row) (n : ℕ)
    (lots : (i : ℕ) → adds i e ≡ pos 0) (day : (m : Option ℕ) → brings m e ≡ false) (same : standing (e ∷ h) ≡ standing h)
    (lists : (i : ℕ) → last_day_of i (e ∷ h) ≡ cond (eqb (length s.rows) i) (Some n) (last_day_of i h))
    (is : contract_last_day row.contract ≡ Some n) (clear : row.net ≡ pos 0) (later : s.day < n) (k : Kept h s) where
  here : (i : ℕ) → length s.rows ≡ i → at (with_row s row) i ≡ row
  here i q = get_or_push s.rows row no_row i q

  none : (i : ℕ) → length s.rows ≡ i → at s i ≡ no_row
  none i q = get_or_past s.rows i no_row (omega arith)

  there : (i : ℕ) → (length s.rows ≡ i → ⊥) → at (with_row s row) i ≡ at s i
  there i q = push-other s.rows row no_row i q

  listed : (i : ℕ) → length s.rows ≡ i → last_day_of i (e ∷ h) ≡ Some n
  listed i q = lists i ∙ cond-true (eqb (length s.rows) i) (Some n) (last_day_of i h) (eq-eqb _ _ q)

  kept-last : (i : ℕ) → (length s.rows ≡ i → ⊥) → last_day_of i (e ∷ h) ≡ last_day_of i h
  kept-last i q = lists i ∙ cond-false (eqb (length s.rows) i) (Some n) (last_day_of i h) (ne_eqb _ _ q)

  unlisted-yet : (i : ℕ) → length s.rows ≡ i → passed (last_day_of i h) h ≡ false
  unlisted-yet i q = k.past i ∙ ap (λ r. has_ended (contract_last_day r.contract) s.day) (none i q)

  to-come : passed (Some n) h ≡ false
  to-come = ⊎_elim (λ t. absurd (omega (arith, k.before n t))) (λ f. f) (cases_Bool (passed (Some n) h))

  same-passed : (i : ℕ) → passed (last_day_of i (e ∷ h)) (e ∷ h) ≡ passed (last_day_of i h) h
  same-passed i =
      passed-idle h e day (last_day_of i (e ∷ h))
      ∙ ⊎_elim (λ q. ap (λ m. passed m h) (listed i q) ∙ (to-come ∙ sym (unlisted-yet i q))) (λ q. ap (λ m. passed m h) (kept-last i q)) (cases_eq (length s.rows) i)

  same-net : (i : ℕ) → (at (with_row s row) i).net ≡ (at s i).net
  same-net i =
      ⊎_elim (λ q. ap (λ r. r.net) (here i q) ∙ (clear ∙ sym (ap (λ r. r.net) (none i q)))) (λ q. ap (λ r. r.net) (there i q)) (cases_eq (length s.rows) i)

  same_ended : (i : ℕ) → has_ended (contract_last_day (at s i).contract) s.day ≡ has_ended (contract_last_day (at (with_row s row) i).contract) s.day
  same_ended i =
      ⊎_elim
      (λ q. ap (λ r. has_ended (contract_last_day r.contract) s.day) (none i q)
      ∙ sym (ap (λ r. has_ended (contract_last_day r.contract) s.day) (here i q) ∙ (ap (λ m. has_ended m s.day) is ∙ le-ltb n s.day (omega arith))))
      (λ q. ap (λ r. has_ended (contract_last_day r.contract) s.day) (sym (there i q))) (cases_eq (length s.rows) i)

  pub kept-listed : Kept (e ∷ h) (with_row s row)
  kept-listed = record {
    last = λ i. ⊎_elim (λ q. listed i q ∙ (sym is ∙ ap (λ r. contract_last_day r.contract) (sym (here i q)))) (λ q. kept-last i q ∙ (k.last i ∙ ap (λ r. contract_last_day r.contract) (sym (there i q)))) (cases_eq (length s.rows) i);
    before = λ m p. k.before m (sym (passed-idle h e day (Some m)) ∙ p);
    past = λ i. same-passed i ∙ (k.past i ∙ same_ended i);
    nets = λ i. same-net i ∙ (k.nets i ∙ sym (ap₂ (λ b z. cond b (pos 0) z) (same-passed i) (bought-idle h e i (lots i))));
    lines = k.lines ∙ sym same;
    fits = λ i. ap (λ z. fitting i z s.lines) (same-net i) ∙ k.fits i;
  }
