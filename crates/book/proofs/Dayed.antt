-- What the next day keeps true.
use Rattle.std.proofs.Common.{◌≡◌, ℕ, ◌<◌, Bool, true, false, ◌||◌, ltb, List, ◌∷◌, pos, ◌+ℤ◌, Some, None, Ok, Option, sym, refl, ap, ◌∙◌, ap₂, ⊎_elim, arith}
use Rattle.std.proofs.Math.ListN.{get_or-map}
use Rattle.std.proofs.Math.IntN.{+ℤ_idr}
use Rattle.std.proofs.lemmas.Bool.{ltb-true, ltb-false, le-ltb, cases_Bool, or_cases, cond-true, cond-false, cond_both}
use Rattle.terms.specs.declared.holdings.Row.{Row}
use Rattle.lines.specs.Lots.{fitting}
use Rattle.lines.specs.Broken.{sparing}
use Rattle.terms.specs.Holdings.{no_row, contract_last_day, has_ended, ended_at, closed}
use Rattle.book.specs.Slips.{TradingSlip, ValuingSlip}
use Rattle.book.specs.Calls.{State, on_day}
use Rattle.book.specs.History.{Event, day_opened, bought_less_sold, last_day_of, passed, lots_of}
use Rattle.book.proofs.Grouped.{fitting-sparing, fitting-spared}
use Rattle.book.proofs.Kept.{Kept, at}

-- what has ended stays ended
pub ended-later : (n : Option ℕ) (day later : ℕ) → day < later → has_ended n later ≡ false → has_ended n day ≡ false
ended-later None day later lt e = refl
ended-later (Some last) day later lt e = le-ltb last day (omega (arith, ltb-false last later e))

either-ended : (n : Option ℕ) (day later : ℕ) → day < later → (has_ended n later || has_ended n day) ≡ has_ended n later
either-ended n day later lt = go (has_ended n later) refl
  where
    go : (b : Bool) → has_ended n later ≡ b → (b || has_ended n day) ≡ b
    go true e = refl
    go false e = ended-later n day later lt e

closed-contract : (d : ℕ) (row : Row) → (closed d row).contract ≡ row.contract
closed-contract d row =
    cond_both (has_ended (contract_last_day row.contract) d) (record { security = row.security; contract = row.contract; net = pos 0 }) row (λ r. r.contract ≡ row.contract) (λ _. refl) (λ _. refl)

module _ (h : List Event) (s : State) (slip : ValuingSlip) (d : ℕ) (next : TradingSlip) (later : s.day < d) (kept : Kept h s) where
  here : (i : ℕ) → at (on_day s d) i ≡ closed d (at s i)
  here i = get_or-map (closed d) s.rows i no_row

  same-contract : (i : ℕ) → (at (on_day s d) i).contract ≡ (at s i).contract
  same-contract i = ap (λ r. r.contract) (here i) ∙ closed-contract d (at s i)

  -- whether a row's last day has passed with the new day
  passed-now : (i : ℕ) → (has_ended (last_day_of i h) d || passed (last_day_of i h) h) ≡ has_ended (contract_last_day (at s i).contract) d
  passed-now i =
      ap₂ (λ a b. a || b) (ap (λ n. has_ended n d) (kept.last i)) (kept.past i) ∙ either-ended (contract_last_day (at s i).contract) s.day d later

  net-ended : (i : ℕ) → has_ended (contract_last_day (at s i).contract) d ≡ true → (at (on_day s d) i).net ≡ pos 0
  net-ended i e = ap (λ r. r.net) (here i ∙ cond-true (has_ended (contract_last_day (at s i).contract) d) _ (at s i) e)

  net-live : (i : ℕ) → has_ended (contract_last_day (at s i).contract) d ≡ false → (at (on_day s d) i).net ≡ (at s i).net
  net-live i e = ap (λ r. r.net) (here i ∙ cond-false (has_ended (contract_last_day (at s i).contract) d) _ (at s i) e)

  lots-live : (i : ℕ) → has_ended (contract_last_day (at s i).contract) d ≡ false → (at s i).net ≡ lots_of i (day_opened slip d (Ok next) ∷ h)
  lots-live i e =
      kept.nets i
      ∙ (cond-false (passed (last_day_of i h) h) (pos 0) (bought_less_sold i h) (kept.past i ∙ ended-later (contract_last_day (at s i).contract) s.day d later e)
      ∙ (sym (+ℤ_idr (bought_less_sold i h))
      ∙ sym (cond-false (has_ended (last_day_of i h) d || passed (last_day_of i h) h) (pos 0) (bought_less_sold i h +ℤ pos 0) (passed-now i ∙ e))))

  pub kept-dayed : Kept (day_opened slip d (Ok next) ∷ h) (on_day s d)
  kept-dayed = record {
    last = λ i. kept.last i ∙ ap contract_last_day (sym (same-contract i));
    before = λ n p. ⊎_elim (λ t. ltb-true n d t) (λ t. omega (arith, kept.before n t)) (or_cases (ltb n d) (passed (Some n) h) p);
    past = λ i. passed-now i ∙ ap (λ c. has_ended (contract_last_day c) d) (sym (same-contract i));
    nets = λ i. ⊎_elim
        (λ e. net-ended i e ∙ sym (cond-true (has_ended (last_day_of i h) d || passed (last_day_of i h) h) (pos 0) (bought_less_sold i h +ℤ pos 0) (passed-now i ∙ e)))
        (λ e. net-live i e ∙ lots-live i e) (cases_Bool (has_ended (contract_last_day (at s i).contract) d));
    lines = ap₂ sparing (λ j i. has_ended (sym (kept.last i) j) d) kept.lines;
    fits = λ i. ⊎_elim
        (λ e. fitting-spared (ended_at s.rows d) i (at (on_day s d) i).net s.lines e)
        (λ e. ap (λ z. fitting i z (sparing (ended_at s.rows d) s.lines)) (net-live i e) ∙ fitting-sparing (ended_at s.rows d) i (at s i).net s.lines (kept.fits i))
        (cases_Bool (has_ended (contract_last_day (at s i).contract) d));
  }
