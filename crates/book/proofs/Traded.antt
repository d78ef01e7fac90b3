-- What a trade keeps true.
use Rattle.std.proofs.Common.{◌≡◌, ℕ, ◌<◌, false, cond, eqb, List, ◌∷◌, length, set, ℤ, pos, ◌+ℤ◌, Ok, sym, refl, ap, ◌∙◌, ap₂, ⊎_elim}
use Rattle.std.proofs.Math.IntN.{+ℤ_idr}
use Rattle.std.proofs.lemmas.List.{get_or-set_same, get_or-set_other}
use Rattle.std.proofs.lemmas.Bool.{eq-eqb, ne_eqb, cases_eq, cond-true, cond-false}
use Rattle.terms.specs.declared.holdings.Row.{Row}
use Rattle.lines.specs.Lots.{fitting}
use Rattle.lines.specs.Broken.{without, Broken}
use Rattle.terms.specs.Holdings.{no_row, contract_last_day, is_over, has_ended}
use Rattle.book.specs.Slips.{TradingSlip}
use Rattle.terms.specs.declared.strategy.Line.{Line}
use Rattle.book.specs.Calls.{State, moved}
use Rattle.book.specs.History.{Event, traded, bought_less_sold, last_day_of, passed, lots_of}
use Rattle.book.proofs.Grouped.{fitting-without}
use Rattle.book.proofs.Kept.{Kept, at, over-ended}

abbrev after : State → ℕ → Row → List Line → State
after s n row left = record {
  number = s.number;
  day = s.day;
  stage = s.stage;
  securities = s.securities;
  rows = set s.rows n row;
  lines = left;
}

module _ (h : List Event) (s : State) (slip : TradingSlip) (n : ℕ) (lots : ℤ) (k : ℕ) (row : Row) (left : List Line)
    (lt : n < length s.rows) (live : is_over (contract_last_day (at s n).contract) s.day ≡ false) (is : row ≡ moved (at s n) lots)
    (broken : Broken n row.net s.lines k left) (kept : Kept h s) where
  here : (i : ℕ) → i ≡ n → at (after s n row left) i ≡ row
  here i q = ap (at (after s n row left)) q ∙ get_or-set_same s.rows n row no_row lt

  there : (i : ℕ) → (i ≡ n → ⊥) → at (after s n row left) i ≡ at s i
  there i q = get_or-set_other s.rows n i row no_row q

  same-contract : (i : ℕ) → (at (after s n row left) i).contract ≡ (at s i).contract
  same-contract i =
      ⊎_elim (λ q. ap (λ r. r.contract) (here i q ∙ is) ∙ ap (λ j. (at s j).contract) (sym q)) (λ q. ap (λ r. r.contract) (there i q)) (cases_eq i n)

  live-still : passed (last_day_of n h) h ≡ false
  live-still = kept.past n ∙ over-ended (contract_last_day (at s n).contract) s.day live

  -- the row's net by the history, before and after
  net-before : (at s n).net ≡ bought_less_sold n h
  net-before = kept.nets n ∙ cond-false (passed (last_day_of n h) h) (pos 0) (bought_less_sold n h) live-still

  net-after : row.net ≡ lots_of n (traded slip n lots (Ok k) ∷ h)
  net-after =
      ap (λ r. r.net) is
      ∙ (ap₂ (λ a b. a +ℤ b) net-before (sym (cond-true (eqb n n) lots (pos 0) (eq-eqb n n refl)))
      ∙ sym (cond-false (passed (last_day_of n h) h) (pos 0) (bought_less_sold n (traded slip n lots (Ok k) ∷ h)) live-still))

  other-net : (i : ℕ) → (i ≡ n → ⊥) → lots_of i h ≡ lots_of i (traded slip n lots (Ok k) ∷ h)
  other-net i q =
      ap (λ z. cond (passed (last_day_of i h) h) (pos 0) z)
      (sym (ap (λ z. bought_less_sold i h +ℤ z) (cond-false (eqb n i) lots (pos 0) (ne_eqb n i (λ p. q (sym p)))) ∙ +ℤ_idr (bought_less_sold i h)))

  pub kept-traded : Kept (traded slip n lots (Ok k) ∷ h) (after s n row left)
  kept-traded = record {
    last = λ i. kept.last i ∙ ap contract_last_day (sym (same-contract i));
    before = kept.before;
    past = λ i. kept.past i ∙ ap (λ c. has_ended (contract_last_day c) s.day) (sym (same-contract i));
    nets = λ i. ⊎_elim
        (λ q. ap (λ r. r.net) (here i q) ∙ (net-after ∙ ap (λ j. lots_of j (traded slip n lots (Ok k) ∷ h)) (sym q)))
        (λ q. ap (λ r. r.net) (there i q) ∙ (kept.nets i ∙ other-net i q)) (cases_eq i n);
    lines = broken.rest ∙ ap (without k n) kept.lines;
    fits = λ i. ⊎_elim
        (λ q. ap (λ r. fitting i r.net left) (here i q) ∙ (ap (λ j. fitting j row.net left) q ∙ broken.fits))
        (λ q. ap₂ (λ r ls. fitting i r.net ls) (there i q) broken.rest ∙ fitting-without k n i (at s i).net s.lines (kept.fits i)) (cases_eq i n);
  }
