-- What each call, however it was settled, keeps true.
use Rattle.std.proofs.Common.{◌≡◌, ℕ, ◌<◌, Bool, true, false, cond, ◌&&◌, ltb, List, ◌∷◌, length, get_or, set, ℤ, pos, ◌+ℤ◌, Some, None, Ok, Result, sym, refl, ap, ◌∙◌, subst, ⊎_elim, arith}
use Rattle.std.proofs.lemmas.List.{get_or-set_same, get_or-set_other, get_or_push, get_or_past}
use Rattle.std.proofs.lemmas.Bool.{ltb-true, leb-false, and_parts, cases_eq, cases_lt}
use Rattle.std.specs.Option.{ok_or}
use Rattle.terms.specs.declared.OptionType.{OptionType}
use Rattle.terms.specs.declared.holdings.Series as series
use Rattle.terms.specs.declared.holdings.Contract.{Contract}
use Rattle.terms.specs.declared.holdings.Contract.TheVariants.{Deposit, Series, Term}
use Rattle.terms.specs.declared.holdings.Row.{Row}
use Rattle.terms.specs.declared.holdings.Security.{Security}
use Rattle.terms.specs.Limits.{is_day, is_price, is_premium, is_guarantee}
use Rattle.denials.specs.declared.book.Figure.{Figure}
use Rattle.denials.specs.declared.book.Figure.TheVariants as figures
use Rattle.denials.specs.declared.book.BookFault.{BookFault}
use Rattle.denials.specs.declared.book.BookFault.TheVariants.{OutOfLimits, NoSuchRow, LastDayPast, RowEnds, NetTooFar, DepositBelowZero}
use Rattle.terms.specs.Holdings.{no_row, contract_last_day, is_over}
use Rattle.book.specs.Slips.{TradingSlip, ValuingSlip, slip_of}
use Rattle.book.specs.Tables.{has_security, room_for_row, unlisted, row_at, series_of, series_at, repriced}
use Rattle.book.specs.Calls.{State, figure, denied_if, is_zero, is_far, is_owed, for_valuing, new_security, new_row, new_series, new_term, new_price, new_premium, new_net, new_day, for_trading, with_premium, moved, with_security, with_row, with_rows, with_securities, ended, on_day, Traded}
use Rattle.book.specs.History.{Event, security_listed, series_listed, term_listed, price_quoted, premium_quoted, traded, session_ended, day_opened, Settles}
use Rattle.book.proofs.Cases.{passed_first, not-denied, not_first, was-true, settled_case, trades-case}
use Rattle.book.proofs.Places.{push-other}
use Rattle.book.proofs.Kept.{Kept, Idle, Alike, alike_same, at, kept-idle, kept-listed}
use Rattle.book.proofs.Traded.{kept-traded}
use Rattle.book.proofs.Dayed.{kept-dayed}

-- an argument that passed is the one that was given
figure-is : (within : ℕ → Bool) (n position : ℕ) (what : Figure) (m : ℕ) → figure within n position what ≡ Ok m → (within n ≡ true) × (m ≡ n)
figure-is within n position what m e = go (within n) refl (OutOfLimits position what) e
  where
    go : (b : Bool) → within n ≡ b → (fault : BookFault) → ok_or (cond b (Some n) None) fault ≡ Ok m → (within n ≡ true) × (m ≡ n)
    go true q fault p = (q, cc)
    go false q fault p = absurd cc

ok-is : {X : Type 0} (x y : X) → ◌≡◌ {A = Result X BookFault} (Ok x) (Ok y) → x ≡ y
ok-is x y e = cc

-- a deposit more: no row that can end, and no lots
alike-deposit : (s : State) (security : Security) → Alike s (with_security s security)
alike-deposit s security = record { last = λ i. (same i).0; nets = λ i. (same i).1; day = refl; lines = refl }
  where
    same : (i : ℕ) → (contract_last_day (at (with_security s security) i).contract ≡ contract_last_day (at s i).contract) × ((at (with_security s security) i).net ≡ (at s i).net)
    same i =
        ⊎_elim
        (λ q.
        let new = get_or_push s.rows (record { security = length s.securities; contract = Deposit; net = pos 0 }) no_row i q in
        let old = get_or_past s.rows i no_row (omega arith) in
        (ap (λ r. contract_last_day r.contract) new ∙ sym (ap (λ r. contract_last_day r.contract) old), ap (λ r. r.net) new ∙ sym (ap (λ r. r.net) old)))
        (λ q.
        let kept = push-other s.rows (record { security = length s.securities; contract = Deposit; net = pos 0 }) no_row i q in
        (ap (λ r. contract_last_day r.contract) kept, ap (λ r. r.net) kept))
        (cases_eq (length s.rows) i)

-- a row that can be listed: the contract, no lots, and a last day yet to come
new-row-is : (s : State) (security : ℕ) (contract : Contract) (row : Row) → new_row s security contract ≡ Ok row
    → (row.contract ≡ contract) × (row.net ≡ pos 0) × (is_over (contract_last_day contract) s.day ≡ false)
new-row-is s security contract row e =
    let a = passed_first (has_security s.securities security) _ row e in
    let b = passed_first (room_for_row s.rows) _ row a.2 in
    let c = passed_first (denied_if (is_over (contract_last_day contract) s.day) LastDayPast) _ row b.2 in
    let d = passed_first (unlisted s.rows (record { security = a.0; contract = contract; net = pos 0 })) _ row c.2 in
    let q = ok-is (record { security = a.0; contract = contract; net = pos 0 }) row d.2 in
    (sym (ap (λ r. r.contract) q), sym (ap (λ r. r.net) q), not-denied (is_over (contract_last_day contract) s.day) LastDayPast c.0 c.1)

-- a listed series
kept-series : (h : List Event) (s : State) (slip : TradingSlip) (security : ℕ) (option : OptionType) (strike last premium : ℕ) (row : Row) → Kept h s
    → new_series s slip security option strike last premium ≡ Ok row → Kept (series_listed slip security option strike last premium (Ok (length s.rows)) ∷ h) (with_row s row)
kept-series h s slip security option strike last premium row k e =
    let a = passed_first (for_trading s slip) _ row e in
    let b = passed_first (figure is_price strike 2 figures.Strike) _ row a.2 in
    let c = passed_first (figure is_day last 3 figures.LastDay) _ row b.2 in
    let d = passed_first (figure is_premium premium 4 figures.Premium) _ row c.2 in
    let same = (figure-is is_day last 3 figures.LastDay c.0 c.1).1 in
    let w = new-row-is s security (Series (record { option = option; strike = b.0; last_day = c.0; premium = d.0 })) row d.2 in
    kept-listed h (series_listed slip security option strike last premium (Ok (length s.rows))) s row last
    (λ i. refl) (λ n. refl) refl (λ i. refl) (ap contract_last_day w.0 ∙ ap Some same) w.1 (omega (arith, same, leb-false c.0 s.day w.2)) k

-- a listed term operation
kept-term : (h : List Event) (s : State) (slip : TradingSlip) (security price last guarantee : ℕ) (row : Row) → Kept h s
    → new_term s slip security price last guarantee ≡ Ok row → Kept (term_listed slip security price last guarantee (Ok (length s.rows)) ∷ h) (with_row s row)
kept-term h s slip security price last guarantee row k e =
    let a = passed_first (for_trading s slip) _ row e in
    let b = passed_first (figure is_price price 1 figures.TermPrice) _ row a.2 in
    let c = passed_first (figure is_day last 2 figures.LastDay) _ row b.2 in
    let d = passed_first (figure is_guarantee guarantee 3 figures.Guarantee) _ row c.2 in
    let same = (figure-is is_day last 2 figures.LastDay c.0 c.1).1 in
    let w = new-row-is s security (Term (record { price = b.0; last_day = c.0; guarantee = d.0 })) row d.2 in
    kept-listed h (term_listed slip security price last guarantee (Ok (length s.rows))) s row last
    (λ i. refl) (λ n. refl) refl (λ i. refl) (ap contract_last_day w.0 ∙ ap Some same) w.1 (omega (arith, same, leb-false c.0 s.day w.2)) k

-- a contract that is a series
series-is : (i : ℕ) (contract : Contract) (series : series.Series) → series_of i contract ≡ Ok series → contract ≡ Series series
series-is i Deposit series e = absurd cc
series-is i (Series one) series e = cc
series-is i (Term one) series e = absurd cc

-- another premium: the last days and the nets stay
alike-premium : (s : State) (n premium : ℕ) (series : series.Series) → series_at s.rows n ≡ Ok series → Alike s (with_rows s (repriced s.rows n (with_premium series premium)))
alike-premium s n premium series e = record { last = λ i. (same i).0; nets = λ i. (same i).1; day = refl; lines = refl }
  where
    within : n < length s.rows
    within =
        ⊎_elim (λ lt. lt)
        (λ le. let p = series-is n Deposit series (sym (ap (λ r. series_of n r.contract) (get_or_past s.rows n no_row le)) ∙ e) in absurd cc)
        (cases_lt n (length s.rows))

    same : (i : ℕ) → (contract_last_day (at (with_rows s (repriced s.rows n (with_premium series premium))) i).contract ≡ contract_last_day (at s i).contract)
        × ((at (with_rows s (repriced s.rows n (with_premium series premium))) i).net ≡ (at s i).net)
    same i =
        ⊎_elim
        (λ q.
        let row : Row = record { security = (at s n).security; contract = Series (with_premium series premium); net = (at s n).net } in
        let here = ap (λ j. get_or (set s.rows n row) j no_row) q ∙ get_or-set_same s.rows n row no_row within in (
          ap (λ r. contract_last_day r.contract) here ∙ (ap contract_last_day (sym (series-is n (at s n).contract series e)) ∙ ap (λ j. contract_last_day (at s j).contract) (sym q)),
          ap (λ r. r.net) here ∙ ap (λ j. (at s j).net) (sym q),
        ))
        (λ q.
        let there = get_or-set_other s.rows n i (record { security = (at s n).security; contract = Series (with_premium series premium); net = (at s n).net }) no_row q in
        (ap (λ r. contract_last_day r.contract) there, ap (λ r. r.net) there))
        (cases_eq i n)

kept-premium : (h : List Event) (s : State) (slip : TradingSlip) (n premium : ℕ) (rows : List Row) → Kept h s → new_premium s slip n premium ≡ Ok rows
    → Kept (premium_quoted slip n premium (Ok tt) ∷ h) (with_rows s rows)
kept-premium h s slip n premium rows k e =
    let a = passed_first (for_trading s slip) _ rows e in
    let b = passed_first (figure is_premium premium 1 figures.Premium) _ rows a.2 in
    let c = passed_first (series_at s.rows n) _ rows b.2 in
    let q = ok-is (repriced s.rows n (with_premium c.0 b.0)) rows c.2 in
    subst (λ after. Kept (premium_quoted slip n premium (Ok tt) ∷ h) (with_rows s after)) q
    (kept-idle h (premium_quoted slip n premium (Ok tt)) s (with_rows s (repriced s.rows n (with_premium c.0 b.0)))
    (record { lots = λ i. refl; last = λ i. refl; day = λ m. refl; lines = refl }) (alike-premium s n b.0 c.0 c.1) k)

kept-trade : (h : List Event) (s s' : State) (slip : TradingSlip) (n : ℕ) (lots : ℤ) (row : Row) (k : ℕ) → Kept h s → new_net s slip n lots ≡ Ok row → Traded s n row k s'
    → Kept (traded slip n lots (Ok k) ∷ h) s'
kept-trade h s s' slip n lots row k kept e t =
    let a = passed_first (for_trading s slip) _ row e in
    let b = passed_first (denied_if (is_zero lots) (OutOfLimits 1 figures.Lots)) _ row a.2 in
    let c = passed_first (row_at s.rows n) _ row b.2 in
    let at_n = was-true (ltb n (length s.rows)) (NoSuchRow n) (at s n) c.0 c.1 in
    let live = not_first (is_over (contract_last_day c.0.contract) s.day) (RowEnds n) _ row c.2 in
    let near = not_first (is_far (c.0.net +ℤ lots)) (NetTooFar n) _ row live.1 in
    let owned = not_first (is_owed c.0.contract (c.0.net +ℤ lots)) (DepositBelowZero n) _ row near.1 in
    let is = ok-is (moved c.0 lots) row owned.1 in
    subst (λ after. Kept (traded slip n lots (Ok k) ∷ h) after) (sym t.book)
    (kept-traded h s slip n lots k row t.left (ltb-true _ _ at_n.0) (ap (λ r. is_over (contract_last_day r.contract) s.day) at_n.1 ∙ live.0)
    (sym is ∙ ap (λ r. moved r lots) (sym at_n.1)) t.broken kept)

kept_next : (h : List Event) (s : State) (slip : ValuingSlip) (day d : ℕ) → Kept h s → new_day s slip day ≡ Ok d
    → Kept (day_opened slip day (Ok (slip_of s.number d)) ∷ h) (on_day s d)
kept_next h s slip day d k e =
    let a = passed_first (for_valuing s slip) _ d e in
    let f = figure-is (λ n. is_day n && ltb s.day n) day 0 figures.NextDay d a.2 in
    let later = ltb-true s.day day (and_parts (is_day day) (ltb s.day day) f.0).1 in
    subst (λ n. Kept (day_opened slip day (Ok (slip_of s.number n)) ∷ h) (on_day s n)) (sym f.1)
    (kept-dayed h s slip day (slip_of s.number day) later k)

-- a denied call
idle-denied : (h : List Event) (e : Event) (s : State) → Idle h e → Kept h s → Kept (e ∷ h) s
idle-denied h e s idle k = kept-idle h e s s idle (alike_same s) k

pub kept_step : (h : List Event) (e : Event) (s s' : State) → Kept h s → Settles s e s' → Kept (e ∷ h) s'
kept_step h (security_listed slip class lot close r) s s' k st =
    settled_case (λ r after. Kept (security_listed slip class lot close r ∷ h) after) (new_security s slip class lot close) _ (with_security s) s
    (λ security e. kept-idle h _ s (with_security s security) (record { lots = λ i. refl; last = λ i. refl; day = λ m. refl; lines = refl }) (alike-deposit s security) k)
    (λ fault. idle-denied h _ s (record { lots = λ i. refl; last = λ i. refl; day = λ m. refl; lines = refl }) k) r s' st
kept_step h (series_listed slip security option strike last premium r) s s' k st =
    settled_case (λ r after. Kept (series_listed slip security option strike last premium r ∷ h) after) (new_series s slip security option strike last premium) (λ _. length s.rows) (with_row s) s
    (λ row e. kept-series h s slip security option strike last premium row k e)
    (λ fault. idle-denied h _ s (record { lots = λ i. refl; last = λ i. refl; day = λ m. refl; lines = refl }) k) r s' st
kept_step h (term_listed slip security price last guarantee r) s s' k st =
    settled_case (λ r after. Kept (term_listed slip security price last guarantee r ∷ h) after) (new_term s slip security price last guarantee) (λ _. length s.rows) (with_row s) s
    (λ row e. kept-term h s slip security price last guarantee row k e)
    (λ fault. idle-denied h _ s (record { lots = λ i. refl; last = λ i. refl; day = λ m. refl; lines = refl }) k) r s' st
kept_step h (price_quoted slip security price r) s s' k st =
    settled_case (λ r after. Kept (price_quoted slip security price r ∷ h) after) (new_price s slip security price) (λ _. tt) (with_securities s) s
    (λ securities e. kept-idle h _ s (with_securities s securities) (record { lots = λ i. refl; last = λ i. refl; day = λ m. refl; lines = refl })
    (record { last = λ i. refl; nets = λ i. refl; day = refl; lines = refl }) k)
    (λ fault. idle-denied h _ s (record { lots = λ i. refl; last = λ i. refl; day = λ m. refl; lines = refl }) k) r s' st
kept_step h (premium_quoted slip n premium r) s s' k st =
    settled_case (λ r after. Kept (premium_quoted slip n premium r ∷ h) after) (new_premium s slip n premium) (λ _. tt) (with_rows s) s
    (λ rows e. kept-premium h s slip n premium rows k e)
    (λ fault. idle-denied h _ s (record { lots = λ i. refl; last = λ i. refl; day = λ m. refl; lines = refl }) k) r s' st
kept_step h (traded slip n lots r) s s' k st =
    trades-case (λ r after. Kept (traded slip n lots r ∷ h) after) (new_net s slip n lots) n s
    (λ row broken after e t. kept-trade h s after slip n lots row broken k e t)
    (λ fault. idle-denied h _ s (record { lots = λ i. refl; last = λ i. refl; day = λ m. refl; lines = refl }) k) r s' st
kept_step h (session_ended slip r) s s' k st =
    settled_case (λ r after. Kept (session_ended slip r ∷ h) after) (for_trading s slip) _ (λ _. ended s) s
    (λ _ e. kept-idle h _ s (ended s) (record { lots = λ i. refl; last = λ i. refl; day = λ m. refl; lines = refl })
    (record { last = λ i. refl; nets = λ i. refl; day = refl; lines = refl }) k)
    (λ fault. idle-denied h _ s (record { lots = λ i. refl; last = λ i. refl; day = λ m. refl; lines = refl }) k) r s' st
kept_step h (day_opened slip day r) s s' k st =
    settled_case (λ r after. Kept (day_opened slip day r ∷ h) after) (new_day s slip day) (λ d. slip_of s.number d) (on_day s) s
    (λ d e. kept_next h s slip day d k e)
    (λ fault. idle-denied h _ s (record { lots = λ i. refl; last = λ i. refl; day = λ m. refl; lines = refl }) k) r s' st
