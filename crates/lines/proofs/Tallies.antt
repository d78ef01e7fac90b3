-- The first row whose lots do not fit, among rows that stand beside their lots.
use Rattle.std.proofs.Common.{◌≡◌, ℕ, ◌+◌, ◌<◌, ◌≤◌, Bool, true, false, cond, not, List, [], ◌∷◌, length, drop, ℤ, None, Some, Option, refl, sym, ap, ◌∙◌, ⊎_elim, arith}
use Rattle.std.specs.List.{position_from, zip}
use Rattle.std.proofs.lemmas.Bool.{cases_lt}
use Rattle.std.proofs.lemmas.Bool.Decides.{nat_tests}
use Rattle.std.proofs.lemmas.List.{at_drop_more, get_or_past}
use Rattle.std.proofs.Math.ListN.{drop_of_length-le}
use Rattle.std.specs.Array.{AllOfLen}
use Rattle.terms.specs.declared.holdings.Row.{Row}
use Rattle.lines.specs.declared.lots.Lots.{Lots}
use Rattle.lines.specs.Lots.{fits}
use Rattle.lines.specs.Tally.{no_lots, lots_at, first_overdrawn}

fits_none : (net : ℤ) → fits net 0 0 ≡ true
fits_none net = grind (arith, nat_tests)

flip : {X : Type 0} (b : Bool) (x y z : X) → x ≡ z → cond b x y ≡ cond (not b) y z
flip true x y z e = e
flip false x y z e = refl

-- a row from the number on at which the lots end has none, and they fit
none_past : (sums : List Lots) (rows : List Row) (i : ℕ) → length sums ≤ i → first_overdrawn sums i rows ≡ None
none_past sums [] i le = refl
none_past sums (row ∷ rows) i le =
    let later = first_overdrawn sums (i + 1) rows in
    ap (λ (l : Lots). cond (fits row.net l.held l.written) later (Some i)) (get_or_past sums i no_lots le)
    ∙ ap (λ b. cond b later (Some i)) (fits_none row.net) ∙ none_past sums rows (i + 1) (omega arith)

abbrev pub misfit : Row × Lots → Bool
misfit p = not (fits p.0.net p.1.held p.1.written)

pub beside : (sums : List Lots) (rows : List Row) (i : ℕ) → first_overdrawn sums i rows ≡ position_from misfit i (zip rows (drop i sums))
beside sums [] i = refl
beside sums (row ∷ rows) i = ⊎_elim (here (beside sums rows (i + 1))) past (cases_lt i (length sums))
  where
    first : List Lots → Option ℕ
    first ys = position_from misfit i (zip (row ∷ rows) ys)

    here : first_overdrawn sums (i + 1) rows ≡ position_from misfit (i + 1) (zip rows (drop (i + 1) sums)) → i < length sums → first_overdrawn sums i (row ∷ rows) ≡ first (drop i sums)
    here later lt =
        flip (fits row.net (lots_at sums i).held (lots_at sums i).written) (first_overdrawn sums (i + 1) rows) (Some i) _ later
        ∙ sym (at_drop_more first sums i no_lots lt)

    past : length sums ≤ i → first_overdrawn sums i (row ∷ rows) ≡ first (drop i sums)
    past le = none_past sums (row ∷ rows) i le ∙ sym (ap first (drop_of_length-le sums le))

-- where all lots are none, each row reads as none
pub none_at : (sums : List Lots) → AllOfLen (λ (l : Lots). (l.held ≡ 0) × (l.written ≡ 0)) sums 64 → (r : ℕ) → ((lots_at sums r).held ≡ 0) × ((lots_at sums r).written ≡ 0)
none_at sums all r = ⊎_elim (λ lt. all.at r no_lots lt) past (cases_lt r 64)
  where
    past : 64 ≤ r → ((lots_at sums r).held ≡ 0) × ((lots_at sums r).written ≡ 0)
    past le =
        let long : length sums ≤ r = omega (arith, all.long) in
        let e = get_or_past sums r no_lots long in
        (ap (λ (l : Lots). l.held) e, ap (λ (l : Lots). l.written) e)
