-- How a call that was settled went: passed or denied.
use Rattle.std.proofs.Common.{◌≡◌, ℕ, Bool, true, false, cond, Ok, Err, Result, sym, refl, subst₂}
use Rattle.terms.specs.declared.holdings.Row.{Row}
use Rattle.denials.specs.declared.book.BookFault.{BookFault}
use Rattle.book.specs.Calls.{State, and_then, denied_if, Settled, Trades, Traded}

-- what was tested before is passed
pub passed_first : {X Y : Type 0} (m : Result X BookFault) (next : X → Result Y BookFault) (y : Y) → and_then m next ≡ Ok y → (x : X) × (m ≡ Ok x) × (next x ≡ Ok y)
passed_first (Ok x) next y e = (x, refl, e)
passed_first (Err fault) next y e = absurd cc

pub not-denied : (b : Bool) (fault : BookFault) (u : Unit {0}) → denied_if b fault ≡ Ok u → b ≡ false
not-denied true fault u e = absurd cc
not-denied false fault u e = refl

pub not_first : {X : Type 0} (b : Bool) (fault : BookFault) (m : Result X BookFault) (x : X) → cond b (Err fault) m ≡ Ok x → (b ≡ false) × (m ≡ Ok x)
not_first true fault m x e = absurd cc
not_first false fault m x e = (refl, e)

pub was-true : {X : Type 0} (b : Bool) (fault : BookFault) (x y : X) → cond b (Ok x) (Err fault) ≡ Ok y → (b ≡ true) × (x ≡ y)
was-true true fault x y e = (refl, cc)
was-true false fault x y e = absurd cc

pub settled_case : {X Y : Type 0} (P : Result Y BookFault → State → Type 0) (test : Result X BookFault) (answer : X → Y) (after : X → State) (s : State)
    → ((x : X) → test ≡ Ok x → P (Ok (answer x)) (after x)) → ((fault : BookFault) → P (Err fault) s)
    → (r : Result Y BookFault) (s' : State) → Settled test answer after s r s' → P r s'
settled_case P (Ok x) answer after s got denied r s' h = subst₂ P (sym h.0) (sym h.1) (got x refl)
settled_case P (Err fault) answer after s got denied r s' h = subst₂ P (sym h.0) (sym h.1) (denied fault)

pub trades-case : (P : Result ℕ BookFault → State → Type 0) (test : Result Row BookFault) (i : ℕ) (s : State)
    → ((row : Row) (k : ℕ) (s' : State) → test ≡ Ok row → Traded s i row k s' → P (Ok k) s') → ((fault : BookFault) → P (Err fault) s)
    → (r : Result ℕ BookFault) (s' : State) → Trades test i s r s' → P r s'
trades-case P (Ok row) i s got denied r s' h = subst₂ P (sym h.1) refl (got row h.0 s' refl h.2)
trades-case P (Err fault) i s got denied r s' h = subst₂ P (sym h.0) (sym h.1) (denied fault)
