-- What holds over any run of calls.
use Rattle.std.proofs.Common.{◌≡◌, ℕ, ◌≤◌, true, leb, List, ◌∷◌, ℤ, pos, negsuc, ◌+ℤ◌, ◌-ℤ◌, ◌∙◌, subst, inl, inr, arith}
use Rattle.std.proofs.lemmas.Int.{ints}
use Rattle.std.proofs.lemmas.Bool.{leb-true, and_parts}
use borrow.Author.Differences.{up, down}
use Rattle.lines.specs.Lots.{held, written, fitting}
use Rattle.book.specs.Calls.{State, Opening, opened}
use Rattle.book.specs.History.{Event, Settles, Led, start, more, standing}
use Rattle.book.specs.Promise.{grouped, OneSide, Promise, GoesOn, Call}
use Rattle.book.proofs.Kept.{Kept, at, kept-opened}
use Rattle.book.proofs.Steps.{kept_step}

pub kept-led : (o : Opening) (h : List Event) (s : State) → Led (opened o) h s → Kept h s
kept-led o h s start = kept-opened o
kept-led o h s (more l st) = kept_step _ _ _ _ (kept-led o _ _ l) st

apart : (net : ℤ) (h w : ℕ) → h ≤ up net → w ≤ down net → OneSide (net -ℤ (pos h -ℤ pos w)) (pos h -ℤ pos w)
apart (pos n) h w p q = inl (omega (arith, ints), omega (arith, ints))
apart (negsuc n) h w p q = inr (omega (arith, ints), omega (arith, ints))

back : (net g : ℤ) → (net -ℤ g) +ℤ g ≡ net
back net g = omega (arith, ints)

pub promised : (h : List Event) (s : State) → Kept h s → Promise h s
promised h s k = record {
  lines = k.lines;
  add_up = λ i. back (at s i).net (grouped i (standing h)) ∙ k.nets i;
  sides = λ i.
      let fit = subst (λ ls. fitting i (at s i).net ls ≡ true) k.lines (k.fits i) in
      let p = and_parts (leb (held i (standing h)) (up (at s i).net)) (leb (written i (standing h)) (down (at s i).net)) fit in
      apart (at s i).net (held i (standing h)) (written i (standing h)) (leb-true _ _ p.0) (leb-true _ _ p.1);
}

pub goes_on : (s : State) (e : Event) (s' : State) → Settles s e s' → GoesOn s e s'
goes_on s e s' st o h l = (more l st, promised (e ∷ h) s' (kept_step h e s s' (kept-led o h s l) st))

-- a call that is settled goes on
pub called : (s : State) (e : Event) (s' : State) → Settles s e s' → Call s e s'
called s e s' st = record { settles = st; onward = goes_on s e s' st }
