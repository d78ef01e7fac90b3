-- The rendering of lines within their limits is read back as those lines.
use Rattle.std.proofs.Common.{◌≡◌, ℕ, suc, ◌+◌, ◌-◌, ◌^◌, ◌<◌, ◌≤◌, Bool, true, eqb, ltb, List, [], ◌∷◌, ◌++◌, length, drop, replicate, Some, Ok, Option, Result, sym, refl, ap, ◌∙◌, append_assoc, append-nil, arith, length-append, length-drop}
use Rattle.std.specs.List.{flat_map, AllByRecursion}
use Rattle.std.proofs.lemmas.Bool.{cond-true, eq-eqb, lt-ltb}
use Rattle.terms.specs.declared.strategy.Kind.{Kind}
use Rattle.terms.specs.declared.strategy.Leg.{Leg}
use Rattle.terms.specs.declared.strategy.Line.{Line}
use Rattle.sheet_text.specs.declared.reader.State.{State}
use Rattle.sheet_text.specs.declared.reader.State.TheVariants as state
use Rattle.sheet_text.specs.Brought.{Brought}
use Rattle.sheet_text.specs.Brought as step
use Rattle.sheet_text.proofs.Columns.{length-column}
use Rattle.sheet_text.proofs.Laws.{leg-back, leg-width, field-column}
use Rattle.sheet_text.proofs.Blanks.{blank-spaces}
use Rattle.sheet_text.proofs.Cuts.{shape_text, record-back}
use Rattle.sheet_text.proofs.Scans.{run_step, run_end}
use Rattle.sheet_text.proofs.Sound.{line-join, count-join}
use Rattle.sheet_text.specs.Letters.{kind_letter}
use Rattle.sheet_text.specs.Columns.{column, field_of, blank}
use Rattle.sheet_text.specs.Records.{Shape, head, strategy, trailer, record_of, Wide}
use Rattle.sheet_text.specs.Sheet.{leg_text, line_text, head_text, trailer_text, render, LineFits}
use Rattle.sheet_text.specs.Reading.{and_then, line_of, count_is, found, turned, step_of, run, reads}

and_at : {A B E : Type 0} (x : Result A E) (f : A → Result B E) (a : A) → x ≡ Ok a → and_then x f ≡ f a
and_at x f a e = rw e

count_at : (at n : ℕ) (o : Option ℕ) (b : Bool) (s : Brought) → o ≡ Some n → b ≡ true → count_is at n o b s ≡ Ok s
count_at at n o b s e f = rw (e, f) (cond-true (eqb n n) _ _ (eq-eqb n n refl))

-- one record: bs is its text and what follows
module _ (day cap n at : ℕ) (bs rest : List ℕ) where
  step-at : (st : State) (sh : Shape) (br : Brought) → bs ≡ shape_text sh rest → Wide sh → turned day cap n at st sh ≡ Ok br → (step_of day cap n at st bs ≡ Ok br) × (drop 38 bs ≡ rest)
  step-at st sh br e w t = let r = record-back at sh rest bs e w in (and_at (record_of at bs) (turned day cap n at st) sh r.0 ∙ t, r.1)

  head-back : day < 10 ^ 8 → bs ≡ head_text day ++ rest → (step_of day cap n at state.Head bs ≡ Ok step.Opened) × (drop 38 bs ≡ rest)
  head-back h e =
      step-at state.Head (head (column 8 day) (replicate 28 32)) step.Opened (e ∙ sym (count-join 72 (column 8 day) (replicate 28 32) rest)) (length-column 8 day, refl)
      (count_at at day (field_of (column 8 day)) (blank (replicate 28 32)) step.Opened (field-column 8 day (omega arith) h) (blank-spaces 28))

  trailer-back : n < 10 ^ 8 → bs ≡ trailer_text n ++ rest → (step_of day cap n at state.Strategies bs ≡ Ok step.Closed) × (drop 38 bs ≡ rest)
  trailer-back h e =
      step-at state.Strategies (trailer (column 8 n) (replicate 28 32)) step.Closed (e ∙ sym (count-join 84 (column 8 n) (replicate 28 32) rest)) (length-column 8 n, refl)
      (count_at at n (field_of (column 8 n)) (blank (replicate 28 32)) step.Closed (field-column 8 n (omega arith) h) (blank-spaces 28))

  line-back : (l : Line) → LineFits l → n < cap → bs ≡ line_text l ++ rest → (step_of day cap n at state.Strategies bs ≡ Ok (step.Found l)) × (drop 38 bs ≡ rest)
  line-back l fit lt e =
      let a = fit.leg_1 in let b = fit.leg_2 in let c = fit.leg_3 in let d = fit.leg_4 in
      let K : Kind = l.kind in
      let L : Line = record { kind = K; legs = a ∷ b ∷ c ∷ d ∷ [] } in
      let g : (xs : List Leg) → Line = λ xs. record { kind = K; legs = xs } in
      let q : l ≡ L = ap g fit.legs_are in
      let t : bs ≡ shape_text (strategy K (leg_text a) (leg_text b) (leg_text c) (leg_text d)) rest =
      e ∙ (ap (λ (x : Line). line_text x ++ rest) q ∙ sym (line-join (kind_letter K) (leg_text a) (leg_text b) (leg_text c) (leg_text d) rest)) in
      let r : line_of at K (leg_text a) (leg_text b) (leg_text c) (leg_text d) ≡ Ok L =
      rw (leg-back (at + 1) a fit.fit_1, leg-back (at + 10) b fit.fit_2, leg-back (at + 19) c fit.fit_3, leg-back (at + 28) d fit.fit_4) in
      step-at state.Strategies (strategy K (leg_text a) (leg_text b) (leg_text c) (leg_text d)) (step.Found l) t (leg-width a, leg-width b, leg-width c, leg-width d)
      (cond-true (ltb n cap) _ _ (lt-ltb n cap lt) ∙ (ap found r ∙ ap (λ (x : Line). found (Ok x)) (sym q)))

-- the lines that are left, and the trailer
run-back : (day cap k at : ℕ) (ls more : List Line) (bs : List ℕ) → bs ≡ flat_map line_text more ++ trailer_text (length (ls ++ more)) → length bs ≤ k → length (ls ++ more) ≤ cap → length (ls ++ more) < 10 ^ 8 → AllByRecursion LineFits more →
    run k day cap at state.Strategies ls bs ≡ Ok (ls ++ more)
run-back day cap k at ls [] bs e hk hc hn all =
    let a : ls ++ [] ≡ ls = append-nil ls in
    let e2 : bs ≡ trailer_text (length ls) ++ [] = e ∙ (ap (λ (x : List Line). trailer_text (length x)) a ∙ sym (append-nil (trailer_text (length ls)))) in
    let t = trailer-back day cap (length ls) at bs [] (omega (arith, ap length a)) e2 in
    let p : 0 < length bs = (let u = ap length e2 in omega arith) in
    run_step day cap k at state.Strategies ls bs p hk
    ∙ (and_at (step_of day cap (length ls) at state.Strategies bs) _ step.Closed t.0
    ∙ (ap (λ (x : List ℕ). run (k - 1) day cap (at + 38) state.End ls x) t.1 ∙ (run_end day cap (k - 1) (at + 38) state.End ls ∙ ap Ok (sym a))))
run-back day cap k at ls (l ∷ more) bs e hk hc hn all =
    let a : (ls ++ (l ∷ [])) ++ more ≡ ls ++ (l ∷ more) = append_assoc ls (l ∷ []) more in
    let T : List ℕ = trailer_text (length (ls ++ (l ∷ more))) in
    let e2 : bs ≡ line_text l ++ (flat_map line_text more ++ T) = e ∙ append_assoc (line_text l) (flat_map line_text more) T in
    let n : length (ls ++ (l ∷ more)) ≡ length ls + suc (length more) = length-append ls (l ∷ more) in
    let t = line-back day cap (length ls) at bs (flat_map line_text more ++ T) l all.0 (omega arith) e2 in
    let p : 0 < length bs = (let u = ap length e2 in omega arith) in
    let f : drop 38 bs ≡ flat_map line_text more ++ trailer_text (length ((ls ++ (l ∷ [])) ++ more)) = t.1 ∙ ap (λ (x : List Line). flat_map line_text more ++ trailer_text (length x)) (sym a) in
    let s : length (drop 38 bs) ≤ k - 1 = omega (arith, length-drop 38 bs) in
    let w = ap length a in
    run_step day cap k at state.Strategies ls bs p hk
    ∙ (and_at (step_of day cap (length ls) at state.Strategies bs) _ (step.Found l) t.0
    ∙ (run-back day cap (k - 1) (at + 38) (ls ++ (l ∷ [])) more (drop 38 bs) f s (omega arith) (omega arith) all.1 ∙ ap Ok a))

-- the theorem
pub reads-complete : (day cap : ℕ) (lines : List Line) → day < 10 ^ 8 → length lines ≤ cap → length lines < 10 ^ 8 → AllByRecursion LineFits lines → reads day cap (render day lines) ≡ Ok lines
reads-complete day cap lines hd hc hn all = go (render day lines) refl
  where
    go : (text : List ℕ) → text ≡ render day lines → reads day cap text ≡ Ok lines
    go text e =
        let t = head-back day cap 0 0 text (flat_map line_text lines ++ trailer_text (length lines)) hd e in
        let p : 0 < length text = (let u = ap length e in omega arith) in
        let s : length (drop 38 text) ≤ length text - 1 = omega (arith, length-drop 38 text) in
        run_step day cap (length text) 0 state.Head [] text p (omega arith)
        ∙ (and_at (step_of day cap 0 0 state.Head text) _ step.Opened t.0
        ∙ run-back day cap (length text - 1) (0 + 38) [] lines (drop 38 text) t.1 s hc hn all)
