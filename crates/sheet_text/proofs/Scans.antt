-- The loop of a reading: what is left to read gives what the whole text does.
use Rattle.std.proofs.Common.{◌≡◌, ℕ, zero, suc, ◌+◌, ◌-◌, ◌<◌, ◌≤◌, min, true, ltb, List, [], ◌∷◌, ◌++◌, length, get_or, take, drop, Some, None, Ok, Err, Option, Result, sym, refl, ap, ◌∙◌, ⊎_elim, arith, length-append, length-drop}
use Rattle.std.specs.List.{between}
use Rattle.std.proofs.lemmas.List.{drop-drop, take_all, drop_all, take_at, drop_at, get_or-take, length-take-le, nil_from_length}
use Rattle.std.proofs.lemmas.Slice.{between_is}
use Rattle.std.proofs.lemmas.Bool.{cond-true, le-ltb, cases_lt}
use Rattle.terms.specs.Limits.{is_day}
use borrow.Rule.Slice.PartMut.{post_of}
use Rattle.terms.specs.declared.strategy.Line.{Line}
use Rattle.sheet_text.specs.declared.letters.Sort.{Sort}
use Rattle.sheet_text.specs.declared.letters.Sort.TheVariants as sort
use Rattle.sheet_text.specs.declared.reader.State.{State}
use Rattle.sheet_text.specs.declared.reader.State.TheVariants as state
use Rattle.sheet_text.specs.declared.reader.Reader.{Reader}
use Rattle.sheet_text.specs.declared.fault.TextFault.{TextFault}
use Rattle.sheet_text.specs.Brought.{Brought}
use Rattle.sheet_text.specs.Letters.{sort_of}
use Rattle.sheet_text.specs.Records.{Shape, cut, record_of}
use Rattle.sheet_text.specs.Reading.{and_then, turned, step_of, next_state, kept, ended, run, reads, ReadIs}
use Rattle.sheet_text.specs.Readers.{found_lines, Goes}

-- a record is cut from its own 38 bytes ---------------------------------------

between_front : (bs : List ℕ) (i j : ℕ) → j ≤ 38 → between i j (take 38 bs) ≡ between i j bs
between_front bs i j h = between_is (take 38 bs) i j ∙ (ap (drop i) (take_front j 38 bs h) ∙ sym (between_is bs i j))
  where
    take_front : (j k : ℕ) (xs : List ℕ) → j ≤ k → take j (take k xs) ≡ take j xs
    take_front zero k xs h = refl
    take_front (suc j) zero xs h = absurd (omega arith)
    take_front (suc j) (suc k) [] h = refl
    take_front (suc j) (suc k) (x ∷ xs) h = ap (λ (t : List ℕ). x ∷ t) (take_front j k xs (omega arith))

cut_front : (at : ℕ) (bs : List ℕ) (o : Option Sort) → cut at (take 38 bs) o ≡ cut at bs o
cut_front at bs None = refl
cut_front at bs (Some sort.Head) = rw (between_front bs 1 9 (omega arith), between_front bs 9 37 (omega arith))
cut_front at bs (Some (sort.Strategy k)) = rw (between_front bs 1 10 (omega arith), between_front bs 10 19 (omega arith), between_front bs 19 28 (omega arith), between_front bs 28 37 (omega arith))
cut_front at bs (Some sort.Trailer) = rw (between_front bs 1 9 (omega arith), between_front bs 9 37 (omega arith))

record_front : (at : ℕ) (bs : List ℕ) → record_of at (take 38 bs) ≡ record_of at bs
record_front at bs = ⊎_elim
    (λ short. ap (record_of at) (take_all 38 bs (omega arith)))
    (λ long.
    let n : length (take 38 bs) ≡ 38 = length-take-le 38 bs long in
    let x : ltb (length bs) 38 ≡ ltb (length (take 38 bs)) 38 = le-ltb (length bs) 38 long ∙ sym (le-ltb (length (take 38 bs)) 38 (omega arith)) in
    let f : get_or (take 38 bs) 37 0 ≡ get_or bs 37 0 = get_or-take 38 bs 37 0 (omega arith) in
    let l : get_or (take 38 bs) 0 0 ≡ get_or bs 0 0 = get_or-take 38 bs 0 0 (omega arith) in
    rw (← x, f, l, cut_front at bs (sort_of (get_or bs 0 0))))
    (cases_lt (length bs) 38)

-- a chunk of 38 bytes, or what is left where less is
chunk : (bs p q : List ℕ) → bs ≡ p ++ q → length p ≡ min 38 (length bs) → (take 38 bs ≡ p) × (drop 38 bs ≡ q)
chunk bs p q e l = ⊎_elim
    (λ short.
    let n = ap length e ∙ length-append p q in
    let z : q ≡ [] = nil_from_length q (omega arith) in
    let a : take 38 bs ≡ bs = take_all 38 bs (omega arith) in
    let d : drop 38 bs ≡ [] = drop_all 38 bs (omega arith) in
    let t : take (length p) (p ++ q) ≡ p = take_at p q (length p) refl in
    let u : take (length p) bs ≡ bs = take_all (length p) bs (omega arith) in
    (a ∙ (sym u ∙ (ap (take (length p)) e ∙ t)), d ∙ sym z))
    (λ long.
    let n : length p ≡ 38 = omega arith in
    (ap (take 38) e ∙ take_at p q 38 n, ap (drop 38) e ∙ drop_at p q 38 n))
    (cases_lt (length bs) 38)

-- the loop ------------------------------------------------------------------

-- what is left to read from `at` on gives what the whole text does
abbrev pub Rest : ℕ → ℕ → List ℕ → ℕ → State → List Line → Type 0
Rest day room text at st ls = (k : ℕ) × (length text ≤ k + at) × (run k day room at st ls (drop at text) ≡ reads day room text)

-- a reading of the text that has `left` to read
abbrev pub Underway : ℕ → ℕ → List ℕ → Reader → List ℕ → Type 0
Underway day room text r left = (r.day ≡ day) × (r.room ≡ room) × (left ≡ drop r.at text) × Rest day room text r.at r.state (found_lines r)

module _ (day cap : ℕ) where
  pub run_step : (k at : ℕ) (st : State) (ls : List Line) (bs : List ℕ) → 0 < length bs → length bs ≤ k →
      run k day cap at st ls bs ≡ and_then (step_of day cap (length ls) at st bs) (λ s. run (k - 1) day cap (at + 38) (next_state st s) (kept ls s) (drop 38 bs))
  run_step k at st ls [] p h = absurd (omega arith)
  run_step zero at st ls (b ∷ bs) p h = absurd (omega arith)
  run_step (suc k) at st ls (b ∷ bs) p h = let e : suc k - 1 ≡ k = omega arith in rw e

  pub run_end : (k at : ℕ) (st : State) (ls : List Line) → run k day cap at st ls [] ≡ ended st at ls
  run_end zero at st ls = refl
  run_end (suc k) at st ls = refl

module _ (day cap : ℕ) (text : List ℕ) (at : ℕ) (st : State) (ls : List Line) (r : Rest day cap text at st ls) where
  pub rest-step : (n : ℕ) (p q : List ℕ) → drop at text ≡ p ++ q → length p ≡ min 38 (length (drop at text)) → 0 < length (drop at text) → length ls ≡ n → (x : Result Brought TextFault) → x ≡ step_of day cap n at st p →
      reads day cap text ≡ and_then x (λ s. run (r.0 - 1) day cap (at + 38) (next_state st s) (kept ls s) (drop (at + 38) text))
  rest-step n p q e l pos m x is =
      let c = chunk (drop at text) p q e l in
      let f : step_of day cap n at st p ≡ step_of day cap (length ls) at st (drop at text) =
      ap (step_of day cap n at st) (sym c.0) ∙ (ap (λ (y : Result Shape TextFault). and_then y (turned day cap n at st)) (record_front at (drop at text)) ∙ ap (λ (k : ℕ). step_of day cap k at st (drop at text)) (sym m)) in
      let is2 : x ≡ step_of day cap (length ls) at st (drop at text) = is ∙ f in
      let w : length (drop at text) ≤ r.0 = simp length-drop (omega (arith, r.1)) in
      let g = run_step day cap r.0 at st ls (drop at text) pos w in
      let dd : drop 38 (drop at text) ≡ drop (at + 38) text = drop-drop 38 at text in
      rw (is2, ← dd) (sym r.2 ∙ g)

  pub rest_more : (n : ℕ) (p q : List ℕ) → drop at text ≡ p ++ q → length p ≡ min 38 (length (drop at text)) → 0 < length (drop at text) → length ls ≡ n → (s : Brought) → Ok s ≡ step_of day cap n at st p →
      Rest day cap text (at + 38) (next_state st s) (kept ls s)
  rest_more n p q e l pos m s is = (r.0 - 1, omega (arith, r.1), sym (rest-step n p q e l pos m (Ok s) is))

  pub rest-err : (n : ℕ) (p q : List ℕ) → drop at text ≡ p ++ q → length p ≡ min 38 (length (drop at text)) → 0 < length (drop at text) → length ls ≡ n → (f : TextFault) → Err f ≡ step_of day cap n at st p →
      Err f ≡ reads day cap text
  rest-err n p q e l pos m f is = sym (rest-step n p q e l pos m (Err f) is)

rest_as : (day cap : ℕ) (text : List ℕ) {at at' : ℕ} {st st' : State} {ls ls' : List Line} → at' ≡ at → st' ≡ st → ls' ≡ ls → Rest day cap text at st ls → Rest day cap text at' st' ls'
rest_as day cap text a b c r = rw (a, b, c) r

goes_ok : (old new : Reader) (x : Result Brought TextFault) → Goes old new x (Ok tt) →
    (s : Brought) × (Ok s ≡ x) × (new.day ≡ old.day) × (new.room ≡ old.room) × (new.at ≡ old.at + 38) × (new.state ≡ next_state old.state s) × (found_lines new ≡ kept (found_lines old) s)
goes_ok old new (Ok s) h = (s, refl, h.1, h.2, h.3, h.4, h.5)
goes_ok old new (Err e) h = absurd (let z : ◌≡◌ {A = ℕ} 0 1 = cc in omega arith)

goes_err : (old new : Reader) (x : Result Brought TextFault) (f : TextFault) → Goes old new x (Err f) → Err f ≡ x
goes_err old new (Ok s) f h = absurd (let g = h.0 in let z : ◌≡◌ {A = ℕ} 0 1 = cc in omega arith)
goes_err old new (Err e) f h = let q : f ≡ e = cc in ap Err q

module _ (day room : ℕ) (text : List ℕ) (old new : Reader) (left p q : List ℕ) (under : Underway day room text old left)
    (cut_is : left ≡ p ++ q) (size : length p ≡ min 38 (length left)) (some : 0 < length left) where
  step_same : step_of old.day old.room (length (found_lines old)) old.at old.state p ≡ step_of day room (length (found_lines old)) old.at old.state p
  step_same = rw (under.0, under.1)

  pub reading_more : Goes old new (step_of old.day old.room (length (found_lines old)) old.at old.state p) (Ok tt) → Underway day room text new q
  reading_more h =
      let g = goes_ok old new (step_of old.day old.room (length (found_lines old)) old.at old.state p) h in
      let c = chunk left p q cut_is size in
      let e : drop old.at text ≡ p ++ q = sym under.2 ∙ cut_is in
      let l : length p ≡ min 38 (length (drop old.at text)) = size ∙ ap (λ (y : List ℕ). min 38 (length y)) under.2 in
      let pos : 0 < length (drop old.at text) = (rw under.2 at some) in
      let more = rest_more day room text old.at old.state (found_lines old) under.3 (length (found_lines old)) p q e l pos refl g.0 (g.1 ∙ step_same) in
      let left_is : q ≡ drop (old.at + 38) text = sym c.1 ∙ (ap (drop 38) under.2 ∙ drop-drop 38 old.at text) in
      (g.2 ∙ under.0, g.3 ∙ under.1, left_is ∙ ap (λ (k : ℕ). drop k text) (sym g.4), rest_as day room text g.4 g.5 g.6 more)

  pub reading_err : (f : TextFault) → Goes old new (step_of old.day old.room (length (found_lines old)) old.at old.state p) (Err f) → Err f ≡ reads day room text
  reading_err f h =
      let e : drop old.at text ≡ p ++ q = sym under.2 ∙ cut_is in
      let l : length p ≡ min 38 (length (drop old.at text)) = size ∙ ap (λ (y : List ℕ). min 38 (length y)) under.2 in
      let pos : 0 < length (drop old.at text) = (rw under.2 at some) in
      rest-err day room text old.at old.state (found_lines old) under.3 (length (found_lines old)) p q e l pos refl f (goes_err old new _ f h ∙ step_same)

pub reading_start : (day room : ℕ) (text : List ℕ) (r : Reader) (left : List ℕ) → r.day ≡ day → r.room ≡ room → r.at ≡ 0 → r.state ≡ state.Head → found_lines r ≡ [] → left ≡ text → Underway day room text r left
reading_start day room text r left d m a s f l = (d, m, l ∙ ap (λ (k : ℕ). drop k text) (sym a), rest_as day room text a s f (length text, omega arith, refl))

pub reading_end : (day room : ℕ) (text : List ℕ) (r : Reader) (left : List ℕ) → Underway day room text r left → length left ≡ 0 → ended r.state r.at (found_lines r) ≡ reads day room text
reading_end day room text r left u n =
    let d : drop r.at text ≡ [] = nil_from_length (drop r.at text) (sym (ap length u.2) ∙ n) in
    let R : Rest day room text r.at r.state (found_lines r) = u.3 in
    sym (run_end day room R.0 r.at r.state (found_lines r)) ∙ (rw d at R.2)

-- the answers ---------------------------------------------------------------

pub read_err : (day : ℕ) (text : List ℕ) (old : List Line) (f : TextFault) → is_day day ≡ true → Err f ≡ reads day (min (length old) 64) text → ReadIs day text old old (Err f)
read_err day text old f t is = (cond-true (is_day day) _ _ t ∙ sym is, refl)

pub read_done : (day : ℕ) (text : List ℕ) (old lines ys : List Line) (n : ℕ) → is_day day ≡ true → n ≤ min (length old) 64 → n ≡ length lines →
    Ok lines ≡ reads day (min (length old) 64) text → ys ≡ lines → ReadIs day text old (ys ++ post_of 0 (n - 0) old) (Ok n)
read_done day text old lines ys n t le ll is e =
    let z : n - 0 ≡ n = omega arith in
    let ln : length ys ≡ n = ap length e ∙ sym ll in
    let tk : take n (ys ++ drop n old) ≡ lines = take_at ys (drop n old) n ln ∙ e in
    let dk : drop n (ys ++ drop n old) ≡ drop n old = drop_at ys (drop n old) n ln in
    simp z (cond-true (is_day day) _ _ t ∙ (sym is ∙ ap Ok (sym tk)), omega arith, dk)
