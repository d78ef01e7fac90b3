-- The place of a fault: what stands before it is lawful, record by record.
use Rattle.std.proofs.Common.{◌≡◌, ℕ, zero, suc, ◌+◌, ◌<◌, ◌≤◌, min, eqb, ltb, List, [], ◌∷◌, ◌++◌, length, get_or, drop, replicate, Some, None, Ok, Err, Option, Result, sym, refl, ap, ◌∙◌, subst, inl, inr, ⊎_elim, append_assoc, append-nil, arith, length-append, length-drop, length-take}
use Rattle.std.specs.List.{between, flat_map, AllByRecursion}
use Rattle.std.proofs.lemmas.List.{flat_map_more, length_push}
use Rattle.std.proofs.ByRecursion.{All-push}
use Rattle.std.proofs.lemmas.Bool.{cond-true, cond-false, eqb-true, eqb-false, ltb-true, ltb-false, cases_Bool}
use Rattle.terms.specs.Limits.{is_day}
use Rattle.terms.specs.declared.strategy.Line.{Line}
use Rattle.sheet_text.specs.declared.letters.Sort.{Sort}
use Rattle.sheet_text.specs.declared.letters.Sort.TheVariants as sort
use Rattle.sheet_text.specs.declared.reader.State.{State}
use Rattle.sheet_text.specs.declared.reader.State.TheVariants as state
use Rattle.sheet_text.specs.Brought.{Brought}
use Rattle.sheet_text.specs.Brought as step
use Rattle.sheet_text.specs.declared.fault.TextFault.{TextFault}
use Rattle.sheet_text.specs.declared.fault.TextFault.TheVariants.{DayOutsideLimits, TooManyLines, BrokenRecord, UnknownLetter, OutOfTurn}
use Rattle.sheet_text.specs.Letters.{sort_letter, sort_of}
use Rattle.sheet_text.specs.Columns.{blank, field_of}
use Rattle.sheet_text.specs.Records.{Shape, head, strategy, trailer, cut, record_of}
use Rattle.sheet_text.specs.Sheet.{line_text, head_text, trailer_text, render, LineFits}
use Rattle.sheet_text.specs.Reading.{and_then, line_of, count_is, found, turned, step_of, next_state, kept, ended, run, reads, ReadIs}
use Rattle.sheet_text.specs.Told.{Before, nothing, begun, whole, bytes_of, lines_of, Due, expected, Unbroken, Shows, CountIll, IllBy, CountDiffers, HasRoom, InTurn, Here, Place, Told}
use Rattle.sheet_text.proofs.Laws.{sort-back, letter-is, LetterIs}
use Rattle.sheet_text.proofs.Cuts.{record-sound}
use Rattle.sheet_text.proofs.Sound.{and_ok, count-ok, TurnIs, turn-sound}
use Rattle.sheet_text.proofs.Telling.{shows-none, shows-some, no-spaces, all-spaces, count-told, line-told}

-- what may come next, as the reader has it
abbrev pub state_of : Before → State
state_of nothing = state.Head
state_of (begun ls) = state.Strategies
state_of (whole ls) = state.End

-- a record that is refused ---------------------------------------------------

wide : (bs : List ℕ) (i j k : ℕ) → i + k ≡ j → j ≤ length bs → length (between i j bs) ≡ k
wide bs i j k e h = simp (length-take, length-drop) (omega arith)

found-err : (x : Result Line TextFault) (f : TextFault) → found x ≡ Err f → x ≡ Err f
found-err (Ok l) f e = absurd (let z : ◌≡◌ {A = ℕ} 0 1 = cc in omega arith)
found-err (Err g) f e = let q : g ≡ f = cc in ap Err q

module _ (day room at : ℕ) (b : Before) (bs : List ℕ) (f : TextFault) where
  out-of-turn : (s : Sort) → Unbroken bs → get_or bs 0 0 ≡ sort_letter s → (Due b s → ⊥) → ◌≡◌ {A = Result Brought TextFault} (Err (OutOfTurn at)) (Err f) → Here day room at b bs f
  out-of-turn s u l never e =
      let q : OutOfTurn at ≡ f = cc in
      let P : TextFault → Type 0 = λ x. Here day room at b bs x in
      subst P q (refl, inr (u, (s, l, never)))

  counted : (s : Sort) (br : Brought) → InTurn b bs s → ((p : ℕ) → CountIll at bs p → HasRoom s (length (lines_of b)) room × IllBy at s bs p) →
      (((m : ℕ) × Shows 8 (between 1 9 bs) m × (m ≡ expected day b → ⊥)) × (between 9 37 bs ≡ replicate 28 32) → CountDiffers s (expected day b) bs) →
      count_is at (expected day b) (field_of (between 1 9 bs)) (blank (between 9 37 bs)) br ≡ Err f → Here day room at b bs f
  counted s br t ill dif e =
      let long = t.unbroken.long in
      let w : length (between 1 9 bs) ≡ 8 = wide bs 1 9 8 refl (omega arith) in
      let v : length (between 9 37 bs) ≡ 28 = wide bs 9 37 28 refl (omega arith) in
      let P : TextFault → Type 0 = λ x. Here day room at b bs x in
      count-told P at (expected day b) (field_of (between 1 9 bs)) (blank (between 9 37 bs)) br f
      (λ none. let i = ill (at + 1) (inl (refl, shows-none 8 (between 1 9 bs) (omega arith) none)) in (s, t, i.0, i.1))
      (λ m some bl. let i = ill (at + 9) (inr (refl, (m, shows-some 8 (between 1 9 bs) m (omega arith) w some), no-spaces (between 9 37 bs) 28 bl)) in (s, t, i.0, i.1))
      (λ m some bl ne. (refl, (s, t, dif ((m, shows-some 8 (between 1 9 bs) m (omega arith) w some, ne), all-spaces (between 9 37 bs) 28 v bl))))
      e

turn-told : (day room at : ℕ) (b : Before) (bs : List ℕ) (f : TextFault) (s : Sort) → Unbroken bs → get_or bs 0 0 ≡ sort_letter s →
    and_then (cut at bs (Some s)) (turned day room (length (lines_of b)) at (state_of b)) ≡ Err f → Here day room at b bs f
turn-told day room at nothing bs f sort.Head u l e =
    counted day room at nothing bs f sort.Head step.Opened (record { unbroken = u; letter = l; due = tt }) (λ p i. (tt, i)) (λ d. d) e
turn-told day room at nothing bs f (sort.Strategy k) u l e = out-of-turn day room at nothing bs f (sort.Strategy k) u l (λ d. d) e
turn-told day room at nothing bs f sort.Trailer u l e = out-of-turn day room at nothing bs f sort.Trailer u l (λ d. d) e
turn-told day room at (begun ls) bs f sort.Head u l e = out-of-turn day room at (begun ls) bs f sort.Head u l (λ d. d) e
turn-told day room at (begun ls) bs f (sort.Strategy k) u l e =
    let t : InTurn (begun ls) bs (sort.Strategy k) = record { unbroken = u; letter = l; due = tt } in
    let long = u.long in
    let P : TextFault → Type 0 = λ x. Here day room at (begun ls) bs x in
    ⊎_elim
    (λ lt. let c = sym (cond-true (ltb (length ls) room) _ _ lt) ∙ e in
    line-told P at k (between 1 10 bs) (between 10 19 bs) (between 19 28 bs) (between 28 37 bs) f
    (wide bs 1 10 9 refl (omega arith), wide bs 10 19 9 refl (omega arith), wide bs 19 28 9 refl (omega arith), wide bs 28 37 9 refl (omega arith))
    (λ p ill. (sort.Strategy k, t, ltb-true (length ls) room lt, ill))
    (found-err (line_of at k (between 1 10 bs) (between 10 19 bs) (between 19 28 bs) (between 28 37 bs)) f c))
    (λ ge. let c = sym (cond-false (ltb (length ls) room) _ _ ge) ∙ e in
    let q : TooManyLines room ≡ f = cc in
    subst P q (refl, ltb-false (length ls) room ge, (k, t)))
    (cases_Bool (ltb (length ls) room))
turn-told day room at (begun ls) bs f sort.Trailer u l e =
    counted day room at (begun ls) bs f sort.Trailer step.Closed (record { unbroken = u; letter = l; due = tt }) (λ p i. (tt, i)) (λ d. d) e
turn-told day room at (whole ls) bs f sort.Head u l e = out-of-turn day room at (whole ls) bs f sort.Head u l (λ d. d) e
turn-told day room at (whole ls) bs f (sort.Strategy k) u l e = out-of-turn day room at (whole ls) bs f (sort.Strategy k) u l (λ d. d) e
turn-told day room at (whole ls) bs f sort.Trailer u l e = out-of-turn day room at (whole ls) bs f sort.Trailer u l (λ d. d) e

module _ (day room at : ℕ) (b : Before) (bs : List ℕ) (f : TextFault) where
  cut-told : (o : Option Sort) → sort_of (get_or bs 0 0) ≡ o → LetterIs (get_or bs 0 0) o → Unbroken bs →
      and_then (cut at bs o) (turned day room (length (lines_of b)) at (state_of b)) ≡ Err f → Here day room at b bs f
  cut-told None is l u e =
      let q : UnknownLetter at ≡ f = cc in
      let P : TextFault → Type 0 = λ x. Here day room at b bs x in
      subst P q (refl, u, λ s y. let x = ap sort_of y ∙ sort-back s in let z : ◌≡◌ {A = ℕ} 0 1 = cc in omega arith)
  cut-told (Some s) is l u e = turn-told day room at b bs f s u l e

  broken : 0 < length bs → (Unbroken bs → ⊥) → record_of at bs ≡ Err (BrokenRecord at) → step_of day room (length (lines_of b)) at (state_of b) bs ≡ Err f → Here day room at b bs f
  broken p never r e =
      let c : Err f ≡ Err (BrokenRecord at) = sym e ∙ ap (λ (x : Result Shape TextFault). and_then x (turned day room (length (lines_of b)) at (state_of b))) r in
      let q : BrokenRecord at ≡ f = cc in
      let P : TextFault → Type 0 = λ x. Here day room at b bs x in
      subst P q (refl, p, never)

  step-told : 0 < length bs → step_of day room (length (lines_of b)) at (state_of b) bs ≡ Err f → Here day room at b bs f
  step-told p e = ⊎_elim
      (λ t. broken p (λ u. let long = u.long in let lt = ltb-true (length bs) 38 t in omega arith) (cond-true (ltb (length bs) 38) _ _ t) e)
      (λ t. ⊎_elim
      (λ y. let r : record_of at bs ≡ cut at bs (sort_of (get_or bs 0 0)) = cond-false (ltb (length bs) 38) _ _ t ∙ cond-true (eqb (get_or bs 37 0) 10) _ _ y in
      cut-told (sort_of (get_or bs 0 0)) refl (letter-is (get_or bs 0 0)) (record { long = ltb-false (length bs) 38 t; line_feed = eqb-true (get_or bs 37 0) 10 y })
      (sym (ap (λ (x : Result Shape TextFault). and_then x (turned day room (length (lines_of b)) at (state_of b))) r) ∙ e))
      (λ y. broken p (λ u. eqb-false (get_or bs 37 0) 10 y u.line_feed) (cond-false (ltb (length bs) 38) _ _ t ∙ cond-false (eqb (get_or bs 37 0) 10) _ _ y) e)
      (cases_Bool (eqb (get_or bs 37 0) 10)))
      (cases_Bool (ltb (length bs) 38))

-- a record that is taken ------------------------------------------------------

record-long : (at : ℕ) (bs : List ℕ) (sh : Shape) → record_of at bs ≡ Ok sh → 38 ≤ length bs
record-long at bs sh e = ⊎_elim
    (λ t. absurd (let c = sym e ∙ cond-true (ltb (length bs) 38) _ _ t in let z : ◌≡◌ {A = ℕ} 0 1 = cc in omega arith))
    (λ t. ltb-false (length bs) 38 t)
    (cases_Bool (ltb (length bs) 38))

-- a line is found only where there is room for it
abbrev FoundRoom : Result Brought TextFault → ℕ → ℕ → Type 0
FoundRoom (Ok step.Opened) n room = Unit {0}
FoundRoom (Ok (step.Found l)) n room = n < room
FoundRoom (Ok step.Closed) n room = Unit {0}
FoundRoom (Err e) n room = Unit {0}

room-any : (n room : ℕ) (br : Brought) → n < room → FoundRoom (Ok br) n room
room-any n room step.Opened h = tt
room-any n room (step.Found l) h = h
room-any n room step.Closed h = tt

nothing-of : {A : Type 0} {x : TextFault} {b : Brought} → ◌≡◌ {A = Result Brought TextFault} (Err x) (Ok b) → A
nothing-of e = absurd (let z : ◌≡◌ {A = ℕ} 0 1 = cc in omega arith)

turn-room : (day room n at : ℕ) (st : State) (sh : Shape) (br : Brought) → turned day room n at st sh ≡ Ok br → FoundRoom (Ok br) n room
turn-room day room n at state.Head (head f b) br e =
    let p = count-ok at day (field_of f) (blank b) step.Opened br e in
    let P : Brought → Type 0 = λ x. FoundRoom (Ok x) n room in subst P (sym p.2) tt
turn-room day room n at state.Head (strategy k f g h i) br e = nothing-of e
turn-room day room n at state.Head (trailer f b) br e = nothing-of e
turn-room day room n at state.Strategies (head f b) br e = nothing-of e
turn-room day room n at state.Strategies (strategy k f g h i) br e = ⊎_elim
    (λ t. room-any n room br (ltb-true n room t))
    (λ t. nothing-of (sym (cond-false (ltb n room) _ _ t) ∙ e))
    (cases_Bool (ltb n room))
turn-room day room n at state.Strategies (trailer f b) br e =
    let p = count-ok at n (field_of f) (blank b) step.Closed br e in
    let P : Brought → Type 0 = λ x. FoundRoom (Ok x) n room in subst P (sym p.2) tt
turn-room day room n at state.End (head f b) br e = nothing-of e
turn-room day room n at state.End (strategy k f g h i) br e = nothing-of e
turn-room day room n at state.End (trailer f b) br e = nothing-of e

step_ok : (day room n at : ℕ) (st : State) (bs : List ℕ) (br : Brought) → step_of day room n at st bs ≡ Ok br → (38 ≤ length bs) × TurnIs day n st br bs (drop 38 bs) × FoundRoom (Ok br) n room
step_ok day room n at st bs br e =
    let q = and_ok (record_of at bs) _ br e in
    let r = record-sound at bs q.0 q.1 in
    let t = turn-sound day room n at st q.0 br r.1 q.2 (drop 38 bs) in
    let P : List ℕ → Type 0 = λ x. TurnIs day n st br x (drop 38 bs) in
    (record-long at bs q.0 q.1, subst P (sym r.0) t, turn-room day room n at st q.0 br q.2)

-- the whole reading ---------------------------------------------------------

moved : (text A B bs : List ℕ) (at : ℕ) → text ≡ A ++ bs → text ≡ B ++ drop 38 bs → 38 ≤ length bs → length A ≡ at → length B ≡ at + 38
moved text A B bs at e g h l =
    let x = ap length e ∙ length-append A bs in
    let y = ap length g ∙ length-append B (drop 38 bs) in
    let d = length-drop 38 bs in
    omega arith

module _ (day room : ℕ) (text : List ℕ) (f : TextFault) where
  -- what the rest of a reading is to show
  abbrev Goes : ℕ → ℕ → Type 0
  Goes k at = (b : Before) (bs : List ℕ) → text ≡ bytes_of day b ++ bs → length (bytes_of day b) ≡ at → AllByRecursion LineFits (lines_of b) → length (lines_of b) ≤ room → length bs ≤ k →
      run k day room at (state_of b) (lines_of b) bs ≡ Err f → Place day room text f

  place : (at : ℕ) (b : Before) (bs : List ℕ) → text ≡ bytes_of day b ++ bs → length (bytes_of day b) ≡ at → AllByRecursion LineFits (lines_of b) → length (lines_of b) ≤ room → Here day room at b bs f → Place day room text f
  place at b bs e l all few h =
      let P : ℕ → Type 0 = λ x. Here day room x b bs f in
      record { before = b; left = bs; text_is = e; lines_fit = all; few = few; here = subst P (sym l) h }

  end-told : (at : ℕ) (b : Before) → ended (state_of b) at (lines_of b) ≡ Err f → Here day room at b [] f
  end-told at nothing e = let q : OutOfTurn at ≡ f = cc in let P : TextFault → Type 0 = λ x. Here day room at nothing [] x in subst P q (refl, inl (refl, tt))
  end-told at (begun ls) e = let q : OutOfTurn at ≡ f = cc in let P : TextFault → Type 0 = λ x. Here day room at (begun ls) [] x in subst P q (refl, inl (refl, tt))
  end-told at (whole ls) e = absurd (let z : ◌≡◌ {A = ℕ} 0 1 = cc in omega arith)

  next-told : (k at : ℕ) (b : Before) (bs : List ℕ) (br : Brought) → Goes k (at + 38) → text ≡ bytes_of day b ++ bs → length (bytes_of day b) ≡ at → AllByRecursion LineFits (lines_of b) → length (lines_of b) ≤ room → length bs ≤ suc k →
      (38 ≤ length bs) × TurnIs day (length (lines_of b)) (state_of b) br bs (drop 38 bs) × FoundRoom (Ok br) (length (lines_of b)) room →
      run k day room (at + 38) (next_state (state_of b) br) (kept (lines_of b) br) (drop 38 bs) ≡ Err f → Place day room text f
  next-told k at nothing bs step.Opened goes e l all few hk t h =
      let g : text ≡ (head_text day ++ []) ++ drop 38 bs = e ∙ (t.1 ∙ ap (λ (x : List ℕ). x ++ drop 38 bs) (sym (append-nil (head_text day)))) in
      goes (begun []) (drop 38 bs) g (moved text [] (head_text day ++ []) bs at e g t.0 l) tt (omega arith) (omega (arith, length-drop 38 bs, t.0)) h
  next-told k at nothing bs (step.Found x) goes e l all few hk t h = absurd t.1
  next-told k at nothing bs step.Closed goes e l all few hk t h = absurd t.1
  next-told k at (begun ls) bs step.Opened goes e l all few hk t h = absurd t.1
  next-told k at (begun ls) bs (step.Found x) goes e l all few hk t h =
      let B : List ℕ = head_text day ++ flat_map line_text ls in
      let g : text ≡ (head_text day ++ flat_map line_text (ls ++ (x ∷ []))) ++ drop 38 bs =
      e ∙ (ap (λ (y : List ℕ). B ++ y) t.1.0 ∙ (sym (append_assoc B (line_text x) (drop 38 bs)) ∙ ap (λ (y : List ℕ). y ++ drop 38 bs) (flat_map_more line_text (head_text day) ls x))) in
      goes (begun (ls ++ (x ∷ []))) (drop 38 bs) g (moved text B (head_text day ++ flat_map line_text (ls ++ (x ∷ []))) bs at e g t.0 l)
      (All-push LineFits ls x all t.1.1) (omega (arith, length_push ls x, t.2)) (omega (arith, length-drop 38 bs, t.0)) h
  next-told k at (begun ls) bs step.Closed goes e l all few hk t h =
      let B : List ℕ = head_text day ++ flat_map line_text ls in
      let g : text ≡ render day ls ++ drop 38 bs =
      e ∙ (ap (λ (y : List ℕ). B ++ y) t.1 ∙ (sym (append_assoc B (trailer_text (length ls)) (drop 38 bs)) ∙ ap (λ (y : List ℕ). y ++ drop 38 bs) (append_assoc (head_text day) (flat_map line_text ls) (trailer_text (length ls))))) in
      goes (whole ls) (drop 38 bs) g (moved text B (render day ls) bs at e g t.0 l) all few (omega (arith, length-drop 38 bs, t.0)) h
  next-told k at (whole ls) bs step.Opened goes e l all few hk t h = absurd t.1
  next-told k at (whole ls) bs (step.Found x) goes e l all few hk t h = absurd t.1
  next-told k at (whole ls) bs step.Closed goes e l all few hk t h = absurd t.1

  record-told : (k at : ℕ) (b : Before) (bs : List ℕ) → Goes k (at + 38) → 0 < length bs → text ≡ bytes_of day b ++ bs → length (bytes_of day b) ≡ at → AllByRecursion LineFits (lines_of b) → length (lines_of b) ≤ room → length bs ≤ suc k →
      (r : Result Brought TextFault) → step_of day room (length (lines_of b)) at (state_of b) bs ≡ r →
      and_then r (λ s. run k day room (at + 38) (next_state (state_of b) s) (kept (lines_of b) s) (drop 38 bs)) ≡ Err f → Place day room text f
  record-told k at b bs goes p e l all few hk (Ok br) is h = next-told k at b bs br goes e l all few hk (step_ok day room (length (lines_of b)) at (state_of b) bs br is) h
  record-told k at b bs goes p e l all few hk (Err x) is h =
      let q : x ≡ f = cc in
      place at b bs e l all few (step-told day room at b bs f p (is ∙ ap Err q))

  run-told : (k at : ℕ) → Goes k at
  run-told zero at b [] e l all few hk h = place at b [] e l all few (end-told at b h)
  run-told (suc k) at b [] e l all few hk h = place at b [] e l all few (end-told at b h)
  run-told zero at b (x ∷ xs) e l all few hk h = absurd (omega arith)
  run-told (suc k) at b (x ∷ xs) e l all few hk h =
      record-told k at b (x ∷ xs) (run-told k (at + 38)) (omega arith) e l all few hk (step_of day room (length (lines_of b)) at (state_of b) (x ∷ xs)) refl h

pub reads-told : (day room : ℕ) (text : List ℕ) (f : TextFault) → reads day room text ≡ Err f → Place day room text f
reads-told day room text f e = run-told day room text f (length text) 0 nothing text refl refl tt (omega arith) (omega arith) e

pub told-from : (day : ℕ) (text : List ℕ) (old new : List Line) (r : Result ℕ TextFault) → ReadIs day text old new r → Told day text old r
told-from day text old new (Ok n) h = tt
told-from day text old new (Err f) h = ⊎_elim
    (λ t. inr (t, reads-told day (min (length old) 64) text f (sym (cond-true (is_day day) _ _ t) ∙ h.0)))
    (λ t. inl (t, (let c = sym h.0 ∙ cond-false (is_day day) _ _ t in let q : f ≡ DayOutsideLimits = cc in q)))
    (cases_Bool (is_day day))
