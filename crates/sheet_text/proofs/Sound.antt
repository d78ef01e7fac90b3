-- A text that is read is the rendering of the lines that it is read as.
use Rattle.std.proofs.Common.{◌≡◌, ℕ, zero, suc, ◌+◌, Bool, true, false, eqb, ltb, List, [], ◌∷◌, ◌++◌, length, drop, replicate, Some, None, Ok, Err, Option, Result, sym, refl, ap, ◌∙◌, subst, ⊎_elim, append_assoc, append-nil, arith}
use Rattle.std.specs.List.{flat_map, AllByRecursion}
use Rattle.std.proofs.lemmas.Bool.{cond-true, cond-false, eqb-true, cases_Bool}
use Rattle.terms.specs.declared.strategy.Kind.{Kind}
use Rattle.terms.specs.declared.strategy.Line.{Line}
use Rattle.sheet_text.specs.declared.reader.State.{State}
use Rattle.sheet_text.specs.declared.reader.State.TheVariants as state
use Rattle.sheet_text.specs.Brought.{Brought}
use Rattle.sheet_text.specs.Brought as step
use Rattle.sheet_text.specs.declared.fault.TextFault.{TextFault}
use Rattle.sheet_text.proofs.Laws.{leg-sound, field_is}
use Rattle.sheet_text.proofs.Blanks.{spaces-blank}
use Rattle.sheet_text.proofs.Cuts.{shape_text, record-sound}
use Rattle.sheet_text.specs.Letters.{kind_letter}
use Rattle.sheet_text.specs.Columns.{column, field_of, blank}
use Rattle.sheet_text.specs.Records.{Shape, head, strategy, trailer, record_of, Wide}
use Rattle.sheet_text.specs.Sheet.{leg_text, line_text, head_text, trailer_text, render, LineFits}
use Rattle.sheet_text.specs.Reading.{and_then, leg_of, line_of, count_is, found, turned, step_of, next_state, kept, ended, run, reads}

pub and_ok : {A B E : Type 0} (x : Result A E) (f : A → Result B E) (y : B) → and_then x f ≡ Ok y → (a : A) × (x ≡ Ok a) × (f a ≡ Ok y)
and_ok (Ok a) f y e = (a, refl, e)
and_ok (Err r) f y e = absurd (let z : ◌≡◌ {A = ℕ} 0 1 = cc in omega arith)

pub line-join : (v : ℕ) (A B C D rest : List ℕ) → v ∷ (A ++ (B ++ (C ++ (D ++ (10 ∷ rest))))) ≡ (v ∷ ((A ++ (B ++ (C ++ (D ++ [])))) ++ (10 ∷ []))) ++ rest
line-join v A B C D rest = simp (append_assoc, append-nil)

pub count-join : (v : ℕ) (F S rest : List ℕ) → v ∷ (F ++ (S ++ (10 ∷ rest))) ≡ (v ∷ (F ++ (S ++ (10 ∷ [])))) ++ rest
count-join v F S rest = simp append_assoc

line-sound : (at : ℕ) (k : Kind) (f g h i : List ℕ) (l : Line) → Wide (strategy k f g h i) → line_of at k f g h i ≡ Ok l → (rest : List ℕ) → (shape_text (strategy k f g h i) rest ≡ line_text l ++ rest) × LineFits l
line-sound at k f g h i l w e rest =
    let p = and_ok (leg_of (at + 1) f) _ l e in
    let q = and_ok (leg_of (at + 10) g) _ l p.2 in
    let r = and_ok (leg_of (at + 19) h) _ l q.2 in
    let s = and_ok (leg_of (at + 28) i) _ l r.2 in
    let a = leg-sound (at + 1) f p.0 w.0 p.1 in
    let b = leg-sound (at + 10) g q.0 w.1 q.1 in
    let c = leg-sound (at + 19) h r.0 w.2 r.1 in
    let d = leg-sound (at + 28) i s.0 w.3 s.1 in
    let L : Line = record { kind = k; legs = p.0 ∷ q.0 ∷ r.0 ∷ s.0 ∷ [] } in
    let t : L ≡ l = (let z = s.2 in cc) in
    let m : (A B C D : List ℕ) → f ≡ A → g ≡ B → h ≡ C → i ≡ D → shape_text (strategy k f g h i) rest ≡ kind_letter k ∷ (A ++ (B ++ (C ++ (D ++ (10 ∷ rest))))) = λ A B C D x y z u. rw (x, y, z, u) in (
      m _ _ _ _ a.0 b.0 c.0 d.0 ∙ (line-join (kind_letter k) (leg_text p.0) (leg_text q.0) (leg_text r.0) (leg_text s.0) rest ∙ ap (λ (x : Line). line_text x ++ rest) t),
      record { leg_1 = p.0; leg_2 = q.0; leg_3 = r.0; leg_4 = s.0; legs_are = ap (λ (x : Line). x.legs) (sym t); fit_1 = a.1; fit_2 = b.1; fit_3 = c.1; fit_4 = d.1 },
    )

pub count-ok : (at n : ℕ) (o : Option ℕ) (b : Bool) (s br : Brought) → count_is at n o b s ≡ Ok br → (o ≡ Some n) × (b ≡ true) × (br ≡ s)
count-ok at n None b s br e = absurd (let z : ◌≡◌ {A = ℕ} 0 1 = cc in omega arith)
count-ok at n (Some m) false s br e = absurd (let z : ◌≡◌ {A = ℕ} 0 1 = cc in omega arith)
count-ok at n (Some m) true s br e = ⊎_elim
    (λ t. let c = sym e ∙ cond-true (eqb m n) _ _ t in (ap Some (eqb-true m n t), refl, cc))
    (λ t. absurd (let c = sym e ∙ cond-false (eqb m n) _ _ t in let z : ◌≡◌ {A = ℕ} 0 1 = cc in omega arith))
    (cases_Bool (eqb m n))

-- the text of a record that brought something
abbrev pub TurnIs : ℕ → ℕ → State → Brought → List ℕ → List ℕ → Type 0
TurnIs day n state.Head step.Opened bs rest = bs ≡ head_text day ++ rest
TurnIs day n state.Head (step.Found l) bs rest = ⊥
TurnIs day n state.Head step.Closed bs rest = ⊥
TurnIs day n state.Strategies step.Opened bs rest = ⊥
TurnIs day n state.Strategies (step.Found l) bs rest = (bs ≡ line_text l ++ rest) × LineFits l
TurnIs day n state.Strategies step.Closed bs rest = bs ≡ trailer_text n ++ rest
TurnIs day n state.End step.Opened bs rest = ⊥
TurnIs day n state.End (step.Found l) bs rest = ⊥
TurnIs day n state.End step.Closed bs rest = ⊥

count-text : (v at n : ℕ) (f b : List ℕ) (s br : Brought) → length f ≡ 8 → length b ≡ 28 → count_is at n (field_of f) (blank b) s ≡ Ok br → (rest : List ℕ) → (v ∷ (f ++ (b ++ (10 ∷ rest))) ≡ (v ∷ (column 8 n ++ (replicate 28 32 ++ (10 ∷ [])))) ++ rest) × (br ≡ s)
count-text v at n f b s br wf wb e rest =
    let p = count-ok at n (field_of f) (blank b) s br e in
    let x = field_is f 8 n wf (omega arith) p.0 in
    let y : b ≡ replicate 28 32 = spaces-blank b p.1 ∙ ap (λ (k : ℕ). replicate k 32) wb in
    let m : (A B : List ℕ) → f ≡ A → b ≡ B → v ∷ (f ++ (b ++ (10 ∷ rest))) ≡ v ∷ (A ++ (B ++ (10 ∷ rest))) = λ A B u w. rw (u, w) in
    (m _ _ x.0 y ∙ count-join v (column 8 n) (replicate 28 32) rest, p.2)

no : {A : Type 0} {x : TextFault} {b : Brought} → ◌≡◌ {A = Result Brought TextFault} (Err x) (Ok b) → A
no e = absurd (let z : ◌≡◌ {A = ℕ} 0 1 = cc in omega arith)

pub turn-sound : (day cap n at : ℕ) (st : State) (sh : Shape) (br : Brought) → Wide sh → turned day cap n at st sh ≡ Ok br → (rest : List ℕ) → TurnIs day n st br (shape_text sh rest) rest
turn-sound day cap n at state.Head (head f b) br w e rest =
    let p = count-text 72 at day f b step.Opened br w.0 w.1 e rest in
    let P : Brought → Type 0 = λ x. TurnIs day n state.Head x (shape_text (head f b) rest) rest in subst P (sym p.1) p.0
turn-sound day cap n at state.Head (strategy k f g h i) br w e rest = no e
turn-sound day cap n at state.Head (trailer f b) br w e rest = no e
turn-sound day cap n at state.Strategies (head f b) br w e rest = no e
turn-sound day cap n at state.Strategies (strategy k f g h i) br w e rest = ⊎_elim
    (λ t. let c : found (line_of at k f g h i) ≡ Ok br = sym (cond-true (ltb n cap) _ _ t) ∙ e in
    go (line_of at k f g h i) refl c)
    (λ t. no (sym (cond-false (ltb n cap) _ _ t) ∙ e))
    (cases_Bool (ltb n cap))
  where
    go : (x : Result Line TextFault) → line_of at k f g h i ≡ x → found x ≡ Ok br → TurnIs day n state.Strategies br (shape_text (strategy k f g h i) rest) rest
    go (Ok l) is c =
        let q : step.Found l ≡ br = cc in
        let P : Brought → Type 0 = λ x. TurnIs day n state.Strategies x (shape_text (strategy k f g h i) rest) rest in
        subst P q (line-sound at k f g h i l w is rest)
    go (Err x) is c = no c
turn-sound day cap n at state.Strategies (trailer f b) br w e rest =
    let p = count-text 84 at n f b step.Closed br w.0 w.1 e rest in
    let P : Brought → Type 0 = λ x. TurnIs day n state.Strategies x (shape_text (trailer f b) rest) rest in subst P (sym p.1) p.0
turn-sound day cap n at state.End (head f b) br w e rest = no e
turn-sound day cap n at state.End (strategy k f g h i) br w e rest = no e
turn-sound day cap n at state.End (trailer f b) br w e rest = no e

-- what is left of the text, where `ls` are found and `out` is the answer
abbrev pub Left : ℕ → State → List Line → List Line → List ℕ → Type 0
Left day state.Head ls out bs = (more : List Line) × (out ≡ ls ++ more) × (bs ≡ head_text day ++ (flat_map line_text more ++ trailer_text (length out))) × AllByRecursion LineFits more
Left day state.Strategies ls out bs = (more : List Line) × (out ≡ ls ++ more) × (bs ≡ flat_map line_text more ++ trailer_text (length out)) × AllByRecursion LineFits more
Left day state.End ls out bs = (out ≡ ls) × (bs ≡ [])

join : (day : ℕ) (st : State) (br : Brought) (ls out : List Line) (bs rest : List ℕ) → TurnIs day (length ls) st br bs rest → Left day (next_state st br) (kept ls br) out rest → Left day st ls out bs
join day state.Head step.Opened ls out bs rest t r = (r.0, r.1, t ∙ ap (λ (x : List ℕ). head_text day ++ x) r.2, r.3)
join day state.Head (step.Found l) ls out bs rest t r = absurd t
join day state.Head step.Closed ls out bs rest t r = absurd t
join day state.Strategies step.Opened ls out bs rest t r = absurd t
join day state.Strategies (step.Found l) ls out bs rest t r = (
  l ∷ r.0,
  r.1 ∙ append_assoc ls (l ∷ []) r.0,
  t.0 ∙ (ap (λ (x : List ℕ). line_text l ++ x) r.2 ∙ sym (append_assoc (line_text l) (flat_map line_text r.0) (trailer_text (length out)))),
  (t.1, r.3),
)
join day state.Strategies step.Closed ls out bs rest t r = (
  [],
  r.0 ∙ sym (append-nil ls),
  t ∙ (ap (λ (x : List ℕ). trailer_text (length ls) ++ x) r.1 ∙ (append-nil (trailer_text (length ls)) ∙ ap (λ (x : List Line). trailer_text (length x)) (sym r.0))),
  tt,
)
join day state.End step.Opened ls out bs rest t r = absurd t
join day state.End (step.Found l) ls out bs rest t r = absurd t
join day state.End step.Closed ls out bs rest t r = absurd t

end-ok : (day at : ℕ) (st : State) (ls out : List Line) → ended st at ls ≡ Ok out → Left day st ls out []
end-ok day at state.Head ls out e = absurd (let z : ◌≡◌ {A = ℕ} 0 1 = cc in omega arith)
end-ok day at state.Strategies ls out e = absurd (let z : ◌≡◌ {A = ℕ} 0 1 = cc in omega arith)
end-ok day at state.End ls out e = (cc, refl)

run_sound : (k day cap at : ℕ) (st : State) (ls : List Line) (bs : List ℕ) (out : List Line) → run k day cap at st ls bs ≡ Ok out → Left day st ls out bs
run_sound zero day cap at st ls [] out e = end-ok day at st ls out e
run_sound (suc k) day cap at st ls [] out e = end-ok day at st ls out e
run_sound zero day cap at st ls (b ∷ bs) out e = absurd (let z : ◌≡◌ {A = ℕ} 0 1 = cc in omega arith)
run_sound (suc k) day cap at st ls (b ∷ bs) out e =
    let p = and_ok (step_of day cap (length ls) at st (b ∷ bs)) _ out e in
    let q = and_ok (record_of at (b ∷ bs)) _ p.0 p.1 in
    let r = record-sound at (b ∷ bs) q.0 q.1 in
    let t = turn-sound day cap (length ls) at st q.0 p.0 r.1 q.2 (drop 38 (b ∷ bs)) in
    let P : List ℕ → Type 0 = λ x. TurnIs day (length ls) st p.0 x (drop 38 (b ∷ bs)) in
    join day st p.0 ls out (b ∷ bs) (drop 38 (b ∷ bs)) (subst P (sym r.0) t)
    (run_sound k day cap (at + 38) (next_state st p.0) (kept ls p.0) (drop 38 (b ∷ bs)) out p.2)

-- the theorem
pub reads-sound : (day cap : ℕ) (text : List ℕ) (out : List Line) → reads day cap text ≡ Ok out → (text ≡ render day out) × AllByRecursion LineFits out
reads-sound day cap text out e =
    let r = run_sound (length text) day cap 0 state.Head [] text out e in
    let P : List Line → Type 0 = λ x. (text ≡ head_text day ++ (flat_map line_text x ++ trailer_text (length out))) × AllByRecursion LineFits x in
    subst P (sym r.1) (r.2, r.3)
