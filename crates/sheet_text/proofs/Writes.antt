-- A buffer that is written from the front: what is written so far, and what the buffer held past it.
use Rattle.std.proofs.Common.{◌≡◌, ℕ, suc, ◌+◌, ◌<◌, ◌≤◌, Bool, not, cond, ltb, ⊎_elim, List, [], ◌∷◌, ◌++◌, length, get_or, take, drop, set, replicate, Some, None, Option, sym, refl, ap, ◌∙◌, append_assoc, append-nil, arith, length-append}
use lib.ListN.{length-replicate}
use Rattle.sheet_text.proofs.Columns.{length-column}
use Rattle.std.proofs.lemmas.List.{drop-drop, drop_all, drop_more, take_at, drop_at, set_at, take_all, take_more, flat_map_more}
use Rattle.std.specs.List.{flat_map, position_or_len}
use Rattle.terms.specs.declared.strategy.Leg.{Leg}
use Rattle.terms.specs.declared.strategy.Line.{Line}
use Rattle.std.proofs.lemmas.Bool.{cond-true, cond-false, lt-ltb, le-ltb, cases_lt, cases_Bool}
use Rattle.std.proofs.lemmas.Slice.{drop-append-drop}
use borrow.Rule.Slice.PartMut.{post_of, put_mid}
use Rattle.sheet_text.specs.Letters.{kind_letter}
use Rattle.sheet_text.specs.Columns.{column}
use Rattle.sheet_text.specs.Sheet.{leg_text, line_text, head_text, trailer_text, render}
use Rattle.sheet_text.specs.Writing.{leg_fits, unfit, unfit_at, fit_of_lines}

pub put_next : (xs P ys old : List ℕ) (at k m : ℕ) → xs ≡ P ++ drop at old → length P ≡ at → length ys ≡ k → m ≡ at + k → put_mid at k xs ys ≡ (P ++ ys) ++ drop m old
put_next xs P ys old at k m x lp ly e =
    let t = take_at P (drop at old) at lp in
    let d = drop_at P (drop at old) at lp in
    let dd : drop k (drop at old) ≡ drop (at + k) old = drop-drop k at old in
    simp (x, t, d, dd, e, append_assoc)

pub set_first : (old : List ℕ) (v : ℕ) → 0 < length old → set old 0 v ≡ (v ∷ []) ++ drop 1 old
set_first [] v h = absurd (omega arith)
set_first (x ∷ xs) v h = refl

pub set_next : (xs P old : List ℕ) (at v m : ℕ) → xs ≡ P ++ drop at old → length P ≡ at → at < length old → m ≡ at + 1 → set xs at v ≡ (P ++ (v ∷ [])) ++ drop m old
set_next xs P old at v m x lp h e =
    let d = drop_more old at 0 h in
    let s = set_at P (get_or old at 0) (drop (at + 1) old) v at lp in
    rw (x, d, s, e, append_assoc)

pub all-put : (xs P old : List ℕ) (n : ℕ) → xs ≡ P ++ drop n old → length old ≤ n → xs ≡ P
all-put xs P old n x h = let z = drop_all n old h in x ∙ rw z (append-nil P)

pub count-put : (old F S : List ℕ) (v : ℕ) → length old ≡ 38 → length F ≡ 8 → length S ≡ 28 →
    set (put_mid 9 28 (put_mid 1 8 (set old 0 v) F) S) 37 10 ≡ v ∷ (F ++ (S ++ (10 ∷ [])))
count-put old F S v lo lf ls =
    let a = set_first old v (omega arith) in
    let b = put_next (set old 0 v) (v ∷ []) F old 1 8 9 a refl lf refl in
    let c = put_next (put_mid 1 8 (set old 0 v) F) ((v ∷ []) ++ F) S old 9 28 37 b (simp length-append (omega arith)) ls refl in
    let d = set_next (put_mid 9 28 (put_mid 1 8 (set old 0 v) F) S) (((v ∷ []) ++ F) ++ S) old 37 10 38 c (simp length-append (omega arith)) (omega arith) refl in
    let r : (((v ∷ []) ++ F) ++ S) ++ (10 ∷ []) ≡ v ∷ (F ++ (S ++ (10 ∷ []))) = simp append_assoc in all-put _ _ old 38 d (omega arith) ∙ r

-- a part that was written whole
pub column-wide : (F : List ℕ) (l n w : ℕ) → F ≡ column l n → length F ≡ w → F ≡ column w n
column-wide F l n w e h = let q : l ≡ w = sym (length-column l n) ∙ (sym (ap length e) ∙ h) in e ∙ ap (λ (k : ℕ). column k n) q

pub spaces-wide : (F : List ℕ) (l w : ℕ) → F ≡ replicate l 32 → length F ≡ w → F ≡ replicate w 32
spaces-wide F l w e h = let q : l ≡ w = sym (length-replicate l 32) ∙ (sym (ap length e) ∙ h) in e ∙ ap (λ (k : ℕ). replicate k 32) q

pub leg-put : (old F G : List ℕ) → length old ≡ 9 → length F ≡ 3 → length G ≡ 6 → put_mid 3 6 (F ++ post_of 0 3 old) G ≡ F ++ G
leg-put old F G lo lf lg = all-put _ _ old 9 (put_next (F ++ drop 3 old) F G old 3 6 9 refl lf lg refl) (omega arith)

pub four : (xs : List Leg) → length xs ≡ 4 → xs ≡ get_or xs 0 (record { row = 0; lots = 0 }) ∷ get_or xs 1 (record { row = 0; lots = 0 }) ∷ get_or xs 2 (record { row = 0; lots = 0 }) ∷ get_or xs 3 (record { row = 0; lots = 0 }) ∷ []
four [] e = absurd (omega arith)
four (a ∷ []) e = absurd (omega arith)
four (a ∷ b ∷ []) e = absurd (omega arith)
four (a ∷ b ∷ c ∷ []) e = absurd (omega arith)
four (a ∷ b ∷ c ∷ d ∷ []) e = refl
four (a ∷ b ∷ c ∷ d ∷ x ∷ xs) e = absurd (omega arith)

-- the buffer holds the text so far, and past it what it held; over any head H and text f of an item, so that neither computes
abbrev pub Front : {X : Type 0} → (X → List ℕ) → List ℕ → List X → ℕ → List ℕ → List ℕ → ℕ → Type 0
Front f H lines i old out at = (out ≡ (H ++ flat_map f (take i lines)) ++ drop at old) × (length (H ++ flat_map f (take i lines)) ≡ at)

module _ {X : Type 0} (f : X → List ℕ) (H : List ℕ) (items : List X) (old : List ℕ) where
  pub front-start : (at : ℕ) → old ≡ H ++ drop at old → length H ≡ at → Front f H items 0 old old at
  front-start at e lh = (e ∙ ap (λ (x : List ℕ). x ++ drop at old) (sym (append-nil H)), ap length (append-nil H) ∙ lh)

  pub front-more : (i : ℕ) (out L : List ℕ) (at k k' m : ℕ) (d : X) → k' ≡ k → m ≡ at + k → i < length items → Front f H items i old out at → L ≡ f (get_or items i d) → length L ≡ k →
      Front f H items (i + 1) old (put_mid at k' out L) m
  front-more i out L at k k' m d ek em h fr e ll =
      let l : X = get_or items i d in
      let t : take (i + 1) items ≡ take i items ++ (l ∷ []) = take_more items i d h in
      let g : H ++ flat_map f (take (i + 1) items) ≡ (H ++ flat_map f (take i items)) ++ L =
      ap (λ (x : List X). H ++ flat_map f x) t ∙ (sym (flat_map_more f H (take i items) l) ∙ ap (λ (x : List ℕ). (H ++ flat_map f (take i items)) ++ x) (sym e)) in
      let n : length (H ++ flat_map f (take (i + 1) items)) ≡ m = ap length g ∙ (length-append (H ++ flat_map f (take i items)) L ∙ omega (arith, fr.1)) in (
        ap (λ (j : ℕ). put_mid at j out L) ek ∙ put_next out (H ++ flat_map f (take i items)) L old at k m fr.0 fr.1 ll em ∙ ap (λ (x : List ℕ). x ++ drop m old) (sym g),
        n,
      )

  pub front-all : (i : ℕ) (out : List ℕ) (at : ℕ) → length items ≤ i → Front f H items i old out at → (out ≡ (H ++ flat_map f items) ++ drop at old) × (length (H ++ flat_map f items) ≡ at)
  front-all i out at h fr = let t : take i items ≡ items = take_all i items h in rw t at fr

pub head-start : (X H old : List ℕ) → X ≡ H → length X ≡ 38 → X ++ drop 38 old ≡ H ++ drop 38 (X ++ drop 38 old)
head-start X H old e n = ap (λ (x : List ℕ). X ++ x) (sym (drop_at X (drop 38 old) 38 n)) ∙ ap (λ (x : List ℕ). x ++ drop 38 (X ++ drop 38 old)) e

pub letter-start : (old : List ℕ) (v w : ℕ) → 0 < length old → v ≡ w → set old 0 v ≡ (w ∷ []) ++ drop 1 (set old 0 v)
letter-start [] v w h e = absurd (omega arith)
letter-start (x ∷ xs) v w h e = ap (λ (y : ℕ). y ∷ xs) e

-- a strategy whose legs are written
pub line-end : (l : Line) (old out : List ℕ) (i at : ℕ) → length old ≡ 38 → at ≡ 37 → length l.legs ≤ i → Front leg_text (kind_letter l.kind ∷ []) l.legs i old out at → set out 37 10 ≡ line_text l
line-end l old out i at lo ea h fr =
    let a = front-all leg_text (kind_letter l.kind ∷ []) l.legs old i out at h fr in
    let b : set out at 10 ≡ line_text l ++ drop 38 old = set_next out ((kind_letter l.kind ∷ []) ++ flat_map leg_text l.legs) old at 10 38 a.0 a.1 (omega arith) (omega arith) in
    let c : set out 37 10 ≡ set out at 10 = ap (λ (k : ℕ). set out k 10) (sym ea) in
    c ∙ all-put _ _ old 38 b (omega arith)

-- a text whose lines are written
pub text-end : (day : ℕ) (lines : List Line) (old X out T : List ℕ) (at to i k m : ℕ) → to ≡ at → length X ≡ 38 → length lines ≤ i → Front line_text (head_text day) lines i (X ++ drop 38 old) out at →
    T ≡ trailer_text (length lines) → length T ≡ k → m ≡ at + k → 38 ≤ m → put_mid to k out T ≡ render day lines ++ drop m old
text-end day lines old X out T at to i k m et lx h fr e lt em le =
    let a = front-all line_text (head_text day) lines (X ++ drop 38 old) i out at h fr in
    let p = put_next out (head_text day ++ flat_map line_text lines) T (X ++ drop 38 old) at k m a.0 a.1 lt em in
    let q : (head_text day ++ flat_map line_text lines) ++ T ≡ render day lines = rw e (append_assoc (head_text day) (flat_map line_text lines) (trailer_text (length lines))) in
    ap (λ (j : ℕ). put_mid j k out T) et ∙ (p ∙ (ap (λ (x : List ℕ). x ++ drop m (X ++ drop 38 old)) q ∙ ap (λ (x : List ℕ). render day lines ++ x) (drop-append-drop 38 old X m le lx)))

-- the place of the first leg that does not fit, of those from the j-th on
abbrev pub unfit_from : ℕ → List Leg → Option ℕ
unfit_from j [] = None
unfit_from j (l ∷ ls) = cond (leg_fits l) (unfit_from (j + 1) ls) (Some j)

abbrev fitting : List Leg → ℕ
fitting ls = position_or_len (λ l. not (leg_fits l)) ls

place-step : (a b j : ℕ) → cond (ltb (1 + a) (suc b)) (Some (j + (1 + a))) None ≡ cond (ltb a b) (Some (j + 1 + a)) None
place-step a b j = ⊎_elim
    (λ t. let e : j + (1 + a) ≡ j + 1 + a = omega arith in simp (lt-ltb (1 + a) (suc b) (omega arith), lt-ltb a b t, e))
    (λ t. simp (le-ltb (1 + a) (suc b) (omega arith), le-ltb a b t))
    (cases_lt a b)

pub unfit-is : (ls : List Leg) → unfit ls ≡ unfit_from 0 ls
unfit-is ls = let e : fitting ls ≡ 0 + fitting ls = omega arith in ap (λ (k : ℕ). cond (ltb (fitting ls) (length ls)) (Some k) None) e ∙ go 0 ls
  where
    go : (j : ℕ) (xs : List Leg) → cond (ltb (fitting xs) (length xs)) (Some (j + fitting xs)) None ≡ unfit_from j xs
    go j [] = refl
    go j (l ∷ xs) =
        let P : ℕ → Option ℕ = λ a. cond (ltb a (suc (length xs))) (Some (j + a)) None in
        ⊎_elim
        (λ t. ap P (cond-true (not (not (leg_fits l))) (1 + fitting xs) 0 (ap (λ (b : Bool). not (not b)) t)) ∙ (place-step (fitting xs) (length xs) j ∙ (go (j + 1) xs ∙ sym (cond-true (leg_fits l) _ _ t))))
        (λ t. let e : j + 0 ≡ j = omega arith in let z : P 0 ≡ Some j = simp (lt-ltb 0 (suc (length xs)) (omega arith), e) in
        ap P (cond-false (not (not (leg_fits l))) (1 + fitting xs) 0 (ap (λ (b : Bool). not (not b)) t)) ∙ (z ∙ sym (cond-false (leg_fits l) _ _ t)))
        (cases_Bool (leg_fits l))

-- the loop that looks for a leg outside its limits
pub fit_at : (ls : List Line) (i : ℕ) (d : Line) → i < length ls → fit_of_lines i (drop i ls) ≡ unfit_at i (unfit (get_or ls i d).legs) (fit_of_lines (i + 1) (drop (i + 1) ls))
fit_at ls i d h = ap (fit_of_lines i) (drop_more ls i d h)

pub fit_none : (ls : List Line) (i : ℕ) (d : Line) → i < length ls → None ≡ unfit (get_or ls i d).legs → fit_of_lines i (drop i ls) ≡ fit_of_lines (i + 1) (drop (i + 1) ls)
fit_none ls i d h e = fit_at ls i d h ∙ ap (λ (o : Option ℕ). unfit_at i o (fit_of_lines (i + 1) (drop (i + 1) ls))) (sym e)
