-- A record is its letter, its columns and the line feed, and nothing is lost in the cut.
use Rattle.std.proofs.Common.{◌≡◌, ℕ, ◌+◌, ◌-◌, ◌<◌, ◌≤◌, eqb, ltb, List, [], ◌∷◌, ◌++◌, length, get_or, take, drop, Some, None, Ok, Option, Result, sym, refl, ap, ◌∙◌, subst, ⊎_elim, append_assoc, arith, length-append, length-drop, length-take}
use Rattle.std.specs.List.{between}
use Rattle.std.proofs.lemmas.List.{take_at, drop_at, take-append-drop, drop-drop, drop_more, get_or_at}
use Rattle.std.proofs.lemmas.Bool.{cond-true, cond-false, eqb-true, eq-eqb, le-ltb, ltb-false, cases_Bool}
use Rattle.sheet_text.specs.declared.letters.Sort.{Sort}
use Rattle.sheet_text.specs.declared.letters.Sort.TheVariants as sort
use Rattle.sheet_text.specs.declared.fault.TextFault.{TextFault}
use Rattle.sheet_text.proofs.Laws.{sort-back, letter-is, LetterIs}
use Rattle.sheet_text.specs.Letters.{kind_letter, sort_letter, sort_of}
use Rattle.sheet_text.specs.Records.{Shape, head, strategy, trailer, cut, record_of, Wide}

-- the text of a record before `rest`
abbrev pub shape_text : Shape → List ℕ → List ℕ
shape_text (head f b) rest = 72 ∷ (f ++ (b ++ (10 ∷ rest)))
shape_text (strategy k f g h i) rest = kind_letter k ∷ (f ++ (g ++ (h ++ (i ++ (10 ∷ rest)))))
shape_text (trailer f b) rest = 84 ∷ (f ++ (b ++ (10 ∷ rest)))

-- from the text to the record -----------------------------------------------

part : (bs : List ℕ) (i j k : ℕ) → i + k ≡ j → j - i ≡ k → drop i bs ≡ between i j bs ++ drop j bs
part bs i j k e d =
    let a : take k (drop i bs) ++ drop k (drop i bs) ≡ drop i bs = take-append-drop k (drop i bs) in
    let b : drop k (drop i bs) ≡ drop (i + k) bs = drop-drop k i bs in
    sym a ∙ rw (b, e, d)

first : (bs : List ℕ) → 0 < length bs → bs ≡ get_or bs 0 0 ∷ drop 1 bs
first [] h = absurd (omega arith)
first (b ∷ bs) h = refl

two-parts : (bs : List ℕ) → 38 ≤ length bs → get_or bs 37 0 ≡ 10 → bs ≡ get_or bs 0 0 ∷ (between 1 9 bs ++ (between 9 37 bs ++ (10 ∷ drop 38 bs)))
two-parts bs h e =
    let z : drop 37 bs ≡ 10 ∷ drop 38 bs = drop_more bs 37 0 (omega arith) ∙ ap (λ (x : ℕ). x ∷ drop 38 bs) e in
    let y : drop 9 bs ≡ between 9 37 bs ++ (10 ∷ drop 38 bs) = part bs 9 37 28 refl refl ∙ ap (λ (x : List ℕ). between 9 37 bs ++ x) z in
    let x : drop 1 bs ≡ between 1 9 bs ++ (between 9 37 bs ++ (10 ∷ drop 38 bs)) = part bs 1 9 8 refl refl ∙ ap (λ (x : List ℕ). between 1 9 bs ++ x) y in
    first bs (omega arith) ∙ ap (λ (t : List ℕ). get_or bs 0 0 ∷ t) x

four-parts : (bs : List ℕ) → 38 ≤ length bs → get_or bs 37 0 ≡ 10 → bs ≡ get_or bs 0 0 ∷ (between 1 10 bs ++ (between 10 19 bs ++ (between 19 28 bs ++ (between 28 37 bs ++ (10 ∷ drop 38 bs)))))
four-parts bs h e =
    let z : drop 37 bs ≡ 10 ∷ drop 38 bs = drop_more bs 37 0 (omega arith) ∙ ap (λ (x : ℕ). x ∷ drop 38 bs) e in
    let y : drop 28 bs ≡ between 28 37 bs ++ (10 ∷ drop 38 bs) = part bs 28 37 9 refl refl ∙ ap (λ (x : List ℕ). between 28 37 bs ++ x) z in
    let x : drop 19 bs ≡ between 19 28 bs ++ (between 28 37 bs ++ (10 ∷ drop 38 bs)) = part bs 19 28 9 refl refl ∙ ap (λ (x : List ℕ). between 19 28 bs ++ x) y in
    let w : drop 10 bs ≡ between 10 19 bs ++ (between 19 28 bs ++ (between 28 37 bs ++ (10 ∷ drop 38 bs))) = part bs 10 19 9 refl refl ∙ ap (λ (x : List ℕ). between 10 19 bs ++ x) x in
    let v : drop 1 bs ≡ between 1 10 bs ++ (between 10 19 bs ++ (between 19 28 bs ++ (between 28 37 bs ++ (10 ∷ drop 38 bs)))) = part bs 1 10 9 refl refl ∙ ap (λ (x : List ℕ). between 1 10 bs ++ x) w in
    first bs (omega arith) ∙ ap (λ (t : List ℕ). get_or bs 0 0 ∷ t) v

wide_at : (bs : List ℕ) (i j : ℕ) → j ≤ length bs → length (between i j bs) ≡ j - i
wide_at bs i j h = simp (length-take, length-drop) (omega arith)

cut-sound : (at : ℕ) (bs : List ℕ) (o : Option Sort) (sh : Shape) → 38 ≤ length bs → get_or bs 37 0 ≡ 10 → LetterIs (get_or bs 0 0) o → cut at bs o ≡ Ok sh → (bs ≡ shape_text sh (drop 38 bs)) × Wide sh
cut-sound at bs None sh h e l c = absurd (let z : ◌≡◌ {A = ℕ} 0 1 = cc in omega arith)
cut-sound at bs (Some sort.Head) sh h e l c =
    let q : sh ≡ head (between 1 9 bs) (between 9 37 bs) = cc in
    let t = two-parts bs h e ∙ ap (λ (v : ℕ). v ∷ (between 1 9 bs ++ (between 9 37 bs ++ (10 ∷ drop 38 bs)))) l in
    let P : Shape → Type 0 = λ s. (bs ≡ shape_text s (drop 38 bs)) × Wide s in
    subst P (sym q) (t, (wide_at bs 1 9 (omega arith), wide_at bs 9 37 (omega arith)))
cut-sound at bs (Some sort.Trailer) sh h e l c =
    let q : sh ≡ trailer (between 1 9 bs) (between 9 37 bs) = cc in
    let t = two-parts bs h e ∙ ap (λ (v : ℕ). v ∷ (between 1 9 bs ++ (between 9 37 bs ++ (10 ∷ drop 38 bs)))) l in
    let P : Shape → Type 0 = λ s. (bs ≡ shape_text s (drop 38 bs)) × Wide s in
    subst P (sym q) (t, (wide_at bs 1 9 (omega arith), wide_at bs 9 37 (omega arith)))
cut-sound at bs (Some (sort.Strategy k)) sh h e l c =
    let q : sh ≡ strategy k (between 1 10 bs) (between 10 19 bs) (between 19 28 bs) (between 28 37 bs) = cc in
    let t = four-parts bs h e ∙ ap (λ (v : ℕ). v ∷ (between 1 10 bs ++ (between 10 19 bs ++ (between 19 28 bs ++ (between 28 37 bs ++ (10 ∷ drop 38 bs)))))) l in
    let P : Shape → Type 0 = λ s. (bs ≡ shape_text s (drop 38 bs)) × Wide s in
    subst P (sym q) (t, (wide_at bs 1 10 (omega arith), wide_at bs 10 19 (omega arith), wide_at bs 19 28 (omega arith), wide_at bs 28 37 (omega arith)))

pub record-sound : (at : ℕ) (bs : List ℕ) (sh : Shape) → record_of at bs ≡ Ok sh → (bs ≡ shape_text sh (drop 38 bs)) × Wide sh
record-sound at bs sh e = ⊎_elim
    (λ t. absurd (let c = sym e ∙ cond-true (ltb (length bs) 38) _ _ t in let z : ◌≡◌ {A = ℕ} 0 1 = cc in omega arith))
    (λ t. let g = sym (cond-false (ltb (length bs) 38) _ _ t) ∙ e in
    ⊎_elim
    (λ u. cut-sound at bs (sort_of (get_or bs 0 0)) sh (ltb-false (length bs) 38 t) (eqb-true (get_or bs 37 0) 10 u) (letter-is (get_or bs 0 0)) (sym (cond-true (eqb (get_or bs 37 0) 10) _ _ u) ∙ g))
    (λ u. absurd (let c = sym g ∙ cond-false (eqb (get_or bs 37 0) 10) _ _ u in let z : ◌≡◌ {A = ℕ} 0 1 = cc in omega arith))
    (cases_Bool (eqb (get_or bs 37 0) 10)))
    (cases_Bool (ltb (length bs) 38))

-- from the record to the text -----------------------------------------------

cut_at : (bs P Q R : List ℕ) (i j k : ℕ) → bs ≡ P ++ (Q ++ R) → length P ≡ i → length Q ≡ k → j - i ≡ k → between i j bs ≡ Q
cut_at bs P Q R i j k e lp lq d =
    let a : drop i bs ≡ Q ++ R = ap (drop i) e ∙ drop_at P (Q ++ R) i lp in
    ap (λ (x : List ℕ). take (j - i) x) a ∙ (ap (λ (n : ℕ). take n (Q ++ R)) d ∙ take_at Q R k lq)

record-cut : (at : ℕ) (bs P rest : List ℕ) (s : Sort) → bs ≡ P ++ (10 ∷ rest) → length P ≡ 37 → get_or bs 0 0 ≡ sort_letter s → (record_of at bs ≡ cut at bs (Some s)) × (drop 38 bs ≡ rest)
record-cut at bs P rest s e lp l =
    let n : length bs ≡ 38 + length rest = ap length e ∙ (length-append P (10 ∷ rest) ∙ omega arith) in
    let f : get_or bs 37 0 ≡ 10 = ap (λ (x : List ℕ). get_or x 37 0) e ∙ get_or_at P 10 rest 0 37 lp in
    let o : sort_of (get_or bs 0 0) ≡ Some s = ap sort_of l ∙ sort-back s in
    let a : P ++ (10 ∷ rest) ≡ (P ++ (10 ∷ [])) ++ rest = sym (append_assoc P (10 ∷ []) rest) in (
      cond-false (ltb (length bs) 38) _ _ (le-ltb (length bs) 38 (omega arith)) ∙ (cond-true (eqb (get_or bs 37 0) 10) _ _ (eq-eqb (get_or bs 37 0) 10 f) ∙ ap (cut at bs) o),
      ap (drop 38) (e ∙ a) ∙ drop_at (P ++ (10 ∷ [])) rest 38 (length-append P (10 ∷ []) ∙ omega arith),
    )

pub record-back : (at : ℕ) (sh : Shape) (rest : List ℕ) (bs : List ℕ) → bs ≡ shape_text sh rest → Wide sh → (record_of at bs ≡ Ok sh) × (drop 38 bs ≡ rest)
record-back at (head f b) rest bs e w =
    let p : bs ≡ (72 ∷ (f ++ b)) ++ (10 ∷ rest) = e ∙ ap (λ (x : List ℕ). 72 ∷ x) (sym (append_assoc f b (10 ∷ rest))) in
    let r = record-cut at bs (72 ∷ (f ++ b)) rest sort.Head p (omega (arith, length-append f b)) (ap (λ (x : List ℕ). get_or x 0 0) e) in
    let x : between 1 9 bs ≡ f = cut_at bs (72 ∷ []) f (b ++ (10 ∷ rest)) 1 9 8 e refl w.0 refl in
    let y : between 9 37 bs ≡ b = cut_at bs (72 ∷ f) b (10 ∷ rest) 9 37 28 e (omega arith) w.1 refl in
    (r.0 ∙ (let g : (u v : List ℕ) → u ≡ f → v ≡ b → ◌≡◌ {A = Result Shape TextFault} (Ok (head u v)) (Ok (head f b)) = λ u v p q. rw (p, q) in g _ _ x y), r.1)
record-back at (trailer f b) rest bs e w =
    let p : bs ≡ (84 ∷ (f ++ b)) ++ (10 ∷ rest) = e ∙ ap (λ (x : List ℕ). 84 ∷ x) (sym (append_assoc f b (10 ∷ rest))) in
    let r = record-cut at bs (84 ∷ (f ++ b)) rest sort.Trailer p (omega (arith, length-append f b)) (ap (λ (x : List ℕ). get_or x 0 0) e) in
    let x : between 1 9 bs ≡ f = cut_at bs (84 ∷ []) f (b ++ (10 ∷ rest)) 1 9 8 e refl w.0 refl in
    let y : between 9 37 bs ≡ b = cut_at bs (84 ∷ f) b (10 ∷ rest) 9 37 28 e (omega arith) w.1 refl in
    (r.0 ∙ (let g : (u v : List ℕ) → u ≡ f → v ≡ b → ◌≡◌ {A = Result Shape TextFault} (Ok (trailer u v)) (Ok (trailer f b)) = λ u v p q. rw (p, q) in g _ _ x y), r.1)
record-back at (strategy k f g h i) rest bs e w =
    let q2 : bs ≡ (kind_letter k ∷ (f ++ g)) ++ (h ++ (i ++ (10 ∷ rest))) = e ∙ ap (λ (x : List ℕ). kind_letter k ∷ x) (sym (append_assoc f g (h ++ (i ++ (10 ∷ rest))))) in
    let q3 : bs ≡ (kind_letter k ∷ ((f ++ g) ++ h)) ++ (i ++ (10 ∷ rest)) = q2 ∙ ap (λ (x : List ℕ). kind_letter k ∷ x) (sym (append_assoc (f ++ g) h (i ++ (10 ∷ rest)))) in
    let q4 : bs ≡ (kind_letter k ∷ (((f ++ g) ++ h) ++ i)) ++ (10 ∷ rest) = q3 ∙ ap (λ (x : List ℕ). kind_letter k ∷ x) (sym (append_assoc ((f ++ g) ++ h) i (10 ∷ rest))) in
    let l1 = length-append f g in let l2 = length-append (f ++ g) h in let l3 = length-append ((f ++ g) ++ h) i in
    let wf = w.0 in let wg = w.1 in let wh = w.2 in let wi = w.3 in
    let r = record-cut at bs (kind_letter k ∷ (((f ++ g) ++ h) ++ i)) rest (sort.Strategy k) q4 (omega arith) (ap (λ (x : List ℕ). get_or x 0 0) e) in
    let a : between 1 10 bs ≡ f = cut_at bs (kind_letter k ∷ []) f _ 1 10 9 e refl wf refl in
    let b : between 10 19 bs ≡ g = cut_at bs (kind_letter k ∷ f) g _ 10 19 9 e (omega arith) wg refl in
    let c : between 19 28 bs ≡ h = cut_at bs (kind_letter k ∷ (f ++ g)) h _ 19 28 9 q2 (omega arith) wh refl in
    let d : between 28 37 bs ≡ i = cut_at bs (kind_letter k ∷ ((f ++ g) ++ h)) i _ 28 37 9 q3 (omega arith) wi refl in
    (r.0 ∙ (let m : (s t u v : List ℕ) → s ≡ f → t ≡ g → u ≡ h → v ≡ i → ◌≡◌ {A = Result Shape TextFault} (Ok (strategy k s t u v)) (Ok (strategy k f g h i)) = λ s t u v p q y z. rw (p, q, y, z) in m _ _ _ _ a b c d), r.1)
