-- What the functional account of a reading says in terms of `render`.
use Rattle.std.proofs.Common.{◌≡◌, ℕ, ◌+◌, ◌*◌, ◌^◌, ◌<◌, ◌≤◌, min, true, cond, leb, List, ◌∷◌, ◌++◌, length, take, drop, Ok, Err, Result, sym, ap, ◌∙◌, ⊎_elim, append_assoc, arith, length-take}
use Rattle.std.specs.List.{AllByRecursion}
use Rattle.std.proofs.lemmas.List.{take_at}
use Rattle.std.proofs.lemmas.Bool.{cond-true, cond-false, le-leb, cases_Bool}
use Rattle.std.proofs.lemmas.Bool.Decides.{nat_tests}
use Rattle.terms.specs.Limits.{is_day}
use Rattle.terms.specs.declared.strategy.Line.{Line}
use Rattle.sheet_text.specs.declared.fault.TextFault.{TextFault}
use Rattle.sheet_text.specs.declared.fault.TextFault.TheVariants.{TooManyLines, BufferTooShort}
use Rattle.sheet_text.specs.Columns.{column}
use Rattle.sheet_text.specs.Writing.{writes}
use Rattle.sheet_text.proofs.Columns.{length-column, column-same}
use Rattle.sheet_text.proofs.Widths.{render-width, lines-pass}
use Rattle.sheet_text.specs.Told.{Told}
use Rattle.sheet_text.proofs.Places.{told-from}
use Rattle.sheet_text.proofs.Sound.{reads-sound}
use Rattle.sheet_text.proofs.Complete.{reads-complete}
use Rattle.sheet_text.specs.Sheet.{render, LineFits}
use Rattle.sheet_text.specs.Reading.{and_then, reads, reads_all, ReadIs}
use Rattle.sheet_text.specs.Laws.{Lawful, Accepted, Refused, Again}

within : (day room : ℕ) (text : List ℕ) (out : List Line) → reads_all day room text ≡ Ok out → (is_day day ≡ true) × (reads day (min room 64) text ≡ Ok out)
within day room text out e = ⊎_elim
    (λ t. (t, sym (cond-true (is_day day) _ _ t) ∙ e))
    (λ t. absurd (let c = sym e ∙ cond-false (is_day day) _ _ t in let z : ◌≡◌ {A = ℕ} 0 1 = cc in omega arith))
    (cases_Bool (is_day day))

pub day-limits : (day : ℕ) → is_day day ≡ true → (1 ≤ day) × (day ≤ 1000000)
day-limits day t = grind (arith, nat_tests)

-- a rendering is read as its lines
pub reads_all-back : (day room : ℕ) (lines : List Line) (text : List ℕ) → is_day day ≡ true → AllByRecursion LineFits lines → length lines ≤ min room 64 → text ≡ render day lines → reads_all day room text ≡ Ok lines
reads_all-back day room lines text t all few is =
    let lim = day-limits day t in
    let c : reads day (min room 64) text ≡ Ok lines = ap (reads day (min room 64)) is ∙ reads-complete day (min room 64) lines (omega arith) few (omega arith) all in
    cond-true (is_day day) _ _ t ∙ c

-- the lines of a lawful text are written in as many bytes
written_back : (day room : ℕ) (lines : List Line) (text : List ℕ) → Lawful day room lines text → writes day lines (length text) ≡ Ok (length text)
written_back day room lines text is =
    let few = is.few in
    let w : length text ≡ 38 * (length lines + 2) = ap length is.text_is ∙ render-width day lines is.lines_fit in
    cond-true (is_day day) _ _ is.day_fits
    ∙ (ap (λ (x : Result (Unit {0}) TextFault). and_then x (λ _. cond (leb (length lines) 64) (cond (leb (38 * (length lines + 2)) (length text)) (Ok (38 * (length lines + 2))) (Err (BufferTooShort (38 * (length lines + 2))))) (Err (TooManyLines 64)))) (lines-pass 0 lines is.lines_fit)
    ∙ (cond-true (leb (length lines) 64) _ _ (le-leb (length lines) 64 (omega arith))
    ∙ (cond-true (leb (38 * (length lines + 2)) (length text)) _ _ (le-leb (38 * (length lines + 2)) (length text) (omega arith))
    ∙ ap Ok (sym w))))

-- the first record of a rendering shows its day
day-same : (a b : ℕ) (S R S' R' : List ℕ) → a < 10 ^ 8 → b < 10 ^ 8 → (72 ∷ (column 8 a ++ S)) ++ R ≡ (72 ∷ (column 8 b ++ S')) ++ R' → a ≡ b
day-same a b S R S' R' ha hb e =
    let x : drop 1 ((72 ∷ (column 8 a ++ S)) ++ R) ≡ column 8 a ++ (S ++ R) = append_assoc (column 8 a) S R in
    let y : drop 1 ((72 ∷ (column 8 b ++ S')) ++ R') ≡ column 8 b ++ (S' ++ R') = append_assoc (column 8 b) S' R' in
    let q : column 8 a ++ (S ++ R) ≡ column 8 b ++ (S' ++ R') = sym x ∙ (ap (drop 1) e ∙ y) in
    let t : column 8 a ≡ column 8 b = sym (take_at (column 8 a) (S ++ R) 8 (length-column 8 a)) ∙ (ap (take 8) q ∙ take_at (column 8 b) (S' ++ R') 8 (length-column 8 b)) in
    column-same 8 a b (omega arith) ha hb t

-- a rendering is of one day and of one list of lines
pub render-same : (a b : ℕ) (ls ms : List Line) → is_day a ≡ true → is_day b ≡ true → AllByRecursion LineFits ls → AllByRecursion LineFits ms → length ms ≤ 64 → render a ls ≡ render b ms → (a ≡ b) × (ls ≡ ms)
render-same a b ls ms ta tb fl fm few e =
    let la = day-limits a ta in
    let lb = day-limits b tb in
    let d : a ≡ b = day-same a b _ _ _ _ (omega arith) (omega arith) e in
    let wl = render-width a ls fl in
    let wm = render-width b ms fm in
    let we = ap length e in
    let n : length ls ≡ length ms = omega arith in
    let x : reads a 64 (render a ls) ≡ Ok ls = reads-complete a 64 ls (omega arith) (omega arith) (omega arith) fl in
    let y : reads b 64 (render b ms) ≡ Ok ms = reads-complete b 64 ms (omega arith) (omega arith) (omega arith) fm in
    let z : reads a 64 (render a ls) ≡ reads b 64 (render b ms) = ap (reads a 64) e ∙ ap (λ (k : ℕ). reads k 64 (render b ms)) d in
    let k : Ok ls ≡ Ok ms = sym x ∙ (z ∙ y) in
    (d, cc)

-- what a writer wrote: the buffer begins with it
pub front-is : (day : ℕ) (lines : List Line) (new tail : List ℕ) (n : ℕ) → AllByRecursion LineFits lines → n ≡ 38 * (length lines + 2) → new ≡ render day lines ++ tail → take n new ≡ render day lines
front-is day lines new tail n all e is = ap (take n) is ∙ take_at (render day lines) tail n (render-width day lines all ∙ sym e)

module _ (day : ℕ) (text : List ℕ) (old new : List Line) where
  pub accepted-from : (r : Result ℕ TextFault) → length new ≡ length old → ReadIs day text old new r → Accepted day text old new r
  accepted-from (Ok n) e h =
      let s = reads-sound day (min (length old) 64) text (take n new) (within day (length old) text (take n new) h.0).1 in
      let w : length (take n new) ≡ n = simp length-take (omega (arith, h.1)) in
      let lawful : Lawful day (length old) (take n new) text = record { day_fits = (within day (length old) text (take n new) h.0).0; lines_fit = s.1; few = omega (arith, h.1); text_is = s.0 } in
      record { lawful = lawful; count = w; kept = h.2 }
  accepted-from (Err f) e h = tt

  pub refused-from : (r : Result ℕ TextFault) → ReadIs day text old new r → Refused day text old new r
  refused-from (Ok n) h = tt
  refused-from (Err f) h = (
    λ lines is. absurd (
        let c = reads_all-back day (length old) lines text is.day_fits is.lines_fit is.few is.text_is in
        let g = h.0 in
        let z : ◌≡◌ {A = ℕ} 0 1 = cc in omega arith),
    h.1,
  )

  pub again-from : (r : Result ℕ TextFault) → Accepted day text old new r → Again day text new r
  again-from (Ok n) h = (written_back day (length old) (take n new) text h.lawful, sym h.lawful.text_is)
  again-from (Err f) h = tt

-- all that follows from the answer
pub told-all : (day : ℕ) (text : List ℕ) (old new : List Line) (r : Result ℕ TextFault) → length new ≡ length old → ReadIs day text old new r →
    Accepted day text old new r × Refused day text old new r × Again day text new r × Told day text old r
told-all day text old new r e h =
    let a = accepted-from day text old new r e h in
    (a, refused-from day text old new r h, again-from day text old new r a, told-from day text old new r h)
