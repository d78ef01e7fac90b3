-- How many bytes a rendering has, and that lines that fit pass the writer's test.
use Rattle.std.proofs.Common.{◌≡◌, ℕ, ◌+◌, ◌*◌, true, List, [], ◌∷◌, ◌++◌, length, replicate, None, Ok, Option, refl, ap, ◌∙◌, arith, length-append}
use Rattle.std.specs.List.{flat_map, AllByRecursion}
use Rattle.std.proofs.lemmas.Bool.{cond-true}
use Rattle.std.proofs.lemmas.Bool.Decides.{nat_tests}
use Rattle.terms.specs.declared.strategy.Leg.{Leg}
use Rattle.terms.specs.declared.strategy.Line.{Line}
use Rattle.sheet_text.specs.Letters.{kind_letter}
use Rattle.sheet_text.specs.Columns.{column}
use Rattle.sheet_text.specs.Sheet.{leg_text, line_text, head_text, trailer_text, render, LegFits, LineFits}
use Rattle.sheet_text.specs.Writing.{leg_fits, unfit, unfit_at, fit_of_lines}
use Rattle.sheet_text.proofs.Columns.{length-column}
use Rattle.sheet_text.proofs.Laws.{leg-width}
use Rattle.sheet_text.proofs.Writes.{unfit_from, unfit-is}

pub line-width : (l : Line) → LineFits l → length (line_text l) ≡ 38
line-width l fit =
    let e : flat_map leg_text l.legs ≡ leg_text fit.leg_1 ++ (leg_text fit.leg_2 ++ (leg_text fit.leg_3 ++ (leg_text fit.leg_4 ++ []))) = ap (flat_map leg_text) fit.legs_are in
    go (flat_map leg_text l.legs) (leg_text fit.leg_1) (leg_text fit.leg_2) (leg_text fit.leg_3) (leg_text fit.leg_4) e (leg-width fit.leg_1) (leg-width fit.leg_2) (leg-width fit.leg_3) (leg-width fit.leg_4)
  where
    go : (X A B C D : List ℕ) → X ≡ A ++ (B ++ (C ++ (D ++ []))) → length A ≡ 9 → length B ≡ 9 → length C ≡ 9 → length D ≡ 9 → length (kind_letter l.kind ∷ (X ++ (10 ∷ []))) ≡ 38
    go X A B C D e a b c d =
        let x : length X ≡ 36 = ap length e ∙ (length-append A (B ++ (C ++ (D ++ []))) ∙ omega (arith, length-append B (C ++ (D ++ [])), length-append C (D ++ []), length-append D [])) in
        omega (arith, length-append X (10 ∷ []))

pub count-width : (v n : ℕ) (S : List ℕ) → length S ≡ 28 → length (v ∷ (column 8 n ++ (S ++ (10 ∷ [])))) ≡ 38
count-width v n S e = omega (arith, length-append (column 8 n) (S ++ (10 ∷ [])), length-append S (10 ∷ []), length-column 8 n)

pub lines-width : (ls : List Line) → AllByRecursion LineFits ls → length (flat_map line_text ls) ≡ 38 * length ls
lines-width [] all = refl
lines-width (l ∷ ls) all = length-append (line_text l) (flat_map line_text ls) ∙ omega (arith, line-width l all.0, lines-width ls all.1)

pub render-width : (day : ℕ) (ls : List Line) → AllByRecursion LineFits ls → length (render day ls) ≡ 38 * (length ls + 2)
render-width day ls all = go (head_text day) (flat_map line_text ls) (trailer_text (length ls)) (count-width 72 day (replicate 28 32) refl) (lines-width ls all) (count-width 84 (length ls) (replicate 28 32) refl)
  where
    go : (H J T : List ℕ) → length H ≡ 38 → length J ≡ 38 * length ls → length T ≡ 38 → length (H ++ (J ++ T)) ≡ 38 * (length ls + 2)
    go H J T h j t = simp length-append (omega arith)

leg-pass : (l : Leg) → LegFits l → leg_fits l ≡ true
leg-pass l fit = let a = fit.row_fits in let b = fit.lots_fit in let c = fit.unused in grind (arith, nat_tests)

fit-pass : (j : ℕ) (l : Leg) (ls : List Leg) (o : Option ℕ) → LegFits l → unfit_from (j + 1) ls ≡ o → unfit_from j (l ∷ ls) ≡ o
fit-pass j l ls o fit e = cond-true (leg_fits l) _ _ (leg-pass l fit) ∙ e

line-pass : (l : Line) → LineFits l → unfit l.legs ≡ None
line-pass l fit =
    unfit-is l.legs
    ∙ (ap (unfit_from 0) fit.legs_are
    ∙ fit-pass 0 fit.leg_1 (fit.leg_2 ∷ fit.leg_3 ∷ fit.leg_4 ∷ []) None fit.fit_1 (fit-pass (0 + 1) fit.leg_2 (fit.leg_3 ∷ fit.leg_4 ∷ []) None fit.fit_2 (fit-pass (0 + 1 + 1) fit.leg_3 (fit.leg_4 ∷ []) None fit.fit_3 (fit-pass (0 + 1 + 1 + 1) fit.leg_4 [] None fit.fit_4 refl))))

pub lines-pass : (i : ℕ) (ls : List Line) → AllByRecursion LineFits ls → fit_of_lines i ls ≡ Ok tt
lines-pass i [] all = refl
lines-pass i (l ∷ ls) all = ap (λ (o : Option ℕ). unfit_at i o (fit_of_lines (i + 1) ls)) (line-pass l all.0) ∙ lines-pass (i + 1) ls all.1
