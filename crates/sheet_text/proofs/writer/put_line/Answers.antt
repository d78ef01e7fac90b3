use Rattle.std.proofs.Common.{◌≡◌, ◌+◌, ◌-◌, ◌*◌, ◌<◌, ◌≤◌, [], ◌∷◌, length, refl, arith, rules}
use Rattle.sheet_text.proofs.Writes.{front-start, front-more, line-end, letter-start}
use Rattle.sheet_text.proofs.writer.put_line.Goals as goal
use Rattle.sheet_text.specs.Letters.{kind_letter}
use Rattle.sheet_text.specs.Sheet.{leg_text}

pub loop-j-init : goal.loop-j-init
loop-j-init c =
    (search rules, front-start leg_text (kind_letter c.args.line.now.kind ∷ []) c.args.line.now.legs _ 1 (letter-start c.args.out.now c.letter_of.result (kind_letter c.args.line.now.kind) (omega arith) c.letter_of.ensures) refl)

pub loop-j-preserved : goal.loop-j-preserved
loop-j-preserved c =
    let z : 1 + 9 * c.loop-j.j + 9 - (1 + 9 * c.loop-j.j) ≡ 9 = omega arith in
    let m : 1 + 9 * (c.loop-j.j + 1) ≡ 1 + 9 * c.loop-j.j + 9 = omega arith in
    let four = c.loop-j.invariant.0 in
    let h : c.loop-j.j < length c.args.line.now.legs = omega arith in
    let l : length c.put_leg.new.out ≡ 9 = search rules in
    (four, front-more leg_text (kind_letter c.args.line.now.kind ∷ []) c.args.line.now.legs _ c.loop-j.j c.loop-j.out c.put_leg.new.out (1 + 9 * c.loop-j.j) 9 _ _ (record { row = 0; lots = 0 }) z m h c.loop-j.invariant.1 c.put_leg.ensures l)

pub returns : goal.returns
returns c =
    let four = c.loop-j.invariant.0 in
    let h : length c.args.line.now.legs ≤ c.loop-j.j = omega arith in
    let p : 1 + 9 * c.loop-j.j ≡ 37 = omega arith in
    line-end c.args.line.now _ c.loop-j.out c.loop-j.j (1 + 9 * c.loop-j.j) (search rules) p h c.loop-j.invariant.1
