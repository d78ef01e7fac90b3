use Rattle.std.proofs.Common.{◌≡◌, ◌+◌, ◌-◌, ◌*◌, length, sym, ◌∙◌, arith, rules}
use Rattle.sheet_text.proofs.Writes.{head-start, front-start, front-more, text-end}
use Rattle.sheet_text.proofs.writer.put_all.Goals as goal
use Rattle.sheet_text.specs.Sheet.{line_text, head_text}

pub loop-i-init : goal.loop-i-init
loop-i-init c =
    let lx : length c.put_count.new.out ≡ 38 = search rules in
    let lh : length (head_text c.args.day) ≡ 38 = (rw c.put_count.ensures at lx) in
    front-start line_text (head_text c.args.day) c.args.lines.now _ 38 (head-start c.put_count.new.out (head_text c.args.day) c.args.out.now c.put_count.ensures lx) lh

pub loop-i-preserved : goal.loop-i-preserved
loop-i-preserved c =
    let z : 38 * (c.loop-i.i + 1) + 38 - 38 * (c.loop-i.i + 1) ≡ 38 = omega arith in
    let m : 38 * (c.loop-i.i + 1 + 1) ≡ 38 * (c.loop-i.i + 1) + 38 = omega arith in
    let l : length c.put_line.new.out ≡ 38 = search rules in
    front-more line_text (head_text c.args.day) c.args.lines.now _ c.loop-i.i c.loop-i.out c.put_line.new.out (38 * (c.loop-i.i + 1)) 38 _ _ _ z m c.loop-i-test.true c.loop-i.invariant c.put_line.ensures l

pub returns : goal.returns
returns c =
    let z : 38 * (length c.args.lines.now + 1) + 38 - 38 * (length c.args.lines.now + 1) ≡ 38 = omega arith in
    let to : 38 * (length c.args.lines.now + 1) ≡ 38 * (c.loop-i.i + 1) = omega arith in
    let lx : length c.put_count.new.out ≡ 38 = search rules in
    let lt : length c.put_count-2.new.out ≡ 38 = search rules in
    text-end c.args.day c.args.lines.now c.args.out.now c.put_count.new.out c.loop-i.out c.put_count-2.new.out (38 * (c.loop-i.i + 1)) (38 * (length c.args.lines.now + 1)) c.loop-i.i _ (38 * (length c.args.lines.now + 2)) to
    lx c.loop-i-test.false c.loop-i.invariant c.put_count-2.ensures (lt ∙ sym z) (omega arith) (omega arith)
