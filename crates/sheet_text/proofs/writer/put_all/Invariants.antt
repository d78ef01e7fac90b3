use Rattle.std.proofs.Common.{◌+◌, ◌*◌}
use Rattle.sheet_text.proofs.Writes.{Front}
use Rattle.sheet_text.proofs.writer.put_all.Given as goal
use Rattle.sheet_text.specs.Sheet.{line_text, head_text}

abbrev pub invariant-loop-i : goal.invariant-loop-i
invariant-loop-i l = Front line_text (head_text l.day) l.lines l.i l.initial.out l.out (38 * (l.i + 1))
