use Rattle.std.proofs.Common.{◌≡◌, length, ◌+◌, ◌*◌, [], ◌∷◌}
use Rattle.sheet_text.proofs.Writes.{Front}
use Rattle.sheet_text.proofs.writer.put_line.Given as goal
use Rattle.sheet_text.specs.Letters.{kind_letter}
use Rattle.sheet_text.specs.Sheet.{leg_text}

abbrev pub invariant-loop-j : goal.invariant-loop-j
invariant-loop-j l = (length l.line.legs ≡ 4) × Front leg_text (kind_letter l.line.kind ∷ []) l.line.legs l.j l.initial.out l.out (1 + 9 * l.j)
