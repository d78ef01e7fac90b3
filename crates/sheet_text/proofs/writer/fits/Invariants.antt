use Rattle.std.proofs.Common.{◌≡◌, take, drop}
use Rattle.std.specs.List.{AllByRecursion}
use Rattle.sheet_text.proofs.writer.fits.Given as goal
use Rattle.sheet_text.specs.Sheet.{LineFits}
use Rattle.sheet_text.specs.Writing.{fit_of_lines}

abbrev pub invariant-loop-i : goal.invariant-loop-i
invariant-loop-i l = (fit_of_lines l.i (drop l.i l.lines) ≡ fit_of_lines 0 l.lines) × AllByRecursion LineFits (take l.i l.lines)
