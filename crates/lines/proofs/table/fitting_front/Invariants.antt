use Rattle.std.proofs.Common.{◌≡◌, ◌*◌, ◌^◌, true, take}
use Rattle.lines.specs.Lots.{held, written, fitting, AtMost}
use Rattle.lines.proofs.table.fitting_front.Given as goal

abbrev pub invariant-loop-i : goal.invariant-loop-i
invariant-loop-i l =
    (l.lots.held ≡ held l.row (take l.i l.lines))
    × (l.lots.written ≡ written l.row (take l.i l.lines))
    × (fitting l.row l.net (take l.i l.lines) ≡ true)
    × AtMost (l.i * (4 * 2 ^ 32)) l.lots
