use Rattle.std.proofs.Common.{◌≡◌, ◌+◌, ◌*◌, ◌^◌, ◌≤◌, drop}
use Rattle.lines.specs.Lots.{leg_sum, held_leg, written_leg, holds, writes}
use Rattle.lines.proofs.lots.lots_in.Given as goal

abbrev pub invariant-loop-i : goal.invariant-loop-i
invariant-loop-i l =
    (l.lots.held + leg_sum (held_leg l.line.kind l.row) l.i (drop l.i l.line.legs) ≡ holds l.row l.line)
    × (l.lots.written + leg_sum (written_leg l.line.kind l.row) l.i (drop l.i l.line.legs) ≡ writes l.row l.line)
    × (l.lots.held ≤ l.i * 2 ^ 32)
    × (l.lots.written ≤ l.i * 2 ^ 32)
