use Rattle.std.proofs.Common.{◌≡◌, ℕ, ◌+◌, ◌*◌, ◌^◌, ◌<◌, ◌≤◌, length, drop}
use Rattle.terms.specs.Limits.{most_rows}
use Rattle.lines.specs.Lots.{leg_sum, held_leg, written_leg}
use Rattle.lines.specs.Tally.{lots_at}
use Rattle.lines.proofs.tally.Tally.add_line.Given as goal

abbrev pub invariant-loop-i : goal.invariant-loop-i
invariant-loop-i l =
    ((r : ℕ) → r < most_rows → (lots_at l.self r).held + leg_sum (held_leg l.line.kind r) l.i (drop l.i l.line.legs) ≡ (lots_at l.initial.self r).held + leg_sum (held_leg l.line.kind r) 0 l.line.legs)
    × ((r : ℕ) → r < most_rows → (lots_at l.self r).written + leg_sum (written_leg l.line.kind r) l.i (drop l.i l.line.legs) ≡ (lots_at l.initial.self r).written + leg_sum (written_leg l.line.kind r) 0 l.line.legs)
    × ((r : ℕ) → (lots_at l.self r).held ≤ (lots_at l.initial.self r).held + l.i * 2 ^ 32)
    × ((r : ℕ) → (lots_at l.self r).written ≤ (lots_at l.initial.self r).written + l.i * 2 ^ 32)
    × (length l.self ≡ length l.initial.self)
