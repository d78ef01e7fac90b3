use Rattle.std.proofs.Common.{◌≡◌, ◌*◌, ◌^◌, length, take}
use Rattle.lines.specs.Tally.{Below, Tallies}
use Rattle.lines.proofs.tally.Tally.of.Given as goal

abbrev pub invariant-loop-line : goal.invariant-loop-line
invariant-loop-line l = Tallies (take l.line-index l.lines) l.tally × Below (l.line-index * (4 * 2 ^ 32)) l.tally × (length l.tally ≡ 64)
