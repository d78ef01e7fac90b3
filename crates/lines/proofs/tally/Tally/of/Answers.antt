use Rattle.std.proofs.Common.{◌≡◌, subst, arith}
use Rattle.std.specs.Array.{AllOfLen}
use Rattle.lines.specs.declared.lots.Lots.{Lots}
use Rattle.lines.proofs.Tallies.{none_at}
use Rattle.lines.proofs.tally.Tally.of.Goals as goal

pub loop-line-init : goal.loop-line-init
loop-line-init c =
    let blank = subst (λ sums. AllOfLen (λ (l : Lots). (l.held ≡ 0) × (l.written ≡ 0)) sums 64) c.default-tally.ensures.1 c.default-tally.ensures.2 in
    let none = none_at c.default-tally.result blank in
    (record { holding = λ r lt. (none r).0; writing = λ r lt. (none r).1 }, λ r. (omega (arith, (none r).0), omega (arith, (none r).1)), blank.long)
