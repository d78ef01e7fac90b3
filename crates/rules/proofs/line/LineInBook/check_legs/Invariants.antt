use Rattle.std.proofs.Common.{◌≡◌, drop}
use Rattle.rules.specs.Legs.{first_leg}
use Rattle.rules.specs.Rules.{at_fault}
use Rattle.rules.proofs.line.LineInBook.check_legs.Given as goal

abbrev pub invariant-loop-i : goal.invariant-loop-i
invariant-loop-i g l =
    let legs = l.self.line.now.legs in
    let wrong = at_fault l.fault l.self.line.now.kind legs l.self.listings.rows.now in
    first_leg wrong l.i-counter (drop l.i-counter legs) ≡ first_leg wrong 0 legs
