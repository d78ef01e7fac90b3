use Rattle.journal.proofs.Digits.{Part}
use Rattle.journal.proofs.words.number.Given as goal

abbrev pub invariant-loop-digit : goal.invariant-loop-digit
invariant-loop-digit l = Part l.word l.digit-index l.n
