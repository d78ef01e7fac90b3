use Rattle.std.proofs.Common.{◌+◌, length}
use Rattle.journal.specs.Words.{texts}
use Rattle.journal.proofs.Lines.{Filled}
use Rattle.journal.proofs.command.surcharge.Given as goal

abbrev pub invariant-loop-k : goal.invariant-loop-k
invariant-loop-k l = Filled (texts l.line) l.percentages (1 + length l.yielded)
