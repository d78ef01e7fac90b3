use Rattle.std.proofs.Common.{◌≡◌, ◌+◌, length, vec_items}
use Rattle.journal.specs.Words.{texts}
use Rattle.journal.specs.Commands.{numbers_from}
use Rattle.journal.proofs.Lines.{ahead}
use Rattle.journal.proofs.command.numbers_from.Given as goal

abbrev pub invariant-loop-k : goal.invariant-loop-k
invariant-loop-k l = ahead (vec_items l.numbers) (numbers_from (texts l.line) (l.first + length l.yielded)) ≡ numbers_from (texts l.line) l.first
