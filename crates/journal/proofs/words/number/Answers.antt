use Rattle.std.proofs.Common.{sym, arith}
use Rattle.std.proofs.lemmas.Bool.{eqb-false}
use Rattle.journal.proofs.Digits.{turn, ends}
use Rattle.journal.proofs.words.number.Goals as goal

pub overflow_mul-n : goal.overflow_mul-n
overflow_mul-n c = omega (arith, (turn c.loop-digit.invariant c.loop-digit-test.true).small)

pub overflow_sub-digit : goal.overflow_sub-digit
overflow_sub-digit c = omega (arith, (turn c.loop-digit.invariant c.loop-digit-test.true).digit)

pub overflow_add-n : goal.overflow_add-n
overflow_add-n c = omega (arith, (turn c.loop-digit.invariant c.loop-digit-test.true).small)

pub loop-digit-preserved : goal.loop-digit-preserved
loop-digit-preserved c = rw c.from.ensures (turn c.loop-digit.invariant c.loop-digit-test.true).more

pub returns : goal.returns
returns c = ends c.loop-digit.invariant c.loop-digit-test.false (omega (arith, eqb-false _ 0 (sym c.if-is_empty.ensures)))
