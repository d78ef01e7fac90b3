use Rattle.std.proofs.Common.{◌≡◌, ◌++◌, map, take, drop}
use Rattle.terms.specs.Holdings.{closed}
use Rattle.book.proofs.rows.Rows.close.Given as goal

abbrev pub invariant-loop-row : goal.invariant-loop-row
invariant-loop-row l = l.row-items ≡ map (closed l.day) (take l.row-index l.initial.row-items) ++ drop l.row-index l.initial.row-items
