use Rattle.std.proofs.Common.{◌≡◌, min, length}
use Rattle.std.specs.Slice.Iter.{chunks_size, chunks_rest}
use Rattle.sheet_text.proofs.Scans.{Underway}
use Rattle.sheet_text.proofs.reader.read.Given as goal

abbrev pub invariant-loop-piece : goal.invariant-loop-piece
invariant-loop-piece l = (chunks_size l.piece-iterator ≡ 38) × Underway l.day (min (length l.list) 64) l.text l.reader (chunks_rest l.piece-iterator)
