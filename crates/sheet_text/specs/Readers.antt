-- A reading on its way: where it stands, and what a record changes there.
use Rattle.std.specs.Prelude.{◌≡◌, ◌+◌, List, Ok, Err, Result}
use denote.Ref.{Bor}
use Rattle.terms.specs.declared.strategy.Line.{Line}
use Rattle.sheet_text.specs.declared.reader.Reader.{Reader}
use Rattle.sheet_text.specs.declared.fault.TextFault.{TextFault}
use Rattle.sheet_text.specs.Brought.{Brought}
use Rattle.sheet_text.specs.Reading.{next_state, kept}

-- the lines that are found so far
abbrev pub found_lines : Reader → List Line
found_lines r = r.found.items

-- the reading goes on by what a record brings, with its 38 bytes read, or answers the record's fault
abbrev pub Goes : Reader → Reader → Result Brought TextFault → Result (Unit {0}) TextFault → Type 0
Goes old new (Ok s) r =
    (r ≡ Ok tt) × (new.day ≡ old.day) × (new.room ≡ old.room) × (new.at ≡ old.at + 38) × (new.state ≡ next_state old.state s) × (found_lines new ≡ kept (found_lines old) s)
Goes old new (Err e) r = r ≡ Err e

-- an answer by the lines that it points to
abbrev pub answered : Result (Bor (List Line)) TextFault → Result (List Line) TextFault
answered (Ok lines) = Ok lines.now
answered (Err e) = Err e
