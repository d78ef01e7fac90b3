-- What is answered of the text of a sheet.
use Rattle.std.specs.Prelude.{◌≡◌, ℕ, ◌⊎◌, List, length, Ok, Err, vec_items, Result, Vec}
use Rattle.std.specs.declared.alloc.Global.{Global}
use Rattle.terms.specs.declared.strategy.Line.{Line}
use Rattle.sheet_text.specs.declared.fault.TextFault.{TextFault}
use Rattle.journal.specs.declared.answer.Answer.TheVariants as answer
use Rattle.journal.specs.declared.answer.Refusal.{Refusal}
use Rattle.journal.specs.declared.answer.Refusal.TheVariants as refusal
use Rattle.journal.specs.declared.answer.Reply.{Reply}
use Rattle.journal.specs.declared.answer.Reply.TheVariants as reply
use Rattle.journal.specs.declared.fault.Fault.TheVariants as fault

-- how many lines were read, or why none
abbrev pub read_answer : Result (List Line) TextFault → Result Reply Refusal
read_answer (Ok lines) = Ok (reply.Line (answer.Read (length lines)))
read_answer (Err why) = Err (refusal.Denied (fault.Text why))

-- these bytes, as records
pub record Shows (text : List ℕ) (r : Result Reply Refusal) : Type 0 where
  pub bytes : Vec ℕ Global
  pub told : r ≡ Ok (reply.Sheet bytes)
  pub same : vec_items bytes ≡ text

-- these bytes, but where memory is wanting
abbrev pub ShowsOr : List ℕ → Result Reply Refusal → Type 0
ShowsOr text r = Shows text r ⊎ (r ≡ Err refusal.NoMemory)

-- a text that was read comes back byte for byte; one that was not is denied
abbrev pub Copied : Result (List Line) TextFault → List ℕ → Result Reply Refusal → Type 0
Copied (Ok lines) text r = ShowsOr text r
Copied (Err why) text r = r ≡ Err (refusal.Denied (fault.Text why))
