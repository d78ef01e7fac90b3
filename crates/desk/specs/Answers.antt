-- What a line of a journal does: its reply, and the table of rates that is asked from then on.
use Rattle.std.specs.Prelude.{◌≡◌, ℕ, ◌⊎◌, List, Some, None, Ok, Err, vec_items, MatchBool, Option, Result, Vec}
use Rattle.std.specs.declared.alloc.Global.{Global}
use Rattle.journal.specs.declared.answer.Answer.TheVariants as answer
use Rattle.journal.specs.declared.answer.Refusal.{Refusal}
use Rattle.journal.specs.declared.answer.Refusal.TheVariants as refusal
use Rattle.journal.specs.declared.answer.Reply.{Reply}
use Rattle.journal.specs.declared.answer.Reply.TheVariants as reply
use Rattle.journal.specs.declared.fault.Fault.TheVariants as fault
use Rattle.journal.specs.declared.command.Command.{Command}
use Rattle.journal.specs.declared.command.ReadError.{ReadError}
use Rattle.journal.specs.Commands.{Order, rates_scale, rates_list, surcharge, rate, check, copy, ordered}
use Rattle.journal.specs.Answers.{refusal_of}
use Rattle.rates.specs.declared.surcharge.PercentageAbove100.{PercentageAbove100}
use Rattle.rates.specs.declared.rate_book.Quote.{Quote}
use Rattle.rates.specs.Scale.{scale_rate}
use Rattle.rates.specs.Published.{published_rate}
use Rattle.rates.specs.Percentages.{all_fair}
use Rattle.rates.specs.Denials.{Denied}
use Rattle.sheet_text.specs.Reading.{reads_all}
use Rattle.desk.specs.Present.{surcharged_rate}
use Rattle.desk.specs.Sheets.{read_answer, Copied}

-- for each quote an amount, or none
abbrev pub Table : Type 0
Table = Quote → Option ℕ

-- what a file holds, or nothing
abbrev pub contents : Option (Vec ℕ Global) → Option (List ℕ)
contents None = None
contents (Some text) = Some (vec_items text)

-- the reply to a command that has nothing to tell
abbrev pub done : Reply
done = reply.Line answer.Done

-- nothing was done, for want of memory
pub record NoMemory (before : Table) (r : Result Reply Refusal) (after : Table) : Type 0 where
  pub told : r ≡ Err refusal.NoMemory
  pub kept : after ≡ before

-- a surcharge was put on the rate book
pub record Raised (percents : List ℕ) (before : Table) (r : Result Reply Refusal) (after : Table) : Type 0 where
  pub told : r ≡ Ok done
  pub table : after ≡ surcharged_rate percents before

-- a surcharge was denied
pub record Refused (percents : List ℕ) (before : Table) (r : Result Reply Refusal) (after : Table) : Type 0 where
  pub why : PercentageAbove100
  pub told : r ≡ Err (refusal.Denied (fault.Surcharge why))
  pub denied : Denied percents why
  pub kept : after ≡ before

abbrev pub Surcharges : List ℕ → Table → Result Reply Refusal → Table → Type 0
Surcharges percents before r after =
    MatchBool (all_fair percents) (Raised percents before r after ⊎ NoMemory before r after) (Refused percents before r after)

-- the sheet in a file is read, and nothing is kept of it
abbrev pub Checks : ℕ → Option (List ℕ) → Result Reply Refusal → Type 0
Checks day None r = r ≡ Err refusal.NoFile
Checks day (Some text) r = r ≡ read_answer (reads_all day 64 text)

-- the sheet in a file is read, and written again
abbrev pub Copies : ℕ → Option (List ℕ) → Result Reply Refusal → Type 0
Copies day None r = r ≡ Err refusal.NoFile
Copies day (Some text) r = Copied (reads_all day 64 text) text r

-- what a command does, with what the file holds that it names
abbrev pub CarriesOut : Order → Option (List ℕ) → Table → Result Reply Refusal → Table → Type 0
CarriesOut rates_scale file before r after = (r ≡ Ok done) × (after ≡ scale_rate)
CarriesOut (rates_list amounts) file before r after = (r ≡ Ok done) × (after ≡ (λ q. published_rate amounts q.row))
CarriesOut (surcharge percents) file before r after = Surcharges percents before r after
CarriesOut (rate q) file before r after = (r ≡ Ok (reply.Line (answer.Rate (before q)))) × (after ≡ before)
CarriesOut (check day name) file before r after = Checks day file r × (after ≡ before)
CarriesOut (copy day name) file before r after = Copies day file r × (after ≡ before)

-- an answer to a line that is not skipped
abbrev pub some_reply : Result Reply Refusal → Result (Option Reply) Refusal
some_reply (Ok a) = Ok (Some a)
some_reply (Err why) = Err why

-- a skipped line has no reply, one that could not be read has its reason, and neither changes the table
abbrev pub Answers : Result (Option Command) ReadError → Option (List ℕ) → Table → Result (Option Reply) Refusal → Table → Type 0
Answers (Ok None) file before r after = (r ≡ Ok None) × (after ≡ before)
Answers (Err why) file before r after = (r ≡ Err (refusal_of why)) × (after ≡ before)
Answers (Ok (Some command)) file before r after = (a : Result Reply Refusal) × (r ≡ some_reply a) × CarriesOut (ordered command) file before a after
