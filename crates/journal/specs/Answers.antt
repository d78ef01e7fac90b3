-- How the answers to a journal's commands are written.
use Rattle.std.specs.Prelude.{ℕ, List, ◌++◌, Some, None, codes, decimal}
use Rattle.terms.specs.Texts.{layer_text, place_text}
use Rattle.journal.specs.Faults.{fault_layer, fault_number, fault_place, fault_text}
use Rattle.journal.specs.declared.fault.Fault.{Fault}
use Rattle.journal.specs.declared.command.Unreadable.{Unreadable}
use Rattle.journal.specs.declared.command.Unreadable.TheVariants.{UnknownCommand, WordCount, NoSuchRates, NotNumber, TooManyDigits, NotOptionType}
use Rattle.journal.specs.declared.answer.Answer.{Answer}
use Rattle.journal.specs.declared.answer.Answer.TheVariants.{Done, Rate, Read}
use Rattle.journal.specs.declared.answer.Refusal.{Refusal}
use Rattle.journal.specs.declared.answer.Refusal.TheVariants as refusal
use Rattle.journal.specs.declared.answer.Refusal.TheVariants.{Denied, NoFile, NoMemory}
use Rattle.journal.specs.declared.command.ReadError.{ReadError}
use Rattle.journal.specs.declared.command.ReadError.TheVariants as read_error

-- what is wrong with the word of an index in its line, the first word being 0
abbrev word : ℕ → List ℕ → List ℕ
word k wrong = codes "word " ++ (decimal k ++ wrong)

abbrev pub unreadable_text : Unreadable → List ℕ
unreadable_text UnknownCommand = codes "unknown command"
unreadable_text WordCount = codes "wrong count of words"
unreadable_text NoSuchRates = codes "rates are scale or list"
unreadable_text (NotNumber k) = word k (codes " is not a number")
unreadable_text (TooManyDigits k) = word k (codes " has more than 18 digits")
unreadable_text (NotOptionType k) = word k (codes " is neither call nor put")

-- `denied LAYER NUMBER`, the place if there is one, and the reason
abbrev pub denied_text : Fault → List ℕ
denied_text fault =
    codes "denied "
    ++ (layer_text (fault_layer fault) ++ (codes " " ++ (decimal (fault_number fault) ++ (place_text (fault_place fault) ++ (codes ": " ++ fault_text fault)))))

abbrev pub answer_text : Answer → List ℕ
answer_text Done = codes "ok"
answer_text (Rate (Some amount)) = codes "rate " ++ decimal amount
answer_text (Rate None) = codes "no rate"
answer_text (Read count) = codes "read " ++ decimal count

abbrev pub refusal_text : Refusal → List ℕ
refusal_text (Denied fault) = denied_text fault
refusal_text (refusal.Unreadable fault) = codes "error: " ++ unreadable_text fault
refusal_text NoFile = codes "error: the file cannot be opened"
refusal_text NoMemory = codes "error: out of memory"

-- why a command is not carried out that could not be read
abbrev pub refusal_of : ReadError → Refusal
refusal_of read_error.NoMemory = NoMemory
refusal_of (read_error.Unreadable fault) = refusal.Unreadable fault
