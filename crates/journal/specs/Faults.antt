-- What the denial of each layer tells.
use Rattle.std.specs.Prelude.{ℕ, List}
use Rattle.terms.specs.declared.denial.Layer.{Layer}
use Rattle.terms.specs.declared.denial.Place.{Place}
use Rattle.rates.specs.Denials.{percentage_layer, percentage_number, percentage_place, percentage_text}
use Rattle.sheet_text.specs.Faults as sheet
use Rattle.journal.specs.declared.fault.Fault.{Fault}
use Rattle.journal.specs.declared.fault.Fault.TheVariants.{Surcharge, Text}

abbrev pub fault_layer : Fault → Layer
fault_layer (Surcharge fault) = percentage_layer fault
fault_layer (Text fault) = sheet.fault_layer fault

abbrev pub fault_number : Fault → ℕ
fault_number (Surcharge fault) = percentage_number fault
fault_number (Text fault) = sheet.fault_number fault

abbrev pub fault_place : Fault → Place
fault_place (Surcharge fault) = percentage_place fault
fault_place (Text fault) = sheet.fault_place fault

-- the reason in words
abbrev pub fault_text : Fault → List ℕ
fault_text (Surcharge fault) = percentage_text fault
fault_text (Text fault) = sheet.fault_text fault
