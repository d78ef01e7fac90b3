use Rattle.std.proofs.Common.{Ok, refl, ap}
use Rattle.journal.specs.declared.answer.Answer.TheVariants.{Rate}
use Rattle.journal.specs.declared.answer.Reply.TheVariants.{Line}
use Rattle.desk.proofs.desk.Desk.carry_out.Goals as goal

pub returns-in-RatesScale : goal.returns-in-RatesScale
returns-in-RatesScale c = rw c.in-RatesScale.is (refl, c.replace.ensures)

pub returns-in-RatesList : goal.returns-in-RatesList
returns-in-RatesList c = rw c.in-RatesList.is (refl, c.replace-in-RatesList.ensures)

pub returns-in-Rate : goal.returns-in-Rate
returns-in-Rate c = rw c.in-Rate.is (ap (λ amount. Ok (Line (Rate amount))) c.rate.ensures.answer, c.rate.ensures.kept)
