use Rattle.std.proofs.Common.{vec_items, ap}
use Rattle.desk.specs.Present.{stacked}
use Rattle.desk.proofs.present.PresentRatesRateBook.rate.Goals as goal

pub returns-in_err-amount-clause-kept : goal.returns-in_err-amount-clause-kept
returns-in_err-amount-clause-kept c = ap (λ t q. stacked (vec_items c.args.self.now.surcharges) q.security (t q)) c.rate.ensures.kept

pub returns-clause-kept : goal.returns-clause-kept
returns-clause-kept c = ap (λ t q. stacked (vec_items c.args.self.now.surcharges) q.security (t q)) c.rate.ensures.kept
