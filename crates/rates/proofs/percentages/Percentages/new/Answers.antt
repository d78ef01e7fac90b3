use Rattle.std.proofs.Common.{nat_le, rules}
use Rattle.std.proofs.lemmas.List.Sums.{list_all-from_AllPass}
use Rattle.rates.proofs.percentages.Percentages.new.Goals as goal

pub invariant_of-result : goal.invariant_of-result
invariant_of-result c = record { fair = list_all-from_AllPass (λ percent. nat_le percent 100) c.args.each (search rules) }
