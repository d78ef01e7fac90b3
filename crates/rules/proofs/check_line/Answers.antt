use Rattle.rules.proofs.Lawfuls.{passes_lawful}
use Rattle.rules.proofs.check_line.Goals as goal

pub returns-clause-lawful : goal.returns-clause-lawful
returns-clause-lawful c =
    passes_lawful c.args.listings.rows.now c.args.listings.securities.now c.args.line.now c.check_rules.result c.check_rules.ensures
