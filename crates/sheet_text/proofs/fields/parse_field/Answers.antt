use Rattle.std.proofs.Common.{◌≡◌, ℕ, Some, None, Option, sym, ap, ◌∙◌}
use Rattle.sheet_text.proofs.Columns.{field_told, none_from}
use Rattle.sheet_text.proofs.fields.parse_field.Goals as goal
use Rattle.sheet_text.specs.Columns.{seen_of, value_of}

pub returns-in-Number-clause-exact : goal.returns-in-Number-clause-exact
returns-in-Number-clause-exact c = field_told c.args.field.now (Some c.in-Number.n) c.requires.0 (ap value_of (sym c.in-Number.is ∙ c.seen_in.ensures))

pub returns-in_default : goal.returns-in_default
returns-in_default c =
    let v : ◌≡◌ {A = Option ℕ} None (value_of (seen_of c.args.field.now)) = none_from c.seen_in.result c.in_default.not-Number ∙ ap value_of c.seen_in.ensures in
    record { value = v; exact = field_told c.args.field.now None c.requires.0 v }
