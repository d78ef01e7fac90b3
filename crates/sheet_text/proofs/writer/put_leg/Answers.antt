use Rattle.std.proofs.Common.{◌≡◌, length, ◌∙◌, rules}
use Rattle.std.proofs.lemmas.Bool.{ne_eqb}
use Rattle.sheet_text.proofs.Writes.{leg-put, column-wide}
use Rattle.sheet_text.proofs.writer.put_leg.Goals as goal
use Rattle.sheet_text.specs.Columns.{column}

pub returns-else-leg-eq0 : goal.returns-else-leg-eq0
returns-else-leg-eq0 c =
    let lf : length c.put_field.new.out ≡ 3 = search rules in
    let lg : length c.put_field-else-leg-eq0.new.out ≡ 6 = search rules in
    let f : c.put_field.new.out ≡ column 3 c.args.leg.row = column-wide c.put_field.new.out _ c.args.leg.row 3 c.put_field.ensures lf in
    let g : c.put_field-else-leg-eq0.new.out ≡ column 6 c.args.leg.lots = column-wide c.put_field-else-leg-eq0.new.out _ c.args.leg.lots 6 c.put_field-else-leg-eq0.ensures lg in
    leg-put c.args.out.now c.put_field.new.out c.put_field-else-leg-eq0.new.out c.requires lf lg ∙ simp (f, g, ne_eqb c.args.leg.lots 0 c.if-leg-eq0.false)
