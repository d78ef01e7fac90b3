use Rattle.std.proofs.Common.{◌≡◌, length, replicate, ◌∙◌, rules}
use Rattle.sheet_text.proofs.Writes.{count-put, column-wide, spaces-wide}
use Rattle.sheet_text.proofs.writer.put_count.Goals as goal
use Rattle.sheet_text.specs.Columns.{column}

pub returns : goal.returns
returns c =
    let lf : length c.put_field.new.out ≡ 8 = search rules in
    let ls : length c.fill.new.self ≡ 28 = search rules in
    let f : c.put_field.new.out ≡ column 8 c.args.n = column-wide c.put_field.new.out _ c.args.n 8 c.put_field.ensures lf in
    let s : c.fill.new.self ≡ replicate 28 32 = spaces-wide c.fill.new.self _ 28 (c.fill.ensures.after (λ y e. search rules)) ls in
    count-put c.args.out.now c.put_field.new.out c.fill.new.self c.args.letter c.requires lf ls ∙ rw (f, s)
