use Rattle.std.proofs.Common.{get_or, set, ap, ◌∙◌, arith}
use Rattle.std.proofs.lemmas.List.{get_or_default}
use Rattle.std.proofs.lemmas.List.Edits.{map_over_more}
use Rattle.terms.specs.Holdings.{no_row, closed}
use Rattle.book.proofs.rows.Rows.close.Goals as goal

pub loop-row-preserved : goal.loop-row-preserved
loop-row-preserved c =
    let rows = c.loop-row.row-items in
    let i = c.loop-row.row-index in
    ap (set rows i) c.closed.ensures
    ∙ map_over_more (closed c.args.day) c.as_mut_slice-row-items.result.now rows i (get_or rows i no_row) (omega arith) c.loop-row.invariant (get_or_default rows i _ _ (omega arith))
