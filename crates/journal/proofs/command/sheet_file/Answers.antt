use Rattle.std.proofs.Common.{◌<◌, length, Ok, sym, refl, ap, ◌∙◌, arith}
use Rattle.std.proofs.lemmas.Result.{err_from_is_err_and}
use Rattle.journal.specs.Commands.{sheet_file_of}
use Rattle.journal.proofs.Lines.{word_at}
use Rattle.journal.proofs.command.sheet_file.Goals as goal

pub returns-in_err-counted : goal.returns-in_err-counted
unfolding sheet_file_of
returns-in_err-counted c =
    let p = err_from_is_err_and c.from_residual.result c.from_residual.ensures.1 in
    rw (p.1, p.2, ← c.in_err-counted.ensures.value) refl

pub returns-in_err-day : goal.returns-in_err-day
unfolding sheet_file_of
returns-in_err-day c =
    let p = err_from_is_err_and c.from_residual-in_err-day.result c.from_residual-in_err-day.ensures.1 in
    rw (p.1, p.2, ← c.in_ok-counted.ensures.value, ← c.in_err-day.ensures) refl

pub returns : goal.returns
unfolding sheet_file_of
returns c =
    let three = c.in_ok-counted.ensures.long in
    let is : 2 < length c.args.line.now = omega arith in
    let file = c.in_ok-file.ensures.items ∙ sym (word_at c.args.line.now 2 _ is) in
    rw (← c.in_ok-counted.ensures.value, ← c.in_ok-day.ensures) (ap (λ f. Ok (record { day = c.in_ok-day.day; file = f })) file)
