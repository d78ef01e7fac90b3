use Rattle.std.proofs.Common.{◌≤◌, length, subst, sym, ap, arith}
use Rattle.std.proofs.lemmas.List.{get_or_past}
use Rattle.journal.specs.Words.{texts}
use Rattle.journal.specs.Commands.{spells, rates_by, rates_of, Tells, ordered}
use Rattle.journal.proofs.Lines.{length_texts, word_at}
use Rattle.journal.proofs.command.rates.Goals as goal

pub returns-then-line-lt2 : goal.returns-then-line-lt2
unfolding rates_of spells
returns-then-line-lt2 c =
    let line = texts c.args.line.now in
    let none : length line ≤ 1 = rw length_texts (omega arith) in
    sym (ap (λ word. rates_by word line) (get_or_past line 1 _ none))

pub returns : goal.returns
unfolding rates_of
returns c =
    subst (λ word. Tells ordered (rates_by word (texts c.args.line.now)) c.rates_by.result) (sym (word_at c.args.line.now 1 _ c.if-line-lt2.false)) c.rates_by.ensures
