use Rattle.std.proofs.Common.{◌≡◌, ℕ, ◌-◌, ◌≤◌, min, List, ◌++◌, length, Ok, Err, refl, ap, ◌∙◌, arith, rules}
use borrow.Rule.Slice.PartMut.{post_of}
use Rattle.terms.specs.declared.strategy.Line.{Line}
use Rattle.std.proofs.lemmas.Result.{err_from_is_err_and}
use Rattle.std.specs.Slice.Iter.{chunks_rest}
use Rattle.sheet_text.specs.Reading.{reads, ReadIs}
use Rattle.sheet_text.proofs.Readings.{told-all}
use Rattle.sheet_text.proofs.Scans.{reading_start, reading_more, reading_err, reading_end, read_err, read_done}
use Rattle.sheet_text.proofs.reader.read.Goals as goal

pub loop-piece-init : goal.loop-piece-init
loop-piece-init c =
    (search rules, reading_start c.args.day (min (length c.args.list.now) 64) c.args.text.now c.new-reader.result _ c.new-reader.ensures.held.0 c.new-reader.ensures.held.1 c.new-reader.ensures.front.0 c.new-reader.ensures.front.1 c.new-reader.ensures.front.2 (search rules))

pub loop-piece-preserved : goal.loop-piece-preserved
loop-piece-preserved c =
    let s = c.in-Some.ensures.steps.1 in
    (search rules, reading_more c.args.day (min (length c.args.list.now) 64) c.args.text.now c.loop-piece.reader c.take.new.self _ c.in-Some.piece.now _ c.loop-piece.invariant.1 s.0 (s.1 ∙ ap (λ (k : ℕ). min k (length (chunks_rest c.loop-piece.piece-iterator))) c.loop-piece.invariant.0) s.2 c.in_ok-take.ensures)

pub returns-in_err-take : goal.returns-in_err-take
returns-in_err-take c =
    let s = c.in-Some.ensures.steps.1 in
    let p = err_from_is_err_and c.from_residual.result c.from_residual.ensures.1 in
    let e : Err c.in_err-take.field-0.0 ≡ reads c.args.day (min (length c.args.list.now) 64) c.args.text.now =
    reading_err c.args.day (min (length c.args.list.now) 64) c.args.text.now c.loop-piece.reader c.take.new.self _ c.in-Some.piece.now _ c.loop-piece.invariant.1 s.0 (s.1 ∙ ap (λ (k : ℕ). min k (length (chunks_rest c.loop-piece.piece-iterator))) c.loop-piece.invariant.0) s.2 c.in_err-take.field-0.0 c.in_err-take.ensures in
    let x : ReadIs c.args.day c.args.text.now c.args.list.now c.args.list.now (Err c.in_err-take.field-0.0) = read_err c.args.day c.args.text.now c.args.list.now c.in_err-take.field-0.0 (search rules) e in
    let l = told-all c.args.day c.args.text.now c.args.list.now c.args.list.now (Err c.in_err-take.field-0.0) refl x in
    rw (p.1, p.2) (record { exact = x; accepted = l.0; refused = l.1; again = l.2; told = l.3 })

pub returns-in_err-lines : goal.returns-in_err-lines
returns-in_err-lines c =
    let p = err_from_is_err_and c.from_residual-in_err-lines.result c.from_residual-in_err-lines.ensures.1 in
    let e : Err c.in_err-lines.field-0.0 ≡ reads c.args.day (min (length c.args.list.now) 64) c.args.text.now =
    c.in_err-lines.ensures.lines ∙ reading_end c.args.day (min (length c.args.list.now) 64) c.args.text.now c.loop-piece.reader _ c.loop-piece.invariant.1 c.in-None.ensures.steps.1.0 in
    let x : ReadIs c.args.day c.args.text.now c.args.list.now c.args.list.now (Err c.in_err-lines.field-0.0) = read_err c.args.day c.args.text.now c.args.list.now c.in_err-lines.field-0.0 (search rules) e in
    let l = told-all c.args.day c.args.text.now c.args.list.now c.args.list.now (Err c.in_err-lines.field-0.0) refl x in
    rw (p.1, p.2) (record { exact = x; accepted = l.0; refused = l.1; again = l.2; told = l.3 })

pub returns : goal.returns
returns c =
    let new : List Line = c.copy_from_slice.new.self ++ post_of 0 (length c.in_ok-lines.lines.now - 0) c.args.list.now in
    let few : length c.in_ok-lines.lines.now ≤ c.loop-piece.reader.room = c.in_ok-lines.ensures.few in
    let room = c.loop-piece.invariant.1.1 in
    let is : Ok c.in_ok-lines.lines.now ≡ reads c.args.day (min (length c.args.list.now) 64) c.args.text.now =
    c.in_ok-lines.ensures.lines ∙ reading_end c.args.day (min (length c.args.list.now) 64) c.args.text.now c.loop-piece.reader _ c.loop-piece.invariant.1 c.in-None.ensures.steps.1.0 in
    let x : ReadIs c.args.day c.args.text.now c.args.list.now new (Ok (length c.in_ok-lines.lines.now)) =
    read_done c.args.day c.args.text.now c.args.list.now c.in_ok-lines.lines.now c.copy_from_slice.new.self (length c.in_ok-lines.lines.now)
    (search rules) (omega arith) refl is (search rules) in
    let e : length new ≡ length c.args.list.now = search rules in
    let l = told-all c.args.day c.args.text.now c.args.list.now new (Ok (length c.in_ok-lines.lines.now)) e x in
    record { exact = x; accepted = l.0; refused = l.1; again = l.2; told = l.3 }
