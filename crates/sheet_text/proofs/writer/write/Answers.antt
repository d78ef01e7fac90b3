use Rattle.std.proofs.Common.{◌≡◌, ◌+◌, ◌*◌, length, take, drop, sym, ◌∙◌, arith}
use Rattle.sheet_text.specs.Sheet.{render}
use Rattle.sheet_text.proofs.Readings.{reads_all-back, render-same, front-is}
use Rattle.sheet_text.proofs.writer.write.Goals as goal

pub returns-clause-back : goal.returns-clause-back
returns-clause-back c =
    let may = c.in_ok-needed.ensures.told in
    let few = may.few in
    let is : take c.in_ok-needed.needed c.put_all.new.out ≡ render c.args.day c.args.lines.now =
    front-is c.args.day c.args.lines.now c.put_all.new.out (drop (38 * (length c.args.lines.now + 2)) c.args.out.now) c.in_ok-needed.needed may.lines_fit may.bytes c.put_all.ensures in
    λ room h. reads_all-back c.args.day room c.args.lines.now (take c.in_ok-needed.needed c.put_all.new.out) may.day_fits may.lines_fit (omega arith) is

pub returns-clause-unique : goal.returns-clause-unique
returns-clause-unique c =
    let may = c.in_ok-needed.ensures.told in
    let is : take c.in_ok-needed.needed c.put_all.new.out ≡ render c.args.day c.args.lines.now =
    front-is c.args.day c.args.lines.now c.put_all.new.out (drop (38 * (length c.args.lines.now + 2)) c.args.out.now) c.in_ok-needed.needed may.lines_fit may.bytes c.put_all.ensures in
    λ other others to fit e. render-same other c.args.day others c.args.lines.now to may.day_fits fit may.lines_fit may.few (sym e ∙ is)
