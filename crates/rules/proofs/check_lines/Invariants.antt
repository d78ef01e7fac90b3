use Rattle.std.proofs.Common.{◌≡◌, drop, take}
use Rattle.std.specs.List.{All}
use Rattle.rules.specs.Rules.{lines_checked, sheet_checked}
use Rattle.rules.specs.Lawful.{Lawful}
use Rattle.rules.proofs.check_lines.Given as goal

abbrev pub invariant-loop-i : goal.invariant-loop-i
invariant-loop-i l =
    let rows = l.listings.rows.now in
    let securities = l.listings.securities.now in
    record {
      value : lines_checked rows securities l.i-counter (drop l.i-counter l.sheet) ≡ sheet_checked rows securities l.sheet;
      lawful : All (Lawful rows securities) (take l.i-counter l.sheet);
    }
