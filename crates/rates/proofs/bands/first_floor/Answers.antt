use Rattle.std.proofs.Common.{◌≡◌, rules, tests, Some, sym, ap, ◌∙◌}
use Rattle.std.proofs.lemmas.Iterator.{YieldsList-from_slice}
use Rattle.std.proofs.lemmas.Iterator.Search.{find_from_yields_List}
use Rattle.std.specs.List.{find}
use Rattle.std.specs.Option.{option_map}
use Rattle.rates.specs.Bands.{applies}
use Rattle.rates.proofs.Scan.{first_floor_found}
use Rattle.rates.proofs.bands.first_floor.Goals as goal
use Rattle.rates.proofs.bands.first_floor.Goals.{After-find}

found : (c : After-find) → option_map (λ b. b.now) c.find.result ≡ find (λ b. applies b c.args.admitted.quote.now) c.args.bands.now
found c =
    find_from_yields_List (λ b. applies b c.args.admitted.quote.now) _ _ _ c.find.ensures.ran (YieldsList-from_slice c.args.bands.now cc) (λ x b r k. search (rules, tests))

pub returns-in_err-band : goal.returns-in_err-band
returns-in_err-band c =
    c.from_residual.ensures ∙ sym (first_floor_found (λ b. b.now) c.args.bands.now c.args.admitted.quote.now c.in_err-band.was (found (goal.at-returns-in_err-band c).After-find))

pub returns : goal.returns
returns c =
    ap Some c.of.ensures ∙ sym (first_floor_found (λ b. b.now) c.args.bands.now c.args.admitted.quote.now c.in_ok-band.was (found (goal.at-returns c).After-find))
