-- No amount of the scale is above the ceiling.
use Rattle.std.specs.Prelude.{◌≡◌, ℕ, ◌*◌, ◌≤◌, true, nat_le}
use Rattle.std.proofs.Common.{arith}
use Rattle.std.proofs.lemmas.Bool.{leb-true, and_parts}
use Rattle.std.proofs.lemmas.Bool.Decides.{nat_tests}
use Rattle.std.proofs.lemmas.Grind.{common_steps}
use Rattle.terms.specs.declared.OptionType.{OptionType}
use Rattle.terms.specs.declared.OptionType.TheVariants.{Call, Put}
use Rattle.terms.specs.Limits.{within, is_price, is_premium}
use Rattle.rates.specs.declared.rate_book.Quote.{Quote}
use Rattle.rates.specs.Table.{Capped, capped-where}
use Rattle.rates.specs.Scale.{percent_of, floor_of, is_admitted, scale_rate}

-- the most that an admitted quote's figures can be
pub record Small (q : Quote) : Type 0 where
  pub strike : q.strike ≤ 10000000
  pub premium : q.premium ≤ 10000000
  pub close : q.close ≤ 10000000
  pub lot : q.lot ≤ 10000

at_most : (least most n : ℕ) → within least most n ≡ true → n ≤ most
at_most least most n e = leb-true n most (and_parts (nat_le least n) (nat_le n most) e).1

pub small : (q : Quote) → is_admitted q ≡ true → Small q
small q e =
    let s = and_parts (is_price q.strike) _ e in
    let m = and_parts (is_premium q.premium) _ s.1 in
    let p = and_parts (is_price q.close) _ m.1 in
    record {
      strike = at_most 1 10000000 q.strike s.0;
      premium = leb-true q.premium 10000000 m.0;
      close = at_most 1 10000000 q.close p.0;
      lot = at_most 1 10000 q.lot p.1;
    }

percent-le : (percent price lot : ℕ) → percent ≤ 10 → price ≤ 10000000 → lot ≤ 10000 → percent_of percent price lot ≤ 10000000000
percent-le percent price lot a b c = grind (arith, common_steps)

floor-le : (o : OptionType) (S P lot : ℕ) → S ≤ 10000000 → P ≤ 10000000 → lot ≤ 10000 → floor_of o S P lot ≤ 10000000000
floor-le Call S P lot s p l = grind (arith, nat_tests, percent-le)
floor-le Put S P lot s p l = grind (arith, nat_tests, percent-le)

pub scale-capped : (q : Quote) → Capped (scale_rate q)
scale-capped q =
    capped-where (is_admitted q) _
    (λ e.
    let m = small q e in
    let f = floor-le q.option q.strike q.close q.lot m.strike m.close m.lot in
    let p = m.premium in
    let l = m.lot in
    let t : 2 * q.premium * q.lot ≤ 2 * 10000000 * 10000 = grind (arith, common_steps) in
    omega arith)
