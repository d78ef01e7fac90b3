use Rattle.std.proofs.Common.{◌≡◌, ℕ, map, Some, refl, arith, rules, Bor}
use Rattle.std.proofs.lemmas.Fn.{serves_by}
use Rattle.std.proofs.lemmas.Iterator.{YieldsList-from_slice}
use Rattle.std.proofs.lemmas.Iterator.Consumers.{YieldsList-turn}
use Rattle.sheet_text.proofs.Columns.{seen-more, small-before}
use Rattle.sheet_text.proofs.fields.seen_in.Goals as goal
use Rattle.sheet_text.specs.Columns.{stepped, seen_of, SmallSeen}

pub fold-requires-clause-callable : goal.fold-requires-clause-callable
fold-requires-clause-callable c =
    serves_by _ (λ xs q. q.1 ≡ seen_of (map (λ (b : Bor ℕ). b.now) xs)) (λ xs q x v j k. let e : v.1 ≡ stepped q.1 x.now = search rules in seen-more xs x q.1 v.1 j e) _ _ c.iter.result _ refl
    (λ xs t q x u y s j.
    let lt = (YieldsList-turn (YieldsList-from_slice c.args.field.now cc) xs t y (Some x) u x refl s).0 in
    let small : SmallSeen q.1 = small-before xs q.1 j (omega (arith, c.requires)) in
    search rules)
