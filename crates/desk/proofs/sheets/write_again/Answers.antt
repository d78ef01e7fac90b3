use Rattle.std.proofs.Common.{◌≡◌, ℕ, ◌≤◌, List, ◌++◌, length, drop, Ok, subst, sym, refl, ap, ◌∙◌, inl, append-nil, arith, rules}
use Rattle.std.proofs.lemmas.List.{drop_all, with_items_is}
use Rattle.std.specs.Vec.{with_items}
use Rattle.sheet_text.specs.Writing.{writes, WriteIs}
use Rattle.desk.proofs.sheets.write_again.Goals as goal

-- a buffer as long as the text holds nothing past it
whole : (old new text : List ℕ) (n : ℕ) → length old ≤ n → new ≡ text ++ drop n old → new ≡ text
whole old new text n all is = is ∙ ap (λ rest. text ++ rest) (drop_all n old all) ∙ append-nil text

pub returns : goal.returns
returns c =
    let text = c.args.text.now in
    let old = c.as_mut_slice.result.now in
    let new = c.write.new.out in
    let exact = subst (WriteIs c.args.day c.args.lines.now old new) c.unwrap.ensures c.write.ensures.exact in
    let long : length old ≡ length text = search rules in
    let told : Ok c.unwrap.result ≡ Ok (length text) = sym exact.0 ∙ ap (writes c.args.day c.args.lines.now) long ∙ c.requires.written in
    let count : c.unwrap.result ≡ length text = cc in
    let is : new ≡ text = whole old new text c.unwrap.result (omega arith) (exact.1 ∙ ap (λ front. front ++ drop c.unwrap.result old) c.requires.same) in
    let held : length new ≡ c.in_ok-again.again.len = search rules in
    inl (record { bytes = with_items c.in_ok-again.again new; told = refl; same = with_items_is c.in_ok-again.again new held ∙ is })
