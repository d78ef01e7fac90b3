use Rattle.std.proofs.Common.{◌≡◌, ◌+◌, length, ◌∙◌, rules}
use Rattle.std.proofs.lemmas.Bool.{lt-ltb, le-ltb}
use Rattle.sheet_text.proofs.Columns.{put-none, put_last}
use Rattle.sheet_text.proofs.fields.+put_field.Goals as goal

pub returns-in_default : goal.returns-in_default
returns-in_default t c = put-none c.args.out.now c.args.n (search rules)

pub returns-then-n-lt10 : goal.returns-then-n-lt10
returns-then-n-lt10 t c =
    let w : length c.args.out.now ≡ length c.in-Some.front.now + 1 = search rules in
    put_last _ (length c.in-Some.front.now) c.args.n c.last_digit.result c.fill.new.self w c.last_digit.ensures (c.fill.ensures.after (λ y e. search rules) ∙ simp (lt-ltb c.args.n 10 c.if-n-lt10.true))

pub returns-else-n-lt10 : goal.returns-else-n-lt10
returns-else-n-lt10 t c =
    let w : length c.args.out.now ≡ length c.in-Some.front.now + 1 = search rules in
    put_last _ (length c.in-Some.front.now) c.args.n c.last_digit.result c.put_field.new.out w c.last_digit.ensures (c.put_field.ensures ∙ simp (le-ltb c.args.n 10 c.if-n-lt10.false))
