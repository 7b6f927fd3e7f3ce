use Rattle.std.proofs.Common.{◌∙◌, ap, min, sym, ℕ}
use Rattle.lua_token.proofs.Skips.{digits-escape}
use Rattle.lua_token.proofs.escape.read_escape.Goals as goal

pub returns-clause-value : goal.returns-clause-value
returns-clause-value c =
    c.decimal_escape.ensures.value
    ∙ digits-escape c.args.bytes.now c.in-Some.after.now c.in-Some.b.now c.min.result c.in-Some.ensures.cases.0
    (sym c.in_default-sign_escape.is ∙ c.sign_escape.ensures) (sym c.is_end.ensures ∙ c.if-is_end.false) c.if-b-eq122.false c.if-b-eq120.false c.if-b-eq117.false
    (sym c.is_digit.ensures ∙ c.if-not-is_digit.false) (c.min.ensures ∙ ap (λ (n : ℕ). min n 3) c.digits_len.ensures)
