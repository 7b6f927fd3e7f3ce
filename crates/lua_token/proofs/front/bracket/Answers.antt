use Rattle.std.proofs.Common.{◌≡◌, ◌+◌, drop, subst, List, ℕ, IfOk}
use Rattle.lua_token.specs.Strings.{IsFound, long_body}
use Rattle.lua_token.specs.Front.{bracket}
use Rattle.lua_token.proofs.front.bracket.Goals as goal

pub returns-in-Some : goal.returns-in-Some
returns-in-Some c =
    let level = c.in-Some.level in
    let bytes = c.args.bytes.now in
    subst (λ o. IfOk c.string.result (λ found. found ≡ bracket o bytes)) c.in-Some.ensures.value
    (c.string.ensures (long_body level (drop (level + 2) bytes))
    (subst (λ (t : List ℕ). IsFound (long_body level t) c.long_string.result) c.split_at.ensures.back c.long_string.ensures.found))
