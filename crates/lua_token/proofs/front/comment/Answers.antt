use Rattle.std.proofs.Common.{◌≡◌, ◌∙◌, ◌+◌, ap, drop, subst, List, ℕ, IfOk}
use Rattle.lua_token.specs.Strings.{IsFound, long_body}
use Rattle.lua_token.specs.Front.{bracket_level, remark_at}
use Rattle.lua_token.proofs.front.comment.Goals as goal

pub returns-in-Some : goal.returns-in-Some
returns-in-Some c =
    let level = c.in-Some.level in
    let hyphen = c.args.hyphen.now in
    let after = drop 1 hyphen in
    subst (λ o. IfOk c.remark.result (λ found. found ≡ remark_at o after)) (c.in-Some.ensures.value ∙ ap bracket_level c.split_at.ensures.back)
    (c.remark.ensures (long_body level (drop (level + 2) after))
    (subst (λ (t : List ℕ). IsFound (long_body level t) c.long_string.result) (c.split_at-in-Some.ensures.back ∙ ap (drop (level + 2)) c.split_at.ensures.back) c.long_string.ensures.found))
