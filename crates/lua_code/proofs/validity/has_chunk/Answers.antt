use Rattle.std.proofs.Common.{rules, ◌≡◌, ◌-◌, ℕ, Some, Option, length, sym, ap, ◌∙◌, subst, IsTrue}
use Rattle.std.specs.Prelude.{slice_get}
use Rattle.std.proofs.lemmas.Option.{slice_get_read}
use Rattle.lua_code.specs.Routine.{Routine}
use Rattle.lua_code.specs.Valid.{CapturesNothing}
use Rattle.lua_code.proofs.validity.has_chunk.Goals as goal

pub returns-in-Some : goal.returns-in-Some
returns-in-Some c =
    let there : slice_get c.args.code.now c.saturating_sub.result ≡ Some c.in-Some.chunk.now = search (rules, slice_get_read) in
    let here : slice_get c.args.code.now (length c.args.code.now - 1) ≡ Some c.in-Some.chunk.now = ap (λ (n : ℕ). slice_get c.args.code.now n) (sym c.saturating_sub.ensures) ∙ there in
    subst (λ (o : Option Routine). (IsTrue c.captures_nothing.result → CapturesNothing o) × (CapturesNothing o → IsTrue c.captures_nothing.result)) (sym here) c.captures_nothing.ensures
