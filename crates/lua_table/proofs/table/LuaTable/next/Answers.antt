use Rattle.std.proofs.Common.{◌≡◌, ◌∙◌, ◌+◌, ap, refl, sym, ℕ, Bool, false, Option, Some, drop}
use Rattle.std.specs.Prelude.{Ok, position}
use Rattle.std.specs.Map.{keys_of}
use Rattle.lua_table.specs.Pairs.{Pairs, first_set, next_of}
use Rattle.lua_value.specs.Same.{same, is_nil}
use Rattle.lua_value.specs.declared.value.Value.{Value}
use Rattle.lua_value.proofs.SameLemmas.{derived-is-same}
use Rattle.lua_table.proofs.table.LuaTable.next.Goals as goal

next_found : (ps : Pairs) (key : Value) (i : ℕ) (r : Option (Value × Value)) → is_nil key ≡ false
    → Some i ≡ position (same key) (keys_of ps) → r ≡ first_set (drop (i + 1) ps) → Ok r ≡ next_of ps key
next_found ps key i r nil found e = rw (nil, ← found, e) refl

pub returns-in-Some : goal.returns-in-Some
returns-in-Some c =
    let found : Some c.in-Some.index ≡ position (same c.args.key.now) (keys_of c.self.inside.map.entries) =
    c.in-Some.ensures.index ∙ ap (λ (eq : Value → Value → Bool). position (eq c.args.key.now) (keys_of c.self.inside.map.entries)) derived-is-same in
    next_found c.args.self.now c.args.key.now c.in-Some.index c.first_set-in-Some.result (sym c.is_nil.ensures ∙ c.if-is_nil.false)
    (rw (← c.self.view_is) found) c.first_set-in-Some.ensures
