use Rattle.std.proofs.Common.{◌≡◌, ◌∙◌, refl, sym, false}
use Rattle.indexmap.specs.IndexMap.{insert_entry}
use Rattle.lua_table.specs.Pairs.{Pairs, adds_nothing, with_pair}
use Rattle.lua_value.specs.Same.{same}
use Rattle.lua_value.specs.declared.value.Value.{Value}
use Rattle.lua_value.proofs.SameLemmas.{derived-is-same}
use Rattle.lua_table.proofs.table.LuaTable.set.Goals as goal

with_pair-inserts : (ps : Pairs) (k v : Value) → adds_nothing ps k v ≡ false → with_pair ps k v ≡ insert_entry same ps k v
with_pair-inserts ps k v h = rw h refl

pub returns-clause-ok : goal.returns-clause-ok
returns-clause-ok c =
    let stored = rw derived-is-same at c.in_ok-insert.ensures.entries in
    let adds = sym c.adds_nothing.ensures ∙ c.if-adds_nothing.false in
    stored ∙ rw c.self.view_is (sym (with_pair-inserts c.args.self.now c.args.key c.args.value adds))
