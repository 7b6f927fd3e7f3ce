use Rattle.std.proofs.Common.{string_bytes}
use Rattle.std.specs.BTreeSet.{contains_text}
use Rattle.std.proofs.lemmas.Map.Text.{btree_set_updates_text}
use Rattle.tools.proofs.NamesLemmas.{has_one}
use Rattle.tools.proofs.names.add_script.Goals as goal

pub returns-in_ok-insert : goal.returns-in_ok-insert
returns-in_ok-insert c =
    has_one (contains_text c.args.names.now) (contains_text c.insert.new.self) (string_bytes c.in_ok-from_str.field-0) c.args.name.now c.is_script.result
    c.if-is_script.true c.is_script.ensures c.in_ok-from_str.ensures.ok
    (btree_set_updates_text (string_bytes c.in_ok-from_str.field-0) c.args.names.now c.insert.new.self _ c.in_ok-insert.ensures.updates)
