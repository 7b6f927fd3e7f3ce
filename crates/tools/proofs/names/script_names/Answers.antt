use Rattle.std.proofs.Common.{map, string_bytes, take, arith}
use Rattle.std.specs.BTreeSet.{contains_text}
use Rattle.tools.proofs.NamesLemmas.{bytes_more, has_more, scripts_told}
use Rattle.tools.proofs.names.script_names.Goals as goal

pub loop-name-preserved : goal.loop-name-preserved
loop-name-preserved c =
    rw (bytes_more c.args.listed.now c.loop-name.name-index c.name-item.result c.as_str.result.now (omega arith) c.name-item.is c.as_str.ensures.value)
    (has_more (contains_text c.loop-name.names) (contains_text c.add_script.new.names) (map string_bytes (take c.loop-name.name-index c.args.listed.now)) c.as_str.result.now
    c.in_ok-add_script.ensures c.loop-name.invariant)

pub returns : goal.returns
returns c =
    scripts_told c.loop-name.names c.args.listed.now c.loop-name.name-index c.in_order.result (omega arith) c.in_order.ensures.list c.in_order.ensures.order
    c.loop-name.invariant
