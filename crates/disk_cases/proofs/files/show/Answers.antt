use Rattle.std.proofs.Common.{arith}
use Rattle.disk_cases.proofs.Listed.{item_is_listed}
use Rattle.disk_cases.proofs.files.show.Goals as goal

pub read-requires : goal.read-requires
read-requires g c =
    item_is_listed (g.F.Folder.listed c.loop-name.folder) c.deref-name-items.result.now c.loop-name.name-index c.name-item.result c.as_str.result.now
    c.loop-name.invariant (omega arith) c.name-item.is c.as_str.ensures.value
