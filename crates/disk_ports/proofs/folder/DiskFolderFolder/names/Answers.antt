use Rattle.disk_ports.proofs.NamesLemmas.{IsDistinct-in_order}
use Rattle.disk_ports.proofs.folder.DiskFolderFolder.names.Goals as goal

pub returns-clause-once : goal.returns-clause-once
returns-clause-once g c =
    rw (c.in_ok-copies.ensures, c.deref.ensures.value, c.in_ok-names.ensures.list) (IsDistinct-in_order c.in-Ok.names.keys c.in_order.ensures.ordered)
