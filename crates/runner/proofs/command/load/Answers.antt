use Rattle.sk_ports.specs.Files.{files_of}
use Rattle.runner.proofs.RunLemmas.{early_told, starts_told}
use Rattle.runner.proofs.command.load.Goals as goal

pub returns-clause-script : goal.returns-clause-script
returns-clause-script g c =
    starts_told (g.F.Folder.held c.args.folder.now) (files_of c.in-Ok.scripts.items) c.in-Some.source.now.items c.read_start.result c.in-Ok.ensures.scripts
    (rw c.deref.ensures.value at c.in-Some.ensures) (rw c.as_slice.ensures.value at c.read_start.ensures.script)

pub returns-clause-early : goal.returns-clause-early
returns-clause-early g c =
    early_told (g.F.Folder.held c.args.folder.now) (files_of c.in-Ok.scripts.items) c.in-Some.source.now.items _ _ c.read_start.result c.in-Ok.ensures.scripts
    (rw c.deref.ensures.value at c.in-Some.ensures) c.in-Ok.ensures.cause.kept (rw c.as_slice.ensures.value at c.read_start.ensures.refused)
