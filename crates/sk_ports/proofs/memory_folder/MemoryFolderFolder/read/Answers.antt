use Rattle.sk_ports.specs.Files.{files_of}
use Rattle.sk_ports.proofs.FilesLemmas.{listed_has_file}
use Rattle.sk_ports.proofs.memory_folder.MemoryFolderFolder.read.Goals as goal

pub unreachable-requires : goal.unreachable-requires
unreachable-requires c =
    listed_has_file c.args.self.now.listed (files_of c.args.self.now.files.items) c.args.name.now c.requires
    (rw (← c.is_refused.ensures.kept.0, ← c.deref.ensures.value) c.in_default.ensures)
