use Rattle.sk_ports.specs.Files.{files_of}
use Rattle.sk_ports.proofs.FilesLemmas.{IsDistinct-names_of, Lists-names_of}
use Rattle.sk_ports.proofs.memory_folder.MemoryFolderFolder.names.Goals as goal

pub returns-clause-told : goal.returns-clause-told
returns-clause-told c = rw c.in_ok-names.ensures (rw (c.deref.ensures.value, c.is_refused.ensures.kept.0) (Lists-names_of (files_of c.args.self.now.files.items)))

pub returns-clause-once : goal.returns-clause-once
returns-clause-once c = rw c.in_ok-names.ensures (IsDistinct-names_of (files_of c.deref.result.now))
