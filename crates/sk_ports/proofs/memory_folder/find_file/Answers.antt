use Rattle.std.proofs.Common.{◌∙◌, ap, arith, sym}
use Rattle.std.specs.Str.{bytes_eq}
use Rattle.sk_ports.proofs.FilesLemmas.{file_here, file_not_yet}
use Rattle.sk_ports.proofs.memory_folder.find_file.Goals as goal

pub returns-then-eq : goal.returns-then-eq
returns-then-eq c = file_here c.args.files.now c.loop-other.other-index c.loop-other-item.result c.args.name.now (omega arith) c.loop-other-item.is
    c.loop-other.invariant (ap (bytes_eq c.args.name.now) (sym c.as_str.ensures.value) ∙ sym c.eq.ensures ∙ c.if-eq.true)

pub loop-other-preserved : goal.loop-other-preserved
loop-other-preserved c = file_not_yet c.args.files.now c.loop-other.other-index c.loop-other-item.result c.args.name.now (omega arith) c.loop-other-item.is
    c.loop-other.invariant (ap (bytes_eq c.args.name.now) (sym c.as_str.ensures.value) ∙ sym c.eq.ensures ∙ c.if-eq.false)
