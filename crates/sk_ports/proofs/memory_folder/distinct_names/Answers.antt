use Rattle.std.proofs.Common.{◌∙◌, ap, sym, arith}
use Rattle.sk_ports.specs.Files.{with_name}
use Rattle.sk_ports.proofs.FilesLemmas.{names_of-more}
use Rattle.sk_ports.proofs.memory_folder.distinct_names.Goals as goal

pub loop-name-preserved : goal.loop-name-preserved
loop-name-preserved c =
    c.in_ok-add_name.ensures
    ∙ ap (λ names. with_name names c.as_str.result.now) c.loop-name.invariant
    ∙ ap (with_name _) c.as_str.ensures.value
    ∙ sym (names_of-more c.args.files.now c.loop-name.name-index c.loop-name-item.result (omega arith) c.loop-name-item.is)
