use Rattle.std.proofs.Common.{◌∙◌, ap, sym, ◌++◌}
use Rattle.log_script.specs.Form.{first_line}
use Rattle.log_script.proofs.FormLemmas.{begins, reads_lines}
use Rattle.log_script.proofs.reader.read_log.Goals as goal

pub returns-clause-read : goal.returns-clause-read
returns-clause-read c =
    reads_lines c.args.source.now c.in-Some.rest.now c.read_lines.result c.if-source-gt-MAX_LEN.false
    (begins c.args.source.now first_line c.in-Some.ensures.cases.0 ∙ ap (λ rest. first_line ++ rest) (sym c.in-Some.ensures.cases.1))
    c.read_lines.ensures.read
