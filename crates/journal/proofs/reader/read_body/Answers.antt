use Rattle.std.proofs.Common.{◌∙◌, ◌-◌, ap, sym, length, take, drop}
use Rattle.std.specs.Cmp.Lexicographic.{other_text, same_text}
use Rattle.journal.specs.Common.{common}
use Rattle.journal.specs.Format.{last_line}
use Rattle.journal.proofs.Bodies.{body_fault_by, body_read_by}
use Rattle.journal.proofs.reader.read_body.Goals as goal

pub returns-then-eq-clause-ok : goal.returns-then-eq-clause-ok
returns-then-eq-clause-ok c =
    body_read_by c.args.body.now c.in_ok-entries.entries.last c.in_ok-entries.entries.journal.agents c.in_ok-line.line
    c.in_ok-entries.ensures.ok (c.in_ok-line.ensures ∙ ap last_line c.len.ensures) (same_text _ _ c.if-eq.ensures ∙ c.as_slice.ensures)

pub returns-clause-err : goal.returns-clause-err
returns-clause-err c =
    body_fault_by c.args.body.now c.in_ok-entries.entries.last c.in_ok-entries.entries.journal.agents c.in_ok-line.line
    c.in_ok-entries.ensures.ok (c.in_ok-line.ensures ∙ ap last_line c.len.ensures) c.common-same.result
    (c.common-same.ensures.same ∙ ap (common (take (length c.args.body.now - c.in_ok-entries.entries.last) (drop c.in_ok-entries.entries.last c.args.body.now))) c.as_slice-2.ensures) (λ e. other_text _ _ c.if-eq.ensures (e ∙ sym c.as_slice.ensures))
