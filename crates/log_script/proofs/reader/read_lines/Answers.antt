use Rattle.std.proofs.Common.{◌∙◌, ◌++◌, ◌∷◌, [], ap, refl, sym, true≢false}
use Rattle.log_script.proofs.FormLemmas.{Continues-line, lines_alone, lines_found, lines_refused}
use Rattle.log_script.proofs.reader.read_lines.Goals as goal

pub loop-text-preserved : goal.loop-text-preserved
loop-text-preserved c =
    Continues-line c.args.source.now c.loop-text.rest.now c.in-Some.text.now c.in-Some.after.now c.loop-text.texts c.push.new.self
    (c.in_ok-push.ensures.ok ∙ ap (λ text. c.loop-text.texts ++ text ∷ []) c.in_ok-from_slice.ensures)
    c.in-Some.ensures c.loop-text.invariant

pub returns-then-is_end-clause-read : goal.returns-then-is_end-clause-read
returns-then-is_end-clause-read c =
    lines_found c.args.source.now c.loop-text.rest.now c.loop-text.texts c.loop-text.invariant (c.is_end.ensures.0 c.if-is_end.true)

pub returns-then-is_end-clause-alone : goal.returns-then-is_end-clause-alone
returns-then-is_end-clause-alone c = lines_alone c.args.source.now c.loop-text.rest.now c.loop-text.texts c.loop-text.invariant c.in_default.ensures

pub returns-else-is_end-clause-refused : goal.returns-else-is_end-clause-refused
returns-else-is_end-clause-refused c =
    rw c.not_built.ensures (
      refl,
      lines_refused c.args.source.now c.loop-text.rest.now c.loop-text.texts c.loop-text.invariant c.in_default.ensures
          (λ e. absurd (true≢false (sym (c.is_end.ensures.1 e) ∙ c.if-is_end.false))),
    )
