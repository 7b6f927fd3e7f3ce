use Rattle.std.proofs.Common.{◌∙◌, ap, drop, take}
use Rattle.log_script.proofs.FormLemmas.{found_line, refused_line}
use Rattle.log_script.proofs.reader.next_line.Goals as goal

pub returns-in_err-rest : goal.returns-in_err-rest
returns-in_err-rest c =
    let opened = c.in_ok-body.ensures.cases in
    rw c.from_residual-in_err-rest.ensures
    (refused_line c.args.rest.now c.in_ok-body.body.now c.split_at.result.1.now c.plain_len.result opened.0 opened.1 c.plain_len.ensures
    c.split_at.ensures.back c.in_err-rest.ensures.cases)

pub returns : goal.returns
returns c =
    let opened = c.in_ok-body.ensures.cases in
    let closed = c.in_ok-rest.ensures.cases in
    let body = c.in_ok-body.body.now in
    found_line c.args.rest.now opened.0 body c.split_at.result.0.now c.split_at.result.1.now c.in_ok-rest.rest.now opened.1
    (c.split_at.ensures.front ∙ ap (λ n. take n body) c.plain_len.ensures) (c.split_at.ensures.back ∙ ap (λ n. drop n body) c.plain_len.ensures)
    closed.0 closed.1
