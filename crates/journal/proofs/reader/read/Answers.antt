use Rattle.std.proofs.Common.{◌-◌, take, drop, length, sym, arith}
use Rattle.std.proofs.Math.Path.{subst}
use Rattle.journal.specs.Faults.{IsBody, IsFault, IsFirstFault, IsText}
use Rattle.journal.proofs.Bodies.{head_fault, text_fault_by, text_read_by}
use Rattle.journal.proofs.reader.read.Goals as goal

pub returns-then-begun-clause-err : goal.returns-then-begun-clause-err
returns-then-begun-clause-err c =
    subst (IsFirstFault IsText c.args.text.now) (sym c.common-begun.ensures.same)
    (head_fault c.args.text.now (omega (arith, c.if-begun.true, c.common-begun.ensures.same)))

pub returns-in-Ok-clause-ok : goal.returns-in-Ok-clause-ok
returns-in-Ok-clause-ok c =
    text_read_by c.args.text.now c.in-Ok.journal.agents (omega (arith, c.if-begun.false, c.common-begun.ensures.same, c.common-begun.ensures.within)) c.in-Ok.ensures.ok

pub returns-in-Err-Form-clause-err : goal.returns-in-Err-Form-clause-err
returns-in-Err-Form-clause-err c =
    let fault : IsFirstFault IsBody (take (length c.args.text.now - 17) (drop 17 c.args.text.now)) c.in-Err-Form.offset =
    subst (IsFault IsBody (take (length c.args.text.now - 17) (drop 17 c.args.text.now))) c.in-Err-Form.field-0-is c.in-Err-Form.ensures.err in
    text_fault_by c.args.text.now c.in-Err-Form.offset (omega (arith, c.if-begun.false, c.common-begun.ensures.same, c.common-begun.ensures.within))
    (omega (arith, c.if-begun.false, c.common-begun.ensures.within)) fault
