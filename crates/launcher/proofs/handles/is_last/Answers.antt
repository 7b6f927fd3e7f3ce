use borrow.Author.Tests.{ltb-true}
use Rattle.launcher.proofs.Listed.{below_last}
use Rattle.launcher.proofs.handles.is_last.Goals as goal

pub returns-in-Some : goal.returns-in-Some
returns-in-Some g c = λ t. below_last c.in-Some.last.now c.args.handle c.args.by_handle.now.entries c.in-Some.ensures.all_up_to (ltb-true _ _ t)
