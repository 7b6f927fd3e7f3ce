use Rattle.std.proofs.Common.{◌<◌, length, arith}
use Rattle.message.specs.Messages.{requests}
use Rattle.message.proofs.Bounced.{rest_held_more}
use Rattle.message.proofs.leaving.Bounces.drop_first.Goals as goal

pub returns-then-self-len : goal.returns-then-self-len
returns-then-self-len c =
    let b = c.self.inside in
    let more : b.done < length b.held = omega arith in
    rw (← c.self.view_is) (rest_held_more b.held b.done (requests b.waiting) more)
