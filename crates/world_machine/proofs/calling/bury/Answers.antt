use Rattle.std.proofs.Common.{◌+◌, refl}
use Rattle.std.specs.List.{sum_by}
use Rattle.call_fates.specs.Calls.{all_of, asks}
use Rattle.call_fates.specs.declared.calls.Fate.TheVariants.{OnItsWay}
use Rattle.call_fates.proofs.Table.{becomes_join}
use Rattle.world_machine.proofs.calling.bury.Goals as goal

pub returns : goal.returns
returns c = (
  c.set_replies.new.self,
  c.set_replies.ensures,
  becomes_join c.set_replies.new.self c.set_held.new.self c.set_bounced.new.self OnItsWay (λ k. all_of k 0 c.args.held.now) (λ k. sum_by (asks k 0) c.args.waiting.now) (λ k. all_of k 0 c.args.held.now + sum_by (asks k 0) c.args.waiting.now)
      c.set_held.ensures c.set_bounced.ensures (λ k. refl),
)
