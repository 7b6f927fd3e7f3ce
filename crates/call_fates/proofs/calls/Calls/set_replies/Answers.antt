use Rattle.std.proofs.Common.{ap, sym, ◌∙◌}
use Rattle.std.specs.Option.{option_copied}
use Rattle.call_fates.specs.Calls.{replies}
use Rattle.call_fates.specs.declared.calls.Fate.TheVariants.{Void}
use Rattle.call_fates.proofs.Table.{becomes_more}
use Rattle.call_fates.proofs.calls.Calls.set_replies.Goals as goal

pub loop-at-preserved : goal.loop-at-preserved
loop-at-preserved c =
    becomes_more c.args.self.now c.loop-at.self c.set_reply.new.self Void (λ k m. replies k c.args.caller.0 m) c.args.messages.now c.loop-at.at c.in-Some.message.now
    c.loop-at.invariant (sym c.get.ensures ∙ ap option_copied c.in-Some.is) c.set_reply.ensures
