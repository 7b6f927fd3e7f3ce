-- What an agent is about to do, as a scheduler sees it (skynet_context_message_dispatch in skynet_server.c).
use Rattle.std.specs.Prelude.{List, [], ◌∷◌, Option}
use Rattle.std.specs.Option.{option_map}
use Rattle.sk_types.specs.declared.number.Handle.{Handle}
use Rattle.message.specs.Actors.{Way}
use Rattle.message.specs.Steps.{Op, Asks, Takes, Ends, Ticks, Fires, ops}
use Rattle.message.specs.Worlds.{World, agent}
use Rattle.message.specs.declared.request.Request.TheVariants as ask
use Rattle.world_machine.specs.declared.phase.Phase.{Phase}
use Rattle.world_machine.specs.declared.phase.Phase.TheVariants.{Idle, Over, Sends, Elsewhere}

abbrev pub op_phase : Op → Phase
op_phase (Asks (ask.Put to m)) = Sends to
op_phase (Asks (ask.Mark to)) = Sends to
op_phase (Asks (ask.Look dest)) = Elsewhere
op_phase (Asks (ask.Launch name args)) = Elsewhere
op_phase (Asks (ask.Name text h)) = Elsewhere
op_phase (Asks (ask.Retire h)) = Elsewhere
op_phase (Asks (ask.Later n x)) = Elsewhere
op_phase (Asks ask.Now) = Elsewhere
op_phase Takes = Idle
op_phase Ends = Idle
op_phase Ticks = Elsewhere
op_phase (Fires to m) = Sends to

-- by the first operation that it may do; none is left where it is over
abbrev pub phase_of : List Op → Phase
phase_of [] = Over
phase_of (op ∷ more) = op_phase op

-- the phase of agent h, where there is one
abbrev pub phase : {S : Type 0} → Way S → World S → Handle → Option Phase
phase way w h = option_map (λ a. phase_of (ops way a)) (agent w h)
