-- The agents, the tie and the locked place may be handed to another thread.
use denote.RattleType.{RattleType}
use denote.Param.{param}
use denote.Exit.{no}
use denote.Ref.{ShrRef}
use denote.Param.Send.{IsSend, IsSync, arg_send, param_send, shr_send, sendable}
use denote.Param.SendFields.{as_row_send, declared_send}
use mathlib.Core.List.{[], ◌∷◌}
use Rattle.std.proofs.Crossing.{sync, crosses}
use Rattle.message.specs.contracts.record.Entry as entry
use Rattle.std.specs.contracts.alloc.Global as heap
use Rattle.std.specs.contracts.sync.Mutex as mutex
use Rattle.tie.specs.contracts.root.Tie as tie
use Rattle.tied_record.specs.contracts.tests.Agent as agent
use Rattle.tied_record.specs.contracts.trail.OfAgent as of_agent
use Rattle.tied_record.specs.contracts.trail.OfAgentSide.TheImpl as agents
use Rattle.tied_record.specs.contracts.trail.OfPlace as of_place
use Rattle.tied_record.specs.contracts.trail.OfPlaceSide.TheImpl as places
use Rattle.tied_record.specs.contracts.trail.TiedRecord as tied
use Rattle.tied_record.specs.declared.trail.Naming as Naming
use Rattle.tied_record.proofs.Crossing.{captures_send, master_send, tie_sync, tied_send}
use Rattle.tied_record.proofs.tests.two_agents.Goals as goal

agent_send : (T : RattleType) (g : Naming.Ghosts T.Denot) → IsSend T → IsSend (agent.the_row T g)
agent_send T g t =
    let trail = tied_send T of_agent.the_row g agents.ghosts t (search sendable depth 20) in
    declared_send (agent.the_type T g) (as_row_send (tied.the_field T of_agent.the_row g agents.ghosts) trail, (master_send, tt))

place_sync : (T : RattleType) (g : Naming.Ghosts T.Denot) → IsSend T → IsSync (mutex.the_row (tied.the_row T of_place.the_row g places.ghosts))
place_sync T g t = let place = tied_send T of_place.the_row g places.ghosts t (search sendable depth 20) in search (crosses, place) depth 20

pub join-one-requires-send-F : goal.join-one-requires-send-F
join-one-requires-send-F g c κs within =
    let B = param 0 g.row.B in
    param_send _ _ (arg_send _ no _ (captures_send _ (ShrRef _ _ (param 1 g.row.R) ∷ ShrRef _ _ heap.the_row ∷ ShrRef _ _ (tie.the_row entry.the_row) ∷ agent.the_row B g.B.Naming
    ∷ ShrRef _ _ (mutex.the_row (tied.the_row B of_place.the_row g.B.Naming places.ghosts)) ∷ []) (
      shr_send _ _ _ c.type_bounds.sync-R,
      (
        shr_send _ _ _ sync,
        (
          shr_send _ _ _ tie_sync,
          (agent_send B g.B.Naming c.type_bounds.send-B, (shr_send _ _ _ (place_sync B g.B.Naming c.type_bounds.send-B), tt)),
        ),
      ),
    )))

pub join-one-requires-send-A : goal.join-one-requires-send-A
join-one-requires-send-A g c κs within = param_send _ _ (arg_send _ no _ (agent_send (param 0 g.row.B) g.B.Naming c.type_bounds.send-B))
