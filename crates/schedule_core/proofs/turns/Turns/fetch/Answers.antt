use Rattle.std.proofs.Common.{◌≡◌, Some, None, slice_get, refl, arith}
use Rattle.schedule_core.proofs.Lists.{got_here}
use Rattle.schedule_core.proofs.Placed.{queue_fits, fetch_placed}
use Rattle.schedule_core.proofs.turns.Turns.fetch.Goals as goal

pub overflow_sub-own : goal.overflow_sub-own
overflow_sub-own c = (queue_fits _ c.in-Some.own c.pop_front.new.self.items c.self.invariant c.in-Some.ensures.items).0

pub index_mut-requires : goal.index_mut-requires
index_mut-requires c =
    let fits = queue_fits _ c.in-Some.own c.pop_front.new.self.items c.self.invariant c.in-Some.ensures.items in
    let big = fits.0 in
    let within = fits.1 in
    omega (arith, big, within)

pub invariant_of-self-2 : goal.invariant_of-self-2
invariant_of-self-2 c =
    let found = c.in-Some-None.ensures.lookup in
    let empty : slice_get c.self.inside.hands.items c.args.worker ≡ Some None = got_here c.deref.result.now c.self.inside.hands.items c.args.worker c.in-Some-None.field-0.now None c.deref.ensures.value found.3.0 found.1 c.in-Some-None.field-0-is in
    fetch_placed _ c.args.worker c.in-Some.own _ c.self.invariant (record { rest = c.pop_front.new.self.items; empty = empty; first = c.in-Some.ensures.items; after = refl })

pub returns-clause-done : goal.returns-clause-done
returns-clause-done c = λ done.
    let found = c.in-Some-None.ensures.lookup in
    let empty : slice_get c.self.inside.hands.items c.args.worker ≡ Some None = got_here c.deref.result.now c.self.inside.hands.items c.args.worker c.in-Some-None.field-0.now None c.deref.ensures.value found.3.0 found.1 c.in-Some-None.field-0-is in
    rw (← c.self.view_is) (c.in-Some.own, record { rest = c.pop_front.new.self.items; empty = empty; first = c.in-Some.ensures.items; after = refl })
