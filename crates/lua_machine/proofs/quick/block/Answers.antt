use Rattle.std.proofs.Common.{◌≡◌, ◌≤◌, List, length, slice_get, sym, ap, ◌∙◌, subst, arith}
use Rattle.lua_heap.specs.Contents.{Contents}
use Rattle.lua_code.specs.declared.op.Op.{Op}
use Rattle.lua_steps.specs.Machine.{Closure}
use Rattle.lua_machine.specs.Nests.{own_in, ups_in}
use Rattle.lua_machine.specs.Quick.{Near, Quick}
use Rattle.lua_machine.proofs.QuickLemmas.{within_fits, near_fits, holds_fits, fits_at, op_there, ran_more, ran_falls}
use Rattle.lua_machine.proofs.quick.block.Goals as goal

pub quick-requires-clause-within : goal.quick-requires-clause-within
quick-requires-clause-within g c =
    let runs = c.requires.runs in
    let at = c.quick.pace.at in
    let op = c.fetch-op.result.now in
    let here = ap (λ (ops : List Op). slice_get ops at) (sym runs.has) ∙ c.fetch-op.ensures in
    let fits = fits_at c.args.code.now c.args._function runs.routine at op c.requires.valid runs.is here in
    let long : runs.routine.shape.slots ≤ length c.quick.row = omega (arith, runs.room, c.quick.auto.row) in
    within_fits c.args.code.now runs.routine at (length c.quick.row) op fits long

pub quick-requires-clause-near : goal.quick-requires-clause-near
quick-requires-clause-near g c =
    let runs = c.requires.runs in
    let at = c.quick.pace.at in
    let op = c.fetch-op.result.now in
    let here = ap (λ (ops : List Op). slice_get ops at) (sym runs.has) ∙ c.fetch-op.ensures in
    let fits = fits_at c.args.code.now c.args._function runs.routine at op c.requires.valid runs.is here in
    subst (λ (ops : List Op). Near (length ops) at op) (sym runs.has) (near_fits c.args.code.now runs.routine at op fits)

pub quick-requires-clause-holds : goal.quick-requires-clause-holds
quick-requires-clause-holds g c =
    let runs = c.requires.runs in
    let at = c.quick.pace.at in
    let op = c.fetch-op.result.now in
    let here = ap (λ (ops : List Op). slice_get ops at) (sym runs.has) ∙ c.fetch-op.ensures in
    holds_fits c.args.code.now c.args._function runs.routine at op runs.is (fits_at c.args.code.now c.args._function runs.routine at op c.requires.valid runs.is here)

pub quick-smaller : goal.quick-smaller
quick-smaller g c =
    let runs = c.requires.runs in
    let here = ap (λ (ops : List Op). slice_get ops c.quick.pace.at) (sym runs.has) ∙ c.fetch-op.ensures in
    let there = op_there c.args.code.now c.args._function runs.routine c.quick.pace.at c.fetch-op.result.now runs.is here in
    ran_falls _ _ _ _ _ _ _ _ _ _ _ c.law_measure_falls.ensures c.requires.valid there c.in_default.ensures.ok

pub quick-preserved : goal.quick-preserved
quick-preserved g c =
    let runs = c.requires.runs in
    let here = ap (λ (ops : List Op). slice_get ops c.quick.pace.at) (sym runs.has) ∙ c.fetch-op.ensures in
    let there = op_there c.args.code.now c.args._function runs.routine c.quick.pace.at c.fetch-op.result.now runs.is here in
    let same : c.quick.heap.closures ≡ c.args.heap.now.closures = ap (λ (h : Contents). h.closures) c.quick.invariant.heap in
    let went =
    subst
    (λ (cs : List Closure). Quick c.args.code.now c.args._function c.fetch-op.result.now (own_in c.args.owner) (ups_in c.args.owner cs) c.quick.row c.quick.heap.cells c.quick.pace c.quick-in-quick.new.row c.quick-in-quick.new.heap.cells c.quick-in-quick.new.pace)
    same c.in_default.ensures.ok in
    record {
      place = c.in_default.ensures.place;
      ran = ran_more _ _ _ _ _ _ _ _ _ _ _ _ _ _ c.quick.invariant.ran there went;
      heap = c.quick-in-quick.ensures.heap ∙ ap (λ (h : Contents). record h { cells = c.quick-in-quick.new.heap.cells }) c.quick.invariant.heap;
    }
