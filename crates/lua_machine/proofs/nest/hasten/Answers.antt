use Rattle.std.proofs.Common.{ℕ, refl, sym, ap, subst}
use Rattle.lua_machine.specs.Nests.{cells_under, Runnable}
use Rattle.lua_machine.proofs.StretchLemmas.{stretched_led}
use Rattle.lua_machine.proofs.NestLemmas.{reaches}
use Rattle.lua_machine.proofs.nest.hasten.Goals as goal

pub returns-clause-ran : goal.returns-clause-ran
returns-clause-ran c =
    let ready = c.requires.ready in
    let ups = ap (λ (n : ℕ). cells_under c.args.heap.now.closures n) ready.closes in
    record { is = λ s. stretched_led _ _ _ _ _ _ _ _ _ _ _ _ _ c.block_at.ensures.led ready.serves ready.begins refl ups }

pub returns-clause-reaches : goal.returns-clause-reaches
returns-clause-reaches c =
    let runs = subst (λ (n : ℕ). Runnable c.args.code.now c.args.active.function c.args.active.ops.now c.args.active.base n) (sym c.block_at.auto.row) c.requires.ready.runs in
    reaches _ _ _ _ _ _ _ _ c.requires.valid runs c.block_at.ensures.op c.block_at.ensures.pass
