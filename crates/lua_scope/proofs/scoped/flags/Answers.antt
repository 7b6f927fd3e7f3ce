use Rattle.std.proofs.Common.{◌+◌, sym, subst, List, Bool}
use Rattle.std.proofs.lemmas.Option.{slice_get-get_or}
use Rattle.lua_scope.specs.declared.usage.Use.TheVariants as usage
use Rattle.lua_scope.proofs.FlagLemmas.{Marks, marks_more}
use Rattle.lua_scope.proofs.scoped.flags.Goals as goal

pub loop-usage-preserved : goal.loop-usage-preserved
loop-usage-preserved c =
    subst (λ (flags : List Bool). Marks c.args.uses.now c.args.locals (c.loop-usage.usage-index + 1) flags) (sym c.mark.ensures)
    (marks_more c.args.uses.now c.args.locals c.loop-usage.usage-index c.loop-usage.marks _
    (slice_get-get_or c.args.uses.now c.loop-usage.usage-index (usage.Local 0) c.loop-usage-test.true) c.loop-usage.invariant)
