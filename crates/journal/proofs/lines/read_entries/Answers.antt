use Rattle.std.proofs.Common.{◌≡◌, ◌∙◌, ◌+◌, ℕ, List, length, ap, sym, refl, arith, get_or}
use Rattle.std.proofs.Math.Path.{subst, subst₂}
use Rattle.sk_types.specs.Entries.{Entries}
use Rattle.sk_types.specs.declared.number.Handle.{Handle}
use Rattle.journal.specs.Tails.{IsReached}
use Rattle.journal.specs.declared.lines.Spot.{Spot}
use Rattle.journal.specs.declared.lines.Step.TheVariants as step
use Rattle.journal.proofs.Reading.{drop_of, fault_end, fault_here, next_of, reached_digit, reached_entry, takes_at}
use Rattle.journal.proofs.lines.read_entries.Goals.{in-Digit, in-Entry+in_ok-push-in-Entry}
use Rattle.journal.proofs.lines.read_entries.Goals as goal

pub returns-in-Fault-clause-err : goal.returns-in-Fault-clause-err
returns-in-Fault-clause-err c =
    fault_here c.args.body.now c.loop-at.at (get_or c.args.body.now c.loop-at.at 0) c.loop-at.journal.agents c.loop-at.place
    c.loop-at-test.true (drop_of c.args.body.now c.loop-at.at c.loop-at-test.true) c.loop-at.invariant
    (takes_at c.loop-at.place (get_or c.args.body.now c.loop-at.at 0) c.len.result _ step.Fault c.len.ensures c.in-Fault.ensures)

pub loop-at-preserved : goal.loop-at-preserved
loop-at-preserved c =
    let next = next_of c.args.body.now c.loop-at.at c.loop-at-test.true in
    elim c.match-step_at.branch [
      | in-Digit w ↦
          let takes = takes_at c.loop-at.place (get_or c.args.body.now c.loop-at.at 0) c.len.result _ (step.Digit w.in-Digit.number) c.len.ensures w.in-Digit.ensures in
          subst₂ (λ (j : Entries) (p : Spot). IsReached c.args.body.now (c.loop-at.at + 1) j.agents p) (sym w.journal-is) (sym w.place-is)
          (reached_digit c.args.body.now c.loop-at.at (get_or c.args.body.now c.loop-at.at 0) c.loop-at.journal.agents c.loop-at.place w.in-Digit.number next c.loop-at.invariant takes)
      | in-Entry+in_ok-push-in-Entry w ↦
          let takes = takes_at c.loop-at.place (get_or c.args.body.now c.loop-at.at 0) c.len.result _ (step.Entry w.in-Entry.number) c.len.ensures w.in-Entry.ensures in
          let h : Handle = record { 0 = w.in-Entry.number } in
          let agents = ap (λ (j : Entries). j.agents) w.journal-is ∙ w.in_ok-push-in-Entry.ensures.ok in
          subst₂ (λ (a : List Handle) (p : Spot). IsReached c.args.body.now (c.loop-at.at + 1) a p) (sym agents) (sym w.place-is)
          (reached_entry c.args.body.now c.loop-at.at (get_or c.args.body.now c.loop-at.at 0) c.loop-at.journal.agents c.loop-at.place w.in-Entry.number h refl next c.loop-at.invariant takes)
    ]

pub returns-clause-err : goal.returns-clause-err
returns-clause-err c =
    let at_end : c.loop-at.at ≡ length c.args.body.now = omega (arith, c.loop-at.auto.at-end, c.loop-at-test.false) in
    fault_end c.args.body.now c.loop-at.journal.agents c.loop-at.place
    (subst (λ (at : ℕ). IsReached c.args.body.now at c.loop-at.journal.agents c.loop-at.place) at_end c.loop-at.invariant)
