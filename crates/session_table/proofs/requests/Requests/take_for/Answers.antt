use Rattle.std.proofs.Common.{ℕ, List, ◌≤◌, ◌+◌, length, vec_capacity, sym, subst, ap, ◌∙◌, arith}
use Rattle.message.specs.declared.request.Held.{Held}
use Rattle.session_table.specs.Table.{AllBelow, taken_more}
use Rattle.session_table.proofs.Lists.{taken_below, taken_long, undone, put_last}
use Rattle.session_table.proofs.requests.Requests.take_for.Goals as goal

pub invariant_of-self-in-Ok : goal.invariant_of-self-in-Ok
invariant_of-self-in-Ok c =
    let long = taken_long c.self.inside.next c.args.held c.self.inside.taken.entries _ c.self.invariant.0 c.in_ok-insert.ensures.entries in (
      taken_below c.self.inside.next c.args.held c.self.inside.taken.entries _ c.self.invariant.0 c.in_ok-insert.ensures.entries,
      omega (arith, c.reserve.ensures.len, c.self.invariant.1),
      omega (arith, long, c.in_ok-reserve.ensures.ok, c.len.ensures.len),
    )

pub invariant_of-self-in-Err : goal.invariant_of-self-in-Err
invariant_of-self-in-Err c =
    let back = undone c.self.inside.next c.args.held c.self.inside.taken.entries _ _ c.self.invariant.0 c.in_ok-insert.ensures.entries c.remove.ensures.entries in
    let fits : length c.self.inside.taken.entries ≤ vec_capacity c.reserve.new.self = omega (arith, c.self.invariant.2, c.reserve.ensures.capacity) in (
      subst (AllBelow c.self.inside.next) (sym back) c.self.invariant.0,
      omega (arith, c.reserve.ensures.len, c.self.invariant.1),
      subst (λ (es : List (ℕ × Held)). length es ≤ vec_capacity c.reserve.new.self) (sym back) fits,
    )

pub returns-in-Ok-clause-ok : goal.returns-in-Ok-clause-ok
returns-in-Ok-clause-ok c =
    let last = c.in_ok-insert.ensures.entries ∙ put_last c.self.inside.next c.args.held c.self.inside.taken.entries c.self.invariant.0 in
    (λ i. record { next = c.self.inside.next + 1; held = last i }) ∙ ap (λ t. taken_more t c.args.held) c.self.view_is

pub returns-in-Err-clause-err : goal.returns-in-Err-clause-err
returns-in-Err-clause-err c =
    let back = undone c.self.inside.next c.args.held c.self.inside.taken.entries _ _ c.self.invariant.0 c.in_ok-insert.ensures.entries c.remove.ensures.entries in
    (λ i. record { next = c.self.inside.next; held = back i }) ∙ c.self.view_is
