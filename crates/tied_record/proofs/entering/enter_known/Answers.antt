use Rattle.std.proofs.Common.{◌∙◌, ap, sym, false, true, Some, None}
use Rattle.tied_record.proofs.TiedLemmas.{is_here, known_half, met_of, mine_more, pair_of, tied_more, yours_more}
use Rattle.tied_record.proofs.entering.enter_known.Goals as goal

pub take-first-requires : goal.take-first-requires
take-first-requires g c =
    is_here g.B.Naming.table false c.mine.inside.own c.mine.inside.entries.items c.mine.inside.halves c.yours.inside.own c.mine.invariant
    (met_of false true c.yours.inside.own c.mine.inside.entries.items c.args.yours.now c.args.mine.now (ap (λ v. v.own) c.yours.view_is) (ap (λ v. v.entries) c.mine.view_is) c.requires.mine)

pub take-second-requires : goal.take-second-requires
take-second-requires g c =
    is_here g.B.Naming.table true c.yours.inside.own c.yours.inside.entries.items c.yours.inside.halves c.mine.inside.own c.yours.invariant
    (met_of true true c.mine.inside.own c.yours.inside.entries.items c.args.mine.now c.args.yours.now (ap (λ v. v.own) c.mine.view_is) (ap (λ v. v.entries) c.yours.view_is) c.requires.yours)

pub add-requires-clause-table : goal.add-requires-clause-table
add-requires-clause-table g c = ap (λ p. p.table) (known_half g.B.Naming.table false c.mine.inside.own c.mine.inside.entries.items c.mine.inside.halves c.yours.inside.own c.take-first.result c.mine.invariant c.take-first.ensures.half) ∙ sym c.requires.tie

pub add-requires-clause-pair : goal.add-requires-clause-pair
add-requires-clause-pair g c =
    pair_of g.B.Naming.table c.mine.inside.own c.yours.inside.own _ _ c.take-first.result c.take-second.result
    (known_half g.B.Naming.table false c.mine.inside.own c.mine.inside.entries.items c.mine.inside.halves c.yours.inside.own c.take-first.result c.mine.invariant c.take-first.ensures.half)
    (known_half g.B.Naming.table true c.yours.inside.own c.yours.inside.entries.items c.yours.inside.halves c.mine.inside.own c.take-second.result c.yours.invariant c.take-second.ensures.half)

pub invariant_of-mine-2 : goal.invariant_of-mine-2
invariant_of-mine-2 g c =
    rw (c.push_reserved.ensures.items, c.reserve.ensures.items)
    (tied_more g.B.Naming.table false c.mine.inside.own c.mine.inside.entries.items c.mine.inside.halves c.take-first.new.halves c.put.new.halves c.yours.inside.own (Some None) c.args.entry
    c.add.new.mine c.mine.invariant (c.requires.place ∙ sym (ap (λ v. v.own) c.yours.view_is)) c.take-first.ensures.rest c.put.ensures
    (c.add.ensures.mine ∙ mine_more g.B.Naming.table c.mine.inside.own c.yours.inside.own _ c.args.entry c.take-first.result (known_half g.B.Naming.table false c.mine.inside.own c.mine.inside.entries.items c.mine.inside.halves c.yours.inside.own c.take-first.result c.mine.invariant c.take-first.ensures.half)))

pub invariant_of-yours-2 : goal.invariant_of-yours-2
invariant_of-yours-2 g c =
    rw (c.push_reserved-2.ensures.items, c.reserve-2.ensures.items, c.requires.copy)
    (tied_more g.B.Naming.table true c.yours.inside.own c.yours.inside.entries.items c.yours.inside.halves c.take-second.new.halves c.put-2.new.halves c.mine.inside.own (Some None) c.args.entry
    c.add.new.yours c.yours.invariant (c.requires.agent ∙ sym (ap (λ v. v.own) c.mine.view_is)) c.take-second.ensures.rest c.put-2.ensures
    (c.add.ensures.yours ∙ yours_more g.B.Naming.table c.mine.inside.own c.yours.inside.own _ c.args.entry c.take-second.result (known_half g.B.Naming.table true c.yours.inside.own c.yours.inside.entries.items c.yours.inside.halves c.mine.inside.own c.take-second.result c.yours.invariant c.take-second.ensures.half)))
