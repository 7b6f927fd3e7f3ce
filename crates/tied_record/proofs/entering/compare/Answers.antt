use Rattle.std.proofs.Common.{◌∙◌, ap, sym, false, true}
use Rattle.tied_record.proofs.TiedLemmas.{is_here, known_half, met_of, pair_of}
use Rattle.tied_record.proofs.entering.compare.Goals as goal

pub take-first-requires : goal.take-first-requires
take-first-requires g c =
    is_here g.B.Naming.table false c.mine.inside.own c.mine.inside.entries.items c.mine.inside.halves c.yours.inside.own c.mine.invariant
    (met_of false true c.yours.inside.own c.mine.inside.entries.items c.args.yours.now c.args.mine.now (ap (λ v. v.own) c.yours.view_is) (ap (λ v. v.entries) c.mine.view_is) c.requires.mine)

pub take-second-requires : goal.take-second-requires
take-second-requires g c =
    is_here g.B.Naming.table true c.yours.inside.own c.yours.inside.entries.items c.yours.inside.halves c.mine.inside.own c.yours.invariant
    (met_of true true c.mine.inside.own c.yours.inside.entries.items c.args.mine.now c.args.yours.now (ap (λ v. v.own) c.mine.view_is) (ap (λ v. v.entries) c.yours.view_is) c.requires.yours)

pub same_list-requires-clause-table : goal.same_list-requires-clause-table
same_list-requires-clause-table g c = ap (λ p. p.table) (known_half g.B.Naming.table false c.mine.inside.own c.mine.inside.entries.items c.mine.inside.halves c.yours.inside.own c.take-first.result c.mine.invariant c.take-first.ensures.half) ∙ sym c.requires.tie

pub same_list-requires-clause-pair : goal.same_list-requires-clause-pair
same_list-requires-clause-pair g c =
    pair_of g.B.Naming.table c.mine.inside.own c.yours.inside.own _ _ c.take-first.result c.take-second.result
    (known_half g.B.Naming.table false c.mine.inside.own c.mine.inside.entries.items c.mine.inside.halves c.yours.inside.own c.take-first.result c.mine.invariant c.take-first.ensures.half)
    (known_half g.B.Naming.table true c.yours.inside.own c.yours.inside.entries.items c.yours.inside.halves c.mine.inside.own c.take-second.result c.yours.invariant c.take-second.ensures.half)
