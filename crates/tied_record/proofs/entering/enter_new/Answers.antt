use Rattle.std.proofs.Common.{◌∙◌, ◌++◌, ◌∷◌, [], ap, sym, false, true, Some, None}
use Rattle.tied_record.proofs.TiedLemmas.{master_more, met_of, new_mine, new_yours, nothing, tied_more, tied_same}
use Rattle.tied_record.proofs.entering.enter_new.Goals as goal

pub invariant_of-mine-in_err-make_places : goal.invariant_of-mine-in_err-make_places
invariant_of-mine-in_err-make_places g c =
    rw c.reserve.ensures.items (tied_same g.B.Naming.table false c.mine.inside.own c.mine.inside.entries.items c.mine.inside.halves c.make_places.new.first c.mine.invariant c.in_err-make_places.ensures.err.0)

pub invariant_of-yours-in_err-make_places : goal.invariant_of-yours-in_err-make_places
invariant_of-yours-in_err-make_places g c =
    rw c.reserve-2.ensures.items (tied_same g.B.Naming.table true c.yours.inside.own c.yours.inside.entries.items c.yours.inside.halves c.make_places.new.second c.yours.invariant c.in_err-make_places.ensures.err.1)

pub invariant_of-mine-2 : goal.invariant_of-mine-2
invariant_of-mine-2 g c =
    rw (c.push_reserved.ensures.items, c.reserve.ensures.items)
    (tied_more g.B.Naming.table false c.mine.inside.own c.mine.inside.entries.items c.mine.inside.halves c.make_places.new.first c.put.new.halves c.yours.inside.own (Some None) c.args.entry
    c.add.new.mine c.mine.invariant (c.requires.place ∙ sym (ap (λ v. v.own) c.yours.view_is)) c.in_ok-make_places.ensures.ok.0 c.put.ensures
    (new_mine g.B.Naming.table c.args.master.now c.args.mine.now c.mine.inside.own c.yours.inside.own c.args.entry _ _ c.add.new.mine c.requires.master (ap (λ v. v.own) c.mine.view_is)
    (nothing _ (met_of false false c.yours.inside.own c.mine.inside.entries.items c.args.yours.now c.args.mine.now (ap (λ v. v.own) c.yours.view_is) (ap (λ v. v.entries) c.mine.view_is) c.requires.mine)) c.pair-first.ensures.mine c.add.ensures.mine))

pub invariant_of-yours-2 : goal.invariant_of-yours-2
invariant_of-yours-2 g c =
    rw (c.push_reserved-2.ensures.items, c.reserve-2.ensures.items, c.requires.copy)
    (tied_more g.B.Naming.table true c.yours.inside.own c.yours.inside.entries.items c.yours.inside.halves c.make_places.new.second c.put-2.new.halves c.mine.inside.own (Some None) c.args.entry
    c.add.new.yours c.yours.invariant (c.requires.agent ∙ sym (ap (λ v. v.own) c.mine.view_is)) c.in_ok-make_places.ensures.ok.1 c.put-2.ensures
    (new_yours g.B.Naming.table c.args.master.now c.args.mine.now c.mine.inside.own c.yours.inside.own c.args.entry _ _ c.add.new.yours c.requires.master (ap (λ v. v.own) c.mine.view_is)
    (nothing _ (met_of true false c.mine.inside.own c.yours.inside.entries.items c.args.mine.now c.args.yours.now (ap (λ v. v.own) c.mine.view_is) (ap (λ v. v.entries) c.yours.view_is) c.requires.yours)) c.pair-first.ensures.yours c.add.ensures.yours))

pub returns-clause-master : goal.returns-clause-master
returns-clause-master g c =
    master_more g.B.Naming.table c.args.mine.now _ c.args.master.now c.pair-first.new.self c.yours.inside.own c.args.entry c.requires.master
    (c.requires.place ∙ sym (ap (λ v. v.own) c.yours.view_is))
    (λ i. record {
      own = (ap (λ v. v.own) c.mine.view_is) i;
      entries = (c.push_reserved.ensures.items ∙ ap (λ l. l ++ c.args.entry ∷ []) c.reserve.ensures.items ∙ ap (λ v. v.entries ++ c.args.entry ∷ []) c.mine.view_is) i;
    })
    c.pair-first.ensures.listed
