use Rattle.std.proofs.Common.{refl}
use Rattle.tied_record.proofs.TiedLemmas.{master_kept}
use Rattle.tied_record.proofs.entering.enter.Goals as goal

pub returns-in_ok-enter_known-clause-master : goal.returns-in_ok-enter_known-clause-master
returns-in_ok-enter_known-clause-master g c =
    master_kept g.B.Naming.table c.args.mine.now c.enter_known.new.mine c.args.master.now _ c.args.entry c.requires.master c.in_ok-enter_known.ensures.ok.0 refl
