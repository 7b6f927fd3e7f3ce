use Rattle.std.proofs.Common.{◌∙◌, arith}
use Rattle.runner.proofs.ScriptsLemmas.{item_is_listed, told_all, told_more}
use Rattle.runner.proofs.scripts.read_scripts.Goals as goal

pub read_script-requires : goal.read_script-requires
read_script-requires g c =
    item_is_listed (g.F.Folder.listed c.loop-name.folder) c.deref-name-items.result.now c.loop-name.name-index c.name-item.result c.as_str.result.now
    c.loop-name.invariant.listed (omega arith) c.name-item.is c.as_str.ensures.value

pub loop-name-preserved : goal.loop-name-preserved
loop-name-preserved g c =
    let did = c.in_ok-read_script.ensures in
    let before = c.loop-name.invariant in
    record {
      listed = did.listed ∙ before.listed;
      held = did.held ∙ before.held;
      faults = did.cause.kept ∙ before.faults;
      kept = told_more (g.F.Folder.held c.args.folder.now) c.deref-name-items.result.now c.loop-name.name-index c.name-item.result c.as_str.result.now _ _
          (omega arith) c.name-item.is c.as_str.ensures.value (rw before.held at did.kept) before.kept;
    }

pub returns-clause-scripts : goal.returns-clause-scripts
returns-clause-scripts g c =
    told_all (g.F.Folder.held c.args.folder.now) c.deref-name-items.result.now c.loop-name.name-index _ (omega arith)
    (rw c.deref-name-items.ensures.value c.in_ok-names.ensures.told) c.loop-name.invariant.kept
