use Rattle.std.proofs.Common.{◌∙◌, arith, map, string_bytes}
use Rattle.tools.proofs.ReportLemmas.{all_told, is_listed, more_told}
use Rattle.tools.proofs.check.check_scripts.Goals as goal

pub check_script-requires : goal.check_script-requires
check_script-requires g c =
    is_listed (g.F.Folder.listed c.loop-name.folder) (map string_bytes c.in_ok-listed.listed.items) c.deref-name-items.result.now c.loop-name.name-index c.name-item.result c.as_str-name.result.now
    c.loop-name.invariant.listed (rw (c.deref.ensures.value, ← c.deref-name-items.ensures.value) at c.in_ok-names.ensures) (omega arith) c.name-item.is c.as_str-name.ensures.value

pub loop-name-preserved : goal.loop-name-preserved
loop-name-preserved g c =
    let did = c.in_ok-fault.ensures in
    let before = c.loop-name.invariant in
    record {
      held = did.held ∙ before.held;
      faults = did.cause.kept ∙ before.faults;
      listed = did.listed ∙ before.listed;
      verdicts = more_told (g.F.Folder.held c.args.folder.now) c.deref-name-items.result.now c.loop-name.name-index c.name-item.result c.as_str-name.result.now c.in_ok-fault.fault _ _
          (omega arith) c.name-item.is c.as_str-name.ensures.value c.in_ok-push_verdict.ensures before.verdicts (rw before.held at did.verdict);
    }

pub returns-clause-report : goal.returns-clause-report
returns-clause-report g c =
    all_told (g.F.Folder.held c.args.folder.now) (map string_bytes c.in_ok-listed.listed.items) c.deref-name-items.result.now c.loop-name.name-index _ (omega arith)
    c.in_ok-listed.ensures.told (rw (c.deref.ensures.value, ← c.deref-name-items.ensures.value) at c.in_ok-names.ensures) c.loop-name.invariant.verdicts
