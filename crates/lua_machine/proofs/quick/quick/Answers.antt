use Rattle.std.proofs.Common.{ℕ, sym, ap, ap₂, ◌∙◌}
use Rattle.std.specs.Prelude.{slice_set, List}
use Rattle.lua_value.specs.declared.value.Value.{Value}
use Rattle.lua_heap.specs.Contents.{Contents}
use Rattle.lua_code.specs.declared.op.Op.{Op}
use Rattle.lua_steps.specs.Moves.{next}
use Rattle.lua_steps.specs.Exec.{perform, constant_at, constant_value}
use Rattle.lua_machine.specs.Nests.{own_in, ups_in}
use Rattle.lua_machine.specs.declared.pace.Pace.{Pace}
use Rattle.lua_machine.specs.Quick.{around, in_hand, Quick}
use Rattle.lua_machine.proofs.QuickLemmas.{value_after, some_map, kept}
use Rattle.lua_machine.proofs.quick.quick.Goals as goal

pub returns-in-Constant-clause-ok : goal.returns-in-Constant-clause-ok
returns-in-Constant-clause-ok g c =
    let code = c.args.code.now in
    let row = c.args.row.now in
    let cells = c.args.heap.now.cells in
    let own = own_in c.args.owner in
    let ups = ups_in c.args.owner c.args.heap.now.closures in
    let there = c.in-Constant in
    kept c.constant_of.result c.kept.result c.kept.new.pace (λ (p : Pace). Quick code c.args._function c.args.op.now own ups row cells c.args.pace.now c.constant_of.new.row cells p) c.kept.ensures.goes
    (some_map c.constant_of.result _ _ (λ p h. record {
      is = λ before m.
          let g = around c.args._function own ups before m in
          let x = in_hand g row cells c.args.pace.now in
          ap (λ (o : Op). perform code o x) there.is
          ∙ ap (λ (n : ℕ). constant_value (constant_at code n there.index) there.to x) (sym c.function_of-function.ensures)
          ∙ h.is g cells;
    }) c.constant_of.ensures.ok)

pub returns-in-GetCell-clause-ok : goal.returns-in-GetCell-clause-ok
returns-in-GetCell-clause-ok g c =
    let cells = c.args.heap.now.cells in
    let own = own_in c.args.owner in
    let ups = ups_in c.args.owner c.args.heap.now.closures in
    kept c.reads_own.result c.kept-in-GetCell.result c.kept-in-GetCell.new.pace (λ (p : Pace). Quick c.args.code.now c.args._function c.args.op.now own ups c.args.row.now cells c.args.pace.now c.reads_own.new.row cells p) c.kept-in-GetCell.ensures.goes
    (some_map c.reads_own.result _ _ (λ p h. record {
      is = λ before m.
          let g = around c.args._function own ups before m in
          ap (λ (o : Op). perform c.args.code.now o (in_hand g c.args.row.now cells c.args.pace.now)) c.in-GetCell.is ∙ h.is g cells;
    }) c.reads_own.ensures.ok)

pub returns-in-GetUp-clause-ok : goal.returns-in-GetUp-clause-ok
returns-in-GetUp-clause-ok g c =
    let cells = c.args.heap.now.cells in
    let own = own_in c.args.owner in
    let ups = ups_in c.args.owner c.args.heap.now.closures in
    kept c.reads_up.result c.kept-in-GetUp.result c.kept-in-GetUp.new.pace (λ (p : Pace). Quick c.args.code.now c.args._function c.args.op.now own ups c.args.row.now cells c.args.pace.now c.reads_up.new.row cells p) c.kept-in-GetUp.ensures.goes
    (some_map c.reads_up.result _ _ (λ p h. record {
      is = λ before m.
          let g = around c.args._function own ups before m in
          ap (λ (o : Op). perform c.args.code.now o (in_hand g c.args.row.now cells c.args.pace.now)) c.in-GetUp.is ∙ h.is g cells;
    }) c.reads_up.ensures.ok)

pub returns-in-SetCell-clause-ok : goal.returns-in-SetCell-clause-ok
returns-in-SetCell-clause-ok g c =
    let row = c.args.row.now in
    let cells = c.args.heap.now.cells in
    record {
      is = λ before m.
          let x = in_hand (around c.args._function (own_in c.args.owner) (ups_in c.args.owner c.args.heap.now.closures) before m) row cells c.args.pace.now in
          ap (λ (o : Op). perform c.args.code.now o x) c.in-SetCell.is
          ∙ ap₂ (λ (k : ℕ) (v : Value). next (record x { cells = slice_set cells k v })) (sym c.own_of.ensures) (value_after before row c.in-SetCell.from ∙ sym c.slot.ensures)
          ∙ ap (λ (cs : List Value). next (record x { cells = cs })) (sym (ap (λ (h : Contents). h.cells) c.put_in_cell.ensures));
    }

pub returns-in-SetUp-clause-ok : goal.returns-in-SetUp-clause-ok
returns-in-SetUp-clause-ok g c =
    let row = c.args.row.now in
    let cells = c.args.heap.now.cells in
    record {
      is = λ before m.
          let x = in_hand (around c.args._function (own_in c.args.owner) (ups_in c.args.owner c.args.heap.now.closures) before m) row cells c.args.pace.now in
          ap (λ (o : Op). perform c.args.code.now o x) c.in-SetUp.is
          ∙ ap₂ (λ (k : ℕ) (v : Value). next (record x { cells = slice_set cells k v })) (sym c.up_of.ensures) (value_after before row c.in-SetUp.from ∙ sym c.slot-in-SetUp.ensures)
          ∙ ap (λ (cs : List Value). next (record x { cells = cs })) (sym (ap (λ (h : Contents). h.cells) c.put_in_cell-in-SetUp.ensures));
    }
