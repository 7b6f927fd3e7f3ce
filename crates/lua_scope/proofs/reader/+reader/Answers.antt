use Rattle.std.proofs.Common.{rules, ◌≡◌, ◌≢◌, sym, ap, ◌∙◌, subst, OnOk, IsTrue, Bool, false, map, option_map, List, []}
use Rattle.lua_tree.specs.declared.tree.Branch.{Branch}
use Rattle.lua_tree.specs.declared.tree.Stat.{Stat}
use Rattle.lua_tree.specs.View.{branch_of, block_of, stat_of}
use Rattle.lua_scope.specs.Scope.{Walk}
use Rattle.lua_scope.specs.Walk.{stat_read}
use Rattle.lua_scope.specs.Branches.{guarded_read, else_read}
use Rattle.lua_scope.proofs.BranchLemmas.{if-read}
use Rattle.lua_scope.proofs.reader.+reader.Goals as goal

not_true : (b : Bool) → b ≡ false → IsTrue b → ⊥
not_true b e t = let f : IsTrue false = subst (λ (c : Bool). IsTrue c) e t in absurd (search rules)

pub read_stat-returns-in_ok-read_branches-in-If : goal.read_stat-returns-in_ok-read_branches-in-If
read_stat-returns-in_ok-read_branches-in-If t c =
    let some : c.in-If.branches ≢ [] = λ e. not_true c.is_empty.result c.if-is_empty.false (c.is_empty.ensures.1 e) in
    let read : c.read_branches.new.walk ≡ guarded_read (map branch_of c.in-If.branches) c.args.walk.now =
    c.in_ok-read_branches-in-If.ensures ∙ ap (λ (bs : List Branch). guarded_read (map branch_of bs) c.args.walk.now) c.as_slice-in-If.ensures in
    let whole : else_read (option_map block_of c.in-If.other) c.read_branches.new.walk ≡ stat_read (stat_of c.args.stat.now) c.args.walk.now =
    ap (λ (w : Walk). else_read (option_map block_of c.in-If.other) w) read
    ∙ sym (if-read c.in-If.branches c.in-If.other c.args.walk.now some)
    ∙ ap (λ (x : Stat). stat_read (stat_of x) c.args.walk.now) (sym c.in-If.is) in
    subst (λ (w : Walk). OnOk c.read_else.result (c.read_else.new.walk ≡ w)) whole c.read_else.ensures
