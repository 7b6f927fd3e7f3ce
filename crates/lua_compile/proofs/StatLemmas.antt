-- A statement that was written step by step is what its definition says.
use Rattle.std.proofs.Common.{◌≡◌, ◌≢◌, ℕ, suc, ◌+◌, refl, sym, ap, ◌∙◌, add-one, Bool, List, [], ◌∷◌, length, map, option_map}
use Rattle.std.specs.Prelude.{Option, Some, None, if◌then◌else◌}
use Rattle.lua_tree.specs.Source as source
use Rattle.lua_tree.specs.View.{exp_of, block_of, branch_of, branches_of, else_of, stat_of, numeric_of}
use Rattle.lua_tree.proofs.Views.{repeat_seen, if_seen, numeric_seen}
use Rattle.lua_tree.specs.declared.tree.Expr.{Expr}
use Rattle.lua_tree.specs.declared.tree.Stat.TheVariants as stat
use Rattle.lua_tree.specs.declared.tree.Block.{Block}
use Rattle.lua_tree.specs.declared.tree.Branch.{Branch}
use Rattle.lua_tree.specs.declared.tree.NumericFor.{NumericFor}
use Rattle.lua_steps.specs.Scope.{Scope}
use Rattle.lua_code.specs.declared.op.Op.{Op}
use Rattle.lua_code.specs.declared.op.Op.TheVariants as op
use Rattle.lua_compile.specs.declared.aim.Aim.TheVariants.{Into, Unless}
use Rattle.lua_compile.specs.Writer.{Writer, put, resumed, counted, flag, labelled, label_of, placed_here}
use Rattle.lua_compile.specs.Forms.{prepay, ticked, ticked_twice, function_known, close_op, numeric_written}
use Rattle.lua_compile.specs.Parts.{step_written, repeat_written}
use Rattle.lua_compile.specs.Written.{exp_written, body_written, block_written, block_known, stat_written, else_written}
use Rattle.lua_compile.proofs.TreeLemmas.{if_branches}
use Rattle.lua_compile.proofs.LoopLemmas.{numeric_is}

pub repeat_is : (b : Block) (e : Expr) (sc inner : Scope) (k m free after again start : ℕ) (w t u v x y z q r : Writer)
    → m ≡ prepay (block_of b) → t ≡ ticked_twice k m w → after ≡ label_of t → again ≡ label_of t + 1 → start ≡ label_of t + 2
    → u ≡ labelled (labelled (labelled t)) → v ≡ placed_here start u → x ≡ block_written (block_of b) sc m (Some after) v
    → inner ≡ block_known (block_of b) sc m (Some after) v → free ≡ inner.free → y ≡ exp_written (exp_of e) inner free (Unless again 0) x
    → z ≡ put (op.Jump after) y → q ≡ placed_here again z → r ≡ put (op.Loop (m + 1) start) q
    → placed_here after r ≡ repeat_written (stat_of (stat.Repeat b e)) sc k w
repeat_is b e sc inner k m free after again start w t u v x y z q r em et ea eg es eu ev ex ei ef ey ez eq er =
    let p = block_of b in
    let n = prepay p in
    let t0 = ticked_twice k n w in
    let l = label_of t0 in
    let u0 = labelled (labelled (labelled t0)) in
    let v0 = placed_here (l + 2) u0 in
    let x0 = block_written p sc n (Some l) v0 in
    let i0 = block_known p sc n (Some l) v0 in
    let y0 = exp_written (exp_of e) i0 i0.free (Unless (l + 1) 0) x0 in
    let z0 = put (op.Jump l) y0 in
    let q0 = placed_here (l + 1) z0 in
    let ht : t ≡ t0 = et ∙ ap (λ i. ticked_twice k i w) em in
    let ha : after ≡ l = ea ∙ ap (λ (o : Writer). label_of o) ht in
    let hg : again ≡ l + 1 = eg ∙ ap (λ (o : Writer). label_of o + 1) ht in
    let hs : start ≡ l + 2 = es ∙ ap (λ (o : Writer). label_of o + 2) ht in
    let hu : u ≡ u0 = eu ∙ ap (λ (o : Writer). labelled (labelled (labelled o))) ht in
    let hv : v ≡ v0 = ev ∙ ap (λ i. placed_here i u) hs ∙ ap (λ (o : Writer). placed_here (l + 2) o) hu in
    let hx : x ≡ x0 =
    ex ∙ ap (λ i. block_written p sc i (Some after) v) em ∙ ap (λ i. block_written p sc n (Some i) v) ha ∙ ap (λ (o : Writer). block_written p sc n (Some l) o) hv in
    let hi : inner ≡ i0 =
    ei ∙ ap (λ i. block_known p sc i (Some after) v) em ∙ ap (λ i. block_known p sc n (Some i) v) ha ∙ ap (λ (o : Writer). block_known p sc n (Some l) o) hv in
    let hf : free ≡ i0.free = ef ∙ ap (λ (s : Scope). s.free) hi in
    let hy : y ≡ y0 =
    ey ∙ ap (λ (s : Scope). exp_written (exp_of e) s free (Unless again 0) x) hi ∙ ap (λ i. exp_written (exp_of e) i0 i (Unless again 0) x) hf
    ∙ ap (λ i. exp_written (exp_of e) i0 i0.free (Unless i 0) x) hg
    ∙ ap (λ (o : Writer). exp_written (exp_of e) i0 i0.free (Unless (l + 1) 0) o) hx in
    let hz : z ≡ z0 = ez ∙ ap (λ i. put (op.Jump i) y) ha ∙ ap (λ (o : Writer). put (op.Jump l) o) hy in
    let hq : q ≡ q0 = eq ∙ ap (λ i. placed_here i z) hg ∙ ap (λ (o : Writer). placed_here (l + 1) o) hz in
    let hm : m + 1 ≡ suc n = ap (λ i. i + 1) em ∙ add-one n in
    let hr : r ≡ put (op.Loop (suc n) (l + 2)) q0 =
    er ∙ ap (λ i. put (op.Loop i start) q) hm ∙ ap (λ i. put (op.Loop (suc n) i) q) hs ∙ ap (λ (o : Writer). put (op.Loop (suc n) (l + 2)) o) hq in
    ap (λ i. placed_here i r) ha ∙ ap (λ (o : Writer). placed_here l o) hr ∙ ap (λ s. repeat_written s sc k w) (sym (repeat_seen b e))

-- after its branches and its `else`
pub if_is : (bs : List Branch) (other : Option Block) (sc inner : Scope) (k end : ℕ) (exit : Option ℕ) (w t u v x : Writer) → length bs ≢ 0
    → t ≡ ticked k w → end ≡ label_of t → u ≡ labelled t
    → else_written (branches_of (map branch_of bs) (else_of (option_map block_of other))) sc exit end u ≡ else_written (else_of (option_map block_of other)) sc exit end v
    → inner ≡ sc → x ≡ else_written (else_of (option_map block_of other)) inner exit end v
    → placed_here end x ≡ stat_written (stat_of (stat.If bs other)) sc k exit w
if_is [] other sc inner k end exit w t u v x some et ee eu eb ei ex = absurd (some refl)
if_is (b ∷ bs) other sc inner k end exit w t u v x some et ee eu eb ei ex =
    let rest = else_of (option_map block_of other) in
    let all = branches_of (map branch_of (b ∷ bs)) rest in
    let t0 = ticked k w in
    let hu : u ≡ labelled t0 = eu ∙ ap (λ (o : Writer). labelled o) et in
    let he : end ≡ label_of t0 = ee ∙ ap (λ (o : Writer). label_of o) et in
    let hx : x ≡ else_written all sc exit end (labelled t0) =
    ex ∙ ap (λ (s : Scope). else_written rest s exit end v) ei ∙ sym eb ∙ ap (λ (o : Writer). else_written all sc exit end o) hu in
    ap (λ (o : Writer). placed_here end o) hx ∙ ap (λ i. placed_here i (else_written all sc exit i (labelled t0))) he
    ∙ sym (if_branches (branch_of b).0 (branch_of b).1 (branches_of (map branch_of bs) rest) sc k exit w)
    ∙ ap (λ p. stat_written p sc k exit w) (sym (if_seen (b ∷ bs) other))

pub numeric_for_is : (f : NumericFor) (sc : Scope) (k first limit step : ℕ) (w t u v s : Writer) → first ≡ sc.free → limit ≡ first + 1 → step ≡ first + 2 → t ≡ ticked k w
    → u ≡ exp_written (exp_of f.first) sc first (Into first) t → v ≡ exp_written (exp_of f.limit) sc limit (Into limit) u → s ≡ step_written (option_map exp_of f.step) sc step v
    → numeric_written f.name sc f.line (prepay (block_of f.block)) (λ inner out t. block_written (block_of f.block) inner (prepay (block_of f.block)) out t) s ≡ stat_written (numeric_of f) sc k None w
numeric_for_is f sc k first limit step w t u v s ef el es et eu ev e =
    let p = block_of f.block in
    let a = exp_of f.first in
    let b = exp_of f.limit in
    let c = option_map exp_of f.step in
    let u0 = exp_written a sc sc.free (Into sc.free) (ticked k w) in
    let v0 = exp_written b sc (sc.free + 1) (Into (sc.free + 1)) u0 in
    let hu : u ≡ u0 = eu ∙ ap (λ i. exp_written a sc i (Into i) t) ef ∙ ap (λ (o : Writer). exp_written a sc sc.free (Into sc.free) o) et in
    let hl : limit ≡ sc.free + 1 = el ∙ ap (λ i. i + 1) ef in
    let hv : v ≡ v0 = ev ∙ ap (λ i. exp_written b sc i (Into i) u) hl ∙ ap (λ (o : Writer). exp_written b sc (sc.free + 1) (Into (sc.free + 1)) o) hu in
    let hs : step ≡ sc.free + 2 = es ∙ ap (λ i. i + 2) ef in
    let he : s ≡ step_written c sc (sc.free + 2) v0 = e ∙ ap (λ i. step_written c sc i v) hs ∙ ap (λ (o : Writer). step_written c sc (sc.free + 2) o) hv in
    ap (λ (o : Writer). numeric_written f.name sc f.line (prepay p) (λ inner out t. block_written p inner (prepay p) out t) o) he
    ∙ numeric_is f.name a b c p f.line sc k w
    ∙ ap (λ q. stat_written q sc k None w) (sym (numeric_seen f.name f.first f.limit f.step f.block f.line))

pub local_function_made : (x : source.Text) (b : source.Body) (sc inner : Scope) (k cells free g : ℕ) (shared : Bool) (o : Op) (w t v u z : Writer) → t ≡ ticked k w
    → shared ≡ flag t.flags t.locals → cells ≡ sc.cells → free ≡ sc.free → inner ≡ function_known x sc shared → v ≡ counted t
    → g ≡ length (body_written b inner.names v).made → u ≡ resumed (body_written b inner.names v) v → o ≡ (if shared then op.CloseCell cells g else op.Close free g)
    → z ≡ put o u → z ≡ stat_written (source.LocalFunction x b) sc k None w
local_function_made x b sc inner k cells free g shared o w t v u z et eh ec ef ei ev eg eu eo ez =
    let t0 = ticked k w in
    let v0 = counted t0 in
    let h0 = flag t0.flags t0.locals in
    let i0 = function_known x sc h0 in
    let made = body_written b i0.names v0 in
    let hv : v ≡ v0 = ev ∙ ap (λ (r : Writer). counted r) et in
    let hh : shared ≡ h0 = eh ∙ ap (λ (r : Writer). flag r.flags r.locals) et in
    let hi : inner ≡ i0 = ei ∙ ap (λ s. function_known x sc s) hh in
    let hb : body_written b inner.names v ≡ made = ap (λ (s : Scope). body_written b s.names v) hi ∙ ap (λ (r : Writer). body_written b i0.names r) hv in
    let hg : g ≡ length made.made = eg ∙ ap (λ (r : Writer). length r.made) hb in
    let hu : u ≡ resumed made v0 = eu ∙ ap (λ (r : Writer). resumed r v) hb ∙ ap (λ (r : Writer). resumed made r) hv in
    let ho : o ≡ close_op sc h0 (length made.made) =
    eo ∙ ap (λ i. if shared then op.CloseCell i g else op.Close free g) ec ∙ ap (λ i. if shared then op.CloseCell sc.cells g else op.Close i g) ef
    ∙ ap (λ s. close_op sc s g) hh
    ∙ ap (λ i. close_op sc h0 i) hg in
    ez ∙ ap (λ (q : Op). put q u) ho ∙ ap (λ (r : Writer). put (close_op sc h0 (length made.made)) r) hu
