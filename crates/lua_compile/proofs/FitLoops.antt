-- Choices, functions that are done, and the loops of `for`, before the terms.
use Rattle.std.proofs.Common.{◌≡◌, ℕ, zero, suc, ◌+◌, ◌≤◌, refl, sym, ap, subst, List, [], ◌∷◌, ◌++◌, length, Option, Some, None, arith, Bool, true, false, map, All}
use Rattle.std.specs.Prelude.{slice_get, if◌then◌else◌, max, IfSome}
use Rattle.std.proofs.Math.Nat.{le-max_left}
use Rattle.std.proofs.lemmas.Option.{slice_get_within}
use Rattle.lua_tree.specs.Source.{Text}
use Rattle.lua_model.specs.declared.operator.Binary.{Binary}
use Rattle.lua_meaning.specs.Values.{Link, Both, Either, Strict}
use Rattle.lua_code.specs.declared.op.Op.{Op}
use Rattle.lua_code.specs.declared.op.Op.TheVariants as op
use Rattle.lua_code.specs.Routine.{Routine}
use Rattle.lua_code.specs.Valid.{CanClose, CaptureFits}
use Rattle.lua_steps.specs.declared.scope.Known.{Known}
use Rattle.lua_steps.specs.Machine.{Code}
use Rattle.lua_steps.specs.Scope.{Scope, past}
use Rattle.lua_compile.specs.declared.aim.Aim.{Aim}
use Rattle.lua_compile.specs.declared.aim.Aim.TheVariants.{Into, Anywhere, Unless}
use Rattle.lua_compile.specs.declared.aim.Operand.{Operand}
use Rattle.lua_compile.specs.declared.aim.Operand.TheVariants.{Slot, Constant as Held}
use Rattle.lua_compile.specs.Writer.{Writer, cell_reach, emit, put, labelled, label_of, placed_here, lost_if, all_known, declare_all, captures_of, place, placed}
use Rattle.lua_compile.specs.Forms.{on_slot, linked, link_aim, with_targets, directly, function_known, close_op, numeric_written, generic_written}
use Rattle.lua_compile.proofs.Kept.{Level, kept_self, kept_emit}
use Rattle.lua_compile.proofs.KeptForms.{K, k_emit, k_put, k_declare_all}
use Rattle.lua_compile.proofs.Final.{label_is}
use Rattle.lua_compile.proofs.ServesLoops.{three_more, two_more, same_place, set_long}
use Rattle.lua_compile.proofs.Fit.{Asks, Fin, fin_back, fin_below}
use Rattle.lua_compile.proofs.FitForms.{Good, Ahead, Aimed, Leaves, Sees, captures_fit, g_emit, g_same, g_declare}

pub aimed_less : (r : Routine) (L : List ℕ) (aim : Aim) (c b : ℕ) → b ≤ c → Aimed r L aim c → Aimed r L aim b
aimed_less r L (Into s) c b le a = tt
aimed_less r L (Anywhere room) c b le a = tt
aimed_less r L (Unless l pay) c b le a = (omega (arith, a.0), a.1)

pub leaves_less : (r : Routine) (L : List ℕ) (o : Option ℕ) (c b : ℕ) → b ≤ c → Leaves r L o c → Leaves r L o b
leaves_less r L None c b le a = tt
leaves_less r L (Some l) c b le a = (omega (arith, a.0), a.1)

pub link_aimed : (r : Routine) (L : List ℕ) (lk : Link) (d c : ℕ) → Aimed r L (link_aim lk d) c
link_aimed r L (Strict u) d c = tt
link_aimed r L Both d c = tt
link_aimed r L Either d c = tt

-- ---- choices
pub fit_if : (X : Writer → Type 0) (G : Writer → Type 0) (b : Bool) (x y : Writer) → X (if b then x else y) → (b ≡ true → X x → G x) → (b ≡ false → X y → G y) → G (if b then x else y)
fit_if X G true x y h p q = p refl h
fit_if X G false x y h p q = q refl h

pub fit_on : (X : Writer → Type 0) (G : Writer → Type 0) (p : Operand) (w : Writer) (go : ℕ → Writer) → X (on_slot p w go) → ((x : ℕ) → X (go x) → G (go x)) → G (lost_if true w) → G (on_slot p w go)
fit_on X G (Slot x) w go h p q = p x h
fit_on X G (Held i) w go h p q = q

pub fit_link : (X : Writer → Type 0) (G : Writer → Type 0) (lk : Link) (x y : Writer) (go : Binary → Writer) → X (linked lk x y go) → (X x → G x) → (X y → G y) → ((u : Binary) → X (go u) → G (go u)) → G (linked lk x y go)
fit_link X G Both x y go h p q s = p h
fit_link X G Either x y go h p q s = q h
fit_link X G (Strict u) x y go h p q s = s u h

pub fit_targets : (X : Writer → Type 0) (G : Writer → Type 0) (o : Option (List Text)) (w : Writer) (go : List Text → Writer) → X (with_targets o w go) → ((xs : List Text) → X (go xs) → G (go xs)) → G (lost_if true w) → G (with_targets o w go)
fit_targets X G None w go h p q = q
fit_targets X G (Some xs) w go h p q = p xs h

pub fit_directly : (X : Writer → Type 0) (G : Writer → Type 0) (o : Option ℕ) (b : Bool) (x : Writer) (go : ℕ → Writer) → X (directly o b x go) → ((s : ℕ) → X (go s) → G (go s)) → (X x → G x) → G (directly o b x go)
fit_directly X G None b x go h p q = q h
fit_directly X G (Some s) b x go h p q = fit_if X G b (go s) x h (λ e y. p s y) (λ e y. q y)

-- the functions that are done, and one more
pub done_more : (P : Routine → Type 0) (xs : List Routine) (h : Routine) → ((k : ℕ) (x : Routine) → slice_get xs k ≡ Some x → P x) → P h → (k : ℕ) (x : Routine) → slice_get (xs ++ h ∷ []) k ≡ Some x → P x
done_more P [] h all here zero x e = (let s : h ≡ x = cc in subst P s here)
done_more P [] h all here (suc k) x e = absurd (cc)
done_more P (y ∷ xs) h all here zero x e = all 0 x e
done_more P (y ∷ xs) h all here (suc k) x e = done_more P xs h (λ i z q. all (suc i) z q) here k x e

-- a closure can be made of a function that captures what these names have
pub can_close : (code : Code) (r h : Routine) (names : List Known) (g : ℕ) → slice_get code g ≡ Some h → h.captures ≡ captures_of names → Sees r names → CanClose code r g
can_close code r h names g there same sees = (
  slice_get_within code g h there,
  subst (λ (o : Option Routine). IfSome o (λ x. All (CaptureFits r) x.captures)) (sym there) (subst (λ cs. All (CaptureFits r) cs) (sym same) (captures_fit r names sees)),
)

pub length-map : (g : Op → Op) (xs : List Op) → length (map g xs) ≡ length xs
length-map g [] = refl
length-map g (x ∷ xs) = ap suc (length-map g xs)

-- an operation of the final list is one that was written
pub get_placed : (L : List ℕ) (xs : List Op) (k : ℕ) (o : Op) → slice_get (map (placed L) xs) k ≡ Some o → (p : Op) × (slice_get xs k ≡ Some p) × (placed L p ≡ o)
get_placed L [] k o e = absurd (cc)
get_placed L (x ∷ xs) zero o e = (x, refl, (let s : placed L x ≡ o = cc in s))
get_placed L (x ∷ xs) (suc k) o e = get_placed L xs k o e

pub close_asks : (code : Code) (r : Routine) (L : List ℕ) (k g : ℕ) (sc : Scope) (b : Bool) → CanClose code r g → Asks code r L k (close_op sc b g)
close_asks code r L k g sc true h = h
close_asks code r L k g sc false h = h

-- a local function's cell is one of the frame's
pub function_sees : (r : Routine) (x : Text) (sc : Scope) (b : Bool) (g : ℕ) → cell_reach (close_op sc b g) ≤ r.shape.cells → Sees r sc.names → Sees r (function_known x sc b).names
function_sees r x sc true g le s = (omega arith, s)
function_sees r x sc false g le s = (tt, s)

module _ (code : Code) where
  pub numeric_fits : (f : ℕ) (r : Routine) (L : List ℕ) (x : Text) (sc : Scope) (line m n : ℕ) (w : Writer) (block : Scope → Option ℕ → Writer → Writer)
      → n ≤ length w.labels → Level w → Fin code f r L n (numeric_written x sc line m block w) → Sees r sc.names → Good code r L w
      → ((inner : Scope) (out : Option ℕ) (v : Writer) → K v (block inner out v))
      → ((inner : Scope) (v : Writer) (i : ℕ) → i ≤ length v.labels → Level v → Fin code f r L i (block inner (Some (label_of w)) v) → Ahead r L (label_of w) (block inner (Some (label_of w)) v).at → Sees r inner.names → Good code r L v → Good code r L (block inner (Some (label_of w)) v))
      → Good code r L (numeric_written x sc line m block w)
  numeric_fits f r L x sc line m n w block le lv fin sees g keeps serve =
      let l = label_of w in
      let s = labelled (labelled w) in
      let ls : Level s = record { ops = lv.ops; lines = lv.lines } in
      let o = op.ForPrep (suc m) sc.free l in
      let a = emit o line s in
      let v = placed_here (l + 1) a in
      let inner = all_known (x ∷ []) (past 3 sc) v.flags v.locals in
      let d = declare_all (x ∷ []) (past 3 sc) v in
      let kd = k_declare_all v v (x ∷ []) (past 3 sc) (kept_self 0 v) in
      let b = block inner (Some l) d in
      let kb = keeps inner (Some l) d in
      let p = op.ForLoop (suc m) sc.free (l + 1) in
      let q = put p b in
      let la = (kept_emit 0 o line s).level ls in
      let lvv = same_place (l + 1) a la in
      let ld = kd.level lvv in
      let lb = kb.level ld in
      let long : l + 2 ≤ length v.labels = omega (arith, two_more w, set_long (l + 1) a) in
      let exit : place L l ≡ q.at = label_is code f L n l q fin.final le (omega (arith, long, kd.more, kb.more)) in
      let fin_q = fin_below code f r L n l (l + 1) q fin (omega arith) (omega (arith, le)) in
      let fin_b = fin_back code f r L (l + 1) b q fin_q (k_put b b p (kept_self 0 b)) in
      let fin_d = fin_back code f r L (l + 1) d b fin_b kb in
      let fin_v = fin_back code f r L (l + 1) v d fin_d kd in
      let start : place L (l + 1) ≡ a.at = label_is code f L (l + 1) (l + 1) a fin_v.final (omega arith) (omega (arith, two_more w)) in
      let fin_a = fin_below code f r L (l + 1) (l + 1) (l + 2) a fin_v (omega arith) (omega arith) in
      let ga = g_emit code f r L (l + 2) o line s ls fin_a (omega (arith, exit, kd.at, kb.at), omega (arith, exit, fin_q.at)) (g_same code f r L w s refl refl g) in
      let gd = g_declare code f r L (l + 1) (x ∷ []) (past 3 sc) v lvv fin_d sees (g_same code f r L a v refl refl ga) in
      let gb = serve inner d (l + 1) (omega (arith, long, kd.more)) ld fin_b (omega (arith, exit), omega (arith, exit, fin_q.at)) gd.1 gd.0 in
      g_same code f r L q (placed_here l q) refl refl (g_emit code f r L (l + 1) p 0 b lb fin_q (omega arith, omega (arith, start, fin_a.at)) gb)

  pub generic_fits : (f : ℕ) (r : Routine) (L : List ℕ) (xs : List Text) (sc : Scope) (line m n : ℕ) (w : Writer) (block : Scope → Option ℕ → Writer → Writer)
      → n ≤ length w.labels → Level w → Fin code f r L n (generic_written xs sc line m block w) → Sees r sc.names → Good code r L w
      → ((inner : Scope) (out : Option ℕ) (v : Writer) → K v (block inner out v))
      → ((inner : Scope) (v : Writer) (i : ℕ) → i ≤ length v.labels → Level v → Fin code f r L i (block inner (Some (label_of w)) v) → Ahead r L (label_of w) (block inner (Some (label_of w)) v).at → Sees r inner.names → Good code r L v → Good code r L (block inner (Some (label_of w)) v))
      → Good code r L (generic_written xs sc line m block w)
  generic_fits f r L xs sc line m n w block le lv fin sees g keeps serve =
      let l = label_of w in
      let s = labelled (labelled (labelled w)) in
      let ls : Level s = record { ops = lv.ops; lines = lv.lines } in
      let j = op.Jump (l + 1) in
      let a = put j s in
      let v = placed_here (l + 2) a in
      let inner = all_known xs (past 3 sc) v.flags v.locals in
      let d = declare_all xs (past 3 sc) v in
      let kd = k_declare_all v v xs (past 3 sc) (kept_self 0 v) in
      let b = block inner (Some l) d in
      let kb = keeps inner (Some l) d in
      let u = placed_here (l + 1) b in
      let i = max 1 (length xs) in
      let o = op.ForCall sc.free i in
      let c = emit o line u in
      let p = op.ForEach (suc m) sc.free (l + 2) in
      let q = put p c in
      let lvv = same_place (l + 2) a ((kept_emit 0 j 0 s).level ls) in
      let ld = kd.level lvv in
      let lb = kb.level ld in
      let lu = same_place (l + 1) b lb in
      let lc = (kept_emit 0 o line u).level lu in
      let long : l + 3 ≤ length v.labels = omega (arith, three_more w, set_long (l + 2) a) in
      let exit : place L l ≡ q.at = label_is code f L n l q fin.final le (omega (arith, long, kd.more, kb.more, set_long (l + 1) b)) in
      let fin_q = fin_below code f r L n l (l + 1) q fin (omega arith) (omega (arith, le)) in
      let fin_c = fin_back code f r L (l + 1) c q fin_q (k_put c c p (kept_self 0 c)) in
      let fin_u = fin_back code f r L (l + 1) u c fin_c (k_emit u u o line (kept_self 0 u)) in
      let call : place L (l + 1) ≡ b.at = label_is code f L (l + 1) (l + 1) b fin_u.final (omega arith) (omega (arith, long, kd.more, kb.more)) in
      let fin_b = fin_below code f r L (l + 1) (l + 1) (l + 2) b fin_u (omega arith) (omega arith) in
      let fin_d = fin_back code f r L (l + 2) d b fin_b kb in
      let fin_v = fin_back code f r L (l + 2) v d fin_d kd in
      let start : place L (l + 2) ≡ a.at = label_is code f L (l + 2) (l + 2) a fin_v.final (omega arith) (omega (arith, three_more w)) in
      let fin_a = fin_below code f r L (l + 2) (l + 2) (l + 3) a fin_v (omega arith) (omega arith) in
      let ga = g_emit code f r L (l + 3) j 0 s ls fin_a (omega (arith, call, kd.at, kb.at), omega (arith, call, fin_b.at)) (g_same code f r L w s refl refl g) in
      let gd = g_declare code f r L (l + 2) xs (past 3 sc) v lvv fin_d sees (g_same code f r L a v refl refl ga) in
      let gb = serve inner d (l + 2) (omega (arith, long, kd.more)) ld fin_b (omega (arith, exit), omega (arith, exit, fin_q.at)) gd.1 gd.0 in
      let gc = g_emit code f r L (l + 1) o line u lu fin_c (le-max_left 1 (length xs)) (g_same code f r L b u refl refl gb) in
      g_same code f r L q (placed_here l q) refl refl (g_emit code f r L (l + 1) p 0 c lc fin_q (omega arith, omega (arith, start, fin_a.at)) gc)
