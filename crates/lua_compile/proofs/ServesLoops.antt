-- Labels, the loops of `for`, and the choices of statements, before the terms.
use Rattle.std.proofs.Common.{◌≡◌, ℕ, zero, suc, ◌+◌, ◌<◌, ◌≤◌, inl, inr, refl, sym, ap, ◌∙◌, subst, List, [], ◌∷◌, ◌++◌, length, Option, Some, None, arith, Bool, true, false, map, length-append}
use Rattle.std.specs.Prelude.{slice_get, ◌⊎◌, if◌then◌else◌, max, unwrap_or}
use Rattle.std.proofs.Math.Nat.{le-max_left, le-max_right}
use Rattle.lua_tree.specs.Source as source
use Rattle.lua_tree.specs.Source.{Text, Block, Plain, Returns, Stats, NoStat, MoreStats, Stat, Branches, NoElse, Else, Elseif, Exps, NoExp, MoreExps, Exp, Operands, NoOperand, MoreOperands, Suffixes, NoSuffix, MoreSuffixes, Body, body}
use Rattle.lua_meaning.specs.Values.{Link, Both, Either, Strict}
use Rattle.lua_code.specs.declared.op.Op.{Op}
use Rattle.lua_code.specs.declared.op.Op.TheVariants as op
use Rattle.lua_code.specs.Routine.{Routine}
use Rattle.lua_steps.specs.declared.scope.Place.{Place}
use Rattle.lua_steps.specs.declared.scope.Place.TheVariants.{InSlot, InCell, InUp, Hidden}
use Rattle.lua_steps.specs.declared.scope.Known.{Known}
use Rattle.lua_steps.specs.Machine.{Code}
use Rattle.lua_steps.specs.Scope.{Scope, place_of, past, in_slot, in_cell}
use Rattle.lua_steps.specs.Stand as stand
use Rattle.lua_steps.specs.Stand.{At, Leads, Ticks, Shown, Reg, Imm, Holds, Fails, OfReg, Branch, WhereInSlot, IsPut, IsInt, IsDeclares, IsWrites, from_slots, IsNumeric, IsGeneric, linked_as}
use Rattle.lua_steps.specs.Serves.{IsExp, IsBody}
use Rattle.lua_compile.specs.declared.aim.Aim.{Aim}
use Rattle.lua_compile.specs.declared.aim.Aim.TheVariants.{Into, Anywhere, Unless}
use Rattle.lua_compile.specs.declared.aim.Room.TheVariants.{Nothing}
use Rattle.lua_compile.specs.declared.aim.Operand.TheVariants.{Slot}
use Rattle.lua_compile.specs.Writer.{Writer, emit, put, labelled, label_of, placed_here, all_known, declare_all, place, placed}
use Rattle.lua_compile.specs.Forms.{register, target_of, true_written, shown, shown_of, on_slot, link_aim, count, slots_fit, is_only, is_tail, only_shown, only_slot, slot_at, with_targets, directly, jumped, where_else, function_known, close_op, numeric_written, generic_written}
use Rattle.lua_compile.specs.Written.{fixed_written, list_written, tail_written, only_written, else_written}
use Rattle.lua_compile.proofs.Kept.{Level, kept_self, kept_emit, kept_placed_below, length_set}
use Rattle.lua_compile.proofs.KeptForms.{K, k_emit, k_put, k_if, k_on, k_declare_all}
use Rattle.lua_compile.proofs.KeptTerms.{on, fixed_kept, list_kept, tail_kept, only_kept}
use Rattle.lua_compile.proofs.Final.{Final, part, back, at_op, at_line, label_is, never_lost, Given}
use Rattle.lua_compile.proofs.ServesForms.{paid_stands}
use Rattle.lua_compile.proofs.ServesParts.{two, declares_serve}
use Rattle.lua_compile.proofs.ServesRest.{shown_into}

-- ---- numbers of labels
pub same_level : (w v : Writer) → v.at ≡ w.at → v.draft ≡ w.draft → Level w → Level v
same_level w v a e lv =
    record {
      ops = a ∙ lv.ops ∙ ap (λ (r : Routine). length r.ops) (sym e);
      lines = a ∙ lv.lines ∙ ap (λ (r : Routine). length r.lines) (sym e);
    }

pub three_more : (w : Writer) → length (labelled (labelled (labelled w))).labels ≡ length w.labels + 3
three_more w =
    omega (arith, length-append w.labels (0 ∷ []), length-append (w.labels ++ 0 ∷ []) (0 ∷ []), length-append ((w.labels ++ 0 ∷ []) ++ 0 ∷ []) (0 ∷ []))

pub two_more : (w : Writer) → length (labelled (labelled w)).labels ≡ length w.labels + 2
two_more w = omega (arith, length-append w.labels (0 ∷ []), length-append (w.labels ++ 0 ∷ []) (0 ∷ []))

pub one_more : (w : Writer) → length (labelled w).labels ≡ length w.labels + 1
one_more w = length-append w.labels (0 ∷ [])

pub get_map : (g : Op → Op) (xs : List Op) (k : ℕ) (o : Op) → slice_get xs k ≡ Some o → slice_get (map g xs) k ≡ Some (g o)
get_map g [] k o e = absurd (cc)
get_map g (x ∷ xs) zero o e = (let s : x ≡ o = cc in ap (λ y. Some (g y)) s)
get_map g (x ∷ xs) (suc k) o e = get_map g xs k o e

-- where the label of a loop's end leads
abbrev pub Out : List ℕ → Option ℕ → (ℕ → Type 0) → Type 0
Out L None X = Unit {0}
Out L (Some l) X = X (place L l)

-- the labels of a function are its own
pub own : (labels : List ℕ) (k z : ℕ) → slice_get labels k ≡ Some z → place labels k ≡ z
own labels k z e = ap (λ o. unwrap_or o 0) e

pub true_serves : (code : Code) (f : ℕ) (L : List ℕ) (n d : ℕ) (sc : Scope) (aim : Aim) (w : Writer) (R : ℕ → Shown → Type 0) → Level w → Final code f L n (true_written d aim w)
    → Given code f L aim (Slot (register aim d)) R (true_written d aim w).at → IsExp code f sc source.True w.at d (target_of aim) R
true_serves code f L n d sc (Into r) w R lv fin g = inl (at_op code f L n (op.Bool r true) 0 w lv fin, g)
true_serves code f L n d sc (Anywhere room) w R lv fin g = inl (at_op code f L n (op.Bool d true) 0 w lv fin, g)
true_serves code f L n d sc (Unless l pay) w R lv fin g = inr (g.always w.at (paid_stands code f L n pay w lv fin))

-- a base of a chain
pub given_base : (code : Code) (f : ℕ) (L : List ℕ) (lk : Link) (e : Exp) (names : List Known) (d : ℕ) (R : ℕ → Shown → Type 0) (c : ℕ) → R c (shown_of (shown e names d (link_aim lk d))) → Given code f L (link_aim lk d) (shown e names d (link_aim lk d)) R c
given_base code f L (Strict u) e names d R c r = r
given_base code f L Both e names d R c r = subst (λ p. R c (shown_of p)) (shown_into e names d d) r
given_base code f L Either e names d R c r = subst (λ p. R c (shown_of p)) (shown_into e names d d) r

pub returned_kept : (es : Exps) (inner : Scope) (v : Writer) → K v
    (if is_tail es then tail_written es inner inner.free v
    else if is_only es
    then on_slot (only_shown es inner.names inner.free (Anywhere Nothing)) (only_written es inner inner.free (Anywhere Nothing) v)
    (λ x. put (op.Return x 1) (only_written es inner inner.free (Anywhere Nothing) v))
    else if slots_fit es then put (op.Return inner.free (count es)) (fixed_written es inner inner.free v)
    else put op.ReturnList (list_written es inner inner.free (put op.Begin v)))
returned_kept es inner v =
    let one = only_written es inner inner.free (Anywhere Nothing) v in
    let kone = only_kept es inner inner.free (Anywhere Nothing) v in
    let b = put op.Begin v in
    k_if v (tail_written es inner inner.free v) _ (is_tail es) (tail_kept es inner inner.free v)
    (k_if v (on_slot (only_shown es inner.names inner.free (Anywhere Nothing)) one (λ x. put (op.Return x 1) one)) _ (is_only es)
    (k_on v one (only_shown es inner.names inner.free (Anywhere Nothing)) (λ x. put (op.Return x 1) one) kone (λ x. k_put v one (op.Return x 1) kone))
    (k_if v (put (op.Return inner.free (count es)) (fixed_written es inner inner.free v)) (put op.ReturnList (list_written es inner inner.free b)) (slots_fit es)
    (k_put v _ (op.Return inner.free (count es)) (fixed_kept es inner inner.free v))
    (k_put v _ op.ReturnList (on v b _ (k_put v v op.Begin (kept_self 0 v)) (list_kept es inner inner.free b)))))

-- ---- labels that stand
-- what was written before the last label got its place
pub below : (code : Code) (f : ℕ) (L : List ℕ) (n l m : ℕ) (q : Writer) → Final code f L n (placed_here l q) → l < m → n ≤ m → Final code f L m q
below code f L n l m q fin lt le = part code f L n m m q (placed_here l q) fin (kept_placed_below m l q q lt (kept_self m q)) le (omega arith)

pub same_place : (l : ℕ) (q : Writer) → Level q → Level (placed_here l q)
same_place l q lv = record { ops = lv.ops; lines = lv.lines }

pub set_long : (l : ℕ) (q : Writer) → length (placed_here l q).labels ≡ length q.labels
set_long l q = length_set q.labels l q.at

pub no_else_ends : (b : Branches) (sc : Scope) (exit : Option ℕ) (end m : ℕ) (u : Writer) → b ≡ NoElse → (else_written b sc exit end (placed_here m (where_else b end u))).at ≡ u.at
no_else_ends NoElse sc exit end m u e = refl
no_else_ends (Else p) sc exit end m u e = absurd (cc)
no_else_ends (Elseif c p b) sc exit end m u e = absurd (cc)

-- ---- loops of `for`, whose body is proved by `serve`
pub numeric_serves : (code : Code) (f : ℕ) (L : List ℕ) (x : Text) (sc : Scope) (line m n : ℕ) (w : Writer) (block : Scope → Option ℕ → Writer → Writer) (turns : Scope → ℕ → ℕ → (ℕ → Type 0) → Type 0) (R : ℕ → Type 0)
    → n ≤ length w.labels → Level w → Final code f L n (numeric_written x sc line m block w) → R (numeric_written x sc line m block w).at
    → ((inner : Scope) (out : Option ℕ) (v : Writer) → K v (block inner out v))
    → (R (place L (label_of w)) → (inner : Scope) (v : Writer) (i : ℕ) (E : ℕ → Type 0) → i ≤ length v.labels → Level v → Final code f L i (block inner (Some (label_of w)) v) → E (block inner (Some (label_of w)) v).at → turns inner m v.at E)
    → IsNumeric code f sc x line w.at turns R
numeric_serves code f L x sc line m n w block turns R le lv fin r keeps serve =
    let l = label_of w in
    let s = labelled (labelled w) in
    let ls : Level s = record { ops = lv.ops; lines = lv.lines } in
    let o = op.ForPrep (suc m) sc.free l in
    let a = emit o line s in
    let v = placed_here (l + 1) a in
    let inner = all_known (x ∷ []) (past 3 sc) v.flags v.locals in
    let d = declare_all (x ∷ []) (past 3 sc) v in
    let kd = k_declare_all v v (x ∷ []) (past 3 sc) (kept_self 0 v) in
    let b = block inner (Some l) d in
    let kb = keeps inner (Some l) d in
    let p = op.ForLoop (suc m) sc.free (l + 1) in
    let q = put p b in
    let la = (kept_emit 0 o line s).level ls in
    let lvv = same_place (l + 1) a la in
    let ld = kd.level lvv in
    let lb = kb.level ld in
    let long : l + 2 ≤ length v.labels = omega (arith, two_more w, set_long (l + 1) a) in
    let exit : place L l ≡ q.at = label_is code f L n l q fin le (omega (arith, long, kd.more, kb.more)) in
    let fin_q = below code f L n l (l + 1) q fin (omega arith) (omega (arith, le)) in
    let fin_b = back code f L (l + 1) b q fin_q (k_put b b p (kept_self 0 b)) in
    let fin_d = back code f L (l + 1) d b fin_b kb in
    let fin_v = back code f L (l + 1) v d fin_d kd in
    let start : place L (l + 1) ≡ a.at = label_is code f L (l + 1) (l + 1) a fin_v (omega arith) (omega (arith, two_more w)) in
    let fin_a = below code f L (l + 1) (l + 1) (l + 2) a fin_v (omega arith) (omega arith) in
    let loop = at_op code f L (l + 1) p 0 b lb fin_q in
    let out = subst R (sym exit) r in
    let E = λ (y : ℕ). Leads code f y (λ z. At code f z (op.ForLoop (suc m) sc.free (w.at + 1)) × Leads code f (z + 1) R) in (
      m,
      place L l,
      at_line code f L (l + 2) o line s ls fin_a,
      declares_serve code f L (l + 1) (x ∷ []) (past 3 sc) v (λ i z. turns i m z E) lvv fin_d
          (serve out inner d (l + 1) E (omega (arith, long, kd.more)) ld fin_b (inl (subst (λ i. At code f b.at (op.ForLoop (suc m) sc.free i)) start loop, inl r))),
      inl out,
    )

pub generic_serves : (code : Code) (f : ℕ) (L : List ℕ) (xs : List Text) (sc : Scope) (line m n : ℕ) (w : Writer) (block : Scope → Option ℕ → Writer → Writer) (turns : Scope → ℕ → ℕ → (ℕ → Type 0) → Type 0) (R : ℕ → Type 0)
    → n ≤ length w.labels → Level w → Final code f L n (generic_written xs sc line m block w) → R (generic_written xs sc line m block w).at
    → ((inner : Scope) (out : Option ℕ) (v : Writer) → K v (block inner out v))
    → (R (place L (label_of w)) → (inner : Scope) (v : Writer) (i : ℕ) (E : ℕ → Type 0) → i ≤ length v.labels → Level v → Final code f L i (block inner (Some (label_of w)) v) → E (block inner (Some (label_of w)) v).at → turns inner m v.at E)
    → IsGeneric code f sc xs line w.at turns R
generic_serves code f L xs sc line m n w block turns R le lv fin r keeps serve =
    let l = label_of w in
    let s = labelled (labelled (labelled w)) in
    let ls : Level s = record { ops = lv.ops; lines = lv.lines } in
    let j = op.Jump (l + 1) in
    let a = put j s in
    let v = placed_here (l + 2) a in
    let inner = all_known xs (past 3 sc) v.flags v.locals in
    let d = declare_all xs (past 3 sc) v in
    let kd = k_declare_all v v xs (past 3 sc) (kept_self 0 v) in
    let b = block inner (Some l) d in
    let kb = keeps inner (Some l) d in
    let u = placed_here (l + 1) b in
    let i = max 1 (length xs) in
    let o = op.ForCall sc.free i in
    let c = emit o line u in
    let p = op.ForEach (suc m) sc.free (l + 2) in
    let q = put p c in
    let lvv = same_place (l + 2) a ((kept_emit 0 j 0 s).level ls) in
    let ld = kd.level lvv in
    let lb = kb.level ld in
    let lu = same_place (l + 1) b lb in
    let lc = (kept_emit 0 o line u).level lu in
    let long : l + 3 ≤ length v.labels = omega (arith, three_more w, set_long (l + 2) a) in
    let exit : place L l ≡ q.at = label_is code f L n l q fin le (omega (arith, long, kd.more, kb.more, set_long (l + 1) b)) in
    let fin_q = below code f L n l (l + 1) q fin (omega arith) (omega (arith, le)) in
    let fin_c = back code f L (l + 1) c q fin_q (k_put c c p (kept_self 0 c)) in
    let fin_u = back code f L (l + 1) u c fin_c (k_emit u u o line (kept_self 0 u)) in
    let call : place L (l + 1) ≡ b.at = label_is code f L (l + 1) (l + 1) b fin_u (omega arith) (omega (arith, long, kd.more, kb.more)) in
    let fin_b = below code f L (l + 1) (l + 1) (l + 2) b fin_u (omega arith) (omega arith) in
    let fin_d = back code f L (l + 2) d b fin_b kb in
    let fin_v = back code f L (l + 2) v d fin_d kd in
    let start : place L (l + 2) ≡ a.at = label_is code f L (l + 2) (l + 2) a fin_v (omega arith) (omega (arith, three_more w)) in
    let fin_a = below code f L (l + 2) (l + 2) (l + 3) a fin_v (omega arith) (omega arith) in
    let out = subst R (sym exit) r in
    let body = λ (h z : ℕ). IsDeclares code f (past 3 sc) xs z (λ t y. turns t m y (λ e. Leads code f e (λ g. g ≡ h))) in
    let here : body b.at v.at = declares_serve code f L (l + 2) xs (past 3 sc) v (λ t y. turns t m y (λ e. Leads code f e (λ g. g ≡ b.at))) lvv fin_d
    (serve out inner d (l + 2) (λ e. Leads code f e (λ g. g ≡ b.at)) (omega (arith, long, kd.more)) ld fin_b (inl refl)) in
    let X = λ (h : ℕ). (r pay s : ℕ) × (length xs ≤ r) × (1 ≤ r)
    × stand.AtLine code f h (op.ForCall sc.free r) line × At code f (h + 1) (op.ForEach (suc pay) sc.free s)
    × IsDeclares code f (past 3 sc) xs s (λ t y. turns t pay y (λ e. Leads code f e (λ g. g ≡ h)))
    × Leads code f (h + 2) R in
    let all : X b.at = (
      i,
      m,
      place L (l + 2),
      le-max_right 1 (length xs),
      le-max_left 1 (length xs),
      at_line code f L (l + 1) o line u lu fin_c,
      at_op code f L (l + 1) p 0 c lc fin_q,
      subst (λ z. body b.at z) (sym start) here,
      inl (two b.at R r),
    ) in
    inr (place L (l + 1), at_op code f L (l + 3) j 0 s ls fin_a, subst X (sym call) all)

-- ---- choices of statements
pub targets_serve : (code : Code) (f : ℕ) (L : List ℕ) (n : ℕ) (P : List Text → Type 0) (G : Writer → Type 0) (o : Option (List Text)) (w : Writer) (go : List Text → Writer)
    → Final code f L n (with_targets o w go) → G (with_targets o w go) → ((xs : List Text) → Final code f L n (go xs) → G (go xs) → P xs) → stand.WhereSome o P
targets_serve code f L n P G None w go fin g h = never_lost code f L n w fin
targets_serve code f L n P G (Some xs) w go fin g h = h xs fin g

pub slot_known : (o : Option Place) (s : ℕ) (P : ℕ → Type 0) → slot_at o ≡ Some s → P s → WhereInSlot o P
slot_known None s P e p = absurd (cc)
slot_known (Some (InSlot i)) s P e p = (let x : i ≡ s = cc in subst P (sym x) p)
slot_known (Some (InCell c)) s P e p = absurd (cc)
slot_known (Some (InUp u)) s P e p = absurd (cc)
slot_known (Some Hidden) s P e p = absurd (cc)

pub only_known : (xs : List Text) (names : List Known) (s : ℕ) (P : ℕ → Type 0) → only_slot xs names ≡ Some s → P s → stand.WhereOne xs (λ x. WhereInSlot (place_of names x) P)
only_known [] names s P e p = absurd (cc)
only_known (x ∷ []) names s P e p = slot_known (place_of names x) s P e p
only_known (x ∷ y ∷ xs) names s P e p = absurd (cc)

pub by_slot : (P : Type 0) (F : Writer → Type 0) (o : Option ℕ) (b : Bool) (x : Writer) (go : ℕ → Writer) → F (directly o b x go) → ((s : ℕ) → o ≡ Some s → b ≡ true → F (go s) → P) → (F x → P) → P
by_slot P F None b x go h yes' no' = no' h
by_slot P F (Some s) true x go h yes' no' = yes' s refl refl h
by_slot P F (Some s) false x go h yes' no' = no' h

pub jump_serves : (code : Code) (f : ℕ) (L : List ℕ) (n : ℕ) (o : Option ℕ) (v : Writer) (X : ℕ → Type 0) → Level v → Final code f L n (jumped o v) → Out L o X → Leads code f v.at X
jump_serves code f L n None v X lv fin x = absurd (never_lost code f L n v fin)
jump_serves code f L n (Some l) v X lv fin x = inr (place L l, at_op code f L n (op.Jump l) 0 v lv fin, x)

pub closed_as : (code : Code) (f : ℕ) (L : List ℕ) (b : Bool) (x : Text) (sc : Scope) (p : Body) (a g : ℕ) (Q : Scope → ℕ → Type 0) → At code f a (placed L (close_op sc b g)) → IsBody code g (function_known x sc b).names p → Q (function_known x sc b) (a + 1)
    → (At code f a (op.Close sc.free g) × IsBody code g (in_slot x sc).names p × Q (in_slot x sc) (a + 1)) ⊎ (At code f a (op.CloseCell sc.cells g) × IsBody code g (in_cell x sc).names p × Q (in_cell x sc) (a + 1))
closed_as code f L true x sc p a g Q at is q = inr (at, is, q)
closed_as code f L false x sc p a g Q at is q = inl (at, is, q)
