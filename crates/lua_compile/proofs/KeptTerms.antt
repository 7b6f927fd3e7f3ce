-- What the code of each term keeps of what was written before.
use Rattle.std.proofs.Common.{◌≡◌, ℕ, suc, ◌+◌, ◌-◌, ◌≤◌, refl, List, [], ◌∷◌, length, Option, Some, None, arith, true, false}
use Rattle.std.specs.Prelude.{if◌then◌else◌, ◌&&◌, not, max, pos}
use Rattle.lua_tree.specs.Source as source
use Rattle.lua_tree.specs.Source.{Text, Block, Plain, Returns, Stats, NoStat, MoreStats, Stat, Branches, NoElse, Else, Elseif, Exps, NoExp, MoreExps, Exp, Operands, NoOperand, MoreOperands, Suffixes, NoSuffix, MoreSuffixes, Body, body}
use Rattle.lua_meaning.specs.Values.{link_of, unary_of}
use Rattle.lua_meaning.specs.Statements.{variables}
use Rattle.lua_code.specs.declared.function.Constant.TheVariants as constant
use Rattle.lua_code.specs.declared.op.Op.TheVariants as op
use Rattle.lua_steps.specs.declared.scope.Known.{Known}
use Rattle.lua_steps.specs.Scope.{Scope, place_of, past}
use Rattle.lua_steps.specs.Stand.{from_slots, from_items}
use Rattle.lua_steps.specs.Serves.{following}
use Rattle.lua_compile.specs.declared.aim.Aim.{Aim}
use Rattle.lua_compile.specs.declared.aim.Aim.TheVariants.{Into, Anywhere, Unless}
use Rattle.lua_compile.specs.declared.aim.Room.TheVariants.{Nothing, Word}
use Rattle.lua_compile.specs.declared.aim.Operand.{Operand}
use Rattle.lua_compile.specs.declared.aim.Operand.TheVariants.{Slot}
use Rattle.lua_compile.specs.declared.aim.Want.{Want}
use Rattle.lua_compile.specs.declared.aim.Want.TheVariants as want
use Rattle.lua_compile.specs.Writer.{Writer, emit, put, labelled, label_of, placed_here, with_constant, lost_if, counted, flag, all_known, declare_all, seen_inside, begun, resumed}
use Rattle.lua_compile.specs.Forms.{register, is_unless, differ, int_written, has_room, stores_written, nils_written, shown, on_slot, is_slot, binary_written, tests, room_for, test_written, unary_slot, so_far, last_settled, base_aim, and_aim, all_and, no_more, is_many, count, slots_fit, targets_fit, is_only, is_tail, only_shown, suffix_want, called, called_list, prepay, ticked, ticked_more, paid_before, ticked_twice, only_direct, only_slot, directly, where_else, function_known, close_op, numeric_written, generic_written}
use Rattle.lua_compile.specs.Written.{exp_written, ands_written, operands_written, suffixes_written, fixed_written, values_written, many_written, list_written, all_written, tail_written, only_written, body_written, block_written, block_known, stats_written, stats_known, stat_written, stat_known, else_written}
use Rattle.lua_compile.proofs.Kept.{kept_self, kept_then, kept_placed_new}
use Rattle.lua_compile.proofs.KeptForms.{K, Inner, k_emit, k_put, k_labelled, k_constant, k_lost, k_counted, k_resumed, k_if, k_settled, k_int, k_aimed, k_true, k_name, k_stores, k_nils, k_on, k_binary, k_test, k_unary, k_last, k_linked, k_called, k_called_list, k_none, k_ticked, k_ticked_more, k_ticked_twice, k_targets, k_directly, k_jumped, k_where_else, k_declare_all}

pub on : (w v u : Writer) → K w v → K v u → K w u
on w v u a b = kept_then 0 w v u a b

-- labels that were made after w
le_more : (w v : Writer) (l i : ℕ) → K w v → l ≡ length v.labels → length w.labels ≤ l + i
le_more w v l i a e = omega (arith, a.more, e)

pub placed : (w v u : Writer) (i : ℕ) → K w v → K w u → K w (placed_here (label_of v + i) u)
placed w v u i a b = kept_placed_new 0 (label_of v + i) w u (le_more w v (label_of v) i a refl) b

pub placed_first : (w v u : Writer) → K w v → K w u → K w (placed_here (label_of v) u)
placed_first w v u a b = kept_placed_new 0 (label_of v) w u (omega (arith, a.more)) b

pub labelled_three : (w v : Writer) → K w v → K w (labelled (labelled (labelled v)))
labelled_three w v a = k_labelled w _ (k_labelled w _ (k_labelled w v a))

pub k_numeric : (w : Writer) (x : Text) (sc : Scope) (line m : ℕ) (block : Scope → Option ℕ → Writer → Writer) → ((inner : Scope) (out : Option ℕ) (v : Writer) → K v (block inner out v)) → K w (numeric_written x sc line m block w)
k_numeric w x sc line m block h =
    let l = label_of w in
    let self = kept_self 0 w in
    let two = labelled (labelled w) in
    let v = placed_here (l + 1) (emit (op.ForPrep (suc m) sc.free l) line two) in
    let kv = placed w w (emit (op.ForPrep (suc m) sc.free l) line two) 1 self (k_emit w two _ line (k_labelled w _ (k_labelled w w self))) in
    let inner = all_known (x ∷ []) (past 3 sc) v.flags v.locals in
    let u = declare_all (x ∷ []) (past 3 sc) v in
    let ku = k_declare_all w v (x ∷ []) (past 3 sc) kv in
    placed_first w w _ self (k_put w _ (op.ForLoop (suc m) sc.free (l + 1)) (on w u (block inner (Some l) u) ku (h inner (Some l) u)))

pub k_generic : (w : Writer) (xs : List Text) (sc : Scope) (line m : ℕ) (block : Scope → Option ℕ → Writer → Writer) → ((inner : Scope) (out : Option ℕ) (v : Writer) → K v (block inner out v)) → K w (generic_written xs sc line m block w)
k_generic w xs sc line m block h =
    let l = label_of w in
    let self = kept_self 0 w in
    let three = labelled (labelled (labelled w)) in
    let v = placed_here (l + 2) (put (op.Jump (l + 1)) three) in
    let kv = placed w w (put (op.Jump (l + 1)) three) 2 self (k_put w three _ (labelled_three w w self)) in
    let inner = all_known xs (past 3 sc) v.flags v.locals in
    let t = declare_all xs (past 3 sc) v in
    let kt = k_declare_all w v xs (past 3 sc) kv in
    let u = placed_here (l + 1) (block inner (Some l) t) in
    let ku = placed w w (block inner (Some l) t) 1 self (on w t (block inner (Some l) t) kt (h inner (Some l) t)) in
    placed_first w w _ self (k_put w _ (op.ForEach (suc m) sc.free (l + 2)) (k_emit w u (op.ForCall sc.free (max 1 (length xs))) line ku))

mutual
  pub exp_kept : (e : Exp) (sc : Scope) (d : ℕ) (aim : Aim) (w : Writer) → K w (exp_written e sc d aim w)
  exp_kept source.Nil sc d aim w = k_settled w _ aim (register aim d) (k_put w w (op.Nil (register aim d)) (kept_self 0 w))
  exp_kept source.False sc d aim w = k_settled w _ aim (register aim d) (k_put w w (op.Bool (register aim d) false) (kept_self 0 w))
  exp_kept source.True sc d aim w = k_true w w d aim (kept_self 0 w)
  exp_kept (source.Int n) sc d aim w = k_aimed w w n d aim (kept_self 0 w)
  exp_kept (source.Str bytes) sc d aim w =
      k_settled w _ aim (register aim d) (k_put w (with_constant (constant.Text bytes) w) (op.Constant (register aim d) (length w.draft.constants)) (k_constant w w (constant.Text bytes) (kept_self 0 w)))
  exp_kept source.Dots sc d aim w = k_settled w _ aim (register aim d) (k_put w w (op.DotsTo (register aim d) 1) (kept_self 0 w))
  exp_kept (source.Function p) sc d aim w =
      let inner = body_written p sc.names w in
      k_settled w _ aim (register aim d) (k_put w (resumed inner w) (op.Close (register aim d) (length inner.made)) (k_resumed w w inner (kept_self 0 w) (body_kept p sc.names w)))
  exp_kept (source.Name x) sc d aim w = k_name w w (place_of sc.names x) d aim (kept_self 0 w)
  exp_kept (source.Paren e) sc d aim w = exp_kept e sc d aim w
  exp_kept (source.Table fs) sc d aim w = k_lost w w true (kept_self 0 w)
  exp_kept (source.Suffixed e ss) sc d aim w =
      let v = exp_written e sc d (Into d) w in
      k_settled w _ aim d (k_lost w _ (differ (register aim d) d) (k_none w _ ss (want.Count 1) d (on w v _ (exp_kept e sc d (Into d) w) (suffixes_kept ss sc d (want.Count 1) v))))
  exp_kept (source.Unary o line e) sc d aim w =
      let v = exp_written e sc d (Anywhere Nothing) w in
      let k = exp_kept e sc d (Anywhere Nothing) w in
      k_on w v (shown e sc.names d (Anywhere Nothing)) (λ x. unary_slot (unary_of o) x d aim line v) k (λ x. k_unary w v (unary_of o) x d aim line k)
  exp_kept (source.Chain e os) sc d aim w =
      let first = and_aim os aim in
      let v = exp_written e sc d first w in
      let u = exp_written e sc d (base_aim os aim d) w in
      let p = shown e sc.names d (base_aim os aim d) in
      k_if w (lost_if true w) (if is_unless aim && all_and os then ands_written os sc d aim v else operands_written os sc d aim p u) (no_more os)
      (k_lost w w true (kept_self 0 w))
      (k_if w (ands_written os sc d aim v) (operands_written os sc d aim p u) (is_unless aim && all_and os)
      (on w v _ (exp_kept e sc d first w) (ands_kept os sc d aim v))
      (on w u _ (exp_kept e sc d (base_aim os aim d) w) (operands_kept os sc d aim p u)))

  pub ands_kept : (os : Operands) (sc : Scope) (d : ℕ) (aim : Aim) (w : Writer) → K w (ands_written os sc d aim w)
  ands_kept NoOperand sc d aim w = kept_self 0 w
  ands_kept (MoreOperands o line e os) sc d aim w =
      let v = exp_written e sc d (and_aim os aim) w in on w v _ (exp_kept e sc d (and_aim os aim) w) (ands_kept os sc d aim v)

  pub operands_kept : (os : Operands) (sc : Scope) (d : ℕ) (aim : Aim) (p : Operand) (w : Writer) → K w (operands_written os sc d aim p w)
  operands_kept NoOperand sc d aim p w = kept_self 0 w
  operands_kept (MoreOperands o line e os) sc d aim p w =
      let s = labelled (lost_if (not (is_slot p d)) w) in
      let ks = k_labelled w _ (k_lost w w (not (is_slot p d)) (kept_self 0 w)) in
      let a = put (op.Test d (label_of w)) s in
      let b = put (op.TestNot d (label_of w)) s in
      let ka = k_put w s (op.Test d (label_of w)) ks in
      let kb = k_put w s (op.TestNot d (label_of w)) ks in
      let a' = last_settled os aim d d (placed_here (label_of w) (exp_written e sc d (Into d) a)) in
      let b' = last_settled os aim d d (placed_here (label_of w) (exp_written e sc d (Into d) b)) in
      let ka' = k_last w _ os aim d d (placed_first w w _ (kept_self 0 w) (on w a _ ka (exp_kept e sc d (Into d) a))) in
      let kb' = k_last w _ os aim d d (placed_first w w _ (kept_self 0 w) (on w b _ kb (exp_kept e sc d (Into d) b))) in
      k_linked w (operands_written os sc d aim (Slot d) a') (operands_written os sc d aim (Slot d) b') (link_of o)
      (λ u.
      let r = so_far os aim d in
      let t = tests u os aim p d in
      let room = Anywhere (room_for t p r) in
      let v = exp_written e sc (d + 1) room w in
      let q = shown e sc.names (d + 1) room in
      operands_written os sc d aim (Slot r) (if t then test_written u p q aim line v else last_settled os aim d r (binary_written u r p q line v)))
      (on w a' _ ka' (operands_kept os sc d aim (Slot d) a'))
      (on w b' _ kb' (operands_kept os sc d aim (Slot d) b'))
      (λ u.
      let r = so_far os aim d in
      let t = tests u os aim p d in
      let room = Anywhere (room_for t p r) in
      let v = exp_written e sc (d + 1) room w in
      let q = shown e sc.names (d + 1) room in
      let x = if t then test_written u p q aim line v else last_settled os aim d r (binary_written u r p q line v) in
      let kv = exp_kept e sc (d + 1) room w in
      let kx = k_if w (test_written u p q aim line v) (last_settled os aim d r (binary_written u r p q line v)) t (k_test w v u p q aim line kv) (k_last w _ os aim d r (k_binary w v u r p q line kv)) in
      on w x _ kx (operands_kept os sc d aim (Slot r) x))

  pub suffixes_kept : (ss : Suffixes) (sc : Scope) (d : ℕ) (a : Want) (w : Writer) → K w (suffixes_written ss sc d a w)
  suffixes_kept NoSuffix sc d a w = kept_self 0 w
  suffixes_kept (MoreSuffixes (source.Call es line) ss) sc d a w =
      let begun_list = put (op.Push d) (put op.Begin w) in
      let x = called (suffix_want ss a) d (count es) line (fixed_written es sc (d + 1) w) in
      let y = called_list (suffix_want ss a) d line (list_written es sc d begun_list) in
      let v = if slots_fit es then x else y in
      let kv = k_if w x y (slots_fit es)
      (k_called w _ (suffix_want ss a) d (count es) line (fixed_kept es sc (d + 1) w))
      (k_called_list w _ (suffix_want ss a) d line (on w begun_list _ (k_put w _ (op.Push d) (k_put w w op.Begin (kept_self 0 w))) (list_kept es sc d begun_list))) in
      on w v _ kv (suffixes_kept ss sc d a v)
  suffixes_kept (MoreSuffixes (source.Index e line) ss) sc d a w = k_lost w w true (kept_self 0 w)
  suffixes_kept (MoreSuffixes (source.Method x at es line) ss) sc d a w = k_lost w w true (kept_self 0 w)

  pub fixed_kept : (es : Exps) (sc : Scope) (r : ℕ) (w : Writer) → K w (fixed_written es sc r w)
  fixed_kept NoExp sc r w = kept_self 0 w
  fixed_kept (MoreExps e es) sc r w = on w (exp_written e sc r (Into r) w) _ (exp_kept e sc r (Into r) w) (fixed_kept es sc (r + 1) (exp_written e sc r (Into r) w))

  pub values_kept : (es : Exps) (n : ℕ) (sc : Scope) (r : ℕ) (w : Writer) → K w (values_written es n sc r w)
  values_kept NoExp n sc r w = k_nils w w r n (kept_self 0 w)
  values_kept (MoreExps e NoExp) n sc r w =
      k_if w (many_written e n sc r w) (nils_written (r + 1) (n - 1) (exp_written e sc r (Into r) w)) (is_many e) (many_kept e n sc r w)
      (k_nils w _ (r + 1) (n - 1) (exp_kept e sc r (Into r) w))
  values_kept (MoreExps e (MoreExps g es)) n sc r w =
      on w (exp_written e sc r (Into r) w) _ (exp_kept e sc r (Into r) w) (values_kept (MoreExps g es) (n - 1) sc (following n r) (exp_written e sc r (Into r) w))

  pub many_kept : (e : Exp) (n : ℕ) (sc : Scope) (r : ℕ) (w : Writer) → K w (many_written e n sc r w)
  many_kept source.Dots n sc r w = k_put w w (op.DotsTo r n) (kept_self 0 w)
  many_kept (source.Suffixed e ss) n sc r w =
      k_none w _ ss (want.Count n) r (on w (exp_written e sc r (Into r) w) _ (exp_kept e sc r (Into r) w) (suffixes_kept ss sc r (want.Count n) (exp_written e sc r (Into r) w)))
  many_kept _ n sc r w = kept_self 0 w

  pub list_kept : (es : Exps) (sc : Scope) (d : ℕ) (w : Writer) → K w (list_written es sc d w)
  list_kept NoExp sc d w = kept_self 0 w
  list_kept (MoreExps e NoExp) sc d w =
      let v = exp_written e sc d (Anywhere Nothing) w in
      let kv = exp_kept e sc d (Anywhere Nothing) w in
      k_if w (all_written e sc d w) (on_slot (shown e sc.names d (Anywhere Nothing)) v (λ x. put (op.Push x) v)) (is_many e) (all_kept e sc d w)
      (k_on w v (shown e sc.names d (Anywhere Nothing)) (λ x. put (op.Push x) v) kv (λ x. k_put w v (op.Push x) kv))
  list_kept (MoreExps e (MoreExps g es)) sc d w =
      let v = exp_written e sc d (Anywhere Nothing) w in
      let kv = exp_kept e sc d (Anywhere Nothing) w in
      let u = on_slot (shown e sc.names d (Anywhere Nothing)) v (λ x. put (op.Push x) v) in
      on w u _ (k_on w v (shown e sc.names d (Anywhere Nothing)) (λ x. put (op.Push x) v) kv (λ x. k_put w v (op.Push x) kv)) (list_kept (MoreExps g es) sc d u)

  pub all_kept : (e : Exp) (sc : Scope) (d : ℕ) (w : Writer) → K w (all_written e sc d w)
  all_kept source.Dots sc d w = k_put w _ op.Append (k_put w w op.Dots (kept_self 0 w))
  all_kept (source.Suffixed e ss) sc d w =
      k_put w _ op.Append (k_none w _ ss want.AsList d (on w (exp_written e sc d (Into d) w) _ (exp_kept e sc d (Into d) w) (suffixes_kept ss sc d want.AsList (exp_written e sc d (Into d) w))))
  all_kept _ sc d w = kept_self 0 w

  pub tail_kept : (es : Exps) (sc : Scope) (d : ℕ) (w : Writer) → K w (tail_written es sc d w)
  tail_kept (MoreExps (source.Suffixed e ss) NoExp) sc d w =
      k_none w _ ss want.AsResult d (on w (exp_written e sc d (Into d) w) _ (exp_kept e sc d (Into d) w) (suffixes_kept ss sc d want.AsResult (exp_written e sc d (Into d) w)))
  tail_kept _ sc d w = kept_self 0 w

  pub only_kept : (es : Exps) (sc : Scope) (d : ℕ) (aim : Aim) (w : Writer) → K w (only_written es sc d aim w)
  only_kept (MoreExps e NoExp) sc d aim w = exp_kept e sc d aim w
  only_kept _ sc d aim w = kept_self 0 w

  pub body_kept : (p : Body) (names : List Known) (w : Writer) → Inner w (body_written p names w)
  body_kept (body xs dots p) names w =
      let outer : Scope = record { names = seen_inside 0 names; free = 0; cells = 0 } in
      let v = begun (record { params = length xs; pay = suc (prepay p); has_dots = dots; slots = length xs; cells = 0 }) names w in
      let u = declare_all xs outer v in
      let k = k_put v _ (op.Return 0 0) (on v u _ (k_declare_all v v xs outer (kept_self 0 v)) (block_kept p (all_known xs outer v.flags v.locals) (prepay p) None u)) in
      record { made = k.made; found = k.found }

  pub block_kept : (p : Block) (sc : Scope) (k : ℕ) (exit : Option ℕ) (w : Writer) → K w (block_written p sc k exit w)
  block_kept (Plain ts) sc k exit w = stats_kept ts sc k exit w
  block_kept (Returns ts es) sc k exit w =
      let v = stats_written ts sc k exit w in
      let kv = stats_kept ts sc k exit w in
      let inner = stats_known ts sc k exit w in
      let one = only_written es inner inner.free (Anywhere Nothing) v in
      let kone = on w v one kv (only_kept es inner inner.free (Anywhere Nothing) v) in
      let b = put op.Begin v in
      k_if w (tail_written es inner inner.free v) _ (is_tail es) (on w v _ kv (tail_kept es inner inner.free v))
      (k_if w (on_slot (only_shown es inner.names inner.free (Anywhere Nothing)) one (λ x. put (op.Return x 1) one)) _ (is_only es)
      (k_on w one (only_shown es inner.names inner.free (Anywhere Nothing)) (λ x. put (op.Return x 1) one) kone (λ x. k_put w one (op.Return x 1) kone))
      (k_if w (put (op.Return inner.free (count es)) (fixed_written es inner inner.free v)) (put op.ReturnList (list_written es inner inner.free b)) (slots_fit es)
      (k_put w _ (op.Return inner.free (count es)) (on w v _ kv (fixed_kept es inner inner.free v)))
      (k_put w _ op.ReturnList (on w b _ (k_put w v op.Begin kv) (list_kept es inner inner.free b)))))

  pub stats_kept : (ts : Stats) (sc : Scope) (k : ℕ) (exit : Option ℕ) (w : Writer) → K w (stats_written ts sc k exit w)
  stats_kept NoStat sc k exit w = k_lost w w (differ k 0) (kept_self 0 w)
  stats_kept (MoreStats t ts) sc k exit w =
      on w (stat_written t sc k exit w) _ (stat_kept t sc k exit w) (stats_kept ts (stat_known t sc k exit w) 0 exit (stat_written t sc k exit w))

  pub stat_kept : (t : Stat) (sc : Scope) (k : ℕ) (exit : Option ℕ) (w : Writer) → K w (stat_written t sc k exit w)
  stat_kept (source.Assign ts es) sc k exit w =
      let v = ticked k w in
      let kv = k_ticked w w k (kept_self 0 w) in
      let b = put op.Begin v in
      let ls = list_written es sc sc.free b in
      let regs = λ (xs : List Text). stores_written (from_slots xs sc.free []) sc.free sc.names (values_written es (length xs) sc sc.free v) in
      let items = λ (xs : List Text). stores_written (from_items xs 0 []) sc.free sc.names ls in
      k_targets w w (variables ts)
      (λ xs. if targets_fit xs then directly (only_slot xs sc.names) (only_direct es) (regs xs) (λ s. only_written es sc sc.free (Into s) v) else put (op.Spread sc.free 0) (items xs))
      (kept_self 0 w)
      (λ xs. k_if w (directly (only_slot xs sc.names) (only_direct es) (regs xs) (λ s. only_written es sc sc.free (Into s) v)) (put (op.Spread sc.free 0) (items xs)) (targets_fit xs)
      (k_directly w (regs xs) (only_slot xs sc.names) (only_direct es) (λ s. only_written es sc sc.free (Into s) v)
      (k_stores w (values_written es (length xs) sc sc.free v) (from_slots xs sc.free []) sc.free sc.names (on w v _ kv (values_kept es (length xs) sc sc.free v)))
      (λ s. on w v _ kv (only_kept es sc sc.free (Into s) v)))
      (k_put w (items xs) (op.Spread sc.free 0) (k_stores w ls (from_items xs 0 []) sc.free sc.names (on w b _ (k_put w v op.Begin kv) (list_kept es sc sc.free b)))))
  stat_kept (source.Invoke e) sc k exit w =
      let v = ticked k w in
      let kv = k_ticked w w k (kept_self 0 w) in
      k_if w (many_written e 0 sc sc.free v) (exp_written e sc sc.free (Anywhere Nothing) v) (is_many e)
      (on w v _ kv (many_kept e 0 sc sc.free v)) (on w v _ kv (exp_kept e sc sc.free (Anywhere Nothing) v))
  stat_kept source.Break sc k exit w = k_jumped w (ticked k w) exit (k_ticked w w k (kept_self 0 w))
  stat_kept (source.Do p) sc k exit w =
      on w (ticked_more k (prepay p) w) _ (k_ticked_more w w k (prepay p) (kept_self 0 w)) (block_kept p sc (paid_before k (prepay p)) exit (ticked_more k (prepay p) w))
  stat_kept (source.While e p) sc k exit w =
      let v = ticked k w in
      let kv = k_ticked w w k (kept_self 0 w) in
      let l = label_of v in
      let j = put (op.Jump (l + 1)) (labelled (labelled (labelled v))) in
      let u = placed_here (l + 2) j in
      let ku = placed w v j 2 kv (k_put w _ (op.Jump (l + 1)) (labelled_three w v kv)) in
      let b = block_written p sc (prepay p) (Some l) u in
      let t = placed_here (l + 1) b in
      let kt = placed w v b 1 kv (on w u b ku (block_kept p sc (prepay p) (Some l) u)) in
      placed_first w v _ kv (k_put w _ (op.Loop (suc (prepay p)) (l + 2)) (on w t _ kt (exp_kept e sc sc.free (Unless l 0) t)))
  stat_kept (source.Repeat p e) sc k exit w =
      let v = ticked_twice k (prepay p) w in
      let kv = k_ticked_twice w w k (prepay p) (kept_self 0 w) in
      let l = label_of v in
      let u = placed_here (l + 2) (labelled (labelled (labelled v))) in
      let ku = placed w v (labelled (labelled (labelled v))) 2 kv (labelled_three w v kv) in
      let inner = block_known p sc (prepay p) (Some l) u in
      let b = block_written p sc (prepay p) (Some l) u in
      let t = exp_written e inner inner.free (Unless (l + 1) 0) b in
      let kt = on w b t (on w u b ku (block_kept p sc (prepay p) (Some l) u)) (exp_kept e inner inner.free (Unless (l + 1) 0) b) in
      placed_first w v _ kv (k_put w _ (op.Loop (suc (prepay p)) (l + 2)) (placed w v (put (op.Jump l) t) 1 kv (k_put w t (op.Jump l) kt)))
  stat_kept (source.If e p others) sc k exit w =
      let v = ticked k w in
      let kv = k_ticked w w k (kept_self 0 w) in
      let l = label_of v in
      let s = labelled (labelled v) in
      let c = exp_written e sc sc.free (Unless (l + 1) (prepay p)) s in
      let kc = on w s c (k_labelled w _ (k_labelled w v kv)) (exp_kept e sc sc.free (Unless (l + 1) (prepay p)) s) in
      let u = block_written p sc (prepay p) exit c in
      let ku = on w c u kc (block_kept p sc (prepay p) exit c) in
      let t = placed_here (l + 1) (where_else others l u) in
      let kt = placed w v (where_else others l u) 1 kv (k_where_else w u others l ku) in
      placed_first w v _ kv (on w t _ kt (else_kept others sc exit l t))
  stat_kept (source.Numeric x first limit p line) sc k exit w =
      let t = ticked k w in
      let v = exp_written first sc sc.free (Into sc.free) t in
      let u = exp_written limit sc (sc.free + 1) (Into (sc.free + 1)) v in
      let ku = on w v u (on w t v (k_ticked w w k (kept_self 0 w)) (exp_kept first sc sc.free (Into sc.free) t)) (exp_kept limit sc (sc.free + 1) (Into (sc.free + 1)) v) in
      let s = int_written (sc.free + 2) (pos 1) u in
      on w s _ (k_int w u (sc.free + 2) (pos 1) (has_room Word (pos 1)) ku) (k_numeric s x sc line (prepay p) (λ inner out q. block_written p inner (prepay p) out q) (λ inner out q. block_kept p inner (prepay p) out q))
  stat_kept (source.NumericBy x first limit step p line) sc k exit w =
      let t = ticked k w in
      let v = exp_written first sc sc.free (Into sc.free) t in
      let u = exp_written limit sc (sc.free + 1) (Into (sc.free + 1)) v in
      let ku = on w v u (on w t v (k_ticked w w k (kept_self 0 w)) (exp_kept first sc sc.free (Into sc.free) t)) (exp_kept limit sc (sc.free + 1) (Into (sc.free + 1)) v) in
      let s = exp_written step sc (sc.free + 2) (Into (sc.free + 2)) u in
      on w s _ (on w u s ku (exp_kept step sc (sc.free + 2) (Into (sc.free + 2)) u)) (k_numeric s x sc line (prepay p) (λ inner out q. block_written p inner (prepay p) out q) (λ inner out q. block_kept p inner (prepay p) out q))
  stat_kept (source.Generic xs es p line) sc k exit w =
      let t = ticked k w in
      let s = values_written es 3 sc sc.free t in
      on w s _ (on w t s (k_ticked w w k (kept_self 0 w)) (values_kept es 3 sc sc.free t)) (k_generic s xs sc line (prepay p) (λ inner out q. block_written p inner (prepay p) out q) (λ inner out q. block_kept p inner (prepay p) out q))
  stat_kept (source.Local xs es) sc k exit w =
      let t = ticked k w in
      let s = values_written es (length xs) sc sc.free t in
      k_declare_all w s xs sc (on w t s (k_ticked w w k (kept_self 0 w)) (values_kept es (length xs) sc sc.free t))
  stat_kept (source.LocalFunction x p) sc k exit w =
      let v = ticked k w in
      let kv = k_ticked w w k (kept_self 0 w) in
      let shared = flag v.flags v.locals in
      let inner = body_written p (function_known x sc shared).names (counted v) in
      k_put w _ (close_op sc shared (length inner.made)) (k_resumed w (counted v) inner (k_counted w v kv) (body_kept p (function_known x sc shared).names (counted v)))

  pub else_kept : (b : Branches) (sc : Scope) (exit : Option ℕ) (end : ℕ) (w : Writer) → K w (else_written b sc exit end w)
  else_kept NoElse sc exit end w = kept_self 0 w
  else_kept (Else p) sc exit end w = block_kept p sc 0 exit w
  else_kept (Elseif e p others) sc exit end w =
      let l = label_of w in
      let s = labelled w in
      let c = exp_written e sc sc.free (Unless l (prepay p)) s in
      let kc = on w s c (k_labelled w w (kept_self 0 w)) (exp_kept e sc sc.free (Unless l (prepay p)) s) in
      let u = block_written p sc (prepay p) exit c in
      let ku = on w c u kc (block_kept p sc (prepay p) exit c) in
      let t = placed_here l (where_else others end u) in
      on w t _ (placed_first w w _ (kept_self 0 w) (k_where_else w u others end ku)) (else_kept others sc exit end t)
