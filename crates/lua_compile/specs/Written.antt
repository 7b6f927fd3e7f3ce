-- The code of each term (manual, sections 3.3 and 3.4), written after what was written before. The slots from d on are free.
use Rattle.std.specs.Prelude.{ℕ, suc, ◌+◌, ◌-◌, Bool, true, false, not, ◌&&◌, if◌then◌else◌, List, [], ◌∷◌, length, Option, Some, None, pos}
use Rattle.lua_tree.specs.Source as source
use Rattle.lua_tree.specs.Source.{Text, Block, Plain, Returns, Stats, NoStat, MoreStats, Stat, Branches, NoElse, Else, Elseif, Exps, NoExp, MoreExps, Exp, Operands, NoOperand, MoreOperands, Suffixes, NoSuffix, MoreSuffixes, Body, body}
use Rattle.lua_meaning.specs.Values.{link_of, unary_of}
use Rattle.lua_meaning.specs.Statements.{variables}
use Rattle.lua_code.specs.declared.function.Constant.TheVariants as constant
use Rattle.lua_code.specs.declared.op.Op.TheVariants as op
use Rattle.lua_code.specs.Routine.{Routine}
use Rattle.lua_steps.specs.declared.scope.Known.{Known}
use Rattle.lua_steps.specs.Exec.{start_ops}
use Rattle.lua_steps.specs.Scope.{Scope, place_of}
use Rattle.lua_steps.specs.Stand.{from_slots, from_items}
use Rattle.lua_steps.specs.Serves.{following}
use Rattle.lua_compile.specs.declared.aim.Aim.{Aim}
use Rattle.lua_compile.specs.declared.aim.Aim.TheVariants.{Into, Anywhere, Unless}
use Rattle.lua_compile.specs.declared.aim.Room.TheVariants.{Nothing}
use Rattle.lua_compile.specs.declared.aim.Operand.{Operand}
use Rattle.lua_compile.specs.declared.aim.Operand.TheVariants.{Slot}
use Rattle.lua_compile.specs.declared.aim.Want.{Want}
use Rattle.lua_compile.specs.declared.aim.Want.TheVariants as want
use Rattle.lua_compile.specs.Writer.{Writer, put, labelled, label_of, placed_here, with_constant, lost_if, counted, flag, all_known, declare_all, seen_inside, begun, resumed}
use Rattle.lua_compile.specs.Forms.{register, is_unless, settled, differ, int_aimed, int_written, true_written, name_written, stores_written, nils_written, shown, on_slot, is_slot, binary_written, tests, room_for, test_written, unary_slot, so_far, last_settled, linked, base_aim, and_aim, all_and, no_more, is_many, count, slots_fit, targets_fit, is_only, is_tail, only_shown, suffix_want, called, called_list, where_none, prepay, ticked, ticked_more, paid_before, ticked_twice, only_direct, only_slot, with_targets, directly, jumped, where_else, function_known, close_op, numeric_written, generic_written}

abbrev mutual
  pub exp_written : Exp → Scope → ℕ → Aim → Writer → Writer
  exp_written source.Nil sc d aim w = settled aim (register aim d) (put (op.Nil (register aim d)) w)
  exp_written source.False sc d aim w = settled aim (register aim d) (put (op.Bool (register aim d) false) w)
  exp_written source.True sc d aim w = true_written d aim w
  exp_written (source.Int n) sc d aim w = int_aimed n d aim w
  exp_written (source.Str bytes) sc d aim w =
      settled aim (register aim d) (put (op.Constant (register aim d) (length w.draft.constants)) (with_constant (constant.Text bytes) w))
  exp_written source.Dots sc d aim w = settled aim (register aim d) (put (op.DotsTo (register aim d) 1) w)
  exp_written (source.Function p) sc d aim w =
      let inner = body_written p sc.names w in
      settled aim (register aim d) (put (op.Close (register aim d) (length inner.made)) (resumed inner w))
  exp_written (source.Name x) sc d aim w = name_written (place_of sc.names x) d aim w
  exp_written (source.Paren e) sc d aim w = exp_written e sc d aim w
  exp_written (source.Table fs) sc d aim w = lost_if true w
  exp_written (source.Suffixed e ss) sc d aim w =
      settled aim d (lost_if (differ (register aim d) d) (where_none ss (want.Count 1) d (suffixes_written ss sc d (want.Count 1) (exp_written e sc d (Into d) w))))
  exp_written (source.Unary o line e) sc d aim w =
      let v = exp_written e sc d (Anywhere Nothing) w in
      on_slot (shown e sc.names d (Anywhere Nothing)) v (λ x. unary_slot (unary_of o) x d aim line v)
  exp_written (source.Chain e os) sc d aim w =
      if no_more os then lost_if true w
      else if is_unless aim && all_and os
      then ands_written os sc d aim (exp_written e sc d (and_aim os aim) w)
      else operands_written os sc d aim (shown e sc.names d (base_aim os aim d)) (exp_written e sc d (base_aim os aim d) w)

  -- each operand of `and` jumps where it is false, and the last one pays
  pub ands_written : Operands → Scope → ℕ → Aim → Writer → Writer
  ands_written NoOperand sc d aim w = w
  ands_written (MoreOperands o line e os) sc d aim w = ands_written os sc d aim (exp_written e sc d (and_aim os aim) w)

  -- p is the value so far
  pub operands_written : Operands → Scope → ℕ → Aim → Operand → Writer → Writer
  operands_written NoOperand sc d aim p w = w
  operands_written (MoreOperands o line e os) sc d aim p w =
      linked (link_of o)
      (operands_written os sc d aim (Slot d) (last_settled os aim d d
      (placed_here (label_of w) (exp_written e sc d (Into d) (put (op.Test d (label_of w)) (labelled (lost_if (not (is_slot p d)) w)))))))
      (operands_written os sc d aim (Slot d) (last_settled os aim d d
      (placed_here (label_of w) (exp_written e sc d (Into d) (put (op.TestNot d (label_of w)) (labelled (lost_if (not (is_slot p d)) w)))))))
      (λ u.
      let r = so_far os aim d in
      let t = tests u os aim p d in
      let room = Anywhere (room_for t p r) in
      let v = exp_written e sc (d + 1) room w in
      let q = shown e sc.names (d + 1) room in
      operands_written os sc d aim (Slot r) (if t then test_written u p q aim line v else last_settled os aim d r (binary_written u r p q line v)))

  -- the suffixes of a value in slot d
  pub suffixes_written : Suffixes → Scope → ℕ → Want → Writer → Writer
  suffixes_written NoSuffix sc d a w = w
  suffixes_written (MoreSuffixes (source.Call es line) ss) sc d a w =
      suffixes_written ss sc d a
      (if slots_fit es
      then called (suffix_want ss a) d (count es) line (fixed_written es sc (d + 1) w)
      else called_list (suffix_want ss a) d line (list_written es sc d (put (op.Push d) (put op.Begin w))))
  suffixes_written (MoreSuffixes (source.Index e line) ss) sc d a w = lost_if true w
  suffixes_written (MoreSuffixes (source.Method x at es line) ss) sc d a w = lost_if true w

  -- each value goes to a slot, from r on
  pub fixed_written : Exps → Scope → ℕ → Writer → Writer
  fixed_written NoExp sc r w = w
  fixed_written (MoreExps e es) sc r w = fixed_written es sc (r + 1) (exp_written e sc r (Into r) w)

  -- n values go to slots, from r on
  pub values_written : Exps → ℕ → Scope → ℕ → Writer → Writer
  values_written NoExp n sc r w = nils_written r n w
  values_written (MoreExps e NoExp) n sc r w =
      if is_many e then many_written e n sc r w else nils_written (r + 1) (n - 1) (exp_written e sc r (Into r) w)
  values_written (MoreExps e (MoreExps g es)) n sc r w =
      values_written (MoreExps g es) (n - 1) sc (following n r) (exp_written e sc r (Into r) w)

  pub many_written : Exp → ℕ → Scope → ℕ → Writer → Writer
  many_written source.Dots n sc r w = put (op.DotsTo r n) w
  many_written (source.Suffixed e ss) n sc r w =
      where_none ss (want.Count n) r (suffixes_written ss sc r (want.Count n) (exp_written e sc r (Into r) w))
  many_written _ n sc r w = w

  -- all values go last into the list on top
  pub list_written : Exps → Scope → ℕ → Writer → Writer
  list_written NoExp sc d w = w
  list_written (MoreExps e NoExp) sc d w =
      if is_many e then all_written e sc d w
      else let v = exp_written e sc d (Anywhere Nothing) w in on_slot (shown e sc.names d (Anywhere Nothing)) v (λ x. put (op.Push x) v)
  list_written (MoreExps e (MoreExps g es)) sc d w =
      let v = exp_written e sc d (Anywhere Nothing) w in
      list_written (MoreExps g es) sc d (on_slot (shown e sc.names d (Anywhere Nothing)) v (λ x. put (op.Push x) v))

  pub all_written : Exp → Scope → ℕ → Writer → Writer
  all_written source.Dots sc d w = put op.Append (put op.Dots w)
  all_written (source.Suffixed e ss) sc d w =
      put op.Append (where_none ss want.AsList d (suffixes_written ss sc d want.AsList (exp_written e sc d (Into d) w)))
  all_written _ sc d w = w

  pub tail_written : Exps → Scope → ℕ → Writer → Writer
  tail_written (MoreExps (source.Suffixed e ss) NoExp) sc d w =
      where_none ss want.AsResult d (suffixes_written ss sc d want.AsResult (exp_written e sc d (Into d) w))
  tail_written _ sc d w = w

  pub only_written : Exps → Scope → ℕ → Aim → Writer → Writer
  only_written (MoreExps e NoExp) sc d aim w = exp_written e sc d aim w
  only_written _ sc d aim w = w

  -- the function up to its end, in a scope with these names outside
  pub body_written : Body → List Known → Writer → Writer
  body_written (body xs dots p) names w =
      let outer : Scope = record { names = seen_inside 0 names; free = 0; cells = 0 } in
      let v = begun (record { params = length xs; pay = suc (prepay p); has_dots = dots; slots = length xs; cells = 0 }) names w in
      put (op.Return 0 0) (block_written p (all_known xs outer v.flags v.locals) (prepay p) None (declare_all xs outer v))

  -- k ticks are paid in advance, and a `break` jumps to the label `exit`
  pub block_written : Block → Scope → ℕ → Option ℕ → Writer → Writer
  block_written (Plain ts) sc k exit w = stats_written ts sc k exit w
  block_written (Returns ts es) sc k exit w =
      let v = stats_written ts sc k exit w in
      let inner = stats_known ts sc k exit w in
      if is_tail es then tail_written es inner inner.free v
      else if is_only es
      then on_slot (only_shown es inner.names inner.free (Anywhere Nothing)) (only_written es inner inner.free (Anywhere Nothing) v)
      (λ x. put (op.Return x 1) (only_written es inner inner.free (Anywhere Nothing) v))
      else if slots_fit es then put (op.Return inner.free (count es)) (fixed_written es inner inner.free v)
      else put op.ReturnList (list_written es inner inner.free (put op.Begin v))

  -- the scope at the block's end
  pub block_known : Block → Scope → ℕ → Option ℕ → Writer → Scope
  block_known (Plain ts) sc k exit w = stats_known ts sc k exit w
  block_known (Returns ts es) sc k exit w = stats_known ts sc k exit w

  pub stats_written : Stats → Scope → ℕ → Option ℕ → Writer → Writer
  stats_written NoStat sc k exit w = lost_if (differ k 0) w
  stats_written (MoreStats t ts) sc k exit w = stats_written ts (stat_known t sc k exit w) 0 exit (stat_written t sc k exit w)

  pub stats_known : Stats → Scope → ℕ → Option ℕ → Writer → Scope
  stats_known NoStat sc k exit w = sc
  stats_known (MoreStats t ts) sc k exit w = stats_known ts (stat_known t sc k exit w) 0 exit (stat_written t sc k exit w)

  pub stat_known : Stat → Scope → ℕ → Option ℕ → Writer → Scope
  stat_known (source.Local xs es) sc k exit w =
      let v = values_written es (length xs) sc sc.free (ticked k w) in all_known xs sc v.flags v.locals
  stat_known (source.LocalFunction x p) sc k exit w = let v = ticked k w in function_known x sc (flag v.flags v.locals)
  stat_known _ sc k exit w = sc

  pub stat_written : Stat → Scope → ℕ → Option ℕ → Writer → Writer
  stat_written (source.Assign ts es) sc k exit w =
      with_targets (variables ts) w (λ xs.
      if targets_fit xs
      then directly (only_slot xs sc.names) (only_direct es)
      (stores_written (from_slots xs sc.free []) sc.free sc.names (values_written es (length xs) sc sc.free (ticked k w)))
      (λ s. only_written es sc sc.free (Into s) (ticked k w))
      else put (op.Spread sc.free 0) (stores_written (from_items xs 0 []) sc.free sc.names (list_written es sc sc.free (put op.Begin (ticked k w)))))
  stat_written (source.Invoke e) sc k exit w =
      if is_many e then many_written e 0 sc sc.free (ticked k w) else exp_written e sc sc.free (Anywhere Nothing) (ticked k w)
  stat_written source.Break sc k exit w = jumped exit (ticked k w)
  stat_written (source.Do p) sc k exit w = block_written p sc (paid_before k (prepay p)) exit (ticked_more k (prepay p) w)
  -- the labels, those that stand last first: what follows, the condition, and the body
  stat_written (source.While e p) sc k exit w =
      let v = ticked k w in
      let l = label_of v in
      let u = placed_here (l + 2) (put (op.Jump (l + 1)) (labelled (labelled (labelled v)))) in
      let t = placed_here (l + 1) (block_written p sc (prepay p) (Some l) u) in
      placed_here l (put (op.Loop (suc (prepay p)) (l + 2)) (exp_written e sc sc.free (Unless l 0) t))
  -- what follows, the next turn, and the body
  stat_written (source.Repeat p e) sc k exit w =
      let v = ticked_twice k (prepay p) w in
      let l = label_of v in
      let u = placed_here (l + 2) (labelled (labelled (labelled v))) in
      let inner = block_known p sc (prepay p) (Some l) u in
      let t = exp_written e inner inner.free (Unless (l + 1) 0) (block_written p sc (prepay p) (Some l) u) in
      placed_here l (put (op.Loop (suc (prepay p)) (l + 2)) (placed_here (l + 1) (put (op.Jump l) t)))
  -- what follows, and what is tried next
  stat_written (source.If e p others) sc k exit w =
      let v = ticked k w in
      let l = label_of v in
      let u = block_written p sc (prepay p) exit (exp_written e sc sc.free (Unless (l + 1) (prepay p)) (labelled (labelled v))) in
      placed_here l (else_written others sc exit l (placed_here (l + 1) (where_else others l u)))
  stat_written (source.Numeric x first limit p line) sc k exit w =
      let v = exp_written first sc sc.free (Into sc.free) (ticked k w) in
      let u = exp_written limit sc (sc.free + 1) (Into (sc.free + 1)) v in
      numeric_written x sc line (prepay p) (λ inner out t. block_written p inner (prepay p) out t) (int_written (sc.free + 2) (pos 1) u)
  stat_written (source.NumericBy x first limit step p line) sc k exit w =
      let v = exp_written first sc sc.free (Into sc.free) (ticked k w) in
      let u = exp_written limit sc (sc.free + 1) (Into (sc.free + 1)) v in
      numeric_written x sc line (prepay p) (λ inner out t. block_written p inner (prepay p) out t) (exp_written step sc (sc.free + 2) (Into (sc.free + 2)) u)
  stat_written (source.Generic xs es p line) sc k exit w =
      generic_written xs sc line (prepay p) (λ inner out t. block_written p inner (prepay p) out t) (values_written es 3 sc sc.free (ticked k w))
  stat_written (source.Local xs es) sc k exit w = declare_all xs sc (values_written es (length xs) sc sc.free (ticked k w))
  stat_written (source.LocalFunction x p) sc k exit w =
      let v = ticked k w in
      let shared = flag v.flags v.locals in
      let inner = body_written p (function_known x sc shared).names (counted v) in
      put (close_op sc shared (length inner.made)) (resumed inner (counted v))

  pub else_written : Branches → Scope → Option ℕ → ℕ → Writer → Writer
  else_written NoElse sc exit end w = w
  else_written (Else p) sc exit end w = block_written p sc 0 exit w
  else_written (Elseif e p others) sc exit end w =
      let l = label_of w in
      let u = block_written p sc (prepay p) exit (exp_written e sc sc.free (Unless l (prepay p)) (labelled w)) in
      else_written others sc exit end (placed_here l (where_else others end u))

-- the function in which a thread begins
abbrev pub start_routine : Routine
start_routine =
    record {
      ops = start_ops;
      lines = 0 ∷ 0 ∷ 0 ∷ [];
      constants = [];
      captures = [];
      shape = record { params = 0; pay = 1; has_dots = false; slots = 0; cells = 0 };
    }

abbrev pub empty_routine : Routine
empty_routine =
    record {
      ops = [];
      lines = [];
      constants = [];
      captures = [];
      shape = record { params = 0; pay = 1; has_dots = false; slots = 0; cells = 0 };
    }

-- before a chunk, whose locals with these flags go to cells
abbrev pub opening : List Bool → Writer
opening flags = record { draft = empty_routine; at = 0; labels = []; made = start_routine ∷ []; locals = 0; flags = flags; lost = false }

-- the chunk as a function without parameters and with `...`
abbrev pub chunk_written : List Bool → Block → Writer
chunk_written flags b = resumed (body_written (body [] true b) [] (opening flags)) (opening flags)
