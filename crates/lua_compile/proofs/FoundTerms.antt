-- Terms that make and read no table and name locals alone have code, where each local goes to a cell.
use Rattle.std.proofs.Common.{◌≡◌, ℕ, suc, ◌+◌, ◌≤◌, refl, sym, subst, List, [], ◌∷◌, length, Option, Some, None, Bool, true, false, inl}
use Rattle.std.specs.Prelude.{◌-◌, ◌&&◌, not, ltb, if◌then◌else◌, pos}
use Rattle.lua_tree.specs.Source as source
use Rattle.lua_tree.specs.Source.{Text, Block, Plain, Returns, Stats, NoStat, MoreStats, Stat, Branches, NoElse, Else, Elseif, Exps, NoExp, MoreExps, Exp, Operands, NoOperand, MoreOperands, Suffixes, NoSuffix, MoreSuffixes, Body, body}
use Rattle.lua_model.specs.declared.operator.Binary.{Binary}
use Rattle.lua_meaning.specs.Values.{link_of, unary_of}
use Rattle.lua_meaning.specs.Statements.{variables}
use Rattle.lua_code.specs.declared.op.Op.TheVariants as op
use Rattle.lua_steps.specs.declared.scope.Known.{Known}
use Rattle.lua_steps.specs.Scope.{Scope, place_of}
use Rattle.lua_steps.specs.Stand.{from_slots, from_items}
use Rattle.lua_steps.specs.Serves.{following}
use Rattle.lua_compile.specs.declared.aim.Aim.{Aim}
use Rattle.lua_compile.specs.declared.aim.Aim.TheVariants.{Into, Anywhere, Unless}
use Rattle.lua_compile.specs.declared.aim.Room.{Room}
use Rattle.lua_compile.specs.declared.aim.Room.TheVariants.{Nothing, Byte}
use Rattle.lua_compile.specs.declared.aim.Operand.{Operand}
use Rattle.lua_compile.specs.declared.aim.Operand.TheVariants.{Slot}
use Rattle.lua_compile.specs.declared.aim.Want.{Want}
use Rattle.lua_compile.specs.declared.aim.Want.TheVariants as want
use Rattle.lua_compile.specs.HasCode.{with_names, names_after, names_at_end, names_inside, ExpHasCode, OperandsHaveCode, SuffixesHaveCode, ExpsHaveCode, BodyHasCode, BlockHasCode, StatsHaveCode, StatHasCode, BranchesHaveCode, HasCode}
use Rattle.lua_compile.specs.Writer.{Writer, put, labelled, label_of, placed_here, lost_if, counted, flag, all_known, declare_all, seen_inside, begun}
use Rattle.lua_compile.specs.Forms.{register, is_unless, differ, int_written, nils_written, shown, on_slot, is_slot, is_comparison, is_short, binary_written, tests, room_for, test_written, unary_slot, so_far, last_settled, base_aim, and_aim, is_strict, all_and, no_more, is_many, count, slots_fit, targets_fit, is_only, is_tail, only_shown, suffix_want, called, called_list, where_none, prepay, ticked, ticked_more, paid_before, ticked_twice, only_direct, only_slot, directly, where_else, function_known, stores_written}
use Rattle.lua_compile.specs.Written.{exp_written, ands_written, operands_written, suffixes_written, fixed_written, values_written, many_written, list_written, all_written, tail_written, only_written, body_written, block_written, block_known, stats_written, stats_known, stat_written, stat_known, else_written, opening, chunk_written}
use Rattle.lua_compile.proofs.Final.{and_left, and_right}
use Rattle.lua_compile.proofs.FoundForms.{Sound, no_difference, s_lost_if, s_if, s_test, Sees, place_found, sees_inside, all_seen, function_seen, s_declare_all, s_settled, s_int, s_aimed, s_true, s_name, s_stores, slots_seen, items_seen, targets_seen, s_targets, s_directly, s_nils, InASlot, in_a_slot, only_in_a_slot, s_on, AimFits, unless_fits, and_unless, paren_fits, call_fits, ChainFits, chain_fits, chain_rest, chain_free, link_fits, BeginsBy, base_begins, slot_begins, is_there, s_link, so_far_ends, free_ends, s_last, s_binary, s_test_written, s_unary, s_called, s_called_list, s_none, PaidFor, PaidIn, prepaid, unpaid, unpaid_for, still_paid, s_ticked, s_ticked_more, s_ticked_twice, MayLeave, s_jumped, s_where_else, OnlyFits, direct_fits, anywhere_fits, s_numeric, s_generic}

-- the value so far is where the next operator of the chain takes it
abbrev pub StartsAt : Operands → Operand → ℕ → Type 0
StartsAt NoOperand p d = Unit {0}
StartsAt (MoreOperands o line e os) p d = BeginsBy (link_of o) p d

base_starts : (os : Operands) (e : Exp) (aim : Aim) (ks : List Known) (d : ℕ) → StartsAt os (shown e ks d (base_aim os aim d)) d
base_starts NoOperand e aim ks d = tt
base_starts (MoreOperands o line f os) e aim ks d = base_begins (link_of o) e ks d

base_fits : (os : Operands) (e : Exp) (aim : Aim) (d : ℕ) → AimFits e (base_aim os aim d) d
base_fits NoOperand e aim d = inl refl
base_fits (MoreOperands o line f os) e aim d = link_fits (link_of o) e d

slot_starts : (os : Operands) (d : ℕ) → StartsAt os (Slot d) d
slot_starts NoOperand d = tt
slot_starts (MoreOperands o line e os) d = slot_begins (link_of o) d

so_far_starts : (os : Operands) (aim : Aim) (d : ℕ) → StartsAt os (Slot (so_far os aim d)) d
so_far_starts NoOperand aim d = tt
so_far_starts (MoreOperands o line e os) aim d = slot_begins (link_of o) d

-- an operator of two values: a comparison that jumps by itself, or any other
s_strict : (t : Bool) (u : Binary) (e : Exp) (ks : List Known) (os : Operands) (aim : Aim) (p : Operand) (d line : ℕ) (made : Room → Writer) → tests u os aim p d ≡ t → InASlot p
    → ((room : Room) → Sound (made room))
    → Sound (if t then test_written u p (shown e ks (d + 1) (Anywhere (room_for t p (so_far os aim d)))) aim line (made (room_for t p (so_far os aim d)))
    else last_settled os aim d (so_far os aim d) (binary_written u (so_far os aim d) p (shown e ks (d + 1) (Anywhere (room_for t p (so_far os aim d)))) line (made (room_for t p (so_far os aim d)))))
s_strict true u e ks os aim p d line made h s f =
    let short = is_comparison u && no_more os && is_unless aim && is_short p in
    let jumps = and_left (is_comparison u && no_more os && is_unless aim) (is_short p) (and_left short (ltb d 255) h) in
    let q = and_right (is_comparison u && no_more os) (is_unless aim) jumps in
    let c = and_left (is_comparison u) (no_more os) (and_left (is_comparison u && no_more os) (is_unless aim) jumps) in
    s_test_written u p (shown e ks (d + 1) (Anywhere Byte)) aim line (made Byte) c q s (f Byte)
s_strict false u e ks os aim p d line made h s f =
    let r = so_far os aim d in
    let room = room_for false p r in
    let q = shown e ks (d + 1) (Anywhere room) in
    s_last os aim d r (binary_written u r p q line (made room)) (so_far_ends os aim d) (s_binary u r p q line (made room) s (f room))

s_body : (xs : List Text) (dots : Bool) (p : Block) (ks : List Known) (ns : List Text) (w : Writer) → Sees ks ns → Sound w
    → ((sc : Scope) (v : Writer) → Sees sc.names (with_names xs ns) → Sound v → Sound (block_written p sc (prepay p) None v)) → Sound (body_written (body xs dots p) ks w)
s_body xs dots p ks ns w s g f =
    let outer : Scope = record { names = seen_inside 0 ks; free = 0; cells = 0 } in
    let v = begun (record { params = length xs; pay = suc (prepay p); has_dots = dots; slots = length xs; cells = 0 }) ks w in
    f (all_known xs outer v.flags v.locals) (declare_all xs outer v) (all_seen xs ns outer v.flags v.locals g.1 (sees_inside ks ns 0 s)) (s_declare_all xs outer v g)

mutual
  pub exp_found : (e : Exp) (ns : List Text) → ExpHasCode e ns → (sc : Scope) → Sees sc.names ns → (d : ℕ) (aim : Aim) (w : Writer) → AimFits e aim d → Sound w → Sound (exp_written e sc d aim w)
  exp_found source.Nil ns h sc s d aim w a g = s_settled aim (register aim d) _ g
  exp_found source.False ns h sc s d aim w a g = s_settled aim (register aim d) _ g
  exp_found source.True ns h sc s d aim w a g = s_true d aim w g
  exp_found (source.Int n) ns h sc s d aim w a g = s_aimed n d aim w g
  exp_found (source.Str bytes) ns h sc s d aim w a g = s_settled aim (register aim d) _ g
  exp_found source.Dots ns h sc s d aim w a g = s_settled aim (register aim d) _ g
  exp_found (source.Function p) ns h sc s d aim w a g =
      let i = body_found p ns h sc.names s w g in s_settled aim (register aim d) _ (i.0, g.1)
  exp_found (source.Name x) ns h sc s d aim w a g = s_name (place_of sc.names x) d aim w (place_found sc.names ns x s h) g
  exp_found (source.Paren e) ns h sc s d aim w a g = exp_found e ns h sc s d aim w (paren_fits e aim d a) g
  exp_found (source.Table fs) ns h sc s d aim w a g = absurd h
  exp_found (source.Suffixed e ss) ns h sc s d aim w a g =
      let v = suffixes_written ss sc d (want.Count 1) (exp_written e sc d (Into d) w) in
      s_settled aim d _ (s_lost_if (differ (register aim d) d) (where_none ss (want.Count 1) d v) (no_difference (register aim d) d (call_fits e ss aim d a))
      (s_none ss (want.Count 1) d v (suffixes_found ss ns h.1 sc s d (want.Count 1) _ (exp_found e ns h.0 sc s d (Into d) w (inl refl) g))))
  exp_found (source.Unary o line e) ns h sc s d aim w a g =
      let v = exp_written e sc d (Anywhere Nothing) w in
      s_on (shown e sc.names d (Anywhere Nothing)) v (λ x. unary_slot (unary_of o) x d aim line v) (in_a_slot e sc.names d)
      (λ x. s_unary (unary_of o) x d aim line v (exp_found e ns h sc s d (Anywhere Nothing) w tt g))
  exp_found (source.Chain e os) ns h sc s d aim w a g =
      let ands = ands_written os sc d aim (exp_written e sc d (and_aim os aim) w) in
      let p = shown e sc.names d (base_aim os aim d) in
      let all = operands_written os sc d aim p (exp_written e sc d (base_aim os aim d) w) in
      s_test (no_more os) (lost_if true w) (if is_unless aim && all_and os then ands else all) (λ t. absurd (cc)) (λ f.
      s_test (is_unless aim && all_and os) ands all
      (λ t. let un = and_left (is_unless aim) (all_and os) t in
      let first = and_aim os aim in
      ands_found os ns h.2 sc s d aim un (exp_written e sc d first w) (exp_found e ns h.1 sc s d first w (unless_fits e first d (and_unless os aim un)) g))
      (λ t. operands_found os ns h.2 sc s d aim p _ (chain_fits e os aim d a) (base_starts os e aim sc.names d)
      (exp_found e ns h.1 sc s d (base_aim os aim d) w (base_fits os e aim d) g)))

  pub ands_found : (os : Operands) (ns : List Text) → OperandsHaveCode os ns → (sc : Scope) → Sees sc.names ns → (d : ℕ) (aim : Aim) → is_unless aim ≡ true → (w : Writer) → Sound w → Sound (ands_written os sc d aim w)
  ands_found NoOperand ns h sc s d aim un w g = g
  ands_found (MoreOperands o line e os) ns h sc s d aim un w g =
      let a = and_aim os aim in
      ands_found os ns h.1 sc s d aim un (exp_written e sc d a w) (exp_found e ns h.0 sc s d a w (unless_fits e a d (and_unless os aim un)) g)

  pub operands_found : (os : Operands) (ns : List Text) → OperandsHaveCode os ns → (sc : Scope) → Sees sc.names ns → (d : ℕ) (aim : Aim) (p : Operand) (w : Writer) → ChainFits os aim d → StartsAt os p d → Sound w
      → Sound (operands_written os sc d aim p w)
  operands_found NoOperand ns h sc s d aim p w c b g = g
  operands_found (MoreOperands o line e os) ns h sc s d aim p w c b g =
      let rest = chain_rest o line e os aim d c in
      let ends = λ (f : is_strict (link_of o) ≡ false). free_ends os aim d (chain_free o line e os aim d c f) in
      let lost = lost_if (not (is_slot p d)) w in
      let n = label_of w in
      let first = put (op.Test d n) (labelled lost) in
      let last = put (op.TestNot d n) (labelled lost) in
      let one = λ (x : Writer). last_settled os aim d d (placed_here n (exp_written e sc d (Into d) x)) in
      let r = so_far os aim d in
      let made = λ (room : Room). exp_written e sc (d + 1) (Anywhere room) w in
      let strict = λ (u : Binary). (
      let t = tests u os aim p d in
      let room = room_for t p r in
      let q = shown e sc.names (d + 1) (Anywhere room) in
      if t then test_written u p q aim line (made room) else last_settled os aim d r (binary_written u r p q line (made room))) in
      let decided = λ (x : Writer) (k : Sound x) (f : is_strict (link_of o) ≡ false).
      operands_found os ns h.1 sc s d aim (Slot d) (one x) rest (slot_starts os d) (s_last os aim d d (placed_here n (exp_written e sc d (Into d) x)) (ends f) (exp_found e ns h.0 sc s d (Into d) x (inl refl) k)) in
      s_link (link_of o) (operands_written os sc d aim (Slot d) (one first)) (operands_written os sc d aim (Slot d) (one last)) (λ u. operands_written os sc d aim (Slot r) (strict u))
      (λ i. decided first (s_lost_if (not (is_slot p d)) w (is_there p d (subst (λ lk. BeginsBy lk p d) i b)) g) (subst (λ lk. is_strict lk ≡ false) (sym i) refl))
      (λ i. decided last (s_lost_if (not (is_slot p d)) w (is_there p d (subst (λ lk. BeginsBy lk p d) i b)) g) (subst (λ lk. is_strict lk ≡ false) (sym i) refl))
      (λ u i. operands_found os ns h.1 sc s d aim (Slot r) (strict u) rest (so_far_starts os aim d)
      (s_strict (tests u os aim p d) u e sc.names os aim p d line made refl (subst (λ lk. BeginsBy lk p d) i b) (λ room. exp_found e ns h.0 sc s (d + 1) (Anywhere room) w tt g)))

  pub suffixes_found : (ss : Suffixes) (ns : List Text) → SuffixesHaveCode ss ns → (sc : Scope) → Sees sc.names ns → (d : ℕ) (a : Want) (w : Writer) → Sound w → Sound (suffixes_written ss sc d a w)
  suffixes_found NoSuffix ns h sc s d a w g = g
  suffixes_found (MoreSuffixes (source.Call es line) ss) ns h sc s d a w g =
      let k = suffix_want ss a in
      let regs = fixed_written es sc (d + 1) w in
      let begun = put (op.Push d) (put op.Begin w) in
      let list = list_written es sc d begun in
      suffixes_found ss ns h.1 sc s d a (if slots_fit es then called k d (count es) line regs else called_list k d line list)
      (s_if (slots_fit es) (called k d (count es) line regs) (called_list k d line list)
      (s_called k d (count es) line regs (fixed_found es ns h.0 sc s (d + 1) w g)) (s_called_list k d line list (list_found es ns h.0 sc s d begun g)))
  suffixes_found (MoreSuffixes (source.Index e line) ss) ns h sc s d a w g = absurd h
  suffixes_found (MoreSuffixes (source.Method x at es line) ss) ns h sc s d a w g = absurd h

  pub fixed_found : (es : Exps) (ns : List Text) → ExpsHaveCode es ns → (sc : Scope) → Sees sc.names ns → (r : ℕ) (w : Writer) → Sound w → Sound (fixed_written es sc r w)
  fixed_found NoExp ns h sc s r w g = g
  fixed_found (MoreExps e es) ns h sc s r w g = fixed_found es ns h.1 sc s (r + 1) _ (exp_found e ns h.0 sc s r (Into r) w (inl refl) g)

  pub values_found : (es : Exps) (n : ℕ) (ns : List Text) → ExpsHaveCode es ns → (sc : Scope) → Sees sc.names ns → (r : ℕ) (w : Writer) → Sound w → Sound (values_written es n sc r w)
  values_found NoExp n ns h sc s r w g = s_nils r n w g
  values_found (MoreExps e NoExp) n ns h sc s r w g =
      let v = exp_written e sc r (Into r) w in
      s_if (is_many e) (many_written e n sc r w) (nils_written (r + 1) (n - 1) v) (many_found e n ns h.0 sc s r w g)
      (s_nils (r + 1) (n - 1) v (exp_found e ns h.0 sc s r (Into r) w (inl refl) g))
  values_found (MoreExps e (MoreExps f es)) n ns h sc s r w g =
      values_found (MoreExps f es) (n - 1) ns h.1 sc s (following n r) _ (exp_found e ns h.0 sc s r (Into r) w (inl refl) g)

  pub many_found : (e : Exp) (n : ℕ) (ns : List Text) → ExpHasCode e ns → (sc : Scope) → Sees sc.names ns → (r : ℕ) (w : Writer) → Sound w → Sound (many_written e n sc r w)
  many_found source.Dots n ns h sc s r w g = g
  many_found (source.Suffixed e ss) n ns h sc s r w g =
      s_none ss (want.Count n) r _ (suffixes_found ss ns h.1 sc s r (want.Count n) _ (exp_found e ns h.0 sc s r (Into r) w (inl refl) g))
  many_found e n ns h sc s r w g = g

  pub list_found : (es : Exps) (ns : List Text) → ExpsHaveCode es ns → (sc : Scope) → Sees sc.names ns → (d : ℕ) (w : Writer) → Sound w → Sound (list_written es sc d w)
  list_found NoExp ns h sc s d w g = g
  list_found (MoreExps e NoExp) ns h sc s d w g =
      let v = exp_written e sc d (Anywhere Nothing) w in
      let p = shown e sc.names d (Anywhere Nothing) in
      s_if (is_many e) (all_written e sc d w) (on_slot p v (λ x. put (op.Push x) v)) (all_found e ns h.0 sc s d w g)
      (s_on p v (λ x. put (op.Push x) v) (in_a_slot e sc.names d) (λ x. exp_found e ns h.0 sc s d (Anywhere Nothing) w tt g))
  list_found (MoreExps e (MoreExps f es)) ns h sc s d w g =
      let v = exp_written e sc d (Anywhere Nothing) w in
      let p = shown e sc.names d (Anywhere Nothing) in
      list_found (MoreExps f es) ns h.1 sc s d _ (s_on p v (λ x. put (op.Push x) v) (in_a_slot e sc.names d) (λ x. exp_found e ns h.0 sc s d (Anywhere Nothing) w tt g))

  pub all_found : (e : Exp) (ns : List Text) → ExpHasCode e ns → (sc : Scope) → Sees sc.names ns → (d : ℕ) (w : Writer) → Sound w → Sound (all_written e sc d w)
  all_found source.Dots ns h sc s d w g = g
  all_found (source.Suffixed e ss) ns h sc s d w g =
      s_none ss want.AsList d _ (suffixes_found ss ns h.1 sc s d want.AsList _ (exp_found e ns h.0 sc s d (Into d) w (inl refl) g))
  all_found e ns h sc s d w g = g

  pub tail_found : (es : Exps) (ns : List Text) → ExpsHaveCode es ns → (sc : Scope) → Sees sc.names ns → (d : ℕ) (w : Writer) → Sound w → Sound (tail_written es sc d w)
  tail_found (MoreExps (source.Suffixed e ss) NoExp) ns h sc s d w g =
      s_none ss want.AsResult d _ (suffixes_found ss ns h.0.1 sc s d want.AsResult _ (exp_found e ns h.0.0 sc s d (Into d) w (inl refl) g))
  tail_found es ns h sc s d w g = g

  pub only_found : (es : Exps) (ns : List Text) → ExpsHaveCode es ns → (sc : Scope) → Sees sc.names ns → (d : ℕ) (aim : Aim) (w : Writer) → OnlyFits es aim d → Sound w → Sound (only_written es sc d aim w)
  only_found NoExp ns h sc s d aim w a g = g
  only_found (MoreExps e NoExp) ns h sc s d aim w a g = exp_found e ns h.0 sc s d aim w a g
  only_found (MoreExps e (MoreExps f es)) ns h sc s d aim w a g = g

  pub body_found : (p : Body) (ns : List Text) → BodyHasCode p ns → (ks : List Known) → Sees ks ns → (w : Writer) → Sound w → Sound (body_written p ks w)
  body_found (body xs dots p) ns h ks s w g =
      s_body xs dots p ks ns w s g (λ sc v see sound. (block_found p (with_names xs ns) false h sc see (prepay p) None v (prepaid p) tt sound).0)

  pub block_found : (p : Block) (ns : List Text) (loop : Bool) → BlockHasCode p ns loop → (sc : Scope) → Sees sc.names ns → (k : ℕ) (exit : Option ℕ) (w : Writer) → PaidIn p k → MayLeave loop exit → Sound w
      → Sound (block_written p sc k exit w) × Sees (block_known p sc k exit w).names (names_inside p ns)
  block_found (Plain ts) ns loop h sc s k exit w t x g = stats_found ts ns loop h sc s k exit w t x g
  block_found (Returns ts es) ns loop h sc s k exit w t x g =
      let i = stats_found ts ns loop h.0 sc s k exit w t x g in
      let ms = names_at_end ts ns in
      let v = stats_written ts sc k exit w in
      let inner = stats_known ts sc k exit w in
      let d = inner.free in
      let one = only_written es inner d (Anywhere Nothing) v in
      let p = only_shown es inner.names d (Anywhere Nothing) in
      let shown = on_slot p one (λ z. put (op.Return z 1) one) in
      let regs = put (op.Return d (count es)) (fixed_written es inner d v) in
      let list = put op.ReturnList (list_written es inner d (put op.Begin v)) in (
        s_if (is_tail es) (tail_written es inner d v) (if is_only es then shown else if slots_fit es then regs else list) (tail_found es ms h.1 inner i.1 d v i.0)
            (s_if (is_only es) shown (if slots_fit es then regs else list)
            (s_on p one (λ z. put (op.Return z 1) one) (only_in_a_slot es inner.names d) (λ z. only_found es ms h.1 inner i.1 d (Anywhere Nothing) v (anywhere_fits es d) i.0))
            (s_if (slots_fit es) regs list (fixed_found es ms h.1 inner i.1 d v i.0) (list_found es ms h.1 inner i.1 d (put op.Begin v) i.0))),
        i.1,
      )

  pub stats_found : (ts : Stats) (ns : List Text) (loop : Bool) → StatsHaveCode ts ns loop → (sc : Scope) → Sees sc.names ns → (k : ℕ) (exit : Option ℕ) (w : Writer) → PaidFor ts k → MayLeave loop exit → Sound w
      → Sound (stats_written ts sc k exit w) × Sees (stats_known ts sc k exit w).names (names_at_end ts ns)
  stats_found NoStat ns loop h sc s k exit w t x g = (s_lost_if (differ k 0) w (no_difference k 0 t) g, s)
  stats_found (MoreStats q ts) ns loop h sc s k exit w t x g =
      let i = stat_found q ns loop h.0 sc s k exit w t x g in
      stats_found ts (names_after q ns) loop h.1 (stat_known q sc k exit w) i.1 0 exit (stat_written q sc k exit w) (unpaid_for ts) x i.0

  pub stat_found : (q : Stat) (ns : List Text) (loop : Bool) → StatHasCode q ns loop → (sc : Scope) → Sees sc.names ns → (k : ℕ) (exit : Option ℕ) (w : Writer) → k ≤ 1 → MayLeave loop exit → Sound w
      → Sound (stat_written q sc k exit w) × Sees (stat_known q sc k exit w).names (names_after q ns)
  stat_found (source.Assign ts es) ns loop h sc s k exit w t x g =
      let d = sc.free in
      let v = ticked k w in
      let gv = s_ticked k w t g in
      let vals = λ (xs : List Text). values_written es (length xs) sc d v in
      let regs = λ (xs : List Text). stores_written (from_slots xs d []) d sc.names (vals xs) in
      let one = λ (i : ℕ). only_written es sc d (Into i) v in
      let slots = λ (xs : List Text). directly (only_slot xs sc.names) (only_direct es) (regs xs) one in
      let list = list_written es sc d (put op.Begin v) in
      let items = λ (xs : List Text). put (op.Spread d 0) (stores_written (from_items xs 0 []) d sc.names list) in (
        s_targets (variables ts) w (λ xs. if targets_fit xs then slots xs else items xs) ns (targets_seen ts ns h.0) (λ xs all.
            s_if (targets_fit xs) (slots xs) (items xs)
            (s_directly (only_slot xs sc.names) (only_direct es) (regs xs) one
            (s_stores (from_slots xs d []) d sc.names ns (vals xs) s (slots_seen xs d [] ns all tt) (values_found es (length xs) ns h.1 sc s d v gv))
            (λ i direct. only_found es ns h.1 sc s d (Into i) v (direct_fits es i d direct) gv))
            (s_stores (from_items xs 0 []) d sc.names ns list s (items_seen xs 0 [] ns all tt) (list_found es ns h.1 sc s d (put op.Begin v) gv))),
        s,
      )
  stat_found (source.Invoke e) ns loop h sc s k exit w t x g =
      let d = sc.free in
      let v = ticked k w in
      let gv = s_ticked k w t g in
      (s_if (is_many e) (many_written e 0 sc d v) (exp_written e sc d (Anywhere Nothing) v) (many_found e 0 ns h sc s d v gv) (exp_found e ns h sc s d (Anywhere Nothing) v tt gv), s)
  stat_found source.Break ns loop h sc s k exit w t x g = (s_jumped loop exit (ticked k w) h x (s_ticked k w t g), s)
  stat_found (source.Do p) ns loop h sc s k exit w t x g =
      let m = prepay p in
      ((block_found p ns loop h sc s (paid_before k m) exit (ticked_more k m w) (still_paid k p t) x (s_ticked_more k m w g)).0, s)
  stat_found (source.While e p) ns loop h sc s k exit w t x g =
      let v = ticked k w in
      let l = label_of v in
      let u = placed_here (l + 2) (put (op.Jump (l + 1)) (labelled (labelled (labelled v)))) in
      let b = block_found p ns true h.1 sc s (prepay p) (Some l) u (prepaid p) tt (s_ticked k w t g) in
      (exp_found e ns h.0 sc s sc.free (Unless l 0) (placed_here (l + 1) (block_written p sc (prepay p) (Some l) u)) tt b.0, s)
  stat_found (source.Repeat p e) ns loop h sc s k exit w t x g =
      let v = ticked_twice k (prepay p) w in
      let l = label_of v in
      let u = placed_here (l + 2) (labelled (labelled (labelled v))) in
      let b = block_found p ns true h.0 sc s (prepay p) (Some l) u (prepaid p) tt (s_ticked_twice k (prepay p) w t g) in
      let inner = block_known p sc (prepay p) (Some l) u in
      (exp_found e (names_inside p ns) h.1 inner b.1 inner.free (Unless (l + 1) 0) (block_written p sc (prepay p) (Some l) u) tt b.0, s)
  stat_found (source.If e p others) ns loop h sc s k exit w t x g =
      let v = ticked k w in
      let l = label_of v in
      let c = exp_written e sc sc.free (Unless (l + 1) (prepay p)) (labelled (labelled v)) in
      let gc = exp_found e ns h.0 sc s sc.free (Unless (l + 1) (prepay p)) (labelled (labelled v)) tt (s_ticked k w t g) in
      let u = block_written p sc (prepay p) exit c in
      let gu = (block_found p ns loop h.1 sc s (prepay p) exit c (prepaid p) x gc).0 in
      (else_found others ns loop h.2 sc s exit l (placed_here (l + 1) (where_else others l u)) x (s_where_else others l u gu), s)
  stat_found (source.Numeric y first limit p line) ns loop h sc s k exit w t x g =
      let v = exp_written first sc sc.free (Into sc.free) (ticked k w) in
      let gv = exp_found first ns h.0 sc s sc.free (Into sc.free) (ticked k w) (inl refl) (s_ticked k w t g) in
      let u = exp_written limit sc (sc.free + 1) (Into (sc.free + 1)) v in
      let gu = exp_found limit ns h.1 sc s (sc.free + 1) (Into (sc.free + 1)) v (inl refl) gv in (
        s_numeric y sc line (prepay p) (λ inner out z. block_written p inner (prepay p) out z) (int_written (sc.free + 2) (pos 1) u) ns s
            (λ inner l z see sound. (block_found p (y ∷ ns) true h.2 inner see (prepay p) (Some l) z (prepaid p) tt sound).0) (s_int (sc.free + 2) (pos 1) u gu),
        s,
      )
  stat_found (source.NumericBy y first limit step p line) ns loop h sc s k exit w t x g =
      let v = exp_written first sc sc.free (Into sc.free) (ticked k w) in
      let gv = exp_found first ns h.0 sc s sc.free (Into sc.free) (ticked k w) (inl refl) (s_ticked k w t g) in
      let u = exp_written limit sc (sc.free + 1) (Into (sc.free + 1)) v in
      let gu = exp_found limit ns h.1 sc s (sc.free + 1) (Into (sc.free + 1)) v (inl refl) gv in
      let z = exp_written step sc (sc.free + 2) (Into (sc.free + 2)) u in
      let gz = exp_found step ns h.2 sc s (sc.free + 2) (Into (sc.free + 2)) u (inl refl) gu in (
        s_numeric y sc line (prepay p) (λ inner out i. block_written p inner (prepay p) out i) z ns s
            (λ inner l i see sound. (block_found p (y ∷ ns) true h.3 inner see (prepay p) (Some l) i (prepaid p) tt sound).0) gz,
        s,
      )
  stat_found (source.Generic ys es p line) ns loop h sc s k exit w t x g =
      let v = values_written es 3 sc sc.free (ticked k w) in (
        s_generic ys sc line (prepay p) (λ inner out z. block_written p inner (prepay p) out z) v ns s
            (λ inner l z see sound. (block_found p (with_names ys ns) true h.1 inner see (prepay p) (Some l) z (prepaid p) tt sound).0) (values_found es 3 ns h.0 sc s sc.free (ticked k w) (s_ticked k w t g)),
        s,
      )
  stat_found (source.Local ys es) ns loop h sc s k exit w t x g =
      let v = values_written es (length ys) sc sc.free (ticked k w) in
      let gv = values_found es (length ys) ns h sc s sc.free (ticked k w) (s_ticked k w t g) in
      (s_declare_all ys sc v gv, all_seen ys ns sc v.flags v.locals gv.1 s)
  stat_found (source.LocalFunction y p) ns loop h sc s k exit w t x g =
      let v = ticked k w in
      let gv = s_ticked k w t g in
      let see = function_seen y sc ns v.flags v.locals gv.1 s in
      let i = body_found p (y ∷ ns) h (function_known y sc (flag v.flags v.locals)).names see (counted v) gv in
      ((i.0, gv.1), see)

  pub else_found : (b : Branches) (ns : List Text) (loop : Bool) → BranchesHaveCode b ns loop → (sc : Scope) → Sees sc.names ns → (exit : Option ℕ) (end : ℕ) (w : Writer) → MayLeave loop exit → Sound w → Sound (else_written b sc exit end w)
  else_found NoElse ns loop h sc s exit end w x g = g
  else_found (Else p) ns loop h sc s exit end w x g = (block_found p ns loop h sc s 0 exit w (unpaid p) x g).0
  else_found (Elseif e p others) ns loop h sc s exit end w x g =
      let l = label_of w in
      let c = exp_written e sc sc.free (Unless l (prepay p)) (labelled w) in
      let gc = exp_found e ns h.0 sc s sc.free (Unless l (prepay p)) (labelled w) tt g in
      let u = block_written p sc (prepay p) exit c in
      let gu = (block_found p ns loop h.1 sc s (prepay p) exit c (prepaid p) x gc).0 in
      else_found others ns loop h.2 sc s exit end (placed_here l (where_else others end u)) x (s_where_else others end u gu)

pub chunk_found : (b : Block) → HasCode b → (chunk_written [] b).lost ≡ false
chunk_found b h = (body_found (body [] true b) [] h [] tt (opening []) (refl, refl)).0
