-- The code of each term serves it.
use Rattle.std.proofs.Common.{◌≡◌, ℕ, suc, ◌+◌, ◌-◌, ◌≤◌, inl, inr, refl, sym, ◌∙◌, subst, List, [], ◌∷◌, length, Option, Some, None, arith, true, false}
use Rattle.std.specs.Prelude.{slice_get, not, ◌&&◌, ◌⊎◌, if◌then◌else◌, pos}
use Rattle.lua_tree.specs.Source as source
use Rattle.lua_tree.specs.Source.{Text, Block, Plain, Returns, Stats, NoStat, MoreStats, Stat, Branches, NoElse, Else, Elseif, Exps, NoExp, MoreExps, Exp, Operands, NoOperand, MoreOperands, Suffixes, NoSuffix, MoreSuffixes, Body, body}
use Rattle.lua_meaning.specs.Values.{Link, Both, Either, Strict, link_of, unary_of}
use Rattle.lua_meaning.specs.Statements.{variables}
use Rattle.lua_code.specs.declared.function.Constant.TheVariants as constant
use Rattle.lua_code.specs.declared.op.Op.TheVariants as op
use Rattle.lua_code.specs.Routine.{Routine}
use Rattle.lua_steps.specs.declared.scope.Known.{Known}
use Rattle.lua_steps.specs.Machine.{Code}
use Rattle.lua_steps.specs.Exec.{ops_of, lines_of, constants_of}
use Rattle.lua_steps.specs.Scope.{Scope, place_of, Inside}
use Rattle.lua_steps.specs.Stand as stand
use Rattle.lua_steps.specs.Stand.{At, Leads, Ticks, Shown, Reg, Imm, Holds, Fails, OfReg, Branch, WhereInSlot, IsPut, IsInt, IsDeclares, IsWrites, from_slots, from_items, IsNumeric, IsGeneric, linked_as}
use Rattle.lua_steps.specs.Serves.{IsNoTail, following, IsExp, IsOperands, IsSuffixes, IsFixed, IsValues, IsMany, IsList, IsAll, IsOnly, IsTail, IsBody, IsBlock, IsStats, IsStat, IsElse}
use Rattle.lua_compile.specs.declared.aim.Aim.{Aim}
use Rattle.lua_compile.specs.declared.aim.Aim.TheVariants.{Into, Anywhere, Unless}
use Rattle.lua_compile.specs.declared.aim.Room.TheVariants.{Nothing, Word}
use Rattle.lua_compile.specs.declared.aim.Operand.{Operand}
use Rattle.lua_compile.specs.declared.aim.Operand.TheVariants.{Slot}
use Rattle.lua_compile.specs.declared.aim.Want.{Want}
use Rattle.lua_compile.specs.declared.aim.Want.TheVariants as want
use Rattle.lua_compile.specs.Writer.{Writer, put, labelled, label_of, placed_here, with_constant, lost_if, counted, done, flag, all_known, declare_all, seen_inside, begun, resumed, place, placed}
use Rattle.lua_compile.specs.Forms.{register, target_of, differ, int_written, has_room, stores_written, nils_written, shown, shown_of, on_slot, is_slot, binary_written, tests, room_for, test_written, unary_slot, so_far, last_settled, link_aim, and_pay, is_both, all_and, is_many, count, last_is_one, slots_fit, targets_fit, is_only, is_tail, only_shown, called, called_list, where_none, prepay, ticked, ticked_more, paid_before, ticked_twice, only_direct, only_slot, directly, jumped, where_else, function_known, close_op, numeric_written, generic_written}
use Rattle.lua_compile.specs.Written.{exp_written, ands_written, operands_written, suffixes_written, fixed_written, values_written, many_written, list_written, all_written, tail_written, only_written, body_written, block_written, block_known, stats_written, stats_known, stat_written, stat_known, else_written}
use Rattle.lua_compile.proofs.Kept.{Level, kept_self, kept_emit, kept_placed_below, get_front, get_end, length_set}
use Rattle.lua_compile.proofs.KeptForms.{K, k_put, k_labelled, k_lost, k_counted, k_resumed, k_if, k_int, k_nils, k_jumped, k_on, k_unary, k_binary, k_test, k_last, k_none, k_ticked, k_ticked_more, k_ticked_twice, k_stores, k_where_else, k_called, k_called_list, k_declare_all}
use Rattle.lua_compile.proofs.KeptTerms.{on, labelled_three, k_numeric, k_generic, exp_kept, ands_kept, operands_kept, suffixes_kept, fixed_kept, values_kept, many_kept, list_kept, only_kept, body_kept, block_kept, stats_kept, stat_kept, else_kept}
use Rattle.lua_compile.proofs.Final.{Final, part, back, at_op, at_constant, label_is, not_lost, never_lost, no_difference, and_left, and_right, Jumps, Given}
use Rattle.lua_compile.proofs.ServesForms.{unsettled, settled_free, int_stands, int_serves, put_in, name_serves}
use Rattle.lua_compile.proofs.ServesParts.{two, want_of, Follows, writes_serve, is_operand, nils_serve, unary_serves, declares_serve, tick_serves, ticks_serve, twice_serves, wanted_serves, inside_all}
use Rattle.lua_compile.proofs.ServesTicks.{block_ticked}
use Rattle.lua_compile.proofs.ServesRest.{one_of, not_true, direct_only, no_tail, by_bool, by_link, both_as, kept_slot, IsMore, branch_jumps, unpaid_jumps, map_jumps, rest_of, operated, call_serves, pushed, returned, leads_on}
use Rattle.lua_compile.proofs.ServesLoops.{three_more, two_more, one_more, get_map, Out, own, true_serves, given_base, returned_kept, below, same_place, set_long, no_else_ends, numeric_serves, generic_serves, targets_serve, only_known, by_slot, jump_serves, closed_as}

module _ (code : Code) where
  base_as : (f : ℕ) (lk : Link) (e : Exp) (os : Operands) (sc : Scope) (a d : ℕ) (aim : Aim) (R : ℕ → Shown → Type 0)
      → IsExp code f sc e a d (target_of (link_aim lk d)) (λ b p. IsOperands code f sc os b d p (target_of aim) R) → IsExp code f sc (source.Chain e os) a d (target_of aim) R
  base_as f (Strict u) e os sc a d aim R h = inl h
  base_as f Both e os sc a d aim R h = inr (inl h)
  base_as f Either e os sc a d aim R h = inr (inl h)

  mutual
    pub exp_serves : (e : Exp) (f : ℕ) (L : List ℕ) (sc : Scope) (d : ℕ) (aim : Aim) (w : Writer) (n : ℕ) (R : ℕ → Shown → Type 0) → n ≤ length w.labels → Level w
        → Final code f L n (exp_written e sc d aim w) → Given code f L aim (shown e sc.names d aim) R (exp_written e sc d aim w).at → IsExp code f sc e w.at d (target_of aim) R
    exp_serves source.Nil f L sc d aim w n R le lv fin g =
        let x = put_in code f L n d aim (op.Nil (register aim d)) 0 w R lv fin g in inl (x.0.0, x.1)
    exp_serves source.False f L sc d aim w n R le lv fin g =
        let x = put_in code f L n d aim (op.Bool (register aim d) false) 0 w R lv fin g in inl (x.0.0, x.1)
    exp_serves source.True f L sc d aim w n R le lv fin g = true_serves code f L n d sc aim w R lv fin g
    exp_serves (source.Int m) f L sc d aim w n R le lv fin g = int_serves code f L n m d aim w R lv fin g
    exp_serves (source.Str bytes) f L sc d aim w n R le lv fin g =
        let c = constant.Text bytes in
        let v = with_constant c w in
        let i = length w.draft.constants in
        let o = op.Constant (register aim d) i in
        let x = put_in code f L n d aim o 0 v R (record { ops = lv.ops; lines = lv.lines }) fin g in
        let fin_v = back code f L n v (put o v) (unsettled code f L n (register aim d) aim (put o v) fin) (k_put v v o (kept_self 0 v)) in
        (i, x.0.0, at_constant code f L n c w fin_v, x.1)
    exp_serves source.Dots f L sc d aim w n R le lv fin g =
        let x = put_in code f L n d aim (op.DotsTo (register aim d) 1) 0 w R lv fin g in (x.0.0, x.1)
    exp_serves (source.Function p) f L sc d aim w n R le lv fin g =
        let inner = body_written p sc.names w in
        let v = resumed inner w in
        let k = length inner.made in
        let o = op.Close (register aim d) k in
        let x = put_in code f L n d aim o 0 v R (record { ops = lv.ops; lines = lv.lines }) fin g in
        let fin_v = back code f L n v (put o v) (unsettled code f L n (register aim d) aim (put o v) fin) (k_put v v o (kept_self 0 v)) in
        (k, x.0.0, body_serves p sc.names w k (λ z. ⊥) (λ i r e. fin_v.made i r (get_front inner.made (done inner ∷ []) i r e)) (fin_v.made k (done inner) (get_end inner.made (done inner))) fin_v.found, x.1)
    exp_serves (source.Name x) f L sc d aim w n R le lv fin g = name_serves code f L n (place_of sc.names x) d aim w R lv fin g
    exp_serves (source.Paren e) f L sc d aim w n R le lv fin g = exp_serves e f L sc d aim w n R le lv fin g
    exp_serves (source.Table fs) f L sc d aim w n R le lv fin g = absurd (never_lost code f L n w fin)
    exp_serves (source.Suffixed e ss) f L sc d aim w n R le lv fin g =
        let v = exp_written e sc d (Into d) w in
        let kv = exp_kept e sc d (Into d) w in
        let y = where_none ss (want.Count 1) d (suffixes_written ss sc d (want.Count 1) v) in
        let ky = k_none v _ ss (want.Count 1) d (suffixes_kept ss sc d (want.Count 1) v) in
        let z = lost_if (differ (register aim d) d) y in
        let fin_z = unsettled code f L n d aim z fin in
        let same = no_difference (register aim d) d (not_lost code f L n (differ (register aim d) d) y fin_z) in
        let fin_y = back code f L n y z fin_z (k_lost y y (differ (register aim d) d) (kept_self 0 y)) in
        let ly = ky.level (kv.level lv) in
        let r = settled_free code f L n d aim z R (record { ops = ly.ops; lines = ly.lines }) same fin g in (
          same,
          exp_serves e f L sc d (Into d) w n (λ b p. IsSuffixes code f sc ss b d (stand.Count 1) (λ c. R c (Reg d))) le lv (back code f L n v y fin_y ky)
              (suffixes_serves ss f L sc d (want.Count 1) v n (λ c. R c (Reg d)) (omega (arith, le, kv.more)) (kv.level lv) fin_y r),
        )
    exp_serves (source.Unary o line e) f L sc d aim w n R le lv fin g =
        let v = exp_written e sc d (Anywhere Nothing) w in
        let kv = exp_kept e sc d (Anywhere Nothing) w in
        let p = shown e sc.names d (Anywhere Nothing) in
        let go = λ (x : ℕ). unary_slot (unary_of o) x d aim line v in
        let kz = k_on v v p go (kept_self 0 v) (λ x. k_unary v v (unary_of o) x d aim line (kept_self 0 v)) in
        inl (exp_serves e f L sc d (Anywhere Nothing) w n (λ b q. stand.IsUnary code f b (unary_of o) (target_of aim) d q line R) le lv (back code f L n v (on_slot p v go) fin kz)
        (unary_serves code f L n d (unary_of o) p aim line v R (kv.level lv) fin g))
    exp_serves (source.Chain e NoOperand) f L sc d aim w n R le lv fin g = absurd (never_lost code f L n w fin)
    exp_serves (source.Chain e (MoreOperands o line x os)) f L sc d (Into r) w n R le lv fin g =
        let ch = MoreOperands o line x os in
        let lk = link_of o in
        let a = link_aim lk d in
        let u = exp_written e sc d a w in
        let ku = exp_kept e sc d a w in
        let p = shown e sc.names d a in
        let fin_u = back code f L n u _ fin (operands_kept ch sc d (Into r) p u) in
        let rest = operands_serves (MoreOperands o line x os) f L sc d (Into r) p u n R (omega (arith, le, ku.more)) (ku.level lv) tt fin g in
        base_as f lk e ch sc w.at d (Into r) R
        (exp_serves e f L sc d a w n (λ b q. IsOperands code f sc ch b d q (stand.Into r) R) le lv fin_u (given_base code f L lk e sc.names d (λ b q. IsOperands code f sc ch b d q (stand.Into r) R) u.at rest))
    exp_serves (source.Chain e (MoreOperands o line x os)) f L sc d (Anywhere room) w n R le lv fin g =
        let ch = MoreOperands o line x os in
        let lk = link_of o in
        let a = link_aim lk d in
        let u = exp_written e sc d a w in
        let ku = exp_kept e sc d a w in
        let p = shown e sc.names d a in
        let fin_u = back code f L n u _ fin (operands_kept ch sc d (Anywhere room) p u) in
        let rest = operands_serves (MoreOperands o line x os) f L sc d (Anywhere room) p u n R (omega (arith, le, ku.more)) (ku.level lv) tt fin g in
        base_as f lk e ch sc w.at d (Anywhere room) R
        (exp_serves e f L sc d a w n (λ b q. IsOperands code f sc ch b d q stand.Anywhere R) le lv fin_u (given_base code f L lk e sc.names d (λ b q. IsOperands code f sc ch b d q stand.Anywhere R) u.at rest))
    exp_serves (source.Chain e (MoreOperands o line x os)) f L sc d (Unless l pay) w n R le lv fin g =
        let ch = MoreOperands o line x os in
        let v = exp_written e sc d (Unless l 0) w in
        let kv = exp_kept e sc d (Unless l 0) w in
        let lk = link_of o in
        let a = link_aim lk d in
        let u = exp_written e sc d a w in
        let ku = exp_kept e sc d a w in
        let p = shown e sc.names d a in
        let S = λ (b : ℕ) (q : Shown). IsOperands code f sc ch b d q stand.Decided R in
        by_bool (IsExp code f sc (source.Chain e ch) w.at d stand.Decided R) (λ t. Final code f L n t × Jumps code f L l pay R t.at) (is_both lk && all_and os)
        (ands_written ch sc d (Unless l pay) v) (operands_written ch sc d (Unless l pay) p u) (fin, g)
        (λ all h.
        let fin_v = back code f L n v (ands_written ch sc d (Unless l pay) v) h.0 (ands_kept ch sc d (Unless l pay) v) in
        inr (inr (exp_serves e f L sc d (Unless l 0) w n S le lv fin_v (ands_serves (MoreOperands o line x os) f L sc d l pay v n R (omega (arith, le, kv.more)) (kv.level lv) all h.0 h.1))))
        (λ some h.
        let fin_u = back code f L n u (operands_written ch sc d (Unless l pay) p u) h.0 (operands_kept ch sc d (Unless l pay) p u) in
        let rest = operands_serves (MoreOperands o line x os) f L sc d (Unless l pay) p u n R (omega (arith, le, ku.more)) (ku.level lv) tt h.0 h.1 in
        base_as f lk e ch sc w.at d (Unless l pay) R (exp_serves e f L sc d a w n S le lv fin_u (given_base code f L lk e sc.names d S u.at rest)))

    pub ands_serves : (os : Operands) (f : ℕ) (L : List ℕ) (sc : Scope) (d l pay : ℕ) (w : Writer) (n : ℕ) (R : ℕ → Shown → Type 0) → n ≤ length w.labels → Level w → all_and os ≡ true
        → Final code f L n (ands_written os sc d (Unless l pay) w) → Jumps code f L l pay R (ands_written os sc d (Unless l pay) w).at → Jumps code f L l (and_pay os pay) (λ b p. IsOperands code f sc os b d p stand.Decided R) w.at
    ands_serves NoOperand f L sc d l pay w n R le lv all fin g = map_jumps code f L l pay w.at R (λ b p. IsOperands code f sc NoOperand b d p stand.Decided R) (λ b p r. (tt, r)) g
    ands_serves (MoreOperands o line e os) f L sc d l pay w n R le lv all fin g =
        let v = exp_written e sc d (Unless l (and_pay os pay)) w in
        let kv = exp_kept e sc d (Unless l (and_pay os pay)) w in
        let S = λ (b : ℕ) (q : Shown). IsOperands code f sc os b d q stand.Decided R in
        let T = λ (k b : ℕ). (k ≡ 0) × IsExp code f sc e b d stand.Decided S in
        let F = λ (b : ℕ). IsOperands code f sc os b d Fails stand.Decided R in
        let rest = ands_serves os f L sc d l pay v n R (omega (arith, le, kv.more)) (kv.level lv) (and_right (is_both (link_of o)) (all_and os) all) fin g in
        let fin_v = back code f L n v (ands_written os sc d (Unless l pay) v) fin (ands_kept os sc d (Unless l pay) v) in
        let first = exp_serves e f L sc d (Unless l (and_pay os pay)) w n S le lv fin_v rest in
        map_jumps code f L l 0 w.at (λ b p. Branch code f b p T F) (λ b p. IsOperands code f sc (MoreOperands o line e os) b d p stand.Decided R)
        (λ b p r. both_as (link_of o) _ _ _ (and_left (is_both (link_of o)) (all_and os) all) (inr r))
        (unpaid_jumps code f L l w.at T F (refl, first) rest.fails)

    pub operands_serves : (os : Operands) (f : ℕ) (L : List ℕ) (sc : Scope) (d : ℕ) (aim : Aim) (p : Operand) (w : Writer) (n : ℕ) (R : ℕ → Shown → Type 0) → n ≤ length w.labels → Level w → IsMore os
        → Final code f L n (operands_written os sc d aim p w) → Given code f L aim (Slot (register aim d)) R (operands_written os sc d aim p w).at → IsOperands code f sc os w.at d (shown_of p) (target_of aim) R
    operands_serves NoOperand f L sc d aim p w n R le lv more fin g = absurd more
    operands_serves (MoreOperands o line e os) f L sc d aim p w n R le lv more fin g =
        let l = label_of w in
        let t = target_of aim in
        let S = λ (b : ℕ) (q : Shown). IsOperands code f sc os b d q t R in
        let x = lost_if (not (is_slot p d)) w in
        let s = labelled x in
        let ks = k_labelled w x (k_lost w w (not (is_slot p d)) (kept_self 0 w)) in
        let ls : Level s = record { ops = lv.ops; lines = lv.lines } in
        let long : length s.labels ≡ l + 1 = one_more x in
        let a1 = put (op.Test d l) s in
        let b1 = put (op.TestNot d l) s in
        let ka1 = k_put w s (op.Test d l) ks in
        let kb1 = k_put w s (op.TestNot d l) ks in
        let a2 = exp_written e sc d (Into d) a1 in
        let b2 = exp_written e sc d (Into d) b1 in
        let ka2 = exp_kept e sc d (Into d) a1 in
        let kb2 = exp_kept e sc d (Into d) b1 in
        let a3 = placed_here l a2 in
        let b3 = placed_here l b2 in
        let a4 = last_settled os aim d d a3 in
        let b4 = last_settled os aim d d b3 in
        let A = operands_written os sc d aim (Slot d) a4 in
        let B = operands_written os sc d aim (Slot d) b4 in
        let go = λ (u : _).
        operands_written os sc d aim (Slot (so_far os aim d))
        (if tests u os aim p d
        then test_written u p (shown e sc.names (d + 1) (Anywhere (room_for (tests u os aim p d) p (so_far os aim d)))) aim line (exp_written e sc (d + 1) (Anywhere (room_for (tests u os aim p d) p (so_far os aim d))) w)
        else last_settled os aim d (so_far os aim d) (binary_written u (so_far os aim d) p (shown e sc.names (d + 1) (Anywhere (room_for (tests u os aim p d) p (so_far os aim d)))) line (exp_written e sc (d + 1) (Anywhere (room_for (tests u os aim p d) p (so_far os aim d))) w))) in
        by_link (λ v. Final code f L n v × Given code f L aim (Slot (register aim d)) R v.at) (link_of o) A B go _ _ _ (fin, g)
        (λ h.
        let k4 = on a3 a4 A (k_last a3 a3 os aim d d (kept_self 0 a3)) (operands_kept os sc d aim (Slot d) a4) in
        let fin3 = back code f L n a3 A h.0 k4 in
        let here : place L l ≡ a2.at = label_is code f L n l a2 fin3 le (omega (arith, long, ka2.more)) in
        let up = kept_placed_below (l + 1) l a2 a2 (omega arith) (kept_self (l + 1) a2) in
        let fin2 = part code f L n (l + 1) (l + 1) a2 a3 fin3 up (omega (arith, le)) (omega arith) in
        let fin1 = back code f L (l + 1) a1 a2 fin2 ka2 in
        let is = kept_slot p d (not_lost code f L (l + 1) (not (is_slot p d)) w (back code f L (l + 1) x a1 fin1 (k_put x s (op.Test d l) (k_labelled x x (kept_self 0 x))))) in
        let l2 = ka2.level ((kept_emit 0 (op.Test d l) 0 s).level ls) in
        let rest = rest_of code f L os sc d aim d a3 n R (record { ops = l2.ops; lines = l2.lines }) h.0 h.1
        (λ m fi gi. operands_serves os f L sc d aim (Slot d) a3 n R (omega (arith, le, long, ka2.more, length_set a2.labels l a2.at)) (record { ops = l2.ops; lines = l2.lines }) m fi gi) in
        let first = exp_serves e f L sc d (Into d) a1 (l + 1) S (omega (arith, long)) ((kept_emit 0 (op.Test d l) 0 s).level ls) fin2 rest in
        inl (subst (λ q. (q ≡ Reg d) × Branch code f w.at q (λ i b. (i ≡ 0) × IsExp code f sc e b d (stand.Into d) S) (λ b. S b q)) (sym is)
        (refl, inl (place L l, at_op code f L (l + 1) (op.Test d l) 0 s ls fin1, (refl, first), subst (λ b. S b (Reg d)) (sym here) rest))))
        (λ h.
        let k4 = on b3 b4 B (k_last b3 b3 os aim d d (kept_self 0 b3)) (operands_kept os sc d aim (Slot d) b4) in
        let fin3 = back code f L n b3 B h.0 k4 in
        let here : place L l ≡ b2.at = label_is code f L n l b2 fin3 le (omega (arith, long, kb2.more)) in
        let up = kept_placed_below (l + 1) l b2 b2 (omega arith) (kept_self (l + 1) b2) in
        let fin2 = part code f L n (l + 1) (l + 1) b2 b3 fin3 up (omega (arith, le)) (omega arith) in
        let fin1 = back code f L (l + 1) b1 b2 fin2 kb2 in
        let is = kept_slot p d (not_lost code f L (l + 1) (not (is_slot p d)) w (back code f L (l + 1) x b1 fin1 (k_put x s (op.TestNot d l) (k_labelled x x (kept_self 0 x))))) in
        let l2 = kb2.level ((kept_emit 0 (op.TestNot d l) 0 s).level ls) in
        let rest = rest_of code f L os sc d aim d b3 n R (record { ops = l2.ops; lines = l2.lines }) h.0 h.1
        (λ m fi gi. operands_serves os f L sc d aim (Slot d) b3 n R (omega (arith, le, long, kb2.more, length_set b2.labels l b2.at)) (record { ops = l2.ops; lines = l2.lines }) m fi gi) in
        let first = exp_serves e f L sc d (Into d) b1 (l + 1) S (omega (arith, long)) ((kept_emit 0 (op.TestNot d l) 0 s).level ls) fin2 rest in
        inl (subst (λ q. (q ≡ Reg d) × Branch code f w.at q (λ i b. S b q) (λ b. IsExp code f sc e b d (stand.Into d) S)) (sym is)
        (refl, inr (place L l, at_op code f L (l + 1) (op.TestNot d l) 0 s ls fin1, first, subst (λ b. S b (Reg d)) (sym here) rest))))
        (λ u h.
        let r = so_far os aim d in
        let room = Anywhere (room_for (tests u os aim p d) p r) in
        let v = exp_written e sc (d + 1) room w in
        let kv = exp_kept e sc (d + 1) room w in
        let q = shown e sc.names (d + 1) room in
        let y = test_written u p q aim line v in
        let z = last_settled os aim d r (binary_written u r p q line v) in
        let i = if tests u os aim p d then y else z in
        let ki = k_if v y z (tests u os aim p d) (k_test v v u p q aim line (kept_self 0 v)) (k_last v _ os aim d r (k_binary v v u r p q line (kept_self 0 v))) in
        let fin_v = back code f L n v (operands_written os sc d aim (Slot r) i) h.0 (on v i (operands_written os sc d aim (Slot r) i) ki (operands_kept os sc d aim (Slot r) i)) in
        let kb = k_binary v v u r p q line (kept_self 0 v) in (
          is_operand p,
          exp_serves e f L sc (d + 1) room w n _ le lv fin_v
              (operated code f L (tests u os aim p d) os aim u p q sc d line v n R refl (kv.level lv) h.0 h.1
              (λ lb m fi gi. operands_serves os f L sc d aim (Slot r) (binary_written u r p q line v) n R (omega (arith, le, kv.more, kb.more)) lb m fi gi)),
        ))

    pub suffixes_serves : (ss : Suffixes) (f : ℕ) (L : List ℕ) (sc : Scope) (d : ℕ) (a : Want) (w : Writer) (n : ℕ) (R : ℕ → Type 0) → n ≤ length w.labels → Level w
        → Final code f L n (where_none ss a d (suffixes_written ss sc d a w)) → Follows a R (where_none ss a d (suffixes_written ss sc d a w)).at → IsSuffixes code f sc ss w.at d (want_of a) R
    suffixes_serves NoSuffix f L sc d a w n R le lv fin r = wanted_serves code f L n d a w R lv fin r
    suffixes_serves (MoreSuffixes (source.Call es line) NoSuffix) f L sc d a w n R le lv fin r =
        let s = put (op.Push d) (put op.Begin w) in
        let ls = (kept_emit 0 (op.Push d) 0 (put op.Begin w)).level ((kept_emit 0 op.Begin 0 w).level lv) in
        let x = fixed_written es sc (d + 1) w in
        let y = list_written es sc d s in
        let kx = fixed_kept es sc (d + 1) w in
        let ky = list_kept es sc d s in
        call_serves code f L (slots_fit es) a es d line n w x y sc R lv (kx.level lv) (ky.level ls) ky fin r
        (λ b Q fi q. fixed_serves es f L sc (d + 1) w n Q le lv (and_left (last_is_one es) _ b) fi q)
        (λ Q fi q. two w.at (λ b. IsList code f sc es b d Q) (list_serves es f L sc d s n Q le ls fi q))
    suffixes_serves (MoreSuffixes (source.Call es line) (MoreSuffixes i ss)) f L sc d a w n R le lv fin r =
        let s = put (op.Push d) (put op.Begin w) in
        let ls = (kept_emit 0 (op.Push d) 0 (put op.Begin w)).level ((kept_emit 0 op.Begin 0 w).level lv) in
        let x = fixed_written es sc (d + 1) w in
        let y = list_written es sc d s in
        let kx = fixed_kept es sc (d + 1) w in
        let ky = list_kept es sc d s in
        let c = called (want.Count 1) d (count es) line x in
        let b = called_list (want.Count 1) d line y in
        let v = if slots_fit es then c else b in
        let kv = k_if w c b (slots_fit es) (k_called w x (want.Count 1) d (count es) line kx) (k_called_list w y (want.Count 1) d line (on w s y (k_put w _ (op.Push d) (k_put w w op.Begin (kept_self 0 w))) ky)) in
        let rest = suffixes_serves (MoreSuffixes i ss) f L sc d a v n R (omega (arith, le, kv.more)) (kv.level lv) fin r in
        let fin_v = back code f L n v (suffixes_written (MoreSuffixes i ss) sc d a v) fin (suffixes_kept (MoreSuffixes i ss) sc d a v) in
        call_serves code f L (slots_fit es) (want.Count 1) es d line n w x y sc (λ z. IsSuffixes code f sc (MoreSuffixes i ss) z d (want_of a) R) lv (kx.level lv) (ky.level ls) ky fin_v rest
        (λ h Q fi q. fixed_serves es f L sc (d + 1) w n Q le lv (and_left (last_is_one es) _ h) fi q)
        (λ Q fi q. two w.at (λ z. IsList code f sc es z d Q) (list_serves es f L sc d s n Q le ls fi q))
    suffixes_serves (MoreSuffixes (source.Index e line) ss) f L sc d a w n R le lv fin r = absurd (never_lost code f L n w fin)
    suffixes_serves (MoreSuffixes (source.Method x at es line) ss) f L sc d a w n R le lv fin r = absurd (never_lost code f L n w fin)

    pub fixed_serves : (es : Exps) (f : ℕ) (L : List ℕ) (sc : Scope) (r : ℕ) (w : Writer) (n : ℕ) (Q : ℕ → ℕ → Type 0) → n ≤ length w.labels → Level w → last_is_one es ≡ true
        → Final code f L n (fixed_written es sc r w) → Q (fixed_written es sc r w).at (r + count es) → IsFixed code f sc es w.at r Q
    fixed_serves NoExp f L sc r w n Q le lv one fin q = (let e : r + 0 ≡ r = omega arith in subst (λ i. Q w.at i) e q)
    fixed_serves (MoreExps e NoExp) f L sc r w n Q le lv one fin q =
        let same : r + (0 + 1) ≡ r + 1 = omega arith in
        (one_of e (not_true (is_many e) one), exp_serves e f L sc r (Into r) w n (λ b p. Q b (r + 1)) le lv fin (subst (λ i. Q (exp_written e sc r (Into r) w).at i) same q))
    fixed_serves (MoreExps e (MoreExps g es)) f L sc r w n Q le lv one fin q =
        let v = exp_written e sc r (Into r) w in
        let kv = exp_kept e sc r (Into r) w in
        let same : r + (count es + 1 + 1) ≡ r + 1 + (count es + 1) = omega arith in
        exp_serves e f L sc r (Into r) w n (λ b p. IsFixed code f sc (MoreExps g es) b (r + 1) Q) le lv (back code f L n v _ fin (fixed_kept (MoreExps g es) sc (r + 1) v))
        (fixed_serves (MoreExps g es) f L sc (r + 1) v n Q (omega (arith, le, kv.more)) (kv.level lv) one fin (subst (λ i. Q (fixed_written (MoreExps g es) sc (r + 1) v).at i) same q))

    pub values_serves : (es : Exps) (m : ℕ) (f : ℕ) (L : List ℕ) (sc : Scope) (r : ℕ) (w : Writer) (n : ℕ) (R : ℕ → Type 0) → n ≤ length w.labels → Level w
        → Final code f L n (values_written es m sc r w) → R (values_written es m sc r w).at → IsValues code f sc es m w.at r R
    values_serves NoExp m f L sc r w n R le lv fin q = nils_serve code f L n r m w R lv fin q
    values_serves (MoreExps e NoExp) m f L sc r w n R le lv fin q =
        let v = exp_written e sc r (Into r) w in
        let kv = exp_kept e sc r (Into r) w in
        by_bool (IsValues code f sc (MoreExps e NoExp) m w.at r R) (λ t. Final code f L n t × R t.at) (is_many e) (many_written e m sc r w) (nils_written (r + 1) (m - 1) v) (fin, q)
        (λ b h. inr (many_serves e m f L sc r w n R le lv b h.0 h.1))
        (λ b h. inl (
          one_of e b,
          exp_serves e f L sc r (Into r) w n (λ c p. stand.IsNils code f (r + 1) (m - 1) c R) le lv
              (back code f L n v (nils_written (r + 1) (m - 1) v) h.0 (k_nils v v (r + 1) (m - 1) (kept_self 0 v)))
              (nils_serve code f L n (r + 1) (m - 1) v R (kv.level lv) h.0 h.1),
        ))
    values_serves (MoreExps e (MoreExps g es)) m f L sc r w n R le lv fin q =
        let v = exp_written e sc r (Into r) w in
        let kv = exp_kept e sc r (Into r) w in
        exp_serves e f L sc r (Into r) w n (λ b p. IsValues code f sc (MoreExps g es) (m - 1) b (following m r) R) le lv (back code f L n v _ fin (values_kept (MoreExps g es) (m - 1) sc (following m r) v))
        (values_serves (MoreExps g es) (m - 1) f L sc (following m r) v n R (omega (arith, le, kv.more)) (kv.level lv) fin q)

    pub many_serves : (e : Exp) (m : ℕ) (f : ℕ) (L : List ℕ) (sc : Scope) (r : ℕ) (w : Writer) (n : ℕ) (R : ℕ → Type 0) → n ≤ length w.labels → Level w → is_many e ≡ true
        → Final code f L n (many_written e m sc r w) → R (many_written e m sc r w).at → IsMany code f sc e m w.at r R
    many_serves source.Dots m f L sc r w n R le lv b fin q = (at_op code f L n (op.DotsTo r m) 0 w lv fin, q)
    many_serves (source.Suffixed e ss) m f L sc r w n R le lv b fin q =
        let v = exp_written e sc r (Into r) w in
        let kv = exp_kept e sc r (Into r) w in
        exp_serves e f L sc r (Into r) w n (λ c p. IsSuffixes code f sc ss c r (stand.Count m) R) le lv (back code f L n v _ fin (k_none v _ ss (want.Count m) r (suffixes_kept ss sc r (want.Count m) v)))
        (suffixes_serves ss f L sc r (want.Count m) v n R (omega (arith, le, kv.more)) (kv.level lv) fin q)
    many_serves _ m f L sc r w n R le lv b fin q = (let x : false ≡ true = b in cc)

    pub list_serves : (es : Exps) (f : ℕ) (L : List ℕ) (sc : Scope) (d : ℕ) (w : Writer) (n : ℕ) (R : ℕ → Type 0) → n ≤ length w.labels → Level w
        → Final code f L n (list_written es sc d w) → R (list_written es sc d w).at → IsList code f sc es w.at d R
    list_serves NoExp f L sc d w n R le lv fin q = q
    list_serves (MoreExps e NoExp) f L sc d w n R le lv fin q =
        let v = exp_written e sc d (Anywhere Nothing) w in
        let kv = exp_kept e sc d (Anywhere Nothing) w in
        let p = shown e sc.names d (Anywhere Nothing) in
        let go = λ (x : ℕ). put (op.Push x) v in
        by_bool (IsList code f sc (MoreExps e NoExp) w.at d R) (λ t. Final code f L n t × R t.at) (is_many e) (all_written e sc d w) (on_slot p v go) (fin, q)
        (λ b h. inr (all_serves e f L sc d w n R le lv b h.0 h.1))
        (λ b h. inl (
          one_of e b,
          exp_serves e f L sc d (Anywhere Nothing) w n (λ c s. OfReg s (λ x. At code f c (op.Push x) × R (c + 1))) le lv
              (back code f L n v (on_slot p v go) h.0 (k_on v v p go (kept_self 0 v) (λ x. k_put v v (op.Push x) (kept_self 0 v))))
              (pushed code f L n p v R (kv.level lv) h.0 h.1),
        ))
    list_serves (MoreExps e (MoreExps g es)) f L sc d w n R le lv fin q =
        let v = exp_written e sc d (Anywhere Nothing) w in
        let kv = exp_kept e sc d (Anywhere Nothing) w in
        let p = shown e sc.names d (Anywhere Nothing) in
        let go = λ (x : ℕ). put (op.Push x) v in
        let u = on_slot p v go in
        let ku = k_on v v p go (kept_self 0 v) (λ x. k_put v v (op.Push x) (kept_self 0 v)) in
        let fin_u = back code f L n u _ fin (list_kept (MoreExps g es) sc d u) in
        exp_serves e f L sc d (Anywhere Nothing) w n (λ c s. OfReg s (λ x. At code f c (op.Push x) × IsList code f sc (MoreExps g es) (c + 1) d R)) le lv (back code f L n v u fin_u ku)
        (pushed code f L n p v (λ c. IsList code f sc (MoreExps g es) c d R) (kv.level lv) fin_u
        (list_serves (MoreExps g es) f L sc d u n R (omega (arith, le, kv.more, ku.more)) (ku.level (kv.level lv)) fin q))

    pub all_serves : (e : Exp) (f : ℕ) (L : List ℕ) (sc : Scope) (d : ℕ) (w : Writer) (n : ℕ) (R : ℕ → Type 0) → n ≤ length w.labels → Level w → is_many e ≡ true
        → Final code f L n (all_written e sc d w) → R (all_written e sc d w).at → IsAll code f sc e w.at d R
    all_serves source.Dots f L sc d w n R le lv b fin q =
        let v = put op.Dots w in (
          at_op code f L n op.Dots 0 w lv (back code f L n v (put op.Append v) fin (k_put v v op.Append (kept_self 0 v))),
          at_op code f L n op.Append 0 v ((kept_emit 0 op.Dots 0 w).level lv) fin,
          two w.at R q,
        )
    all_serves (source.Suffixed e ss) f L sc d w n R le lv b fin q =
        let v = exp_written e sc d (Into d) w in
        let kv = exp_kept e sc d (Into d) w in
        let y = where_none ss want.AsList d (suffixes_written ss sc d want.AsList v) in
        let ky = k_none v _ ss want.AsList d (suffixes_kept ss sc d want.AsList v) in
        let fin_y = back code f L n y (put op.Append y) fin (k_put y y op.Append (kept_self 0 y)) in
        exp_serves e f L sc d (Into d) w n (λ c p. IsSuffixes code f sc ss c d stand.AsList (λ z. At code f z op.Append × R (z + 1))) le lv (back code f L n v y fin_y ky)
        (suffixes_serves ss f L sc d want.AsList v n (λ z. At code f z op.Append × R (z + 1)) (omega (arith, le, kv.more)) (kv.level lv) fin_y
        (at_op code f L n op.Append 0 y (ky.level (kv.level lv)) fin, q))
    all_serves _ f L sc d w n R le lv b fin q = (let x : false ≡ true = b in cc)

    pub tail_serves : (es : Exps) (f : ℕ) (L : List ℕ) (sc : Scope) (d : ℕ) (w : Writer) (n : ℕ) (R : ℕ → Type 0) → n ≤ length w.labels → Level w → is_tail es ≡ true
        → Final code f L n (tail_written es sc d w) → IsTail code f sc es w.at d
    tail_serves (MoreExps (source.Suffixed e ss) NoExp) f L sc d w n R le lv b fin =
        let v = exp_written e sc d (Into d) w in
        let kv = exp_kept e sc d (Into d) w in
        exp_serves e f L sc d (Into d) w n (λ c p. IsSuffixes code f sc ss c d stand.AsResult (λ z. ⊥)) le lv (back code f L n v _ fin (k_none v _ ss want.AsResult d (suffixes_kept ss sc d want.AsResult v)))
        (suffixes_serves ss f L sc d want.AsResult v n (λ z. ⊥) (omega (arith, le, kv.more)) (kv.level lv) fin tt)
    tail_serves _ f L sc d w n R le lv b fin = (let x : false ≡ true = b in cc)

    pub only_serves : (es : Exps) (f : ℕ) (L : List ℕ) (sc : Scope) (d : ℕ) (aim : Aim) (w : Writer) (n : ℕ) (R : ℕ → Shown → Type 0) → n ≤ length w.labels → Level w → is_only es ≡ true
        → Final code f L n (only_written es sc d aim w) → Given code f L aim (only_shown es sc.names d aim) R (only_written es sc d aim w).at → IsOnly code f sc es w.at d (target_of aim) R
    only_serves NoExp f L sc d aim w n R le lv b fin g = (let x : false ≡ true = b in cc)
    only_serves (MoreExps e NoExp) f L sc d aim w n R le lv b fin g = (one_of e (not_true (is_many e) b), exp_serves e f L sc d aim w n R le lv fin g)
    only_serves (MoreExps e (MoreExps g' es)) f L sc d aim w n R le lv b fin g = (let x : false ≡ true = b in cc)

    pub body_serves : (p : Body) (names : List Known) (w : Writer) (g : ℕ) (R : ℕ → Type 0) → ((k : ℕ) (r : Routine) → slice_get (body_written p names w).made k ≡ Some r → slice_get code k ≡ Some r)
        → slice_get code g ≡ Some (done (body_written p names w)) → (body_written p names w).lost ≡ false → IsBody code g names p
    body_serves (body xs dots p) names w g R made there found =
        let outer : Scope = record { names = seen_inside 0 names; free = 0; cells = 0 } in
        let v = begun (record { params = length xs; pay = suc (prepay p); has_dots = dots; slots = length xs; cells = 0 }) names w in
        let sc = all_known xs outer v.flags v.locals in
        let u = declare_all xs outer v in
        let b = block_written p sc (prepay p) None u in
        let end = put (op.Return 0 0) b in
        let L = end.labels in
        let ku = k_declare_all v v xs outer (kept_self 0 v) in
        let kb = block_kept p sc (prepay p) None u in
        let kend = k_put v b (op.Return 0 0) (on v u b ku kb) in
        let lv : Level v = record { ops = refl; lines = refl } in
        let lb = kb.level (ku.level lv) in
        let fin : Final code g L 0 end = record {
          ops = λ k o e. subst (λ (r : Option Routine). slice_get (ops_of r) k ≡ Some (placed L o)) (sym there) (get_map (placed L) end.draft.ops k o e);
          lines = λ k z e. subst (λ (r : Option Routine). slice_get (lines_of r) k ≡ Some z) (sym there) e;
          constants = λ k c e. subst (λ (r : Option Routine). slice_get (constants_of r) k ≡ Some c) (sym there) e;
          made = made;
          labels = λ k z h e. own L k z e;
          found = found;
        } in
        let fin_b = back code g L 0 b end fin (k_put b b (op.Return 0 0) (kept_self 0 b)) in
        let fin_u = back code g L 0 u b fin_b kb in
        let stop : At code g b.at (op.Return 0 0) = at_op code g L 0 (op.Return 0 0) 0 b lb fin in (
          done end,
          there,
          kend.params,
          kend.dots,
          seen_inside 0 names,
          subst (λ cs. Inside cs names (seen_inside 0 names)) (sym kend.captures) (inside_all names),
          prepay p,
          kend.pay,
          declares_serve code g L 0 xs outer v (λ s j. IsBlock code g s p (prepay p) j (λ z. ⊥) (λ e z. Leads code g z (λ y. (i : ℕ) × At code g y (op.Return i 0)))) lv fin_u
              (block_serves p g L sc (prepay p) None u 0 (λ z. ⊥) (λ e z. Leads code g z (λ y. (i : ℕ) × At code g y (op.Return i 0))) (omega arith) (ku.level lv) fin_b tt (inl (0, stop))),
        )

    pub block_serves : (p : Block) (f : ℕ) (L : List ℕ) (sc : Scope) (k : ℕ) (exit : Option ℕ) (w : Writer) (n : ℕ) (X : ℕ → Type 0) (Q : Scope → ℕ → Type 0) → n ≤ length w.labels → Level w
        → Final code f L n (block_written p sc k exit w) → Out L exit X → Q (block_known p sc k exit w) (block_written p sc k exit w).at → IsBlock code f sc p k w.at X Q
    block_serves (Plain ts) f L sc k exit w n X Q le lv fin x q = stats_serves ts f L sc k exit w n X Q le lv fin x q
    block_serves (Returns ts es) f L sc k exit w n X Q le lv fin x q =
        let v = stats_written ts sc k exit w in
        let kv = stats_kept ts sc k exit w in
        let lvv = kv.level lv in
        let inner = stats_known ts sc k exit w in
        let d = inner.free in
        let le' : n ≤ length v.labels = omega (arith, le, kv.more) in
        let a = Anywhere Nothing in
        let one = only_written es inner d a v in
        let kone = only_kept es inner d a v in
        let go = λ (z : ℕ). put (op.Return z 1) one in
        let os = on_slot (only_shown es inner.names d a) one go in
        let fx = fixed_written es inner d v in
        let fo = op.Return d (count es) in
        let bg = put op.Begin v in
        let ls = list_written es inner d bg in
        let F = λ (t : Writer). Final code f L n t in
        let P = IsTail code f inner es v.at d
        ⊎ IsOnly code f inner es v.at d stand.Anywhere (λ b p. OfReg p (λ r. At code f b (op.Return r 1)))
        ⊎ IsFixed code f inner es v.at d (λ b m. (n : ℕ) × (m ≡ d + n) × At code f b (op.Return d n))
        ⊎ (IsNoTail es × At code f v.at op.Begin × IsList code f inner es (v.at + 1) d (λ b. At code f b op.ReturnList)) in
        let rest : K v (block_written (Returns ts es) sc k exit w) = returned_kept es inner v in
        let result : P =
        by_bool P F (is_tail es) (tail_written es inner d v) (if is_only es then os else if slots_fit es then put fo fx else put op.ReturnList ls) fin
        (λ b h. inl (tail_serves es f L inner d v n (λ z. ⊥) le' lvv b h))
        (λ nt h. by_bool P F (is_only es) os (if slots_fit es then put fo fx else put op.ReturnList ls) h
        (λ b h2. inr (inl (only_serves es f L inner d a v n (λ c p. OfReg p (λ r. At code f c (op.Return r 1))) le' lvv b
        (back code f L n one os h2 (k_on one one (only_shown es inner.names d a) go (kept_self 0 one) (λ z. k_put one one (op.Return z 1) (kept_self 0 one))))
        (returned code f L n (only_shown es inner.names d a) one (kone.level lvv) h2))))
        (λ b h2. by_bool P F (slots_fit es) (put fo fx) (put op.ReturnList ls) h2
        (λ s h3. inr (inr (inl (fixed_serves es f L inner d v n (λ c m. (n : ℕ) × (m ≡ d + n) × At code f c (op.Return d n)) le' lvv (and_left (last_is_one es) _ s)
        (back code f L n fx (put fo fx) h3 (k_put fx fx fo (kept_self 0 fx)))
        (count es, refl, at_op code f L n fo 0 fx ((fixed_kept es inner d v).level lvv) h3)))))
        (λ s h3.
        let fin_l = back code f L n ls (put op.ReturnList ls) h3 (k_put ls ls op.ReturnList (kept_self 0 ls)) in
        let lb = (kept_emit 0 op.Begin 0 v).level lvv in
        let kl = list_kept es inner d bg in
        inr (inr (inr (
          no_tail es nt,
          at_op code f L n op.Begin 0 v lvv (back code f L n bg ls fin_l kl),
          list_serves es f L inner d bg n (λ c. At code f c op.ReturnList) le' lb fin_l (at_op code f L n op.ReturnList 0 ls (kl.level lb) h3),
        )))))) in
        stats_serves ts f L sc k exit w n X _ le lv (back code f L n v (block_written (Returns ts es) sc k exit w) fin rest) x result

    pub stats_serves : (ts : Stats) (f : ℕ) (L : List ℕ) (sc : Scope) (k : ℕ) (exit : Option ℕ) (w : Writer) (n : ℕ) (X : ℕ → Type 0) (Q : Scope → ℕ → Type 0) → n ≤ length w.labels → Level w
        → Final code f L n (stats_written ts sc k exit w) → Out L exit X → Q (stats_known ts sc k exit w) (stats_written ts sc k exit w).at → IsStats code f sc ts k w.at X Q
    stats_serves NoStat f L sc k exit w n X Q le lv fin x q = (no_difference k 0 (not_lost code f L n (differ k 0) w fin), q)
    stats_serves (MoreStats t ts) f L sc k exit w n X Q le lv fin x q =
        let v = stat_written t sc k exit w in
        let kv = stat_kept t sc k exit w in
        let after = stat_known t sc k exit w in
        stat_serves t f L sc k exit w n X (λ s b. IsStats code f s ts 0 b X Q) le lv (back code f L n v _ fin (stats_kept ts after 0 exit v)) x
        (stats_serves ts f L after 0 exit v n X Q (omega (arith, le, kv.more)) (kv.level lv) fin x q)

    pub stat_serves : (t : Stat) (f : ℕ) (L : List ℕ) (sc : Scope) (k : ℕ) (exit : Option ℕ) (w : Writer) (n : ℕ) (X : ℕ → Type 0) (Q : Scope → ℕ → Type 0) → n ≤ length w.labels → Level w
        → Final code f L n (stat_written t sc k exit w) → Out L exit X → Q (stat_known t sc k exit w) (stat_written t sc k exit w).at → IsStat code f sc t k w.at X Q
    stat_serves (source.Assign ts es) f L sc k exit w n X Q le lv fin x q =
        let v = ticked k w in
        let kv = k_ticked w w k (kept_self 0 w) in
        let lvv = kv.level lv in
        let le' : n ≤ length v.labels = omega (arith, le, kv.more) in
        let d = sc.free in
        let vals = λ (xs : List Text). values_written es (length xs) sc d v in
        let regs = λ (xs : List Text). stores_written (from_slots xs d []) d sc.names (vals xs) in
        let one = λ (s : ℕ). only_written es sc d (Into s) v in
        let bg = put op.Begin v in
        let ls = list_written es sc d bg in
        let items = λ (xs : List Text). stores_written (from_items xs 0 []) d sc.names ls in
        let slots = λ (xs : List Text). directly (only_slot xs sc.names) (only_direct es) (regs xs) one in
        let F = λ (t : Writer). Final code f L n t × Q sc t.at in
        targets_serve code f L n _ (λ t. Q sc t.at) (variables ts) w (λ xs. if targets_fit xs then slots xs else put (op.Spread d 0) (items xs)) fin q
        (λ xs fi qi. by_bool _ F (targets_fit xs) (slots xs) (put (op.Spread d 0) (items xs)) (fi, qi)
        (λ b hs. by_slot _ F (only_slot xs sc.names) (only_direct es) (regs xs) one hs
        (λ s is direct h. tick_serves code f L n k w _ lv (back code f L n v (one s) h.0 (only_kept es sc d (Into s) v))
        (inl (only_known xs sc.names s (λ i. IsOnly code f sc es v.at d (stand.Into i) (λ c p. Q sc c)) is
        (only_serves es f L sc d (Into s) v n (λ c p. Q sc c) le' lvv (direct_only es direct) h.0 h.1))))
        (λ h.
        let u = vals xs in
        let ku = values_kept es (length xs) sc d v in
        let ks = k_stores u u (from_slots xs d []) d sc.names (kept_self 0 u) in
        let fin_u = back code f L n u (regs xs) h.0 ks in
        tick_serves code f L n k w _ lv (back code f L n v u fin_u ku)
        (inr (inr (inl (values_serves es (length xs) f L sc d v n (λ c. IsWrites code f sc (from_slots xs d []) c (λ z. Q sc z)) le' lvv fin_u
        (writes_serve code f L n (from_slots xs d []) sc u (λ z. Q sc z) (ku.level lvv) h.0 h.1)))))))
        (λ b h.
        let x = items xs in
        let o = op.Spread d 0 in
        let kx = k_stores ls ls (from_items xs 0 []) d sc.names (kept_self 0 ls) in
        let kl = list_kept es sc d bg in
        let lbg = (kept_emit 0 op.Begin 0 v).level lvv in
        let fin_x = back code f L n x (put o x) h.0 (k_put x x o (kept_self 0 x)) in
        let fin_l = back code f L n ls x fin_x kx in
        let fin_b = back code f L n bg ls fin_l kl in
        let R = λ (z : ℕ). At code f z o × Q sc (z + 1) in
        tick_serves code f L n k w _ lv (back code f L n v bg fin_b (k_put v v op.Begin (kept_self 0 v)))
        (inr (inr (inr (
          at_op code f L n op.Begin 0 v lvv fin_b,
          list_serves es f L sc d bg n (λ c. IsWrites code f sc (from_items xs 0 []) c R) le' lbg fin_l
              (writes_serve code f L n (from_items xs 0 []) sc ls R (kl.level lbg) fin_x (at_op code f L n o 0 x (kx.level (kl.level lbg)) h.0, h.1)),
        ))))))
    stat_serves (source.Invoke e) f L sc k exit w n X Q le lv fin x q =
        let v = ticked k w in
        let kv = k_ticked w w k (kept_self 0 w) in
        let lvv = kv.level lv in
        let le' : n ≤ length v.labels = omega (arith, le, kv.more) in
        let d = sc.free in
        let a = Anywhere Nothing in
        by_bool _ (λ t. Final code f L n t × Q sc t.at) (is_many e) (many_written e 0 sc d v) (exp_written e sc d a v) (fin, q)
        (λ b h. tick_serves code f L n k w _ lv (back code f L n v _ h.0 (many_kept e 0 sc d v)) (inl (many_serves e 0 f L sc d v n (λ c. Q sc c) le' lvv b h.0 h.1)))
        (λ b h. tick_serves code f L n k w _ lv (back code f L n v _ h.0 (exp_kept e sc d a v)) (inr (one_of e b, exp_serves e f L sc d a v n (λ c p. Q sc c) le' lvv h.0 h.1)))
    stat_serves source.Break f L sc k exit w n X Q le lv fin x q =
        let v = ticked k w in
        let kv = k_ticked w w k (kept_self 0 w) in
        tick_serves code f L n k w _ lv (back code f L n v (jumped exit v) fin (k_jumped v v exit (kept_self 0 v))) (jump_serves code f L n exit v X (kv.level lv) fin x)
    stat_serves (source.Do p) f L sc k exit w n X Q le lv fin x q =
        let m = prepay p in
        let v = ticked_more k m w in
        let kv = k_ticked_more w w k m (kept_self 0 w) in
        ticks_serve code f L n k m w (λ i b. IsBlock code f sc p i b X (λ e z. Leads code f z (λ y. Q sc y))) lv (back code f L n v _ fin (block_kept p sc (paid_before k m) exit v))
        (block_serves p f L sc (paid_before k m) exit v n X (λ e z. Leads code f z (λ y. Q sc y)) (omega (arith, le, kv.more)) (kv.level lv) fin x (inl q))
    stat_serves (source.While e p) f L sc k exit w n X Q le lv fin x q =
        let m = prepay p in
        let v = ticked k w in
        let kv = k_ticked w w k (kept_self 0 w) in
        let lvv = kv.level lv in
        let l = label_of v in
        let le' : n ≤ l = omega (arith, le, kv.more) in
        let s = labelled (labelled (labelled v)) in
        let ls : Level s = record { ops = lvv.ops; lines = lvv.lines } in
        let jo = op.Jump (l + 1) in
        let j = put jo s in
        let u = placed_here (l + 2) j in
        let lu = same_place (l + 2) j ((kept_emit 0 jo 0 s).level ls) in
        let b = block_written p sc m (Some l) u in
        let kb = block_kept p sc m (Some l) u in
        let t = placed_here (l + 1) b in
        let lt = same_place (l + 1) b (kb.level lu) in
        let c = exp_written e sc sc.free (Unless l 0) t in
        let kc = exp_kept e sc sc.free (Unless l 0) t in
        let o = op.Loop (suc m) (l + 2) in
        let z = put o c in
        let long : l + 3 ≤ length u.labels = omega (arith, three_more v, set_long (l + 2) j) in
        let out_at : place L l ≡ z.at = label_is code f L n l z fin le' (omega (arith, long, kb.more, set_long (l + 1) b, kc.more)) in
        let fin_z = below code f L n l (l + 1) z fin (omega arith) (omega (arith, le')) in
        let fin_c = back code f L (l + 1) c z fin_z (k_put c c o (kept_self 0 c)) in
        let fin_t = back code f L (l + 1) t c fin_c kc in
        let cond_at : place L (l + 1) ≡ b.at = label_is code f L (l + 1) (l + 1) b fin_t (omega arith) (omega (arith, long, kb.more)) in
        let fin_b = below code f L (l + 1) (l + 1) (l + 2) b fin_t (omega arith) (omega arith) in
        let fin_u = back code f L (l + 2) u b fin_b kb in
        let body_at : place L (l + 2) ≡ j.at = label_is code f L (l + 2) (l + 2) j fin_u (omega arith) (omega (arith, three_more v)) in
        let fin_j = below code f L (l + 2) (l + 2) (l + 3) j fin_u (omega arith) (omega arith) in
        let out = subst (Q sc) (sym out_at) q in
        let Y = λ (a : ℕ). Leads code f a (λ y. Q sc y) in
        let E = λ (i : Scope) (a : ℕ). Leads code f a (λ y. y ≡ place L (l + 1)) in
        let T = λ (i a : ℕ). Ticks code f i a (λ h g. IsBlock code f sc p h g Y E) in
        let inside = block_serves p f L sc m (Some l) u (l + 2) Y E (omega (arith, long)) lu fin_b (inl out) (inl (sym cond_at)) in
        let again : T 0 c.at = inr (m, place L (l + 2), at_op code f L (l + 1) o 0 c (kc.level lt) fin_z, subst (λ a. IsBlock code f sc p m a Y E) (sym body_at) inside) in
        let test = exp_serves e f L sc sc.free (Unless l 0) t (l + 1) (λ h i. Branch code f h i T Y) (omega (arith, long, kb.more, set_long (l + 1) b)) lt fin_c (unpaid_jumps code f L l c.at T Y again (inl out)) in
        let fin_v = back code f L (l + 3) v j fin_j (k_put v s jo (labelled_three v v (kept_self 0 v))) in
        let fin_v' : Final code f L (l + 3) v = fin_v in
        tick_serves code f L (l + 3) k w _ lv fin_v'
        (inr (place L (l + 1), at_op code f L (l + 3) jo 0 s ls fin_j, subst (λ a. IsExp code f sc e a sc.free stand.Decided (λ h i. Branch code f h i T Y)) (sym cond_at) test))
    stat_serves (source.Repeat p e) f L sc k exit w n X Q le lv fin x q =
        let m = prepay p in
        let v = ticked_twice k m w in
        let kv = k_ticked_twice w w k m (kept_self 0 w) in
        let lvv = kv.level lv in
        let l = label_of v in
        let le' : n ≤ l = omega (arith, le, kv.more) in
        let s = labelled (labelled (labelled v)) in
        let ls : Level s = record { ops = lvv.ops; lines = lvv.lines } in
        let u = placed_here (l + 2) s in
        let lu = same_place (l + 2) s ls in
        let b = block_written p sc m (Some l) u in
        let kb = block_kept p sc m (Some l) u in
        let lb = kb.level lu in
        let inner = block_known p sc m (Some l) u in
        let t = exp_written e inner inner.free (Unless (l + 1) 0) b in
        let kt = exp_kept e inner inner.free (Unless (l + 1) 0) b in
        let lt = kt.level lb in
        let jo = op.Jump l in
        let j = put jo t in
        let g = placed_here (l + 1) j in
        let lg = same_place (l + 1) j ((kept_emit 0 jo 0 t).level lt) in
        let o = op.Loop (suc m) (l + 2) in
        let z = put o g in
        let long : l + 3 ≤ length u.labels = omega (arith, three_more v, set_long (l + 2) s) in
        let out_at : place L l ≡ z.at = label_is code f L n l z fin le' (omega (arith, long, kb.more, kt.more, set_long (l + 1) j)) in
        let fin_z = below code f L n l (l + 1) z fin (omega arith) (omega (arith, le')) in
        let fin_g = back code f L (l + 1) g z fin_z (k_put g g o (kept_self 0 g)) in
        let again_at : place L (l + 1) ≡ j.at = label_is code f L (l + 1) (l + 1) j fin_g (omega arith) (omega (arith, long, kb.more, kt.more)) in
        let fin_j = below code f L (l + 1) (l + 1) (l + 2) j fin_g (omega arith) (omega arith) in
        let fin_t = back code f L (l + 2) t j fin_j (k_put t t jo (kept_self 0 t)) in
        let fin_b = back code f L (l + 2) b t fin_t kt in
        let fin_u = back code f L (l + 2) u b fin_b kb in
        let body_at : place L (l + 2) ≡ v.at = label_is code f L (l + 2) (l + 2) s fin_u (omega arith) (omega (arith, three_more v)) in
        let fin_s = below code f L (l + 2) (l + 2) (l + 3) s fin_u (omega arith) (omega arith) in
        let fin_v = back code f L (l + 3) v s fin_s (labelled_three v v (kept_self 0 v)) in
        let out = subst (Q sc) (sym out_at) q in
        let Y = λ (a : ℕ). Leads code f a (λ y. Q sc y) in
        let T = λ (i a : ℕ). (i ≡ 0) × Y a in
        let F = λ (i h a : ℕ). Ticks code f 0 a (λ i' j'. (i' ≡ i) × (j' ≡ h)) in
        let E = λ (i h : ℕ) (c : Scope) (a : ℕ). IsExp code f c e a c.free stand.Decided (λ b' r. Branch code f b' r T (F i h)) in
        let R = λ (i h : ℕ). IsBlock code f sc p i h Y (E i h) in
        let leave : Y t.at = inr (place L l, at_op code f L (l + 2) jo 0 t lt fin_j, out) in
        let turn : F m v.at g.at = inr (m, place L (l + 2), at_op code f L (l + 1) o 0 g lg fin_z, (refl, body_at)) in
        let test = exp_serves e f L inner inner.free (Unless (l + 1) 0) b (l + 2) (λ b' r. Branch code f b' r T (F m v.at)) (omega (arith, long, kb.more)) lb fin_t
        (unpaid_jumps code f L (l + 1) t.at T (F m v.at) (refl, leave) (subst (F m v.at) (sym again_at) turn)) in
        twice_serves code f L (l + 3) k m w R lv fin_v (block_serves p f L sc m (Some l) u (l + 2) Y (E m v.at) (omega (arith, long)) lu fin_b (inl out) test)
    stat_serves (source.If e p others) f L sc k exit w n X Q le lv fin x q =
        let v = ticked k w in
        let kv = k_ticked w w k (kept_self 0 w) in
        let lvv = kv.level lv in
        let l = label_of v in
        let le' : n ≤ l = omega (arith, le, kv.more) in
        let s = labelled (labelled v) in
        let ls : Level s = record { ops = lvv.ops; lines = lvv.lines } in
        let c = exp_written e sc sc.free (Unless (l + 1) (prepay p)) s in
        let kc = exp_kept e sc sc.free (Unless (l + 1) (prepay p)) s in
        let lc = kc.level ls in
        let u = block_written p sc (prepay p) exit c in
        let ku = block_kept p sc (prepay p) exit c in
        let lu = ku.level lc in
        let h = where_else others l u in
        let kh = k_where_else u u others l (kept_self 0 u) in
        let t = placed_here (l + 1) h in
        let lt = same_place (l + 1) h (kh.level lu) in
        let y = else_written others sc exit l t in
        let ky = else_kept others sc exit l t in
        let long : l + 2 ≤ length s.labels = omega (arith, two_more v) in
        let out_at : place L l ≡ y.at = label_is code f L n l y fin le' (omega (arith, long, kc.more, ku.more, kh.more, set_long (l + 1) h, ky.more)) in
        let fin_y = below code f L n l (l + 1) y fin (omega arith) (omega (arith, le')) in
        let fin_t = back code f L (l + 1) t y fin_y ky in
        let else_at : place L (l + 1) ≡ h.at = label_is code f L (l + 1) (l + 1) h fin_t (omega arith) (omega (arith, long, kc.more, ku.more, kh.more)) in
        let fin_h = below code f L (l + 1) (l + 1) (l + 2) h fin_t (omega arith) (omega arith) in
        let fin_u = back code f L (l + 2) u h fin_h kh in
        let fin_c = back code f L (l + 2) c u fin_u ku in
        let fin_v = back code f L (l + 2) v c fin_c (on v s c (k_labelled v (labelled v) (k_labelled v v (kept_self 0 v))) kc) in
        let out = subst (Q sc) (sym out_at) q in
        let Y = λ (i : Scope) (a : ℕ). Leads code f a (λ g. Q sc g) in
        let T = λ (i a : ℕ). IsBlock code f sc p i a X Y in
        let F = λ (a : ℕ). IsElse code f sc others a X Q in
        let end = leads_on code f L others (l + 2) l u sc (λ g. Q sc g) lu fin_h (λ is. out_at ∙ no_else_ends others sc exit l (l + 1) u is) out in
        let inside : T (prepay p) c.at = block_serves p f L sc (prepay p) exit c (l + 2) X Y (omega (arith, long, kc.more)) lc fin_u x end in
        let rest : F t.at = else_serves others f L sc exit l t (l + 1) X Q (omega (arith, long, kc.more, ku.more, kh.more, set_long (l + 1) h)) lt fin_y x out_at out in
        tick_serves code f L (l + 2) k w _ lv fin_v
        (exp_serves e f L sc sc.free (Unless (l + 1) (prepay p)) s (l + 2) (λ b r. Branch code f b r T F) long ls fin_c (branch_jumps code f L (l + 1) (prepay p) c.at T F inside (λ b e. block_ticked code f sc p b c.at X Y e inside) (subst F (sym else_at) rest)))
    stat_serves (source.Numeric i first limit p line) f L sc k exit w n X Q le lv fin x q =
        let t = ticked k w in
        let kt = k_ticked w w k (kept_self 0 w) in
        let d = sc.free in
        let v = exp_written first sc d (Into d) t in
        let kv = exp_kept first sc d (Into d) t in
        let u = exp_written limit sc (d + 1) (Into (d + 1)) v in
        let ku = exp_kept limit sc (d + 1) (Into (d + 1)) v in
        let b = has_room Word (pos 1) in
        let s = int_written (d + 2) (pos 1) u in
        let ks = k_int u u (d + 2) (pos 1) b (kept_self 0 u) in
        let lt = kt.level lv in
        let lu = ku.level (kv.level lt) in
        let block = λ (inner : Scope) (out : Option ℕ) (g : Writer). block_written p inner (prepay p) out g in
        let keeps = λ (inner : Scope) (out : Option ℕ) (g : Writer). block_kept p inner (prepay p) out g in
        let turns = λ (inner : Scope) (m a : ℕ) (end : ℕ → Type 0). IsBlock code f inner p m a (λ z. Leads code f z (λ y. Q sc y)) (λ e z. end z) in
        let fin_s = back code f L n s (numeric_written i sc line (prepay p) block s) fin (k_numeric s i sc line (prepay p) block keeps) in
        let fin_u = back code f L n u s fin_s ks in
        let fin_v = back code f L n v u fin_u ku in
        let is = int_stands code f L n (d + 2) (pos 1) b u lu fin_s in
        let loop = numeric_serves code f L i sc line (prepay p) n s block turns (λ y. Q sc y) (omega (arith, le, kt.more, kv.more, ku.more, ks.more)) (ks.level lu) fin q keeps
        (λ r inner g m E le2 lg fi e. block_serves p f L inner (prepay p) (Some (label_of s)) g m (λ z. Leads code f z (λ y. Q sc y)) (λ c z. E z) le2 lg fi (inl r) e) in
        tick_serves code f L n k w _ lv (back code f L n t v fin_v kv)
        (exp_serves first f L sc d (Into d) t n _ (omega (arith, le, kt.more)) lt fin_v
        (exp_serves limit f L sc (d + 1) (Into (d + 1)) v n (λ h r. IsInt code f h (d + 2) (pos 1) × IsNumeric code f sc i line (h + 1) turns (λ y. Q sc y)) (omega (arith, le, kt.more, kv.more)) (kv.level lt) fin_u
        (is.0, subst (λ a. IsNumeric code f sc i line a turns (λ y. Q sc y)) is.1 loop)))
    stat_serves (source.NumericBy i first limit step p line) f L sc k exit w n X Q le lv fin x q =
        let t = ticked k w in
        let kt = k_ticked w w k (kept_self 0 w) in
        let d = sc.free in
        let v = exp_written first sc d (Into d) t in
        let kv = exp_kept first sc d (Into d) t in
        let u = exp_written limit sc (d + 1) (Into (d + 1)) v in
        let ku = exp_kept limit sc (d + 1) (Into (d + 1)) v in
        let s = exp_written step sc (d + 2) (Into (d + 2)) u in
        let ks = exp_kept step sc (d + 2) (Into (d + 2)) u in
        let lt = kt.level lv in
        let lu = ku.level (kv.level lt) in
        let block = λ (inner : Scope) (out : Option ℕ) (g : Writer). block_written p inner (prepay p) out g in
        let keeps = λ (inner : Scope) (out : Option ℕ) (g : Writer). block_kept p inner (prepay p) out g in
        let turns = λ (inner : Scope) (m a : ℕ) (end : ℕ → Type 0). IsBlock code f inner p m a (λ z. Leads code f z (λ y. Q sc y)) (λ e z. end z) in
        let fin_s = back code f L n s (numeric_written i sc line (prepay p) block s) fin (k_numeric s i sc line (prepay p) block keeps) in
        let fin_u = back code f L n u s fin_s ks in
        let fin_v = back code f L n v u fin_u ku in
        let loop = numeric_serves code f L i sc line (prepay p) n s block turns (λ y. Q sc y) (omega (arith, le, kt.more, kv.more, ku.more, ks.more)) (ks.level lu) fin q keeps
        (λ r inner g m E le2 lg fi e. block_serves p f L inner (prepay p) (Some (label_of s)) g m (λ z. Leads code f z (λ y. Q sc y)) (λ c z. E z) le2 lg fi (inl r) e) in
        tick_serves code f L n k w _ lv (back code f L n t v fin_v kv)
        (exp_serves first f L sc d (Into d) t n _ (omega (arith, le, kt.more)) lt fin_v
        (exp_serves limit f L sc (d + 1) (Into (d + 1)) v n _ (omega (arith, le, kt.more, kv.more)) (kv.level lt) fin_u
        (exp_serves step f L sc (d + 2) (Into (d + 2)) u n (λ h r. IsNumeric code f sc i line h turns (λ y. Q sc y)) (omega (arith, le, kt.more, kv.more, ku.more)) lu fin_s loop)))
    stat_serves (source.Generic xs es p line) f L sc k exit w n X Q le lv fin x q =
        let t = ticked k w in
        let kt = k_ticked w w k (kept_self 0 w) in
        let lt = kt.level lv in
        let s = values_written es 3 sc sc.free t in
        let ks = values_kept es 3 sc sc.free t in
        let block = λ (inner : Scope) (out : Option ℕ) (g : Writer). block_written p inner (prepay p) out g in
        let keeps = λ (inner : Scope) (out : Option ℕ) (g : Writer). block_kept p inner (prepay p) out g in
        let turns = λ (inner : Scope) (m a : ℕ) (end : ℕ → Type 0). IsBlock code f inner p m a (λ z. Leads code f z (λ y. Q sc y)) (λ e z. end z) in
        let fin_s = back code f L n s (generic_written xs sc line (prepay p) block s) fin (k_generic s xs sc line (prepay p) block keeps) in
        let loop = generic_serves code f L xs sc line (prepay p) n s block turns (λ y. Q sc y) (omega (arith, le, kt.more, ks.more)) (ks.level lt) fin q keeps
        (λ r inner g m E le2 lg fi e. block_serves p f L inner (prepay p) (Some (label_of s)) g m (λ z. Leads code f z (λ y. Q sc y)) (λ c z. E z) le2 lg fi (inl r) e) in
        tick_serves code f L n k w _ lv (back code f L n t s fin_s ks)
        (inl (values_serves es 3 f L sc sc.free t n (λ c. IsGeneric code f sc xs line c turns (λ y. Q sc y)) (omega (arith, le, kt.more)) lt fin_s loop))
    stat_serves (source.Local xs es) f L sc k exit w n X Q le lv fin x q =
        let t = ticked k w in
        let kt = k_ticked w w k (kept_self 0 w) in
        let lt = kt.level lv in
        let s = values_written es (length xs) sc sc.free t in
        let ks = values_kept es (length xs) sc sc.free t in
        let fin_s = back code f L n s (declare_all xs sc s) fin (k_declare_all s s xs sc (kept_self 0 s)) in
        tick_serves code f L n k w _ lv (back code f L n t s fin_s ks)
        (inl (values_serves es (length xs) f L sc sc.free t n (λ c. IsDeclares code f sc xs c Q) (omega (arith, le, kt.more)) lt fin_s (declares_serve code f L n xs sc s Q (ks.level lt) fin q)))
    stat_serves (source.LocalFunction i p) f L sc k exit w n X Q le lv fin x q =
        let v = ticked k w in
        let kv = k_ticked w w k (kept_self 0 w) in
        let lvv = kv.level lv in
        let shared = flag v.flags v.locals in
        let names = (function_known i sc shared).names in
        let inner = body_written p names (counted v) in
        let g = length inner.made in
        let u = resumed inner (counted v) in
        let lu : Level u = record { ops = lvv.ops; lines = lvv.lines } in
        let o = close_op sc shared g in
        let fin_u = back code f L n u (put o u) fin (k_put u u o (kept_self 0 u)) in
        let ku = k_resumed v (counted v) inner (k_counted v v (kept_self 0 v)) (body_kept p names (counted v)) in
        let is = body_serves p names (counted v) g (λ z. ⊥) (λ c r e. fin_u.made c r (get_front inner.made (done inner ∷ []) c r e)) (fin_u.made g (done inner) (get_end inner.made (done inner))) fin_u.found in
        tick_serves code f L n k w _ lv (back code f L n v u fin_u ku) (g, closed_as code f L shared i sc p v.at g Q (at_op code f L n o 0 u lu fin) is q)

    pub else_serves : (b : Branches) (f : ℕ) (L : List ℕ) (sc : Scope) (exit : Option ℕ) (end : ℕ) (w : Writer) (n : ℕ) (X : ℕ → Type 0) (Q : Scope → ℕ → Type 0) → n ≤ length w.labels → Level w
        → Final code f L n (else_written b sc exit end w) → Out L exit X → place L end ≡ (else_written b sc exit end w).at → Q sc (place L end) → IsElse code f sc b w.at X Q
    else_serves NoElse f L sc exit end w n X Q le lv fin x e q = subst (Q sc) e q
    else_serves (Else p) f L sc exit end w n X Q le lv fin x e q = block_serves p f L sc 0 exit w n X (λ i z. Leads code f z (λ y. Q sc y)) le lv fin x (inl (subst (Q sc) e q))
    else_serves (Elseif c p others) f L sc exit end w n X Q le lv fin x e q =
        let l = label_of w in
        let s = labelled w in
        let ls : Level s = record { ops = lv.ops; lines = lv.lines } in
        let a = exp_written c sc sc.free (Unless l (prepay p)) s in
        let ka = exp_kept c sc sc.free (Unless l (prepay p)) s in
        let la = ka.level ls in
        let u = block_written p sc (prepay p) exit a in
        let ku = block_kept p sc (prepay p) exit a in
        let lu = ku.level la in
        let h = where_else others end u in
        let kh = k_where_else u u others end (kept_self 0 u) in
        let t = placed_here l h in
        let lt = same_place l h (kh.level lu) in
        let y = else_written others sc exit end t in
        let ky = else_kept others sc exit end t in
        let long : l + 1 ≤ length s.labels = omega (arith, one_more w) in
        let fin_t = back code f L n t y fin ky in
        let else_at : place L l ≡ h.at = label_is code f L n l h fin_t le (omega (arith, long, ka.more, ku.more, kh.more)) in
        let fin_h = below code f L n l (l + 1) h fin_t (omega arith) (omega (arith, le)) in
        let fin_u = back code f L (l + 1) u h fin_h kh in
        let fin_a = back code f L (l + 1) a u fin_u ku in
        let Y = λ (i : Scope) (z : ℕ). Leads code f z (λ g. Q sc g) in
        let T = λ (i z : ℕ). IsBlock code f sc p i z X Y in
        let F = λ (z : ℕ). IsElse code f sc others z X Q in
        let stop = leads_on code f L others (l + 1) end u sc (λ g. Q sc g) lu fin_h (λ is. e ∙ no_else_ends others sc exit end l u is) q in
        let inside : T (prepay p) a.at = block_serves p f L sc (prepay p) exit a (l + 1) X Y (omega (arith, long, ka.more)) la fin_u x stop in
        let rest : F t.at = else_serves others f L sc exit end t n X Q (omega (arith, le, long, ka.more, ku.more, kh.more, set_long l h)) lt fin x e q in
        exp_serves c f L sc sc.free (Unless l (prepay p)) s (l + 1) (λ b r. Branch code f b r T F) long ls fin_a (branch_jumps code f L l (prepay p) a.at T F inside (λ b i. block_ticked code f sc p b a.at X Y i inside) (subst F (sym else_at) rest))
