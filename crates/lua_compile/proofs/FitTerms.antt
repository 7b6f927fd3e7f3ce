-- The code of each term fits the function that it ends up in, and the functions that it makes are valid.
use Rattle.std.proofs.Common.{◌≡◌, ℕ, suc, ◌+◌, ◌-◌, ◌<◌, ◌≤◌, refl, sym, ap, ◌∙◌, subst, List, [], ◌∷◌, length, Option, Some, None, arith, true, false}
use Rattle.std.specs.Prelude.{slice_get, not, ◌&&◌, if◌then◌else◌, pos}
use Rattle.std.proofs.Math.Nat.{le-max_right}
use Rattle.std.proofs.lemmas.Option.{slice_get_within}
use Rattle.lua_tree.specs.Source as source
use Rattle.lua_tree.specs.Source.{Text, Block, Plain, Returns, Stats, NoStat, MoreStats, Stat, Branches, NoElse, Else, Elseif, Exps, NoExp, MoreExps, Exp, Operands, NoOperand, MoreOperands, Suffixes, NoSuffix, MoreSuffixes, Body, body}
use Rattle.lua_model.specs.declared.operator.Binary.{Binary}
use Rattle.lua_meaning.specs.Values.{link_of, unary_of}
use Rattle.lua_meaning.specs.Statements.{variables}
use Rattle.lua_code.specs.declared.function.Constant.TheVariants as constant
use Rattle.lua_code.specs.declared.op.Op.{Op}
use Rattle.lua_code.specs.declared.op.Op.TheVariants as op
use Rattle.lua_code.specs.Routine.{Routine}
use Rattle.lua_code.specs.Valid.{Fits, Whole, AllFit, IsValidFunction}
use Rattle.lua_steps.specs.declared.scope.Known.{Known}
use Rattle.lua_steps.specs.Machine.{Code}
use Rattle.lua_steps.specs.Exec.{ops_of, lines_of, constants_of}
use Rattle.lua_steps.specs.Scope.{Scope, place_of}
use Rattle.lua_steps.specs.Stand.{from_slots, from_items}
use Rattle.lua_steps.specs.Serves.{following}
use Rattle.lua_compile.specs.declared.aim.Aim.{Aim}
use Rattle.lua_compile.specs.declared.aim.Aim.TheVariants.{Into, Anywhere, Unless}
use Rattle.lua_compile.specs.declared.aim.Room.TheVariants.{Nothing, Word}
use Rattle.lua_compile.specs.declared.aim.Operand.{Operand}
use Rattle.lua_compile.specs.declared.aim.Operand.TheVariants.{Slot}
use Rattle.lua_compile.specs.declared.aim.Want.{Want}
use Rattle.lua_compile.specs.declared.aim.Want.TheVariants as want
use Rattle.lua_compile.specs.Writer.{Writer, cell_reach, put, labelled, label_of, placed_here, with_constant, lost_if, counted, done, flag, all_known, declare_all, captures_of, seen_inside, begun, resumed, place, placed}
use Rattle.lua_compile.specs.Forms.{register, settled, differ, int_written, has_room, nils_written, shown, on_slot, is_slot, binary_written, tests, room_for, test_written, unary_slot, so_far, last_settled, link_aim, and_pay, is_both, all_and, is_many, count, slots_fit, targets_fit, is_only, is_tail, only_shown, suffix_want, called, called_list, where_none, prepay, ticked, ticked_more, paid_before, ticked_twice, only_direct, only_slot, directly, jumped, where_else, function_known, close_op, stores_written, numeric_written, generic_written}
use Rattle.lua_compile.specs.Written.{exp_written, ands_written, operands_written, suffixes_written, fixed_written, values_written, many_written, list_written, all_written, tail_written, only_written, body_written, block_written, block_known, stats_written, stats_known, stat_written, stat_known, else_written}
use Rattle.lua_compile.proofs.Kept.{Level, kept_self, kept_emit, get_front, get_end}
use Rattle.lua_compile.proofs.KeptForms.{k_put, k_labelled, k_lost, k_counted, k_resumed, k_if, k_settled, k_int, k_nils, k_jumped, k_on, k_unary, k_binary, k_test, k_last, k_none, k_ticked, k_ticked_more, k_ticked_twice, k_stores, k_where_else, k_called, k_called_list, k_declare_all}
use Rattle.lua_compile.proofs.KeptTerms.{on, labelled_three, k_numeric, k_generic, exp_kept, ands_kept, operands_kept, suffixes_kept, fixed_kept, values_kept, many_kept, list_kept, only_kept, body_kept, block_kept, stats_kept, stat_kept, else_kept}
use Rattle.lua_compile.proofs.Final.{Final, back, label_is}
use Rattle.lua_compile.proofs.ServesLoops.{three_more, two_more, one_more, get_map, own, same_place, set_long, returned_kept}
use Rattle.lua_compile.proofs.Fit.{Fin, fin_back, fin_below, at_end, zero_on}
use Rattle.lua_compile.proofs.FitForms.{Good, Ahead, Aimed, Leaves, Sees, place_fits, seen_fits, g_emit, g_same, g_settled, g_int, g_aimed, g_true, g_put_in, g_name, g_stores, g_nils, g_on, g_binary, g_test, g_unary, g_last, g_called, g_called_list, g_none, g_ticked, g_ticked_more, g_ticked_twice, g_jumped, g_where_else, g_declare}
use Rattle.lua_compile.proofs.FitLoops.{aimed_less, leaves_less, link_aimed, fit_if, fit_on, fit_link, fit_targets, fit_directly, done_more, can_close, length-map, get_placed, close_asks, function_sees, numeric_fits, generic_fits}

module _ (code : Code) where
  mutual
    pub exp_fits : (e : Exp) (f : ℕ) (r : Routine) (L : List ℕ) (sc : Scope) (d : ℕ) (aim : Aim) (w : Writer) (n : ℕ) → n ≤ length w.labels → Level w
        → Fin code f r L n (exp_written e sc d aim w) → Aimed r L aim (exp_written e sc d aim w).at → Sees r sc.names → Good code r L w → Good code r L (exp_written e sc d aim w)
    exp_fits source.Nil f r L sc d aim w n le lv fin a s g = g_put_in code f r L n d aim (op.Nil (register aim d)) 0 w lv fin a tt g
    exp_fits source.False f r L sc d aim w n le lv fin a s g = g_put_in code f r L n d aim (op.Bool (register aim d) false) 0 w lv fin a tt g
    exp_fits source.True f r L sc d aim w n le lv fin a s g = g_true code f r L n d aim w lv fin g
    exp_fits (source.Int m) f r L sc d aim w n le lv fin a s g = g_aimed code f r L n m d aim w lv fin g
    exp_fits (source.Str bytes) f r L sc d aim w n le lv fin a s g =
        let c = constant.Text bytes in
        let v = with_constant c w in
        let i = length w.draft.constants in
        let o = op.Constant (register aim d) i in
        let u = put o v in
        let fin_v = fin_back code f r L n v (settled aim (register aim d) u) fin (k_settled v u aim (register aim d) (k_put v v o (kept_self 0 v))) in
        g_put_in code f r L n d aim o 0 v (record { ops = lv.ops; lines = lv.lines }) fin a (fin_v.constants i c (get_end w.draft.constants c)) (g_same code f r L w v refl refl g)
    exp_fits source.Dots f r L sc d aim w n le lv fin a s g = g_put_in code f r L n d aim (op.DotsTo (register aim d) 1) 0 w lv fin a tt g
    exp_fits (source.Function p) f r L sc d aim w n le lv fin a s g =
        let inner = body_written p sc.names w in
        let v = resumed inner w in
        let k = length inner.made in
        let o = op.Close (register aim d) k in
        let u = put o v in
        let fin_v = fin_back code f r L n v (settled aim (register aim d) u) fin (k_settled v u aim (register aim d) (k_put v v o (kept_self 0 v))) in
        let there = fin_v.final.made k (done inner) (get_end inner.made (done inner)) in
        let b = body_fits p sc.names w k (λ i h e. fin_v.final.made i h (get_front inner.made (done inner ∷ []) i h e)) there fin_v.final.found g.made in
        let gv : Good code r L v = record { fit = record { each = g.fit.each }; made = done_more (λ h. IsValidFunction code h) inner.made (done inner) b.0 b.1 } in
        g_put_in code f r L n d aim o 0 v (record { ops = lv.ops; lines = lv.lines }) fin a (can_close code r (done inner) sc.names k there b.2 s) gv
    exp_fits (source.Name x) f r L sc d aim w n le lv fin a s g = g_name code f r L n (place_of sc.names x) d aim w lv fin a (place_fits r.shape.cells (length r.captures) sc.names x s) g
    exp_fits (source.Paren e) f r L sc d aim w n le lv fin a s g = exp_fits e f r L sc d aim w n le lv fin a s g
    exp_fits (source.Table fs) f r L sc d aim w n le lv fin a s g = g_same code f r L w (lost_if true w) refl refl g
    exp_fits (source.Suffixed e ss) f r L sc d aim w n le lv fin a s g =
        let v = exp_written e sc d (Into d) w in
        let kv = exp_kept e sc d (Into d) w in
        let t = suffixes_written ss sc d (want.Count 1) v in
        let kt = suffixes_kept ss sc d (want.Count 1) v in
        let y = where_none ss (want.Count 1) d t in
        let ky = k_none t t ss (want.Count 1) d (kept_self 0 t) in
        let z = lost_if (differ (register aim d) d) y in
        let lt = kt.level (kv.level lv) in
        let ly = ky.level lt in
        let fin_y = fin_back code f r L n y (settled aim d z) fin (k_settled y z aim d (k_lost y y (differ (register aim d) d) (kept_self 0 y))) in
        let fin_t = fin_back code f r L n t y fin_y ky in
        let fin_v = fin_back code f r L n v t fin_t kt in
        let gv = exp_fits e f r L sc d (Into d) w n le lv fin_v tt s g in
        let gt = suffixes_fits ss f r L sc d (want.Count 1) v n (omega (arith, le, kv.more)) (kv.level lv) fin_t s gv in
        g_settled code f r L n aim d z (record { ops = ly.ops; lines = ly.lines }) fin a (g_same code f r L y z refl refl (g_none code f r L n ss (want.Count 1) d t lt fin_y gt))
    exp_fits (source.Unary o line e) f r L sc d aim w n le lv fin a s g =
        let v = exp_written e sc d (Anywhere Nothing) w in
        let kv = exp_kept e sc d (Anywhere Nothing) w in
        let p = shown e sc.names d (Anywhere Nothing) in
        let go = λ (x : ℕ). unary_slot (unary_of o) x d aim line v in
        let fin_v = fin_back code f r L n v (on_slot p v go) fin (k_on v v p go (kept_self 0 v) (λ x. k_unary v v (unary_of o) x d aim line (kept_self 0 v))) in
        let gv = exp_fits e f r L sc d (Anywhere Nothing) w n le lv fin_v tt s g in
        fit_on (λ t. Fin code f r L n t × Aimed r L aim t.at) (λ t. Good code r L t) p v go (fin, a) (λ x h. g_unary code f r L n x d (unary_of o) aim line v (kv.level lv) h.0 h.1 gv) (g_same code f r L v (lost_if true v) refl refl gv)
    exp_fits (source.Chain e NoOperand) f r L sc d aim w n le lv fin a s g = g_same code f r L w (lost_if true w) refl refl g
    exp_fits (source.Chain e (MoreOperands o line x os)) f r L sc d (Into i) w n le lv fin a s g =
        let b = link_aim (link_of o) d in
        let u = exp_written e sc d b w in
        let ku = exp_kept e sc d b w in
        let p = shown e sc.names d b in
        let fin_u = fin_back code f r L n u _ fin (operands_kept (MoreOperands o line x os) sc d (Into i) p u) in
        operands_fits (MoreOperands o line x os) f r L sc d (Into i) p u n (omega (arith, le, ku.more)) (ku.level lv) fin a s (exp_fits e f r L sc d b w n le lv fin_u (link_aimed r L (link_of o) d u.at) s g)
    exp_fits (source.Chain e (MoreOperands o line x os)) f r L sc d (Anywhere room) w n le lv fin a s g =
        let b = link_aim (link_of o) d in
        let u = exp_written e sc d b w in
        let ku = exp_kept e sc d b w in
        let p = shown e sc.names d b in
        let fin_u = fin_back code f r L n u _ fin (operands_kept (MoreOperands o line x os) sc d (Anywhere room) p u) in
        operands_fits (MoreOperands o line x os) f r L sc d (Anywhere room) p u n (omega (arith, le, ku.more)) (ku.level lv) fin a s (exp_fits e f r L sc d b w n le lv fin_u (link_aimed r L (link_of o) d u.at) s g)
    exp_fits (source.Chain e (MoreOperands o line x os)) f r L sc d (Unless l pay) w n le lv fin a s g =
        let ch = MoreOperands o line x os in
        let v = exp_written e sc d (Unless l 0) w in
        let kv = exp_kept e sc d (Unless l 0) w in
        let b = link_aim (link_of o) d in
        let u = exp_written e sc d b w in
        let ku = exp_kept e sc d b w in
        let p = shown e sc.names d b in
        fit_if (λ t. Fin code f r L n t × Ahead r L l t.at) (λ t. Good code r L t) (is_both (link_of o) && all_and os) (ands_written ch sc d (Unless l pay) v) (operands_written ch sc d (Unless l pay) p u) (fin, a)
        (λ all h.
        let ka = ands_kept ch sc d (Unless l pay) v in
        let fin_v = fin_back code f r L n v (ands_written ch sc d (Unless l pay) v) h.0 ka in
        ands_fits (MoreOperands o line x os) f r L sc d l pay v n (omega (arith, le, kv.more)) (kv.level lv) h.0 h.1 s (exp_fits e f r L sc d (Unless l 0) w n le lv fin_v (omega (arith, h.1.0, ka.at), h.1.1) s g))
        (λ some h.
        let fin_u = fin_back code f r L n u (operands_written ch sc d (Unless l pay) p u) h.0 (operands_kept ch sc d (Unless l pay) p u) in
        operands_fits (MoreOperands o line x os) f r L sc d (Unless l pay) p u n (omega (arith, le, ku.more)) (ku.level lv) h.0 h.1 s (exp_fits e f r L sc d b w n le lv fin_u (link_aimed r L (link_of o) d u.at) s g))

    pub ands_fits : (os : Operands) (f : ℕ) (r : Routine) (L : List ℕ) (sc : Scope) (d l pay : ℕ) (w : Writer) (n : ℕ) → n ≤ length w.labels → Level w
        → Fin code f r L n (ands_written os sc d (Unless l pay) w) → Ahead r L l (ands_written os sc d (Unless l pay) w).at → Sees r sc.names → Good code r L w → Good code r L (ands_written os sc d (Unless l pay) w)
    ands_fits NoOperand f r L sc d l pay w n le lv fin a s g = g
    ands_fits (MoreOperands o line e os) f r L sc d l pay w n le lv fin a s g =
        let v = exp_written e sc d (Unless l (and_pay os pay)) w in
        let kv = exp_kept e sc d (Unless l (and_pay os pay)) w in
        let ka = ands_kept os sc d (Unless l pay) v in
        let fin_v = fin_back code f r L n v (ands_written os sc d (Unless l pay) v) fin ka in
        ands_fits os f r L sc d l pay v n (omega (arith, le, kv.more)) (kv.level lv) fin a s (exp_fits e f r L sc d (Unless l (and_pay os pay)) w n le lv fin_v (omega (arith, a.0, ka.at), a.1) s g)

    pub operands_fits : (os : Operands) (f : ℕ) (r : Routine) (L : List ℕ) (sc : Scope) (d : ℕ) (aim : Aim) (p : Operand) (w : Writer) (n : ℕ) → n ≤ length w.labels → Level w
        → Fin code f r L n (operands_written os sc d aim p w) → Aimed r L aim (operands_written os sc d aim p w).at → Sees r sc.names → Good code r L w → Good code r L (operands_written os sc d aim p w)
    operands_fits NoOperand f r L sc d aim p w n le lv fin a s g = g
    operands_fits (MoreOperands o line e os) f r L sc d aim p w n le lv fin a sees g =
        let l = label_of w in
        let x = lost_if (not (is_slot p d)) w in
        let s = labelled x in
        let ls : Level s = record { ops = lv.ops; lines = lv.lines } in
        let long : length s.labels ≡ l + 1 = one_more x in
        let gs = g_same code f r L w s refl refl g in
        let oa = op.Test d l in
        let ob = op.TestNot d l in
        let a1 = put oa s in
        let b1 = put ob s in
        let a2 = exp_written e sc d (Into d) a1 in
        let b2 = exp_written e sc d (Into d) b1 in
        let ka2 = exp_kept e sc d (Into d) a1 in
        let kb2 = exp_kept e sc d (Into d) b1 in
        let a3 = placed_here l a2 in
        let b3 = placed_here l b2 in
        let a4 = last_settled os aim d d a3 in
        let b4 = last_settled os aim d d b3 in
        let A = operands_written os sc d aim (Slot d) a4 in
        let B = operands_written os sc d aim (Slot d) b4 in
        let go = λ (u : Binary).
        operands_written os sc d aim (Slot (so_far os aim d))
        (if tests u os aim p d
        then test_written u p (shown e sc.names (d + 1) (Anywhere (room_for (tests u os aim p d) p (so_far os aim d)))) aim line (exp_written e sc (d + 1) (Anywhere (room_for (tests u os aim p d) p (so_far os aim d))) w)
        else last_settled os aim d (so_far os aim d) (binary_written u (so_far os aim d) p (shown e sc.names (d + 1) (Anywhere (room_for (tests u os aim p d) p (so_far os aim d)))) line (exp_written e sc (d + 1) (Anywhere (room_for (tests u os aim p d) p (so_far os aim d))) w))) in
        fit_link (λ t. Fin code f r L n t × Aimed r L aim t.at) (λ t. Good code r L t) (link_of o) A B go (fin, a)
        (λ h.
        let k4 = k_last a3 a3 os aim d d (kept_self 0 a3) in
        let kA = operands_kept os sc d aim (Slot d) a4 in
        let fin4 = fin_back code f r L n a4 A h.0 kA in
        let fin3 = fin_back code f r L n a3 a4 fin4 k4 in
        let here : place L l ≡ a2.at = label_is code f L n l a2 fin3.final le (omega (arith, long, ka2.more)) in
        let fin2 = fin_below code f r L n l (l + 1) a2 fin3 (omega arith) (omega (arith, le)) in
        let fin1 = fin_back code f r L (l + 1) a1 a2 fin2 ka2 in
        let l1 = (kept_emit 0 oa 0 s).level ls in
        let l3 = same_place l a2 (ka2.level l1) in
        let g1 = g_emit code f r L (l + 1) oa 0 s ls fin1 (omega (arith, here, ka2.at), omega (arith, here, fin2.at)) gs in
        let g2 = exp_fits e f r L sc d (Into d) a1 (l + 1) (omega (arith, long)) l1 fin2 tt sees g1 in
        let g4 = g_last code f r L n os aim d d a3 l3 fin4 (aimed_less r L aim A.at a4.at kA.at h.1) (g_same code f r L a2 a3 refl refl g2) in
        operands_fits os f r L sc d aim (Slot d) a4 n (omega (arith, le, long, ka2.more, set_long l a2, k4.more)) (k4.level l3) h.0 h.1 sees g4)
        (λ h.
        let k4 = k_last b3 b3 os aim d d (kept_self 0 b3) in
        let kB = operands_kept os sc d aim (Slot d) b4 in
        let fin4 = fin_back code f r L n b4 B h.0 kB in
        let fin3 = fin_back code f r L n b3 b4 fin4 k4 in
        let here : place L l ≡ b2.at = label_is code f L n l b2 fin3.final le (omega (arith, long, kb2.more)) in
        let fin2 = fin_below code f r L n l (l + 1) b2 fin3 (omega arith) (omega (arith, le)) in
        let fin1 = fin_back code f r L (l + 1) b1 b2 fin2 kb2 in
        let l1 = (kept_emit 0 ob 0 s).level ls in
        let l3 = same_place l b2 (kb2.level l1) in
        let g1 = g_emit code f r L (l + 1) ob 0 s ls fin1 (omega (arith, here, kb2.at), omega (arith, here, fin2.at)) gs in
        let g2 = exp_fits e f r L sc d (Into d) b1 (l + 1) (omega (arith, long)) l1 fin2 tt sees g1 in
        let g4 = g_last code f r L n os aim d d b3 l3 fin4 (aimed_less r L aim B.at b4.at kB.at h.1) (g_same code f r L b2 b3 refl refl g2) in
        operands_fits os f r L sc d aim (Slot d) b4 n (omega (arith, le, long, kb2.more, set_long l b2, k4.more)) (k4.level l3) h.0 h.1 sees g4)
        (λ u h.
        let i = so_far os aim d in
        let room = Anywhere (room_for (tests u os aim p d) p i) in
        let v = exp_written e sc (d + 1) room w in
        let kv = exp_kept e sc (d + 1) room w in
        let q = shown e sc.names (d + 1) room in
        let y = test_written u p q aim line v in
        let b = binary_written u i p q line v in
        let kb = k_binary v v u i p q line (kept_self 0 v) in
        let z = last_settled os aim d i b in
        let kz = k_last b b os aim d i (kept_self 0 b) in
        let t = if tests u os aim p d then y else z in
        let kt = k_if v y z (tests u os aim p d) (k_test v v u p q aim line (kept_self 0 v)) (on v b z kb kz) in
        let ko = operands_kept os sc d aim (Slot i) t in
        let fin_t = fin_back code f r L n t (operands_written os sc d aim (Slot i) t) h.0 ko in
        let fin_v = fin_back code f r L n v t fin_t kt in
        let lvv = kv.level lv in
        let gv = exp_fits e f r L sc (d + 1) room w n le lv fin_v tt sees g in
        let gt = fit_if (λ c. Fin code f r L n c × Aimed r L aim c.at) (λ c. Good code r L c) (tests u os aim p d) y z (fin_t, aimed_less r L aim (operands_written os sc d aim (Slot i) t).at t.at ko.at h.1)
        (λ k j. g_test code f r L n u p q aim line v lvv j.0 j.1 gv)
        (λ k j. g_last code f r L n os aim d i b (kb.level lvv) j.0 j.1 (g_binary code f r L n u i p q line v lvv (fin_back code f r L n b z j.0 kz) gv)) in
        operands_fits os f r L sc d aim (Slot i) t n (omega (arith, le, kv.more, kt.more)) (kt.level lvv) h.0 h.1 sees gt)

    pub suffixes_fits : (ss : Suffixes) (f : ℕ) (r : Routine) (L : List ℕ) (sc : Scope) (d : ℕ) (a : Want) (w : Writer) (n : ℕ) → n ≤ length w.labels → Level w
        → Fin code f r L n (suffixes_written ss sc d a w) → Sees r sc.names → Good code r L w → Good code r L (suffixes_written ss sc d a w)
    suffixes_fits NoSuffix f r L sc d a w n le lv fin s g = g
    suffixes_fits (MoreSuffixes (source.Call es line) ss) f r L sc d a w n le lv fin sees g =
        let i = suffix_want ss a in
        let bg = put op.Begin w in
        let s = put (op.Push d) bg in
        let lbg = (kept_emit 0 op.Begin 0 w).level lv in
        let ls = (kept_emit 0 (op.Push d) 0 bg).level lbg in
        let ks = k_put w bg (op.Push d) (k_put w w op.Begin (kept_self 0 w)) in
        let x = fixed_written es sc (d + 1) w in
        let y = list_written es sc d s in
        let kx = fixed_kept es sc (d + 1) w in
        let ky = list_kept es sc d s in
        let cx = called i d (count es) line x in
        let cy = called_list i d line y in
        let v = if slots_fit es then cx else cy in
        let kv = k_if w cx cy (slots_fit es) (k_called w x i d (count es) line kx) (k_called_list w y i d line (on w s y ks ky)) in
        let fin_v = fin_back code f r L n v (suffixes_written ss sc d a v) fin (suffixes_kept ss sc d a v) in
        let gv = fit_if (λ t. Fin code f r L n t) (λ t. Good code r L t) (slots_fit es) cx cy fin_v
        (λ b h. let fin_x = fin_back code f r L n x cx h (k_called x x i d (count es) line (kept_self 0 x)) in
        g_called code f r L n i d (count es) line x (kx.level lv) h (fixed_fits es f r L sc (d + 1) w n le lv fin_x sees g))
        (λ b h. let fin_y = fin_back code f r L n y cy h (k_called_list y y i d line (kept_self 0 y)) in
        let fin_s = fin_back code f r L n s y fin_y ky in
        let gs = g_emit code f r L n (op.Push d) 0 bg lbg fin_s tt (g_emit code f r L n op.Begin 0 w lv (fin_back code f r L n bg s fin_s (k_put bg bg (op.Push d) (kept_self 0 bg))) tt g) in
        g_called_list code f r L n i d line y (ky.level ls) h (list_fits es f r L sc d s n (omega (arith, le, ks.more)) ls fin_y sees gs)) in
        suffixes_fits ss f r L sc d a v n (omega (arith, le, kv.more)) (kv.level lv) fin sees gv
    suffixes_fits (MoreSuffixes (source.Index e line) ss) f r L sc d a w n le lv fin s g = g_same code f r L w (lost_if true w) refl refl g
    suffixes_fits (MoreSuffixes (source.Method x at es line) ss) f r L sc d a w n le lv fin s g = g_same code f r L w (lost_if true w) refl refl g

    pub fixed_fits : (es : Exps) (f : ℕ) (r : Routine) (L : List ℕ) (sc : Scope) (i : ℕ) (w : Writer) (n : ℕ) → n ≤ length w.labels → Level w
        → Fin code f r L n (fixed_written es sc i w) → Sees r sc.names → Good code r L w → Good code r L (fixed_written es sc i w)
    fixed_fits NoExp f r L sc i w n le lv fin s g = g
    fixed_fits (MoreExps e es) f r L sc i w n le lv fin s g =
        let v = exp_written e sc i (Into i) w in
        let kv = exp_kept e sc i (Into i) w in
        fixed_fits es f r L sc (i + 1) v n (omega (arith, le, kv.more)) (kv.level lv) fin s (exp_fits e f r L sc i (Into i) w n le lv (fin_back code f r L n v _ fin (fixed_kept es sc (i + 1) v)) tt s g)

    pub values_fits : (es : Exps) (m : ℕ) (f : ℕ) (r : Routine) (L : List ℕ) (sc : Scope) (i : ℕ) (w : Writer) (n : ℕ) → n ≤ length w.labels → Level w
        → Fin code f r L n (values_written es m sc i w) → Sees r sc.names → Good code r L w → Good code r L (values_written es m sc i w)
    values_fits NoExp m f r L sc i w n le lv fin s g = g_nils code f r L n i m w lv fin g
    values_fits (MoreExps e NoExp) m f r L sc i w n le lv fin s g =
        let v = exp_written e sc i (Into i) w in
        let kv = exp_kept e sc i (Into i) w in
        fit_if (λ t. Fin code f r L n t) (λ t. Good code r L t) (is_many e) (many_written e m sc i w) (nils_written (i + 1) (m - 1) v) fin
        (λ b h. many_fits e m f r L sc i w n le lv h s g)
        (λ b h. g_nils code f r L n (i + 1) (m - 1) v (kv.level lv) h (exp_fits e f r L sc i (Into i) w n le lv (fin_back code f r L n v (nils_written (i + 1) (m - 1) v) h (k_nils v v (i + 1) (m - 1) (kept_self 0 v))) tt s g))
    values_fits (MoreExps e (MoreExps x es)) m f r L sc i w n le lv fin s g =
        let v = exp_written e sc i (Into i) w in
        let kv = exp_kept e sc i (Into i) w in
        values_fits (MoreExps x es) (m - 1) f r L sc (following m i) v n (omega (arith, le, kv.more)) (kv.level lv) fin s
        (exp_fits e f r L sc i (Into i) w n le lv (fin_back code f r L n v _ fin (values_kept (MoreExps x es) (m - 1) sc (following m i) v)) tt s g)

    pub many_fits : (e : Exp) (m : ℕ) (f : ℕ) (r : Routine) (L : List ℕ) (sc : Scope) (i : ℕ) (w : Writer) (n : ℕ) → n ≤ length w.labels → Level w
        → Fin code f r L n (many_written e m sc i w) → Sees r sc.names → Good code r L w → Good code r L (many_written e m sc i w)
    many_fits source.Dots m f r L sc i w n le lv fin s g = g_emit code f r L n (op.DotsTo i m) 0 w lv fin tt g
    many_fits (source.Suffixed e ss) m f r L sc i w n le lv fin s g =
        let v = exp_written e sc i (Into i) w in
        let kv = exp_kept e sc i (Into i) w in
        let t = suffixes_written ss sc i (want.Count m) v in
        let kt = suffixes_kept ss sc i (want.Count m) v in
        let fin_t = fin_back code f r L n t _ fin (k_none t t ss (want.Count m) i (kept_self 0 t)) in
        let fin_v = fin_back code f r L n v t fin_t kt in
        g_none code f r L n ss (want.Count m) i t (kt.level (kv.level lv)) fin
        (suffixes_fits ss f r L sc i (want.Count m) v n (omega (arith, le, kv.more)) (kv.level lv) fin_t s (exp_fits e f r L sc i (Into i) w n le lv fin_v tt s g))
    many_fits _ m f r L sc i w n le lv fin s g = g

    pub list_fits : (es : Exps) (f : ℕ) (r : Routine) (L : List ℕ) (sc : Scope) (d : ℕ) (w : Writer) (n : ℕ) → n ≤ length w.labels → Level w
        → Fin code f r L n (list_written es sc d w) → Sees r sc.names → Good code r L w → Good code r L (list_written es sc d w)
    list_fits NoExp f r L sc d w n le lv fin s g = g
    list_fits (MoreExps e NoExp) f r L sc d w n le lv fin s g =
        let v = exp_written e sc d (Anywhere Nothing) w in
        let kv = exp_kept e sc d (Anywhere Nothing) w in
        let p = shown e sc.names d (Anywhere Nothing) in
        let go = λ (x : ℕ). put (op.Push x) v in
        fit_if (λ t. Fin code f r L n t) (λ t. Good code r L t) (is_many e) (all_written e sc d w) (on_slot p v go) fin
        (λ b h. all_fits e f r L sc d w n le lv h s g)
        (λ b h. let fin_v = fin_back code f r L n v (on_slot p v go) h (k_on v v p go (kept_self 0 v) (λ x. k_put v v (op.Push x) (kept_self 0 v))) in
        g_on code f r L n p v go h (λ x fi. g_emit code f r L n (op.Push x) 0 v (kv.level lv) fi tt (exp_fits e f r L sc d (Anywhere Nothing) w n le lv fin_v tt s g)) (exp_fits e f r L sc d (Anywhere Nothing) w n le lv fin_v tt s g))
    list_fits (MoreExps e (MoreExps i es)) f r L sc d w n le lv fin s g =
        let v = exp_written e sc d (Anywhere Nothing) w in
        let kv = exp_kept e sc d (Anywhere Nothing) w in
        let p = shown e sc.names d (Anywhere Nothing) in
        let go = λ (x : ℕ). put (op.Push x) v in
        let u = on_slot p v go in
        let ku = k_on v v p go (kept_self 0 v) (λ x. k_put v v (op.Push x) (kept_self 0 v)) in
        let fin_u = fin_back code f r L n u _ fin (list_kept (MoreExps i es) sc d u) in
        let gv = exp_fits e f r L sc d (Anywhere Nothing) w n le lv (fin_back code f r L n v u fin_u ku) tt s g in
        let gu = g_on code f r L n p v go fin_u (λ x fi. g_emit code f r L n (op.Push x) 0 v (kv.level lv) fi tt gv) gv in
        list_fits (MoreExps i es) f r L sc d u n (omega (arith, le, kv.more, ku.more)) (ku.level (kv.level lv)) fin s gu

    pub all_fits : (e : Exp) (f : ℕ) (r : Routine) (L : List ℕ) (sc : Scope) (d : ℕ) (w : Writer) (n : ℕ) → n ≤ length w.labels → Level w
        → Fin code f r L n (all_written e sc d w) → Sees r sc.names → Good code r L w → Good code r L (all_written e sc d w)
    all_fits source.Dots f r L sc d w n le lv fin s g =
        let v = put op.Dots w in
        g_emit code f r L n op.Append 0 v ((kept_emit 0 op.Dots 0 w).level lv) fin tt (g_emit code f r L n op.Dots 0 w lv (fin_back code f r L n v (put op.Append v) fin (k_put v v op.Append (kept_self 0 v))) tt g)
    all_fits (source.Suffixed e ss) f r L sc d w n le lv fin s g =
        let v = exp_written e sc d (Into d) w in
        let kv = exp_kept e sc d (Into d) w in
        let t = suffixes_written ss sc d want.AsList v in
        let kt = suffixes_kept ss sc d want.AsList v in
        let lt = kt.level (kv.level lv) in
        let y = where_none ss want.AsList d t in
        let ky = k_none t t ss want.AsList d (kept_self 0 t) in
        let fin_y = fin_back code f r L n y (put op.Append y) fin (k_put y y op.Append (kept_self 0 y)) in
        let fin_t = fin_back code f r L n t y fin_y ky in
        let fin_v = fin_back code f r L n v t fin_t kt in
        g_emit code f r L n op.Append 0 y (ky.level lt) fin tt (g_none code f r L n ss want.AsList d t lt fin_y
        (suffixes_fits ss f r L sc d want.AsList v n (omega (arith, le, kv.more)) (kv.level lv) fin_t s (exp_fits e f r L sc d (Into d) w n le lv fin_v tt s g)))
    all_fits _ f r L sc d w n le lv fin s g = g

    pub tail_fits : (es : Exps) (f : ℕ) (r : Routine) (L : List ℕ) (sc : Scope) (d : ℕ) (w : Writer) (n : ℕ) → n ≤ length w.labels → Level w
        → Fin code f r L n (tail_written es sc d w) → Sees r sc.names → Good code r L w → Good code r L (tail_written es sc d w)
    tail_fits (MoreExps (source.Suffixed e ss) NoExp) f r L sc d w n le lv fin s g =
        let v = exp_written e sc d (Into d) w in
        let kv = exp_kept e sc d (Into d) w in
        let t = suffixes_written ss sc d want.AsResult v in
        let kt = suffixes_kept ss sc d want.AsResult v in
        let fin_t = fin_back code f r L n t _ fin (k_none t t ss want.AsResult d (kept_self 0 t)) in
        let fin_v = fin_back code f r L n v t fin_t kt in
        g_none code f r L n ss want.AsResult d t (kt.level (kv.level lv)) fin
        (suffixes_fits ss f r L sc d want.AsResult v n (omega (arith, le, kv.more)) (kv.level lv) fin_t s (exp_fits e f r L sc d (Into d) w n le lv fin_v tt s g))
    tail_fits _ f r L sc d w n le lv fin s g = g

    pub only_fits : (es : Exps) (f : ℕ) (r : Routine) (L : List ℕ) (sc : Scope) (d : ℕ) (aim : Aim) (w : Writer) (n : ℕ) → n ≤ length w.labels → Level w
        → Fin code f r L n (only_written es sc d aim w) → Aimed r L aim (only_written es sc d aim w).at → Sees r sc.names → Good code r L w → Good code r L (only_written es sc d aim w)
    only_fits (MoreExps e NoExp) f r L sc d aim w n le lv fin a s g = exp_fits e f r L sc d aim w n le lv fin a s g
    only_fits _ f r L sc d aim w n le lv fin a s g = g

    pub body_fits : (p : Body) (names : List Known) (w : Writer) (g : ℕ) → ((k : ℕ) (h : Routine) → slice_get (body_written p names w).made k ≡ Some h → slice_get code k ≡ Some h) → slice_get code g ≡ Some (done (body_written p names w))
        → (body_written p names w).lost ≡ false → ((k : ℕ) (h : Routine) → slice_get w.made k ≡ Some h → IsValidFunction code h)
        → ((k : ℕ) (h : Routine) → slice_get (body_written p names w).made k ≡ Some h → IsValidFunction code h) × IsValidFunction code (done (body_written p names w)) × ((done (body_written p names w)).captures ≡ captures_of names)
    body_fits (body xs dots p) names w g made there found ok =
        let outer : Scope = record { names = seen_inside 0 names; free = 0; cells = 0 } in
        let v = begun (record { params = length xs; pay = suc (prepay p); has_dots = dots; slots = length xs; cells = 0 }) names w in
        let sc = all_known xs outer v.flags v.locals in
        let u = declare_all xs outer v in
        let b = block_written p sc (prepay p) None u in
        let o = op.Return 0 0 in
        let end = put o b in
        let L = end.labels in
        let r = done end in
        let ku = k_declare_all v v xs outer (kept_self 0 v) in
        let kb = block_kept p sc (prepay p) None u in
        let kvb = on v u b ku kb in
        let kend = k_put v b o kvb in
        let lv : Level v = record { ops = refl; lines = refl } in
        let lu = ku.level lv in
        let lb = kb.level lu in
        let lend = (kept_emit 0 o 0 b).level lb in
        let final : Final code g L 0 end = record {
          ops = λ k i e. subst (λ (h : Option Routine). slice_get (ops_of h) k ≡ Some (placed L i)) (sym there) (get_map (placed L) end.draft.ops k i e);
          lines = λ k z e. subst (λ (h : Option Routine). slice_get (lines_of h) k ≡ Some z) (sym there) e;
          constants = λ k c e. subst (λ (h : Option Routine). slice_get (constants_of h) k ≡ Some c) (sym there) e;
          made = made;
          labels = λ k z h e. own L k z e;
          found = found;
        } in
        let long : length r.ops ≡ b.at + 1 = length-map (placed L) end.draft.ops ∙ sym lend.ops in
        let kbe = k_put b b o (kept_self 0 b) in
        let fin_b : Fin code g r L 0 b = record {
          final = back code g L 0 b end final kbe;
          slots = kbe.slots;
          cells = kbe.cells;
          at = omega (arith, long);
          constants = λ k c e. slice_get_within r.constants k c (kbe.constants k c e);
        } in
        let fin_u = fin_back code g r L 0 u b fin_b kb in
        let sees : Sees r outer.names = seen_fits r.shape.cells (length r.captures) names 0 (let e : length r.captures ≡ length (captures_of names) = ap length kend.captures in omega (arith, e)) in
        let gv : Good code r L v = record { fit = record { each = λ k i e. absurd (cc) }; made = ok } in
        let gu = g_declare code g r L 0 xs outer v lv fin_u sees gv in
        let gb = block_fits p g r L sc (prepay p) None u 0 (omega arith) lu fin_b tt gu.1 gu.0 in
        let P = λ (k : ℕ) (i : Op). Fits code r k (placed L i) in
        let stop : P b.at o = omega arith in
        let all = λ (k : ℕ) (i : Op) (e : slice_get end.draft.ops k ≡ Some i).
        (let z : 0 + k ≡ k = omega arith in
        subst (λ j. P j i) z (at_end P b.draft.ops o 0 (λ j q h. zero_on (λ x. P x q) j (gb.0.fit.each j q h)) (zero_on (λ x. P x o) (length b.draft.ops) (subst (λ x. P x o) lb.ops stop)) k i e)) in
        let fits : AllFit code r = record { fit = λ k i e. (let t = get_placed L end.draft.ops k i e in subst (λ q. Fits code r k q) t.2 (all k t.0 t.1)) } in
        let params : r.shape.params ≤ r.shape.slots = omega (arith, kend.params, kend.slots) in
        let lines : length r.lines ≡ length r.ops = sym lend.lines ∙ lend.ops ∙ sym (length-map (placed L) end.draft.ops) in
        let pay : 0 < r.shape.pay = omega (arith, kend.pay) in
        let whole : Whole r = (omega (arith, long), lines, params, pay) in
        (gb.0.made, record { whole = whole; ops = fits }, kend.captures)

    pub block_fits : (p : Block) (f : ℕ) (r : Routine) (L : List ℕ) (sc : Scope) (k : ℕ) (exit : Option ℕ) (w : Writer) (n : ℕ) → n ≤ length w.labels → Level w
        → Fin code f r L n (block_written p sc k exit w) → Leaves r L exit (block_written p sc k exit w).at → Sees r sc.names → Good code r L w → Good code r L (block_written p sc k exit w) × Sees r (block_known p sc k exit w).names
    block_fits (Plain ts) f r L sc k exit w n le lv fin x s g = stats_fits ts f r L sc k exit w n le lv fin x s g
    block_fits (Returns ts es) f r L sc k exit w n le lv fin x s g =
        let v = stats_written ts sc k exit w in
        let kv = stats_kept ts sc k exit w in
        let inner = stats_known ts sc k exit w in
        let d = inner.free in
        let lvv = kv.level lv in
        let le' : n ≤ length v.labels = omega (arith, le, kv.more) in
        let kr = returned_kept es inner v in
        let fin_v = fin_back code f r L n v (block_written (Returns ts es) sc k exit w) fin kr in
        let gv = stats_fits ts f r L sc k exit w n le lv fin_v (leaves_less r L exit (block_written (Returns ts es) sc k exit w).at v.at kr.at x) s g in
        let a = Anywhere Nothing in
        let one = only_written es inner d a v in
        let kone = only_kept es inner d a v in
        let go = λ (z : ℕ). put (op.Return z 1) one in
        let os = on_slot (only_shown es inner.names d a) one go in
        let fx = fixed_written es inner d v in
        let fo = op.Return d (count es) in
        let bg = put op.Begin v in
        let ls = list_written es inner d bg in
        let X = λ (t : Writer). Fin code f r L n t in
        let Y = λ (t : Writer). Good code r L t in (
          fit_if X Y (is_tail es) (tail_written es inner d v) (if is_only es then os else if slots_fit es then put fo fx else put op.ReturnList ls) fin
              (λ b h. tail_fits es f r L inner d v n le' lvv h gv.1 gv.0)
              (λ b h. fit_if X Y (is_only es) os (if slots_fit es then put fo fx else put op.ReturnList ls) h
              (λ b2 h2. let fin_one = fin_back code f r L n one os h2 (k_on one one (only_shown es inner.names d a) go (kept_self 0 one) (λ z. k_put one one (op.Return z 1) (kept_self 0 one))) in
              let g1 = only_fits es f r L inner d a v n le' lvv fin_one tt gv.1 gv.0 in
              g_on code f r L n (only_shown es inner.names d a) one go h2 (λ z fi. g_emit code f r L n (op.Return z 1) 0 one (kone.level lvv) fi tt g1) g1)
              (λ b2 h2. fit_if X Y (slots_fit es) (put fo fx) (put op.ReturnList ls) h2
              (λ b3 h3. g_emit code f r L n fo 0 fx ((fixed_kept es inner d v).level lvv) h3 tt
              (fixed_fits es f r L inner d v n le' lvv (fin_back code f r L n fx (put fo fx) h3 (k_put fx fx fo (kept_self 0 fx))) gv.1 gv.0))
              (λ b3 h3. let fin_l = fin_back code f r L n ls (put op.ReturnList ls) h3 (k_put ls ls op.ReturnList (kept_self 0 ls)) in
              let lbg = (kept_emit 0 op.Begin 0 v).level lvv in
              let kl = list_kept es inner d bg in
              let gb = g_emit code f r L n op.Begin 0 v lvv (fin_back code f r L n bg ls fin_l kl) tt gv.0 in
              g_emit code f r L n op.ReturnList 0 ls (kl.level lbg) h3 tt (list_fits es f r L inner d bg n le' lbg fin_l gv.1 gb)))),
          gv.1,
        )

    pub stats_fits : (ts : Stats) (f : ℕ) (r : Routine) (L : List ℕ) (sc : Scope) (k : ℕ) (exit : Option ℕ) (w : Writer) (n : ℕ) → n ≤ length w.labels → Level w
        → Fin code f r L n (stats_written ts sc k exit w) → Leaves r L exit (stats_written ts sc k exit w).at → Sees r sc.names → Good code r L w → Good code r L (stats_written ts sc k exit w) × Sees r (stats_known ts sc k exit w).names
    stats_fits NoStat f r L sc k exit w n le lv fin x s g = (g_same code f r L w (lost_if (differ k 0) w) refl refl g, s)
    stats_fits (MoreStats t ts) f r L sc k exit w n le lv fin x s g =
        let v = stat_written t sc k exit w in
        let kv = stat_kept t sc k exit w in
        let after = stat_known t sc k exit w in
        let ks = stats_kept ts after 0 exit v in
        let h = stat_fits t f r L sc k exit w n le lv (fin_back code f r L n v _ fin ks) (leaves_less r L exit (stats_written ts after 0 exit v).at v.at ks.at x) s g in
        stats_fits ts f r L after 0 exit v n (omega (arith, le, kv.more)) (kv.level lv) fin x h.1 h.0

    pub stat_fits : (t : Stat) (f : ℕ) (r : Routine) (L : List ℕ) (sc : Scope) (k : ℕ) (exit : Option ℕ) (w : Writer) (n : ℕ) → n ≤ length w.labels → Level w
        → Fin code f r L n (stat_written t sc k exit w) → Leaves r L exit (stat_written t sc k exit w).at → Sees r sc.names → Good code r L w → Good code r L (stat_written t sc k exit w) × Sees r (stat_known t sc k exit w).names
    stat_fits (source.Assign ts es) f r L sc k exit w n le lv fin x s g =
        let v = ticked k w in
        let kv = k_ticked w w k (kept_self 0 w) in
        let lvv = kv.level lv in
        let le' : n ≤ length v.labels = omega (arith, le, kv.more) in
        let d = sc.free in
        let vals = λ (xs : List Text). values_written es (length xs) sc d v in
        let regs = λ (xs : List Text). stores_written (from_slots xs d []) d sc.names (vals xs) in
        let one = λ (i : ℕ). only_written es sc d (Into i) v in
        let bg = put op.Begin v in
        let ls = list_written es sc d bg in
        let items = λ (xs : List Text). stores_written (from_items xs 0 []) d sc.names ls in
        let slots = λ (xs : List Text). directly (only_slot xs sc.names) (only_direct es) (regs xs) one in
        let X = λ (t : Writer). Fin code f r L n t in
        let Y = λ (t : Writer). Good code r L t in (
          fit_targets X Y (variables ts) w (λ xs. if targets_fit xs then slots xs else put (op.Spread d 0) (items xs)) fin
              (λ xs h0. fit_if X Y (targets_fit xs) (slots xs) (put (op.Spread d 0) (items xs)) h0
              (λ b h. fit_directly X Y (only_slot xs sc.names) (only_direct es) (regs xs) one h
              (λ i h2. let ko = only_kept es sc d (Into i) v in
              only_fits es f r L sc d (Into i) v n le' lvv h2 tt s (g_ticked code f r L n k w lv (fin_back code f r L n v (one i) h2 ko) g))
              (λ h2. let u = vals xs in
              let ku = values_kept es (length xs) sc d v in
              let ks = k_stores u u (from_slots xs d []) d sc.names (kept_self 0 u) in
              let fin_u = fin_back code f r L n u (regs xs) h2 ks in
              let gv = g_ticked code f r L n k w lv (fin_back code f r L n v u fin_u ku) g in
              g_stores code f r L n (from_slots xs d []) d sc.names u (ku.level lvv) h2 s (values_fits es (length xs) f r L sc d v n le' lvv fin_u s gv)))
              (λ b h. let x = items xs in
              let kx = k_stores ls ls (from_items xs 0 []) d sc.names (kept_self 0 ls) in
              let kl = list_kept es sc d bg in
              let lbg = (kept_emit 0 op.Begin 0 v).level lvv in
              let fin_x = fin_back code f r L n x (put (op.Spread d 0) x) h (k_put x x (op.Spread d 0) (kept_self 0 x)) in
              let fin_l = fin_back code f r L n ls x fin_x kx in
              let fin_b = fin_back code f r L n bg ls fin_l kl in
              let gv = g_ticked code f r L n k w lv (fin_back code f r L n v bg fin_b (k_put v v op.Begin (kept_self 0 v))) g in
              let gl = list_fits es f r L sc d bg n le' lbg fin_l s (g_emit code f r L n op.Begin 0 v lvv fin_b tt gv) in
              let lls = kl.level lbg in
              g_emit code f r L n (op.Spread d 0) 0 x (kx.level lls) h tt (g_stores code f r L n (from_items xs 0 []) d sc.names ls lls fin_x s gl)))
              (g_same code f r L w (lost_if true w) refl refl g),
          s,
        )
    stat_fits (source.Invoke e) f r L sc k exit w n le lv fin x s g =
        let v = ticked k w in
        let kv = k_ticked w w k (kept_self 0 w) in
        let lvv = kv.level lv in
        let le' : n ≤ length v.labels = omega (arith, le, kv.more) in
        let d = sc.free in
        let a = Anywhere Nothing in (
          fit_if (λ t. Fin code f r L n t) (λ t. Good code r L t) (is_many e) (many_written e 0 sc d v) (exp_written e sc d a v) fin
              (λ b h. many_fits e 0 f r L sc d v n le' lvv h s (g_ticked code f r L n k w lv (fin_back code f r L n v _ h (many_kept e 0 sc d v)) g))
              (λ b h. exp_fits e f r L sc d a v n le' lvv h tt s (g_ticked code f r L n k w lv (fin_back code f r L n v _ h (exp_kept e sc d a v)) g)),
          s,
        )
    stat_fits source.Break f r L sc k exit w n le lv fin x s g =
        let v = ticked k w in
        let kv = k_ticked w w k (kept_self 0 w) in
        (g_jumped code f r L n exit v (kv.level lv) fin x (g_ticked code f r L n k w lv (fin_back code f r L n v (jumped exit v) fin (k_jumped v v exit (kept_self 0 v))) g), s)
    stat_fits (source.Do p) f r L sc k exit w n le lv fin x s g =
        let m = prepay p in
        let v = ticked_more k m w in
        let kv = k_ticked_more w w k m (kept_self 0 w) in
        let kb = block_kept p sc (paid_before k m) exit v in
        let gv = g_ticked_more code f r L n k m w lv (fin_back code f r L n v _ fin kb) g in
        ((block_fits p f r L sc (paid_before k m) exit v n (omega (arith, le, kv.more)) (kv.level lv) fin x s gv).0, s)
    stat_fits (source.While e p) f r L sc k exit w n le lv fin x sees g =
        let m = prepay p in
        let v = ticked k w in
        let kv = k_ticked w w k (kept_self 0 w) in
        let lvv = kv.level lv in
        let l = label_of v in
        let le' : n ≤ l = omega (arith, le, kv.more) in
        let s = labelled (labelled (labelled v)) in
        let ls : Level s = record { ops = lvv.ops; lines = lvv.lines } in
        let jo = op.Jump (l + 1) in
        let j = put jo s in
        let u = placed_here (l + 2) j in
        let lu = same_place (l + 2) j ((kept_emit 0 jo 0 s).level ls) in
        let b = block_written p sc m (Some l) u in
        let kb = block_kept p sc m (Some l) u in
        let t = placed_here (l + 1) b in
        let lt = same_place (l + 1) b (kb.level lu) in
        let c = exp_written e sc sc.free (Unless l 0) t in
        let kc = exp_kept e sc sc.free (Unless l 0) t in
        let o = op.Loop (suc m) (l + 2) in
        let z = put o c in
        let long : l + 3 ≤ length u.labels = omega (arith, three_more v, set_long (l + 2) j) in
        let out_at : place L l ≡ z.at = label_is code f L n l z fin.final le' (omega (arith, long, kb.more, set_long (l + 1) b, kc.more)) in
        let fin_z = fin_below code f r L n l (l + 1) z fin (omega arith) (omega (arith, le')) in
        let fin_c = fin_back code f r L (l + 1) c z fin_z (k_put c c o (kept_self 0 c)) in
        let fin_t = fin_back code f r L (l + 1) t c fin_c kc in
        let cond_at : place L (l + 1) ≡ b.at = label_is code f L (l + 1) (l + 1) b fin_t.final (omega arith) (omega (arith, long, kb.more)) in
        let fin_b = fin_below code f r L (l + 1) (l + 1) (l + 2) b fin_t (omega arith) (omega arith) in
        let fin_u = fin_back code f r L (l + 2) u b fin_b kb in
        let body_at : place L (l + 2) ≡ j.at = label_is code f L (l + 2) (l + 2) j fin_u.final (omega arith) (omega (arith, three_more v)) in
        let fin_j = fin_below code f r L (l + 2) (l + 2) (l + 3) j fin_u (omega arith) (omega arith) in
        let fin_v = fin_back code f r L (l + 3) v j fin_j (k_put v s jo (labelled_three v v (kept_self 0 v))) in
        let gv = g_ticked code f r L (l + 3) k w lv fin_v g in
        let gj = g_emit code f r L (l + 3) jo 0 s ls fin_j (omega (arith, cond_at, kb.at), omega (arith, cond_at, fin_b.at)) (g_same code f r L v s refl refl gv) in
        let gb = block_fits p f r L sc m (Some l) u (l + 2) (omega (arith, long)) lu fin_b (omega (arith, out_at, kc.at), omega (arith, out_at, fin_z.at)) sees (g_same code f r L j u refl refl gj) in
        let gc = exp_fits e f r L sc sc.free (Unless l 0) t (l + 1) (omega (arith, long, kb.more, set_long (l + 1) b)) lt fin_c (omega (arith, out_at), omega (arith, out_at, fin_z.at)) sees (g_same code f r L b t refl refl gb.0) in
        (g_same code f r L z (placed_here l z) refl refl (g_emit code f r L (l + 1) o 0 c (kc.level lt) fin_z (omega arith, omega (arith, body_at, fin_j.at)) gc), sees)
    stat_fits (source.Repeat p e) f r L sc k exit w n le lv fin x sees g =
        let m = prepay p in
        let v = ticked_twice k m w in
        let kv = k_ticked_twice w w k m (kept_self 0 w) in
        let lvv = kv.level lv in
        let l = label_of v in
        let le' : n ≤ l = omega (arith, le, kv.more) in
        let s = labelled (labelled (labelled v)) in
        let ls : Level s = record { ops = lvv.ops; lines = lvv.lines } in
        let u = placed_here (l + 2) s in
        let lu = same_place (l + 2) s ls in
        let b = block_written p sc m (Some l) u in
        let kb = block_kept p sc m (Some l) u in
        let lb = kb.level lu in
        let inner = block_known p sc m (Some l) u in
        let t = exp_written e inner inner.free (Unless (l + 1) 0) b in
        let kt = exp_kept e inner inner.free (Unless (l + 1) 0) b in
        let lt = kt.level lb in
        let jo = op.Jump l in
        let j = put jo t in
        let i = placed_here (l + 1) j in
        let li = same_place (l + 1) j ((kept_emit 0 jo 0 t).level lt) in
        let o = op.Loop (suc m) (l + 2) in
        let z = put o i in
        let long : l + 3 ≤ length u.labels = omega (arith, three_more v, set_long (l + 2) s) in
        let out_at : place L l ≡ z.at = label_is code f L n l z fin.final le' (omega (arith, long, kb.more, kt.more, set_long (l + 1) j)) in
        let fin_z = fin_below code f r L n l (l + 1) z fin (omega arith) (omega (arith, le')) in
        let fin_i = fin_back code f r L (l + 1) i z fin_z (k_put i i o (kept_self 0 i)) in
        let again_at : place L (l + 1) ≡ j.at = label_is code f L (l + 1) (l + 1) j fin_i.final (omega arith) (omega (arith, long, kb.more, kt.more)) in
        let fin_j = fin_below code f r L (l + 1) (l + 1) (l + 2) j fin_i (omega arith) (omega arith) in
        let fin_t = fin_back code f r L (l + 2) t j fin_j (k_put t t jo (kept_self 0 t)) in
        let fin_b = fin_back code f r L (l + 2) b t fin_t kt in
        let fin_u = fin_back code f r L (l + 2) u b fin_b kb in
        let body_at : place L (l + 2) ≡ v.at = label_is code f L (l + 2) (l + 2) s fin_u.final (omega arith) (omega (arith, three_more v)) in
        let fin_s = fin_below code f r L (l + 2) (l + 2) (l + 3) s fin_u (omega arith) (omega arith) in
        let fin_v = fin_back code f r L (l + 3) v s fin_s (labelled_three v v (kept_self 0 v)) in
        let gv = g_ticked_twice code f r L (l + 3) k m w lv fin_v g in
        let gb = block_fits p f r L sc m (Some l) u (l + 2) (omega (arith, long)) lu fin_b (omega (arith, out_at, kt.at), omega (arith, out_at, fin_z.at)) sees (g_same code f r L v u refl refl gv) in
        let gt = exp_fits e f r L inner inner.free (Unless (l + 1) 0) b (l + 2) (omega (arith, long, kb.more)) lb fin_t (omega (arith, again_at), omega (arith, again_at, fin_j.at)) gb.1 gb.0 in
        let gj = g_emit code f r L (l + 2) jo 0 t lt fin_j (omega (arith, out_at), omega (arith, out_at, fin_z.at)) gt in
        (g_same code f r L z (placed_here l z) refl refl (g_emit code f r L (l + 1) o 0 i li fin_z (omega arith, omega (arith, body_at, fin_v.at)) (g_same code f r L j i refl refl gj)), sees)
    stat_fits (source.If e p others) f r L sc k exit w n le lv fin x sees g =
        let v = ticked k w in
        let kv = k_ticked w w k (kept_self 0 w) in
        let lvv = kv.level lv in
        let l = label_of v in
        let le' : n ≤ l = omega (arith, le, kv.more) in
        let s = labelled (labelled v) in
        let ls : Level s = record { ops = lvv.ops; lines = lvv.lines } in
        let c = exp_written e sc sc.free (Unless (l + 1) (prepay p)) s in
        let kc = exp_kept e sc sc.free (Unless (l + 1) (prepay p)) s in
        let lc = kc.level ls in
        let u = block_written p sc (prepay p) exit c in
        let ku = block_kept p sc (prepay p) exit c in
        let lu = ku.level lc in
        let h = where_else others l u in
        let kh = k_where_else u u others l (kept_self 0 u) in
        let t = placed_here (l + 1) h in
        let lt = same_place (l + 1) h (kh.level lu) in
        let y = else_written others sc exit l t in
        let ky = else_kept others sc exit l t in
        let long : l + 2 ≤ length s.labels = omega (arith, two_more v) in
        let out_at : place L l ≡ y.at = label_is code f L n l y fin.final le' (omega (arith, long, kc.more, ku.more, kh.more, set_long (l + 1) h, ky.more)) in
        let fin_y = fin_below code f r L n l (l + 1) y fin (omega arith) (omega (arith, le')) in
        let fin_t = fin_back code f r L (l + 1) t y fin_y ky in
        let else_at : place L (l + 1) ≡ h.at = label_is code f L (l + 1) (l + 1) h fin_t.final (omega arith) (omega (arith, long, kc.more, ku.more, kh.more)) in
        let fin_h = fin_below code f r L (l + 1) (l + 1) (l + 2) h fin_t (omega arith) (omega arith) in
        let fin_u = fin_back code f r L (l + 2) u h fin_h kh in
        let fin_c = fin_back code f r L (l + 2) c u fin_u ku in
        let fin_v = fin_back code f r L (l + 2) v c fin_c (on v s c (k_labelled v (labelled v) (k_labelled v v (kept_self 0 v))) kc) in
        let gv = g_ticked code f r L (l + 2) k w lv fin_v g in
        let gc = exp_fits e f r L sc sc.free (Unless (l + 1) (prepay p)) s (l + 2) long ls fin_c (omega (arith, else_at, ku.at, kh.at), omega (arith, else_at, fin_h.at)) sees (g_same code f r L v s refl refl gv) in
        let gu = block_fits p f r L sc (prepay p) exit c (l + 2) (omega (arith, long, kc.more)) lc fin_u (leaves_less r L exit y.at u.at (omega (arith, kh.at, ky.at)) x) sees gc in
        let gh = g_where_else code f r L (l + 2) others l u lu fin_h (omega (arith, out_at, ky.at), omega (arith, out_at, fin_y.at)) gu.0 in
        let gy = else_fits others f r L sc exit l t (l + 1) (omega (arith, long, kc.more, ku.more, kh.more, set_long (l + 1) h)) lt fin_y x (omega (arith, out_at), omega (arith, out_at, fin_y.at)) sees (g_same code f r L h t refl refl gh) in
        (g_same code f r L y (placed_here l y) refl refl gy, sees)
    stat_fits (source.Numeric i first limit p line) f r L sc k exit w n le lv fin x sees g =
        let t = ticked k w in
        let kt = k_ticked w w k (kept_self 0 w) in
        let d = sc.free in
        let v = exp_written first sc d (Into d) t in
        let kv = exp_kept first sc d (Into d) t in
        let u = exp_written limit sc (d + 1) (Into (d + 1)) v in
        let ku = exp_kept limit sc (d + 1) (Into (d + 1)) v in
        let b = has_room Word (pos 1) in
        let s = int_written (d + 2) (pos 1) u in
        let ks = k_int u u (d + 2) (pos 1) b (kept_self 0 u) in
        let lt = kt.level lv in
        let lvv = kv.level lt in
        let lu = ku.level lvv in
        let block = λ (inner : Scope) (out : Option ℕ) (q : Writer). block_written p inner (prepay p) out q in
        let keeps = λ (inner : Scope) (out : Option ℕ) (q : Writer). block_kept p inner (prepay p) out q in
        let fin_s = fin_back code f r L n s (numeric_written i sc line (prepay p) block s) fin (k_numeric s i sc line (prepay p) block keeps) in
        let fin_u = fin_back code f r L n u s fin_s ks in
        let fin_v = fin_back code f r L n v u fin_u ku in
        let fin_t = fin_back code f r L n t v fin_v kv in
        let gt = g_ticked code f r L n k w lv fin_t g in
        let gv = exp_fits first f r L sc d (Into d) t n (omega (arith, le, kt.more)) lt fin_v tt sees gt in
        let gu = exp_fits limit f r L sc (d + 1) (Into (d + 1)) v n (omega (arith, le, kt.more, kv.more)) lvv fin_u tt sees gv in
        let gs = g_int code f r L n (d + 2) (pos 1) b u lu fin_s gu in (
          numeric_fits code f r L i sc line (prepay p) n s block (omega (arith, le, kt.more, kv.more, ku.more, ks.more)) (ks.level lu) fin sees gs keeps
              (λ inner q m le2 lq fi ah se gq. (block_fits p f r L inner (prepay p) (Some (label_of s)) q m le2 lq fi ah se gq).0),
          sees,
        )
    stat_fits (source.NumericBy i first limit step p line) f r L sc k exit w n le lv fin x sees g =
        let t = ticked k w in
        let kt = k_ticked w w k (kept_self 0 w) in
        let d = sc.free in
        let v = exp_written first sc d (Into d) t in
        let kv = exp_kept first sc d (Into d) t in
        let u = exp_written limit sc (d + 1) (Into (d + 1)) v in
        let ku = exp_kept limit sc (d + 1) (Into (d + 1)) v in
        let s = exp_written step sc (d + 2) (Into (d + 2)) u in
        let ks = exp_kept step sc (d + 2) (Into (d + 2)) u in
        let lt = kt.level lv in
        let lvv = kv.level lt in
        let lu = ku.level lvv in
        let block = λ (inner : Scope) (out : Option ℕ) (q : Writer). block_written p inner (prepay p) out q in
        let keeps = λ (inner : Scope) (out : Option ℕ) (q : Writer). block_kept p inner (prepay p) out q in
        let fin_s = fin_back code f r L n s (numeric_written i sc line (prepay p) block s) fin (k_numeric s i sc line (prepay p) block keeps) in
        let fin_u = fin_back code f r L n u s fin_s ks in
        let fin_v = fin_back code f r L n v u fin_u ku in
        let fin_t = fin_back code f r L n t v fin_v kv in
        let gt = g_ticked code f r L n k w lv fin_t g in
        let gv = exp_fits first f r L sc d (Into d) t n (omega (arith, le, kt.more)) lt fin_v tt sees gt in
        let gu = exp_fits limit f r L sc (d + 1) (Into (d + 1)) v n (omega (arith, le, kt.more, kv.more)) lvv fin_u tt sees gv in
        let gs = exp_fits step f r L sc (d + 2) (Into (d + 2)) u n (omega (arith, le, kt.more, kv.more, ku.more)) lu fin_s tt sees gu in (
          numeric_fits code f r L i sc line (prepay p) n s block (omega (arith, le, kt.more, kv.more, ku.more, ks.more)) (ks.level lu) fin sees gs keeps
              (λ inner q m le2 lq fi ah se gq. (block_fits p f r L inner (prepay p) (Some (label_of s)) q m le2 lq fi ah se gq).0),
          sees,
        )
    stat_fits (source.Generic xs es p line) f r L sc k exit w n le lv fin x sees g =
        let t = ticked k w in
        let kt = k_ticked w w k (kept_self 0 w) in
        let lt = kt.level lv in
        let s = values_written es 3 sc sc.free t in
        let ks = values_kept es 3 sc sc.free t in
        let block = λ (inner : Scope) (out : Option ℕ) (q : Writer). block_written p inner (prepay p) out q in
        let keeps = λ (inner : Scope) (out : Option ℕ) (q : Writer). block_kept p inner (prepay p) out q in
        let fin_s = fin_back code f r L n s (generic_written xs sc line (prepay p) block s) fin (k_generic s xs sc line (prepay p) block keeps) in
        let fin_t = fin_back code f r L n t s fin_s ks in
        let gs = values_fits es 3 f r L sc sc.free t n (omega (arith, le, kt.more)) lt fin_s sees (g_ticked code f r L n k w lv fin_t g) in (
          generic_fits code f r L xs sc line (prepay p) n s block (omega (arith, le, kt.more, ks.more)) (ks.level lt) fin sees gs keeps
              (λ inner q m le2 lq fi ah se gq. (block_fits p f r L inner (prepay p) (Some (label_of s)) q m le2 lq fi ah se gq).0),
          sees,
        )
    stat_fits (source.Local xs es) f r L sc k exit w n le lv fin x sees g =
        let t = ticked k w in
        let kt = k_ticked w w k (kept_self 0 w) in
        let lt = kt.level lv in
        let s = values_written es (length xs) sc sc.free t in
        let ks = values_kept es (length xs) sc sc.free t in
        let fin_s = fin_back code f r L n s (declare_all xs sc s) fin (k_declare_all s s xs sc (kept_self 0 s)) in
        let gs = values_fits es (length xs) f r L sc sc.free t n (omega (arith, le, kt.more)) lt fin_s sees (g_ticked code f r L n k w lv (fin_back code f r L n t s fin_s ks) g) in
        g_declare code f r L n xs sc s (ks.level lt) fin sees gs
    stat_fits (source.LocalFunction i p) f r L sc k exit w n le lv fin x sees g =
        let v = ticked k w in
        let kv = k_ticked w w k (kept_self 0 w) in
        let lvv = kv.level lv in
        let shared = flag v.flags v.locals in
        let names = (function_known i sc shared).names in
        let inner = body_written p names (counted v) in
        let c = length inner.made in
        let u = resumed inner (counted v) in
        let lu : Level u = record { ops = lvv.ops; lines = lvv.lines } in
        let o = close_op sc shared c in
        let fin_u = fin_back code f r L n u (put o u) fin (k_put u u o (kept_self 0 u)) in
        let ku = k_resumed v (counted v) inner (k_counted v v (kept_self 0 v)) (body_kept p names (counted v)) in
        let gv = g_ticked code f r L n k w lv (fin_back code f r L n v u fin_u ku) g in
        let there = fin_u.final.made c (done inner) (get_end inner.made (done inner)) in
        let room : cell_reach o ≤ r.shape.cells = (let y = le-max_right u.draft.shape.cells (cell_reach o) in omega (arith, fin.cells)) in
        let after = function_sees r i sc shared c room sees in
        let b = body_fits p names (counted v) c (λ j h e. fin_u.final.made j h (get_front inner.made (done inner ∷ []) j h e)) there fin_u.final.found gv.made in
        let gu : Good code r L u = record { fit = record { each = gv.fit.each }; made = done_more (λ h. IsValidFunction code h) inner.made (done inner) b.0 b.1 } in
        (g_emit code f r L n o 0 u lu fin (close_asks code r L u.at c sc shared (can_close code r (done inner) names c there b.2 after)) gu, after)

    pub else_fits : (b : Branches) (f : ℕ) (r : Routine) (L : List ℕ) (sc : Scope) (exit : Option ℕ) (end : ℕ) (w : Writer) (n : ℕ) → n ≤ length w.labels → Level w
        → Fin code f r L n (else_written b sc exit end w) → Leaves r L exit (else_written b sc exit end w).at → Ahead r L end (else_written b sc exit end w).at → Sees r sc.names → Good code r L w → Good code r L (else_written b sc exit end w)
    else_fits NoElse f r L sc exit end w n le lv fin x a sees g = g
    else_fits (Else p) f r L sc exit end w n le lv fin x a sees g = (block_fits p f r L sc 0 exit w n le lv fin x sees g).0
    else_fits (Elseif c p others) f r L sc exit end w n le lv fin x a sees g =
        let l = label_of w in
        let s = labelled w in
        let ls : Level s = record { ops = lv.ops; lines = lv.lines } in
        let e = exp_written c sc sc.free (Unless l (prepay p)) s in
        let ke = exp_kept c sc sc.free (Unless l (prepay p)) s in
        let le2 = ke.level ls in
        let u = block_written p sc (prepay p) exit e in
        let ku = block_kept p sc (prepay p) exit e in
        let lu = ku.level le2 in
        let h = where_else others end u in
        let kh = k_where_else u u others end (kept_self 0 u) in
        let t = placed_here l h in
        let lt = same_place l h (kh.level lu) in
        let y = else_written others sc exit end t in
        let ky = else_kept others sc exit end t in
        let long : l + 1 ≤ length s.labels = omega (arith, one_more w) in
        let fin_t = fin_back code f r L n t y fin ky in
        let else_at : place L l ≡ h.at = label_is code f L n l h fin_t.final le (omega (arith, long, ke.more, ku.more, kh.more)) in
        let fin_h = fin_below code f r L n l (l + 1) h fin_t (omega arith) (omega (arith, le)) in
        let fin_u = fin_back code f r L (l + 1) u h fin_h kh in
        let fin_e = fin_back code f r L (l + 1) e u fin_u ku in
        let ge = exp_fits c f r L sc sc.free (Unless l (prepay p)) s (l + 1) long ls fin_e (omega (arith, else_at, ku.at, kh.at), omega (arith, else_at, fin_h.at)) sees (g_same code f r L w s refl refl g) in
        let gu = block_fits p f r L sc (prepay p) exit e (l + 1) (omega (arith, long, ke.more)) le2 fin_u (leaves_less r L exit y.at u.at (omega (arith, kh.at, ky.at)) x) sees ge in
        let gh = g_where_else code f r L (l + 1) others end u lu fin_h (omega (arith, a.0, ky.at), a.1) gu.0 in
        else_fits others f r L sc exit end t n (omega (arith, le, long, ke.more, ku.more, kh.more, set_long l h)) lt fin x a sees (g_same code f r L h t refl refl gh)
