-- Steps of the main proof that take what it proves of smaller terms as an argument.
use Rattle.std.proofs.Common.{◌≡◌, ℕ, ◌+◌, inl, inr, refl, sym, ap, subst, List, Option, Some, None, Bool, true, false}
use Rattle.std.specs.Prelude.{not, ◌==◌, ◌&&◌, ltb, if◌then◌else◌, ◌⊎◌}
use Rattle.lua_tree.specs.Source as source
use Rattle.lua_tree.specs.Source.{Text, Exp, Exps, NoExp, MoreExps, Operands, NoOperand, MoreOperands, Branches, NoElse, Else, Elseif}
use Rattle.lua_model.specs.declared.operator.Binary.{Binary}
use Rattle.lua_meaning.specs.Values.{Link, Both, Either, Strict}
use Rattle.lua_code.specs.declared.op.Op.TheVariants as op
use Rattle.lua_steps.specs.declared.scope.Place.{Place}
use Rattle.lua_steps.specs.declared.scope.Place.TheVariants.{InSlot, InCell, InUp, Hidden}
use Rattle.lua_steps.specs.declared.scope.Known.{Known}
use Rattle.lua_steps.specs.Machine.{Code}
use Rattle.lua_steps.specs.Scope.{Scope, place_of}
use Rattle.lua_steps.specs.Stand as stand
use Rattle.lua_steps.specs.Stand.{At, AtLine, AtSome, Leads, Shown, Reg, Imm, Not, Holds, Fails, OfReg, WhereDecided, IsThere, Branch, IsBinary, IsCall, test_op, linked_as}
use Rattle.lua_steps.specs.Serves.{IsOne, IsNoTail, IsOperands, IsFixed, IsList}
use Rattle.lua_compile.specs.declared.aim.Aim.{Aim}
use Rattle.lua_compile.specs.declared.aim.Aim.TheVariants.{Into, Anywhere, Unless}
use Rattle.lua_compile.specs.declared.aim.Operand.{Operand}
use Rattle.lua_compile.specs.declared.aim.Operand.TheVariants.{Slot, Constant as Held}
use Rattle.lua_compile.specs.declared.aim.Want.{Want}
use Rattle.lua_compile.specs.declared.aim.Want.TheVariants as want
use Rattle.lua_compile.specs.Writer.{Writer, emit, put, lost_if, place}
use Rattle.lua_compile.specs.Forms.{register, target_of, is_unless, settled, name_shown, shown, shown_of, on_slot, is_slot, is_short, is_comparison, no_more, tests, test_written, binary_written, so_far, last_settled, differ, linked, is_both, is_many, count, is_only, is_tail, only_direct, is_direct, called, called_list, where_else}
use Rattle.lua_compile.specs.Written.{operands_written}
use Rattle.lua_compile.proofs.Kept.{Level, kept_self, kept_emit}
use Rattle.lua_compile.proofs.KeptForms.{K, k_put, k_emit, k_last, k_binary, k_called_list}
use Rattle.lua_compile.proofs.KeptTerms.{operands_kept}
use Rattle.lua_compile.proofs.Final.{Final, back, at_op, at_line, not_lost, never_lost, no_difference, same_nat, not_false, and_left, and_right, Pays, Jumps, Given}
use Rattle.lua_compile.proofs.ServesForms.{test_pays, unsettled}
use Rattle.lua_compile.proofs.ServesParts.{two, want_of, Follows, binary_stands, test_stands}

-- ---- what is known of expressions
pub one_of : (e : Exp) → is_many e ≡ false → IsOne e
one_of source.Nil h = tt
one_of source.False h = tt
one_of source.True h = tt
one_of (source.Int n) h = tt
one_of (source.Str b) h = tt
one_of source.Dots h = (let x : true ≡ false = h in cc)
one_of (source.Function p) h = tt
one_of (source.Name x) h = tt
one_of (source.Paren e) h = tt
one_of (source.Table fs) h = tt
one_of (source.Suffixed e ss) h = (let x : true ≡ false = h in cc)
one_of (source.Unary o line e) h = tt
one_of (source.Chain e os) h = tt

pub not_true : (b : Bool) → not b ≡ true → b ≡ false
not_true true h = absurd (cc)
not_true false h = refl

name_into : (o : Option Place) (d r : ℕ) → name_shown o d (Into r) ≡ Slot r
name_into None d r = refl
name_into (Some (InSlot s)) d r = refl
name_into (Some (InCell c)) d r = refl
name_into (Some (InUp u)) d r = refl
name_into (Some Hidden) d r = refl

-- a value that goes to a slot is shown there
pub shown_into : (e : Exp) (names : List Known) (d r : ℕ) → shown e names d (Into r) ≡ Slot r
shown_into source.Nil names d r = refl
shown_into source.False names d r = refl
shown_into source.True names d r = refl
shown_into (source.Int n) names d r = refl
shown_into (source.Str b) names d r = refl
shown_into source.Dots names d r = refl
shown_into (source.Function p) names d r = refl
shown_into (source.Name x) names d r = name_into (place_of names x) d r
shown_into (source.Paren e) names d r = shown_into e names d r
shown_into (source.Table fs) names d r = refl
shown_into (source.Suffixed e ss) names d r = refl
shown_into (source.Unary o line e) names d r = refl
shown_into (source.Chain e os) names d r = refl

pub direct_one : (e : Exp) → is_direct e ≡ true → is_many e ≡ false
direct_one source.Dots h = (let x : false ≡ true = h in absurd (cc))
direct_one (source.Suffixed e ss) h = (let x : false ≡ true = h in absurd (cc))
direct_one _ h = refl

pub direct_only : (es : Exps) → only_direct es ≡ true → is_only es ≡ true
direct_only NoExp h = (let x : false ≡ true = h in absurd (cc))
direct_only (MoreExps e NoExp) h = ap not (direct_one e h)
direct_only (MoreExps e (MoreExps g es)) h = (let x : false ≡ true = h in absurd (cc))

pub no_tail : (es : Exps) → is_tail es ≡ false → IsNoTail es
no_tail (MoreExps (source.Suffixed e ss) NoExp) h = (let x : true ≡ false = h in cc)
no_tail _ h = tt

-- ---- choices of the compiler
pub by_bool : (P : Type 0) (F : Writer → Type 0) (b : Bool) (x y : Writer) → F (if b then x else y) → (b ≡ true → F x → P) → (b ≡ false → F y → P) → P
by_bool P F true x y h yes' no' = yes' refl h
by_bool P F false x y h yes' no' = no' refl h

pub by_link : (F : Writer → Type 0) (lk : Link) (x y : Writer) (go : Binary → Writer) (P Q : Type 0) (S : Binary → Type 0) → F (linked lk x y go) → (F x → P) → (F y → Q) → ((u : Binary) → F (go u) → S u) → linked_as lk P Q S
by_link F Both x y go P Q S h p q s = p h
by_link F Either x y go P Q S h p q s = q h
by_link F (Strict u) x y go P Q S h p q s = s u h

pub both_as : (lk : Link) (P Q : Type 0) (S : Binary → Type 0) → is_both lk ≡ true → P → linked_as lk P Q S
both_as Both P Q S h p = p
both_as Either P Q S h p = (let x : false ≡ true = h in absurd (cc))
both_as (Strict u) P Q S h p = (let x : false ≡ true = h in absurd (cc))

pub kept_slot : (p : Operand) (d : ℕ) → not (is_slot p d) ≡ false → shown_of p ≡ Reg d
kept_slot (Slot r) d h = ap Reg (same_nat r d (not_false (r == d) h))
kept_slot (Held n) d h = (let x : true ≡ false = h in absurd (cc))

-- the last operator's slot is the same in the relation
pub same_so_far : (os : Operands) (aim : Aim) (d : ℕ) → so_far os aim d ≡ stand.so_far os (target_of aim) d
same_so_far NoOperand (Into r) d = refl
same_so_far NoOperand (Anywhere room) d = refl
same_so_far NoOperand (Unless l pay) d = refl
same_so_far (MoreOperands o line e os) aim d = refl

abbrev pub IsMore : Operands → Type 0
IsMore NoOperand = ⊥
IsMore (MoreOperands o line e os) = Unit {0}

module _ (code : Code) (f : ℕ) (L : List ℕ) where
  pub branch_jumps : (l pay c : ℕ) (T : ℕ → ℕ → Type 0) (F : ℕ → Type 0) → T pay c → ((b : ℕ) → Pays code f pay b c → T 0 b) → F (place L l) → Jumps code f L l pay (λ b p. Branch code f b p T F) c
  branch_jumps l pay c T F t h g =
      record {
        holds = t;
        always = h;
        int = λ n. h;
        fails = g;
        test = λ b r e a. inl (place L l, a, h (b + 1) e, g);
        test_not = λ b r e a. inr (place L l, a, h (b + 1) e, g);
      }

  pub unpaid_jumps : (l c : ℕ) (T : ℕ → ℕ → Type 0) (F : ℕ → Type 0) → T 0 c → F (place L l) → Jumps code f L l 0 (λ b p. Branch code f b p T F) c
  unpaid_jumps l c T F t g = branch_jumps l 0 c T F t (λ b e. subst (T 0) (sym e) t) g

  pub map_jumps : (l pay c : ℕ) (R S : ℕ → Shown → Type 0) → ((b : ℕ) (p : Shown) → R b p → S b p) → Jumps code f L l pay R c → Jumps code f L l pay S c
  map_jumps l pay c R S h g =
      record {
        holds = h c (Holds pay) g.holds;
        always = λ b e. h b (Holds 0) (g.always b e);
        int = λ n b e. h b (Imm n) (g.int n b e);
        fails = h (place L l) Fails g.fails;
        test = λ b r e a. h b (Reg r) (g.test b r e a);
        test_not = λ b r e a. h b (Not r) (g.test_not b r e a);
      }

  end_of : (n d r : ℕ) (aim : Aim) (v : Writer) (R : ℕ → Shown → Type 0) → Level v → register aim d ≡ r → Final code f L n (settled aim r (lost_if (differ (register aim d) r) v))
      → Given code f L aim (Slot (register aim d)) R (settled aim r (lost_if (differ (register aim d) r) v)).at → IsThere (target_of aim) (Reg r) × R v.at (Reg r)
  end_of n d r (Into s) v R lv e fin g = (ap Reg (sym e), subst (λ i. R v.at (Reg i)) e g)
  end_of n d r (Anywhere room) v R lv e fin g = (tt, subst (λ i. R v.at (Reg i)) e g)
  end_of n d r (Unless l pay) v R lv e fin g =
      let t = test_pays code f L n pay (op.Test r l) (lost_if (differ d r) v) (record { ops = lv.ops; lines = lv.lines }) fin in (tt, g.test v.at r t.1 t.0)

  -- what follows an operator of a chain
  pub rest_of : (os : Operands) (sc : Scope) (d : ℕ) (aim : Aim) (r : ℕ) (v : Writer) (n : ℕ) (R : ℕ → Shown → Type 0) → Level v
      → Final code f L n (operands_written os sc d aim (Slot r) (last_settled os aim d r v))
      → Given code f L aim (Slot (register aim d)) R (operands_written os sc d aim (Slot r) (last_settled os aim d r v)).at
      → (IsMore os → Final code f L n (operands_written os sc d aim (Slot r) v) → Given code f L aim (Slot (register aim d)) R (operands_written os sc d aim (Slot r) v).at → IsOperands code f sc os v.at d (Reg r) (target_of aim) R)
      → IsOperands code f sc os v.at d (Reg r) (target_of aim) R
  rest_of NoOperand sc d aim r v n R lv fin g rec =
      let e = no_difference (register aim d) r (not_lost code f L n (differ (register aim d) r) v (unsettled code f L n r aim (lost_if (differ (register aim d) r) v) fin)) in
      end_of n d r aim v R lv e fin g
  rest_of (MoreOperands o line e os) sc d aim r v n R lv fin g rec = rec tt fin g

  tests_last : (u : Binary) (os : Operands) (aim : Aim) (p : Operand) (d : ℕ) → tests u os aim p d ≡ true → (no_more os ≡ true) × (is_unless aim ≡ true)
  tests_last u os aim p d h =
      let c = is_comparison u in
      let m = no_more os in
      let a = is_unless aim in
      let three = and_left (c && m && a) (is_short p) (and_left (c && m && a && is_short p) (ltb d 255) h) in
      (and_right c m (and_left (c && m) a three), and_right (c && m) a three)

  -- what an operator of a chain, other than `and` and `or`, asks of the relation
  abbrev pub Operated : ℕ → Binary → Operands → Scope → ℕ → Aim → Operand → Operand → ℕ → (ℕ → Shown → Type 0) → Type 0
  Operated b u os sc d aim p q line R =
      (IsBinary code f b u (stand.so_far os (target_of aim) d) (shown_of p) (shown_of q) line
      × IsOperands code f sc os (b + 1) d (Reg (stand.so_far os (target_of aim) d)) (target_of aim) R)
      ⊎ WhereDecided (target_of aim) ((pay z : ℕ) × AtSome code f b (test_op u (shown_of p) (shown_of q) pay z) line
      × Leads code f (b + 1) (λ j. IsOperands code f sc os j d (Holds pay) (target_of aim) R)
      × Leads code f z (λ j. IsOperands code f sc os j d Fails (target_of aim) R))

  tested : (os : Operands) (aim : Aim) (u : Binary) (p q : Operand) (sc : Scope) (d line : ℕ) (v : Writer) (n : ℕ) (R : ℕ → Shown → Type 0) → no_more os ≡ true → is_unless aim ≡ true → Level v
      → Final code f L n (operands_written os sc d aim (Slot (so_far os aim d)) (test_written u p q aim line v))
      → Given code f L aim (Slot (register aim d)) R (operands_written os sc d aim (Slot (so_far os aim d)) (test_written u p q aim line v)).at
      → Operated v.at u os sc d aim p q line R
  tested (MoreOperands o l e os) aim u p q sc d line v n R h k lv fin g = (let x : false ≡ true = h in absurd (cc))
  tested NoOperand (Into r) u p q sc d line v n R h k lv fin g = (let x : false ≡ true = k in absurd (cc))
  tested NoOperand (Anywhere room) u p q sc d line v n R h k lv fin g = (let x : false ≡ true = k in absurd (cc))
  tested NoOperand (Unless l pay) u p q sc d line v n R h k lv fin g =
      let s = test_stands code f L n u p q pay l line v lv fin in
      inr (pay, place L l, s.0, inl (tt, subst (λ c. R c (Holds pay)) s.1 g.holds), inl (tt, g.fails))

  computed : (os : Operands) (aim : Aim) (u : Binary) (p q : Operand) (sc : Scope) (d line : ℕ) (v : Writer) (n : ℕ) (R : ℕ → Shown → Type 0) → Level v
      → Final code f L n (operands_written os sc d aim (Slot (so_far os aim d)) (last_settled os aim d (so_far os aim d) (binary_written u (so_far os aim d) p q line v)))
      → Given code f L aim (Slot (register aim d)) R (operands_written os sc d aim (Slot (so_far os aim d)) (last_settled os aim d (so_far os aim d) (binary_written u (so_far os aim d) p q line v))).at
      → (Level (binary_written u (so_far os aim d) p q line v) → IsMore os → Final code f L n (operands_written os sc d aim (Slot (so_far os aim d)) (binary_written u (so_far os aim d) p q line v))
      → Given code f L aim (Slot (register aim d)) R (operands_written os sc d aim (Slot (so_far os aim d)) (binary_written u (so_far os aim d) p q line v)).at
      → IsOperands code f sc os (binary_written u (so_far os aim d) p q line v).at d (Reg (so_far os aim d)) (target_of aim) R)
      → Operated v.at u os sc d aim p q line R
  computed os aim u p q sc d line v n R lv fin g rec =
      let r = so_far os aim d in
      let b = binary_written u r p q line v in
      let x = last_settled os aim d r b in
      let kb = k_last b b os aim d r (kept_self 0 b) in
      let fin_x = back code f L n x (operands_written os sc d aim (Slot r) x) fin (operands_kept os sc d aim (Slot r) x) in
      let s = binary_stands code f L n u r p q line v lv (back code f L n b x fin_x kb) in
      let lb = (k_binary v v u r p q line (kept_self 0 v)).level lv in
      let rest = rest_of os sc d aim r b n R lb fin g (rec lb) in
      inl (subst (λ i. IsBinary code f v.at u i (shown_of p) (shown_of q) line × IsOperands code f sc os (v.at + 1) d (Reg i) (target_of aim) R) (same_so_far os aim d)
      (s.0, subst (λ a. IsOperands code f sc os a d (Reg r) (target_of aim) R) s.1 rest))

  pub operated : (b : Bool) (os : Operands) (aim : Aim) (u : Binary) (p q : Operand) (sc : Scope) (d line : ℕ) (v : Writer) (n : ℕ) (R : ℕ → Shown → Type 0) → tests u os aim p d ≡ b → Level v
      → Final code f L n (operands_written os sc d aim (Slot (so_far os aim d)) (if b then test_written u p q aim line v else last_settled os aim d (so_far os aim d) (binary_written u (so_far os aim d) p q line v)))
      → Given code f L aim (Slot (register aim d)) R (operands_written os sc d aim (Slot (so_far os aim d)) (if b then test_written u p q aim line v else last_settled os aim d (so_far os aim d) (binary_written u (so_far os aim d) p q line v))).at
      → (Level (binary_written u (so_far os aim d) p q line v) → IsMore os → Final code f L n (operands_written os sc d aim (Slot (so_far os aim d)) (binary_written u (so_far os aim d) p q line v))
      → Given code f L aim (Slot (register aim d)) R (operands_written os sc d aim (Slot (so_far os aim d)) (binary_written u (so_far os aim d) p q line v)).at
      → IsOperands code f sc os (binary_written u (so_far os aim d) p q line v).at d (Reg (so_far os aim d)) (target_of aim) R)
      → Operated v.at u os sc d aim p q line R
  operated true os aim u p q sc d line v n R e lv fin g rec =
      let t = tests_last u os aim p d e in tested os aim u p q sc d line v n R t.0 t.1 lv fin g
  operated false os aim u p q sc d line v n R e lv fin g rec = computed os aim u p q sc d line v n R lv fin g rec

  -- ---- calls
  slots_call : (a : Want) (es : Exps) (d line n : ℕ) (w x : Writer) (sc : Scope) (R : ℕ → Type 0) → Level x → Final code f L n (called a d (count es) line x) → Follows a R (called a d (count es) line x).at
      → ((Q : ℕ → ℕ → Type 0) → Final code f L n x → Q x.at (d + 1 + count es) → IsFixed code f sc es w.at (d + 1) Q)
      → IsCall code f w.at d line (want_of a) (λ Q. IsFixed code f sc es w.at (d + 1) Q) (λ Q. IsList code f sc es (w.at + 2) d Q) R
  slots_call (want.Count m) es d line n w x sc R lv fin r fixed =
      let o = op.Call d (count es) m in
      inl (fixed (λ b i. (k : ℕ) × (i ≡ d + 1 + k) × AtLine code f b (op.Call d k m) line × R (b + 1)) (back code f L n x (emit o line x) fin (k_emit x x o line (kept_self 0 x)))
      (count es, refl, at_line code f L n o line x lv fin, r))
  slots_call want.AsList es d line n w x sc R lv fin r fixed =
      let o = op.CallAll d (count es) in
      inl (fixed (λ b i. (k : ℕ) × (i ≡ d + 1 + k) × AtLine code f b (op.CallAll d k) line × R (b + 1)) (back code f L n x (emit o line x) fin (k_emit x x o line (kept_self 0 x)))
      (count es, refl, at_line code f L n o line x lv fin, r))
  slots_call want.AsResult es d line n w x sc R lv fin r fixed =
      let o = op.TailCall d (count es) in
      let y = emit o line x in
      let fin_y = back code f L n y (put op.ReturnList y) fin (k_put y y op.ReturnList (kept_self 0 y)) in
      inl (fixed (λ b i. (k : ℕ) × (i ≡ d + 1 + k) × AtLine code f b (op.TailCall d k) line × At code f (b + 1) op.ReturnList) (back code f L n x y fin_y (k_emit x x o line (kept_self 0 x)))
      (count es, refl, at_line code f L n o line x lv fin_y, at_op code f L n op.ReturnList 0 y ((kept_emit 0 o line x).level lv) fin))

  list_call : (a : Want) (es : Exps) (d line n : ℕ) (w x : Writer) (sc : Scope) (R : ℕ → Type 0) → Level w → Level x → K (put (op.Push d) (put op.Begin w)) x
      → Final code f L n (called_list a d line x) → Follows a R (called_list a d line x).at
      → ((Q : ℕ → Type 0) → Final code f L n x → Q x.at → IsList code f sc es (w.at + 2) d Q)
      → IsCall code f w.at d line (want_of a) (λ Q. IsFixed code f sc es w.at (d + 1) Q) (λ Q. IsList code f sc es (w.at + 2) d Q) R
  list_call a es d line n w x sc R lw lv kx fin r listed =
      let s = put op.Begin w in
      let t = put (op.Push d) s in
      let fin_x = back code f L n x (called_list a d line x) fin (k_called_list x x a d line (kept_self 0 x)) in
      let fin_t = back code f L n t x fin_x kx in
      let begin = at_op code f L n op.Begin 0 w lw (back code f L n s t fin_t (k_put s s (op.Push d) (kept_self 0 s))) in
      let push = at_op code f L n (op.Push d) 0 s ((kept_emit 0 op.Begin 0 w).level lw) fin_t in
      by_want a fin_x begin push fin r
    where
      by_want : (a : Want) → Final code f L n x → At code f w.at op.Begin → At code f (w.at + 1) (op.Push d) → Final code f L n (called_list a d line x) → Follows a R (called_list a d line x).at
          → IsCall code f w.at d line (want_of a) (λ Q. IsFixed code f sc es w.at (d + 1) Q) (λ Q. IsList code f sc es (w.at + 2) d Q) R
      by_want (want.Count m) fin_x begin push fin r =
          let o = op.CallList d in
          let y = emit o line x in
          let fin_y = back code f L n y (put (op.Spread d m) y) fin (k_put y y (op.Spread d m) (kept_self 0 y)) in
          inr (
            begin,
            push,
            listed (λ b. AtLine code f b (op.CallList d) line × At code f (b + 1) (op.Spread d m) × R (b + 2)) fin_x
                (at_line code f L n o line x lv fin_y, at_op code f L n (op.Spread d m) 0 y ((kept_emit 0 o line x).level lv) fin, two x.at R r),
          )
      by_want want.AsList fin_x begin push fin r =
          inr (begin, push, listed (λ b. AtLine code f b (op.CallList d) line × R (b + 1)) fin_x (at_line code f L n (op.CallList d) line x lv fin, r))
      by_want want.AsResult fin_x begin push fin r =
          let o = op.TailCallList d in
          let y = emit o line x in
          let fin_y = back code f L n y (put op.ReturnList y) fin (k_put y y op.ReturnList (kept_self 0 y)) in
          inr (
            begin,
            push,
            listed (λ b. AtLine code f b (op.TailCallList d) line × At code f (b + 1) op.ReturnList) fin_x
                (at_line code f L n o line x lv fin_y, at_op code f L n op.ReturnList 0 y ((kept_emit 0 o line x).level lv) fin),
          )

  pub call_serves : (b : Bool) (a : Want) (es : Exps) (d line n : ℕ) (w x y : Writer) (sc : Scope) (R : ℕ → Type 0) → Level w → Level x → Level y → K (put (op.Push d) (put op.Begin w)) y
      → Final code f L n (if b then called a d (count es) line x else called_list a d line y) → Follows a R (if b then called a d (count es) line x else called_list a d line y).at
      → (b ≡ true → (Q : ℕ → ℕ → Type 0) → Final code f L n x → Q x.at (d + 1 + count es) → IsFixed code f sc es w.at (d + 1) Q)
      → ((Q : ℕ → Type 0) → Final code f L n y → Q y.at → IsList code f sc es (w.at + 2) d Q)
      → IsCall code f w.at d line (want_of a) (λ Q. IsFixed code f sc es w.at (d + 1) Q) (λ Q. IsList code f sc es (w.at + 2) d Q) R
  call_serves true a es d line n w x y sc R lw lx ly ky fin r fixed listed = slots_call a es d line n w x sc R lx fin r (fixed refl)
  call_serves false a es d line n w x y sc R lw lx ly ky fin r fixed listed = list_call a es d line n w y sc R lw ly ky fin r listed

  -- ---- lists
  pub pushed : (n : ℕ) (p : Operand) (v : Writer) (R : ℕ → Type 0) → Level v → Final code f L n (on_slot p v (λ x. put (op.Push x) v)) → R (on_slot p v (λ x. put (op.Push x) v)).at
      → OfReg (shown_of p) (λ x. At code f v.at (op.Push x) × R (v.at + 1))
  pushed n (Slot x) v R lv fin r = (at_op code f L n (op.Push x) 0 v lv fin, r)
  pushed n (Held i) v R lv fin r = never_lost code f L n v fin

  pub returned : (n : ℕ) (p : Operand) (v : Writer) → Level v → Final code f L n (on_slot p v (λ x. put (op.Return x 1) v)) → OfReg (shown_of p) (λ x. At code f v.at (op.Return x 1))
  returned n (Slot x) v lv fin = at_op code f L n (op.Return x 1) 0 v lv fin
  returned n (Held i) v lv fin = never_lost code f L n v fin

  -- a branch of an `if` ends where the others do
  pub leads_on : (others : Branches) (n end : ℕ) (u : Writer) (sc : Scope) (R : ℕ → Type 0) → Level u → Final code f L n (where_else others end u) → (others ≡ NoElse → place L end ≡ u.at) → R (place L end) → Leads code f u.at R
  leads_on NoElse n end u sc R lv fin e r = inl (subst R (e refl) r)
  leads_on (Else p) n end u sc R lv fin e r = inr (place L end, at_op code f L n (op.Jump end) 0 u lv fin, r)
  leads_on (Elseif c p b) n end u sc R lv fin e r = inr (place L end, at_op code f L n (op.Jump end) 0 u lv fin, r)
