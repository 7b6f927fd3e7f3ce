-- Operators of one operand, and of two.
use Rattle.std.proofs.Common.{◌≡◌, ℕ, ◌+◌, ◌<◌, ◌≤◌, inl, inr, List, length, Some, refl, sym, ap, ◌∙◌, subst}
use Rattle.std.specs.Prelude.{Bool, true, false, not, ℤ, unwrap_or}
use Rattle.lua_value.specs.declared.value.Value.{Value}
use Rattle.lua_value.specs.declared.value.Value.TheVariants as value
use Rattle.lua_value.specs.Same.{is_true}
use Rattle.lua_model.specs.declared.operator.Unary.{Unary}
use Rattle.lua_model.specs.declared.operator.Unary.TheVariants as unary_op
use Rattle.lua_model.specs.Answer.{Answer}
use Rattle.lua_model.specs.Integer as lua
use Rattle.lua_model.specs.Operators.{unary}
use Rattle.lua_code.specs.declared.op.Op.{Op}
use Rattle.lua_code.specs.declared.op.Op.TheVariants as op
use Rattle.lua_code.specs.Valid.{IsValid, Fits}
use Rattle.lua_meaning.specs.State.{Gives, State, Step, Next}
use Rattle.lua_meaning.specs.Moves as meaning_moves
use Rattle.lua_steps.specs.Machine.{Code, Machine}
use Rattle.lua_steps.specs.Moves as moves
use Rattle.lua_steps.specs.Moves.{gives, slot}
use Rattle.lua_steps.specs.Exec.{perform, constant_value, line_at, line}
use Rattle.lua_steps.specs.Stand.{At, AtLine, Shown, Reg, Imm, Not, Holds, Fails, register, IsThere, WhereDecided, IsUnary, IsInt}
use Rattle.lua_follow.specs.Spot.{Spot, contexts, free, target}
use Rattle.lua_follow.specs.Takes.{Takes}
use Rattle.lua_follow.specs.Memory.{view}
use Rattle.lua_follow.specs.Kept.{Shows, Under}
use Rattle.lua_follow.specs.Stands.{ahead}
use Rattle.lua_follow.proofs.Frames.{fits_at, slot_in}
use Rattle.lua_follow.proofs.Gives.{Steady, gives_row, shown_row, there_decided, there_anywhere}
use Rattle.lua_follow.proofs.Runs.{runs_op}
use Rattle.lua_follow.proofs.Comes.{acts, answered_comes}
use Rattle.lua_follow.proofs.Sim.{Row, Sim}

pub line_is : (code : Code) (m : Machine) (at : ℕ) → line_at code m.top.function m.top.at ≡ Some at → line code m ≡ at
line_is code m at e = ap (λ o. unwrap_or o 0) e

module _ (code : Code) (valid : IsValid code) (m : Machine) (s : State) (ks : List Spot) (h : Steady code m s ks) where
  abbrev r : ℕ
  r = register (target ks) (free ks)

  pub in_row : (o : Op) → At code m.top.function m.top.at o → (Fits code h.room.routine m.top.at o → r + 1 ≤ h.room.routine.shape.slots) → m.top.base + r < length m.row
  in_row o at slots = slot_in code (view m.top) m.row h.room r (slots (fits_at code (view m.top) m.row h.room m.top.at o valid at))

  -- an operation whose answer the operator has
  pub answers_row : (o : Op) (a b : Answer) (at : ℕ) → AtLine code m.top.function m.top.at o at → perform code o m ≡ moves.answered b r (line code m) m → b ≡ a
      → (Fits code h.room.routine m.top.at o → r + 1 ≤ h.room.routine.shape.slots) → Takes code m.top.function ks (m.top.at + 1) (Reg r) → Row code (Sim code) m s 0 (meaning_moves.answered a at s (contexts ks))
  answers_row o a b at is does same slots takes =
      acts code (Sim code) m s _ (λ left.
      answered_comes code m s ks a at left h (in_row o is.0 slots) takes 1
      (runs_op code m o _ is.0 (does ∙ ap (λ x. moves.answered x r (line code m) m) same ∙ ap (λ i. moves.answered a r i m) (line_is code m at is.1))))

  -- the value stands already
  pub stands_row : (p : Shown) (v : Value) (q : Step) → Takes code m.top.function ks m.top.at p → Shows (view m.top) m.row p v → IsThere (target ks) p → Under (free ks + 1) p → ahead p ≡ 0
      → q ≡ Next (record s { focus = Gives v; ks = contexts ks }) → Row code (Sim code) m s 0 q
  stands_row p v q takes shows there under none is = shown_row code m s s.focus s.ks ks p v q h takes shows there under none is

  pub decided_row : (p : Shown) (v : Value) (q : Step) → WhereDecided (target ks) (Takes code m.top.function ks m.top.at p) → Shows (view m.top) m.row p v → Under (free ks + 1) p → ahead p ≡ 0
      → q ≡ Next (record s { focus = Gives v; ks = contexts ks }) → Row code (Sim code) m s 0 q
  decided_row p v q c shows under none is =
      let t = there_decided (target ks) (Takes code m.top.function ks m.top.at p) p c in
      stands_row p v q t.1 shows t.0 under none is

  pub integer_row : (n : ℤ) (q : Step) → IsInt code m.top.function m.top.at r n → Takes code m.top.function ks (m.top.at + 1) (Reg r) → q ≡ Next (record s { focus = Gives (value.Int n); ks = contexts ks })
      → Row code (Sim code) m s 0 q
  integer_row n q (inl at) takes is = gives_row code m s s.focus s.ks ks (op.Int r n) (value.Int n) q h at refl (in_row (op.Int r n) at (λ f. f.0)) takes is
  integer_row n q (inr c) takes is =
      gives_row code m s s.focus s.ks ks (op.Constant r c.0) (value.Int n) q h c.1 (ap (λ x. constant_value x r m) c.2) (in_row (op.Constant r c.0) c.1 (λ f. f.0)) takes is

  -- ---- one operand
  unary_reg : (u : Unary) (x at : ℕ) (v : Value) → slot m x ≡ v → AtLine code m.top.function m.top.at (op.Unary u r x) at → Takes code m.top.function ks (m.top.at + 1) (Reg r)
      → Row code (Sim code) m s 0 (meaning_moves.answered (unary s.aside.heap.texts u v) at s (contexts ks))
  unary_reg u x at v shows is takes =
      answers_row (op.Unary u r x) (unary s.aside.heap.texts u v) (unary m.aside.heap.texts u (slot m x)) at is refl
      (ap (λ b. unary b.texts u (slot m x)) h.beside.heap ∙ ap (λ w. unary s.aside.heap.texts u w) shows) (λ f. f.0) takes

  abbrev After : Unary → Value → ℕ → Step
  After u v at = meaning_moves.answered (unary s.aside.heap.texts u v) at s (contexts ks)

  not_true : (b : Bool) → b ≡ true → not b ≡ false
  not_true b e = ap not e

  pub unary_gives : (u : Unary) (p : Shown) (at : ℕ) (v : Value) → IsUnary code m.top.function m.top.at u (target ks) (free ks) p at (Takes code m.top.function ks) → Shows (view m.top) m.row p v → Under (free ks + 1) p
      → Row code (Sim code) m s (ahead p) (After u v at)
  unary_gives unary_op.Not (Reg x) at v (inl c) shows under = unary_reg unary_op.Not x at v shows c.0 c.1
  unary_gives unary_op.Not (Reg x) at v (inr c) shows under =
      decided_row (Not x) (value.Bool (not (is_true v))) _ c (ap (λ w. value.Bool (not (is_true w))) (sym shows)) under refl refl
  unary_gives unary_op.Minus (Reg x) at v c shows under = unary_reg unary_op.Minus x at v shows c.0 c.1
  unary_gives unary_op.Length (Reg x) at v c shows under = unary_reg unary_op.Length x at v shows c.0 c.1
  unary_gives unary_op.BitNot (Reg x) at v c shows under = unary_reg unary_op.BitNot x at v shows c.0 c.1
  unary_gives unary_op.Minus (Imm n) at v (inl c) shows under =
      subst (λ w. Row code (Sim code) m s 0 (After unary_op.Minus w at)) (sym shows) (integer_row (lua.minus n) _ c.0 c.1 refl)
  unary_gives unary_op.Minus (Imm n) at v (inr c) shows under =
      let t = there_anywhere (target ks) (Takes code m.top.function ks m.top.at (Imm (lua.minus n))) (Imm (lua.minus n)) tt c in
      subst (λ w. Row code (Sim code) m s 0 (After unary_op.Minus w at)) (sym shows) (stands_row (Imm (lua.minus n)) (value.Int (lua.minus n)) _ t.1 refl t.0 tt refl refl)
  unary_gives unary_op.Not (Imm n) at v c shows under =
      subst (λ w. Row code (Sim code) m s 0 (After unary_op.Not w at)) (sym shows) (decided_row Fails (value.Bool false) _ c refl tt refl refl)
  unary_gives unary_op.Length (Imm n) at v c shows under = absurd c
  unary_gives unary_op.BitNot (Imm n) at v c shows under = absurd c
  unary_gives u (Not x) at v c shows under = unary_not u x at v c shows
    where
      unary_not : (u : Unary) (x at : ℕ) (v : Value) → IsUnary code m.top.function m.top.at u (target ks) (free ks) (Not x) at (Takes code m.top.function ks) → Shows (view m.top) m.row (Not x) v → Row code (Sim code) m s 0 (After u v at)
      unary_not unary_op.Not x at v c shows = absurd c
      unary_not unary_op.Minus x at v c shows = absurd c
      unary_not unary_op.Length x at v c shows = absurd c
      unary_not unary_op.BitNot x at v c shows = absurd c
  unary_gives unary_op.Not (Holds pay) at v c shows under =
      subst (λ k. Row code (Sim code) m s k (After unary_op.Not v at)) (sym c.0)
      (decided_row Fails (value.Bool (not (is_true v))) _ c.1 (not_true (is_true v) shows) tt refl refl)
  unary_gives unary_op.Minus (Holds pay) at v c shows under = absurd c
  unary_gives unary_op.Length (Holds pay) at v c shows under = absurd c
  unary_gives unary_op.BitNot (Holds pay) at v c shows under = absurd c
  unary_gives unary_op.Not Fails at v c shows under = decided_row (Holds 0) (value.Bool (not (is_true v))) _ c (ap not shows) tt refl refl
  unary_gives unary_op.Minus Fails at v c shows under = absurd c
  unary_gives unary_op.Length Fails at v c shows under = absurd c
  unary_gives unary_op.BitNot Fails at v c shows under = absurd c
