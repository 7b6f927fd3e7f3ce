-- A value becomes a list, or goes into one.
use Rattle.std.proofs.Common.{◌≡◌, ℕ, zero, suc, ◌+◌, ◌-◌, ◌≤◌, inl, List, [], ◌∷◌, ◌++◌, refl, sym, ap, ◌∙◌, subst, arith, true}
use Rattle.lua_tree.specs.Source.{Exp, Exps, MoreExps}
use Rattle.lua_value.specs.declared.value.Value.{Value}
use Rattle.lua_value.specs.Lists.{value_at}
use Rattle.lua_code.specs.declared.op.Op.TheVariants as op
use Rattle.lua_code.specs.Valid.{IsValid}
use Rattle.lua_meaning.specs.State.{Env, Items, Gives, Lists, State}
use Rattle.lua_meaning.specs.Reduce.{reduce}
use Rattle.lua_steps.specs.Machine.{Code, Machine, On}
use Rattle.lua_steps.specs.Moves.{on_list, next, with_lists, slot}
use Rattle.lua_steps.specs.Run.{run}
use Rattle.lua_steps.specs.Scope.{Scope}
use Rattle.lua_steps.specs.Stand.{Target, Into, Anywhere, Decided, Shown, Reg, Imm, Not, Holds, Fails, IsThere, OfReg, register}
use Rattle.lua_steps.specs.Serves.{following}
use Rattle.lua_follow.specs.Spot.{Form, Exactly, Filled, OnList, Alone, Spot, OneS, ItemS, SpreadS, DropS, contexts, free, target, asked, form_of, before, lists_of}
use Rattle.lua_follow.specs.Memory.{View, view, Memory}
use Rattle.lua_follow.specs.Kept.{Shows, Partly, Alonely, Kept, floor}
use Rattle.lua_follow.specs.Stands.{Stands, needed, needed_alone, ahead}
use Rattle.lua_follow.proofs.Keep.{floor_free}
use Rattle.lua_follow.proofs.Places.{rows_but}
use Rattle.lua_follow.proofs.Gives.{Steady}
use Rattle.lua_follow.proofs.Parts.{next_exact, next_filled, next_list, append_more}
use Rattle.lua_follow.proofs.Firm.{Firm, shifted, firm_at, room_for}
use Rattle.lua_follow.proofs.Runs.{runs_op}
use Rattle.lua_follow.proofs.RowsItems.{items_sim}
use Rattle.lua_follow.proofs.Sim.{Row, Sim, quiet, standing}

-- ---- the list of one value
one_target : (ks : List Spot) → Alonely ks → target (OneS ∷ ks) ≡ needed_alone ks
one_target [] h = absurd h
one_target (SpreadS us form ∷ ks) h = refl
one_target (DropS rest env sc true ∷ ks) h = refl
one_target (k ∷ ks) h = absurd h

-- ticks were paid for no such value
plain_there : (t : Target) (p : Shown) → (t ≡ Decided → ⊥) → IsThere t p → ahead p ≡ 0
plain_there (Into r) p ne h = ap ahead h
plain_there Anywhere (Reg r) ne h = refl
plain_there Anywhere (Imm n) ne h = refl
plain_there Anywhere (Not r) ne h = absurd h
plain_there Anywhere (Holds pay) ne h = absurd h
plain_there Anywhere Fails ne h = absurd h
plain_there Decided p ne h = absurd (ne refl)

partly_alone : (fr : View) (row : List Value) (f : Form) (t : Target) (d : ℕ) (us : List Value) → Partly fr row f (Alone t d) us → t ≡ Decided → ⊥
partly_alone fr row (Alone t0 d0) t d us h = h.3
partly_alone fr row (Exactly r) t d us h = absurd h
partly_alone fr row (Filled r n) t d us h = absurd h
partly_alone fr row (OnList e) t d us h = absurd h

abbrev Undecided : Target → Type 0
Undecided Decided = ⊥
Undecided t = Unit {0}

not_decided : (t : Target) → Undecided t → t ≡ Decided → ⊥
not_decided t u e = subst Undecided e u

-- no value of a list is only decided
undecided : (code : Code) (m : Machine) (homes : _) (owners : _) (ks : List Spot) → Kept code homes owners (view m.top) m.row (OneS ∷ ks) → target (OneS ∷ ks) ≡ Decided → ⊥
undecided code m homes owners [] h = not_decided Anywhere tt
undecided code m homes owners (SpreadS us (Exactly r) ∷ ks) h = not_decided (Into r) tt
undecided code m homes owners (SpreadS us (Filled r n) ∷ ks) h = not_decided (Into r) tt
undecided code m homes owners (SpreadS us (OnList d) ∷ ks) h = not_decided Anywhere tt
undecided code m homes owners (SpreadS us (Alone t d) ∷ ks) h = partly_alone (view m.top) m.row (asked ks) t d us h.1.0
undecided code m homes owners (k ∷ ks) h = not_decided Anywhere tt

-- ---- what is so where a value is given
pub gives_steady : (code : Code) (m : Machine) (s : State) (ks : List Spot) (v : Value) (k : ℕ) → (h : Stands code m (record s { focus = Gives v; ks = contexts ks }) ks k) → floor ks ≤ register (needed ks) (free ks) → Steady code m s ks
gives_steady code m s ks v k h le =
    record {
      homes = h.homes;
      owners = h.owners;
      memory = record {
        homed = h.here.7.homed;
        rows = rows_but h.homes h.owners m.row s.store (m.top.base + floor ks) (m.top.base + register (needed ks) (free ks)) (m.top.base + floor ks) (omega arith) h.here.7.rows;
        cells = h.here.7.cells;
        closures = h.here.7.closures;
      };
      kept = h.kept;
      below = h.below;
      room = h.room;
      lists = h.here.6;
      beside = h.beside;
    }

pub one_gives : (code : Code) (m : Machine) (s : State) (ks : List Spot) (v : Value) (k : ℕ) → Stands code m (record s { focus = Gives v; ks = contexts (OneS ∷ ks) }) (OneS ∷ ks) k
    → Row code (Sim code) m (record s { focus = Gives v; ks = contexts (OneS ∷ ks) }) k (reduce (record s { focus = Gives v; ks = contexts (OneS ∷ ks) }))
one_gives code m s ks v k h =
    let p = h.here.0 in
    let plain : ahead p ≡ 0 = plain_there (target (OneS ∷ ks)) p (undecided code m h.homes h.owners ks h.kept) h.here.3 in
    subst (λ i. Row code (Sim code) m (record s { focus = Gives v; ks = contexts (OneS ∷ ks) }) i (reduce (record s { focus = Gives v; ks = contexts (OneS ∷ ks) }))) (sym (h.here.5 ∙ plain))
    (quiet code (Sim code) m m (record s { focus = Gives v; ks = contexts (OneS ∷ ks) }) (record s { focus = Lists (v ∷ []); ks = contexts ks }) 0 0 _ refl refl (λ lt. refl) refl refl
    (standing code m _ 0 ks refl
    (record {
      homes = h.homes;
      owners = h.owners;
      here = (
        refl,
        inl (
          v,
          p,
          refl,
          h.here.1,
          h.here.2,
          subst (λ t. IsThere t p) (one_target ks h.kept.0) h.here.3,
          h.here.4,
          plain,
          h.here.6,
          subst (λ t. Memory code h.homes h.owners m.row m.cells m.closures s.store s.closures (m.top.base + floor ks) (m.top.base + register t (free ks))) (one_target ks h.kept.0) h.here.7,
        ),
      );
      kept = h.kept.1;
      below = h.below;
      room = room_for code (view m.top) m.row ks h.room;
      beside = h.beside;
    })))

-- ---- one more value of a list
module _ (code : Code) (valid : IsValid code) (m : Machine) (s : State) (ks : List Spot) (v : Value) (e : Exp) (es : Exps) (env : Env) (us : List Value) (sc : Scope) (asks : asked ks ≡ form_of ks) where
  abbrev Here-at : Form → ℕ → Type 0
  Here-at form k = Stands code m (record s { focus = Gives v; ks = contexts (ItemS e es env us sc form ∷ ks) }) (ItemS e es env us sc form ∷ ks) k

  abbrev Row-at : Form → ℕ → Type 0
  Row-at form k =
      Row code (Sim code) m (record s { focus = Gives v; ks = contexts (ItemS e es env us sc form ∷ ks) }) k (reduce (record s { focus = Gives v; ks = contexts (ItemS e es env us sc form ∷ ks) }))

  on_items : (form : Form) (k n : ℕ) (to : Machine) → run n code m ≡ On to → to.left ≡ m.left → to.aside ≡ m.aside → k ≡ 0 → Sim code to (record s { focus = Items (MoreExps e es) env (us ++ v ∷ []); ks = contexts ks }) 0 → Row-at form k
  on_items form k n to runs left heap none sim =
      subst (λ i. Row-at form i) (sym none)
      (quiet code (Sim code) m to (record s { focus = Gives v; ks = contexts (ItemS e es env us sc form ∷ ks) }) (record s { focus = Items (MoreExps e es) env (us ++ v ∷ []); ks = contexts ks }) 0 n _ runs left (λ lt. ap (λ a. a.heap) heap) refl refl sim)

  item_exact : (r k : ℕ) → Here-at (Exactly r) k → Row-at (Exactly r) k
  item_exact r k h =
      let p = h.here.0 in
      let is : p ≡ Reg r = h.here.3 in
      let g = gives_steady code m s (ItemS e es env us sc (Exactly r) ∷ ks) v k h (let a = floor_free code h.homes h.owners (view m.top) m.row (ItemS e es env us sc (Exactly r) ∷ ks) h.kept in a) in
      let stands : value_at m.row (m.top.base + r) ≡ v = subst (λ q. Shows (view m.top) m.row q v) is h.here.2 in
      let f : Firm code m s ks = record { homes = g.homes; owners = g.owners; memory = g.memory; kept = g.kept.3; below = g.below; room = g.room; beside = g.beside } in
      on_items (Exactly r) k 0 m refl refl refl (h.here.5 ∙ ap ahead is)
      (items_sim code valid m s ks f env sc g.kept.2 (us ++ v ∷ []) asks (MoreExps e es) (Exactly (r + 1)) (next_exact (view m.top) m.row (asked ks) r us v g.kept.0 stands) (omega (arith, g.kept.1)) g.lists h.here.1)

  following_high : (n r d : ℕ) → d ≤ r → d ≤ following n r
  following_high zero r d le = le
  following_high (suc n) r d le = omega arith

  item_filled : (r n k : ℕ) → Here-at (Filled r n) k → Row-at (Filled r n) k
  item_filled r n k h =
      let p = h.here.0 in
      let is : p ≡ Reg r = h.here.3 in
      let g = gives_steady code m s (ItemS e es env us sc (Filled r n) ∷ ks) v k h (let a = floor_free code h.homes h.owners (view m.top) m.row (ItemS e es env us sc (Filled r n) ∷ ks) h.kept in a) in
      let stands : value_at m.row (m.top.base + r) ≡ v = subst (λ q. Shows (view m.top) m.row q v) is h.here.2 in
      let f : Firm code m s ks = record { homes = g.homes; owners = g.owners; memory = g.memory; kept = g.kept.3; below = g.below; room = g.room; beside = g.beside } in
      on_items (Filled r n) k 0 m refl refl refl (h.here.5 ∙ ap ahead is)
      (items_sim code valid m s ks f env sc g.kept.2 (us ++ v ∷ []) asks (MoreExps e es) (Filled (following n r) (n - 1)) (next_filled (view m.top) m.row (asked ks) r n us v g.kept.0 stands)
      (following_high n r (free ks) g.kept.1) g.lists h.here.1)

  pushed : (P : Shown → Type 0) (p : Shown) (Q : ℕ → Type 0) → OfReg p Q → ((x : ℕ) → p ≡ Reg x → Q x → P p) → P p
  pushed P (Reg x) Q h f = f x refl h
  pushed P (Imm n) Q h f = absurd h
  pushed P (Not x) Q h f = absurd h
  pushed P (Holds pay) Q h f = absurd h
  pushed P Fails Q h f = absurd h

  item_list : (d k : ℕ) → Here-at (OnList d) k → Row-at (OnList d) k
  item_list d k h =
      let g = gives_steady code m s (ItemS e es env us sc (OnList d) ∷ ks) v k h (let a = floor_free code h.homes h.owners (view m.top) m.row (ItemS e es env us sc (OnList d) ∷ ks) h.kept in a) in
      let f : Firm code m s ks = record { homes = g.homes; owners = g.owners; memory = g.memory; kept = g.kept.3; below = g.below; room = g.room; beside = g.beside } in
      pushed (λ q. Row-at (OnList d) k) h.here.0 _ h.here.1
      (λ x is c.
      let stands : value_at m.row (m.top.base + x) ≡ v = subst (λ q. Shows (view m.top) m.row q v) is h.here.2 in
      let l = before ks ++ us in
      let to = shifted m (m.top.at + 1) ((l ++ v ∷ []) ∷ lists_of ks) m.row in
      on_items (OnList d) k 1 to
      (runs_op code m (op.Push x) _ c.0 (ap (λ ls. on_list ls (λ a b. next (with_lists ((a ++ slot m x ∷ []) ∷ b) m))) g.lists ∙ ap (λ w. next (with_lists ((l ++ w ∷ []) ∷ lists_of ks) m)) stands)) refl refl
      (h.here.5 ∙ ap ahead is)
      (items_sim code valid to s ks (firm_at code m s ks (m.top.at + 1) ((l ++ v ∷ []) ∷ lists_of ks) f) env sc g.kept.2 (us ++ v ∷ []) asks (MoreExps e es) (OnList d)
      (next_list (view m.top) m.row (asked ks) d us (us ++ v ∷ []) g.kept.0) g.kept.1 (ap (λ a. a ∷ lists_of ks) (append_more (before ks) us (v ∷ []))) c.1))

  pub item_gives : (form : Form) (k : ℕ) → Here-at form k → Row-at form k
  item_gives (Exactly r) k h = item_exact r k h
  item_gives (Filled r n) k h = item_filled r n k h
  item_gives (OnList d) k h = item_list d k h
  item_gives (Alone t d) k h = absurd h.here.1
