-- Statements.
use Rattle.std.proofs.Common.{◌≡◌, ℕ, ◌+◌, ◌≤◌, ◌⊎◌, inl, inr, List, [], ◌∷◌, ◌++◌, length, Option, Some, None, refl, sym, ap, ◌∙◌, subst, arith, true, false}
use Rattle.std.specs.Prelude.{min}
use Rattle.lua_tree.specs.Source as source
use Rattle.lua_tree.specs.Source.{Text, Block, Exp, Exps, Suffixes, Branches, Targets, Stat}
use Rattle.lua_value.specs.Lists.{adjusted}
use Rattle.lua_code.specs.declared.op.Op.TheVariants as op
use Rattle.lua_code.specs.Valid.{IsValid}
use Rattle.lua_meaning.specs.State.{Env, Eval, All, Items, Lists, Run, State, Context, Values, SuffixK, OneK, IfK, WhileK, ForK, LocalK, AssignK, DropK, GenericK, BlockK}
use Rattle.lua_meaning.specs.Statements.{stat, assigns, variables}
use Rattle.lua_steps.specs.declared.scope.Place.{Place}
use Rattle.lua_steps.specs.declared.scope.Place.TheVariants.{InSlot, InCell, InUp, Hidden}
use Rattle.lua_steps.specs.Machine.{Code, Machine}
use Rattle.lua_steps.specs.Moves.{values_from}
use Rattle.lua_steps.specs.Scope.{Scope, place_of}
use Rattle.lua_steps.specs.Stand.{At, Tick, Target, Into, Anywhere, Decided, OfReg, WhereOne, WhereSome, WhereInSlot, IsPut, from_slots, from_items, IsWrites}
use Rattle.lua_steps.specs.Serves.{IsOne, IsExp, IsMany, IsOnly, IsValues, IsList, IsBlock, IsStat}
use Rattle.lua_follow.specs.Spot.{Form, Filled, OnList, Alone, First, FirstOf, Spot, SuffixS, OneS, IfS, WhileS, ForS, LocalS, AssignS, DropS, GenericS, BlockS, contexts, free, asked, form_of, before, list_in, lists_of, free_in}
use Rattle.lua_follow.specs.Takes.{Takes, TakesAll, Ends, Exits}
use Rattle.lua_follow.specs.Memory.{view}
use Rattle.lua_follow.specs.Kept.{Partly, Kept, Scoped, Assigns, floor, cells_in}
use Rattle.lua_follow.proofs.Branches.{put_at}
use Rattle.lua_follow.proofs.Firm.{Firm, shifted, whole_stands}
use Rattle.lua_follow.proofs.Scenes.{Scene, run_stands}
use Rattle.lua_follow.proofs.Runs.{way, runs_op}
use Rattle.lua_follow.proofs.TicksPaid.{Settled, settled_row, at_once}
use Rattle.lua_follow.proofs.RowsEval.{eval_stands}
use Rattle.lua_follow.proofs.RowsItems.{IsItems, items_sim, all_one}
use Rattle.lua_follow.proofs.Sim.{Row, Near, Sim, quiet, near, standing}

pub le_refl : (n : ℕ) → n ≤ n
le_refl n = omega arith

-- the machine at another place, with other ticks and lists
abbrev pub scene_at : (code : Code) (m : Machine) (s : State) (ks : List Spot) (sc : Scope) (env : Env) (a l i : ℕ) → Scene code m s ks sc env → Scene code (record (put_at a m) { left = l }) (record s { left = i }) ks sc env
scene_at code m s ks sc env a l i h =
    record { homes = h.homes; owners = h.owners; memory = h.memory; inner = h.inner; round = h.round; kept = h.kept; below = h.below; room = h.room; lists = h.lists; beside = h.beside }

-- a term in the scope of a block
abbrev pub scoped_in : (code : Code) (m : Machine) (s : State) (ks : List Spot) (sc : Scope) (env : Env) (h : Scene code m s ks sc env) → Scoped h.homes h.owners (view m.top) sc env sc.free sc.cells
scoped_in code m s ks sc env h = record { sees = h.inner.sees; slots_in = le_refl sc.free; cells_in = le_refl sc.cells }

-- nothing has come of a list
pub none_filled : (m : Machine) (r n : ℕ) → Partly (view m.top) m.row (Filled r n) (Filled r n) []
none_filled m r n =
    let none : min 0 n ≡ 0 = omega arith in
    (omega arith, omega arith, ap (λ i. values_from m.row (m.top.base + r) i) none ∙ sym (ap (λ i. adjusted i []) none))

pub none_alone : (m : Machine) (t : Target) (d : ℕ) → (t ≡ Decided → ⊥) → Partly (view m.top) m.row (Alone t d) (Alone t d) []
none_alone m t d ne = (refl, refl, refl, ne)

abbrev Undecided : Target → Type 0
Undecided Decided = ⊥
Undecided t = Unit {0}

into_not : (r : ℕ) → Into r ≡ Decided → ⊥
into_not r e = subst Undecided e tt

pub anywhere_not : Anywhere ≡ Decided → ⊥
anywhere_not e = subst Undecided e tt

module _ (code : Code) (valid : IsValid code) (m : Machine) (s : State) (ks : List Spot) (sc : Scope) (env : Env) (h : Scene code m s ks sc env) (rest : Block) where
  abbrev X : ℕ → Type 0
  X = Exits code m.top.function ks

  abbrev K : Scope → ℕ → Type 0
  K next b = IsBlock code m.top.function next rest 0 b X (Ends code m.top.function ks)

  abbrev Stat-row : Stat → ℕ → Type 0
  Stat-row t k = Row code (Sim code) m s k (stat t rest env s (contexts ks))

  abbrev C : List Context
  C = contexts ks

  -- ---- an expression comes first
  pub if_row : (e : Exp) (p : Block) (others : Branches) (k : ℕ) → IsStat code m.top.function sc (source.If e p others) k m.top.at X K → Stat-row (source.If e p others) k
  if_row e p others k c =
      settled_row code (Sim code) m s (Eval e env) (IfK p others rest env ∷ C) k _ h.beside.heap c
      (λ j a r. at_once code (Sim code) m s (Eval e env) (IfK p others rest env ∷ C) j a (λ l i. subst (λ x. Sim code (record (put_at a m) { left = l }) (record s { focus = Eval e env; ks = IfK p others rest env ∷ C; left = i }) x) (sym r.0)
      (standing code _ _ 0 (IfS p others rest env sc ∷ ks) refl
      (eval_stands code (record (put_at a m) { left = l }) (record s { left = i }) (IfS p others rest env sc ∷ ks) e env sc
      (record { homes = h.homes; owners = h.owners; memory = h.memory; kept = (h.inner, h.round, h.kept); below = h.below; room = h.room; lists = h.lists; beside = h.beside }) r.1 (scoped_in code m s ks sc env h)))))

  pub numeric_row : (x : Text) (first limit : Exp) (p : Block) (line : ℕ) (k : ℕ) → IsStat code m.top.function sc (source.Numeric x first limit p line) k m.top.at X K → Stat-row (source.Numeric x first limit p line) k
  numeric_row x first limit p line k c =
      let F = ForK (source.MoreExps limit source.NoExp) [] x p line rest env ∷ C in
      settled_row code (Sim code) m s (Eval first env) F k _ h.beside.heap c
      (λ j a r. at_once code (Sim code) m s (Eval first env) F j a (λ l i. subst (λ y. Sim code (record (put_at a m) { left = l }) (record s { focus = Eval first env; ks = F; left = i }) y) (sym r.0)
      (standing code _ _ 0 (ForS (First limit) x p line rest env sc ∷ ks) refl
      (eval_stands code (record (put_at a m) { left = l }) (record s { left = i }) (ForS (First limit) x p line rest env sc ∷ ks) first env sc
      (record { homes = h.homes; owners = h.owners; memory = h.memory; kept = (h.inner, h.round, tt, h.kept); below = h.below; room = h.room; lists = h.lists; beside = h.beside }) r.1 (scoped_in code m s ks sc env h)))))

  pub numeric_by_row : (x : Text) (first limit step : Exp) (p : Block) (line : ℕ) (k : ℕ) → IsStat code m.top.function sc (source.NumericBy x first limit step p line) k m.top.at X K → Stat-row (source.NumericBy x first limit step p line) k
  numeric_by_row x first limit step p line k c =
      let F = ForK (source.MoreExps limit (source.MoreExps step source.NoExp)) [] x p line rest env ∷ C in
      settled_row code (Sim code) m s (Eval first env) F k _ h.beside.heap c
      (λ j a r. at_once code (Sim code) m s (Eval first env) F j a (λ l i. subst (λ y. Sim code (record (put_at a m) { left = l }) (record s { focus = Eval first env; ks = F; left = i }) y) (sym r.0)
      (standing code _ _ 0 (ForS (FirstOf limit step) x p line rest env sc ∷ ks) refl
      (eval_stands code (record (put_at a m) { left = l }) (record s { left = i }) (ForS (FirstOf limit step) x p line rest env sc ∷ ks) first env sc
      (record { homes = h.homes; owners = h.owners; memory = h.memory; kept = (h.inner, h.round, tt, h.kept); below = h.below; room = h.room; lists = h.lists; beside = h.beside }) r.1 (scoped_in code m s ks sc env h)))))

  pub while_row : (e : Exp) (p : Block) (k : ℕ) → IsStat code m.top.function sc (source.While e p) k m.top.at X K → Stat-row (source.While e p) k
  while_row e p k c =
      settled_row code (Sim code) m s (Eval e env) (WhileK e p rest env ∷ C) k _ h.beside.heap c
      (λ j a r. (let w = way code m.top.function a _ r.1 in
      record {
        n = w.n;
        to = put_at w.at m;
        runs = λ l. w.runs (record m { left = l }) refl;
        heap = refl;
        stands = λ l i. subst (λ x. Sim code (record (put_at w.at m) { left = l }) (record s { focus = Eval e env; ks = WhileK e p rest env ∷ C; left = i }) x) (sym r.0)
            (standing code _ _ 0 (WhileS e p rest env sc w.at ∷ ks) refl
            (eval_stands code (record (put_at w.at m) { left = l }) (record s { left = i }) (WhileS e p rest env sc w.at ∷ ks) e env sc
            (record { homes = h.homes; owners = h.owners; memory = h.memory; kept = (h.inner, h.round, w.holds, h.kept); below = h.below; room = h.room; lists = h.lists; beside = h.beside }) w.holds
            (scoped_in code m s ks sc env h)));
      }))

  -- ---- a block comes first
  pub do_row : (p : Block) (k : ℕ) → IsStat code m.top.function sc (source.Do p) k m.top.at X K → Stat-row (source.Do p) k
  do_row p k c =
      settled_row code (Sim code) m s (Run p env) (BlockK rest env ∷ C) k _ h.beside.heap c
      (λ j a r. at_once code (Sim code) m s (Run p env) (BlockK rest env ∷ C) j a (λ l i.
      standing code _ _ j (BlockS rest env sc ∷ ks) refl
      (run_stands code (record (put_at a m) { left = l }) (record s { left = i }) (BlockS rest env sc ∷ ks) sc env p j
      (record {
        homes = h.homes;
        owners = h.owners;
        memory = h.memory;
        inner = record { sees = h.inner.sees; slots_out = le_refl sc.free; cells_out = le_refl sc.cells };
        round = h.round;
        kept = (h.inner, h.round, h.kept);
        below = h.below;
        room = h.room;
        lists = h.lists;
        beside = h.beside;
      }) r)))

  -- ---- a list comes first
  abbrev at_place : ℕ → ℕ → Machine
  at_place a l = record (put_at a m) { left = l }

  abbrev with_left : ℕ → State
  with_left i = record s { left = i }

  settle_items : (es : Exps) (js : List Spot) (form : Form) (j a : ℕ) → j ≡ 0 → (firm : (l i : ℕ) → Firm code (at_place a l) (with_left i) js)
      → ((l i : ℕ) → Scoped (firm l i).homes (firm l i).owners (view m.top) sc env (floor js) (cells_in js)) → asked js ≡ form_of js → Partly (view m.top) m.row (asked js) form [] → free js ≤ free_in form
      → m.top.lists ≡ list_in form (before js ++ []) (lists_of js) → IsItems code m.top.function sc es form a js → Settled code (Sim code) m s (Items es env []) (contexts js) j a
  settle_items es js form j a none firm scoped asks part le lists c =
      at_once code (Sim code) m s (Items es env []) (contexts js) j a
      (λ l i. subst (λ x. Sim code (at_place a l) (record s { focus = Items es env []; ks = contexts js; left = i }) x) (sym none)
      (items_sim code valid (at_place a l) (with_left i) js (firm l i) env sc (scoped l i) [] asks es form part le lists c))

  abbrev listing : ℕ → ℕ → Machine
  listing a l = record (shifted m (a + 1) ([] ∷ m.top.lists) m.row) { left = l }

  settle_list : (es : Exps) (js : List Spot) (d j a : ℕ) → j ≡ 0 → (firm : (l i : ℕ) → Firm code (listing a l) (with_left i) js)
      → ((l i : ℕ) → Scoped (firm l i).homes (firm l i).owners (view m.top) sc env (floor js) (cells_in js)) → asked js ≡ form_of js → Partly (view m.top) m.row (asked js) (OnList d) [] → free js ≤ d
      → [] ∷ m.top.lists ≡ (before js ++ []) ∷ lists_of js → At code m.top.function a op.Begin → IsList code m.top.function sc es (a + 1) d (TakesAll code m.top.function js)
      → Settled code (Sim code) m s (Items es env []) (contexts js) j a
  settle_list es js d j a none firm scoped asks part le lists begin c =
      record {
        n = 1;
        to = shifted m (a + 1) ([] ∷ m.top.lists) m.row;
        runs = λ l. runs_op code (at_place a l) op.Begin _ begin refl;
        heap = refl;
        stands = λ l i. subst (λ x. Sim code (listing a l) (record s { focus = Items es env []; ks = contexts js; left = i }) x) (sym none)
            (items_sim code valid (listing a l) (with_left i) js (firm l i) env sc (scoped l i) [] asks es (OnList d) part le lists c);
      }

  local_coming : (xs : List Text) (es : Exps) (j a : ℕ) → j ≡ 0 → (IsValues code m.top.function sc es (length xs) a sc.free (TakesAll code m.top.function (LocalS xs rest env sc false ∷ ks))) ⊎ (At code m.top.function a op.Begin × IsList code m.top.function sc es (a + 1) sc.free (TakesAll code m.top.function (LocalS xs rest env sc true ∷ ks))) → Settled code (Sim code) m s (Items es env []) (LocalK xs rest env ∷ C) j a
  local_coming xs es j a none (inl c) =
      settle_items es (LocalS xs rest env sc false ∷ ks) (Filled sc.free (length xs)) j a none
      (λ l i. record { homes = h.homes; owners = h.owners; memory = h.memory; kept = (h.inner, h.round, h.kept); below = h.below; room = h.room; beside = h.beside })
      (λ l i. scoped_in code m s ks sc env h) refl (none_filled m _ _) (le_refl sc.free) h.lists c
  local_coming xs es j a none (inr c) =
      settle_list es (LocalS xs rest env sc true ∷ ks) sc.free j a none
      (λ l i. record { homes = h.homes; owners = h.owners; memory = h.memory; kept = (h.inner, h.round, h.kept); below = h.below; room = h.room; beside = h.beside })
      (λ l i. scoped_in code m s ks sc env h) refl refl (le_refl sc.free) (ap (λ ls. [] ∷ ls) h.lists) c.0 c.1

  pub local_stat : (xs : List Text) (es : Exps) (k : ℕ) → IsStat code m.top.function sc (source.Local xs es) k m.top.at X K → Stat-row (source.Local xs es) k
  local_stat xs es k c = settled_row code (Sim code) m s (Items es env []) (LocalK xs rest env ∷ C) k _ h.beside.heap c (λ j a r. local_coming xs es j a r.0 r.1)

  generic_coming : (xs : List Text) (es : Exps) (p : Block) (line : ℕ) (j a : ℕ) → j ≡ 0 → (IsValues code m.top.function sc es 3 a sc.free (TakesAll code m.top.function (GenericS xs p line rest env sc false ∷ ks))) ⊎ (At code m.top.function a op.Begin × IsList code m.top.function sc es (a + 1) sc.free (TakesAll code m.top.function (GenericS xs p line rest env sc true ∷ ks))) → Settled code (Sim code) m s (Items es env []) (GenericK xs p line rest env ∷ C) j a
  generic_coming xs es p line j a none (inl c) =
      settle_items es (GenericS xs p line rest env sc false ∷ ks) (Filled sc.free 3) j a none
      (λ l i. record { homes = h.homes; owners = h.owners; memory = h.memory; kept = (h.inner, h.round, h.kept); below = h.below; room = h.room; beside = h.beside })
      (λ l i. scoped_in code m s ks sc env h) refl (none_filled m _ _) (le_refl sc.free) h.lists c
  generic_coming xs es p line j a none (inr c) =
      settle_list es (GenericS xs p line rest env sc true ∷ ks) sc.free j a none
      (λ l i. record { homes = h.homes; owners = h.owners; memory = h.memory; kept = (h.inner, h.round, h.kept); below = h.below; room = h.room; beside = h.beside })
      (λ l i. scoped_in code m s ks sc env h) refl refl (le_refl sc.free) (ap (λ ls. [] ∷ ls) h.lists) c.0 c.1

  pub generic_stat : (xs : List Text) (es : Exps) (p : Block) (line : ℕ) (k : ℕ) → IsStat code m.top.function sc (source.Generic xs es p line) k m.top.at X K → Stat-row (source.Generic xs es p line) k
  generic_stat xs es p line k c = settled_row code (Sim code) m s (Items es env []) (GenericK xs p line rest env ∷ C) k _ h.beside.heap c (λ j a r. generic_coming xs es p line j a r.0 r.1)

  -- ---- assignment
  abbrev Assigned : List Text → Exps → ℕ → Type 0
  Assigned xs es b =
      WhereOne xs (λ x. WhereInSlot (place_of sc.names x) (λ q. IsOnly code m.top.function sc es b sc.free (Into q) (λ c p. K sc c)))
      ⊎ WhereOne xs (λ x. IsOnly code m.top.function sc es b sc.free Anywhere (λ c p. OfReg p (λ r. IsPut code m.top.function c r (place_of sc.names x) × K sc (c + 1))))
      ⊎ IsValues code m.top.function sc es (length xs) b sc.free (λ c. IsWrites code m.top.function sc (from_slots xs sc.free []) c (λ z. K sc z))
      ⊎ (At code m.top.function b op.Begin × IsList code m.top.function sc es (b + 1) sc.free (λ c.
      IsWrites code m.top.function sc (from_items xs 0 []) c (λ z. At code m.top.function z (op.Spread sc.free 0) × K sc (z + 1))))

  abbrev Assign-settled : List Text → Exps → ℕ → ℕ → Type 0
  Assign-settled xs es j a = Settled code (Sim code) m s (Items es env []) (AssignK xs rest env ∷ C) j a

  assign_kept : (xs : List Text) (form : Form) → Assigns sc xs form → Kept code h.homes h.owners (view m.top) m.row (AssignS xs rest env sc form ∷ ks)
  assign_kept xs form a = (h.inner, h.round, a, h.kept)

  assign_direct : (x : Text) (es : Exps) (j a : ℕ) → j ≡ 0 → (o : Option Place) → place_of sc.names x ≡ o → WhereInSlot o (λ q. IsOnly code m.top.function sc es a sc.free (Into q) (λ c p. K sc c)) → Assign-settled (x ∷ []) es j a
  assign_direct x es j a none (Some (InSlot q)) e c =
      settle_items es (AssignS (x ∷ []) rest env sc (Alone (Into q) sc.free) ∷ ks) (Alone (Into q) sc.free) j a none
      (λ l i. record { homes = h.homes; owners = h.owners; memory = h.memory; kept = (h.inner, h.round, (refl, e), h.kept); below = h.below; room = h.room; beside = h.beside })
      (λ l i. scoped_in code m s ks sc env h) refl (none_alone m (Into q) sc.free (into_not q)) (le_refl sc.free) h.lists c
  assign_direct x es j a none None e c = absurd c
  assign_direct x es j a none (Some (InCell q)) e c = absurd c
  assign_direct x es j a none (Some (InUp q)) e c = absurd c
  assign_direct x es j a none (Some Hidden) e c = absurd c

  assign_coming : (xs : List Text) (es : Exps) (j a : ℕ) → j ≡ 0 → Assigned xs es a → Assign-settled xs es j a
  assign_coming [] es j a none (inl c) = absurd c
  assign_coming (x ∷ y ∷ xs) es j a none (inl c) = absurd c
  assign_coming (x ∷ []) es j a none (inl c) = assign_direct x es j a none (place_of sc.names x) refl c
  assign_coming [] es j a none (inr (inl c)) = absurd c
  assign_coming (x ∷ y ∷ xs) es j a none (inr (inl c)) = absurd c
  assign_coming (x ∷ []) es j a none (inr (inl c)) =
      settle_items es (AssignS (x ∷ []) rest env sc (Alone Anywhere sc.free) ∷ ks) (Alone Anywhere sc.free) j a none
      (λ l i. record { homes = h.homes; owners = h.owners; memory = h.memory; kept = (h.inner, h.round, refl, h.kept); below = h.below; room = h.room; beside = h.beside })
      (λ l i. scoped_in code m s ks sc env h) refl (none_alone m Anywhere sc.free anywhere_not) (le_refl sc.free) h.lists c
  assign_coming xs es j a none (inr (inr (inl c))) =
      settle_items es (AssignS xs rest env sc (Filled sc.free (length xs)) ∷ ks) (Filled sc.free (length xs)) j a none
      (λ l i. record { homes = h.homes; owners = h.owners; memory = h.memory; kept = (h.inner, h.round, (refl, refl), h.kept); below = h.below; room = h.room; beside = h.beside })
      (λ l i. scoped_in code m s ks sc env h) refl (none_filled m _ _) (le_refl sc.free) h.lists c
  assign_coming xs es j a none (inr (inr (inr c))) =
      settle_list es (AssignS xs rest env sc (OnList sc.free) ∷ ks) sc.free j a none
      (λ l i. record { homes = h.homes; owners = h.owners; memory = h.memory; kept = (h.inner, h.round, refl, h.kept); below = h.below; room = h.room; beside = h.beside })
      (λ l i. scoped_in code m s ks sc env h) refl refl (le_refl sc.free) (ap (λ ls. [] ∷ ls) h.lists) c.0 c.1

  assign_some : (o : Option (List Text)) (es : Exps) (k : ℕ) → WhereSome o (λ xs. Tick code m.top.function k m.top.at (λ b. Assigned xs es b)) → Row code (Sim code) m s k (assigns o es rest env s C)
  assign_some None es k c = absurd c
  assign_some (Some xs) es k c = settled_row code (Sim code) m s (Items es env []) (AssignK xs rest env ∷ C) k _ h.beside.heap c (λ j a r. assign_coming xs es j a r.0 r.1)

  pub assign_stat : (ts : Targets) (es : Exps) (k : ℕ) → IsStat code m.top.function sc (source.Assign ts es) k m.top.at X K → Stat-row (source.Assign ts es) k
  assign_stat ts es k c = assign_some (variables ts) es k c

  -- ---- an expression alone
  abbrev Invoking : Exp → ℕ → ℕ → Type 0
  Invoking e j a = Settled code (Sim code) m s (All e env) (DropK rest env ∷ C) j a

  invoke_one : (e : Exp) (j a : ℕ) → j ≡ 0 → IsOne e → IsExp code m.top.function sc e a sc.free Anywhere (λ c p. K sc c) → Invoking e j a
  invoke_one e j a none one c =
      at_once code (Sim code) m s (All e env) (DropK rest env ∷ C) j a
      (λ l i. subst (λ x. Sim code (at_place a l) (record s { focus = All e env; ks = DropK rest env ∷ C; left = i }) x) (sym none) (
        1,
        inr (quiet code (Near code 0) (at_place a l) (at_place a l) (record s { focus = All e env; ks = DropK rest env ∷ C; left = i }) (record s { focus = Eval e env; ks = OneK ∷ DropK rest env ∷ C; left = i }) 0 0 _ refl refl (λ lt. refl)
            (all_one e env (record s { focus = All e env; ks = DropK rest env ∷ C; left = i }) (DropK rest env ∷ C) one) refl
            (near code 0 _ _ 0 (OneS ∷ DropS rest env sc true ∷ ks) refl
            (eval_stands code (at_place a l) (with_left i) (OneS ∷ DropS rest env sc true ∷ ks) e env sc
            (record { homes = h.homes; owners = h.owners; memory = h.memory; kept = (tt, (h.inner, h.round, h.kept)); below = h.below; room = h.room; lists = h.lists; beside = h.beside }) c (scoped_in code m s ks sc env h)))),
      ))

  invoke_call : (e : Exp) (ss : Suffixes) (j a : ℕ) → j ≡ 0 → IsExp code m.top.function sc e a sc.free (Into sc.free) (Takes code m.top.function (SuffixS ss Values env sc ∷ DropS rest env sc false ∷ ks)) → Invoking (source.Suffixed e ss) j a
  invoke_call e ss j a none c =
      at_once code (Sim code) m s (All (source.Suffixed e ss) env) (DropK rest env ∷ C) j a
      (λ l i. subst (λ x. Sim code (at_place a l) (record s { focus = All (source.Suffixed e ss) env; ks = DropK rest env ∷ C; left = i }) x) (sym none) (
        1,
        inr (quiet code (Near code 0) (at_place a l) (at_place a l) (record s { focus = All (source.Suffixed e ss) env; ks = DropK rest env ∷ C; left = i })
            (record s { focus = Eval e env; ks = SuffixK ss Values env ∷ DropK rest env ∷ C; left = i }) 0 0 _ refl refl (λ lt. refl) refl refl
            (near code 0 _ _ 0 (SuffixS ss Values env sc ∷ DropS rest env sc false ∷ ks) refl
            (eval_stands code (at_place a l) (with_left i) (SuffixS ss Values env sc ∷ DropS rest env sc false ∷ ks) e env sc
            (record { homes = h.homes; owners = h.owners; memory = h.memory; kept = (tt, scoped_in code m s ks sc env h, (h.inner, h.round, h.kept)); below = h.below; room = h.room; lists = h.lists; beside = h.beside }) c
            (scoped_in code m s ks sc env h)))),
      ))

  invoke_dots : (j a : ℕ) → j ≡ 0 → At code m.top.function a (op.DotsTo sc.free 0) → K sc (a + 1) → Invoking source.Dots j a
  invoke_dots j a none at c =
      at_once code (Sim code) m s (All source.Dots env) (DropK rest env ∷ C) j a
      (λ l i. subst (λ x. Sim code (at_place a l) (record s { focus = All source.Dots env; ks = DropK rest env ∷ C; left = i }) x) (sym none) (
        1,
        inr (quiet code (Near code 0) (at_place a l) (at_place (a + 1) l) (record s { focus = All source.Dots env; ks = DropK rest env ∷ C; left = i }) (record s { focus = Lists env.dots; ks = DropK rest env ∷ C; left = i }) 0 1 _
            (runs_op code (at_place a l) (op.DotsTo sc.free 0) _ at refl) refl (λ lt. refl) refl refl
            (near code 0 _ _ 0 (DropS rest env sc false ∷ ks) refl
            (whole_stands code (at_place (a + 1) l) (with_left i) (DropS rest env sc false ∷ ks) env.dots
            (record { homes = h.homes; owners = h.owners; memory = h.memory; kept = (h.inner, h.round, h.kept); below = h.below; room = h.room; beside = h.beside }) c (refl, h.lists)))),
      ))

  invoke_many : (e : Exp) (j a : ℕ) → j ≡ 0 → IsMany code m.top.function sc e 0 a sc.free (λ c. K sc c) → Invoking e j a
  invoke_many source.Dots j a none c = invoke_dots j a none c.0 c.1
  invoke_many (source.Suffixed e ss) j a none c = invoke_call e ss j a none c
  invoke_many e j a none c = absurd c

  invoke_coming : (e : Exp) (j a : ℕ) → j ≡ 0 → IsMany code m.top.function sc e 0 a sc.free (λ c. K sc c) ⊎ (IsOne e × IsExp code m.top.function sc e a sc.free Anywhere (λ c p. K sc c)) → Invoking e j a
  invoke_coming e j a none (inl c) = invoke_many e j a none c
  invoke_coming e j a none (inr c) = invoke_one e j a none c.0 c.1

  pub invoke_stat : (e : Exp) (k : ℕ) → IsStat code m.top.function sc (source.Invoke e) k m.top.at X K → Stat-row (source.Invoke e) k
  invoke_stat e k c = settled_row code (Sim code) m s (All e env) (DropK rest env ∷ C) k _ h.beside.heap c (λ j a r. invoke_coming e j a r.0 r.1)
