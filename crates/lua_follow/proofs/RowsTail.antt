-- Arguments have come: the rows of calls and of tail calls.
use Rattle.std.proofs.Common.{◌≡◌, ℕ, ◌+◌, ◌≤◌, inl, inr, List, [], ◌∷◌, length, Some, refl, sym, ap, ◌∙◌, subst, arith, true, false}
use Rattle.std.specs.Prelude.{Bool, slice_get}
use Rattle.lua_tree.specs.Source.{Suffixes, NoSuffix, MoreSuffixes}
use Rattle.lua_value.specs.declared.value.Value.{Value}
use Rattle.lua_value.specs.declared.value.Value.TheVariants as value
use Rattle.lua_code.specs.declared.op.Op.TheVariants as op
use Rattle.lua_code.specs.Valid.{IsValid}
use Rattle.lua_meaning.specs.State.{Env, Wanted, Result, Values, Lists, State, Context, CallK, AfterK}
use Rattle.lua_meaning.specs.Calls as meaning_calls
use Rattle.lua_meaning.specs.Reduce.{reduce}
use Rattle.lua_steps.specs.Machine.{Code, Machine, OnTop}
use Rattle.lua_steps.specs.Moves.{values_from, slot, slots_from, with_lists, on_list}
use Rattle.lua_steps.specs.Calls.{enter, calls, tail_calls, waiting}
use Rattle.lua_steps.specs.Exec.{line, applied, tail_calls_listed}
use Rattle.lua_steps.specs.Scope.{Scope}
use Rattle.lua_steps.specs.Stand.{At, Count, AsResult}
use Rattle.lua_follow.specs.Spot.{Exactly, Filled, OnList, Alone, Spot, ArgsS, CutS, SpreadS, DropS, TailS, ReturnS, contexts, free, want, lists_of}
use Rattle.lua_follow.specs.Takes.{TakesAll, wanted, FixedCall, ListedCall}
use Rattle.lua_follow.specs.Memory.{view, Memory}
use Rattle.lua_follow.specs.Kept.{Suits, floor}
use Rattle.lua_follow.specs.Stands.{Lies, Parked, Stands}
use Rattle.lua_follow.proofs.Keep.{floor_free}
use Rattle.lua_follow.proofs.Places.{rows_lower, rows_but}
use Rattle.lua_follow.proofs.Comes as come
use Rattle.lua_follow.proofs.Comes.{comes_same, acts}
use Rattle.lua_follow.proofs.RowsCall.{enters}
use Rattle.lua_follow.proofs.RowsArgs.{calls_comes, called, fixed_call, listed_call}
use Rattle.lua_follow.proofs.RowsOperator.{line_is}
use Rattle.lua_follow.proofs.Firm.{Firm}
use Rattle.lua_follow.proofs.Runs.{runs_op}
use Rattle.lua_follow.proofs.Sim.{Sim, Row, Outcome}

-- a call that is no tail call has its results as values
not_result : (ks : List Spot) → Suits Values ks → want ks ≡ AsResult → ⊥
not_result (CutS ∷ ks) h e = cc
not_result (SpreadS us (Filled r n) ∷ ks) h e = cc
not_result (SpreadS us (OnList d) ∷ ks) h e = cc
not_result (DropS rest env sc false ∷ ks) h e = cc
not_result [] h e = h
not_result (k ∷ ks) h e = h

more_result : (n : ℕ) → Count n ≡ AsResult → ⊥
more_result n e = cc

-- ---- a tail call
module _ (code : Code) (valid : IsValid code) (m : Machine) (s : State) (sc : Scope) (ks : List Spot) (vs : List Value) (at : ℕ) (env : Env) (h : Firm code m s (TailS sc ∷ ks)) where
  abbrev K : List Context
  K = contexts (TailS sc ∷ ks)

  abbrev waits : List Spot
  waits = ReturnS sc (OnList sc.free) ∷ ks

  tail_parks : (ls : List (List Value)) → ls ≡ lists_of ks → At code m.top.function (m.top.at + 1) op.ReturnList → Parked code h.homes h.owners m.row (waiting OnTop (record m.top { lists = ls })) waits
  tail_parks ls lists is =
      record { takes = is; awaits = tt; first = refl; kept = (h.kept.0, h.kept.1, h.kept.2, refl, h.kept.3); lists = lists; room = h.room }

  tail_enters : (ls : List (List Value)) → s.left ≡ m.left → (k : ℕ)
      → come.Comes code (Sim code) m (enter code (slice_get m.closures k) (Some at) (value.Func k) vs m.top.base m.below (with_lists ls m)) (meaning_calls.enter (slice_get s.closures k) (Some at) (value.Func k) vs s (meaning_calls.to_call K) K)
  tail_enters ls left k =
      let c = called code h.homes h.owners m.row m.top.base ks m.below h.kept.2 h.below in
      let low = floor_free code h.homes h.owners (view c.fr) m.row c.ws c.parked.kept in
      comes_same code (Sim code) m (enter code (slice_get m.closures k) (Some at) (value.Func k) vs m.top.base (c.fr ∷ c.more) (with_lists ls m)) _ (meaning_calls.enter (slice_get s.closures k) (Some at) (value.Func k) vs s (CallK c.line ∷ contexts c.ws) K) _
      (ap (λ frs. enter code (slice_get m.closures k) (Some at) (value.Func k) vs m.top.base frs (with_lists ls m)) c.frames) (ap (λ js. meaning_calls.enter (slice_get s.closures k) (Some at) (value.Func k) vs s js K) c.is)
      (enters code valid m (with_lists ls m) s h.homes h.owners c.line c.ws c.fr c.more m.top.base vs c.le
      (record {
        homed = h.memory.homed;
        rows = rows_but h.homes h.owners m.row s.store (c.fr.base + floor c.ws) (m.top.base + sc.free) (c.fr.base + floor c.ws) (let a = c.le in omega (arith, a, low))
            (rows_lower h.homes h.owners m.row s.store (m.top.base + sc.free) (c.fr.base + floor c.ws) (m.top.base + sc.free) (let a = c.le in omega (arith, a, low)) h.memory.rows);
        cells = h.memory.cells;
        closures = h.memory.closures;
      }) c.parked c.below h.beside left (Some at) K k)

  tail_other : (ls : List (List Value)) (cb : ℕ) → ls ≡ lists_of ks → m.top.base + sc.free ≤ cb → At code m.top.function (m.top.at + 1) op.ReturnList → s.left ≡ m.left → (f : Value)
      → come.Comes code (Sim code) m (calls code (Some at) f vs cb (waiting OnTop (record m.top { lists = ls })) (with_lists ls m)) (meaning_calls.calls (Some at) f vs s K)
  tail_other ls cb lists le is left f =
      calls_comes code valid m (with_lists ls m) s h.homes h.owners waits (waiting OnTop (record m.top { lists = ls })) cb vs (Some at) le h.memory (tail_parks ls lists is) h.below h.beside left f

  tail_comes : (ls : List (List Value)) (cb : ℕ) → ls ≡ lists_of ks → m.top.base + sc.free ≤ cb → At code m.top.function (m.top.at + 1) op.ReturnList → s.left ≡ m.left → (f : Value)
      → come.Comes code (Sim code) m (tail_calls code at f vs cb (waiting OnTop (record m.top { lists = ls })) (with_lists ls m)) (meaning_calls.tail_calls at f vs s K)
  tail_comes ls cb lists le is left (value.Func k) = tail_enters ls left k
  tail_comes ls cb lists le is left f = tail_other ls cb lists le is left f

  abbrev Tail-row : Value → Type 0
  Tail-row f = s.left ≡ m.left → Outcome code (Sim code) m (meaning_calls.tail_calls at f vs s K)

  fixed_tail : (f : Value) (mm : ℕ) → slot m sc.free ≡ f → ((k : ℕ) → mm ≡ sc.free + 1 + k → values_from m.row (m.top.base + (sc.free + 1)) k ≡ vs) → m.top.lists ≡ lists_of ks
      → FixedCall code m.top.function sc.free at AsResult (TakesAll code m.top.function (TailS sc ∷ ks)) m.top.at mm → Tail-row f
  fixed_tail f mm function args lists (k, many, is, returns) left =
      tail_comes m.top.lists (m.top.base + sc.free + 1) lists (omega arith) returns left f 1
      (runs_op code m (op.TailCall sc.free k) _ is.0
      (ap (λ l. tail_calls code l (slot m sc.free) (slots_from m (sc.free + 1) k) (m.top.base + sc.free + 1) (waiting OnTop m.top) m) (line_is code m at is.1)
      ∙ ap (λ g. tail_calls code at g (slots_from m (sc.free + 1) k) (m.top.base + sc.free + 1) (waiting OnTop m.top) m) function
      ∙ ap (λ us. tail_calls code at f us (m.top.base + sc.free + 1) (waiting OnTop m.top) m) (args k many)))

  listed_tail : (f : Value) → m.top.lists ≡ (f ∷ vs) ∷ lists_of ks → ListedCall code m.top.function sc.free at AsResult (TakesAll code m.top.function (TailS sc ∷ ks)) m.top.at → Tail-row f
  listed_tail f lists (is, returns) left =
      tail_comes (lists_of ks) (m.top.base + sc.free) refl (omega arith) returns left f 1
      (runs_op code m (op.TailCallList sc.free) _ is.0
      (ap (λ ls. on_list ls (λ l more. applied l (λ g us. tail_calls_listed code (line code m) g us (m.top.base + sc.free) (with_lists more m)))) lists
      ∙ ap (λ l. tail_calls code l f vs (m.top.base + sc.free) (waiting OnTop (with_lists (lists_of ks) m).top) (with_lists (lists_of ks) m)) (line_is code m at is.1)))

-- ---- the rows
module _ (code : Code) (valid : IsValid code) (m : Machine) (s : State) (ks : List Spot) (f : Value) (at : ℕ) (env : Env) (sc : Scope) (vs : List Value) where
  abbrev from : Suffixes → Wanted → Bool → State
  from ss how listed = record s { focus = Lists vs; ks = contexts (ArgsS f at ss how env sc listed ∷ ks) }

  abbrev Here-at : Suffixes → Wanted → Bool → Type 0
  Here-at ss how listed = Stands code m (from ss how listed) (ArgsS f at ss how env sc listed ∷ ks) 0

  abbrev Row-at : Suffixes → Wanted → Bool → Type 0
  Row-at ss how listed = Row code (Sim code) m (from ss how listed) 0 (reduce (from ss how listed))

  -- how many values stand in slots
  args_are : (mm k : ℕ) → mm ≡ free ks + 1 + length vs → values_from m.row (m.top.base + (free ks + 1)) (length vs) ≡ vs → mm ≡ free ks + 1 + k → values_from m.row (m.top.base + (free ks + 1)) k ≡ vs
  args_are mm k many stand count =
      let same : k ≡ length vs = omega (arith, many, count) in
      ap (λ i. values_from m.row (m.top.base + (free ks + 1)) i) same ∙ stand

  abbrev Came-at : (ss : Suffixes) (how : Wanted) (listed : Bool) → Here-at ss how listed → Type 0
  Came-at ss how listed h =
      Lies code m.top m.row
      (λ end but. Memory code h.homes h.owners m.row m.cells m.closures s.store s.closures (m.top.base + end) (m.top.base + but)) (ArgsS f at ss how env sc listed ∷ ks) vs

  abbrev Plain-step : Suffixes → Wanted → Bool → Type 0
  Plain-step ss how listed = reduce (from ss how listed) ≡ meaning_calls.calls (Some at) f vs (from ss how listed) (AfterK ss how env ∷ contexts ks)

  fixed_row : (ss : Suffixes) (how : Wanted) → (wanted ss (want ks) ≡ AsResult → ⊥) → Plain-step ss how false → (h : Here-at ss how false) → Came-at ss how false h → Row-at ss how false
  fixed_row ss how ne is h (inl c) = absurd c.3
  fixed_row ss how ne is h (inr (inl c)) =
      let firm : Firm code m (from ss how false) ks = record { homes = h.homes; owners = h.owners; memory = c.4; kept = h.kept.3; below = h.below; room = h.room; beside = h.beside } in
      acts code (Sim code) m (from ss how false) _ (λ left. subst (Outcome code (Sim code) m) (sym is)
      (fixed_call code valid m (from ss how false) ks f at ss how env sc vs firm h.kept.1 h.kept.2 (wanted ss (want ks)) refl ne h.kept.0 c.0 (λ k count. args_are c.0 k c.2.0 c.2.1 count) c.3 c.1 left))
  fixed_row ss how ne is h (inr (inr c)) = absurd c.0

  listed_row : (ss : Suffixes) (how : Wanted) → (wanted ss (want ks) ≡ AsResult → ⊥) → Plain-step ss how true → (h : Here-at ss how true) → Came-at ss how true h → Row-at ss how true
  listed_row ss how ne is h (inl c) = absurd c.3
  listed_row ss how ne is h (inr (inl c)) = absurd c.1
  listed_row ss how ne is h (inr (inr c)) =
      let firm : Firm code m (from ss how true) ks = record { homes = h.homes; owners = h.owners; memory = c.2; kept = h.kept.2; below = h.below; room = h.room; beside = h.beside } in
      acts code (Sim code) m (from ss how true) _ (λ left. subst (Outcome code (Sim code) m) (sym is)
      (listed_call code valid m (from ss how true) ks f at ss how env sc vs firm h.kept.0 h.kept.1 (wanted ss (want ks)) refl ne c.1 c.0 left))

  plain_row : (ss : Suffixes) (how : Wanted) (listed : Bool) → (wanted ss (want ks) ≡ AsResult → ⊥) → Plain-step ss how listed → Here-at ss how listed → Row-at ss how listed
  plain_row ss how false ne is h = fixed_row ss how ne is h h.here.1
  plain_row ss how true ne is h = listed_row ss how ne is h h.here.1

module _ (code : Code) (valid : IsValid code) (m : Machine) (s : State) (f : Value) (at : ℕ) (env : Env) (sc : Scope) (vs : List Value) where
  abbrev Tailed : Scope → List Spot → Bool → Type 0
  Tailed top ks listed = Stands code m (from code valid m s (TailS top ∷ ks) f at env sc vs NoSuffix Result listed) (ArgsS f at NoSuffix Result env sc listed ∷ TailS top ∷ ks) 0

  abbrev Tail-row-at : Scope → List Spot → Bool → Type 0
  Tail-row-at top ks listed =
      Row code (Sim code) m (from code valid m s (TailS top ∷ ks) f at env sc vs NoSuffix Result listed) 0 (reduce (from code valid m s (TailS top ∷ ks) f at env sc vs NoSuffix Result listed))

  tail_fixed : (top : Scope) (ks : List Spot) (h : Tailed top ks false) → Came-at code valid m s (TailS top ∷ ks) f at env sc vs NoSuffix Result false h → Tail-row-at top ks false
  tail_fixed top ks h (inl c) = absurd c.3
  tail_fixed top ks h (inr (inl c)) =
      let S = from code valid m s (TailS top ∷ ks) f at env sc vs NoSuffix Result false in
      let firm : Firm code m S (TailS top ∷ ks) = record { homes = h.homes; owners = h.owners; memory = c.4; kept = h.kept.3; below = h.below; room = h.room; beside = h.beside } in
      acts code (Sim code) m S _ (λ left.
      fixed_tail code valid m S top ks vs at env firm f c.0 h.kept.0 (λ k count. args_are code valid m s (TailS top ∷ ks) f at env sc vs c.0 k c.2.0 c.2.1 count) c.3 c.1 left)
  tail_fixed top ks h (inr (inr c)) = absurd c.0

  tail_listed : (top : Scope) (ks : List Spot) (h : Tailed top ks true) → Came-at code valid m s (TailS top ∷ ks) f at env sc vs NoSuffix Result true h → Tail-row-at top ks true
  tail_listed top ks h (inl c) = absurd c.3
  tail_listed top ks h (inr (inl c)) = absurd c.1
  tail_listed top ks h (inr (inr c)) =
      let S = from code valid m s (TailS top ∷ ks) f at env sc vs NoSuffix Result true in
      let firm : Firm code m S (TailS top ∷ ks) = record { homes = h.homes; owners = h.owners; memory = c.2; kept = h.kept.2; below = h.below; room = h.room; beside = h.beside } in
      acts code (Sim code) m S _ (λ left. listed_tail code valid m S top ks vs at env firm f c.1 c.0 left)

  tail_row : (ks : List Spot) (listed : Bool) → Suits Result ks → Stands code m (from code valid m s ks f at env sc vs NoSuffix Result listed) (ArgsS f at NoSuffix Result env sc listed ∷ ks) 0
      → Row code (Sim code) m (from code valid m s ks f at env sc vs NoSuffix Result listed) 0 (reduce (from code valid m s ks f at env sc vs NoSuffix Result listed))
  tail_row (TailS top ∷ ks) false suits h = tail_fixed top ks h h.here.1
  tail_row (TailS top ∷ ks) true suits h = tail_listed top ks h h.here.1
  tail_row [] listed suits h = absurd suits
  tail_row (SpreadS us (Exactly r) ∷ ks) listed suits h = absurd suits
  tail_row (SpreadS us (Filled r n) ∷ ks) listed suits h = absurd suits
  tail_row (SpreadS us (OnList d) ∷ ks) listed suits h = absurd suits
  tail_row (SpreadS us (Alone t d) ∷ ks) listed suits h = absurd suits
  tail_row (DropS rest e x true ∷ ks) listed suits h = absurd suits
  tail_row (DropS rest e x false ∷ ks) listed suits h = absurd suits
  tail_row (k ∷ ks) listed suits h = absurd suits

  suits_of : (ks : List Spot) (ss : Suffixes) (how : Wanted) (listed : Bool) → (h : Stands code m (from code valid m s ks f at env sc vs ss how listed) (ArgsS f at ss how env sc listed ∷ ks) 0) → Suits how ks
  suits_of ks ss how true h = h.kept.0
  suits_of ks ss how false h = h.kept.1

  pub args_row : (ks : List Spot) (ss : Suffixes) (how : Wanted) (listed : Bool) → Stands code m (from code valid m s ks f at env sc vs ss how listed) (ArgsS f at ss how env sc listed ∷ ks) 0
      → Row code (Sim code) m (from code valid m s ks f at env sc vs ss how listed) 0 (reduce (from code valid m s ks f at env sc vs ss how listed))
  args_row ks NoSuffix Values listed h = plain_row code valid m s ks f at env sc vs NoSuffix Values listed (not_result ks (suits_of ks NoSuffix Values listed h)) refl h
  args_row ks NoSuffix Result listed h = tail_row ks listed (suits_of ks NoSuffix Result listed h) h
  args_row ks (MoreSuffixes x ss) how listed h = plain_row code valid m s ks f at env sc vs (MoreSuffixes x ss) how listed (more_result 1) refl h
