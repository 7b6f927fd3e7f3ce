-- The results of a call have come; and the suffixes of a value.
use Rattle.std.proofs.Common.{◌≡◌, ℕ, zero, suc, ◌+◌, inl, inr, List, [], ◌∷◌, length, refl, sym, ap, ◌∙◌, subst, arith, true, false}
use Rattle.lua_tree.specs.Source as source
use Rattle.lua_tree.specs.Source.{Exps, Suffix, Suffixes, NoSuffix, MoreSuffixes}
use Rattle.lua_value.specs.declared.value.Value.{Value}
use Rattle.lua_value.specs.Lists.{value_at, adjusted, first}
use Rattle.lua_code.specs.declared.op.Op.TheVariants as op
use Rattle.lua_code.specs.Valid.{IsValid}
use Rattle.lua_meaning.specs.State.{Env, Wanted, Result, Values, Gives, Items, Lists, State, SuffixK, ArgsK}
use Rattle.lua_meaning.specs.Reduce.{reduce}
use Rattle.lua_steps.specs.Machine.{Code, Machine, On}
use Rattle.lua_steps.specs.Moves.{written, values_from, on_list, next, with_slots, with_lists}
use Rattle.lua_steps.specs.Run.{run}
use Rattle.lua_steps.specs.Scope.{Scope}
use Rattle.lua_steps.specs.Stand.{At, Reg, IsThere, Want, Count, AsList, AsResult, IsCall, IsWanted}
use Rattle.lua_steps.specs.Serves.{IsSuffixes, IsFixed, IsList}
use Rattle.lua_follow.specs.Spot.{Exactly, Filled, OnList, Coming, ToSlots, OnLists, ThenSpread, ThenReturn, Spot, SuffixS, CutS, SpreadS, ArgsS, AfterS, DropS, ReturnS, TailS, contexts, free, target, want, form_of, lists_of}
use Rattle.lua_follow.specs.Takes.{TakesAll, wanted, Afterwards, FixedCall, ListedCall}
use Rattle.lua_follow.specs.Memory.{view, Memory}
use Rattle.lua_follow.specs.Kept.{Scoped, Suits, Comes, floor, cells_in}
use Rattle.lua_follow.specs.Stands.{Stands, Lies, Came}
use Rattle.lua_follow.proofs.Lists.{length_written, written_same, written_other, length_adjusted}
use Rattle.lua_follow.proofs.Frames.{fits_at, slot_in}
use Rattle.lua_follow.proofs.Gives.{Steady, shown_stands}
use Rattle.lua_follow.proofs.Nils.{nilled}
use Rattle.lua_follow.proofs.Aims.{there_reg}
use Rattle.lua_follow.proofs.Firm.{Firm, shifted, firm_row, firm_at, whole_stands, exact_stands}
use Rattle.lua_follow.proofs.Runs.{runs_op, runs_more}
use Rattle.lua_follow.proofs.RowsItems.{items_sim}
use Rattle.lua_follow.proofs.Sim.{Row, Sim, quiet, standing}

-- ---- n values in the slots of a call are the list that is wanted there
came_count : (m : Machine) (row : List Value) (lists : List (List Value)) (ks : List Spot) (how : Wanted) (n : ℕ) (vs : List Value) → Suits how ks → Comes (ToSlots n) (want ks)
    → values_from row (m.top.base + free ks) n ≡ adjusted n vs → lists ≡ lists_of ks → Came (view m.top) row lists ks (form_of ks) vs
came_count m row lists (CutS ∷ ks) Values n vs suits e values is =
    (ap (λ i. values_from row (m.top.base + free ks) i) (sym e) ∙ values ∙ ap (λ i. adjusted i vs) e, is)
came_count m row lists (SpreadS us (Filled r k) ∷ ks) Values n vs suits e values is = (ap (λ i. values_from row (m.top.base + r) i) (sym e) ∙ values ∙ ap (λ i. adjusted i vs) e, is)
came_count m row lists (DropS rest env sc false ∷ ks) Values n vs suits e values is =
    (ap (λ i. values_from row (m.top.base + sc.free) i) (sym e) ∙ values ∙ ap (λ i. adjusted i vs) e, is)
came_count m row lists (SpreadS us (OnList d) ∷ ks) Values n vs suits e values is = absurd e
came_count m row lists (TailS sc ∷ ks) Result n vs suits e values is = absurd e
came_count m row lists ks how n vs suits e values is = absurd suits

came_list : (m : Machine) (row : List Value) (lists : List (List Value)) (ks : List Spot) (how : Wanted) (vs : List Value) → Suits how ks → Comes OnLists (want ks) → lists ≡ vs ∷ lists_of ks → Came (view m.top) row lists ks (form_of ks) vs
came_list m row lists (SpreadS us (OnList d) ∷ ks) Values vs suits e is = is
came_list m row lists (CutS ∷ ks) Values vs suits e is = absurd e
came_list m row lists (SpreadS us (Filled r k) ∷ ks) Values vs suits e is = absurd e
came_list m row lists (DropS rest env sc false ∷ ks) Values vs suits e is = absurd e
came_list m row lists (TailS sc ∷ ks) Result vs suits e is = absurd e
came_list m row lists ks how vs suits e is = absurd suits

first_is : (row : List Value) (i n : ℕ) (vs : List Value) → n ≡ 1 → values_from row i n ≡ adjusted n vs → value_at row i ≡ first vs
first_is row i n vs e values = one_is (ap (λ k. values_from row i k) (sym e) ∙ values ∙ ap (λ k. adjusted k vs) e)
  where
    one_is : values_from row i 1 ≡ adjusted 1 vs → value_at row i ≡ first vs
    one_is f = ap first f ∙ first_adjusted vs
      where
        first_adjusted : (ws : List Value) → first (adjusted 1 ws) ≡ first ws
        first_adjusted [] = refl
        first_adjusted (w ∷ ws) = refl

module _ (code : Code) (valid : IsValid code) (m : Machine) (s : State) (ks : List Spot) (how : Wanted) (env : Env) (sc : Scope) (vs : List Value) where
  abbrev from : Suffixes → Coming → State
  from ss c = record s { focus = Lists vs; ks = contexts (AfterS ss how env sc c ∷ ks) }

  abbrev Row-at : Suffixes → Coming → Type 0
  Row-at ss c = Row code (Sim code) m (from ss c) 0 (reduce (from ss c))

  -- from here on the values are in slots
  slots_after : (ss : Suffixes) (c : Coming) (n i : ℕ) (to : Machine) → run i code m ≡ On to → to.left ≡ m.left → to.aside ≡ m.aside → Comes (ToSlots n) (wanted ss (want ks)) → Suits how ks
      → (h : Firm code to s ks) → Scoped h.homes h.owners (view to.top) sc env (floor ks) (cells_in ks) → Afterwards code to.top.function sc ss (free ks) (want ks) (TakesAll code to.top.function ks) to.top.at
      → values_from to.row (to.top.base + free ks) n ≡ adjusted n vs → to.top.lists ≡ lists_of ks → Row-at ss c
  slots_after NoSuffix c n i to runs left same comes suits h scoped takes values lists =
      quiet code (Sim code) m to (from NoSuffix c) (record s { focus = Lists vs; ks = contexts ks }) 0 i _ runs left (λ lt. ap (λ a. a.heap) same) refl refl
      (standing code to _ 0 ks refl (whole_stands code to s ks vs h takes (came_count to to.row to.top.lists ks how n vs suits comes values lists)))
  slots_after (MoreSuffixes x ss) c n i to runs left same comes suits h scoped takes values lists =
      quiet code (Sim code) m to (from (MoreSuffixes x ss) c) (record s { focus = Gives (first vs); ks = SuffixK (MoreSuffixes x ss) how env ∷ contexts ks }) 0 i _ runs left (λ lt. ap (λ a. a.heap) same) refl refl
      (standing code to _ 0 (SuffixS (MoreSuffixes x ss) how env sc ∷ ks) refl
      (shown_stands code to s (SuffixS (MoreSuffixes x ss) how env sc ∷ ks) (Reg (free ks)) (first vs)
      (record { homes = h.homes; owners = h.owners; memory = h.memory; kept = (suits, scoped, h.kept); below = h.below; room = h.room; lists = lists; beside = h.beside }) takes
      (first_is to.row (to.top.base + free ks) n vs comes values) refl (omega arith)))

  abbrev Here-at : Suffixes → Coming → Type 0
  Here-at ss c = Stands code m (from ss c) (AfterS ss how env sc c ∷ ks) 0

  abbrev Came-at : (ss : Suffixes) (c : Coming) → Here-at ss c → Type 0
  Came-at ss c h =
      Lies code m.top m.row (λ end but. Memory code h.homes h.owners m.row m.cells m.closures s.store s.closures (m.top.base + end) (m.top.base + but)) (AfterS ss how env sc c ∷ ks) vs

  to_slots : (ss : Suffixes) (n : ℕ) (h : Here-at ss (ToSlots n)) → Came-at ss (ToSlots n) h → Row-at ss (ToSlots n)
  to_slots ss n h (inl c) = absurd c.3
  to_slots ss n h (inr (inl c)) = absurd c.1
  to_slots ss n h (inr (inr c)) =
      let firm : Firm code m s ks = record { homes = h.homes; owners = h.owners; memory = c.2; kept = h.kept.3; below = h.below; room = h.room; beside = h.beside } in
      slots_after ss (ToSlots n) n 0 m refl refl refl h.kept.0 h.kept.1 firm h.kept.2 c.0 c.1.0 c.1.1

  spread_then : (ss : Suffixes) (n : ℕ) (h : Here-at ss (ThenSpread n)) → Came-at ss (ThenSpread n) h → Row-at ss (ThenSpread n)
  spread_then ss n h (inl c) = absurd c.3
  spread_then ss n h (inr (inl c)) = absurd c.1
  spread_then ss n h (inr (inr c)) =
      let d = free ks in
      let ws = adjusted n vs in
      let line = written m.row (m.top.base + d) ws in
      let firm : Firm code m s ks = record { homes = h.homes; owners = h.owners; memory = c.2; kept = h.kept.3; below = h.below; room = h.room; beside = h.beside } in
      let fit = fits_at code (view m.top) m.row firm.room m.top.at (op.Spread d n) valid c.0.0 in
      let low = firm.room.slots in
      let count : length ws ≡ n = length_adjusted n vs in
      slots_after ss (ThenSpread n) n 1 (shifted m (m.top.at + 1) (lists_of ks) line)
      (runs_op code m (op.Spread d n) _ c.0.0 (ap (λ ls. on_list ls (λ us more. next (with_slots d (adjusted n us) (with_lists more m)))) c.1)) refl refl (comes_as (wanted ss (want ks)) h.kept.0) h.kept.1
      (firm_row code m s ks (m.top.at + 1) (lists_of ks) line (length_written ws m.row (m.top.base + d)) (λ p lt. written_other ws m.row (m.top.base + d) p (inl lt)) firm) h.kept.2 c.0.1
      (ap (λ i. values_from line (m.top.base + d) i) (sym count) ∙ written_same ws m.row (m.top.base + d) (omega (arith, fit.0, low, count))) refl
    where
      comes_as : (w : Want) → Comes (ThenSpread n) w → Comes (ToSlots n) w
      comes_as (Count k) e = e
      comes_as AsList e = absurd e
      comes_as AsResult e = absurd e

  on_lists : (ss : Suffixes) (h : Here-at ss OnLists) → Came-at ss OnLists h → Row-at ss OnLists
  on_lists ss h (inl c) = absurd c.3
  on_lists ss h (inr (inl c)) = absurd c.1
  on_lists NoSuffix h (inr (inr c)) =
      let firm : Firm code m s ks = record { homes = h.homes; owners = h.owners; memory = c.2; kept = h.kept.3; below = h.below; room = h.room; beside = h.beside } in
      quiet code (Sim code) m m (from NoSuffix OnLists) (record s { focus = Lists vs; ks = contexts ks }) 0 0 _ refl refl (λ lt. refl) refl refl
      (standing code m _ 0 ks refl (whole_stands code m s ks vs firm c.0 (came_list m m.row m.top.lists ks how vs h.kept.1 h.kept.0 c.1)))
  on_lists (MoreSuffixes x ss) h (inr (inr c)) = absurd h.kept.0

  pub after_row : (ss : Suffixes) (c : Coming) → Here-at ss c → Row-at ss c
  after_row ss (ToSlots n) h = to_slots ss n h h.here.1
  after_row ss OnLists h = on_lists ss h h.here.1
  after_row ss (ThenSpread n) h = spread_then ss n h h.here.1
  after_row ss ThenReturn h = absurd (nothing (wanted ss (want ks)) h.kept.0)
    where
      nothing : (w : Want) → Comes ThenReturn w → ⊥
      nothing (Count k) e = e
      nothing AsList e = e
      nothing AsResult e = e

-- ---- the first of a list
pub cut_row : (code : Code) (m : Machine) (s : State) (ks : List Spot) (vs : List Value) → Stands code m (record s { focus = Lists vs; ks = contexts (CutS ∷ ks) }) (CutS ∷ ks) 0
    → Row code (Sim code) m (record s { focus = Lists vs; ks = contexts (CutS ∷ ks) }) 0 (reduce (record s { focus = Lists vs; ks = contexts (CutS ∷ ks) }))
cut_row code m s ks vs h = by_coming h.here.1
  where
    by_coming : Lies code m.top m.row (λ end but. Memory code h.homes h.owners m.row m.cells m.closures s.store s.closures (m.top.base + end) (m.top.base + but)) (CutS ∷ ks) vs
        → Row code (Sim code) m (record s { focus = Lists vs; ks = contexts (CutS ∷ ks) }) 0 (reduce (record s { focus = Lists vs; ks = contexts (CutS ∷ ks) }))
    by_coming (inl c) = absurd c.3
    by_coming (inr (inl c)) = absurd c.1
    by_coming (inr (inr c)) =
        quiet code (Sim code) m m (record s { focus = Lists vs; ks = contexts (CutS ∷ ks) }) (record s { focus = Gives (first vs); ks = contexts ks }) 0 0 _ refl refl (λ lt. refl) refl refl
        (standing code m _ 0 ks refl
        (shown_stands code m s ks (Reg (free ks)) (first vs)
        (record { homes = h.homes; owners = h.owners; memory = c.2; kept = h.kept.1; below = h.below; room = h.room; lists = c.1.1; beside = h.beside }) c.0 (first_is m.row (m.top.base + free ks) 1 vs refl c.1.0)
        (subst (λ i. IsThere (target ks) (Reg i)) h.kept.0 (there_reg (target ks) (free ks))) (omega arith)))

-- ---- the suffixes of a value
module _ (code : Code) (valid : IsValid code) (m : Machine) (s : State) (how : Wanted) (env : Env) (sc : Scope) (v : Value) where
  abbrev State-at : Suffixes → List Spot → State
  State-at ss ks = record s { focus = Gives v; ks = contexts (SuffixS ss how env sc ∷ ks) }

  abbrev Given-row : Suffixes → List Spot → Type 0
  Given-row ss ks = Row code (Sim code) m (State-at ss ks) 0 (reduce (State-at ss ks))

  -- the value is all that there is
  counted : (ks : List Spot) (n : ℕ) → want ks ≡ Count n → (h : Steady code m s (SuffixS NoSuffix how env sc ∷ ks)) → value_at m.row (m.top.base + free ks) ≡ v → IsWanted code m.top.function m.top.at (free ks) (Count n) (TakesAll code m.top.function ks)
      → Given-row NoSuffix ks
  counted ks zero e h stands c =
      let firm : Firm code m s ks = record { homes = h.homes; owners = h.owners; memory = h.memory; kept = h.kept.2; below = h.below; room = h.room; beside = h.beside } in
      quiet code (Sim code) m m (State-at NoSuffix ks) (record s { focus = Lists (v ∷ []); ks = contexts ks }) 0 0 _ refl refl (λ lt. refl) refl refl
      (standing code m _ 0 ks refl (whole_stands code m s ks (v ∷ []) firm c (came_count m m.row m.top.lists ks how 0 (v ∷ []) h.kept.0 (subst (λ w. Comes (ToSlots 0) w) (sym e) refl) refl h.lists)))
  counted ks (suc n) e h stands c =
      let firm : Firm code m s ks = record { homes = h.homes; owners = h.owners; memory = h.memory; kept = h.kept.2; below = h.below; room = h.room; beside = h.beside } in
      let g = nilled code m (free ks + 1) n (TakesAll code m.top.function ks) (λ i a at. slot_in code (view m.top) m.row h.room i ((fits_at code (view m.top) m.row h.room a (op.Nil i) valid at).0)) c in
      let place : m.top.base + free ks + 1 ≡ m.top.base + (free ks + 1) = omega arith in
      let still : value_at g.row (m.top.base + free ks) ≡ v = g.same (m.top.base + free ks) (inl (omega arith)) ∙ stands in
      quiet code (Sim code) m (shifted m g.at m.top.lists g.row) (State-at NoSuffix ks) (record s { focus = Lists (v ∷ []); ks = contexts ks }) 0 g.steps _ g.runs refl (λ lt. refl) refl refl
      (standing code _ _ 0 ks refl
      (whole_stands code (shifted m g.at m.top.lists g.row) s ks (v ∷ []) (firm_row code m s ks g.at m.top.lists g.row g.long (λ p lt. g.same p (inl (omega arith))) firm) g.holds
      (came_count m g.row m.top.lists ks how (suc n) (v ∷ []) h.kept.0 (subst (λ w. Comes (ToSlots (suc n)) w) (sym e) refl)
      (ap (λ w. w ∷ values_from g.row (m.top.base + free ks + 1) n) still ∙ ap (λ ws. v ∷ ws) (ap (λ i. values_from g.row i n) place ∙ g.nils)) h.lists)))

  as_list : (us : List Value) (d : ℕ) (ks : List Spot) → (h : Steady code m s (SuffixS NoSuffix how env sc ∷ SpreadS us (OnList d) ∷ ks)) → value_at m.row (m.top.base + d) ≡ v → At code m.top.function m.top.at op.Begin
      → At code m.top.function (m.top.at + 1) (op.Push d) → TakesAll code m.top.function (SpreadS us (OnList d) ∷ ks) (m.top.at + 2) → Given-row NoSuffix (SpreadS us (OnList d) ∷ ks)
  as_list us d ks h stands begin push takes =
      let firm : Firm code m s (SpreadS us (OnList d) ∷ ks) = record { homes = h.homes; owners = h.owners; memory = h.memory; kept = h.kept.2; below = h.below; room = h.room; beside = h.beside } in
      let mid = shifted m (m.top.at + 1) ([] ∷ m.top.lists) m.row in
      let to = shifted m (m.top.at + 1 + 1) ((v ∷ []) ∷ m.top.lists) m.row in
      let there : m.top.at + 2 ≡ m.top.at + 1 + 1 = omega arith in
      quiet code (Sim code) m to (State-at NoSuffix (SpreadS us (OnList d) ∷ ks)) (record s { focus = Lists (v ∷ []); ks = contexts (SpreadS us (OnList d) ∷ ks) }) 0 2 _
      (runs_more code 1 1 m mid _ (runs_op code m op.Begin _ begin refl) (runs_op code mid (op.Push d) _ push (ap (λ w. next (with_lists ((w ∷ []) ∷ m.top.lists) mid)) stands))) refl (λ lt. refl) refl refl
      (standing code to _ 0 (SpreadS us (OnList d) ∷ ks) refl
      (whole_stands code to s (SpreadS us (OnList d) ∷ ks) (v ∷ []) (firm_at code m s (SpreadS us (OnList d) ∷ ks) (m.top.at + 1 + 1) ((v ∷ []) ∷ m.top.lists) firm)
      (subst (TakesAll code m.top.function (SpreadS us (OnList d) ∷ ks)) there takes) (ap (λ ls. (v ∷ []) ∷ ls) h.lists)))

  as_result : (top : Scope) (ks : List Spot) → (h : Steady code m s (SuffixS NoSuffix how env sc ∷ TailS top ∷ ks)) → value_at m.row (m.top.base + top.free) ≡ v → At code m.top.function m.top.at (op.Return top.free 1) → Given-row NoSuffix (TailS top ∷ ks)
  as_result top ks h stands is =
      let firm : Firm code m s (ReturnS top (Exactly top.free) ∷ ks) =
      record { homes = h.homes; owners = h.owners; memory = h.memory; kept = (h.kept.2.0, h.kept.2.1, h.kept.2.2, refl, h.kept.2.3); below = h.below; room = h.room; beside = h.beside } in
      quiet code (Sim code) m m (State-at NoSuffix (TailS top ∷ ks)) (record s { focus = Lists (v ∷ []); ks = contexts (TailS top ∷ ks) }) 0 0 _ refl refl (λ lt. refl) refl refl
      (standing code m _ 0 (ReturnS top (Exactly top.free) ∷ ks) refl
      (exact_stands code m s (ReturnS top (Exactly top.free) ∷ ks) (v ∷ []) (top.free + 1) firm (1, refl, is) (refl, ap (λ w. w ∷ []) stands) h.lists))

  nothing_more : (ks : List Spot) → (h : Steady code m s (SuffixS NoSuffix how env sc ∷ ks)) → Suits how ks → value_at m.row (m.top.base + free ks) ≡ v
      → IsSuffixes code m.top.function sc NoSuffix m.top.at (free ks) (want ks) (TakesAll code m.top.function ks) → Given-row NoSuffix ks
  nothing_more (CutS ∷ ks) h suits stands c = counted (CutS ∷ ks) 1 refl h stands c
  nothing_more (SpreadS us (Filled r n) ∷ ks) h suits stands c = counted (SpreadS us (Filled r n) ∷ ks) n refl h stands c
  nothing_more (SpreadS us (OnList d) ∷ ks) h suits stands c = as_list us d ks h stands c.0 c.1 c.2
  nothing_more (DropS rest e x false ∷ ks) h suits stands c = counted (DropS rest e x false ∷ ks) 0 refl h stands c
  nothing_more (TailS top ∷ ks) h suits stands c = as_result top ks h stands c
  nothing_more ks h suits stands c = absurd suits

  abbrev Rest : Suffixes → List Spot → ℕ → Type 0
  Rest ss ks = Afterwards code m.top.function sc ss (free ks) (want ks) (TakesAll code m.top.function ks)

  -- a call's arguments go to slots
  in_slots : (es : Exps) (at : ℕ) (ss : Suffixes) (ks : List Spot) → (h : Steady code m s (SuffixS (MoreSuffixes (source.Call es at) ss) how env sc ∷ ks)) → value_at m.row (m.top.base + free ks) ≡ v
      → IsFixed code m.top.function sc es m.top.at (free ks + 1) (FixedCall code m.top.function (free ks) at (wanted ss (want ks)) (Rest ss ks)) → Given-row (MoreSuffixes (source.Call es at) ss) ks
  in_slots es at ss ks h stands c =
      let firm : Firm code m s (ArgsS v at ss how env sc false ∷ ks) =
      record { homes = h.homes; owners = h.owners; memory = h.memory; kept = (stands, h.kept.0, h.kept.1, h.kept.2); below = h.below; room = h.room; beside = h.beside } in
      quiet code (Sim code) m m (State-at (MoreSuffixes (source.Call es at) ss) ks) (record s { focus = Items es env []; ks = ArgsK v at ss how env ∷ contexts ks }) 0 0 _ refl refl (λ lt. refl) refl refl
      (items_sim code valid m s (ArgsS v at ss how env sc false ∷ ks) firm env sc h.kept.1 [] refl es (Exactly (free ks + 1)) (omega arith, refl) (omega arith) h.lists c)

  -- or into a list
  in_list : (es : Exps) (at : ℕ) (ss : Suffixes) (ks : List Spot) → (h : Steady code m s (SuffixS (MoreSuffixes (source.Call es at) ss) how env sc ∷ ks)) → value_at m.row (m.top.base + free ks) ≡ v
      → At code m.top.function m.top.at op.Begin → At code m.top.function (m.top.at + 1) (op.Push (free ks))
      → IsList code m.top.function sc es (m.top.at + 2) (free ks) (ListedCall code m.top.function (free ks) at (wanted ss (want ks)) (Rest ss ks)) → Given-row (MoreSuffixes (source.Call es at) ss) ks
  in_list es at ss ks h stands begin push c =
      let mid = shifted m (m.top.at + 1) ([] ∷ m.top.lists) m.row in
      let to = shifted m (m.top.at + 1 + 1) ((v ∷ []) ∷ m.top.lists) m.row in
      let there : m.top.at + 2 ≡ m.top.at + 1 + 1 = omega arith in
      let firm : Firm code to s (ArgsS v at ss how env sc true ∷ ks) =
      record { homes = h.homes; owners = h.owners; memory = h.memory; kept = (h.kept.0, h.kept.1, h.kept.2); below = h.below; room = h.room; beside = h.beside } in
      quiet code (Sim code) m to (State-at (MoreSuffixes (source.Call es at) ss) ks) (record s { focus = Items es env []; ks = ArgsK v at ss how env ∷ contexts ks }) 0 2 _
      (runs_more code 1 1 m mid _ (runs_op code m op.Begin _ begin refl) (runs_op code mid (op.Push (free ks)) _ push (ap (λ w. next (with_lists ((w ∷ []) ∷ m.top.lists) mid)) stands))) refl (λ lt. refl) refl refl
      (items_sim code valid to s (ArgsS v at ss how env sc true ∷ ks) firm env sc h.kept.1 [] refl es (OnList (free ks)) refl (omega arith) (ap (λ ls. (v ∷ []) ∷ ls) h.lists)
      (subst (λ i. IsList code m.top.function sc es i (free ks) (TakesAll code m.top.function (ArgsS v at ss how env sc true ∷ ks))) there c))

  by_want : (es : Exps) (at : ℕ) (ss : Suffixes) (ks : List Spot) → (h : Steady code m s (SuffixS (MoreSuffixes (source.Call es at) ss) how env sc ∷ ks)) → value_at m.row (m.top.base + free ks) ≡ v → (w : Want) → wanted ss (want ks) ≡ w
      → IsCall code m.top.function m.top.at (free ks) at w (λ K. IsFixed code m.top.function sc es m.top.at (free ks + 1) K) (λ K. IsList code m.top.function sc es (m.top.at + 2) (free ks) K) (Rest ss ks)
      → Given-row (MoreSuffixes (source.Call es at) ss) ks
  by_want es at ss ks h stands (Count n) e (inl c) =
      in_slots es at ss ks h stands (subst (λ w. IsFixed code m.top.function sc es m.top.at (free ks + 1) (FixedCall code m.top.function (free ks) at w (Rest ss ks))) (sym e) c)
  by_want es at ss ks h stands (Count n) e (inr c) =
      in_list es at ss ks h stands c.0 c.1 (subst (λ w. IsList code m.top.function sc es (m.top.at + 2) (free ks) (ListedCall code m.top.function (free ks) at w (Rest ss ks))) (sym e) c.2)
  by_want es at ss ks h stands AsList e (inl c) =
      in_slots es at ss ks h stands (subst (λ w. IsFixed code m.top.function sc es m.top.at (free ks + 1) (FixedCall code m.top.function (free ks) at w (Rest ss ks))) (sym e) c)
  by_want es at ss ks h stands AsList e (inr c) =
      in_list es at ss ks h stands c.0 c.1 (subst (λ w. IsList code m.top.function sc es (m.top.at + 2) (free ks) (ListedCall code m.top.function (free ks) at w (Rest ss ks))) (sym e) c.2)
  by_want es at ss ks h stands AsResult e (inl c) =
      in_slots es at ss ks h stands (subst (λ w. IsFixed code m.top.function sc es m.top.at (free ks + 1) (FixedCall code m.top.function (free ks) at w (Rest ss ks))) (sym e) c)
  by_want es at ss ks h stands AsResult e (inr c) =
      in_list es at ss ks h stands c.0 c.1 (subst (λ w. IsList code m.top.function sc es (m.top.at + 2) (free ks) (ListedCall code m.top.function (free ks) at w (Rest ss ks))) (sym e) c.2)

  pub suffix_gives : (ss : Suffixes) (ks : List Spot) → (h : Steady code m s (SuffixS ss how env sc ∷ ks)) → value_at m.row (m.top.base + free ks) ≡ v
      → IsSuffixes code m.top.function sc ss m.top.at (free ks) (want ks) (TakesAll code m.top.function ks) → Given-row ss ks
  suffix_gives NoSuffix ks h stands c = nothing_more ks h h.kept.0 stands c
  suffix_gives (MoreSuffixes (source.Call es at) NoSuffix) ks h stands c = by_want es at NoSuffix ks h stands (want ks) refl c
  suffix_gives (MoreSuffixes (source.Call es at) (MoreSuffixes x ss)) ks h stands c = by_want es at (MoreSuffixes x ss) ks h stands (Count 1) refl c
  suffix_gives (MoreSuffixes (source.Index e line) ss) ks h stands c = absurd c
  suffix_gives (MoreSuffixes (source.Method x a es line) ss) ks h stands c = absurd c
