-- Several variables are assigned, the last one first.
use Rattle.std.proofs.Common.{◌≡◌, ℕ, suc, ◌+◌, ◌≤◌, inr, List, [], ◌∷◌, length, refl, sym, ap, ◌∙◌, subst, arith}
use Rattle.std.specs.Prelude.{slice_set, drop}
use Rattle.lua_tree.specs.Source.{Text, Block}
use Rattle.lua_value.specs.declared.value.Value.{Value}
use Rattle.lua_value.specs.Lists.{value_at, adjusted, first}
use Rattle.lua_code.specs.declared.op.Op.TheVariants as op
use Rattle.lua_code.specs.Valid.{IsValid}
use Rattle.lua_meaning.specs.State as meaning
use Rattle.lua_meaning.specs.State.{Env, Run, Stores, State, Step, Next}
use Rattle.lua_meaning.specs.Moves.{location_of}
use Rattle.lua_meaning.specs.Statements.{stores_at, pending}
use Rattle.lua_steps.specs.Machine.{Code, Machine}
use Rattle.lua_steps.specs.Moves.{next, with_lists, with_slots, on_list, gives, values_from}
use Rattle.lua_steps.specs.Scope.{Scope}
use Rattle.lua_steps.specs.Stand as stand
use Rattle.lua_steps.specs.Stand.{At, IsPut, IsWrites, FromSlot, FromItem, from_slots, from_items}
use Rattle.lua_steps.specs.Serves.{IsBlock}
use Rattle.lua_follow.specs.Spot.{Spot, contexts, lists_of}
use Rattle.lua_follow.specs.Takes.{Ends, Exits}
use Rattle.lua_follow.specs.Memory.{view}
use Rattle.lua_follow.proofs.Lists.{length_set, value_set, value_other}
use Rattle.lua_follow.proofs.Frames.{fits_at, slot_in}
use Rattle.lua_follow.proofs.Firm.{shifted}
use Rattle.lua_follow.proofs.Scenes.{Scene, run_stands, adjusted_first, head_is, tail_is}
use Rattle.lua_follow.proofs.RowsStores.{put, scene_shift, flat, unflat}
use Rattle.lua_follow.proofs.Runs.{runs_op, runs_more}
use Rattle.lua_follow.proofs.Sim.{Near, quiet, near}

-- ---- the values of writes
abbrev pub SlotOf : Machine → ℕ → stand.Origin → meaning.Write → Type 0
SlotOf m free (FromSlot r) t = (free ≤ r) × (value_at m.row (m.top.base + r) ≡ t.value)
SlotOf m free (FromItem i) t = ⊥

-- each is in its slot, which no local has
abbrev pub InSlots : Machine → ℕ → List stand.Write → List meaning.Write → Type 0
InSlots m free [] [] = Unit {0}
InSlots m free (w ∷ ws) (t ∷ ts) = SlotOf m free w.origin t × (w.name ≡ t.name) × InSlots m free ws ts
InSlots m free _ _ = ⊥

-- or each is an item of a list
abbrev pub ItemOf : List Value → stand.Origin → meaning.Write → Type 0
ItemOf vs (FromSlot r) t = ⊥
ItemOf vs (FromItem i) t = value_at vs i ≡ t.value

abbrev pub InList : List Value → List stand.Write → List meaning.Write → Type 0
InList vs [] [] = Unit {0}
InList vs (w ∷ ws) (t ∷ ts) = ItemOf vs w.origin t × (w.name ≡ t.name) × InList vs ws ts
InList vs _ _ = ⊥

pub slots_match : (m : Machine) (free r : ℕ) (xs : List Text) (vs : List Value) (ws : List stand.Write) (ts : List meaning.Write) → free ≤ r → values_from m.row (m.top.base + r) (length xs) ≡ adjusted (length xs) vs → InSlots m free ws ts
    → InSlots m free (from_slots xs r ws) (pending xs vs ts)
slots_match m free r [] vs ws ts le e h = h
slots_match m free r (x ∷ xs) vs ws ts le e h =
    let both : value_at m.row (m.top.base + r) ∷ values_from m.row (m.top.base + r + 1) (length xs) ≡ first vs ∷ adjusted (length xs) (drop 1 vs) = e ∙ adjusted_first (length xs) vs in
    let place : m.top.base + (r + 1) ≡ m.top.base + r + 1 = omega arith in
    slots_match m free (r + 1) xs (drop 1 vs) (record { name = x; origin = FromSlot r } ∷ ws) (record { name = x; value = first vs } ∷ ts) (omega arith)
    (ap (λ i. values_from m.row i (length xs)) place ∙ tail_is _ _ _ _ both) ((le, head_is _ _ _ _ both), refl, h)

first_at : (vs : List Value) → first vs ≡ value_at vs 0
first_at [] = refl
first_at (v ∷ vs) = refl

drop_at : (vs : List Value) (j : ℕ) → value_at (drop 1 vs) j ≡ value_at vs (suc j)
drop_at [] j = refl
drop_at (v ∷ vs) j = refl

pub items_match : (all : List Value) (i : ℕ) (xs : List Text) (vs : List Value) (ws : List stand.Write) (ts : List meaning.Write) → ((j : ℕ) → value_at vs j ≡ value_at all (i + j)) → InList all ws ts
    → InList all (from_items xs i ws) (pending xs vs ts)
items_match all i [] vs ws ts e h = h
items_match all i (x ∷ xs) vs ws ts e h =
    let here : i + 0 ≡ i = omega arith in
    items_match all (i + 1) xs (drop 1 vs) (record { name = x; origin = FromItem i } ∷ ws) (record { name = x; value = first vs } ∷ ts)
    (λ j. drop_at vs j ∙ e (suc j) ∙ ap (value_at all) (place j)) (sym (first_at vs ∙ e 0 ∙ ap (value_at all) here), refl, h)
  where
    place : (j : ℕ) → i + suc j ≡ i + 1 + j
    place j = omega arith

-- what is in slots that no local has stays there
slots_stay : (m to : Machine) (free : ℕ) (ws : List stand.Write) (ts : List meaning.Write) → to.top.base ≡ m.top.base → ((p : ℕ) → m.top.base + free ≤ p → value_at to.row p ≡ value_at m.row p) → InSlots m free ws ts → InSlots to free ws ts
slots_stay m to free [] [] base same h = tt
slots_stay m to free [] (t ∷ ts) base same h = absurd h
slots_stay m to free (w ∷ ws) [] base same h = absurd h
slots_stay m to free (w ∷ ws) (t ∷ ts) base same h = (one w.origin h.0, h.1, slots_stay m to free ws ts base same h.2)
  where
    one : (o : stand.Origin) → SlotOf m free o t → SlotOf to free o t
    one (FromSlot r) x = (x.0, ap (λ b. value_at to.row (b + r)) base ∙ same (m.top.base + r) (omega (arith, x.0)) ∙ x.1)
    one (FromItem i) x = absurd x

module _ (code : Code) (valid : IsValid code) (ks : List Spot) (sc : Scope) (env : Env) (b : Block) where
  abbrev Todo : State → List meaning.Write → State
  Todo s ts = record s { focus = Stores ts b env; ks = contexts ks }

  abbrev Follows-on : ℕ → ℕ → Type 0
  Follows-on f z = IsBlock code f sc b 0 z (Exits code f ks) (Ends code f ks)

  -- all values are in slots
  pub slots_near : (ws : List stand.Write) (ts : List meaning.Write) (m : Machine) (s : State) → Scene code m s ks sc env → InSlots m sc.free ws ts → IsWrites code m.top.function sc ws m.top.at (Follows-on m.top.function)
      → Near code (suc (length ts)) m (Todo s ts) 0
  slots_near [] [] m s h values c =
      inr (quiet code (Near code 0) m m (Todo s []) (record s { focus = Run b env; ks = contexts ks }) 0 0 _ refl refl (λ lt. refl) refl refl (near code 0 m _ 0 ks refl (run_stands code m s ks sc env b 0 h c)))
  slots_near [] (t ∷ ts) m s h values c = absurd values
  slots_near (w ∷ ws) [] m s h values c = absurd values
  slots_near (w ∷ ws) (t ∷ ts) m s h values c = by_origin w.origin values.0 c (slots_near ws ts)
    where
      by_origin : (o : stand.Origin) → SlotOf m sc.free o t → stand.IsWrite code m.top.function sc w o m.top.at (λ z. IsWrites code m.top.function sc ws z (Follows-on m.top.function))
          → ((to : Machine) (u : State) → Scene code to u ks sc env → InSlots to sc.free ws ts → IsWrites code to.top.function sc ws to.top.at (Follows-on to.top.function) → Near code (suc (length ts)) to (Todo u ts) 0)
          → Near code (suc (length (t ∷ ts))) m (Todo s (t ∷ ts)) 0
      by_origin (FromSlot r) value c rec =
          let p = put code valid m s ks sc env (flat code m s ks sc env h) w.name r t.value value.1 c.0 in
          let to = record (shifted m (m.top.at + 1) m.top.lists p.row) { cells = p.cells } in
          inr (quiet code (Near code (suc (length ts))) m to (Todo s (t ∷ ts)) (Todo (record s { store = slice_set s.store p.location t.value }) ts) 0 1 _ p.runs refl (λ lt. refl)
          (ap (λ x. stores_at (location_of env.locals x) t.value ts b env (Todo s (t ∷ ts)) (contexts ks)) (sym values.1) ∙ ap (λ o. stores_at o t.value ts b env (Todo s (t ∷ ts)) (contexts ks)) p.is) refl
          (rec to (record s { store = slice_set s.store p.location t.value }) (unflat code to (record s { store = slice_set s.store p.location t.value }) ks sc env h.lists p.scene) (slots_stay m to sc.free ws ts refl p.same values.2) c.1))
      by_origin (FromItem i) value c rec = absurd value

  -- the list is taken off at the end
  abbrev Popped : ℕ → ℕ → Type 0
  Popped f z = At code f z (op.Spread sc.free 0) × IsBlock code f sc b 0 (z + 1) (Exits code f ks) (Ends code f ks)

  -- all values are in the list on top
  pub items_near : (vs : List Value) (ws : List stand.Write) (ts : List meaning.Write) (m : Machine) (s : State) → Scene code (with_lists (lists_of ks) m) s ks sc env → m.top.lists ≡ vs ∷ lists_of ks → InList vs ws ts
      → IsWrites code m.top.function sc ws m.top.at (Popped m.top.function) → Near code (suc (length ts)) m (Todo s ts) 0
  items_near vs [] [] m s h lists values c =
      let to = shifted m (m.top.at + 1) (lists_of ks) m.row in
      inr (quiet code (Near code 0) m to (Todo s []) (record s { focus = Run b env; ks = contexts ks }) 0 1 _
      (runs_op code m (op.Spread sc.free 0) _ c.0 (ap (λ ls. on_list ls (λ us more. next (with_slots sc.free (adjusted 0 us) (with_lists more m)))) lists)) refl (λ lt. refl) refl refl
      (near code 0 to _ 0 ks refl (run_stands code to s ks sc env b 0 (scene_shift code (with_lists (lists_of ks) m) s ks sc env (m.top.at + 1) (lists_of ks) m.row refl (λ p lt. refl) refl h) c.1)))
  items_near vs [] (t ∷ ts) m s h lists values c = absurd values
  items_near vs (w ∷ ws) [] m s h lists values c = absurd values
  items_near vs (w ∷ ws) (t ∷ ts) m s h lists values c = by_origin w.origin values.0 c (items_near vs ws ts)
    where
      by_origin : (o : stand.Origin) → ItemOf vs o t → stand.IsWrite code m.top.function sc w o m.top.at (λ z. IsWrites code m.top.function sc ws z (Popped m.top.function))
          → ((to : Machine) (u : State) → Scene code (with_lists (lists_of ks) to) u ks sc env → to.top.lists ≡ vs ∷ lists_of ks → InList vs ws ts → IsWrites code to.top.function sc ws to.top.at (Popped to.top.function) → Near code (suc (length ts)) to (Todo u ts) 0)
          → Near code (suc (length (t ∷ ts))) m (Todo s (t ∷ ts)) 0
      by_origin (FromSlot r) value c rec = absurd value
      by_origin (FromItem i) value (item, puts, later) rec =
          let fit = fits_at code (view m.top) m.row h.room m.top.at (op.Item sc.free i) valid item in
          let row = slice_set m.row (m.top.base + sc.free) t.value in
          let inside = slot_in code (view m.top) m.row h.room sc.free fit.0 in
          let mid = shifted m (m.top.at + 1) m.top.lists row in
          let scene = scene_shift code (with_lists (lists_of ks) m) s ks sc env (m.top.at + 1) (lists_of ks) row (length_set m.row (m.top.base + sc.free) t.value)
          (λ p lt. value_other m.row (m.top.base + sc.free) p t.value (λ e. omega (arith, e))) refl h in
          let p = put code valid mid s ks sc env scene w.name sc.free t.value (value_set m.row (m.top.base + sc.free) t.value inside) puts in
          let there : m.top.at + 2 ≡ m.top.at + 1 + 1 = omega arith in
          inr (quiet code (Near code (suc (length ts))) m (record (shifted m (m.top.at + 1 + 1) m.top.lists p.row) { cells = p.cells }) (Todo s (t ∷ ts)) (Todo (record s { store = slice_set s.store p.location t.value }) ts) 0 2 _
          (runs_more code 1 1 m mid _
          (runs_op code m (op.Item sc.free i) _ item (ap (λ ls. on_list ls (λ us more. gives sc.free (value_at us i) m)) lists ∙ ap (λ w. gives sc.free w m) value)) p.runs) refl (λ lt. refl)
          (ap (λ x. stores_at (location_of env.locals x) t.value ts b env (Todo s (t ∷ ts)) (contexts ks)) (sym values.1) ∙ ap (λ o. stores_at o t.value ts b env (Todo s (t ∷ ts)) (contexts ks)) p.is) refl
          (rec (record (shifted m (m.top.at + 1 + 1) m.top.lists p.row) { cells = p.cells }) (record s { store = slice_set s.store p.location t.value }) p.scene lists values.2 (subst (λ z. IsWrites code m.top.function sc ws z (Popped m.top.function)) there later)))
