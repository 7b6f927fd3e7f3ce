-- Calls.
use Rattle.std.proofs.Common.{◌≡◌, ℕ, zero, suc, ◌+◌, ◌-◌, ◌<◌, ◌≤◌, ◌⊎◌, inl, inr, List, [], ◌∷◌, ◌++◌, length, Option, Some, None, refl, sym, ap, ◌∙◌, subst, arith, length-append}
use Rattle.std.specs.Prelude.{Bool, if◌then◌else◌, drop, replicate, slice_get}
use Rattle.std.proofs.lemmas.Bool.{cases_lt, lt-ltb, le-ltb}
use Rattle.lua_tree.specs.Source.{Text, Body, body}
use Rattle.lua_value.specs.declared.value.Value.{Value}
use Rattle.lua_value.specs.declared.value.Value.TheVariants as value
use Rattle.lua_value.specs.Lists.{value_at, adjusted}
use Rattle.lua_model.specs.declared.refusal.Refusal.TheVariants as refusal
use Rattle.lua_code.specs.declared.function.Shape.{Shape}
use Rattle.lua_code.specs.Routine.{Routine}
use Rattle.lua_code.specs.Valid.{IsValid}
use Rattle.lua_meaning.specs.State as meaning
use Rattle.lua_meaning.specs.State.{Env, Named, Focus, Declares, Lists, State, Step, Next, Halt, Pause, Context, CallK}
use Rattle.lua_meaning.specs.Calls as meaning_calls
use Rattle.lua_meaning.specs.Moves.{ticked}
use Rattle.lua_steps.specs.declared.scope.Place.{Place}
use Rattle.lua_steps.specs.declared.scope.Place.TheVariants.{InSlot, InCell, InUp, Hidden}
use Rattle.lua_steps.specs.declared.scope.Known.{Known}
use Rattle.lua_steps.specs.Machine.{Code, Machine, Frame, Closure, On}
use Rattle.lua_steps.specs.Moves.{written, paid, values_from, refused}
use Rattle.lua_steps.specs.Calls.{room, grown, rest_of, opened, begins, enter}
use Rattle.lua_follow.specs.Spot.{Spot, CallS, contexts, free}
use Rattle.lua_follow.specs.Memory.{Homes, Owners, owned_below, View, view, HasAll, Ups, Up, Has, Begins, Closes, ClosesAll, Memory}
use Rattle.lua_follow.specs.Kept.{floor, cells_in}
use Rattle.lua_follow.specs.Stands.{Parked, Below, Beside}
use Rattle.lua_follow.proofs.Lists.{length_written, written_same, written_other, length_adjusted}
use Rattle.lua_follow.proofs.Keep.{kept_leaves, floor_free}
use Rattle.lua_follow.proofs.Places.{owner_below, owner_above, rows_row, rows_higher, rows_but}
use Rattle.lua_follow.proofs.Frames.{room_for_longer, awaits_longer, below_map}
use Rattle.lua_follow.proofs.Comes.{Comes, comes_same, refused_left}
use Rattle.lua_follow.proofs.TicksPaid.{ticked_comes}
use Rattle.lua_follow.proofs.Scenes.{Scene}
use Rattle.lua_follow.proofs.RowsDeclares.{declares_near}
use Rattle.lua_follow.proofs.Sim.{Sim}

-- ---- rows that grow
value_nils : (n p : ℕ) → value_at (replicate n value.Nil) p ≡ value.Nil
value_nils zero p = refl
value_nils (suc n) zero = refl
value_nils (suc n) (suc p) = value_nils n p

value_more : (row : List Value) (n p : ℕ) → value_at (row ++ replicate n value.Nil) p ≡ value_at row p
value_more [] n p = value_nils n p
value_more (v ∷ row) n zero = refl
value_more (v ∷ row) n (suc p) = value_more row n p

length_replicate : {A : Type 0} (n : ℕ) (x : A) → length (replicate n x) ≡ n
length_replicate zero x = refl
length_replicate (suc n) x = ap (λ k. suc k) (length_replicate n x)

length_grown : (n : ℕ) (row : List Value) → (n ≤ length (grown n row)) × (length row ≤ length (grown n row))
length_grown n row =
    let a = length-append row (replicate (n - length row) value.Nil) in
    let b = length_replicate (n - length row) value.Nil in
    (omega (arith, a, b), omega (arith, a, b))

room_covers : (shape : Shape) → shape.slots ≤ room shape
room_covers shape = by_cases (cases_lt shape.slots 256)
  where
    by_cases : (shape.slots < 256) ⊎ (256 ≤ shape.slots) → shape.slots ≤ room shape
    by_cases (inl lt) = let e : room shape ≡ 256 = ap (λ b. if b then 256 else shape.slots) (lt-ltb shape.slots 256 lt) in omega (arith, e)
    by_cases (inr le) = let e : room shape ≡ shape.slots = ap (λ b. if b then 256 else shape.slots) (le-ltb shape.slots 256 le) in omega (arith, e)

-- ---- closures by their numbers
pub record Paired (code : Code) (homes : Homes) (ms : List Closure) (k : ℕ) (c : meaning.Closure) : Type 0 where
  pub made : Closure
  pub is : slice_get ms k ≡ Some made
  pub closes : Closes code homes made c

some_is : {A : Type 0} (x y : A) → Some x ≡ Some y → x ≡ y
some_is x y e = cc

paired : (code : Code) (homes : Homes) (ms : List Closure) (cs : List meaning.Closure) (k : ℕ) (c : meaning.Closure) → ClosesAll code homes ms cs → slice_get cs k ≡ Some c → Paired code homes ms k c
paired code homes [] [] k c h e = absurd (cc)
paired code homes [] (d ∷ cs) k c h e = absurd h
paired code homes (m ∷ ms) [] k c h e = absurd h
paired code homes (m ∷ ms) (d ∷ cs) zero c h e = record { made = m; is = refl; closes = subst (λ x. Closes code homes m x) (some_is d c e) h.0 }
paired code homes (m ∷ ms) (d ∷ cs) (suc k) c h e = let p = paired code homes ms cs k c h.1 e in record { made = p.made; is = p.is; closes = p.closes }

unpaired : (code : Code) (homes : Homes) (ms : List Closure) (cs : List meaning.Closure) (k : ℕ) → ClosesAll code homes ms cs → slice_get cs k ≡ None → slice_get ms k ≡ None
unpaired code homes [] cs k h e = refl
unpaired code homes (m ∷ ms) [] k h e = absurd h
unpaired code homes (m ∷ ms) (d ∷ cs) zero h e = absurd (cc)
unpaired code homes (m ∷ ms) (d ∷ cs) (suc k) h e = unpaired code homes ms cs k h.1 e

ups_has : (homes : Homes) (owners : Owners) (fr : View) (free cells : ℕ) (ns : List Known) (ks : List Named) → Ups homes fr.ups ns ks → HasAll homes owners fr free cells ns ks
ups_has homes owners fr free cells [] [] h = tt
ups_has homes owners fr free cells [] (k ∷ ks) h = absurd h
ups_has homes owners fr free cells (n ∷ ns) [] h = absurd h
ups_has homes owners fr free cells (n ∷ ns) (k ∷ ks) h = (h.0, one n.place h.1, ups_has homes owners fr free cells ns ks h.2)
  where
    one : (p : Place) → Up homes fr.ups p k.location → Has homes owners fr free cells p k.location
    one (InSlot s) u = absurd u
    one (InCell c) u = absurd u
    one (InUp i) u = u
    one Hidden u = tt

le_refl : (n : ℕ) → n ≤ n
le_refl n = omega arith

-- ---- a body is entered, for which the frame `fr` waits
module _ (code : Code) (valid : IsValid code) (m0 m : Machine) (s : State) (homes : Homes) (owners : Owners) (line : Option ℕ) (ws : List Spot) (fr : Frame) (frs : List Frame) (cb : ℕ) (vs : List Value)
    (le : fr.base + free ws ≤ cb) (memory : Memory code homes owners m.row m.cells m.closures s.store s.closures (fr.base + floor ws) (fr.base + floor ws)) (parked : Parked code homes owners m.row fr ws)
    (below : Below code homes owners m.row fr.base ws frs) (beside : Beside m.aside s.aside) (left : s.left ≡ m.left) where
  abbrev end : ℕ
  end = fr.base + floor ws

  abbrev others : Owners
  others = owned_below end owners

  abbrev line_of : Routine → List Value
  line_of r = written (grown (cb + room r.shape) m.row) cb (adjusted r.shape.params vs)

  line_same : (r : Routine) (p : ℕ) → p < cb → value_at (line_of r) p ≡ value_at m.row p
  line_same r p lt = written_other (adjusted r.shape.params vs) (grown (cb + room r.shape) m.row) cb p (inl lt) ∙ value_more m.row (cb + room r.shape - length m.row) p

  line_long : (r : Routine) → (cb + room r.shape ≤ length (line_of r)) × (length m.row ≤ length (line_of r))
  line_long r =
      let e = length_written (adjusted r.shape.params vs) (grown (cb + room r.shape) m.row) cb in
      let g = length_grown (cb + room r.shape) m.row in
      (omega (arith, e, g.0), omega (arith, e, g.1))

  abbrev entered : Routine → Closure → Machine
  entered r c = record m { top = opened c r vs cb; below = fr ∷ frs; row = line_of r }

  low : floor ws ≤ free ws
  low = floor_free code homes owners (view fr) m.row ws parked.kept

  above_none : (p : ℕ) → owners p ≡ None → owned_below end owners p ≡ None
  above_none p e = by_cases (cases_lt p end)
    where
      by_cases : (p < end) ⊎ (end ≤ p) → owned_below end owners p ≡ None
      by_cases (inl lt) = owner_below end p owners lt ∙ e
      by_cases (inr le) = owner_above end p owners le

  parked_now : (r : Routine) → Parked code homes others (line_of r) fr ws
  parked_now r =
      record {
        takes = parked.takes;
        awaits = awaits_longer fr.base (length m.row) (length (line_of r)) (free ws) fr.wants _ (line_long r).1 parked.awaits;
        first = parked.first;
        kept = kept_leaves code homes homes owners others (view fr) fr.cells m.row (line_of r) (free ws) (cells_in ws) (floor ws)
            (record {
              homes_stay = λ l x e. e;
              owners_stay = λ i lt. owner_below end (fr.base + i) owners (omega arith);
              owners_none = λ i lt e. above_none (fr.base + i) e;
              row_stays = λ i lt. line_same r (fr.base + i) (omega (arith, le));
              cells_stay = λ c lt. refl;
            }) ws (le_refl (free ws)) (le_refl (cells_in ws)) (le_refl (floor ws)) parked.kept;
        lists = parked.lists;
        room = room_for_longer code (view fr) m.row (line_of r) ws (line_long r).1 parked.room;
      }

  below_now : (r : Routine) → Below code homes others (line_of r) fr.base ws frs
  below_now r =
      below_map code homes homes owners others m.row (line_of r) fr.base ws frs
      (record {
        homes_stay = λ l x e. e;
        owners_stay = λ p lt. owner_below end p owners (omega arith);
        row_stays = λ p lt. line_same r p (omega (arith, le));
        longer = (line_long r).1;
      }) below

  scene : (r : Routine) (c : Closure) (names : List Known) (dots : Bool) (xs : List Text) (cenv : Env) → slice_get code c.function ≡ Some r → r.shape.params ≡ length xs → r.shape.has_dots ≡ dots → Ups homes c.cells names cenv.locals
      → Scene code (entered r c) s (CallS line ∷ ws) (record { names = names; free = 0; cells = 0 }) (record cenv { dots = if dots then drop (length xs) vs else [] })
  scene r c names dots xs cenv is params has ups =
      record {
        homes = homes;
        owners = others;
        memory = record {
          homed = memory.homed;
          rows = rows_row homes others m.row (line_of r) s.store (cb + 0) (cb + 0) (λ p lt. line_same r p (omega arith))
              (rows_higher homes owners m.row s.store end (cb + 0) (cb + 0) (rows_but homes owners m.row s.store end end (cb + 0) (le_refl end) memory.rows));
          cells = memory.cells;
          closures = memory.closures;
        };
        inner = record {
          sees = record {
            names = ups_has homes others (view (opened c r vs cb)) 0 0 names cenv.locals ups;
            dots = ap (λ b. if b then drop (length xs) vs else []) (sym has) ∙ ap (λ n. rest_of r.shape.has_dots n vs) (sym params);
          };
          slots_out = le_refl 0;
          cells_out = le_refl 0;
        };
        round = tt;
        kept = tt;
        below = (le, parked_now r, below_now r);
        room = record {
          routine = r;
          is = is;
          slots = (let a = (line_long r).0 in let b = room_covers r.shape in omega (arith, a, b));
          cells = length_replicate r.shape.cells 0;
        };
        lists = refl;
        beside = beside;
      }

  params_in : (r : Routine) (xs : List Text) (g : ℕ) → slice_get code g ≡ Some r → r.shape.params ≡ length xs → values_from (line_of r) (cb + 0) (length xs) ≡ adjusted (length xs) vs
  params_in r xs g is params =
      let whole = (valid.functions.each g r is).whole in
      let covers = room_covers r.shape in
      let grew = (length_grown (cb + room r.shape) m.row).0 in
      let many = length_adjusted r.shape.params vs in
      let none : cb + 0 ≡ cb = omega arith in
      ap (λ i. values_from (line_of r) i (length xs)) none ∙ ap (λ n. values_from (line_of r) cb n) (sym params ∙ sym many)
      ∙ written_same (adjusted r.shape.params vs) (grown (cb + room r.shape) m.row) cb (omega (arith, whole.2, covers, grew, many)) ∙ ap (λ n. adjusted n vs) params

  enter_body : (c : Closure) (names : List Known) (b : Body) (cenv : Env) → Begins code c.function names b → Ups homes c.cells names cenv.locals
      → Comes code (Sim code) m0 (begins (slice_get code c.function) c vs cb (fr ∷ frs) m) (ticked s.left s (meaning_calls.begins b vs cenv) (CallK line ∷ contexts ws))
  enter_body c names (body xs dots b) cenv (r, is, params, has, pay, pays, code_is) ups i runs =
      ticked_comes code (Sim code) m0 m (entered r c) s (meaning_calls.begins (body xs dots b) vs cenv) (CallK line ∷ contexts ws) pay i
      (λ t. On (record t { top = opened c r vs cb; below = fr ∷ frs; row = written (grown (cb + room r.shape) t.row) cb (adjusted r.shape.params vs) })) s.left
      (runs ∙ ap (λ o. begins o c vs cb (fr ∷ frs) m) is
      ∙ ap (λ n. paid n m (λ t. On (record t { top = opened c r vs cb; below = fr ∷ frs; row = written (grown (cb + room r.shape) t.row) cb (adjusted r.shape.params vs) }))) pays) left beside.heap refl
      (λ l. (0, record (entered r c) { left = l }, refl, refl))
      (λ l j. (
        suc (length xs),
        declares_near code valid (CallS line ∷ ws) b pay xs (record (entered r c) { left = l }) (record s { left = j }) vs (record { names = names; free = 0; cells = 0 })
            (record cenv { dots = if dots then drop (length xs) vs else [] }) (scene_left r c names dots xs cenv l j (scene r c names dots xs cenv is params has ups)) code_is (params_in r xs c.function is params),
      ))
    where
      scene_left : (r : Routine) (c : Closure) (names : List Known) (dots : Bool) (xs : List Text) (cenv : Env) (l j : ℕ)
          → Scene code (entered r c) s (CallS line ∷ ws) (record { names = names; free = 0; cells = 0 }) (record cenv { dots = if dots then drop (length xs) vs else [] })
          → Scene code (record (entered r c) { left = l }) (record s { left = j }) (CallS line ∷ ws) (record { names = names; free = 0; cells = 0 }) (record cenv { dots = if dots then drop (length xs) vs else [] })
      scene_left r c names dots xs cenv l j h =
          record { homes = h.homes; owners = h.owners; memory = h.memory; inner = h.inner; round = h.round; kept = h.kept; below = h.below; room = h.room; lists = h.lists; beside = h.beside }

  -- at the line `at`, where the contexts js are left if it is refused
  enter_in : (at : Option ℕ) (js : List Context) (k : ℕ) (o : Option meaning.Closure) → slice_get s.closures k ≡ o
      → Comes code (Sim code) m0 (enter code (slice_get m.closures k) at (value.Func k) vs cb (fr ∷ frs) m) (meaning_calls.enter o at (value.Func k) vs s (CallK line ∷ contexts ws) js)
  enter_in at js k None e =
      comes_same code (Sim code) m0 (refused at (refusal.Call (value.Func k)) m) (enter code (slice_get m.closures k) at (value.Func k) vs cb (fr ∷ frs) m)
      (meaning_calls.enter None at (value.Func k) vs s (CallK line ∷ contexts ws) js) (meaning_calls.enter None at (value.Func k) vs s (CallK line ∷ contexts ws) js)
      (ap (λ o. enter code o at (value.Func k) vs cb (fr ∷ frs) m) (unpaired code homes m.closures s.closures k memory.closures e)) refl
      (refused_left code (Sim code) m0 m s at (refusal.Call (value.Func k)) js left (record { homes = homes; cells = memory.cells; closures = memory.closures; beside = beside }))
  enter_in at js k (Some c) e =
      let p = paired code homes m.closures s.closures k c memory.closures e in
      comes_same code (Sim code) m0 (enter code (Some p.made) at (value.Func k) vs cb (fr ∷ frs) m) (enter code (slice_get m.closures k) at (value.Func k) vs cb (fr ∷ frs) m)
      (meaning_calls.enter (Some c) at (value.Func k) vs s (CallK line ∷ contexts ws) js) (meaning_calls.enter (Some c) at (value.Func k) vs s (CallK line ∷ contexts ws) js)
      (ap (λ o. enter code o at (value.Func k) vs cb (fr ∷ frs) m) p.is) refl (enter_body p.made p.closes.names c.body c.env p.closes.begins p.closes.ups)

  pub enters : (at : Option ℕ) (js : List Context) (k : ℕ)
      → Comes code (Sim code) m0 (enter code (slice_get m.closures k) at (value.Func k) vs cb (fr ∷ frs) m) (meaning_calls.enter (slice_get s.closures k) at (value.Func k) vs s (CallK line ∷ contexts ws) js)
  enters at js k = enter_in at js k (slice_get s.closures k) refl
