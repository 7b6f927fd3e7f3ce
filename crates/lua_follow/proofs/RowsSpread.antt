-- The last values of a list, and the first of one.
use Rattle.std.proofs.Common.{◌≡◌, ℕ, zero, suc, ◌+◌, ◌-◌, ◌≤◌, inl, inr, List, [], ◌∷◌, ◌++◌, refl, sym, ap, ◌∙◌, subst, arith, true, false}
use Rattle.lua_value.specs.declared.value.Value.{Value}
use Rattle.lua_value.specs.Lists.{value_at, adjusted}
use Rattle.lua_code.specs.declared.op.Op.TheVariants as op
use Rattle.lua_code.specs.Valid.{IsValid}
use Rattle.lua_meaning.specs.State.{Lists, State}
use Rattle.lua_meaning.specs.Reduce.{reduce}
use Rattle.lua_steps.specs.Machine.{Code, Machine, On}
use Rattle.lua_steps.specs.Moves.{values_from, on_list, next, with_lists, slot}
use Rattle.lua_steps.specs.Run.{run}
use Rattle.lua_steps.specs.Stand.{At, IsNils, Target, Into, Anywhere, Decided, Shown, Reg, Imm, Not, Holds, Fails, IsThere, OfReg, register}
use Rattle.lua_follow.specs.Spot.{Form, Exactly, Filled, OnList, Alone, ToSlots, OnLists, ThenSpread, ThenReturn, Spot, SpreadS, ArgsS, AfterS, LocalS, AssignS, DropS, ReturnS, GenericS, contexts, free, free_in, asked, form_of, before, lists_of}
use Rattle.lua_follow.specs.Takes.{TakesUpTo, TakesAll}
use Rattle.lua_follow.specs.Memory.{View, view, Memory}
use Rattle.lua_follow.specs.Kept.{Shows, Under, Partly, Assigns, floor}
use Rattle.lua_follow.specs.Stands.{Stands, Lies, Came, CameUpTo, needed_alone}
use Rattle.lua_follow.proofs.Keep.{floor_free}
use Rattle.lua_follow.proofs.Places.{rows_but}
use Rattle.lua_follow.proofs.Frames.{fits_at, slot_in}
use Rattle.lua_follow.proofs.Nils.{nilled}
use Rattle.lua_follow.proofs.Parts.{next_exact, append_more}
use Rattle.lua_follow.proofs.Firm.{Firm, shifted, firm_row, firm_at, room_for, whole_stands, exact_stands, exact_came, filled_came, listed_came}
use Rattle.lua_follow.proofs.Runs.{runs_op}
use Rattle.lua_follow.proofs.Sim.{Row, Sim, quiet, standing}

-- a term that takes lists asks for them in their form
pub asks_of : (fr : View) (row : List Value) (ks : List Spot) (form : Form) (us : List Value) → Partly fr row (asked ks) form us → asked ks ≡ form_of ks
asks_of fr row (SpreadS ws f ∷ ks) (Alone t d) us h = absurd (h.3 h.0)
asks_of fr row (SpreadS ws f ∷ ks) (Exactly r) us h = absurd h
asks_of fr row (SpreadS ws f ∷ ks) (Filled r n) us h = absurd h
asks_of fr row (SpreadS ws f ∷ ks) (OnList d) us h = absurd h
asks_of fr row [] form us h = refl
asks_of fr row (k ∷ ks) form us h = refl

module _ (code : Code) (valid : IsValid code) (m : Machine) (s : State) (ks : List Spot) (us vs : List Value) where
  abbrev Here-at : Form → Type 0
  Here-at form = Stands code m (record s { focus = Lists vs; ks = contexts (SpreadS us form ∷ ks) }) (SpreadS us form ∷ ks) 0

  abbrev from : Form → State
  from form = record s { focus = Lists vs; ks = contexts (SpreadS us form ∷ ks) }

  abbrev Row-at : Form → Type 0
  Row-at form = Row code (Sim code) m (from form) 0 (reduce (from form))

  abbrev to_state : List Value → State
  to_state ws = record s { focus = Lists ws; ks = contexts ks }

  -- the whole list is there
  on : (form : Form) (n : ℕ) (to : Machine) → run n code m ≡ On to → to.left ≡ m.left → to.aside ≡ m.aside → Stands code to (to_state (us ++ vs)) ks 0 → Row-at form
  on form n to runs left heap h =
      quiet code (Sim code) m to (from form) (to_state (us ++ vs)) 0 n _ runs left (λ lt. ap (λ a. a.heap) heap) refl refl (standing code to _ 0 ks refl h)

  -- the values so far, and the frame
  firm : (form : Form) (h : Here-at form) (but : ℕ) → Memory code h.homes h.owners m.row m.cells m.closures s.store s.closures (m.top.base + floor ks) (m.top.base + but) → floor ks ≤ but → Firm code m s ks
  firm form h but mem le =
      record {
        homes = h.homes;
        owners = h.owners;
        memory = record { homed = mem.homed; rows = rows_but h.homes h.owners m.row s.store (m.top.base + floor ks) (m.top.base + but) (m.top.base + floor ks) (omega arith) mem.rows; cells = mem.cells; closures = mem.closures };
        kept = h.kept.2;
        below = h.below;
        room = h.room;
        beside = h.beside;
      }

  low : (form : Form) → (h : Here-at form) → floor ks ≤ free_in form
  low form h = floor_free code h.homes h.owners (view m.top) m.row (SpreadS us form ∷ ks) h.kept

  -- ---- one value
  exact_one : (r : ℕ) → Here-at (Exactly r) → (v : Value) → vs ≡ v ∷ [] → value_at m.row (m.top.base + r) ≡ v → TakesUpTo code m.top.function ks m.top.at (r + 1) → m.top.lists ≡ lists_of ks → Firm code m s ks → Row-at (Exactly r)
  exact_one r h v one stands takes lists f =
      let part = next_exact (view m.top) m.row (asked ks) r us v h.kept.0 stands in
      on (Exactly r) 0 m refl refl refl
      (subst (λ ws. Stands code m (to_state (us ++ ws)) ks 0) (sym one)
      (exact_stands code m s ks (us ++ v ∷ []) (r + 1) f takes
      (subst (λ g. CameUpTo (view m.top) m.row g (r + 1) (us ++ v ∷ [])) (asks_of (view m.top) m.row ks (Exactly r) us h.kept.0) (exact_came (view m.top) m.row (asked ks) (r + 1) (us ++ v ∷ []) part)) lists))

  one_filled : (row : List Value) (i n : ℕ) (v : Value) → value_at row i ≡ v → values_from row (i + 1) (n - 1) ≡ adjusted (n - 1) [] → values_from row i n ≡ adjusted n (v ∷ [])
  one_filled row i zero v e f = refl
  one_filled row i (suc n) v e f =
      let same : suc n - 1 ≡ n = omega arith in
      ap (λ w. w ∷ values_from row (i + 1) n) e ∙ ap (λ ws. v ∷ ws) (ap (λ k. values_from row (i + 1) k) (sym same) ∙ f ∙ ap (λ k. adjusted k []) same)

  filled_one : (r n : ℕ) → Here-at (Filled r n) → (v : Value) → vs ≡ v ∷ [] → value_at m.row (m.top.base + r) ≡ v → IsNils code m.top.function (r + 1) (n - 1) m.top.at (TakesAll code m.top.function ks) → m.top.lists ≡ lists_of ks
      → Firm code m s ks → Row-at (Filled r n)
  filled_one r n h v one stands nils lists f =
      let g = nilled code m (r + 1) (n - 1) (TakesAll code m.top.function ks) (λ i a at. slot_in code (view m.top) m.row f.room i ((fits_at code (view m.top) m.row f.room a (op.Nil i) valid at).0)) nils in
      let place : m.top.base + r + 1 ≡ m.top.base + (r + 1) = omega arith in
      let still : value_at g.row (m.top.base + r) ≡ v = g.same (m.top.base + r) (inl (omega arith)) ∙ stands in
      let up : free ks ≤ r = h.kept.1 in
      let more = firm_row code m s ks g.at m.top.lists g.row g.long (λ p lt. g.same p (inl (omega arith))) f in
      on (Filled r n) g.steps (shifted m g.at m.top.lists g.row) g.runs refl refl
      (subst (λ ws. Stands code (shifted m g.at m.top.lists g.row) (to_state (us ++ ws)) ks 0) (sym one)
      (whole_stands code (shifted m g.at m.top.lists g.row) s ks (us ++ v ∷ []) more g.holds
      (subst (λ x. Came (view m.top) g.row m.top.lists ks x (us ++ v ∷ [])) (asks_of (view m.top) m.row ks (Filled r n) us h.kept.0)
      (filled_came (view m.top) m.row g.row m.top.lists ks (asked ks) r n us (v ∷ []) h.kept.0 (λ p lt. g.same p (inl (omega arith)))
      (one_filled g.row (m.top.base + r) n v still (ap (λ i. values_from g.row i (n - 1)) place ∙ g.nils)) lists))))

  list_one : (d : ℕ) → Here-at (OnList d) → (v : Value) → vs ≡ v ∷ [] → (p : Shown) → Shows (view m.top) m.row p v → OfReg p (λ x. At code m.top.function m.top.at (op.Push x) × TakesAll code m.top.function ks (m.top.at + 1))
      → m.top.lists ≡ (before ks ++ us) ∷ lists_of ks → Firm code m s ks → Row-at (OnList d)
  list_one d h v one (Reg x) stands c lists f =
      let to = shifted m (m.top.at + 1) (((before ks ++ us) ++ v ∷ []) ∷ lists_of ks) m.row in
      on (OnList d) 1 to
      (runs_op code m (op.Push x) _ c.0
      (ap (λ ls. on_list ls (λ a b. next (with_lists ((a ++ slot m x ∷ []) ∷ b) m))) lists ∙ ap (λ w. next (with_lists (((before ks ++ us) ++ w ∷ []) ∷ lists_of ks) m)) stands)) refl refl
      (subst (λ ws. Stands code to (to_state (us ++ ws)) ks 0) (sym one)
      (whole_stands code to s ks (us ++ v ∷ []) (firm_at code m s ks (m.top.at + 1) (((before ks ++ us) ++ v ∷ []) ∷ lists_of ks) f) c.1
      (subst (λ g. Came (view m.top) m.row (((before ks ++ us) ++ v ∷ []) ∷ lists_of ks) ks g (us ++ v ∷ [])) (asks_of (view m.top) m.row ks (OnList d) us h.kept.0)
      (listed_came (view m.top) m.row (((before ks ++ us) ++ v ∷ []) ∷ lists_of ks) ks (asked ks) d us (us ++ v ∷ []) h.kept.0 (ap (λ a. a ∷ lists_of ks) (append_more (before ks) us (v ∷ [])))))))
  list_one d h v one (Imm n) stands c lists f = absurd c
  list_one d h v one (Not x) stands c lists f = absurd c
  list_one d h v one (Holds pay) stands c lists f = absurd c
  list_one d h v one Fails stands c lists f = absurd c

  -- ---- all values
  filled_all : (r n : ℕ) → Here-at (Filled r n) → TakesAll code m.top.function ks m.top.at → values_from m.row (m.top.base + r) n ≡ adjusted n vs → m.top.lists ≡ lists_of ks → Firm code m s ks → Row-at (Filled r n)
  filled_all r n h takes came lists f =
      on (Filled r n) 0 m refl refl refl
      (whole_stands code m s ks (us ++ vs) f takes
      (subst (λ x. Came (view m.top) m.row m.top.lists ks x (us ++ vs)) (asks_of (view m.top) m.row ks (Filled r n) us h.kept.0)
      (filled_came (view m.top) m.row m.row m.top.lists ks (asked ks) r n us vs h.kept.0 (λ p lt. refl) came lists)))

  list_all : (d : ℕ) → Here-at (OnList d) → At code m.top.function m.top.at op.Append → TakesAll code m.top.function ks (m.top.at + 1) → m.top.lists ≡ vs ∷ (before ks ++ us) ∷ lists_of ks → Firm code m s ks → Row-at (OnList d)
  list_all d h at takes lists f =
      let to = shifted m (m.top.at + 1) (((before ks ++ us) ++ vs) ∷ lists_of ks) m.row in
      on (OnList d) 1 to
      (runs_op code m op.Append _ at (ap (λ ls. on_list ls (λ a b. on_list b (λ c rest. next (with_lists ((c ++ a) ∷ rest) m)))) lists)) refl refl
      (whole_stands code to s ks (us ++ vs) (firm_at code m s ks (m.top.at + 1) (((before ks ++ us) ++ vs) ∷ lists_of ks) f) takes
      (subst (λ g. Came (view m.top) m.row (((before ks ++ us) ++ vs) ∷ lists_of ks) ks g (us ++ vs)) (asks_of (view m.top) m.row ks (OnList d) us h.kept.0)
      (listed_came (view m.top) m.row (((before ks ++ us) ++ vs) ∷ lists_of ks) ks (asked ks) d us (us ++ vs) h.kept.0 (ap (λ a. a ∷ lists_of ks) (append_more (before ks) us vs)))))

  abbrev IsList-form : Form → Type 0
  IsList-form (Alone t d) = ⊥
  IsList-form form = Unit {0}

  le_refl : (n : ℕ) → n ≤ n
  le_refl n = omega arith

  abbrev Came-at : (form : Form) → Here-at form → Type 0
  Came-at form h =
      Lies code m.top m.row
      (λ end but. Memory code h.homes h.owners m.row m.cells m.closures s.store s.closures (m.top.base + end) (m.top.base + but)) (SpreadS us form ∷ ks) vs

  by_form : (form : Form) (h : Here-at form) → Came-at form h → IsList-form form → Row-at form
  by_form (Exactly r) h (inl c) alone =
      exact_one r h c.0 c.2 (subst (λ q. Shows (view m.top) m.row q c.0) c.5 c.4) c.3 c.8 (firm (Exactly r) h r c.9 (low (Exactly r) h))
  by_form (Exactly r) h (inr (inl c)) alone = absurd c.1
  by_form (Exactly r) h (inr (inr c)) alone = absurd c.0
  by_form (Filled r n) h (inl c) alone =
      filled_one r n h c.0 c.2 (subst (λ q. Shows (view m.top) m.row q c.0) c.5 c.4) c.3 c.8 (firm (Filled r n) h r c.9 (low (Filled r n) h))
  by_form (Filled r n) h (inr (inl c)) alone = absurd c.1
  by_form (Filled r n) h (inr (inr c)) alone = filled_all r n h c.0 c.1.0 c.1.1 (firm (Filled r n) h (floor ks) c.2 (le_refl (floor ks)))
  by_form (OnList d) h (inl c) alone = list_one d h c.0 c.2 c.1 c.4 c.3 c.8 (firm (OnList d) h d c.9 (low (OnList d) h))
  by_form (OnList d) h (inr (inl c)) alone = absurd c.1
  by_form (OnList d) h (inr (inr c)) alone = list_all d h c.0.0 c.0.1 c.1 (firm (OnList d) h (floor ks) c.2 (le_refl (floor ks)))
  by_form (Alone t d) h c alone = absurd alone

-- ---- the only value of a term
module _ (code : Code) (m : Machine) (s : State) (us vs : List Value) where
  abbrev Sent : List Spot → Type 0
  Sent ks = Row code (Sim code) m (record s { focus = Lists vs; ks = contexts ks }) 0 (reduce (record s { focus = Lists vs; ks = contexts ks }))

  -- where it goes to is the same for both
  moved_on : (t u : Target) (d e : ℕ) (ks : List Spot) → (h : Stands code m (record s { focus = Lists vs; ks = contexts (SpreadS us (Alone t d) ∷ ks) }) (SpreadS us (Alone t d) ∷ ks) 0) → t ≡ u → d ≡ e → us ≡ [] → needed_alone ks ≡ u → free ks ≡ e
      → Sent (SpreadS us (Alone t d) ∷ ks)
  moved_on t u d e ks h same there none aim place = by_coming h.here.1
    where
      by_coming : Lies code m.top m.row (λ end but. Memory code h.homes h.owners m.row m.cells m.closures s.store s.closures (m.top.base + end) (m.top.base + but)) (SpreadS us (Alone t d) ∷ ks) vs → Sent (SpreadS us (Alone t d) ∷ ks)
      by_coming (inl c) =
          let target_is : t ≡ needed_alone ks = same ∙ sym aim in
          let free_is : d ≡ free ks = there ∙ sym place in
          let list_is : us ++ vs ≡ c.0 ∷ [] = ap (λ ws. ws ++ vs) none ∙ c.2 in
          quiet code (Sim code) m m (record s { focus = Lists vs; ks = contexts (SpreadS us (Alone t d) ∷ ks) }) (record s { focus = Lists (us ++ vs); ks = contexts ks }) 0 0 _ refl refl (λ lt. refl) refl refl
          (standing code m _ 0 ks refl
          (record {
            homes = h.homes;
            owners = h.owners;
            here = (
              refl,
              inl (
                c.0,
                c.1,
                list_is,
                c.3,
                c.4,
                subst (λ x. IsThere x c.1) target_is c.5,
                subst (λ i. Under (i + 1) c.1) free_is c.6,
                c.7,
                c.8,
                subst (λ i. Memory code h.homes h.owners m.row m.cells m.closures s.store s.closures (m.top.base + floor ks) (m.top.base + register (needed_alone ks) i)) free_is
                    (subst (λ x. Memory code h.homes h.owners m.row m.cells m.closures s.store s.closures (m.top.base + floor ks) (m.top.base + register x d)) target_is c.9),
              ),
            );
            kept = h.kept.2;
            below = h.below;
            room = room_for code (view m.top) m.row ks h.room;
            beside = h.beside;
          }))
      by_coming (inr (inl c)) = absurd c.1
      by_coming (inr (inr c)) = absurd c.0

  pub alone_row : (t : Target) (d : ℕ) (ks : List Spot) → (h : Stands code m (record s { focus = Lists vs; ks = contexts (SpreadS us (Alone t d) ∷ ks) }) (SpreadS us (Alone t d) ∷ ks) 0) → Sent (SpreadS us (Alone t d) ∷ ks)
  alone_row t d (AssignS xs rest env sc (Alone u e) ∷ ks) h = moved_on t u d e (AssignS xs rest env sc (Alone u e) ∷ ks) h h.kept.0.0 h.kept.0.1 h.kept.0.2 refl (sym (alone_free u e h.kept.2.2))
    where
      alone_free : (u : Target) (e : ℕ) → Assigns sc xs (Alone u e) → e ≡ sc.free
      alone_free (Into r) e a = a.0
      alone_free Anywhere e a = a
      alone_free Decided e a = absurd a
  alone_row t d (DropS rest env sc true ∷ ks) h = moved_on t Anywhere d sc.free (DropS rest env sc true ∷ ks) h h.kept.0.0 h.kept.0.1 h.kept.0.2 refl refl
  alone_row t d (ReturnS sc (Alone Anywhere e) ∷ ks) h = moved_on t Anywhere d e (ReturnS sc (Alone Anywhere e) ∷ ks) h h.kept.0.0 h.kept.0.1 h.kept.0.2 refl (sym h.kept.2.3)
  alone_row t d (ReturnS sc (Alone (Into r) e) ∷ ks) h = absurd h.kept.2.3
  alone_row t d (ReturnS sc (Alone Decided e) ∷ ks) h = absurd h.kept.2.3
  alone_row t d (SpreadS ws form ∷ ks) h = absurd (h.kept.0.3 h.kept.0.0)
  alone_row t d (AssignS xs rest env sc (Exactly r) ∷ ks) h = absurd h.kept.0
  alone_row t d (AssignS xs rest env sc (Filled r n) ∷ ks) h = absurd h.kept.0
  alone_row t d (AssignS xs rest env sc (OnList e) ∷ ks) h = absurd h.kept.0
  alone_row t d (DropS rest env sc false ∷ ks) h = absurd h.kept.0
  alone_row t d (ReturnS sc (Exactly r) ∷ ks) h = absurd h.kept.0
  alone_row t d (ReturnS sc (Filled r n) ∷ ks) h = absurd h.kept.0
  alone_row t d (ReturnS sc (OnList e) ∷ ks) h = absurd h.kept.0
  alone_row t d (ArgsS f line ss how env sc true ∷ ks) h = absurd h.kept.0
  alone_row t d (ArgsS f line ss how env sc false ∷ ks) h = absurd h.kept.0
  alone_row t d (AfterS ss how env sc (ToSlots n) ∷ ks) h = absurd h.kept.0
  alone_row t d (AfterS ss how env sc OnLists ∷ ks) h = absurd h.kept.0
  alone_row t d (AfterS ss how env sc (ThenSpread n) ∷ ks) h = absurd h.kept.0
  alone_row t d (AfterS ss how env sc ThenReturn ∷ ks) h = absurd h.kept.0
  alone_row t d (LocalS xs rest env sc true ∷ ks) h = absurd h.kept.0
  alone_row t d (LocalS xs rest env sc false ∷ ks) h = absurd h.kept.0
  alone_row t d (GenericS xs body line rest env sc true ∷ ks) h = absurd h.kept.0
  alone_row t d (GenericS xs body line rest env sc false ∷ ks) h = absurd h.kept.0
  alone_row t d [] h = absurd h.kept.0
  alone_row t d (k ∷ ks) h = absurd h.kept.0

pub spread_row : (code : Code) (valid : IsValid code) (m : Machine) (s : State) (ks : List Spot) (us vs : List Value) (form : Form)
    → Stands code m (record s { focus = Lists vs; ks = contexts (SpreadS us form ∷ ks) }) (SpreadS us form ∷ ks) 0
    → Row code (Sim code) m (record s { focus = Lists vs; ks = contexts (SpreadS us form ∷ ks) }) 0 (reduce (record s { focus = Lists vs; ks = contexts (SpreadS us form ∷ ks) }))
spread_row code valid m s ks us vs (Alone t d) h = alone_row code m s us vs t d ks h
spread_row code valid m s ks us vs (Exactly r) h = by_form code valid m s ks us vs (Exactly r) h h.here.1 tt
spread_row code valid m s ks us vs (Filled r n) h = by_form code valid m s ks us vs (Filled r n) h h.here.1 tt
spread_row code valid m s ks us vs (OnList d) h = by_form code valid m s ks us vs (OnList d) h h.here.1 tt
