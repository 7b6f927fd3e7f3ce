-- A waiting frame gets its values.
use Rattle.std.proofs.Common.{◌≡◌, ℕ, ◌+◌, ◌<◌, ◌≤◌, inl, inr, List, [], ◌∷◌, ◌++◌, length, refl, sym, ap, ◌∙◌, subst, arith}
use Rattle.lua_value.specs.declared.value.Value.{Value}
use Rattle.lua_value.specs.Lists.{adjusted}
use Rattle.lua_meaning.specs.State.{Lists, State, Next}
use Rattle.lua_meaning.specs.Calls as meaning_calls
use Rattle.lua_steps.specs.Machine.{Code, Machine, Frame, Wanted, InSlots, OnTop, On}
use Rattle.lua_steps.specs.Moves.{received, written, values_from}
use Rattle.lua_steps.specs.Calls.{hand}
use Rattle.lua_follow.specs.Spot.{Form, Exactly, Filled, OnList, Alone, Spot, BlockS, WhileLoopS, RepeatLoopS, NumericLoopS, GenericLoopS, CallS, contexts, free, form_of, before, lists_of}
use Rattle.lua_follow.specs.Memory.{Homes, Owners, view, Memory}
use Rattle.lua_follow.specs.Kept.{Round, floor, cells_in}
use Rattle.lua_follow.specs.Stands.{Awaits, Parked, Below, Beside, Stands, Came}
use Rattle.lua_follow.proofs.Lists.{length_written, written_same, written_other, length_adjusted}
use Rattle.lua_follow.proofs.Keep.{floor_free, kept_map}
use Rattle.lua_follow.proofs.Places.{rows_row, rows_lower, rows_but}
use Rattle.lua_follow.proofs.Frames.{room_for_longer, below_map}

le_refl : (n : ℕ) → n ≤ n
le_refl n = omega arith

module _ (code : Code) (m : Machine) (s : State) (homes : Homes) (owners : Owners) (vs : List Value) where
  to_slots : (ks : List Spot) (to count r n : ℕ) → form_of ks ≡ Filled r n → Awaits m.top.base (length m.row) (free ks) (InSlots to count) (Filled r n)
      → Memory code homes owners m.row m.cells m.closures s.store s.closures (m.top.base + floor ks) (m.top.base + floor ks) → Parked code homes owners m.row m.top ks → Below code homes owners m.row m.top.base ks m.below → Beside m.aside s.aside
      → Stands code (received (InSlots to count) vs m) (record s { focus = Lists vs; ks = contexts ks }) ks 0
  to_slots ks to count r n form waits memory parked below beside =
      let ws = adjusted count vs in
      let line = written m.row (m.top.base + to) ws in
      let many : length ws ≡ count = length_adjusted count vs in
      let long : length line ≡ length m.row = length_written ws m.row (m.top.base + to) in
      let same = λ (p : ℕ) (lt : p < m.top.base + free ks). written_other ws m.row (m.top.base + to) p (inl (omega (arith, lt, waits.0, waits.3))) in
      let values : values_from line (m.top.base + to) count ≡ adjusted count vs =
      ap (λ i. values_from line (m.top.base + to) i) (sym many) ∙ written_same ws m.row (m.top.base + to) (omega (arith, many, waits.0, waits.1, waits.2)) in
      let low = floor_free code homes owners (view m.top) m.row ks parked.kept in
      record {
        homes = homes;
        owners = owners;
        here = (
          refl,
          inr (inr (
            parked.takes,
            subst (λ f. Came (view m.top) line m.top.lists ks f vs) (sym form)
                (ap (λ i. values_from line (m.top.base + i) n) (sym waits.0) ∙ ap (λ i. values_from line (m.top.base + to) i) (sym waits.1) ∙ values ∙ ap (λ i. adjusted i vs) waits.1, parked.lists),
            record {
              homed = memory.homed;
              rows = rows_row homes owners m.row line s.store (m.top.base + floor ks) (m.top.base + floor ks) (λ p lt. same p (omega (arith, lt, low))) memory.rows;
              cells = memory.cells;
              closures = memory.closures;
            },
          )),
        );
        kept = kept_map code homes homes owners owners (view m.top) m.top.cells m.row line (free ks) (cells_in ks)
            (record { homes_stay = λ l x e. e; owners_stay = λ i lt. refl; row_stays = λ i lt. same (m.top.base + i) (omega arith); cells_stay = λ c lt. refl }) ks (le_refl (free ks)) (le_refl (cells_in ks)) parked.kept;
        below = below_map code homes homes owners owners m.row line m.top.base ks m.below
            (record { homes_stay = λ l x e. e; owners_stay = λ p lt. refl; row_stays = λ p lt. same p (omega arith); longer = omega (arith, long) }) below;
        room = room_for_longer code (view m.top) m.row line ks (omega (arith, long)) parked.room;
        beside = beside;
      }

  on_top : (ks : List Spot) (d : ℕ) → form_of ks ≡ OnList d → before ks ≡ [] → Memory code homes owners m.row m.cells m.closures s.store s.closures (m.top.base + floor ks) (m.top.base + floor ks)
      → Parked code homes owners m.row m.top ks → Below code homes owners m.row m.top.base ks m.below → Beside m.aside s.aside
      → Stands code (received OnTop vs m) (record s { focus = Lists vs; ks = contexts ks }) ks 0
  on_top ks d form none memory parked below beside =
      record {
        homes = homes;
        owners = owners;
        here = (
          refl,
          inr (inr (
            parked.takes,
            subst (λ f. Came (view m.top) m.row (vs ∷ m.top.lists) ks f vs) (sym form) (ap (λ ls. vs ∷ ls) parked.lists ∙ ap (λ l. (l ++ vs) ∷ lists_of ks) (sym none)),
            memory,
          )),
        );
        kept = parked.kept;
        below = below;
        room = parked.room;
        beside = beside;
      }

  by_form : (ks : List Spot) (w : Wanted) (f : Form) → form_of ks ≡ f → Awaits m.top.base (length m.row) (free ks) w f → before ks ≡ []
      → Memory code homes owners m.row m.cells m.closures s.store s.closures (m.top.base + floor ks) (m.top.base + floor ks) → Parked code homes owners m.row m.top ks → Below code homes owners m.row m.top.base ks m.below → Beside m.aside s.aside
      → Stands code (received w vs m) (record s { focus = Lists vs; ks = contexts ks }) ks 0
  by_form ks (InSlots to count) (Filled r n) form waits none memory parked below beside = to_slots ks to count r n form waits memory parked below beside
  by_form ks OnTop (OnList d) form waits none memory parked below beside = on_top ks d form none memory parked below beside
  by_form ks (InSlots to count) (Exactly r) form waits none memory parked below beside = absurd waits
  by_form ks (InSlots to count) (OnList d) form waits none memory parked below beside = absurd waits
  by_form ks (InSlots to count) (Alone t d) form waits none memory parked below beside = absurd waits
  by_form ks OnTop (Exactly r) form waits none memory parked below beside = absurd waits
  by_form ks OnTop (Filled r n) form waits none memory parked below beside = absurd waits
  by_form ks OnTop (Alone t d) form waits none memory parked below beside = absurd waits

  -- the frame that runs has waited
  pub receives : (ks : List Spot) → Memory code homes owners m.row m.cells m.closures s.store s.closures (m.top.base + floor ks) (m.top.base + floor ks) → Parked code homes owners m.row m.top ks
      → Below code homes owners m.row m.top.base ks m.below → Beside m.aside s.aside → Stands code (received m.top.wants vs m) (record s { focus = Lists vs; ks = contexts ks }) ks 0
  receives ks memory parked below beside = by_form ks m.top.wants (form_of ks) refl parked.awaits parked.first memory parked below beside

-- ---- the results of a body
-- where they go
pub record Handed (code : Code) (m : Machine) (s : State) (vs : List Value) (ks : List Spot) (frs : List Frame) : Type 0 where
  pub to : Machine
  pub spots : List Spot
  pub left : to.left ≡ m.left
  pub aside : to.aside ≡ m.aside
  pub does : hand vs frs m ≡ On to
  pub is : meaning_calls.hand (contexts ks) vs s ≡ Next (record s { focus = Lists vs; ks = contexts spots })
  pub stands : Stands code to (record s { focus = Lists vs; ks = contexts spots }) spots 0

module _ (code : Code) (m : Machine) (s : State) (homes : Homes) (owners : Owners) (vs : List Value) (end but : ℕ) (memory : Memory code homes owners m.row m.cells m.closures s.store s.closures end but) (over : end ≤ but)
    (beside : Beside m.aside s.aside) where
  received_left : (w : Wanted) (x : Machine) → (received w vs x).left ≡ x.left
  received_left (InSlots to count) x = refl
  received_left OnTop x = refl

  received_aside : (w : Wanted) (x : Machine) → (received w vs x).aside ≡ x.aside
  received_aside (InSlots to count) x = refl
  received_aside OnTop x = refl

  further : (k : Spot) (ks : List Spot) (frs : List Frame) → meaning_calls.hand (contexts (k ∷ ks)) vs s ≡ meaning_calls.hand (contexts ks) vs s → Handed code m s vs ks frs → Handed code m s vs (k ∷ ks) frs
  further k ks frs e h = record { to = h.to; spots = h.spots; left = h.left; aside = h.aside; does = h.does; is = e ∙ h.is; stands = h.stands }

  pub handed : (n : ℕ) (ks : List Spot) (frs : List Frame) → n ≤ end → Round ks → Below code homes owners m.row n ks frs → Handed code m s vs ks frs
  handed n [] frs le round below = absurd round
  handed n (CallS line ∷ ks) [] le round below = absurd below
  handed n (CallS line ∷ ks) (fr ∷ frs) le round below =
      let to = record m { top = fr; below = frs } in
      let low = floor_free code homes owners (view fr) m.row ks below.1.kept in
      record {
        to = received fr.wants vs to;
        spots = ks;
        left = received_left fr.wants to;
        aside = received_aside fr.wants to;
        does = refl;
        is = refl;
        stands = receives code to s homes owners vs ks
            (record {
              homed = memory.homed;
              rows = rows_but homes owners m.row s.store (fr.base + floor ks) but (fr.base + floor ks) (omega (arith, below.0, low))
                  (rows_lower homes owners m.row s.store end (fr.base + floor ks) but (omega (arith, below.0, low)) memory.rows);
              cells = memory.cells;
              closures = memory.closures;
            }) below.1 below.2 beside;
      }
  handed n (BlockS rest env sc ∷ ks) frs le round below = further (BlockS rest env sc) ks frs refl (handed n ks frs le round below)
  handed n (WhileLoopS e body rest env sc c ∷ ks) frs le round below = further (WhileLoopS e body rest env sc c) ks frs refl (handed n ks frs le round below)
  handed n (RepeatLoopS body e rest env sc x y ∷ ks) frs le round below = further (RepeatLoopS body e rest env sc x y) ks frs refl (handed n ks frs le round below)
  handed n (NumericLoopS i at step x body rest env sc pay p ∷ ks) frs le round below = further (NumericLoopS i at step x body rest env sc pay p) ks frs refl (handed n ks frs le round below)
  handed n (GenericLoopS f state control xs body line rest env sc r pay x l ∷ ks) frs le round below = further (GenericLoopS f state control xs body line rest env sc r pay x l) ks frs refl (handed n ks frs le round below)
  handed n (k ∷ ks) frs le round below = absurd round
