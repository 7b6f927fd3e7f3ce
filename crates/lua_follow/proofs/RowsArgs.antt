-- Arguments have come: a call.
use Rattle.std.proofs.Common.{◌≡◌, ℕ, zero, suc, ◌+◌, ◌≤◌, List, [], ◌∷◌, length, Option, Some, refl, sym, ap, ◌∙◌, subst, arith}
use Rattle.lua_tree.specs.Source.{Suffixes}
use Rattle.lua_value.specs.declared.value.Value.{Value}
use Rattle.lua_value.specs.declared.value.Value.TheVariants as value
use Rattle.lua_model.specs.declared.refusal.Refusal.TheVariants as refusal
use Rattle.lua_code.specs.declared.op.Op.{Op}
use Rattle.lua_code.specs.declared.op.Op.TheVariants as op
use Rattle.lua_code.specs.Valid.{IsValid}
use Rattle.lua_meaning.specs.State.{Env, Wanted, State, CallK, AfterK}
use Rattle.lua_meaning.specs.Calls as meaning_calls
use Rattle.lua_steps.specs.Machine as machine
use Rattle.lua_steps.specs.Machine.{Code, Machine, Frame, InSlots, OnTop, Went, On, Off, Paused}
use Rattle.lua_steps.specs.Moves.{values_from, slot, slots_from, with_lists, on_list}
use Rattle.lua_steps.specs.Calls.{calls, asked, waiting}
use Rattle.lua_steps.specs.Exec.{perform, line, applied, calls_listed}
use Rattle.lua_steps.specs.Scope.{Scope}
use Rattle.lua_steps.specs.Stand.{At, Want, Count, AsList, AsResult}
use Rattle.lua_follow.specs.Spot.{Form, OnList, Coming, ToSlots, OnLists, ThenSpread, Spot, AfterS, BlockS, WhileLoopS, RepeatLoopS, NumericLoopS, GenericLoopS, CallS, contexts, free, want, form_of, before, lists_of}
use Rattle.lua_follow.specs.Takes.{TakesAll, wanted, Afterwards, FixedCall, ListedCall}
use Rattle.lua_follow.specs.Memory.{Homes, Owners, view, Memory}
use Rattle.lua_follow.specs.Kept.{Round, Scoped, Suits, Comes, floor, cells_in}
use Rattle.lua_follow.specs.Stands.{Awaits, Parked, Below, Beside}
use Rattle.lua_follow.proofs.Frames.{fits_at}
use Rattle.lua_follow.proofs.Comes as come
use Rattle.lua_follow.proofs.Comes.{comes_same, acts, Left, refused_left}
use Rattle.lua_follow.proofs.RowsCall.{enters}
use Rattle.lua_follow.proofs.RowsOperator.{line_is}
use Rattle.lua_follow.proofs.Firm.{Firm}
use Rattle.lua_follow.proofs.Runs.{runs_op}
use Rattle.lua_follow.proofs.Sim.{Sim, Outcome}

-- ---- a call for which a frame waits
module _ (code : Code) (valid : IsValid code) (m0 m : Machine) (s : State) (homes : Homes) (owners : Owners) (ws : List Spot) (fr : Frame) (cb : ℕ) (vs : List Value) (line : Option ℕ)
    (le : fr.base + free ws ≤ cb) (memory : Memory code homes owners m.row m.cells m.closures s.store s.closures (fr.base + floor ws) (fr.base + floor ws)) (parked : Parked code homes owners m.row fr ws)
    (below : Below code homes owners m.row fr.base ws m.below) (beside : Beside m.aside s.aside) (left : s.left ≡ m.left) where
  abbrev leaves : Left code m s
  leaves = record { homes = homes; cells = memory.cells; closures = memory.closures; beside = beside }

  native : (k i j : ℕ) → i ≡ j → come.Comes code (Sim code) m0 (asked j (record { called = value.Native k; args = vs }) (record m { top = fr })) (meaning_calls.asked i (record { called = value.Native k; args = vs }) s (contexts ws))
  native k zero zero e n runs = record { n = n; stop = machine.Budget; to = record m { top = fr }; runs = runs; same = tt; rests = beside.heap }
  native k zero (suc j) e n runs = absurd (omega (arith, e))
  native k (suc i) zero e n runs = absurd (omega (arith, e))
  native k (suc i) (suc j) e n runs =
      record {
        n = n;
        to = record m { top = fr; left = j };
        runs = runs;
        waits = record { ks = ws; is = refl; homes = homes; owners = owners; memory = memory; parked = parked; below = below; beside = beside; left = omega (arith, e) };
      }

  pub calls_comes : (f : Value) → come.Comes code (Sim code) m0 (calls code line f vs cb fr m) (meaning_calls.calls line f vs s (contexts ws))
  calls_comes (value.Func k) = enters code valid m0 m s homes owners line ws fr m.below cb vs le memory parked below beside left line (contexts ws) k
  calls_comes (value.Native k) = native k s.left m.left left
  calls_comes value.Nil = refused_left code (Sim code) m0 m s line (refusal.Call value.Nil) (contexts ws) left leaves
  calls_comes (value.Bool b) = refused_left code (Sim code) m0 m s line (refusal.Call (value.Bool b)) (contexts ws) left leaves
  calls_comes (value.Int i) = refused_left code (Sim code) m0 m s line (refusal.Call (value.Int i)) (contexts ws) left leaves
  calls_comes (value.Text i) = refused_left code (Sim code) m0 m s line (refusal.Call (value.Text i)) (contexts ws) left leaves
  calls_comes (value.Table i) = refused_left code (Sim code) m0 m s line (refusal.Call (value.Table i)) (contexts ws) left leaves
  calls_comes (value.Thread i) = refused_left code (Sim code) m0 m s line (refusal.Call (value.Thread i)) (contexts ws) left leaves
  calls_comes (value.Packed i) = refused_left code (Sim code) m0 m s line (refusal.Call (value.Packed i)) (contexts ws) left leaves

-- ---- the body's own call
pub record Called (code : Code) (homes : Homes) (owners : Owners) (row : List Value) (n : ℕ) (ks : List Spot) (frs : List Frame) : Type 0 where
  pub line : Option ℕ
  pub ws : List Spot
  pub fr : Frame
  pub more : List Frame
  pub frames : frs ≡ fr ∷ more
  pub is : meaning_calls.to_call (contexts ks) ≡ CallK line ∷ contexts ws
  pub le : fr.base + free ws ≤ n
  pub parked : Parked code homes owners row fr ws
  pub below : Below code homes owners row fr.base ws more

module _ (code : Code) (homes : Homes) (owners : Owners) (row : List Value) (n : ℕ) where
  past_one : (k : Spot) (ks : List Spot) (frs : List Frame) → meaning_calls.to_call (contexts (k ∷ ks)) ≡ meaning_calls.to_call (contexts ks) → Called code homes owners row n ks frs → Called code homes owners row n (k ∷ ks) frs
  past_one k ks frs e c =
      record { line = c.line; ws = c.ws; fr = c.fr; more = c.more; frames = c.frames; is = e ∙ c.is; le = c.le; parked = c.parked; below = c.below }

  pub called : (ks : List Spot) (frs : List Frame) → Round ks → Below code homes owners row n ks frs → Called code homes owners row n ks frs
  called [] frs round h = absurd round
  called (CallS line ∷ ks) [] round h = absurd h
  called (CallS line ∷ ks) (fr ∷ frs) round h =
      record { line = line; ws = ks; fr = fr; more = frs; frames = refl; is = refl; le = h.0; parked = h.1; below = h.2 }
  called (BlockS rest env sc ∷ ks) frs round h = past_one (BlockS rest env sc) ks frs refl (called ks frs round h)
  called (WhileLoopS e body rest env sc c ∷ ks) frs round h = past_one (WhileLoopS e body rest env sc c) ks frs refl (called ks frs round h)
  called (RepeatLoopS body e rest env sc x y ∷ ks) frs round h = past_one (RepeatLoopS body e rest env sc x y) ks frs refl (called ks frs round h)
  called (NumericLoopS i at step x body rest env sc pay p ∷ ks) frs round h = past_one (NumericLoopS i at step x body rest env sc pay p) ks frs refl (called ks frs round h)
  called (GenericLoopS f state control xs body line rest env sc r pay x l ∷ ks) frs round h =
      past_one (GenericLoopS f state control xs body line rest env sc r pay x l) ks frs refl (called ks frs round h)
  called (k ∷ ks) frs round h = absurd round

-- ---- the frame that waits for the results
module _ (code : Code) (valid : IsValid code) (m : Machine) (s : State) (ks : List Spot) (f : Value) (at : ℕ) (ss : Suffixes) (how : Wanted) (env : Env) (sc : Scope) (vs : List Value)
    (h : Firm code m s ks) (suits : Suits how ks) (scoped : Scoped h.homes h.owners (view m.top) sc env (floor ks) (cells_in ks)) where
  abbrev d : ℕ
  d = free ks

  abbrev R : ℕ → Type 0
  R = Afterwards code m.top.function sc ss d (want ks) (TakesAll code m.top.function ks)

  abbrev popped : Machine
  popped = with_lists (lists_of ks) m

  parks_slots : (n : ℕ) → Comes (ToSlots n) (wanted ss (want ks)) → R (m.top.at + 1) → d + n ≤ h.room.routine.shape.slots → (ls : List (List Value)) → ls ≡ lists_of ks
      → Parked code h.homes h.owners m.row (waiting (InSlots d n) (record m.top { lists = ls })) (AfterS ss how env sc (ToSlots n) ∷ ks)
  parks_slots n comes takes fit ls lists =
      record {
        takes = takes;
        awaits = (refl, refl, (let a = h.room.slots in omega (arith, a, fit)), le_refl d);
        first = refl;
        kept = (comes, suits, scoped, h.kept);
        lists = lists;
        room = h.room;
      }
    where
      le_refl : (i : ℕ) → i ≤ i
      le_refl i = omega arith

  parks_top : (c : Coming) → form_of (AfterS ss how env sc c ∷ ks) ≡ OnList d → before (AfterS ss how env sc c ∷ ks) ≡ [] → lists_of (AfterS ss how env sc c ∷ ks) ≡ lists_of ks → Comes c (wanted ss (want ks))
      → TakesAll code m.top.function (AfterS ss how env sc c ∷ ks) (m.top.at + 1) → (ls : List (List Value)) → ls ≡ lists_of ks
      → Parked code h.homes h.owners m.row (waiting OnTop (record m.top { lists = ls })) (AfterS ss how env sc c ∷ ks)
  parks_top c form first none comes takes ls lists =
      record { takes = takes; awaits = subst (λ x. Top x) (sym form) tt; first = first; kept = (comes, suits, scoped, h.kept); lists = lists ∙ sym none; room = h.room }
    where
      Top : Form → Type 0
      Top x = Awaits m.top.base (length m.row) (free (AfterS ss how env sc c ∷ ks)) OnTop x

  -- the row of an operation that calls
  abbrev Call-row : Type 0
  Call-row = s.left ≡ m.left → Outcome code (Sim code) m (meaning_calls.calls (Some at) f vs s (AfterK ss how env ∷ contexts ks))

  call_with : (o : Op) (c : Coming) (ls : List (List Value)) (fr : Frame) (cb : ℕ) → At code m.top.function m.top.at o → perform code o m ≡ calls code (Some at) f vs cb fr (with_lists ls m) → fr.base ≡ m.top.base → m.top.base + d ≤ cb
      → Parked code h.homes h.owners m.row fr (AfterS ss how env sc c ∷ ks) → Call-row
  call_with o c ls fr cb is does same le parked left =
      calls_comes code valid m (with_lists ls m) s h.homes h.owners (AfterS ss how env sc c ∷ ks) fr cb vs (Some at) (omega (arith, same, le))
      (subst (λ b. Memory code h.homes h.owners m.row m.cells m.closures s.store s.closures (b + floor ks) (b + floor ks)) (sym same) h.memory) parked
      (subst (λ b. Below code h.homes h.owners m.row b ks m.below) (sym same) h.below) h.beside left f 1 (runs_op code m o _ is does)

  -- ---- arguments in slots
  abbrev Args-are : ℕ → Type 0
  Args-are k = values_from m.row (m.top.base + (d + 1)) k ≡ vs

  pub fixed_call : (w : Want) → wanted ss (want ks) ≡ w → (w ≡ AsResult → ⊥) → slot m d ≡ f → (mm : ℕ) → ((k : ℕ) → mm ≡ d + 1 + k → Args-are k) → m.top.lists ≡ lists_of ks → FixedCall code m.top.function d at w R m.top.at mm → Call-row
  fixed_call (Count n) e ne function mm args lists (k, many, is, takes) left =
      let fit = fits_at code (view m.top) m.row h.room m.top.at (op.Call d k n) valid is.0 in
      call_with (op.Call d k n) (ToSlots n) m.top.lists (waiting (InSlots d n) m.top) (m.top.base + d + 1) is.0
      (ap (λ l. calls code (Some l) (slot m d) (slots_from m (d + 1) k) (m.top.base + d + 1) (waiting (InSlots d n) m.top) m) (line_is code m at is.1)
      ∙ ap (λ g. calls code (Some at) g (slots_from m (d + 1) k) (m.top.base + d + 1) (waiting (InSlots d n) m.top) m) function
      ∙ ap (λ us. calls code (Some at) f us (m.top.base + d + 1) (waiting (InSlots d n) m.top) m) (args k many)) refl (omega arith)
      (parks_slots n (subst (λ x. Comes (ToSlots n) x) (sym e) refl) takes fit.1 m.top.lists lists) left
  fixed_call AsList e ne function mm args lists (k, many, is, takes) left =
      call_with (op.CallAll d k) OnLists m.top.lists (waiting OnTop m.top) (m.top.base + d + 1) is.0
      (ap (λ l. calls code (Some l) (slot m d) (slots_from m (d + 1) k) (m.top.base + d + 1) (waiting OnTop m.top) m) (line_is code m at is.1)
      ∙ ap (λ g. calls code (Some at) g (slots_from m (d + 1) k) (m.top.base + d + 1) (waiting OnTop m.top) m) function
      ∙ ap (λ us. calls code (Some at) f us (m.top.base + d + 1) (waiting OnTop m.top) m) (args k many)) refl (omega arith)
      (parks_top OnLists refl refl refl (subst (λ x. Comes OnLists x) (sym e) tt) takes m.top.lists lists) left
  fixed_call AsResult e ne function mm args lists c left = absurd (ne refl)

  -- ---- arguments in a list
  pub listed_call : (w : Want) → wanted ss (want ks) ≡ w → (w ≡ AsResult → ⊥) → m.top.lists ≡ (f ∷ vs) ∷ lists_of ks → ListedCall code m.top.function d at w R m.top.at → Call-row
  listed_call (Count n) e ne lists (is, spread, takes) left =
      call_with (op.CallList d) (ThenSpread n) (lists_of ks) (waiting OnTop (with_lists (lists_of ks) m).top) (m.top.base + d) is.0
      (ap (λ ls. on_list ls (λ l more. applied l (λ g us. calls_listed code (Some (line code m)) g us (m.top.base + d) (with_lists more m)))) lists
      ∙ ap (λ l. calls code (Some l) f vs (m.top.base + d) (waiting OnTop (with_lists (lists_of ks) m).top) (with_lists (lists_of ks) m)) (line_is code m at is.1)) refl (omega arith)
      (parks_top (ThenSpread n) refl refl refl (subst (λ x. Comes (ThenSpread n) x) (sym e) refl) (spread, subst R there takes) (lists_of ks) refl) left
    where
      there : m.top.at + 2 ≡ m.top.at + 1 + 1
      there = omega arith
  listed_call AsList e ne lists (is, takes) left =
      call_with (op.CallList d) OnLists (lists_of ks) (waiting OnTop (with_lists (lists_of ks) m).top) (m.top.base + d) is.0
      (ap (λ ls. on_list ls (λ l more. applied l (λ g us. calls_listed code (Some (line code m)) g us (m.top.base + d) (with_lists more m)))) lists
      ∙ ap (λ l. calls code (Some l) f vs (m.top.base + d) (waiting OnTop (with_lists (lists_of ks) m).top) (with_lists (lists_of ks) m)) (line_is code m at is.1)) refl (omega arith)
      (parks_top OnLists refl refl refl (subst (λ x. Comes OnLists x) (sym e) tt) takes (lists_of ks) refl) left
  listed_call AsResult e ne lists c left = absurd (ne refl)
