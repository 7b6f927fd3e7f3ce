-- Waiting frames are kept where nothing changes below the running one; and what valid code says of slots.
use Rattle.std.proofs.Common.{◌≡◌, ℕ, ◌+◌, ◌<◌, ◌≤◌, List, [], ◌∷◌, length, Some, refl, sym, ap, ◌∙◌, arith}
use Rattle.std.specs.Prelude.{slice_get}
use Rattle.lua_value.specs.declared.value.Value.{Value}
use Rattle.lua_value.specs.Lists.{value_at}
use Rattle.lua_code.specs.declared.op.Op.{Op}
use Rattle.lua_code.specs.Valid.{Fits, IsValid}
use Rattle.lua_steps.specs.Machine.{Code, Frame, Wanted, InSlots, OnTop}
use Rattle.lua_steps.specs.Exec.{ops_of}
use Rattle.lua_steps.specs.Stand.{At}
use Rattle.lua_follow.specs.Spot.{Home, Form, Exactly, Filled, OnList, Alone, Spot, BeginS, CallS, free, form_of}
use Rattle.lua_follow.specs.Memory.{Homes, Owners, View, view}
use Rattle.lua_follow.specs.Kept.{Kept, cells_in}
use Rattle.lua_follow.specs.Stands.{Room, RoomFor, Awaits, Parked, Below}
use Rattle.lua_follow.proofs.Keep.{Agrees, kept_map}

-- below a place of the row nothing changes
pub record Grows (homes more : Homes) (owners others : Owners) (row line : List Value) (n : ℕ) : Type 0 where
  pub homes_stay : (l : ℕ) (h : Home) → slice_get homes l ≡ Some h → slice_get more l ≡ Some h
  pub owners_stay : (p : ℕ) → p < n → others p ≡ owners p
  pub row_stays : (p : ℕ) → p < n → value_at line p ≡ value_at row p
  pub longer : length row ≤ length line

pub grows_less : (homes more : Homes) (owners others : Owners) (row line : List Value) (n k : ℕ) → k ≤ n → Grows homes more owners others row line n → Grows homes more owners others row line k
grows_less homes more owners others row line n k le g =
    record { homes_stay = g.homes_stay; owners_stay = λ p lt. g.owners_stay p (omega arith); row_stays = λ p lt. g.row_stays p (omega arith); longer = g.longer }

pub room_longer : (code : Code) (fr : View) (row line : List Value) → length row ≤ length line → Room code fr row → Room code fr line
room_longer code fr row line le h = record { routine = h.routine; is = h.is; slots = (let a = h.slots in omega (arith, a)); cells = h.cells }

pub room_for_longer : (code : Code) (fr : View) (row line : List Value) (ks : List Spot) → length row ≤ length line → RoomFor code fr row ks → RoomFor code fr line ks
room_for_longer code fr row line [] le h = tt
room_for_longer code fr row line (BeginS f ∷ ks) le h = tt
room_for_longer code fr row line (_ ∷ ks) le h = room_longer code fr row line le h

pub agrees_in : (homes more : Homes) (owners others : Owners) (row line : List Value) (n c : ℕ) (fr : View) (N : ℕ) → fr.base + N ≤ n → Grows homes more owners others row line n
    → Agrees homes more owners others fr fr.boxes row line N c
agrees_in homes more owners others row line n c fr N le g =
    record {
      homes_stay = g.homes_stay;
      owners_stay = λ s lt. g.owners_stay (fr.base + s) (omega arith);
      row_stays = λ s lt. g.row_stays (fr.base + s) (omega arith);
      cells_stay = λ i lt. refl;
    }

le_refl : (n : ℕ) → n ≤ n
le_refl n = omega arith

pub kept_grows : (code : Code) (homes more : Homes) (owners others : Owners) (row line : List Value) (n : ℕ) (fr : View) (ks : List Spot) → fr.base + free ks ≤ n → Grows homes more owners others row line n
    → Kept code homes owners fr row ks → Kept code more others fr line ks
kept_grows code homes more owners others row line n fr ks le g h =
    kept_map code homes more owners others fr fr.boxes row line (free ks) (cells_in ks) (agrees_in homes more owners others row line n (cells_in ks) fr (free ks) le g) ks (le_refl (free ks)) (le_refl (cells_in ks)) h

pub awaits_longer : (base a b low : ℕ) (w : Wanted) (f : Form) → a ≤ b → Awaits base a low w f → Awaits base b low w f
awaits_longer base a b low (InSlots to count) (Filled r n) le h = (h.0, h.1, omega (arith, h.2), h.3)
awaits_longer base a b low OnTop (OnList d) le h = tt
awaits_longer base a b low (InSlots to count) (Exactly r) le h = absurd h
awaits_longer base a b low (InSlots to count) (OnList d) le h = absurd h
awaits_longer base a b low (InSlots to count) (Alone t d) le h = absurd h
awaits_longer base a b low OnTop (Exactly r) le h = absurd h
awaits_longer base a b low OnTop (Filled r n) le h = absurd h
awaits_longer base a b low OnTop (Alone t d) le h = absurd h

pub parked_map : (code : Code) (homes more : Homes) (owners others : Owners) (row line : List Value) (n : ℕ) (fr : Frame) (ks : List Spot) → fr.base + free ks ≤ n → Grows homes more owners others row line n
    → Parked code homes owners row fr ks → Parked code more others line fr ks
parked_map code homes more owners others row line n fr ks le g h =
    record {
      takes = h.takes;
      awaits = awaits_longer fr.base (length row) (length line) (free ks) fr.wants (form_of ks) g.longer h.awaits;
      first = h.first;
      kept = kept_grows code homes more owners others row line n (view fr) ks le g h.kept;
      lists = h.lists;
      room = room_for_longer code (view fr) row line ks g.longer h.room;
    }

pub below_map : (code : Code) (homes more : Homes) (owners others : Owners) (row line : List Value) (n : ℕ) (ks : List Spot) (frs : List Frame) → Grows homes more owners others row line n
    → Below code homes owners row n ks frs → Below code more others line n ks frs
below_map code homes more owners others row line n [] [] g h = tt
below_map code homes more owners others row line n [] (fr ∷ frs) g h = absurd h
below_map code homes more owners others row line n (CallS at ∷ ks) [] g h = absurd h
below_map code homes more owners others row line n (CallS at ∷ ks) (fr ∷ frs) g h = (
  h.0,
  parked_map code homes more owners others row line n fr ks h.0 g h.1,
  below_map code homes more owners others row line fr.base ks frs (grows_less homes more owners others row line n fr.base (omega (arith, h.0)) g) h.2,
)
below_map code homes more owners others row line n (k ∷ ks) frs g h = below_map code homes more owners others row line n ks frs g h

-- ---- slots that valid code names
pub fits_at : (code : Code) (fr : View) (row : List Value) (room : Room code fr row) (a : ℕ) (o : Op) → IsValid code → At code fr.function a o → Fits code room.routine a o
fits_at code fr row room a o valid h =
    (valid.functions.each fr.function room.routine room.is).ops.fit a o (ap (λ r. slice_get (ops_of r) a) (sym room.is) ∙ h)

-- such a slot is in the row
pub slot_in : (code : Code) (fr : View) (row : List Value) (room : Room code fr row) (r : ℕ) → r + 1 ≤ room.routine.shape.slots → fr.base + r < length row
slot_in code fr row room r le = let a = room.slots in omega (arith, a)
