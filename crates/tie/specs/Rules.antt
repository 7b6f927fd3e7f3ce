-- The rule of the tie, over the views of all seats, and what each step does to a view.
--
-- A seat stands for the root, for the master of an agent, for a whole pair of an agent and a place, or for one half of a pair.
use Rattle.std.specs.Prelude.{◌≡◌, ◌≢◌, ℕ, List, [], ◌∷◌, ◌++◌, Bool, true, false}
use mathlib.Core.Option.{some}
use lib.ListN.{get_elem?}
use Rattle.atomic_table.specs.Table.{Me, Step}
use Rattle.atomic_table.specs.Seated.{TableId}
use Rattle.tie.specs.declared.view.View.{View}
use Rattle.tie.specs.declared.view.View.TheVariants.{Root, Master, Whole, Half, Spent}

-- x stands at some place of xs
abbrev pub Has : List ℕ → ℕ → Type 0
Has xs x = (k : ℕ) × (get_elem? xs k ≡ some x)

-- What one seat's view says of another's: no two masters have one agent, and the root lists each agent; a master lists each place of its pairs;
-- of a pair there is one whole seat, or there are the two halves, with one list.
abbrev pub Fits : {E : Type 0} → View E → View E → Type 0
Fits (Root gs q) (Root bs r) = ⊥
Fits (Root gs q) (Master b ps r) = Has gs b
Fits (Root gs q) (Whole b p xs ys) = Has gs b
Fits (Root gs q) (Half b p t xs) = Has gs b
Fits (Root gs q) Spent = Unit {0}
Fits (Master a ps q) (Root bs r) = Unit {0}
Fits (Master a ps q) (Master b qs r) = a ≢ b
Fits (Master a ps q) (Whole b p xs ys) = a ≡ b → Has ps p
Fits (Master a ps q) (Half b p t xs) = a ≡ b → Has ps p
Fits (Master a ps q) Spent = Unit {0}
Fits (Whole a p xs ys) (Root bs r) = Unit {0}
Fits (Whole a p xs ys) (Master b qs r) = Unit {0}
Fits (Whole a p xs ys) (Whole b q zs ws) = a ≡ b → p ≢ q
Fits (Whole a p xs ys) (Half b q t zs) = a ≡ b → p ≢ q
Fits (Whole a p xs ys) Spent = Unit {0}
Fits (Half a p s xs) (Root bs r) = Unit {0}
Fits (Half a p s xs) (Master b qs r) = Unit {0}
Fits (Half a p s xs) (Whole b q zs ws) = a ≡ b → p ≢ q
Fits (Half a p s xs) (Half b q t ys) = a ≡ b → p ≡ q → (s ≢ t) × (xs ≡ ys)
Fits (Half a p s xs) Spent = Unit {0}
Fits Spent v = Unit {0}

-- the two lists of a whole pair are one
abbrev pub Same : {E : Type 0} → View E → Type 0
Same (Root gs q) = Unit {0}
Same (Master a ps q) = Unit {0}
Same (Whole a p xs ys) = xs ≡ ys
Same (Half a p s xs) = Unit {0}
Same Spent = Unit {0}

-- the rule, of all seats
pub record Kept {E : Type 0} (views : List (View E)) : Type 0 where
  pub same : (i : ℕ) (u : View E) → get_elem? views i ≡ some u → Same u
  pub fits : (i j : ℕ) (u v : View E) → i ≢ j → get_elem? views i ≡ some u → get_elem? views j ≡ some v → Fits u v

-- the number is noted
abbrev pub noted : {E : Type 0} → ℕ → View E → View E
noted n (Root gs q) = Root gs n
noted n (Master a ps q) = Master a ps n
noted n (Whole a p xs ys) = Whole a p xs ys
noted n (Half a p s xs) = Half a p s xs
noted n Spent = Spent

-- the number that was noted is listed
abbrev pub listed : {E : Type 0} → View E → View E
listed (Root gs q) = Root (gs ++ q ∷ []) q
listed (Master a ps q) = Master a (ps ++ q ∷ []) q
listed (Whole a p xs ys) = Whole a p xs ys
listed (Half a p s xs) = Half a p s xs
listed Spent = Spent

abbrev pub asked_master : {E : Type 0} → View E → View E
asked_master (Root gs q) = Master q [] 0
asked_master (Master a ps q) = Spent
asked_master (Whole a p xs ys) = Spent
asked_master (Half a p s xs) = Spent
asked_master Spent = Spent

abbrev pub asked_pair : {E : Type 0} → View E → View E
asked_pair (Root gs q) = Spent
asked_pair (Master a ps q) = Whole a q [] []
asked_pair (Whole a p xs ys) = Spent
asked_pair (Half a p s xs) = Spent
asked_pair Spent = Spent

abbrev pub first_half : {E : Type 0} → View E → View E
first_half (Root gs q) = Root gs q
first_half (Master a ps q) = Master a ps q
first_half (Whole a p xs ys) = Half a p false xs
first_half (Half a p s xs) = Half a p s xs
first_half Spent = Spent

abbrev pub second_half : {E : Type 0} → View E → View E
second_half (Root gs q) = Spent
second_half (Master a ps q) = Spent
second_half (Whole a p xs ys) = Half a p true xs
second_half (Half a p s xs) = Spent
second_half Spent = Spent

abbrev pub list_of : {E : Type 0} → View E → List E
list_of (Root gs q) = []
list_of (Master a ps q) = []
list_of (Whole a p xs ys) = xs
list_of (Half a p s xs) = xs
list_of Spent = []

abbrev pub joined : {E : Type 0} → View E → View E → View E
joined (Root gs q) w = Root gs q
joined (Master a ps q) w = Master a ps q
joined (Whole a p xs ys) w = Whole a p xs ys
joined (Half a p s xs) w = Whole a p xs (list_of w)
joined Spent w = Spent

abbrev pub with_entry : {E : Type 0} → E → View E → View E
with_entry e (Root gs q) = Root gs q
with_entry e (Master a ps q) = Master a ps q
with_entry e (Whole a p xs ys) = Whole a p (xs ++ e ∷ []) (ys ++ e ∷ [])
with_entry e (Half a p s xs) = Half a p s xs
with_entry e Spent = Spent

abbrev pub Asked : {E : Type 0} → Step E → Me E (View E) → ℕ → Me E (View E) → Type 0
Asked s v n w = w ≡ (noted s.first v.0, v.1)

abbrev pub Read : {E : Type 0} → Step E → Me E (View E) → ℕ → Me E (View E) → Type 0
Read s v n w = (w ≡ v) × Same v.0

abbrev pub Added : {E : Type 0} → Step E → Me E (View E) → ℕ → Me E (View E) → Type 0
Added {E} s v n w = (e : E) × (s.said ≡ some e) × (w ≡ (with_entry e v.0, v.1)) × Same v.0

-- what contracts see of a half: its table, its pair, whether it is the place's, and the entries that it knows
pub record Piece (E : Type 0) : Type 0 where
  pub table : TableId
  pub agent : ℕ
  pub place : ℕ
  pub side : Bool
  pub entries : List E

abbrev pub agent_of : {E : Type 0} → List (View E) → ℕ
agent_of [] = 0
agent_of (Root gs q ∷ vs) = 0
agent_of (Master a ps q ∷ vs) = a
agent_of (Whole a p xs ys ∷ vs) = a
agent_of (Half a p s xs ∷ vs) = a
agent_of (Spent ∷ vs) = 0

abbrev pub place_of : {E : Type 0} → List (View E) → ℕ
place_of [] = 0
place_of (Root gs q ∷ vs) = 0
place_of (Master a ps q ∷ vs) = 0
place_of (Whole a p xs ys ∷ vs) = p
place_of (Half a p s xs ∷ vs) = p
place_of (Spent ∷ vs) = 0

abbrev pub side_of : {E : Type 0} → List (View E) → Bool
side_of [] = false
side_of (Root gs q ∷ vs) = false
side_of (Master a ps q ∷ vs) = false
side_of (Whole a p xs ys ∷ vs) = false
side_of (Half a p s xs ∷ vs) = s
side_of (Spent ∷ vs) = false

abbrev pub entries_of : {E : Type 0} → List (View E) → List E
entries_of [] = []
entries_of (v ∷ vs) = list_of v

-- the numbers that a root or a master has listed
abbrev pub listed_of : {E : Type 0} → List (View E) → List ℕ
listed_of [] = []
listed_of (Root gs q ∷ vs) = gs
listed_of (Master a ps q ∷ vs) = ps
listed_of (Whole a p xs ys ∷ vs) = []
listed_of (Half a p s xs ∷ vs) = []
listed_of (Spent ∷ vs) = []

abbrev pub asked_of : {E : Type 0} → List (View E) → ℕ
asked_of [] = 0
asked_of (Root gs q ∷ vs) = q
asked_of (Master a ps q ∷ vs) = q
asked_of (Whole a p xs ys ∷ vs) = 0
asked_of (Half a p s xs ∷ vs) = 0
asked_of (Spent ∷ vs) = 0

-- what contracts see of a root: its table, and the agents that have a master
pub record Rooted : Type 0 where
  pub table : TableId
  pub agents : List ℕ

-- what contracts see of a master: its table, its agent, and the places that it was paired with
pub record Mastered : Type 0 where
  pub table : TableId
  pub agent : ℕ
  pub places : List ℕ

-- the agent's half and the place's half of one pair
abbrev pub IsPair : {E : Type 0} → Piece E → Piece E → Type 0
IsPair h k = (h.table ≡ k.table) × (h.agent ≡ k.agent) × (h.place ≡ k.place) × (h.side ≡ false) × (k.side ≡ true)
