-- A value goes to its register, and what contexts keep is kept.
use Rattle.std.proofs.Common.{◌≡◌, ℕ, ◌+◌, ◌<◌, ◌≤◌, ◌⊎◌, inl, inr, List, [], ◌∷◌, Some, None, refl, sym, ap, ◌∙◌, subst, arith}
use Rattle.std.specs.Prelude.{true, false}
use Rattle.lua_tree.specs.Source.{Text}
use Rattle.lua_value.specs.declared.value.Value.{Value}
use Rattle.lua_value.specs.Lists.{value_at}
use Rattle.lua_steps.specs.declared.scope.Place.TheVariants.{InSlot}
use Rattle.lua_steps.specs.Machine.{Code}
use Rattle.lua_steps.specs.Scope.{place_of}
use Rattle.lua_steps.specs.Stand.{Target, Into, Anywhere, Decided, Shown, Reg, register, IsThere, WhereOne}
use Rattle.lua_follow.specs.Spot.{Exactly, Filled, OnList, Alone, ToSlots, OnLists, ThenSpread, ThenReturn, Spot, UnaryS, ChainS, OneS, ItemS, SpreadS, ArgsS, AfterS, ForS, LocalS, AssignS, DropS, ReturnS, GenericS, BlockS, WhileLoopS, RepeatLoopS, NumericLoopS, GenericLoopS, CallS, free, target, asked}
use Rattle.lua_follow.specs.Memory.{Homes, Owners, View}
use Rattle.lua_follow.specs.Kept.{Keeps, Kept, Round}
use Rattle.lua_follow.specs.Stands.{needed}
use Rattle.lua_follow.proofs.Places.{found}

le_refl : (n : ℕ) → n ≤ n
le_refl n = omega arith

-- ---- where only blocks wait, owned slots are free to be written
module _ (code : Code) (homes : Homes) (owners : Owners) (fr : View) (row line : List Value) (same : (r : ℕ) → owners (fr.base + r) ≡ None → value_at line (fr.base + r) ≡ value_at row (fr.base + r)) where
  keeps_round : (r : ℕ) (v : Value) → Keeps owners fr row r v → Keeps owners fr line r v
  keeps_round r v h = (h.0, same r h.0 ∙ h.1)

  pub kept_round : (ks : List Spot) → Round ks → Kept code homes owners fr row ks → Kept code homes owners fr line ks
  kept_round [] round h = absurd round
  kept_round (BlockS rest env sc ∷ ks) round h = (h.0, h.1, kept_round ks round h.2)
  kept_round (WhileLoopS e body rest env sc c ∷ ks) round h = (h.0, h.1, h.2, kept_round ks round h.3)
  kept_round (RepeatLoopS body e rest env sc m s ∷ ks) round h = (h.0, h.1, h.2, kept_round ks round h.3)
  kept_round (NumericLoopS n at step x body rest env sc pay p ∷ ks) round h =
      (h.0, h.1, h.2, keeps_round sc.free _ h.3, keeps_round (sc.free + 1) _ h.4, keeps_round (sc.free + 2) _ h.5, h.6, kept_round ks round h.7)
  kept_round (GenericLoopS f state control xs body line rest env sc r pay s l ∷ ks) round h =
      (h.0, h.1, keeps_round sc.free f h.2, keeps_round (sc.free + 1) state h.3, keeps_round (sc.free + 2) control h.4, h.5, kept_round ks round h.6)
  kept_round (CallS line ∷ ks) round h = tt
  kept_round (k ∷ ks) round h = absurd round

-- ---- registers
pub there_reg : (t : Target) (d : ℕ) → IsThere t (Reg (register t d))
there_reg (Into r) d = refl
there_reg Anywhere d = tt
there_reg Decided d = tt

pub there_needed : (ks : List Spot) → IsThere (needed ks) (Reg (register (target ks) (free ks)))
there_needed [] = tt
there_needed (ChainS os env sc how ∷ ks) = tt
there_needed (k ∷ ks) = there_reg (target (k ∷ ks)) (free (k ∷ ks))

-- a place of the code that shows a value so also serves where it need not be so
pub there_weak : (ks : List Spot) (p : Shown) → IsThere (target ks) p → IsThere (needed ks) p
there_weak [] p h = h
there_weak (ChainS os env sc how ∷ ks) p h = tt
there_weak (k ∷ ks) p h = h

module _ (code : Code) (homes : Homes) (owners : Owners) (fr : View) (row : List Value) where
  pub needed_register : (ks : List Spot) → Kept code homes owners fr row ks → register (needed ks) (free ks) ≡ register (target ks) (free ks)
  needed_register [] h = refl
  needed_register (ChainS os env sc how ∷ ks) h = sym h.0
  needed_register (k ∷ ks) h = refl

  -- the only value that is made in the slot of a local
  pub record Direct (ks : List Spot) (r : ℕ) : Type 0 where
    pub location : ℕ
    pub owner : owners (fr.base + r) ≡ Some location
    pub low : r < free ks
    pub keeps : (line : List Value) → ((q : ℕ) → (q ≡ fr.base + r → ⊥) → value_at line q ≡ value_at row q) → Kept code homes owners fr line ks

  direct_in : (xs : List Text) (us : List Value) (rest : _) (env : _) (sc : _) (s d : ℕ) (ks : List Spot) → Kept code homes owners fr row (SpreadS us (Alone (Into s) d) ∷ AssignS xs rest env sc (Alone (Into s) d) ∷ ks)
      → WhereOne xs (λ x. place_of sc.names x ≡ Some (InSlot s)) → d ≡ sc.free → Direct (OneS ∷ SpreadS us (Alone (Into s) d) ∷ AssignS xs rest env sc (Alone (Into s) d) ∷ ks) s
  direct_in [] us rest env sc s d ks h one e = absurd one
  direct_in (x ∷ y ∷ xs) us rest env sc s d ks h one e = absurd one
  direct_in (x ∷ []) us rest env sc s d ks h one e =
      let f = found homes owners fr sc.free sc.cells sc.names env.locals x (InSlot s) h.2.0.sees.names one in
      record {
        location = f.location;
        owner = f.has.1;
        low = omega (arith, f.has.0, e);
        keeps = λ line same. (
          tt,
          (
            h.0,
            h.1,
            (
              h.2.0,
              h.2.1,
              h.2.2,
              kept_round code homes owners fr row line
                  (λ r none. same (fr.base + r) (λ is. differs r f.location none f.has.1 is)) ks h.2.1 h.2.3,
            ),
          ),
        );
      }
    where
      differs : (r l : ℕ) → owners (fr.base + r) ≡ None → owners (fr.base + s) ≡ Some l → fr.base + r ≡ fr.base + s → ⊥
      differs r l none owner is = let both : owners (fr.base + r) ≡ owners (fr.base + s) = ap owners is in absurd (cc)

  abbrev pub Aimed : List Spot → Type 0
  Aimed ks = (free ks ≡ register (target ks) (free ks)) ⊎ Direct ks (register (target ks) (free ks))

  from_alone : (us : List Value) (t u : Target) (d e : ℕ) (ks : List Spot) → Kept code homes owners fr row (SpreadS us (Alone t d) ∷ ks) → asked ks ≡ Alone u e
      → (t ≡ u) × (d ≡ e) × (us ≡ []) → (Kept code homes owners fr row (SpreadS us (Alone u e) ∷ ks) → Aimed (OneS ∷ SpreadS us (Alone u e) ∷ ks)) → Aimed (OneS ∷ SpreadS us (Alone t d) ∷ ks)
  from_alone us t u d e ks h is same go =
      subst (λ x. Aimed (OneS ∷ SpreadS us (Alone x d) ∷ ks)) (sym same.0)
      (subst (λ i. Aimed (OneS ∷ SpreadS us (Alone u i) ∷ ks)) (sym same.1)
      (go (subst (λ i. Kept code homes owners fr row (SpreadS us (Alone u i) ∷ ks)) same.1 (subst (λ x. Kept code homes owners fr row (SpreadS us (Alone x d) ∷ ks)) same.0 h))))

  aimed_alone : (us : List Value) (t : Target) (d : ℕ) (ks : List Spot) → Kept code homes owners fr row (SpreadS us (Alone t d) ∷ ks) → Aimed (OneS ∷ SpreadS us (Alone t d) ∷ ks)
  aimed_alone us t d (AssignS xs rest env sc (Alone (Into s) e) ∷ ks) h =
      from_alone us t (Into s) d e (AssignS xs rest env sc (Alone (Into s) e) ∷ ks) h refl (h.0.0, h.0.1, h.0.2) (λ g. inr (direct_in xs us rest env sc s e ks g g.2.2.1 g.2.2.0))
  aimed_alone us t d (AssignS xs rest env sc (Alone Anywhere e) ∷ ks) h =
      from_alone us t Anywhere d e (AssignS xs rest env sc (Alone Anywhere e) ∷ ks) h refl (h.0.0, h.0.1, h.0.2) (λ g. inl refl)
  aimed_alone us t d (AssignS xs rest env sc (Alone Decided e) ∷ ks) h = absurd h.2.2
  aimed_alone us t d (AssignS xs rest env sc (Exactly r) ∷ ks) h = absurd h.0
  aimed_alone us t d (AssignS xs rest env sc (Filled r n) ∷ ks) h = absurd h.0
  aimed_alone us t d (AssignS xs rest env sc (OnList e) ∷ ks) h = absurd h.0
  aimed_alone us t d (DropS rest env sc true ∷ ks) h = from_alone us t Anywhere d sc.free (DropS rest env sc true ∷ ks) h refl (h.0.0, h.0.1, h.0.2) (λ g. inl refl)
  aimed_alone us t d (DropS rest env sc false ∷ ks) h = absurd h.0
  aimed_alone us t d (ReturnS sc (Alone Anywhere e) ∷ ks) h =
      from_alone us t Anywhere d e (ReturnS sc (Alone Anywhere e) ∷ ks) h refl (h.0.0, h.0.1, h.0.2) (λ g. inl refl)
  aimed_alone us t d (ReturnS sc (Alone (Into s) e) ∷ ks) h = absurd h.2.3
  aimed_alone us t d (ReturnS sc (Alone Decided e) ∷ ks) h = absurd h.2.3
  aimed_alone us t d (ReturnS sc (Exactly r) ∷ ks) h = absurd h.0
  aimed_alone us t d (ReturnS sc (Filled r n) ∷ ks) h = absurd h.0
  aimed_alone us t d (ReturnS sc (OnList e) ∷ ks) h = absurd h.0
  aimed_alone us t d (ArgsS f line ss how env sc true ∷ ks) h = absurd h.0
  aimed_alone us t d (ArgsS f line ss how env sc false ∷ ks) h = absurd h.0
  aimed_alone us t d (AfterS ss how env sc (ToSlots n) ∷ ks) h = absurd h.0
  aimed_alone us t d (AfterS ss how env sc OnLists ∷ ks) h = absurd h.0
  aimed_alone us t d (AfterS ss how env sc (ThenSpread n) ∷ ks) h = absurd h.0
  aimed_alone us t d (AfterS ss how env sc ThenReturn ∷ ks) h = absurd h.0
  aimed_alone us t d (LocalS xs rest env sc true ∷ ks) h = absurd h.0
  aimed_alone us t d (LocalS xs rest env sc false ∷ ks) h = absurd h.0
  aimed_alone us t d (GenericS xs body line rest env sc true ∷ ks) h = absurd h.0
  aimed_alone us t d (GenericS xs body line rest env sc false ∷ ks) h = absurd h.0
  aimed_alone us t d [] h = absurd h.0
  aimed_alone us t d (SpreadS ws form ∷ ks) h = absurd (h.0.3 h.0.0)
  aimed_alone us t d (k ∷ ks) h = absurd h.0

  pub aimed : (ks : List Spot) → Kept code homes owners fr row ks → Aimed ks
  aimed [] h = inl refl
  aimed (UnaryS op line how ∷ ks) h = inl (sym h.0)
  aimed (ChainS os env sc how ∷ ks) h = inl (sym h.0)
  aimed (OneS ∷ SpreadS us (Exactly r) ∷ ks) h = inl refl
  aimed (OneS ∷ SpreadS us (Filled r n) ∷ ks) h = inl refl
  aimed (OneS ∷ SpreadS us (OnList d) ∷ ks) h = inl refl
  aimed (OneS ∷ SpreadS us (Alone t d) ∷ ks) h = aimed_alone us t d ks h.1
  aimed (OneS ∷ ks) h = inl refl
  aimed (ItemS e es env us sc (Exactly r) ∷ ks) h = inl refl
  aimed (ItemS e es env us sc (Filled r n) ∷ ks) h = inl refl
  aimed (ItemS e es env us sc (OnList d) ∷ ks) h = inl refl
  aimed (ItemS e es env us sc (Alone t d) ∷ ks) h = inl refl
  aimed (ForS stage x body line rest env sc ∷ ks) h = inl refl
  aimed (k ∷ ks) h = inl refl

  low_in : (ks : List Spot) → Aimed ks → register (target ks) (free ks) < free ks + 1
  low_in ks (inl e) = omega (arith, e)
  low_in ks (inr d) = let a = d.low in omega arith

  -- no register is above the first free slot
  pub aimed_low : (ks : List Spot) → Kept code homes owners fr row ks → register (target ks) (free ks) < free ks + 1
  aimed_low ks h = low_in ks (aimed ks h)
