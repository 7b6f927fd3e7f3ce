-- What the code at a place serves: the contexts that wait there, each by the rest of the code of its term (`lua_steps`). It is this
-- project's own.
use Rattle.std.specs.Prelude.{◌≡◌, ℕ, suc, ◌+◌, ◌-◌, ◌≤◌, ◌⊎◌, true, false, List, [], ◌∷◌, length, pos}
use Rattle.lua_tree.specs.Source.{Text, Block, MoreExps, Suffixes, NoSuffix, MoreSuffixes}
use Rattle.lua_code.specs.declared.op.Op.TheVariants as op
use Rattle.lua_steps.specs.Machine.{Code}
use Rattle.lua_steps.specs.Scope.{Scope, place_of, past}
use Rattle.lua_steps.specs.Stand.{At, AtLine, AtSome, Leads, Ticks, IsNils, Into, Anywhere, Decided, Shown, Reg, Holds, Fails, WhereDecided, OfReg, Branch, IsPut, IsDeclares, IsInt, IsBinary, test_op, IsUnary, so_far, Want, Count, AsList, AsResult, from_slots, from_items, IsNumeric, IsGeneric, IsWrites, WhereOne}
use Rattle.lua_steps.specs.Serves.{IsExp, IsOperands, IsSuffixes, IsFixed, IsValues, IsList, IsBlock, IsElse, following}
use Rattle.lua_follow.specs.Spot.{Exactly, Filled, OnList, Alone, ToSlots, OnLists, ThenSpread, ThenReturn, Stage, First, Limit, FirstOf, LimitOf, StepOf, Spot, UnaryS, ChainS, OperandS, SuffixS, CutS, OneS, ItemS, SpreadS, ArgsS, AfterS, IfS, WhileS, UntilS, ForS, LocalS, AssignS, DropS, ReturnS, GenericS, TurnS, BeginS, BlockS, WhileLoopS, RepeatLoopS, NumericLoopS, GenericLoopS, CallS, free, target, want}

-- ---- calls
-- what is wanted of a call that these suffixes follow
abbrev pub wanted : Suffixes → Want → Want
wanted NoSuffix w = w
wanted (MoreSuffixes x ss) w = Count 1

-- what comes after a call
abbrev pub Afterwards : Code → ℕ → Scope → Suffixes → ℕ → Want → (ℕ → Type 0) → ℕ → Type 0
Afterwards code f sc NoSuffix d w R a = R a
Afterwards code f sc (MoreSuffixes x ss) d w R a = IsSuffixes code f sc (MoreSuffixes x ss) a d w R

-- a call whose arguments are in the slots up to m
abbrev pub FixedCall : Code → ℕ → ℕ → ℕ → Want → (ℕ → Type 0) → ℕ → ℕ → Type 0
FixedCall code f d line (Count n) R b m = (k : ℕ) × (m ≡ d + 1 + k) × AtLine code f b (op.Call d k n) line × R (b + 1)
FixedCall code f d line AsList R b m = (k : ℕ) × (m ≡ d + 1 + k) × AtLine code f b (op.CallAll d k) line × R (b + 1)
FixedCall code f d line AsResult R b m = (k : ℕ) × (m ≡ d + 1 + k) × AtLine code f b (op.TailCall d k) line × At code f (b + 1) op.ReturnList

-- a call of the list on top
abbrev pub ListedCall : Code → ℕ → ℕ → ℕ → Want → (ℕ → Type 0) → ℕ → Type 0
ListedCall code f d line (Count n) R b = AtLine code f b (op.CallList d) line × At code f (b + 1) (op.Spread d n) × R (b + 2)
ListedCall code f d line AsList R b = AtLine code f b (op.CallList d) line × R (b + 1)
ListedCall code f d line AsResult R b = AtLine code f b (op.TailCallList d) line × At code f (b + 1) op.ReturnList

-- ---- loops
abbrev pub Turns : Code → ℕ → Block → (ℕ → Type 0) → Scope → ℕ → ℕ → (ℕ → Type 0) → Type 0
Turns code f body out inner n s end = IsBlock code f inner body n s (λ z. Leads code f z out) (λ _ z. end z)

abbrev pub Counts : Code → ℕ → Scope → Text → Block → ℕ → (ℕ → Type 0) → ℕ → Type 0
Counts code f sc x body line out p = IsNumeric code f sc x line p (Turns code f body out) out

abbrev pub Numbers : Code → ℕ → Scope → Text → Block → ℕ → (ℕ → Type 0) → Stage → ℕ → Type 0
Numbers code f sc x body line out (First limit) c =
    IsExp code f sc limit c (sc.free + 1) (Into (sc.free + 1)) (λ h q. IsInt code f h (sc.free + 2) (pos 1) × Counts code f sc x body line out (h + 1))
Numbers code f sc x body line out (Limit u) h = IsInt code f h (sc.free + 2) (pos 1) × Counts code f sc x body line out (h + 1)
Numbers code f sc x body line out (FirstOf limit step) c =
    IsExp code f sc limit c (sc.free + 1) (Into (sc.free + 1)) (λ h q.
    IsExp code f sc step h (sc.free + 2) (Into (sc.free + 2)) (λ i r. Counts code f sc x body line out i))
Numbers code f sc x body line out (LimitOf u step) h = IsExp code f sc step h (sc.free + 2) (Into (sc.free + 2)) (λ i r. Counts code f sc x body line out i)
Numbers code f sc x body line out (StepOf u v) i = Counts code f sc x body line out i

-- the iterator is called at l, and a turn begins at s
abbrev pub Iterates : Code → ℕ → Scope → List Text → Block → ℕ → (ℕ → Type 0) → ℕ → ℕ → ℕ → ℕ → Type 0
Iterates code f sc xs body line out l r pay s =
    (length xs ≤ r) × (1 ≤ r) × AtLine code f l (op.ForCall sc.free r) line × At code f (l + 1) (op.ForEach (suc pay) sc.free s)
    × IsDeclares code f (past 3 sc) xs s (λ inner j. Turns code f body out inner pay j (λ y. Leads code f y (λ z. z ≡ l)))
    × Leads code f (l + 2) out

-- ---- contexts
abbrev mutual
  -- a value is shown as p at place a
  pub Takes : Code → ℕ → List Spot → ℕ → Shown → Type 0
  Takes code f (UnaryS o line how ∷ ks) a p = IsUnary code f a o (target ks) (free ks) p line (Takes code f ks)
  Takes code f (ChainS os env sc how ∷ ks) a p = IsOperands code f sc os a (free ks) p (target ks) (Takes code f ks)
  Takes code f (OperandS u line v os env sc p ∷ ks) b q =
      (IsBinary code f b u (so_far os (target ks) (free ks)) p q line × IsOperands code f sc os (b + 1) (free ks) (Reg (so_far os (target ks) (free ks))) (target ks) (Takes code f ks))
      ⊎ WhereDecided (target ks) ((pay z : ℕ) × AtSome code f b (test_op u p q pay z) line
      × Leads code f (b + 1) (λ j. IsOperands code f sc os j (free ks) (Holds pay) (target ks) (Takes code f ks))
      × Leads code f z (λ j. IsOperands code f sc os j (free ks) Fails (target ks) (Takes code f ks)))
  Takes code f (SuffixS ss how env sc ∷ ks) a p = IsSuffixes code f sc ss a (free ks) (want ks) (TakesAll code f ks)
  Takes code f (OneS ∷ ks) a p = TakesOne code f ks a p
  Takes code f (ItemS e es env us sc (Exactly r) ∷ ks) a p = IsFixed code f sc (MoreExps e es) a (r + 1) (TakesUpTo code f ks)
  Takes code f (ItemS e es env us sc (Filled r n) ∷ ks) a p = IsValues code f sc (MoreExps e es) (n - 1) a (following n r) (TakesAll code f ks)
  Takes code f (ItemS e es env us sc (OnList d) ∷ ks) a p = OfReg p (λ x. At code f a (op.Push x) × IsList code f sc (MoreExps e es) (a + 1) d (TakesAll code f ks))
  Takes code f (IfS p others rest env sc ∷ ks) h q =
      Branch code f h q
      (λ n j. IsBlock code f sc p n j (Exits code f ks) (λ end z. Leads code f z (λ y. IsBlock code f sc rest 0 y (Exits code f ks) (Ends code f ks))))
      (λ z. IsElse code f sc others z (Exits code f ks) (λ next b. IsBlock code f next rest 0 b (Exits code f ks) (Ends code f ks)))
  Takes code f (WhileS e body rest env sc c ∷ ks) h q =
      Branch code f h q
      (λ n j. Ticks code f n j (λ m s. IsBlock code f sc body m s (λ z. Leads code f z (λ y. IsBlock code f sc rest 0 y (Exits code f ks) (Ends code f ks))) (λ end z. Leads code f z (λ y. y ≡ c))))
      (λ z. Leads code f z (λ y. IsBlock code f sc rest 0 y (Exits code f ks) (Ends code f ks)))
  Takes code f (UntilS body e rest env sc d c m s ∷ ks) h q =
      Branch code f h q
      (λ i j. (i ≡ 0) × Leads code f j (λ y. IsBlock code f sc rest 0 y (Exits code f ks) (Ends code f ks)))
      (λ z. Ticks code f 0 z (λ i j. (i ≡ m) × (j ≡ s)))
  Takes code f (ForS stage x body line rest env sc ∷ ks) c q =
      Numbers code f sc x body line (λ y. IsBlock code f sc rest 0 y (Exits code f ks) (Ends code f ks)) stage c
  Takes code f _ a p = ⊥

  -- a list of this one value
  pub TakesOne : Code → ℕ → List Spot → ℕ → Shown → Type 0
  TakesOne code f (SpreadS us (Exactly r) ∷ ks) a p = TakesUpTo code f ks a (r + 1)
  TakesOne code f (SpreadS us (Filled r n) ∷ ks) a p = IsNils code f (r + 1) (n - 1) a (TakesAll code f ks)
  TakesOne code f (SpreadS us (OnList d) ∷ ks) a p = OfReg p (λ x. At code f a (op.Push x) × TakesAll code f ks (a + 1))
  TakesOne code f (SpreadS us (Alone t d) ∷ ks) a p = TakesOne code f ks a p
  TakesOne code f (AssignS xs rest env sc (Alone (Into s) d) ∷ ks) a p = IsBlock code f sc rest 0 a (Exits code f ks) (Ends code f ks)
  TakesOne code f (AssignS xs rest env sc (Alone Anywhere d) ∷ ks) a p =
      WhereOne xs (λ x. OfReg p (λ r. IsPut code f a r (place_of sc.names x) × IsBlock code f sc rest 0 (a + 1) (Exits code f ks) (Ends code f ks)))
  TakesOne code f (DropS rest env sc true ∷ ks) a p = IsBlock code f sc rest 0 a (Exits code f ks) (Ends code f ks)
  TakesOne code f (ReturnS sc (Alone Anywhere d) ∷ ks) a p = OfReg p (λ r. At code f a (op.Return r 1))
  TakesOne code f _ a p = ⊥

  -- a list in the slots up to m
  pub TakesUpTo : Code → ℕ → List Spot → ℕ → ℕ → Type 0
  TakesUpTo code f (ArgsS v line ss how env sc false ∷ ks) b m =
      FixedCall code f (free ks) line (wanted ss (want ks)) (Afterwards code f sc ss (free ks) (want ks) (TakesAll code f ks)) b m
  TakesUpTo code f (ReturnS sc (Exactly r) ∷ ks) b m = (n : ℕ) × (m ≡ sc.free + n) × At code f b (op.Return sc.free n)
  TakesUpTo code f _ b m = ⊥

  -- a list in the form in which it comes
  pub TakesAll : Code → ℕ → List Spot → ℕ → Type 0
  TakesAll code f [] a = At code f a op.ReturnList
  TakesAll code f (CutS ∷ ks) a = Takes code f ks a (Reg (free ks))
  TakesAll code f (SpreadS us (Filled r n) ∷ ks) a = TakesAll code f ks a
  TakesAll code f (SpreadS us (OnList d) ∷ ks) a = At code f a op.Append × TakesAll code f ks (a + 1)
  TakesAll code f (ArgsS v line ss how env sc true ∷ ks) a =
      ListedCall code f (free ks) line (wanted ss (want ks)) (Afterwards code f sc ss (free ks) (want ks) (TakesAll code f ks)) a
  TakesAll code f (AfterS ss how env sc (ToSlots n) ∷ ks) a = Afterwards code f sc ss (free ks) (want ks) (TakesAll code f ks) a
  TakesAll code f (AfterS ss how env sc OnLists ∷ ks) a = Afterwards code f sc ss (free ks) (want ks) (TakesAll code f ks) a
  TakesAll code f (AfterS ss how env sc (ThenSpread n) ∷ ks) a =
      At code f a (op.Spread (free ks) n) × Afterwards code f sc ss (free ks) (want ks) (TakesAll code f ks) (a + 1)
  TakesAll code f (AfterS ss how env sc ThenReturn ∷ ks) a = At code f a op.ReturnList
  TakesAll code f (LocalS xs rest env sc false ∷ ks) a = IsDeclares code f sc xs a (λ next b. IsBlock code f next rest 0 b (Exits code f ks) (Ends code f ks))
  TakesAll code f (LocalS xs rest env sc true ∷ ks) a =
      At code f a (op.Spread sc.free (length xs)) × IsDeclares code f sc xs (a + 1) (λ next b. IsBlock code f next rest 0 b (Exits code f ks) (Ends code f ks))
  TakesAll code f (AssignS xs rest env sc (Filled r n) ∷ ks) a =
      IsWrites code f sc (from_slots xs sc.free []) a (λ z. IsBlock code f sc rest 0 z (Exits code f ks) (Ends code f ks))
  TakesAll code f (AssignS xs rest env sc (OnList d) ∷ ks) a =
      IsWrites code f sc (from_items xs 0 []) a (λ z. At code f z (op.Spread sc.free 0) × IsBlock code f sc rest 0 (z + 1) (Exits code f ks) (Ends code f ks))
  TakesAll code f (DropS rest env sc false ∷ ks) a = IsBlock code f sc rest 0 a (Exits code f ks) (Ends code f ks)
  TakesAll code f (ReturnS sc (OnList d) ∷ ks) a = At code f a op.ReturnList
  TakesAll code f (GenericS xs body line rest env sc false ∷ ks) a =
      IsGeneric code f sc xs line a (Turns code f body (λ y. IsBlock code f sc rest 0 y (Exits code f ks) (Ends code f ks))) (λ y. IsBlock code f sc rest 0 y (Exits code f ks) (Ends code f ks))
  TakesAll code f (GenericS xs body line rest env sc true ∷ ks) a =
      At code f a (op.Spread sc.free 3)
      × IsGeneric code f sc xs line (a + 1) (Turns code f body (λ y. IsBlock code f sc rest 0 y (Exits code f ks) (Ends code f ks))) (λ y. IsBlock code f sc rest 0 y (Exits code f ks) (Ends code f ks))
  TakesAll code f (TurnS g state xs body line rest env sc r pay s l ∷ ks) a =
      (a ≡ l + 1) × Iterates code f sc xs body line (λ y. IsBlock code f sc rest 0 y (Exits code f ks) (Ends code f ks)) l r pay s
  TakesAll code f (BeginS v ∷ ks) a = At code f a op.Append × At code f (a + 1) op.Start × At code f (a + 2) op.ReturnList
  TakesAll code f _ a = ⊥

  -- a block has ended in this scope
  pub Ends : Code → ℕ → List Spot → Scope → ℕ → Type 0
  Ends code f (BlockS rest env sc ∷ ks) end z = Leads code f z (λ y. IsBlock code f sc rest 0 y (Exits code f ks) (Ends code f ks))
  Ends code f (WhileLoopS e body rest env sc c ∷ ks) end z = Leads code f z (λ y. y ≡ c)
  Ends code f (RepeatLoopS body e rest env sc m s ∷ ks) end z =
      IsExp code f end e z end.free Decided (λ h q. Branch code f h q
      (λ i j. (i ≡ 0) × Leads code f j (λ y. IsBlock code f sc rest 0 y (Exits code f ks) (Ends code f ks)))
      (λ y. Ticks code f 0 y (λ i j. (i ≡ m) × (j ≡ s))))
  Ends code f (NumericLoopS n at step x body rest env sc pay p ∷ ks) end z =
      Leads code f z (λ l. At code f l (op.ForLoop (suc pay) sc.free (p + 1)) × Leads code f (l + 1) (λ y. IsBlock code f sc rest 0 y (Exits code f ks) (Ends code f ks)))
  Ends code f (GenericLoopS g state control xs body line rest env sc r pay s l ∷ ks) end z = Leads code f z (λ y. y ≡ l)
  Ends code f (CallS line ∷ ks) end z = Leads code f z (λ y. (i : ℕ) × At code f y (op.Return i 0))
  Ends code f _ end z = ⊥

  -- a break leaves the innermost loop
  pub Exits : Code → ℕ → List Spot → ℕ → Type 0
  Exits code f (BlockS rest env sc ∷ ks) z = Exits code f ks z
  Exits code f (WhileLoopS e body rest env sc c ∷ ks) z = Leads code f z (λ y. IsBlock code f sc rest 0 y (Exits code f ks) (Ends code f ks))
  Exits code f (RepeatLoopS body e rest env sc m s ∷ ks) z = Leads code f z (λ y. IsBlock code f sc rest 0 y (Exits code f ks) (Ends code f ks))
  Exits code f (NumericLoopS n at step x body rest env sc pay p ∷ ks) z = Leads code f z (λ y. IsBlock code f sc rest 0 y (Exits code f ks) (Ends code f ks))
  Exits code f (GenericLoopS g state control xs body line rest env sc r pay s l ∷ ks) z = Leads code f z (λ y. IsBlock code f sc rest 0 y (Exits code f ks) (Ends code f ks))
  Exits code f _ z = ⊥
