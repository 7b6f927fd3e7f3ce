-- A list for the first context, whichever it is.
use Rattle.std.proofs.Common.{ℕ, ◌⊎◌, inl, inr, List, [], ◌∷◌, sym, subst}
use Rattle.lua_value.specs.declared.value.Value.{Value}
use Rattle.lua_code.specs.Valid.{IsValid}
use Rattle.lua_meaning.specs.State.{Lists, State}
use Rattle.lua_meaning.specs.Reduce.{reduce}
use Rattle.lua_steps.specs.Machine.{Code, Machine}
use Rattle.lua_follow.specs.Spot.{Spot, CutS, SpreadS, ArgsS, AfterS, LocalS, AssignS, DropS, ReturnS, GenericS, TurnS, BeginS, contexts}
use Rattle.lua_follow.specs.Stands.{Stands}
use Rattle.lua_follow.proofs.RowsAfter.{after_row, cut_row}
use Rattle.lua_follow.proofs.RowsSpread.{spread_row}
use Rattle.lua_follow.proofs.RowsTail.{args_row}
use Rattle.lua_follow.proofs.RowsLocal.{local_row, drop_row, assign_row}
use Rattle.lua_follow.proofs.RowsReturn.{return_row, bottom_row, begin_row}
use Rattle.lua_follow.proofs.LoopsGeneric.{generic_lists, turn_lists}
use Rattle.lua_follow.proofs.Sim.{Row, Sim}

none_of : {A B C : Type 0} → A ⊎ B ⊎ C → (A → ⊥) → (B → ⊥) → (C → ⊥) → ⊥
none_of (inl a) f g h = f a
none_of (inr (inl b)) f g h = g b
none_of (inr (inr c)) f g h = h c

module _ (code : Code) (valid : IsValid code) (m : Machine) (s : State) (vs : List Value) where
  abbrev Listed : List Spot → State
  Listed ks = record s { focus = Lists vs; ks = contexts ks }

  abbrev Here-at : List Spot → ℕ → Type 0
  Here-at ks k = Stands code m (Listed ks) ks k

  abbrev Row-at : List Spot → ℕ → Type 0
  Row-at ks k = Row code (Sim code) m (Listed ks) k (reduce (Listed ks))

  by_spot : (ks : List Spot) → Here-at ks 0 → Row-at ks 0
  by_spot [] h = bottom_row code m s vs h
  by_spot (CutS ∷ ks) h = cut_row code m s ks vs h
  by_spot (SpreadS us form ∷ ks) h = spread_row code valid m s ks us vs form h
  by_spot (ArgsS f line ss how env sc listed ∷ ks) h = args_row code valid m s f line env sc vs ks ss how listed h
  by_spot (AfterS ss how env sc come ∷ ks) h = after_row code valid m s ks how env sc vs ss come h
  by_spot (LocalS xs rest env sc listed ∷ ks) h = local_row code valid m s ks xs rest env sc vs listed h
  by_spot (AssignS xs rest env sc form ∷ ks) h = assign_row code valid m s ks rest env sc vs xs form h
  by_spot (DropS rest env sc alone ∷ ks) h = drop_row code m s ks rest env sc vs alone h
  by_spot (ReturnS sc form ∷ ks) h = return_row code m s sc ks vs form h
  by_spot (GenericS xs body line rest env sc listed ∷ ks) h = generic_lists code valid ks xs body line rest env sc m (Listed (GenericS xs body line rest env sc listed ∷ ks)) vs listed h
  by_spot (TurnS f state xs body line rest env sc r pay b l ∷ ks) h = turn_lists code valid ks xs body line rest env sc m (Listed (TurnS f state xs body line rest env sc r pay b l ∷ ks)) f state vs r pay b l h
  by_spot (BeginS f ∷ ks) h = begin_row code valid m s f vs ks h
  by_spot (k ∷ ks) h = absurd (none_of h.here.1 (λ c. c.3) (λ c. c.1) (λ c. c.0))

  pub lists_row : (ks : List Spot) (k : ℕ) → Here-at ks k → Row-at ks k
  lists_row ks k h = subst (λ i. Row-at ks i) (sym h.here.0) (by_spot ks (subst (λ i. Here-at ks i) h.here.0 h))
