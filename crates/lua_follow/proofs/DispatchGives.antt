-- One value for the first context, whichever it is.
use Rattle.std.proofs.Common.{◌≡◌, ℕ, ◌+◌, List, [], ◌∷◌, sym, ap, ◌∙◌, subst, arith}
use Rattle.lua_tree.specs.Source.{Operands, Suffixes}
use Rattle.lua_model.specs.declared.operator.Binary.{Binary}
use Rattle.lua_model.specs.declared.operator.Unary.{Unary}
use Rattle.lua_value.specs.declared.value.Value.{Value}
use Rattle.lua_value.specs.Lists.{value_at}
use Rattle.lua_code.specs.Valid.{IsValid}
use Rattle.lua_meaning.specs.State.{Env, Wanted, Gives, State}
use Rattle.lua_meaning.specs.Reduce.{reduce}
use Rattle.lua_steps.specs.Machine.{Code, Machine}
use Rattle.lua_steps.specs.Scope.{Scope}
use Rattle.lua_steps.specs.Stand.{Target, Shown}
use Rattle.lua_follow.specs.Spot.{Spot, UnaryS, ChainS, OperandS, SuffixS, OneS, ItemS, IfS, WhileS, UntilS, ForS, contexts, free}
use Rattle.lua_follow.specs.Memory.{view}
use Rattle.lua_follow.specs.Kept.{Shows}
use Rattle.lua_follow.specs.Stands.{Stands, ahead}
use Rattle.lua_follow.proofs.Gives.{Steady}
use Rattle.lua_follow.proofs.Keep.{floor_free}
use Rattle.lua_follow.proofs.RowsOperator.{unary_gives}
use Rattle.lua_follow.proofs.RowsChain.{chain_gives}
use Rattle.lua_follow.proofs.RowsOperand.{operand_gives}
use Rattle.lua_follow.proofs.RowsAfter.{suffix_gives}
use Rattle.lua_follow.proofs.RowsOne.{gives_steady, one_gives, item_gives}
use Rattle.lua_follow.proofs.RowsSpread.{asks_of}
use Rattle.lua_follow.proofs.Branching.{if_gives}
use Rattle.lua_follow.proofs.LoopsWhile.{while_gives}
use Rattle.lua_follow.proofs.LoopsRepeat.{until_gives}
use Rattle.lua_follow.proofs.LoopsStages.{for_gives}
use Rattle.lua_follow.proofs.Sim.{Row, Sim}

module _ (code : Code) (valid : IsValid code) (m : Machine) (s : State) (v : Value) (k : ℕ) where
  abbrev Given : List Spot → State
  Given ks = record s { focus = Gives v; ks = contexts ks }

  abbrev Here-at : List Spot → Type 0
  Here-at ks = Stands code m (Given ks) ks k

  abbrev Row-at : List Spot → Type 0
  Row-at ks = Row code (Sim code) m (Given ks) k (reduce (Given ks))

  of_unary : (op : Unary) (line : ℕ) (how : Target) (ks : List Spot) → Here-at (UnaryS op line how ∷ ks) → Row-at (UnaryS op line how ∷ ks)
  of_unary op line how ks h =
      let low = floor_free code h.homes h.owners (view m.top) m.row ks h.kept.1 in
      let g = gives_steady code m s (UnaryS op line how ∷ ks) v k h (omega (arith, low, h.kept.0)) in
      let S = Given (UnaryS op line how ∷ ks) in
      let t : Steady code m S ks = record { homes = g.homes; owners = g.owners; memory = g.memory; kept = g.kept.1; below = g.below; room = g.room; lists = g.lists; beside = g.beside } in
      subst (λ i. Row code (Sim code) m S i (reduce S)) (sym h.here.5) (unary_gives code valid m S ks t op h.here.0 line v h.here.1 h.here.2 h.here.4)

  of_chain : (os : Operands) (env : Env) (sc : Scope) (how : Target) (ks : List Spot) → Here-at (ChainS os env sc how ∷ ks) → Row-at (ChainS os env sc how ∷ ks)
  of_chain os env sc how ks h =
      let g = gives_steady code m s (ChainS os env sc how ∷ ks) v k h (floor_free code h.homes h.owners (view m.top) m.row ks h.kept.2) in
      let S = Given (ChainS os env sc how ∷ ks) in
      let t : Steady code m S ks = record { homes = g.homes; owners = g.owners; memory = g.memory; kept = g.kept.2; below = g.below; room = g.room; lists = g.lists; beside = g.beside } in
      subst (λ i. Row code (Sim code) m S i (reduce S)) (sym h.here.5) (chain_gives code valid m S ks t env sc g.kept.1 os h.here.0 v h.here.1 h.here.2 h.here.4)

  of_operand : (op : Binary) (line : ℕ) (u : Value) (os : Operands) (env : Env) (sc : Scope) (p : Shown) (ks : List Spot) → Here-at (OperandS op line u os env sc p ∷ ks) → Row-at (OperandS op line u os env sc p ∷ ks)
  of_operand op line u os env sc p ks h =
      let low = floor_free code h.homes h.owners (view m.top) m.row ks h.kept.3 in
      let g = gives_steady code m s (OperandS op line u os env sc p ∷ ks) v k h (omega arith) in
      let S = Given (OperandS op line u os env sc p ∷ ks) in
      let t : Steady code m S ks = record { homes = g.homes; owners = g.owners; memory = g.memory; kept = g.kept.3; below = g.below; room = g.room; lists = g.lists; beside = g.beside } in
      subst (λ i. Row code (Sim code) m S i (reduce S)) (sym h.here.5) (operand_gives code valid m S ks t env sc g.kept.2 op line u v os p h.here.0 h.kept.0 h.here.2 h.here.1)

  of_suffix : (ss : Suffixes) (how : Wanted) (env : Env) (sc : Scope) (ks : List Spot) → Here-at (SuffixS ss how env sc ∷ ks) → Row-at (SuffixS ss how env sc ∷ ks)
  of_suffix ss how env sc ks h =
      let g = gives_steady code m s (SuffixS ss how env sc ∷ ks) v k h (floor_free code h.homes h.owners (view m.top) m.row ks h.kept.2) in
      let S = Given (SuffixS ss how env sc ∷ ks) in
      let stands : value_at m.row (m.top.base + free ks) ≡ v = subst (λ q. Shows (view m.top) m.row q v) h.here.3 h.here.2 in
      subst (λ i. Row code (Sim code) m S i (reduce S)) (sym (h.here.5 ∙ ap ahead h.here.3)) (suffix_gives code valid m s how env sc v ss ks g stands h.here.1)

  pub gives_row : (ks : List Spot) → Here-at ks → Row-at ks
  gives_row (UnaryS op line how ∷ ks) h = of_unary op line how ks h
  gives_row (ChainS os env sc how ∷ ks) h = of_chain os env sc how ks h
  gives_row (OperandS op line u os env sc p ∷ ks) h = of_operand op line u os env sc p ks h
  gives_row (SuffixS ss how env sc ∷ ks) h = of_suffix ss how env sc ks h
  gives_row (OneS ∷ ks) h = one_gives code m s ks v k h
  gives_row (ItemS e es env us sc form ∷ ks) h = item_gives code valid m s ks v e es env us sc (asks_of (view m.top) m.row ks form us h.kept.0) form k h
  gives_row (IfS p others rest env sc ∷ ks) h = if_gives code m (Given (IfS p others rest env sc ∷ ks)) ks rest env sc p others v k h
  gives_row (WhileS e body rest env sc c ∷ ks) h = while_gives code m (Given (WhileS e body rest env sc c ∷ ks)) ks e body rest env sc c v k h
  gives_row (UntilS body e rest env sc d q j b ∷ ks) h = until_gives code m (Given (UntilS body e rest env sc d q j b ∷ ks)) ks body e rest env sc d q j b v k h
  gives_row (ForS stage x body line rest env sc ∷ ks) h = for_gives code valid m (Given (ForS stage x body line rest env sc ∷ ks)) ks x body line rest env sc stage v k h
  gives_row [] h = absurd h.here.1
  gives_row (t ∷ ks) h = absurd h.here.1
