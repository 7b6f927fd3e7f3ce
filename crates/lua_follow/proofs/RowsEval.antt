-- Expressions.
use Rattle.std.proofs.Common.{◌≡◌, ℕ, ◌+◌, ◌≤◌, inl, inr, List, [], ◌∷◌, Option, Some, None, refl, sym, ap, ◌∙◌, arith}
use Rattle.std.specs.Prelude.{true, false, ℤ}
use Rattle.lua_tree.specs.Source as source
use Rattle.lua_tree.specs.Source.{Text, Exp, Suffixes, Operands}
use Rattle.lua_tree.specs.declared.tree.UnaryOp.{UnaryOp}
use Rattle.lua_value.specs.declared.value.Value.{Value}
use Rattle.lua_value.specs.declared.value.Value.TheVariants as value
use Rattle.lua_value.specs.Lists.{value_at, first, adjusted}
use Rattle.lua_model.specs.Heap as model
use Rattle.lua_code.specs.declared.op.Op.{Op}
use Rattle.lua_code.specs.declared.op.Op.TheVariants as op
use Rattle.lua_code.specs.Valid.{IsValid, Fits}
use Rattle.lua_meaning.specs.State as meaning
use Rattle.lua_meaning.specs.State.{Env, Focus, Eval, Gives, State, Step, Next, Context, Values}
use Rattle.lua_meaning.specs.Moves.{location_of}
use Rattle.lua_meaning.specs.Values.{at_location, unary_of}
use Rattle.lua_meaning.specs.Reduce.{reduce}
use Rattle.lua_steps.specs.declared.scope.Place.{Place}
use Rattle.lua_steps.specs.declared.scope.Place.TheVariants.{InSlot, InCell, InUp, Hidden}
use Rattle.lua_steps.specs.Machine as machine
use Rattle.lua_steps.specs.Machine.{Code, Machine, Frame, Went, On}
use Rattle.lua_steps.specs.Moves.{gives, next, with_slots}
use Rattle.lua_steps.specs.Exec.{perform, constant_value, cell_of}
use Rattle.lua_steps.specs.Scope.{Scope, place_of}
use Rattle.lua_steps.specs.Stand.{At, Target, Into, Anywhere, Decided, Shown, Reg, Imm, Holds, Fails, register, IsThere, WhereDecided, WhereInSlot, IsGet}
use Rattle.lua_steps.specs.Serves.{IsExp}
use Rattle.lua_follow.specs.Spot.{Spot, UnaryS, ChainS, SuffixS, CutS, contexts, free, target}
use Rattle.lua_follow.specs.Takes.{Takes}
use Rattle.lua_follow.specs.Memory.{view}
use Rattle.lua_follow.specs.Kept.{Shows, Under, Scoped, floor, cells_in}
use Rattle.lua_follow.specs.Stands.{Beside, Stands, ahead}
use Rattle.lua_follow.proofs.Keep.{floor_free}
use Rattle.lua_follow.proofs.Places.{found, Found}
use Rattle.lua_follow.proofs.Frames.{fits_at, slot_in}
use Rattle.lua_follow.proofs.Gives.{Steady, steady_beside, reg_stands, gives_row, shown_row, there_decided, there_anywhere}
use Rattle.lua_follow.proofs.Runs.{runs_op}
use Rattle.lua_follow.proofs.Sim.{Row, Sim, quiet, standing}

-- ---- going into a part
pub eval_stands : (code : Code) (m : Machine) (s : State) (ks : List Spot) (e : Exp) (env : Env) (sc : Scope) → (h : Steady code m s ks) → IsExp code m.top.function sc e m.top.at (free ks) (target ks) (Takes code m.top.function ks)
    → Scoped h.homes h.owners (view m.top) sc env (floor ks) (cells_in ks) → Stands code m (record s { focus = Eval e env; ks = contexts ks }) ks 0
eval_stands code m s ks e env sc h is scoped =
    record {
      homes = h.homes;
      owners = h.owners;
      here = (refl, sc, is, scoped, h.lists, h.memory);
      kept = h.kept;
      below = h.below;
      room = h.room;
      beside = h.beside;
    }

pub eval_row : (code : Code) (m : Machine) (s : State) (F : Focus) (K : List Context) (ks : List Spot) (e : Exp) (env : Env) (r : Step) → Stands code m (record s { focus = Eval e env; ks = contexts ks }) ks 0
    → r ≡ Next (record s { focus = Eval e env; ks = contexts ks }) → Row code (Sim code) m (record s { focus = F; ks = K }) 0 r
eval_row code m s F K ks e env r h is =
    quiet code (Sim code) m m (record s { focus = F; ks = K }) (record s { focus = Eval e env; ks = contexts ks }) 0 0 r refl refl (λ lt. refl) is refl (standing code m _ 0 ks refl h)

-- ---- the rows
module _ (code : Code) (valid : IsValid code) (m : Machine) (s : State) (ks : List Spot) (env : Env) (sc : Scope) (h : Steady code m s ks) (scoped : Scoped h.homes h.owners (view m.top) sc env (floor ks) (cells_in ks)) where
  abbrev r : ℕ
  r = register (target ks) (free ks)

  abbrev Code-for : Exp → Type 0
  Code-for e = IsExp code m.top.function sc e m.top.at (free ks) (target ks) (Takes code m.top.function ks)

  abbrev Row-for : Exp → Type 0
  Row-for e = Row code (Sim code) m (record s { focus = Eval e env; ks = contexts ks }) 0 (reduce (record s { focus = Eval e env; ks = contexts ks }))

  made : (e : Exp) (o : Op) (v : Value) → At code m.top.function m.top.at o → perform code o m ≡ gives r v m → (Fits code h.room.routine m.top.at o → r + 1 ≤ h.room.routine.shape.slots)
      → Takes code m.top.function ks (m.top.at + 1) (Reg r) → reduce (record s { focus = Eval e env; ks = contexts ks }) ≡ Next (record s { focus = Gives v; ks = contexts ks }) → Row-for e
  made e o v at does slots takes is =
      gives_row code m s (Eval e env) (contexts ks) ks o v _ h at does (slot_in code (view m.top) m.row h.room r (slots (fits_at code (view m.top) m.row h.room m.top.at o valid at))) takes is

  decided : (e : Exp) (p : Shown) (v : Value) → WhereDecided (target ks) (Takes code m.top.function ks m.top.at p) → Shows (view m.top) m.row p v → Under (free ks + 1) p → ahead p ≡ 0
      → reduce (record s { focus = Eval e env; ks = contexts ks }) ≡ Next (record s { focus = Gives v; ks = contexts ks }) → Row-for e
  decided e p v where_it shows under none is =
      let t = there_decided (target ks) (Takes code m.top.function ks m.top.at p) p where_it in
      shown_row code m s (Eval e env) (contexts ks) ks p v _ h t.1 shows t.0 under none is

  pub nil_row : Code-for source.Nil → Row-for source.Nil
  nil_row (inl c) = made source.Nil (op.Nil r) value.Nil c.0 refl (λ f. f.0) c.1 refl
  nil_row (inr c) = decided source.Nil Fails value.Nil c refl tt refl refl

  pub false_row : Code-for source.False → Row-for source.False
  false_row (inl c) = made source.False (op.Bool r false) (value.Bool false) c.0 refl (λ f. f.0) c.1 refl
  false_row (inr c) = decided source.False Fails (value.Bool false) c refl tt refl refl

  pub true_row : Code-for source.True → Row-for source.True
  true_row (inl c) = made source.True (op.Bool r true) (value.Bool true) c.0 refl (λ f. f.0) c.1 refl
  true_row (inr c) = decided source.True (Holds 0) (value.Bool true) c refl tt refl refl

  pub int_row : (n : ℤ) → Code-for (source.Int n) → Row-for (source.Int n)
  int_row n (inl (inl at, takes)) = made (source.Int n) (op.Int r n) (value.Int n) at refl (λ f. f.0) takes refl
  int_row n (inl (inr c, takes)) =
      made (source.Int n) (op.Constant r c.0) (value.Int n) c.1 (ap (λ x. constant_value x r m) c.2) (λ f. f.0) takes refl
  int_row n (inr c) =
      let t = there_anywhere (target ks) (Takes code m.top.function ks m.top.at (Imm n)) (Imm n) tt c in
      shown_row code m s (Eval (source.Int n) env) (contexts ks) ks (Imm n) (value.Int n) _ h t.1 refl t.0 tt refl refl

  pub text_row : (bytes : Text) → Code-for (source.Str bytes) → Row-for (source.Str bytes)
  text_row bytes c =
      let a : machine.Aside = record m.aside { heap = model.holding bytes m.aside.heap } in
      let b : meaning.Aside = record s.aside { heap = model.holding bytes s.aside.heap } in
      let beside : Beside a b = record { name = h.beside.name; heap = ap (λ x. model.holding bytes x) h.beside.heap; alone = h.beside.alone; lone = h.beside.lone } in
      let v : Value = model.text_value bytes s.aside.heap in
      let does : perform code (op.Constant r c.0) m ≡ gives r v (record m { aside = a }) =
      ap (λ x. constant_value x r m) c.2 ∙ ap (λ x. gives r (model.text_value bytes x) (record m { aside = a })) h.beside.heap in
      let f = fits_at code (view m.top) m.row h.room m.top.at (op.Constant r c.0) valid c.1 in
      quiet code (Sim code) m _ (record s { focus = Eval (source.Str bytes) env; ks = contexts ks }) (record s { focus = Gives v; ks = contexts ks; aside = b }) 0 1 _
      (runs_op code m (op.Constant r c.0) _ c.1 does) refl (λ lt. absurd (omega arith)) refl refl
      (standing code _ _ 0 ks refl
      (reg_stands code (record m { aside = a }) (record s { aside = b }) ks (m.top.at + 1) r v refl (slot_in code (view m.top) m.row h.room r f.0)
      (steady_beside code m s ks a b m.left s.left beside h) c.3))

  adjusted_one : (vs : List Value) → adjusted 1 vs ≡ first vs ∷ []
  adjusted_one [] = refl
  adjusted_one (v ∷ vs) = refl

  pub dots_row : Code-for source.Dots → Row-for source.Dots
  dots_row c =
      made source.Dots (op.DotsTo r 1) (first env.dots) c.0
      (ap (λ vs. next (with_slots r vs m)) (adjusted_one m.top.dots ∙ ap (λ x. first x ∷ []) (sym scoped.sees.dots))) (λ f. f.0) c.1 refl

  -- the slot of a local in scope has its value
  slot_value : (x : Text) (q : ℕ) → (f : Found h.homes h.owners (view m.top) sc.free sc.cells env.locals x (InSlot q)) → value_at m.row (m.top.base + q) ≡ value_at s.store f.location
  slot_value x q f =
      let low = scoped.slots_in in
      h.memory.rows.same (m.top.base + q) f.location (omega (arith, f.has.0, low)) (λ e. omega (arith, f.has.0, low, e)) f.has.1

  name_is : (x : Text) (l : ℕ) → location_of env.locals x ≡ Some l → reduce (record s { focus = Eval (source.Name x) env; ks = contexts ks }) ≡ Next (record s { focus = Gives (value_at s.store l); ks = contexts ks })
  name_is x l e = ap (λ o. at_location s.store o (record s { focus = Eval (source.Name x) env; ks = contexts ks }) (contexts ks)) e

  get_row : (x : Text) (o : Option Place) → place_of sc.names x ≡ o → IsGet code m.top.function m.top.at r o → Takes code m.top.function ks (m.top.at + 1) (Reg r) → Row-for (source.Name x)
  get_row x None e get takes = absurd get
  get_row x (Some (InSlot q)) e get takes =
      let f = found h.homes h.owners (view m.top) sc.free sc.cells sc.names env.locals x (InSlot q) scoped.sees.names e in
      made (source.Name x) (op.Move r q) (value_at s.store f.location) get (ap (λ v. gives r v m) (slot_value x q f)) (λ f. f.0) takes (name_is x f.location f.is)
  get_row x (Some (InCell c)) e get takes =
      let f = found h.homes h.owners (view m.top) sc.free sc.cells sc.names env.locals x (InCell c) scoped.sees.names e in
      made (source.Name x) (op.GetCell r c) (value_at s.store f.location) get (ap (λ v. gives r v m) (h.memory.cells.same f.location (cell_of m.top.cells c) f.has.1)) (λ f. f.0) takes
      (name_is x f.location f.is)
  get_row x (Some (InUp u)) e get takes =
      let f = found h.homes h.owners (view m.top) sc.free sc.cells sc.names env.locals x (InUp u) scoped.sees.names e in
      made (source.Name x) (op.GetUp r u) (value_at s.store f.location) get (ap (λ v. gives r v m) (h.memory.cells.same f.location (cell_of m.top.ups u) f.has)) (λ f. f.0) takes
      (name_is x f.location f.is)
  get_row x (Some Hidden) e get takes = absurd get

  place_row : (x : Text) (o : Option Place) → place_of sc.names x ≡ o → WhereInSlot o (λ q. Takes code m.top.function ks m.top.at (Reg q)) → ((q : ℕ) → IsThere (target ks) (Reg q)) → Row-for (source.Name x)
  place_row x None e c there = absurd c
  place_row x (Some (InSlot q)) e c there =
      let f = found h.homes h.owners (view m.top) sc.free sc.cells sc.names env.locals x (InSlot q) scoped.sees.names e in
      let low = scoped.slots_in in
      let high = floor_free code h.homes h.owners (view m.top) m.row ks h.kept in
      shown_row code m s (Eval (source.Name x) env) (contexts ks) ks (Reg q) (value_at s.store f.location) _ h c (slot_value x q f) (there q) (omega (arith, f.has.0, low, high)) refl (name_is x f.location f.is)
  place_row x (Some (InCell i)) e c there = absurd c
  place_row x (Some (InUp u)) e c there = absurd c
  place_row x (Some Hidden) e c there = absurd c

  pub name_row : (x : Text) → Code-for (source.Name x) → Row-for (source.Name x)
  name_row x (inl c) = get_row x (place_of sc.names x) refl c.0 c.1
  name_row x (inr c) =
      let P = WhereInSlot (place_of sc.names x) (λ q. Takes code m.top.function ks m.top.at (Reg q)) in
      place_row x (place_of sc.names x) refl ((there_anywhere (target ks) P (Reg 0) tt c).1) (λ q. (there_anywhere (target ks) P (Reg q) tt c).0)

  -- ---- parts
  into : (k : List Spot) (e whole : Exp) → (g : Steady code m s k) → IsExp code m.top.function sc e m.top.at (free k) (target k) (Takes code m.top.function k) → Scoped g.homes g.owners (view m.top) sc env (floor k) (cells_in k)
      → reduce (record s { focus = Eval whole env; ks = contexts ks }) ≡ Next (record s { focus = Eval e env; ks = contexts k }) → Row-for whole
  into k e whole g c sees is = eval_row code m s (Eval whole env) (contexts ks) k e env _ (eval_stands code m s k e env sc g c sees) is

  pub paren_row : (e : Exp) → Code-for (source.Paren e) → Row-for (source.Paren e)
  paren_row e c = into ks e (source.Paren e) h c scoped refl

  pub suffixed_row : (e : Exp) (ss : Suffixes) → Code-for (source.Suffixed e ss) → Row-for (source.Suffixed e ss)
  suffixed_row e ss c =
      into (SuffixS ss Values env sc ∷ CutS ∷ ks) e (source.Suffixed e ss)
      (record { homes = h.homes; owners = h.owners; memory = h.memory; kept = (tt, scoped, (c.0, h.kept)); below = h.below; room = h.room; lists = h.lists; beside = h.beside }) c.1 scoped refl

  in_unary : (u : UnaryOp) (line : ℕ) (e : Exp) (how : Target) → register how (free ks) ≡ free ks → IsExp code m.top.function sc e m.top.at (free ks) how (Takes code m.top.function (UnaryS (unary_of u) line how ∷ ks)) → Row-for (source.Unary u line e)
  in_unary u line e how same c =
      into (UnaryS (unary_of u) line how ∷ ks) e (source.Unary u line e)
      (record { homes = h.homes; owners = h.owners; memory = h.memory; kept = (same, h.kept); below = h.below; room = h.room; lists = h.lists; beside = h.beside }) c scoped refl

  pub unary_row : (u : UnaryOp) (line : ℕ) (e : Exp) → Code-for (source.Unary u line e) → Row-for (source.Unary u line e)
  unary_row u line e (inl c) = in_unary u line e Anywhere refl c
  unary_row u line e (inr c) = in_unary u line e Decided refl ((there_decided (target ks) _ Fails c).1)

  in_chain : (e : Exp) (os : Operands) (how : Target) → register how (free ks) ≡ free ks → IsExp code m.top.function sc e m.top.at (free ks) how (Takes code m.top.function (ChainS os env sc how ∷ ks)) → Row-for (source.Chain e os)
  in_chain e os how same c =
      into (ChainS os env sc how ∷ ks) e (source.Chain e os)
      (record { homes = h.homes; owners = h.owners; memory = h.memory; kept = (same, scoped, h.kept); below = h.below; room = h.room; lists = h.lists; beside = h.beside }) c scoped refl

  pub chain_row : (e : Exp) (os : Operands) → Code-for (source.Chain e os) → Row-for (source.Chain e os)
  chain_row e os (inl c) = in_chain e os Anywhere refl c
  chain_row e os (inr (inl c)) = in_chain e os (Into (free ks)) refl c
  chain_row e os (inr (inr c)) = in_chain e os Decided refl ((there_decided (target ks) _ Fails c).1)
