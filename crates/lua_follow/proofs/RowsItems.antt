-- Lists of expressions.
use Rattle.std.proofs.Common.{◌≡◌, ℕ, ◌+◌, ◌≤◌, inl, inr, List, [], ◌∷◌, ◌++◌, length, refl, sym, ap, ◌∙◌, subst, arith}
use Rattle.lua_tree.specs.Source as source
use Rattle.lua_tree.specs.Source.{Exp, Exps, NoExp, MoreExps, Suffixes}
use Rattle.lua_value.specs.declared.value.Value.{Value}
use Rattle.lua_value.specs.Lists.{adjusted}
use Rattle.lua_code.specs.declared.op.Op.TheVariants as op
use Rattle.lua_code.specs.Valid.{IsValid}
use Rattle.lua_meaning.specs.State.{Env, Eval, All, Items, Lists, State, Context, OneK, SuffixK, SpreadK, ItemK, Values}
use Rattle.lua_meaning.specs.Values.{all}
use Rattle.lua_meaning.specs.Moves as meaning_moves
use Rattle.lua_meaning.specs.Reduce.{reduce}
use Rattle.lua_steps.specs.Machine.{Code, Machine}
use Rattle.lua_steps.specs.Moves.{written, values_from}
use Rattle.lua_steps.specs.Scope.{Scope}
use Rattle.lua_steps.specs.Stand.{At, Into}
use Rattle.lua_steps.specs.Serves.{IsOne, IsExp, IsFixed, IsValues, IsMany, IsList, IsAll, IsOnly}
use Rattle.lua_follow.specs.Spot.{Form, Exactly, Filled, OnList, Alone, Spot, SuffixS, OneS, ItemS, SpreadS, contexts, free, target, free_in, asked, form_of, before, list_in, lists_of}
use Rattle.lua_follow.specs.Takes.{Takes, TakesOne, TakesUpTo, TakesAll}
use Rattle.lua_follow.specs.Memory.{view}
use Rattle.lua_follow.specs.Kept.{Partly, Scoped, Suits, floor, cells_in}
use Rattle.lua_follow.specs.Stands.{Stands, Came, CameUpTo}
use Rattle.lua_follow.proofs.Lists.{length_written, written_same, written_other, length_adjusted}
use Rattle.lua_follow.proofs.Frames.{fits_at, slot_in}
use Rattle.lua_follow.proofs.Gives.{Steady}
use Rattle.lua_follow.proofs.Nils.{nilled}
use Rattle.lua_follow.proofs.Firm.{Firm, shifted, firm_row, firm_at, whole_stands, exact_stands, exact_came, filled_came, listed_came, append_none}
use Rattle.lua_follow.proofs.Runs.{runs_op}
use Rattle.lua_follow.proofs.RowsEval.{eval_stands}
use Rattle.lua_follow.proofs.Sim.{Row, Near, Sim, quiet, near}

-- code for the rest of a list, whose values so far have come in this form
abbrev pub IsItems : Code → ℕ → Scope → Exps → Form → ℕ → List Spot → Type 0
IsItems code f sc es (Exactly r) a ks = IsFixed code f sc es a r (TakesUpTo code f ks)
IsItems code f sc es (Filled r n) a ks = IsValues code f sc es n a r (TakesAll code f ks)
IsItems code f sc es (OnList d) a ks = IsList code f sc es a d (TakesAll code f ks)
IsItems code f sc es (Alone t d) a ks = IsOnly code f sc es a d t (TakesOne code f ks)

pub all_one : (e : Exp) (env : Env) (s : State) (K : List Context) → IsOne e → all e env s K ≡ meaning_moves.goes s (Eval e env) (OneK ∷ K)
all_one source.Dots env s K h = absurd h
all_one (source.Suffixed e ss) env s K h = absurd h
all_one e env s K h = refl

module _ (code : Code) (valid : IsValid code) (m : Machine) (s : State) (ks : List Spot) (h : Firm code m s ks) (env : Env) (sc : Scope) (scoped : Scoped h.homes h.owners (view m.top) sc env (floor ks) (cells_in ks))
    (us : List Value) (asks : asked ks ≡ form_of ks) where
  -- the list so far is kept, and its last expression comes
  abbrev spread : (form : Form) → Partly (view m.top) m.row (asked ks) form us → free ks ≤ free_in form → Firm code m s (SpreadS us form ∷ ks)
  spread form part le = record { homes = h.homes; owners = h.owners; memory = h.memory; kept = (part, le, h.kept); below = h.below; room = h.room; beside = h.beside }

  -- the last expression gives one value
  abbrev OneFor : Exp → Form → Type 0
  OneFor e form = IsExp code m.top.function sc e m.top.at (free_in form) (target (OneS ∷ SpreadS us form ∷ ks)) (λ b p. TakesOne code m.top.function (SpreadS us form ∷ ks) b p)

  one_near : (e : Exp) (form : Form) → Partly (view m.top) m.row (asked ks) form us → free ks ≤ free_in form → m.top.lists ≡ list_in form (before ks ++ us) (lists_of ks) → IsOne e → OneFor e form
      → Near code 1 m (record s { focus = All e env; ks = SpreadK us ∷ contexts ks }) 0
  one_near e form part le lists one c =
      inr (quiet code (Near code 0) m m (record s { focus = All e env; ks = SpreadK us ∷ contexts ks }) (record s { focus = Eval e env; ks = OneK ∷ SpreadK us ∷ contexts ks }) 0 0 _ refl refl (λ lt. refl)
      (all_one e env (record s { focus = All e env; ks = SpreadK us ∷ contexts ks }) (SpreadK us ∷ contexts ks) one) refl
      (near code 0 m _ 0 (OneS ∷ SpreadS us form ∷ ks) refl
      (eval_stands code m s (OneS ∷ SpreadS us form ∷ ks) e env sc
      (record { homes = h.homes; owners = h.owners; memory = h.memory; kept = (tt, (part, le, h.kept)); below = h.below; room = h.room; lists = lists; beside = h.beside }) c scoped)))

  -- it is a call
  call_near : (e : Exp) (ss : Suffixes) (form : Form) → Partly (view m.top) m.row (asked ks) form us → free ks ≤ free_in form → m.top.lists ≡ list_in form (before ks ++ us) (lists_of ks) → Suits Values (SpreadS us form ∷ ks)
      → IsExp code m.top.function sc e m.top.at (free_in form) (Into (free_in form)) (Takes code m.top.function (SuffixS ss Values env sc ∷ SpreadS us form ∷ ks))
      → Near code 1 m (record s { focus = All (source.Suffixed e ss) env; ks = SpreadK us ∷ contexts ks }) 0
  call_near e ss form part le lists suits c =
      inr (quiet code (Near code 0) m m (record s { focus = All (source.Suffixed e ss) env; ks = SpreadK us ∷ contexts ks }) (record s { focus = Eval e env; ks = SuffixK ss Values env ∷ SpreadK us ∷ contexts ks }) 0 0 _ refl refl (λ lt. refl) refl refl
      (near code 0 m _ 0 (SuffixS ss Values env sc ∷ SpreadS us form ∷ ks) refl
      (eval_stands code m s (SuffixS ss Values env sc ∷ SpreadS us form ∷ ks) e env sc
      (record { homes = h.homes; owners = h.owners; memory = h.memory; kept = (suits, scoped, (part, le, h.kept)); below = h.below; room = h.room; lists = lists; beside = h.beside }) c scoped)))

  -- it is `...`, to slots
  dots_slots : (r n : ℕ) → Partly (view m.top) m.row (asked ks) (Filled r n) us → free ks ≤ r → m.top.lists ≡ lists_of ks → At code m.top.function m.top.at (op.DotsTo r n) → TakesAll code m.top.function ks (m.top.at + 1)
      → Near code 1 m (record s { focus = All source.Dots env; ks = SpreadK us ∷ contexts ks }) 0
  dots_slots r n part le lists at takes =
      let vs = adjusted n m.top.dots in
      let line = written m.row (m.top.base + r) vs in
      let fit = fits_at code (view m.top) m.row h.room m.top.at (op.DotsTo r n) valid at in
      let count : length vs ≡ n = length_adjusted n m.top.dots in
      let low = h.room.slots in
      let more = firm_row code m s (SpreadS us (Filled r n) ∷ ks) (m.top.at + 1) m.top.lists line (length_written vs m.row (m.top.base + r))
      (λ p lt. written_other vs m.row (m.top.base + r) p (inl lt)) (spread (Filled r n) part le) in
      inr (quiet code (Near code 0) m (shifted m (m.top.at + 1) m.top.lists line) (record s { focus = All source.Dots env; ks = SpreadK us ∷ contexts ks }) (record s { focus = Lists env.dots; ks = SpreadK us ∷ contexts ks }) 0 1 _ (runs_op code m (op.DotsTo r n) _ at refl) refl (λ lt. refl) refl refl
      (near code 0 _ _ 0 (SpreadS us (Filled r n) ∷ ks) refl
      (whole_stands code (shifted m (m.top.at + 1) m.top.lists line) s (SpreadS us (Filled r n) ∷ ks) env.dots more takes
      (ap (λ i. values_from line (m.top.base + r) i) (sym count) ∙ written_same vs m.row (m.top.base + r) (omega (arith, fit.0, low, count)) ∙ ap (λ ds. adjusted n ds) (sym scoped.sees.dots), lists))))

  -- or on top of the lists
  dots_list : (d : ℕ) → Partly (view m.top) m.row (asked ks) (OnList d) us → free ks ≤ d → m.top.lists ≡ (before ks ++ us) ∷ lists_of ks → At code m.top.function m.top.at op.Dots → At code m.top.function (m.top.at + 1) op.Append
      → TakesAll code m.top.function ks (m.top.at + 2) → Near code 1 m (record s { focus = All source.Dots env; ks = SpreadK us ∷ contexts ks }) 0
  dots_list d part le lists at append takes =
      let there : m.top.at + 2 ≡ m.top.at + 1 + 1 = omega arith in
      let to = shifted m (m.top.at + 1) (m.top.dots ∷ m.top.lists) m.row in
      inr (quiet code (Near code 0) m to (record s { focus = All source.Dots env; ks = SpreadK us ∷ contexts ks }) (record s { focus = Lists env.dots; ks = SpreadK us ∷ contexts ks }) 0 1 _ (runs_op code m op.Dots _ at refl) refl (λ lt. refl) refl refl
      (near code 0 _ _ 0 (SpreadS us (OnList d) ∷ ks) refl
      (whole_stands code to s (SpreadS us (OnList d) ∷ ks) env.dots (firm_at code m s (SpreadS us (OnList d) ∷ ks) (m.top.at + 1) (m.top.dots ∷ m.top.lists) (spread (OnList d) part le))
      (append, subst (TakesAll code m.top.function ks) there takes) (ap (λ ds. ds ∷ m.top.lists) (sym scoped.sees.dots) ∙ ap (λ ls. env.dots ∷ ls) lists))))

  many_near : (e : Exp) (r n : ℕ) → Partly (view m.top) m.row (asked ks) (Filled r n) us → free ks ≤ r → m.top.lists ≡ lists_of ks → IsMany code m.top.function sc e n m.top.at r (TakesAll code m.top.function ks)
      → Near code 1 m (record s { focus = All e env; ks = SpreadK us ∷ contexts ks }) 0
  many_near source.Dots r n part le lists c = dots_slots r n part le lists c.0 c.1
  many_near (source.Suffixed e ss) r n part le lists c = call_near e ss (Filled r n) part le lists tt c
  many_near e r n part le lists c = absurd c

  all_near : (e : Exp) (d : ℕ) → Partly (view m.top) m.row (asked ks) (OnList d) us → free ks ≤ d → m.top.lists ≡ (before ks ++ us) ∷ lists_of ks → IsAll code m.top.function sc e m.top.at d (TakesAll code m.top.function ks)
      → Near code 1 m (record s { focus = All e env; ks = SpreadK us ∷ contexts ks }) 0
  all_near source.Dots d part le lists c = dots_list d part le lists c.0 c.1 c.2
  all_near (source.Suffixed e ss) d part le lists c = call_near e ss (OnList d) part le lists tt c
  all_near e d part le lists c = absurd c

  -- the last expression of a list
  last_near : (e : Exp) (form : Form) → Partly (view m.top) m.row (asked ks) form us → free ks ≤ free_in form → m.top.lists ≡ list_in form (before ks ++ us) (lists_of ks)
      → IsItems code m.top.function sc (MoreExps e NoExp) form m.top.at ks → Near code 1 m (record s { focus = All e env; ks = SpreadK us ∷ contexts ks }) 0
  last_near e (Exactly r) part le lists c = one_near e (Exactly r) part le lists c.0 c.1
  last_near e (Filled r n) part le lists (inl c) = one_near e (Filled r n) part le lists c.0 c.1
  last_near e (Filled r n) part le lists (inr c) = many_near e r n part le lists c
  last_near e (OnList d) part le lists (inl c) = one_near e (OnList d) part le lists c.0 c.1
  last_near e (OnList d) part le lists (inr c) = all_near e d part le lists c
  last_near e (Alone t d) part le lists c = one_near e (Alone t d) part le lists c.0 c.1

  -- one of several
  abbrev item : (e : Exp) (es : Exps) (form : Form) → Partly (view m.top) m.row (asked ks) form us → free ks ≤ free_in form → m.top.lists ≡ list_in form (before ks ++ us) (lists_of ks) → Steady code m s (ItemS e es env us sc form ∷ ks)
  item e es form part le lists =
      record { homes = h.homes; owners = h.owners; memory = h.memory; kept = (part, le, scoped, h.kept); below = h.below; room = h.room; lists = lists; beside = h.beside }

  item_stands : (x e : Exp) (es : Exps) (form : Form) → Partly (view m.top) m.row (asked ks) form us → free ks ≤ free_in form → m.top.lists ≡ list_in form (before ks ++ us) (lists_of ks)
      → IsItems code m.top.function sc (MoreExps x (MoreExps e es)) form m.top.at ks → Stands code m (record s { focus = Eval x env; ks = ItemK (MoreExps e es) env us ∷ contexts ks }) (ItemS e es env us sc form ∷ ks) 0
  item_stands x e es (Exactly r) part le lists c = eval_stands code m s (ItemS e es env us sc (Exactly r) ∷ ks) x env sc (item e es (Exactly r) part le lists) c scoped
  item_stands x e es (Filled r n) part le lists c = eval_stands code m s (ItemS e es env us sc (Filled r n) ∷ ks) x env sc (item e es (Filled r n) part le lists) c scoped
  item_stands x e es (OnList d) part le lists c = eval_stands code m s (ItemS e es env us sc (OnList d) ∷ ks) x env sc (item e es (OnList d) part le lists) c scoped
  item_stands x e es (Alone t d) part le lists c = absurd c

  -- no expression is left
  abbrev CameIn : Form → ℕ → Type 0
  CameIn f r = CameUpTo (view m.top) m.row f r us

  abbrev WholeIn : List Value → Form → List Value → Type 0
  WholeIn row f vs = Came (view m.top) row m.top.lists ks f vs

  end_row : (form : Form) → Partly (view m.top) m.row (asked ks) form us → free ks ≤ free_in form → m.top.lists ≡ list_in form (before ks ++ us) (lists_of ks) → IsItems code m.top.function sc NoExp form m.top.at ks
      → Row code (Near code 0) m (record s { focus = Items NoExp env us; ks = contexts ks }) 0 (reduce (record s { focus = Items NoExp env us; ks = contexts ks }))
  end_row (Exactly r) part le lists c =
      quiet code (Near code 0) m m (record s { focus = Items NoExp env us; ks = contexts ks }) (record s { focus = Lists us; ks = contexts ks }) 0 0 _ refl refl (λ lt. refl) refl refl
      (near code 0 m _ 0 ks refl (exact_stands code m s ks us r h c (subst (λ f. CameIn f r) asks (exact_came (view m.top) m.row (asked ks) r us part)) lists))
  end_row (Filled r n) part le lists c =
      let g = nilled code m r n (TakesAll code m.top.function ks) (λ i a at. slot_in code (view m.top) m.row h.room i ((fits_at code (view m.top) m.row h.room a (op.Nil i) valid at).0)) c in
      let more = firm_row code m s ks g.at m.top.lists g.row g.long (λ p lt. g.same p (inl (omega arith))) h in
      quiet code (Near code 0) m (shifted m g.at m.top.lists g.row) (record s { focus = Items NoExp env us; ks = contexts ks }) (record s { focus = Lists us; ks = contexts ks }) 0 g.steps _ g.runs refl (λ lt. refl) refl refl
      (near code 0 _ _ 0 ks refl
      (whole_stands code (shifted m g.at m.top.lists g.row) s ks us more g.holds
      (subst (λ f. WholeIn g.row f us) asks
      (subst (WholeIn g.row (asked ks)) (append_none us) (filled_came (view m.top) m.row g.row m.top.lists ks (asked ks) r n us [] part (λ p lt. g.same p (inl lt)) g.nils lists)))))
  end_row (OnList d) part le lists c =
      quiet code (Near code 0) m m (record s { focus = Items NoExp env us; ks = contexts ks }) (record s { focus = Lists us; ks = contexts ks }) 0 0 _ refl refl (λ lt. refl) refl refl
      (near code 0 m _ 0 ks refl
      (whole_stands code m s ks us h c (subst (λ f. WholeIn m.row f us) asks (listed_came (view m.top) m.row m.top.lists ks (asked ks) d us us part lists))))
  end_row (Alone t d) part le lists c = absurd c

  pub items_sim : (es : Exps) (form : Form) → Partly (view m.top) m.row (asked ks) form us → free ks ≤ free_in form → m.top.lists ≡ list_in form (before ks ++ us) (lists_of ks)
      → IsItems code m.top.function sc es form m.top.at ks → Sim code m (record s { focus = Items es env us; ks = contexts ks }) 0
  items_sim NoExp form part le lists c = (1, inr (end_row form part le lists c))
  items_sim (MoreExps e NoExp) form part le lists c =
      (2, inr (quiet code (Near code 1) m m (record s { focus = Items (MoreExps e NoExp) env us; ks = contexts ks }) (record s { focus = All e env; ks = SpreadK us ∷ contexts ks }) 0 0 _ refl refl (λ lt. refl) refl refl (last_near e form part le lists c)))
  items_sim (MoreExps x (MoreExps e es)) form part le lists c = (
    1,
    inr (quiet code (Near code 0) m m (record s { focus = Items (MoreExps x (MoreExps e es)) env us; ks = contexts ks }) (record s { focus = Eval x env; ks = ItemK (MoreExps e es) env us ∷ contexts ks }) 0 0 _ refl refl (λ lt. refl) refl refl
        (near code 0 m _ 0 (ItemS e es env us sc form ∷ ks) refl (item_stands x e es form part le lists c))),
  )
