-- Each step is sound.
use Rattle.std.proofs.Common.{◌≡◌, ℕ, ◌+◌, ◌<◌, inr, List, [], ◌∷◌, ◌++◌, length, None, refl, arith}
use Rattle.lua_tree.specs.Source as source
use Rattle.lua_tree.specs.Source.{Text, Block, Plain, Returns, NoStat, MoreStats, Exp, Exps, NoExp, MoreExps}
use Rattle.lua_value.specs.declared.value.Value.{Value}
use Rattle.lua_value.specs.Same.{is_true, is_nil}
use Rattle.lua_value.specs.Lists.{first, value_at}
use Rattle.lua_model.specs.Integer as lua
use Rattle.lua_model.specs.Operators.{binary, unary}
use Rattle.lua_meaning.specs.State.{Env, Focus, Eval, All, Items, Gives, Lists, Raises, Run, Declares, Stores, Context, UnaryK, ChainK, OperandK, SuffixK, OneK, ItemK, IfK, WhileK, UntilK, ForK, StoreK, CutK, SpreadK, ArgsK, AfterK, LocalK, AssignK, DropK, ReturnK, GenericK, TurnK, BeginK, BlockK, WhileLoopK, RepeatLoopK, NumericLoopK, GenericLoopK, CallK, State}
use Rattle.lua_meaning.specs.Statements.{pending, returns}
use Rattle.lua_meaning.specs.Reduce.{take, take_all, leave, run, give, give_all, act, reduce}
use Rattle.lua_meaning.specs.Size.{exps_size, block_size, context_size, contexts_size, focus_size, resumers_size, size}
use Rattle.lua_meaning.specs.Laws.{BudgetFalls, UnitsRise}
use Rattle.lua_meaning.proofs.Sound.{Sound, le, answered_sound, finish_sound}
use Rattle.lua_meaning.proofs.SoundRows.{none_sound, eval_sound, all_sound, items_sound, chained_sound, suffixed_sound, after_sound, calls_sound, applied_sound, hand_sound, raised_sound, declares_sound, stores_sound, length-pending, chosen_sound, stat_sound, while_sound, repeat_sound, numeric_turn_sound, numeric_value_sound, generic_call_sound, generic_turn_sound}

take_sound : (n : ℕ) (k : Context) (v : Value) (s : State) (ks : List Context) → n ≡ 1 + (context_size k + contexts_size ks) + resumers_size s.aside.resumers
    → Sound n s.left s.aside.heap.units (take k v s ks)
take_sound n (UnaryK op line) v s ks h = answered_sound n (unary s.aside.heap.texts op v) line s ks (omega (arith, h))
take_sound n (ChainK os env) v s ks h = chained_sound n os env v s ks (omega (arith, h))
take_sound n (OperandK op line u os env) v s ks h = answered_sound n (binary s.aside.heap.texts op u v) line s (ChainK os env ∷ ks) (omega (arith, h))
take_sound n (SuffixK ss how env) v s ks h = suffixed_sound n ss how env v s ks (omega (arith, h))
take_sound n OneK v s ks h = (inr (refl, omega (arith, h)), le s.aside.heap.units)
take_sound n (ItemK es env us) v s ks h = (inr (refl, omega (arith, h)), le s.aside.heap.units)
take_sound n (IfK p others rest env) v s ks h = chosen_sound n (is_true v) p others rest env s ks (omega (arith, h))
take_sound n (WhileK e body rest env) v s ks h = while_sound n (is_true v) e body rest env s ks (omega (arith, h))
take_sound n (UntilK body e rest env) v s ks h = repeat_sound n (is_true v) body e rest env s ks (omega (arith, h))
take_sound n (ForK es us x body line rest env) v s ks h = numeric_value_sound n es (us ++ v ∷ []) x body line rest env s ks (omega (arith, h))
take_sound n (StoreK x rest env) v s ks h = (inr (refl, omega (arith, h)), le s.aside.heap.units)
take_sound n _ v s ks h = none_sound n s

take_all_sound : (n : ℕ) (k : Context) (vs : List Value) (s : State) (ks : List Context) → n ≡ 1 + (context_size k + contexts_size ks) + resumers_size s.aside.resumers
    → Sound n s.left s.aside.heap.units (take_all k vs s ks)
take_all_sound n CutK vs s ks h = (inr (refl, omega (arith, h)), le s.aside.heap.units)
take_all_sound n (SpreadK us) vs s ks h = (inr (refl, omega (arith, h)), le s.aside.heap.units)
take_all_sound n (ArgsK f line ss how env) vs s ks h = applied_sound n f line ss how env vs s ks (omega (arith, h))
take_all_sound n (AfterK ss how env) vs s ks h = after_sound n ss how env vs s ks (omega (arith, h))
take_all_sound n (LocalK xs rest env) vs s ks h = (inr (refl, omega (arith, h)), le s.aside.heap.units)
take_all_sound n (AssignK xs rest env) vs s ks h =
    let l : length (pending xs vs []) ≡ length xs + 0 = length-pending xs vs [] in (inr (refl, omega (arith, h, l)), le s.aside.heap.units)
take_all_sound n (DropK rest env) vs s ks h = (inr (refl, omega (arith, h)), le s.aside.heap.units)
take_all_sound n ReturnK vs s ks h = hand_sound n ks vs s (omega (arith, h))
take_all_sound n (GenericK xs body line rest env) vs s ks h = generic_call_sound n (value_at vs 0) (value_at vs 1) (value_at vs 2) xs body line rest env s ks (omega (arith, h))
take_all_sound n (TurnK f state xs body line rest env) vs s ks h = generic_turn_sound n (is_nil (first vs)) vs f state xs body line rest env s ks (omega (arith, h))
take_all_sound n (BeginK f) vs s ks h = calls_sound n None f vs s ks (omega (arith, h))
take_all_sound n _ vs s ks h = none_sound n s

leave_sound : (n : ℕ) (ks : List Context) (env : Env) (s : State) → n ≡ 1 + contexts_size ks + resumers_size s.aside.resumers → Sound n s.left s.aside.heap.units (leave ks env s)
leave_sound n [] env s h = finish_sound n s.aside.resumers [] s (omega (arith, h))
leave_sound n (BlockK rest outside ∷ ks) env s h = (inr (refl, omega (arith, h)), le s.aside.heap.units)
leave_sound n (WhileLoopK e body rest outside ∷ ks) env s h = (inr (refl, omega (arith, h)), le s.aside.heap.units)
leave_sound n (RepeatLoopK body e rest outside ∷ ks) env s h = (inr (refl, omega (arith, h)), le s.aside.heap.units)
leave_sound n (NumericLoopK m at step x body rest outside ∷ ks) env s h = numeric_turn_sound n m (lua.add at step) step x body rest outside s ks (omega (arith, h))
leave_sound n (GenericLoopK f state control xs body line rest outside ∷ ks) env s h = generic_call_sound n f state control xs body line rest outside s ks (omega (arith, h))
leave_sound n (CallK line ∷ ks) env s h = (inr (refl, omega (arith, h)), le s.aside.heap.units)
leave_sound n (_ ∷ ks) env s h = none_sound n s

returns_sound : (n : ℕ) (es : Exps) (env : Env) (s : State) (ks : List Context) → exps_size es + 1 + contexts_size ks + resumers_size s.aside.resumers < n
    → Sound n s.left s.aside.heap.units (returns es env s ks)
returns_sound n NoExp env s ks h = (inr (refl, omega arith), le s.aside.heap.units)
returns_sound n (MoreExps (source.Suffixed e ss) NoExp) env s ks h = (inr (refl, omega arith), le s.aside.heap.units)
returns_sound n (MoreExps e es) env s ks h = (inr (refl, omega arith), le s.aside.heap.units)

run_sound : (n : ℕ) (b : Block) (env : Env) (s : State) (ks : List Context) → n ≡ block_size b + contexts_size ks + resumers_size s.aside.resumers
    → Sound n s.left s.aside.heap.units (run b env s ks)
run_sound n (Plain NoStat) env s ks h = leave_sound n ks env s h
run_sound n (Plain (MoreStats t ts)) env s ks h = stat_sound n t (Plain ts) env s ks
run_sound n (Returns NoStat es) env s ks h = returns_sound n es env s ks (omega (arith, h))
run_sound n (Returns (MoreStats t ts) es) env s ks h = stat_sound n t (Returns ts es) env s ks

give_sound : (n : ℕ) (ks : List Context) (v : Value) (s : State) → n ≡ 1 + contexts_size ks + resumers_size s.aside.resumers → Sound n s.left s.aside.heap.units (give ks v s)
give_sound n [] v s h = finish_sound n s.aside.resumers (v ∷ []) s (omega (arith, h))
give_sound n (k ∷ ks) v s h = take_sound n k v s ks h

give_all_sound : (n : ℕ) (ks : List Context) (vs : List Value) (s : State) → n ≡ 1 + contexts_size ks + resumers_size s.aside.resumers → Sound n s.left s.aside.heap.units (give_all ks vs s)
give_all_sound n [] vs s h = finish_sound n s.aside.resumers vs s (omega (arith, h))
give_all_sound n (k ∷ ks) vs s h = take_all_sound n k vs s ks h

act_sound : (f : Focus) (s : State) → Sound (focus_size f + contexts_size s.ks + resumers_size s.aside.resumers) s.left s.aside.heap.units (act f s)
act_sound (Eval e env) s = eval_sound _ e env s s.ks refl
act_sound (All e env) s = all_sound _ e env s s.ks refl
act_sound (Items es env us) s = items_sound _ es env us s s.ks refl
act_sound (Gives v) s = give_sound _ s.ks v s refl
act_sound (Lists vs) s = give_all_sound _ s.ks vs s refl
act_sound (Raises v) s = raised_sound (0 + contexts_size s.ks + resumers_size s.aside.resumers) s.ks v s (omega arith)
act_sound (Run b env) s = run_sound _ b env s s.ks refl
act_sound (Declares xs vs b env) s = declares_sound _ xs vs b env s s.ks refl
act_sound (Stores todo b env) s = stores_sound _ todo b env s s.ks refl

pub sound : (s : State) → Sound (size s) s.left s.aside.heap.units (reduce s)
sound s = act_sound s.focus s

pub budget_falls : BudgetFalls
budget_falls s = (sound s).0

pub units_rise : UnitsRise
units_rise s = (sound s).1
