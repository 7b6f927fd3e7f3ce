-- Each family of rows is sound.
use Rattle.std.proofs.Common.{◌≡◌, ℕ, zero, suc, ◌+◌, ◌-◌, ◌<◌, ◌≤◌, inl, inr, List, [], ◌∷◌, ◌++◌, length, Option, Some, None, refl, ◌∙◌, arith, Bool, true, false}
use Rattle.std.specs.Prelude.{ltb, if◌then◌else◌, slice_get, ℤ, pos, negsuc, drop}
use Rattle.std.proofs.lemmas.Bool.{ltb-false}
use Rattle.lua_tree.specs.Source as source
use Rattle.lua_tree.specs.Source.{Text, Block, Plain, Returns, Exp, Exps, NoExp, MoreExps, Operands, NoOperand, MoreOperands, Suffixes, NoSuffix, MoreSuffixes, Branches, NoElse, Else, Elseif, Body, body}
use Rattle.lua_value.specs.declared.value.Value.{Value}
use Rattle.lua_value.specs.declared.value.Value.TheVariants as value
use Rattle.lua_value.specs.Same.{is_true}
use Rattle.lua_value.specs.Lists.{first}
use Rattle.lua_model.specs.declared.refusal.Refusal.TheVariants as refusal
use Rattle.lua_model.specs.Heap as model
use Rattle.lua_model.specs.Integer as lua
use Rattle.lua_meaning.specs.State.{Env, Write, Wanted, Result, Values, Focus, Run, Context, RepeatLoopK, CallK, Closure, NativeCall, State, Budget, NoRule, Next, Halt}
use Rattle.lua_meaning.specs.Moves.{location_of, goes, ticked}
use Rattle.lua_meaning.specs.Values.{Link, Both, Either, Strict, link_of, linked, chained, suffixed, after_call, at_location, closed, eval, all, items}
use Rattle.lua_meaning.specs.Calls.{enter, asked, calls, tail_calls, applied, hand, raised}
use Rattle.lua_meaning.specs.Statements.{declares, stores, stores_at, pending, variables, assigns, otherwise, chosen, out_of_loop, Exit, breaks, stat}
use Rattle.lua_meaning.specs.Loops.{while_turn, repeat_turn, numeric_turn, numeric_by, numeric_from, numeric_begin, numeric_value, generic_call, generic_turn, turns_of}
use Rattle.lua_meaning.specs.Size.{exp_size, exps_size, operands_size, suffixes_size, block_size, branches_size, focus_size, contexts_size, resumers_size}
use Rattle.lua_meaning.proofs.Sound.{Sound, le, tick_sound, charged_more, refused_sound, finish_sound, fail_sound}

-- a step to this focus and these contexts
abbrev pub Small : ℕ → State → Focus → List Context → Type 0
Small n s f ks = focus_size f + contexts_size ks + resumers_size s.aside.resumers < n

pub goes_sound : (n : ℕ) (s : State) (f : Focus) (ks : List Context) → Small n s f ks → Sound n s.left s.aside.heap.units (goes s f ks)
goes_sound n s f ks h = (inr (refl, h), le s.aside.heap.units)

pub none_sound : (n : ℕ) (s : State) → Sound n s.left s.aside.heap.units (Halt NoRule s)
none_sound n s = (le s.left, le s.aside.heap.units)

pub pays_sound : (n : ℕ) (s : State) (f : Focus) (ks : List Context) → Sound n s.left s.aside.heap.units (ticked s.left s f ks)
pays_sound n s f ks = tick_sound n s.left s f ks (le s.left)

-- ---- expressions

exp_positive : (e : Exp) → 2 ≤ exp_size e
exp_positive source.Nil = omega arith
exp_positive source.False = omega arith
exp_positive source.True = omega arith
exp_positive (source.Int n) = omega arith
exp_positive (source.Str t) = omega arith
exp_positive source.Dots = omega arith
exp_positive (source.Function f) = omega arith
exp_positive (source.Name x) = omega arith
exp_positive (source.Paren e) = let h = exp_positive e in omega arith
exp_positive (source.Table fs) = omega arith
exp_positive (source.Suffixed e ss) = omega arith
exp_positive (source.Unary op line e) = omega arith
exp_positive (source.Chain e os) = let h = exp_positive e in omega arith

at_sound : (n : ℕ) (o : Option ℕ) (s : State) (ks : List Context) → 1 + contexts_size ks + resumers_size s.aside.resumers < n → Sound n s.left s.aside.heap.units (at_location s.store o s ks)
at_sound n None s ks h = none_sound n s
at_sound n (Some l) s ks h = (inr (refl, h), le s.aside.heap.units)

closed_sound : (n : ℕ) (o : Option model.Heap) (f : Body) (env : Env) (s : State) (ks : List Context) → 1 + contexts_size ks + resumers_size s.aside.resumers < n
    → ((h : model.Heap) → o ≡ Some h → s.aside.heap.units ≤ h.units) → Sound n s.left s.aside.heap.units (closed o f env s ks)
closed_sound n None f env s ks h more = (le s.left, le s.aside.heap.units)
closed_sound n (Some g) f env s ks h more = (inr (refl, h), more g refl)

pub eval_sound : (n : ℕ) (e : Exp) (env : Env) (s : State) (ks : List Context) → n ≡ exp_size e + contexts_size ks + resumers_size s.aside.resumers
    → Sound n s.left s.aside.heap.units (eval e env s ks)
eval_sound n source.Nil env s ks h = (inr (refl, (omega (arith, h))), le s.aside.heap.units)
eval_sound n source.False env s ks h = (inr (refl, (omega (arith, h))), le s.aside.heap.units)
eval_sound n source.True env s ks h = (inr (refl, (omega (arith, h))), le s.aside.heap.units)
eval_sound n (source.Int k) env s ks h = (inr (refl, (omega (arith, h))), le s.aside.heap.units)
eval_sound n (source.Str bytes) env s ks h = (inr (refl, omega (arith, h)), le s.aside.heap.units)
eval_sound n source.Dots env s ks h = (inr (refl, (omega (arith, h))), le s.aside.heap.units)
eval_sound n (source.Function f) env s ks h =
    closed_sound n (model.charged model.closure_units s.aside.heap) f env s ks (omega (arith, h)) (λ g e. charged_more model.closure_units s.aside.heap g e)
eval_sound n (source.Name x) env s ks h = at_sound n (location_of env.locals x) s ks (omega (arith, h))
eval_sound n (source.Paren e) env s ks h = (inr (refl, (omega (arith, h))), le s.aside.heap.units)
eval_sound n (source.Table fs) env s ks h = none_sound n s
eval_sound n (source.Suffixed e ss) env s ks h = (inr (refl, (omega (arith, h))), le s.aside.heap.units)
eval_sound n (source.Unary op line e) env s ks h = (inr (refl, (omega (arith, h))), le s.aside.heap.units)
eval_sound n (source.Chain e os) env s ks h = (inr (refl, (omega (arith, h))), le s.aside.heap.units)

pub all_sound : (n : ℕ) (e : Exp) (env : Env) (s : State) (ks : List Context) → n ≡ exp_size e + 2 + contexts_size ks + resumers_size s.aside.resumers
    → Sound n s.left s.aside.heap.units (all e env s ks)
all_sound n source.Dots env s ks h = (inr (refl, (omega (arith, h))), le s.aside.heap.units)
all_sound n (source.Suffixed e ss) env s ks h = (inr (refl, (omega (arith, h))), le s.aside.heap.units)
all_sound n source.Nil env s ks h = (inr (refl, (omega (arith, h))), le s.aside.heap.units)
all_sound n source.False env s ks h = (inr (refl, (omega (arith, h))), le s.aside.heap.units)
all_sound n source.True env s ks h = (inr (refl, (omega (arith, h))), le s.aside.heap.units)
all_sound n (source.Int k) env s ks h = (inr (refl, (omega (arith, h))), le s.aside.heap.units)
all_sound n (source.Str bytes) env s ks h = (inr (refl, (omega (arith, h))), le s.aside.heap.units)
all_sound n (source.Function f) env s ks h = (inr (refl, (omega (arith, h))), le s.aside.heap.units)
all_sound n (source.Name x) env s ks h = (inr (refl, (omega (arith, h))), le s.aside.heap.units)
all_sound n (source.Paren e) env s ks h = (inr (refl, (omega (arith, h))), le s.aside.heap.units)
all_sound n (source.Table fs) env s ks h = (inr (refl, (omega (arith, h))), le s.aside.heap.units)
all_sound n (source.Unary op line e) env s ks h = (inr (refl, (omega (arith, h))), le s.aside.heap.units)
all_sound n (source.Chain e os) env s ks h = (inr (refl, (omega (arith, h))), le s.aside.heap.units)

pub items_sound : (n : ℕ) (es : Exps) (env : Env) (us : List Value) (s : State) (ks : List Context) → n ≡ exps_size es + contexts_size ks + resumers_size s.aside.resumers
    → Sound n s.left s.aside.heap.units (items es env us s ks)
items_sound n NoExp env us s ks h = (inr (refl, (omega (arith, h))), le s.aside.heap.units)
items_sound n (MoreExps e NoExp) env us s ks h = (inr (refl, (omega (arith, h))), le s.aside.heap.units)
items_sound n (MoreExps e (MoreExps f es)) env us s ks h = (inr (refl, (omega (arith, h))), le s.aside.heap.units)

branch_sound : (n : ℕ) (b : Bool) (s : State) (f g : Focus) (ks : List Context) → Small n s f ks → Small n s g ks
    → Sound n s.left s.aside.heap.units (if b then goes s f ks else goes s g ks)
branch_sound n true s f g ks p q = (inr (refl, p), le s.aside.heap.units)
branch_sound n false s f g ks p q = (inr (refl, q), le s.aside.heap.units)

linked_sound : (n : ℕ) (l : Link) (line : ℕ) (e : Exp) (os : Operands) (env : Env) (v : Value) (s : State) (ks : List Context)
    → exp_size e + operands_size os + 1 + contexts_size ks + resumers_size s.aside.resumers < n → Sound n s.left s.aside.heap.units (linked l line e os env v s ks)
linked_sound n Both line e os env v s ks h = let p = exp_positive e in branch_sound n (is_true v) s _ _ _ (omega arith) (omega arith)
linked_sound n Either line e os env v s ks h = let p = exp_positive e in branch_sound n (is_true v) s _ _ _ (omega arith) (omega arith)
linked_sound n (Strict op) line e os env v s ks h = (inr (refl, (omega arith)), le s.aside.heap.units)

pub chained_sound : (n : ℕ) (os : Operands) (env : Env) (v : Value) (s : State) (ks : List Context) → n ≡ 1 + operands_size os + contexts_size ks + resumers_size s.aside.resumers
    → Sound n s.left s.aside.heap.units (chained os env v s ks)
chained_sound n NoOperand env v s ks h = (inr (refl, (omega (arith, h))), le s.aside.heap.units)
chained_sound n (MoreOperands op line e os) env v s ks h = linked_sound n (link_of op) line e os env v s ks (omega (arith, h))

pub suffixed_sound : (n : ℕ) (ss : Suffixes) (how : Wanted) (env : Env) (v : Value) (s : State) (ks : List Context) → n ≡ 1 + suffixes_size ss + contexts_size ks + resumers_size s.aside.resumers
    → Sound n s.left s.aside.heap.units (suffixed ss how env v s ks)
suffixed_sound n NoSuffix how env v s ks h = (inr (refl, (omega (arith, h))), le s.aside.heap.units)
suffixed_sound n (MoreSuffixes (source.Call es line) ss) how env v s ks h = (inr (refl, (omega (arith, h))), le s.aside.heap.units)
suffixed_sound n (MoreSuffixes (source.Index e line) ss) how env v s ks h = none_sound n s
suffixed_sound n (MoreSuffixes (source.Method x at es line) ss) how env v s ks h = none_sound n s

pub after_sound : (n : ℕ) (ss : Suffixes) (how : Wanted) (env : Env) (vs : List Value) (s : State) (ks : List Context) → n ≡ 2 + suffixes_size ss + contexts_size ks + resumers_size s.aside.resumers
    → Sound n s.left s.aside.heap.units (after_call ss how env vs s ks)
after_sound n NoSuffix how env vs s ks h = (inr (refl, (omega (arith, h))), le s.aside.heap.units)
after_sound n (MoreSuffixes x ss) how env vs s ks h = (inr (refl, (omega (arith, h))), le s.aside.heap.units)

-- ---- calls

enter_sound : (n : ℕ) (o : Option Closure) (line : Option ℕ) (f : Value) (vs : List Value) (s : State) (inside ks : List Context)
    → contexts_size ks + resumers_size s.aside.resumers < n → Sound n s.left s.aside.heap.units (enter o line f vs s inside ks)
enter_sound n None line f vs s inside ks h = refused_sound n line (refusal.Call f) s ks h
enter_sound n (Some c) line f vs s inside ks h = pays_sound n s _ inside

asked_sound : (n k : ℕ) (c : NativeCall) (s : State) (ks : List Context) → s.left ≤ k → Sound n k s.aside.heap.units (asked k c s ks)
asked_sound n zero c s ks h = (h, le s.aside.heap.units)
asked_sound n (suc k) c s ks h = (omega arith, le s.aside.heap.units)

pub calls_sound : (n : ℕ) (line : Option ℕ) (f : Value) (vs : List Value) (s : State) (ks : List Context)
    → contexts_size ks + resumers_size s.aside.resumers < n → Sound n s.left s.aside.heap.units (calls line f vs s ks)
calls_sound n line (value.Func k) vs s ks h = enter_sound n (slice_get s.closures k) line (value.Func k) vs s _ ks h
calls_sound n line (value.Native k) vs s ks h = asked_sound n s.left _ s ks (le s.left)
calls_sound n line value.Nil vs s ks h = refused_sound n line (refusal.Call value.Nil) s ks h
calls_sound n line (value.Bool b) vs s ks h = refused_sound n line (refusal.Call (value.Bool b)) s ks h
calls_sound n line (value.Int z) vs s ks h = refused_sound n line (refusal.Call (value.Int z)) s ks h
calls_sound n line (value.Text k) vs s ks h = refused_sound n line (refusal.Call (value.Text k)) s ks h
calls_sound n line (value.Table k) vs s ks h = refused_sound n line (refusal.Call (value.Table k)) s ks h
calls_sound n line (value.Thread k) vs s ks h = refused_sound n line (refusal.Call (value.Thread k)) s ks h
calls_sound n line (value.Packed k) vs s ks h = refused_sound n line (refusal.Call (value.Packed k)) s ks h

tail_sound : (n line : ℕ) (f : Value) (vs : List Value) (s : State) (ks : List Context)
    → contexts_size ks + resumers_size s.aside.resumers < n → Sound n s.left s.aside.heap.units (tail_calls line f vs s ks)
tail_sound n line (value.Func k) vs s ks h = enter_sound n (slice_get s.closures k) (Some line) (value.Func k) vs s _ ks h
tail_sound n line (value.Native k) vs s ks h = calls_sound n (Some line) (value.Native k) vs s ks h
tail_sound n line value.Nil vs s ks h = calls_sound n (Some line) value.Nil vs s ks h
tail_sound n line (value.Bool b) vs s ks h = calls_sound n (Some line) (value.Bool b) vs s ks h
tail_sound n line (value.Int z) vs s ks h = calls_sound n (Some line) (value.Int z) vs s ks h
tail_sound n line (value.Text k) vs s ks h = calls_sound n (Some line) (value.Text k) vs s ks h
tail_sound n line (value.Table k) vs s ks h = calls_sound n (Some line) (value.Table k) vs s ks h
tail_sound n line (value.Thread k) vs s ks h = calls_sound n (Some line) (value.Thread k) vs s ks h
tail_sound n line (value.Packed k) vs s ks h = calls_sound n (Some line) (value.Packed k) vs s ks h

pub applied_sound : (n : ℕ) (f : Value) (line : ℕ) (ss : Suffixes) (how : Wanted) (env : Env) (vs : List Value) (s : State) (ks : List Context)
    → n ≡ 1 + (suffixes_size ss + 1) + contexts_size ks + resumers_size s.aside.resumers → Sound n s.left s.aside.heap.units (applied f line ss how env vs s ks)
applied_sound n f line NoSuffix Result env vs s ks h = tail_sound n line f vs s ks (omega (arith, h))
applied_sound n f line NoSuffix Values env vs s ks h = calls_sound n (Some line) f vs s _ (omega (arith, h))
applied_sound n f line (MoreSuffixes x ss) how env vs s ks h = calls_sound n (Some line) f vs s _ (omega (arith, h))

pub hand_sound : (n : ℕ) (ks : List Context) (vs : List Value) (s : State) → 1 + contexts_size ks + resumers_size s.aside.resumers < n → Sound n s.left s.aside.heap.units (hand ks vs s)
hand_sound n [] vs s h = finish_sound n s.aside.resumers vs s (omega arith)
hand_sound n (CallK line ∷ ks) vs s h = (inr (refl, (omega arith)), le s.aside.heap.units)
hand_sound n (k ∷ ks) vs s h = hand_sound n ks vs s (omega arith)

pub raised_sound : (n : ℕ) (ks : List Context) (v : Value) (s : State) → contexts_size ks + resumers_size s.aside.resumers ≤ n → Sound n s.left s.aside.heap.units (raised ks v s)
raised_sound n [] v s h = fail_sound n s.aside.resumers v s (omega arith)
raised_sound n (k ∷ ks) v s h = raised_sound n ks v s (omega arith)

-- ---- statements

pub declares_sound : (n : ℕ) (xs : List Text) (vs : List Value) (b : Block) (env : Env) (s : State) (ks : List Context)
    → n ≡ block_size b + length xs + 1 + contexts_size ks + resumers_size s.aside.resumers → Sound n s.left s.aside.heap.units (declares xs vs b env s ks)
declares_sound n [] vs b env s ks h = (inr (refl, (omega (arith, h))), le s.aside.heap.units)
declares_sound n (x ∷ xs) vs b env s ks h = (inr (refl, omega (arith, h)), le s.aside.heap.units)

stores_at_sound : (n : ℕ) (o : Option ℕ) (v : Value) (todo : List Write) (b : Block) (env : Env) (s : State) (ks : List Context)
    → block_size b + length todo + 1 + contexts_size ks + resumers_size s.aside.resumers < n → Sound n s.left s.aside.heap.units (stores_at o v todo b env s ks)
stores_at_sound n None v todo b env s ks h = none_sound n s
stores_at_sound n (Some l) v todo b env s ks h = (inr (refl, h), le s.aside.heap.units)

pub stores_sound : (n : ℕ) (todo : List Write) (b : Block) (env : Env) (s : State) (ks : List Context)
    → n ≡ block_size b + length todo + 1 + contexts_size ks + resumers_size s.aside.resumers → Sound n s.left s.aside.heap.units (stores todo b env s ks)
stores_sound n [] b env s ks h = (inr (refl, (omega (arith, h))), le s.aside.heap.units)
stores_sound n (w ∷ todo) b env s ks h = stores_at_sound n (location_of env.locals w.name) w.value todo b env s ks (omega (arith, h))

pub length-pending : (xs : List Text) (vs : List Value) (todo : List Write) → length (pending xs vs todo) ≡ length xs + length todo
length-pending [] vs todo = omega arith
length-pending (x ∷ xs) vs todo = length-pending xs (drop 1 vs) (record { name = x; value = first vs } ∷ todo) ∙ omega arith

otherwise_sound : (n : ℕ) (others : Branches) (rest : Block) (env : Env) (s : State) (ks : List Context)
    → branches_size others + block_size rest + 2 + contexts_size ks + resumers_size s.aside.resumers < n → Sound n s.left s.aside.heap.units (otherwise others rest env s ks)
otherwise_sound n NoElse rest env s ks h = (inr (refl, (omega arith)), le s.aside.heap.units)
otherwise_sound n (Else p) rest env s ks h = (inr (refl, (omega arith)), le s.aside.heap.units)
otherwise_sound n (Elseif e p others) rest env s ks h = (inr (refl, (omega arith)), le s.aside.heap.units)

pub chosen_sound : (n : ℕ) (b : Bool) (p : Block) (others : Branches) (rest : Block) (env : Env) (s : State) (ks : List Context)
    → n ≡ 1 + (block_size p + branches_size others + block_size rest + 2) + contexts_size ks + resumers_size s.aside.resumers → Sound n s.left s.aside.heap.units (chosen b p others rest env s ks)
chosen_sound n true p others rest env s ks h = (inr (refl, (omega (arith, h))), le s.aside.heap.units)
chosen_sound n false p others rest env s ks h = otherwise_sound n others rest env s ks (omega (arith, h))

breaks_sound : (n : ℕ) (o : Option Exit) (s : State) → Sound n s.left s.aside.heap.units (breaks o s)
breaks_sound n None s = none_sound n s
breaks_sound n (Some x) s = pays_sound n s _ x.ks

assigns_sound : (n : ℕ) (o : Option (List Text)) (es : Exps) (rest : Block) (env : Env) (s : State) (ks : List Context) → Sound n s.left s.aside.heap.units (assigns o es rest env s ks)
assigns_sound n None es rest env s ks = none_sound n s
assigns_sound n (Some xs) es rest env s ks = pays_sound n s _ _

two_in : (n : ℕ) (b : Bool) (s : State) (f : Focus) (ks : List Context) → ltb s.left 2 ≡ b
    → Sound n s.left s.aside.heap.units (if b then Halt Budget s else Next (record s { focus = f; ks = ks; left = s.left - 2 }))
two_in n true s f ks e = (le s.left, le s.aside.heap.units)
two_in n false s f ks e = let h : 2 ≤ s.left = ltb-false _ _ e in (inl (omega arith), le s.aside.heap.units)

pub stat_sound : (n : ℕ) (t : source.Stat) (rest : Block) (env : Env) (s : State) (ks : List Context) → Sound n s.left s.aside.heap.units (stat t rest env s ks)
stat_sound n (source.Assign ts es) rest env s ks = assigns_sound n (variables ts) es rest env s ks
stat_sound n (source.Invoke e) rest env s ks = pays_sound n s _ _
stat_sound n source.Break rest env s ks = breaks_sound n (out_of_loop ks) s
stat_sound n (source.Do b) rest env s ks = pays_sound n s _ _
stat_sound n (source.While e b) rest env s ks = pays_sound n s _ _
stat_sound n (source.Repeat b e) rest env s ks = two_in n (ltb s.left 2) s (Run b env) (RepeatLoopK b e rest env ∷ ks) refl
stat_sound n (source.If e p others) rest env s ks = pays_sound n s _ _
stat_sound n (source.Numeric x a b p line) rest env s ks = pays_sound n s _ _
stat_sound n (source.NumericBy x a b c p line) rest env s ks = pays_sound n s _ _
stat_sound n (source.Generic xs es p line) rest env s ks = pays_sound n s _ _
stat_sound n (source.Local xs es) rest env s ks = pays_sound n s _ _
stat_sound n (source.LocalFunction x f) rest env s ks = tick_sound n s.left (record s { store = s.store ++ value.Nil ∷ [] }) _ _ (le s.left)

-- ---- loops

pub while_sound : (n : ℕ) (b : Bool) (e : Exp) (p rest : Block) (env : Env) (s : State) (ks : List Context)
    → block_size rest + contexts_size ks + resumers_size s.aside.resumers < n → Sound n s.left s.aside.heap.units (while_turn b e p rest env s ks)
while_sound n true e p rest env s ks h = pays_sound n s _ _
while_sound n false e p rest env s ks h = (inr (refl, h), le s.aside.heap.units)

pub repeat_sound : (n : ℕ) (b : Bool) (p : Block) (e : Exp) (rest : Block) (env : Env) (s : State) (ks : List Context)
    → block_size rest + contexts_size ks + resumers_size s.aside.resumers < n → Sound n s.left s.aside.heap.units (repeat_turn b p e rest env s ks)
repeat_sound n true p e rest env s ks h = (inr (refl, h), le s.aside.heap.units)
repeat_sound n false p e rest env s ks h = pays_sound n s _ _

pub numeric_turn_sound : (n m : ℕ) (at step : ℤ) (x : Text) (p rest : Block) (env : Env) (s : State) (ks : List Context)
    → block_size rest + contexts_size ks + resumers_size s.aside.resumers < n → Sound n s.left s.aside.heap.units (numeric_turn m at step x p rest env s ks)
numeric_turn_sound n zero at step x p rest env s ks h = (inr (refl, h), le s.aside.heap.units)
numeric_turn_sound n (suc m) at step x p rest env s ks h = pays_sound n s _ _

numeric_by_sound : (n : ℕ) (a b c : ℤ) (x : Text) (p : Block) (line : ℕ) (rest : Block) (env : Env) (s : State) (ks : List Context)
    → block_size rest + contexts_size ks + resumers_size s.aside.resumers < n → Sound n s.left s.aside.heap.units (numeric_by a b c x p line rest env s ks)
numeric_by_sound n a b (pos zero) x p line rest env s ks h = refused_sound n (Some line) refusal.ForStep s ks (omega arith)
numeric_by_sound n a b (pos (suc c)) x p line rest env s ks h = numeric_turn_sound n (turns_of a b (pos (suc c))) a (pos (suc c)) x p rest env s ks h
numeric_by_sound n a b (negsuc c) x p line rest env s ks h = numeric_turn_sound n (turns_of a b (negsuc c)) a (negsuc c) x p rest env s ks h

numeric_from_sound : (n : ℕ) (u v w : Value) (x : Text) (p : Block) (line : ℕ) (rest : Block) (env : Env) (s : State) (ks : List Context)
    → block_size rest + contexts_size ks + resumers_size s.aside.resumers < n → Sound n s.left s.aside.heap.units (numeric_from u v w x p line rest env s ks)
numeric_from_sound n (value.Int a) (value.Int b) (value.Int c) x p line rest env s ks h = numeric_by_sound n (lua.wrap a) (lua.wrap b) (lua.wrap c) x p line rest env s ks h
numeric_from_sound n (value.Int a) (value.Int b) w x p line rest env s ks h = refused_sound n (Some line) refusal.ForValues s ks (omega arith)
numeric_from_sound n (value.Int a) v w x p line rest env s ks h = refused_sound n (Some line) refusal.ForValues s ks (omega arith)
numeric_from_sound n u v w x p line rest env s ks h = refused_sound n (Some line) refusal.ForValues s ks (omega arith)

numeric_begin_sound : (n : ℕ) (us : List Value) (x : Text) (p : Block) (line : ℕ) (rest : Block) (env : Env) (s : State) (ks : List Context)
    → block_size rest + contexts_size ks + resumers_size s.aside.resumers < n → Sound n s.left s.aside.heap.units (numeric_begin us x p line rest env s ks)
numeric_begin_sound n [] x p line rest env s ks h = none_sound n s
numeric_begin_sound n (u ∷ []) x p line rest env s ks h = none_sound n s
numeric_begin_sound n (u ∷ v ∷ []) x p line rest env s ks h = numeric_from_sound n u v (value.Int (pos 1)) x p line rest env s ks h
numeric_begin_sound n (u ∷ v ∷ w ∷ []) x p line rest env s ks h = numeric_from_sound n u v w x p line rest env s ks h
numeric_begin_sound n (u ∷ v ∷ w ∷ y ∷ ys) x p line rest env s ks h = none_sound n s

pub numeric_value_sound : (n : ℕ) (es : Exps) (us : List Value) (x : Text) (p : Block) (line : ℕ) (rest : Block) (env : Env) (s : State) (ks : List Context)
    → n ≡ 1 + (exps_size es + block_size rest + 1) + contexts_size ks + resumers_size s.aside.resumers → Sound n s.left s.aside.heap.units (numeric_value es us x p line rest env s ks)
numeric_value_sound n NoExp us x p line rest env s ks h = numeric_begin_sound n us x p line rest env s ks (omega (arith, h))
numeric_value_sound n (MoreExps e es) us x p line rest env s ks h = (inr (refl, (omega (arith, h))), le s.aside.heap.units)

pub generic_call_sound : (n : ℕ) (f state control : Value) (xs : List Text) (p : Block) (line : ℕ) (rest : Block) (env : Env) (s : State) (ks : List Context)
    → block_size rest + 1 + contexts_size ks + resumers_size s.aside.resumers < n → Sound n s.left s.aside.heap.units (generic_call f state control xs p line rest env s ks)
generic_call_sound n f state control xs p line rest env s ks h = calls_sound n (Some line) f _ s _ (omega arith)

pub generic_turn_sound : (n : ℕ) (b : Bool) (vs : List Value) (f state : Value) (xs : List Text) (p : Block) (line : ℕ) (rest : Block) (env : Env) (s : State) (ks : List Context)
    → block_size rest + contexts_size ks + resumers_size s.aside.resumers < n → Sound n s.left s.aside.heap.units (generic_turn b vs f state xs p line rest env s ks)
generic_turn_sound n true vs f state xs p line rest env s ks h = (inr (refl, h), le s.aside.heap.units)
generic_turn_sound n false vs f state xs p line rest env s ks h = pays_sound n s _ _
