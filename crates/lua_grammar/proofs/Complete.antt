-- What the grammar has is read.
use Rattle.std.proofs.Common.{◌≡◌, ℕ, ◌<◌, ◌≤◌, List, [], ◌∷◌, ◌++◌, append_assoc, Bool, true, false, not, ◌⊎◌, inl, inr, refl, sym, ap, ◌∙◌, arith, subst, Ok, Err, Result, Option, Some, None}
use Rattle.std.specs.Bool.{⊤}
use Rattle.std.proofs.lemmas.List.{append-nil, reverse-append, reverse-reverse}
use Rattle.lua_tree.specs.declared.token.Word.TheVariants as word
use Rattle.lua_tree.specs.declared.token.Sign.TheVariants as sign
use Rattle.lua_tree.specs.declared.token.TokenKind.{TokenKind}
use Rattle.lua_tree.specs.declared.token.TokenKind.TheVariants as k
use Rattle.lua_tree.specs.declared.tree.UnaryOp.{UnaryOp}
use Rattle.lua_tree.specs.declared.tree.BinaryOp.{BinaryOp}
use Rattle.lua_tree.specs.declared.tree.BinaryOp.TheVariants as binary
use Rattle.lua_tree.specs.declared.tree.Expr.{Expr}
use Rattle.lua_tree.specs.declared.tree.Expr.TheVariants as e
use Rattle.lua_tree.specs.declared.tree.Expr.TheVariants.{outs-Name}
use Rattle.lua_tree.specs.declared.tree.Operand.{Operand}
use Rattle.lua_tree.specs.declared.tree.Suffix.{Suffix}
use Rattle.lua_tree.specs.declared.tree.Suffix.TheVariants as suffix
use Rattle.lua_tree.specs.declared.tree.Suffix.TheVariants.{outs-Index}
use Rattle.lua_tree.specs.declared.tree.Field.{Field}
use Rattle.lua_tree.specs.declared.tree.Body.{Body}
use Rattle.lua_tree.specs.declared.tree.Block.{Block}
use Rattle.lua_tree.specs.declared.tree.Branch.{Branch}
use Rattle.lua_tree.specs.declared.tree.Target.{Target}
use Rattle.lua_tree.specs.declared.tree.Target.TheVariants as target
use Rattle.lua_tree.specs.declared.tree.Stat.{Stat}
use Rattle.lua_tree.specs.declared.tree.Stat.TheVariants as stat
use Rattle.lua_grammar.specs.declared.tree.Part.TheVariants as part
use Rattle.lua_grammar.specs.declared.symbol.Phrase.{Phrase}
use Rattle.lua_grammar.specs.declared.symbol.Phrase.TheVariants as phrase
use Rattle.lua_grammar.specs.declared.symbol.Place.{Place}
use Rattle.lua_grammar.specs.declared.symbol.Place.TheVariants as place
use Rattle.lua_grammar.specs.declared.symbol.Scope.{Scope}
use Rattle.lua_grammar.specs.declared.symbol.Effect.TheVariants as act
use Rattle.lua_grammar.specs.declared.symbol.Symbol.{Symbol}
use Rattle.lua_grammar.specs.declared.symbol.Symbol.TheVariants as x
use Rattle.lua_grammar.specs.Lexeme.{Text, at, Lexemes, operator, unary_operator, level, groups_left, right_least, is_comma, is_assign, begins_expr, Not}
use Rattle.lua_grammar.specs.Grammar.{operand_of, block_of, branch_of, suffixed, self, IsExpr, nil, false_word, true_word, int, text, dots, function, table, prefix, unary_of, chain, IsOperands, no_operand, operand as next_operand, Whole, whole, IsExprs, last, more, IsPrefix, prefixed, IsBase, name, enclosed, IsSuffixes, no_suffix, next_suffix, IsSuffix, index, call, method, IsIndex, bracket, dot, IsArguments, no_argument, arguments, of_table, of_text, IsFields, no_field, last_field, next_field, IsField, key, named, item, IsBody, body, IsParameters, no_parameter, names_only, dots_only, names_dots, IsNames, last_name, next_name, IsTarget, variable, element, IsTargets, last_target, next_target, IsPath, alone, path, IsDots, no_dot, next_dot, IsElses, end_if, else_block, elseif, branch, IsDo, do_end, IsStat, assign, call_stat, break, do_stat, while, repeat, if_stat, numeric, numeric_by, generic, function_stat, method_stat, local_function, local_alone, local, IsBlock, block, IsStats, end_block, semicolon, statement, return, IsResult, no_value, values, IsEnd, plain_end, semicolon_end}
use Rattle.lua_grammar.specs.Table.{Others, becomes_unless, operand, one_more, with_one, in_loop, of_function, is_close, begins_field, goes_on_with_names, next_with}
use Rattle.lua_grammar.specs.Parts.{Parts, effect_of, target_of, block as block_at}
use Rattle.lua_grammar.specs.Machine.{State, taken, feed, going, run}
use Rattle.lua_grammar.proofs.Steps.{below_at, Below, Below-more, Below-none, Below-unary, level_bounds, make_pops, tail_pops, chained_pops, suffix_pops, call_pops, more_pops, semicolon_pops, block_pops, tail_takes, chained_takes, unary_takes, separator_takes, run_becomes}

-- ---- the target that a prefix is

pub element_target : (a b : Expr) (n : ℕ) (xs : List Suffix) → target_of a (xs ++ suffix.Index b n ∷ []) ≡ target.Element (suffixed a xs) b n
unfolding target_of
element_target a b n xs = rw (reverse-append xs (suffix.Index b n ∷ []), outs-Index b n, reverse-reverse xs) refl

pub variable_target : (t : Text) → target_of (e.Name t) [] ≡ target.Variable t
unfolding target_of
variable_target t = rw (outs-Name t) refl

-- ---- how an expression begins

abbrev pub Begins : Lexemes → Type 0
Begins [] = ⊥
Begins (t ∷ ts) = begins_expr t.kind ≡ true

unary_begins : (kind : TokenKind) (o : UnaryOp) → unary_operator kind ≡ Some o → begins_expr kind ≡ true
unary_begins (k.Word word.Not) o h = refl
unary_begins (k.Sign sign.Hash) o h = refl
unary_begins (k.Sign sign.Minus) o h = refl
unary_begins (k.Sign sign.Tilde) o h = refl
unary_begins _ o h = cc

begins_base : {p : Phrase} {a : Expr} {ts r : Lexemes} → IsBase p a ts r → Begins ts
begins_base name = refl
begins_base (enclosed d) = refl

pub begins : {l : ℕ} {a : Expr} {ts r : Lexemes} → IsExpr l a ts r → Begins ts
begins nil = refl
begins false_word = refl
begins true_word = refl
begins int = refl
begins text = refl
begins dots = refl
begins (function b) = refl
begins (table f) = refl
begins (prefix (prefixed d f) n) = begins_base d
begins (unary_of {kind = kind} {o = o} h d i) = unary_begins kind o h
begins (chain h d i f j g) = begins d

pub begins_whole : {a : Expr} {ts r : Lexemes} → Whole a ts r → Begins ts
begins_whole (whole d n) = begins d

pub begins_exprs : {es : List Expr} {ts r : Lexemes} → IsExprs es ts r → Begins ts
begins_exprs (last d n) = begins_whole d
begins_exprs (more d f) = begins_whole d

pub has_level : {l : ℕ} {a : Expr} {ts r : Lexemes} → IsExpr l a ts r → 1 ≤ l
has_level nil = omega arith
has_level false_word = omega arith
has_level true_word = omega arith
has_level int = omega arith
has_level text = omega arith
has_level dots = omega arith
has_level (function b) = omega arith
has_level (table f) = omega arith
has_level (prefix d n) = omega arith
has_level (unary_of h d i) = omega arith
has_level (chain {o = o} h d i f j g) = (level_bounds o).0

left_level : (o : BinaryOp) → groups_left o ≡ true → level o ≡ 8 → ⊥
left_level binary.Concat h i = cc
left_level _ h i = omega (arith, i)

right_case : (o : BinaryOp) → (level o ≡ 8) ⊎ (level o < right_least o)
right_case binary.Concat = inl refl
right_case _ = inr (omega arith)

-- further operators have the level
operands_below : {l : ℕ} {os : List Operand} {ts r : Lexemes} → IsOperands l os ts r → (m : ℕ) → l ≤ m → (l ≡ 8) ⊎ (l < m) → Below l r → Below m ts
operands_below {l = l} {r = r} no_operand m le i below = Below-more l m r below le
operands_below (next_operand {kind = kind} {o = o} h g d j f) m le (inl i) below = absurd (left_level o g i)
operands_below (next_operand {kind = kind} {o = o} h g d j f) m le (inr i) below = subst (below_at m) (sym h) i

-- ---- after a name no `=` comes where none comes after the expression

abbrev name_then : TokenKind → Lexemes → Type 0
name_then (k.Name t) ts = Not is_assign ts
name_then _ ts = ⊤

abbrev AfterName : Lexemes → Type 0
AfterName [] = ⊤
AfterName (t ∷ ts) = name_then t.kind ts

then_any : (kind : TokenKind) (ts : Lexemes) → Not is_assign ts → name_then kind ts
then_any (k.Name t) ts h = h
then_any _ ts h = tt

no_assign_operator : (kind : TokenKind) (o : BinaryOp) → operator kind ≡ Some o → is_assign kind ≡ false
no_assign_operator (k.Sign sign.Assign) o h = cc
no_assign_operator _ o h = refl

unary_then : (kind : TokenKind) (o : UnaryOp) (ts : Lexemes) → unary_operator kind ≡ Some o → name_then kind ts
unary_then (k.Name t) o ts h = cc
unary_then _ o ts h = tt

arguments_then : {n : ℕ} {es : List Expr} {ts r : Lexemes} → IsArguments es n ts r → Not is_assign ts
arguments_then no_argument = refl
arguments_then (arguments d) = refl
arguments_then (of_table d) = refl
arguments_then of_text = refl

index_then : {n : ℕ} {a : Expr} {ts r : Lexemes} → IsIndex a n ts r → Not is_assign ts
index_then (bracket d) = refl
index_then dot = refl

suffix_then : {p : Phrase} {x : Suffix} {ts r : Lexemes} → IsSuffix p x ts r → Not is_assign ts
suffix_then (index d) = index_then d
suffix_then (call d) = arguments_then d
suffix_then (method d) = refl

suffixes_then : {p q : Phrase} {xs : List Suffix} {ts r : Lexemes} → IsSuffixes p q xs ts r → Not is_assign r → Not is_assign ts
suffixes_then no_suffix h = h
suffixes_then (next_suffix d f) h = suffix_then d

base_then : {p q : Phrase} {a : Expr} {xs : List Suffix} {ts mid r : Lexemes} → IsBase p a ts mid → IsSuffixes p q xs mid r → Not is_assign r → AfterName ts
base_then name f h = suffixes_then f h
base_then (enclosed d) f h = tt

after_name : {l : ℕ} {a : Expr} {ts r : Lexemes} → IsExpr l a ts r → Not is_assign r → AfterName ts
after_name nil h = tt
after_name false_word h = tt
after_name true_word h = tt
after_name int h = tt
after_name text h = tt
after_name dots h = tt
after_name (function b) h = tt
after_name (table f) h = tt
after_name (prefix (prefixed d f) n) h = base_then d f h
after_name (unary_of {kind = kind} {o = o} {ts = ts} i d j) h = unary_then kind o ts i
after_name (chain {kind = kind} {o = o} i d j f g m) h = after_name d (no_assign_operator kind o i)

whole_name : {a : Expr} {ts r : Lexemes} → Whole a ts r → Not is_assign r → AfterName ts
whole_name (whole d n) h = after_name d h

-- ---- what begins with an expression

close_begins : (kind : TokenKind) → begins_expr kind ≡ true → is_close kind ≡ false
close_begins (k.Sign sign.CloseParen) h = cc
close_begins _ h = refl

arguments_begin : (s : List Symbol) (v : Parts) (ts : Lexemes) → Begins ts → run (x.Arguments ∷ s) v ts ≡ run (x.Expr 1 ∷ x.MoreArguments ∷ s) v ts
arguments_begin s v [] h = absurd h
arguments_begin s v (t ∷ ts) h =
    run_becomes x.Arguments (record { effects = []; symbols = x.Expr 1 ∷ x.MoreArguments ∷ [] }) s v t ts
    (ap (λ b. becomes_unless b [] (x.Expr 1 ∷ x.MoreArguments ∷ [])) (close_begins t.kind h)) (refl, (refl, tt))

result_begins : (s : List Symbol) (v : Parts) (ts : Lexemes) → Begins ts → run (x.ReturnExprs ∷ s) v ts ≡ run (x.Expr 1 ∷ x.MoreExprs ∷ s) v ts
result_begins s v [] h = absurd h
result_begins s v (t ∷ ts) h =
    run_becomes x.ReturnExprs (record { effects = []; symbols = x.Expr 1 ∷ x.MoreExprs ∷ [] }) s v t ts
    (ap (λ b. becomes_unless (not b) [] (x.Expr 1 ∷ x.MoreExprs ∷ [])) h) (refl, (refl, tt))

abbrev item_symbols : List Symbol
item_symbols = x.Make act.ItemField ∷ x.MoreFields ∷ []

name_begins : (s : List Symbol) (v : Parts) (t : Text) (ts : Lexemes) → Not is_assign ts
    → run (x.NameField ∷ s) (part.Name t ∷ v) ts ≡ run (x.Suffix place.Expression phrase.Var ∷ x.Tail 1 12 ∷ item_symbols ++ s) (part.Suffixes [] ∷ part.Expr (e.Name t) ∷ v) ts
name_begins s v t [] h = refl
name_begins s v t (u ∷ ts) h =
    run_becomes x.NameField (record { effects = act.NameVariable ∷ []; symbols = x.Suffix place.Expression phrase.Var ∷ x.Tail 1 12 ∷ item_symbols }) s (part.Name t ∷ v) u ts
    (ap (λ b. becomes_unless b (act.NameVariable ∷ []) (x.Suffix place.Expression phrase.Var ∷ x.Tail 1 12 ∷ item_symbols)) h) (refl, (refl, (refl, (refl, tt))))

field_begins : (kind : TokenKind) → begins_expr kind ≡ true → (begins_field kind ≡ false) ⊎ ((t : Text) × (kind ≡ k.Name t))
field_begins (k.Name t) h = inr (t, refl)
field_begins (k.Sign sign.CloseBrace) h = cc
field_begins (k.Sign sign.OpenBracket) h = cc
field_begins _ h = inl refl

fields_begin : (s : List Symbol) (v : Parts) (ts : Lexemes) → Begins ts → AfterName ts → run (x.Fields ∷ s) v ts ≡ run (x.Expr 1 ∷ item_symbols ++ s) v ts
fields_begin s v [] h f = absurd h
fields_begin s v (t ∷ ts) h f = on (field_begins t.kind h)
  where
    on : (begins_field t.kind ≡ false) ⊎ ((name : Text) × (t.kind ≡ k.Name name)) → run (x.Fields ∷ s) v (t ∷ ts) ≡ run (x.Expr 1 ∷ item_symbols ++ s) v (t ∷ ts)
    on (inl g) =
        run_becomes x.Fields (record { effects = []; symbols = x.Expr 1 ∷ item_symbols }) s v t ts
        (ap (λ b. becomes_unless b [] (x.Expr 1 ∷ item_symbols)) g) (refl, (refl, (refl, tt)))
    on (inr g) =
        let named : Not is_assign ts = subst (λ kind. name_then kind ts) g.1 f in
        subst (λ kind. run (x.Fields ∷ s) v (at kind t.line ∷ ts) ≡ run (x.Expr 1 ∷ item_symbols ++ s) v (at kind t.line ∷ ts)) (sym g.1) (name_begins s v g.0 ts named)

names_end : (kind : TokenKind) → is_comma kind ≡ false → is_assign kind ≡ false → goes_on_with_names kind ≡ false
names_end (k.Sign sign.Comma) h f = cc
names_end (k.Sign sign.Assign) h f = cc
names_end _ h f = refl

pub local_begins : (c : Scope) (s : List Symbol) (v : Parts) (r : Lexemes) → Not is_comma r → Not is_assign r
    → run (x.LocalMore c ∷ s) v r ≡ run (x.Block c ∷ s) (effect_of None act.LocalAlone v) r
local_begins c s v [] h f = refl
local_begins c s v (t ∷ ts) h f =
    run_becomes (x.LocalMore c) (record { effects = act.LocalAlone ∷ []; symbols = x.Block c ∷ [] }) s v t ts
    (ap (λ b. becomes_unless b (act.LocalAlone ∷ []) (x.Block c ∷ [])) (names_end t.kind h f)) (refl, tt)

pub result_leaves : (s : List Symbol) (v : Parts) (r : Lexemes) → Not begins_expr r → run (x.ReturnExprs ∷ s) v r ≡ run s v r
result_leaves s v [] h = refl
result_leaves s v (t ∷ ts) h = ap (λ o. going (feed_with o) (λ state. run state.stack state.parts ts) (t ∷ ts)) (ap (λ b. becomes_unless (not b) [] (x.Expr 1 ∷ x.MoreExprs ∷ [])) h)
  where
    feed_with : Option Others → Option State
    feed_with o = taken (next_with o x.ReturnExprs t.kind) (λ u. feed s u t) s v t

-- ---- names

abbrev pub count : ℕ → List Text → ℕ
count n [] = n
count n (y ∷ ys) = count (one_more n) ys

abbrev pub scoped : Scope → List Text → Scope
scoped c [] = c
scoped c (y ∷ ys) = scoped (with_one c) ys

pub parameters_read : {xs : List Text} {ts r : Lexemes} → IsNames xs ts r → (n : ℕ) (acc : List Text) (s : List Symbol) (v : Parts)
    → run (x.NextParameter n ∷ s) (part.Names acc ∷ v) ts ≡ run (x.MoreParameters (count n xs) ∷ s) (part.Names (acc ++ xs) ∷ v) r
parameters_read last_name n acc s v = refl
parameters_read {r = r} (next_name {x = y} {xs = ys} d) n acc s v =
    parameters_read d (one_more n) (acc ++ y ∷ []) s v ∙ ap (λ all. run (x.MoreParameters (count (one_more n) ys) ∷ s) (part.Names all ∷ v) r) (append_assoc acc (y ∷ []) ys)

first_parameter : {xs : List Text} {ts r : Lexemes} → IsNames xs ts r → (n : ℕ) (acc : List Text) (s : List Symbol) (v : Parts)
    → run (x.FirstParameter n ∷ s) (part.Names acc ∷ v) ts ≡ run (x.NextParameter n ∷ s) (part.Names acc ∷ v) ts
first_parameter last_name n acc s v = refl
first_parameter (next_name d) n acc s v = refl

pub for_names_read : {xs : List Text} {ts r : Lexemes} → IsNames xs ts r → (c : Scope) (acc : List Text) (s : List Symbol) (v : Parts)
    → run (x.ForName c ∷ s) (part.Names acc ∷ v) ts ≡ run (x.ForMore (scoped c xs) ∷ s) (part.Names (acc ++ xs) ∷ v) r
for_names_read last_name c acc s v = refl
for_names_read {r = r} (next_name {x = y} {xs = ys} d) c acc s v =
    for_names_read d (with_one c) (acc ++ y ∷ []) s v ∙ ap (λ all. run (x.ForMore (scoped (with_one c) ys) ∷ s) (part.Names all ∷ v) r) (append_assoc acc (y ∷ []) ys)

pub local_names_read : {xs : List Text} {ts r : Lexemes} → IsNames xs ts r → (c : Scope) (acc : List Text) (s : List Symbol) (v : Parts)
    → run (x.LocalName c ∷ s) (part.Names acc ∷ v) ts ≡ run (x.LocalMore (scoped c xs) ∷ s) (part.Names (acc ++ xs) ∷ v) r
local_names_read last_name c acc s v = refl
local_names_read {r = r} (next_name {x = y} {xs = ys} d) c acc s v =
    local_names_read d (with_one c) (acc ++ y ∷ []) s v ∙ ap (λ all. run (x.LocalMore (scoped (with_one c) ys) ∷ s) (part.Names all ∷ v) r) (append_assoc acc (y ∷ []) ys)

locals_read : {xs : List Text} {ts r : Lexemes} → IsNames xs ts r → (c : Scope) (s : List Symbol) (v : Parts)
    → run (x.Local c ∷ s) v ts ≡ run (x.LocalMore (scoped c xs) ∷ s) (part.Names xs ∷ v) r
locals_read last_name c s v = refl
locals_read (next_name {x = y} d) c s v = local_names_read d (with_one c) (y ∷ []) s v

for_read : {xs : List Text} {ts r : Lexemes} {n : ℕ} → IsNames xs ts (at (k.Word word.In) n ∷ r) → (c : Scope) (s : List Symbol) (v : Parts)
    → run (x.For c ∷ s) v ts ≡ run (x.Expr 1 ∷ x.MoreExprs ∷ x.Do (scoped c xs) ∷ x.Make act.Generic ∷ s) (part.Exprs [] ∷ part.Names xs ∷ v) r
for_read last_name c s v = refl
for_read (next_name {x = y} d) c s v = for_names_read d (with_one c) (y ∷ []) s v

pub dots_read : {xs : List Suffix} {ts r : Lexemes} → IsDots xs ts r → (acc : List Suffix) (s : List Symbol) (v : Parts)
    → run (x.FunctionPath ∷ s) (part.Suffixes acc ∷ v) ts ≡ run (x.FunctionPath ∷ s) (part.Suffixes (acc ++ xs) ∷ v) r
dots_read {r = r} no_dot acc s v = ap (λ all. run (x.FunctionPath ∷ s) (part.Suffixes all ∷ v) r) (sym (append-nil acc))
dots_read {r = r} (next_dot {n = n} {x = y} {xs = ys} d) acc s v =
    dots_read d (acc ++ suffix.Index (e.Text y) n ∷ []) s v ∙ ap (λ all. run (x.FunctionPath ∷ s) (part.Suffixes all ∷ v) r) (append_assoc acc (suffix.Index (e.Text y) n ∷ []) ys)

-- how the parameters of a function begin
abbrev Opens : Symbol → ℕ → List Text → Parts → Parts → Type 0
Opens y n before v u = (m : ℕ) (s : List Symbol) (ts : Lexemes) → run (y ∷ s) v (at (k.Sign sign.OpenParen) m ∷ ts) ≡ run (x.FirstParameter n ∷ s) (part.Names before ∷ u) ts

abbrev body_symbols : ℕ → Bool → List Symbol
body_symbols n vararg = x.Block (of_function n vararg) ∷ x.End ∷ x.Make (act.Body vararg) ∷ []

pub opened_read : {xs : List Text} {vararg : Bool} {ts r : Lexemes} → IsParameters xs vararg ts r → (y : Symbol) (n : ℕ) (before : List Text) (v u : Parts) (s : List Symbol) → Opens y n before v u
    → run (y ∷ s) v ts ≡ run (body_symbols (count n xs) vararg ++ s) (part.Stats [] ∷ part.Names (before ++ xs) ∷ u) r
opened_read {r = r} (no_parameter {m = m} {n = l}) y n before v u s h =
    h m s (at (k.Sign sign.CloseParen) l ∷ r) ∙ ap (λ all. run (body_symbols n false ++ s) (part.Stats [] ∷ part.Names all ∷ u) r) (sym (append-nil before))
opened_read (names_only {m = m} {ts = ts} d) y n before v u s h = h m s ts ∙ first_parameter d n before s u ∙ parameters_read d n before s u
opened_read {r = r} (dots_only {l = l} {m = m} {n = i}) y n before v u s h =
    h l s (at (k.Sign sign.Dots) m ∷ at (k.Sign sign.CloseParen) i ∷ r) ∙ ap (λ all. run (body_symbols n true ++ s) (part.Stats [] ∷ part.Names all ∷ u) r) (sym (append-nil before))
opened_read (names_dots {h = m} {ts = ts} d) y n before v u s h = h m s ts ∙ first_parameter d n before s u ∙ parameters_read d n before s u

-- ---- the base and the suffixes of a target

abbrev pub base_of : {a : Target} {ts r : Lexemes} → IsTarget a ts r → Expr
base_of (variable {x = y}) = e.Name y
base_of (element (prefixed {a = a} d f) i) = a

abbrev pub suffixes_of : {a : Target} {ts r : Lexemes} → IsTarget a ts r → List Suffix
suffixes_of variable = []
suffixes_of (element {n = n} {b = b} (prefixed {xs = ys} d f) i) = ys ++ suffix.Index b n ∷ []

pub end_target : {a : Target} {ts r : Lexemes} → (d : IsTarget a ts r) → target_of (base_of d) (suffixes_of d) ≡ a
end_target (variable {x = y}) = variable_target y
end_target (element {n = n} {b = b} (prefixed {a = a} {xs = ys} d f) i) = element_target a b n ys

-- ---- the name of a function statement

abbrev pub path_base : {a : Target} {ts r : Lexemes} → IsPath a ts r → Expr
path_base (alone {x = y}) = e.Name y
path_base (path {x = y} d) = e.Name y

abbrev pub path_suffixes : {a : Target} {ts r : Lexemes} → IsPath a ts r → List Suffix
path_suffixes alone = []
path_suffixes (path {m = m} {y = y} {xs = ys} d) = ys ++ suffix.Index (e.Text y) m ∷ []

pub end_path : {a : Target} {ts r : Lexemes} → (d : IsPath a ts r) → target_of (path_base d) (path_suffixes d) ≡ a
end_path (alone {x = y}) = variable_target y
end_path (path {m = m} {x = z} {y = y} {xs = ys} d) = element_target (e.Name z) (e.Text y) m ys

path_read : {a : Target} {ts r : Lexemes} → (d : IsPath a ts r) → (s : List Symbol) (v : Parts)
    → run (x.FunctionName ∷ s) v ts ≡ run (x.FunctionPath ∷ s) (part.Suffixes (path_suffixes d) ∷ part.Expr (path_base d) ∷ v) r
path_read alone s v = refl
path_read (path {x = z} d) s v = dots_read d [] s (part.Expr (e.Name z) ∷ v)

end_read : {ts r : Lexemes} → IsEnd ts r → (c : Scope) (s : List Symbol) (v : Parts) → run (x.OptionalSemicolon c ∷ s) v ts ≡ run s v r
end_read {r = r} (plain_end n) c s v = semicolon_pops c s v r n
end_read semicolon_end c s v = refl

-- ---- expressions and statements

-- the scope after a statement
abbrev pub scope_after : {a : Stat} {ts r : Lexemes} → IsStat a ts r → Scope → Scope
scope_after (local_function d) c = with_one c
scope_after (local_alone {xs = xs} d n m) c = scoped c xs
scope_after (local {xs = xs} d f) c = scoped c xs
scope_after _ c = c

-- where an operand is to come
abbrev operand_stack : BinaryOp → List Symbol → List Symbol
operand_stack o s = x.Make (act.AddOperand o) ∷ x.Chained (level o) ∷ s

-- after an operand that was read
operand_read : (lb : ℕ) (b : Expr) (ts r : Lexemes) (o : BinaryOp) (n : ℕ) (acc : List Operand) (s : List Symbol) (v : Parts) → Below (right_least o) r
    → run (x.Expr (right_least o) ∷ operand_stack o s) (part.Line n ∷ part.Operands acc ∷ v) ts
    ≡ run (x.Tail (right_least o) lb ∷ operand_stack o s) (part.Expr b ∷ part.Line n ∷ part.Operands acc ∷ v) r
    → run (operand o ++ s) (part.Line n ∷ part.Operands acc ∷ v) ts ≡ run (x.Chained (level o) ∷ s) (part.Operands (acc ++ operand_of o n b ∷ []) ∷ v) r
operand_read lb b ts r o n acc s v f read =
    read
    ∙ tail_pops (right_least o) lb (operand_stack o s) (part.Expr b ∷ part.Line n ∷ part.Operands acc ∷ v) r f
    ∙ make_pops (act.AddOperand o) (x.Chained (level o) ∷ s) (part.Expr b ∷ part.Line n ∷ part.Operands acc ∷ v) r

mutual
  pub expr_read : {l : ℕ} {a : Expr} {ts r : Lexemes} → IsExpr l a ts r → (p : ℕ) (s : List Symbol) (v : Parts) → p ≤ l → Below l r
      → run (x.Expr p ∷ s) v ts ≡ run (x.Tail p l ∷ s) (part.Expr a ∷ v) r
  expr_read nil p s v h f = refl
  expr_read false_word p s v h f = refl
  expr_read true_word p s v h f = refl
  expr_read int p s v h f = refl
  expr_read text p s v h f = refl
  expr_read dots p s v h f = refl
  expr_read {r = r} (function {b = b} d) p s v h f =
      body_read d x.Parameters 0 v v (x.Make act.Function ∷ x.Tail p 12 ∷ s) (λ m s ts. refl) ∙ make_pops act.Function (x.Tail p 12 ∷ s) (part.Body b ∷ v) r
  expr_read {r = r} (table {fs = fs} d) p s v h f =
      fields_read d [] (x.Make act.Table ∷ x.Tail p 12 ∷ s) v ∙ make_pops act.Table (x.Tail p 12 ∷ s) (part.Fields fs ∷ v) r
  expr_read {r = r} (prefix {p = q} {a = a} {xs = xs} d n) p s v h f =
      prefix_read d p s v ∙ suffix_pops q (x.Tail p 12 ∷ s) (part.Suffixes xs ∷ part.Expr a ∷ v) r n
  expr_read {r = r} (unary_of {l = l} {n = n} {kind = kind} {o = o} {a = a} {ts = ts} g d i) p s v h f =
      unary_takes p n kind o s v ts g
      ∙ expr_read d 11 (x.Make (act.Unary o) ∷ x.Tail p 11 ∷ s) (part.Line n ∷ v) i (Below-more 11 l r (Below-unary r) i)
      ∙ tail_pops 11 l (x.Make (act.Unary o) ∷ x.Tail p 11 ∷ s) (part.Expr a ∷ part.Line n ∷ v) r (Below-unary r)
      ∙ make_pops (act.Unary o) (x.Tail p 11 ∷ s) (part.Expr a ∷ part.Line n ∷ v) r
  expr_read {r = r} (chain {la = la} {lb = lb} {n = n} {kind = kind} {o = o} {a = a} {b = b} {more = os} {mid = mid} {end = end} g d i d' j m) p s v h f =
      expr_read d p s v (omega (arith, h, i)) (subst (below_at la) (sym g) i)
      ∙ tail_takes p la n kind o s (part.Expr a ∷ v) mid g h i
      ∙ (let g = operands_below m (right_least o) (level_bounds o).1 (right_case o) f in
      let s' = x.Tail p (level o) ∷ s in
      operand_read lb b mid end o n [] s' (part.Expr a ∷ v) g (expr_read d' (right_least o) (operand_stack o s') (part.Line n ∷ part.Operands [] ∷ part.Expr a ∷ v) j (Below-more (right_least o) lb end g j)))
      ∙ operands_read m (operand_of o n b ∷ []) (x.Tail p (level o) ∷ s) a v f

  operands_read : {l : ℕ} {os : List Operand} {ts r : Lexemes} → IsOperands l os ts r → (acc : List Operand) (s : List Symbol) (a : Expr) (v : Parts) → Below l r
      → run (x.Chained l ∷ s) (part.Operands acc ∷ part.Expr a ∷ v) ts ≡ run s (part.Expr (e.Chain a (acc ++ os)) ∷ v) r
  operands_read {l = l} {r = r} no_operand acc s a v f =
      chained_pops l s (part.Operands acc ∷ part.Expr a ∷ v) r f ∙ ap (λ os. run s (part.Expr (e.Chain a os) ∷ v) r) (sym (append-nil acc))
  operands_read {r = r} (next_operand {lb = lb} {n = n} {kind = kind} {o = o} {b = b} {more = os} {mid = mid} {end = end} g i d j m) acc s a v f =
      chained_takes n kind o s (part.Operands acc ∷ part.Expr a ∷ v) mid g i
      ∙ (let h = operands_below m (right_least o) (level_bounds o).1 (right_case o) f in
      operand_read lb b mid end o n acc s (part.Expr a ∷ v) h (expr_read d (right_least o) (operand_stack o s) (part.Line n ∷ part.Operands acc ∷ part.Expr a ∷ v) j (Below-more (right_least o) lb end h j)))
      ∙ operands_read m (acc ++ operand_of o n b ∷ []) s a v f
      ∙ ap (λ os. run s (part.Expr (e.Chain a os) ∷ v) r) (append_assoc acc (operand_of o n b ∷ []) os)

  pub whole_read : {a : Expr} {ts r : Lexemes} → Whole a ts r → (s : List Symbol) (v : Parts) → run (x.Expr 1 ∷ s) v ts ≡ run s (part.Expr a ∷ v) r
  whole_read (whole {l = l} {a = a} {r = r} d n) s v =
      expr_read d 1 s v (has_level d) (Below-none l r n) ∙ tail_pops 1 l s (part.Expr a ∷ v) r (Below-none 1 r n)

  prefix_read : {q : Phrase} {a : Expr} {xs : List Suffix} {ts r : Lexemes} → IsPrefix q a xs ts r → (p : ℕ) (s : List Symbol) (v : Parts)
      → run (x.Expr p ∷ s) v ts ≡ run (x.Suffix place.Expression q ∷ x.Tail p 12 ∷ s) (part.Suffixes xs ∷ part.Expr a ∷ v) r
  prefix_read (prefixed {a = a} d f) p s v = base_read d p s v ∙ suffixes_read f place.Expression [] (x.Tail p 12 ∷ s) (part.Expr a ∷ v)

  base_read : {q : Phrase} {a : Expr} {ts r : Lexemes} → IsBase q a ts r → (p : ℕ) (s : List Symbol) (v : Parts)
      → run (x.Expr p ∷ s) v ts ≡ run (x.Suffix place.Expression q ∷ x.Tail p 12 ∷ s) (part.Suffixes [] ∷ part.Expr a ∷ v) r
  base_read name p s v = refl
  base_read (enclosed d) p s v = whole_read d (x.CloseParen ∷ x.Suffix place.Expression phrase.Enclosed ∷ x.Tail p 12 ∷ s) v

  suffixes_read : {p q : Phrase} {xs : List Suffix} {ts r : Lexemes} → IsSuffixes p q xs ts r → (w_ : Place) (acc : List Suffix) (s : List Symbol) (v : Parts)
      → run (x.Suffix w_ p ∷ s) (part.Suffixes acc ∷ v) ts ≡ run (x.Suffix w_ q ∷ s) (part.Suffixes (acc ++ xs) ∷ v) r
  suffixes_read {p = p} {r = r} no_suffix w_ acc s v = ap (λ all. run (x.Suffix w_ p ∷ s) (part.Suffixes all ∷ v) r) (sym (append-nil acc))
  suffixes_read {q = q} {r = r} (next_suffix {x = y} {xs = ys} d f) w_ acc s v =
      suffix_read d _ w_ acc s v ∙ suffixes_read f w_ (acc ++ y ∷ []) s v ∙ ap (λ all. run (x.Suffix w_ q ∷ s) (part.Suffixes all ∷ v) r) (append_assoc acc (y ∷ []) ys)

  suffix_read : {o : Phrase} {y : Suffix} {ts r : Lexemes} → IsSuffix o y ts r → (p : Phrase) (w_ : Place) (acc : List Suffix) (s : List Symbol) (v : Parts)
      → run (x.Suffix w_ p ∷ s) (part.Suffixes acc ∷ v) ts ≡ run (x.Suffix w_ o ∷ s) (part.Suffixes (acc ++ y ∷ []) ∷ v) r
  suffix_read (index d) p w_ acc s v = index_read d p w_ acc s v
  suffix_read (call d) p w_ acc s v = call_read d p w_ acc s v
  suffix_read (method {l = l} {x = y} d) p w_ acc s v = method_read d (x.Suffix w_ phrase.Call ∷ s) (part.Name y ∷ part.Line l ∷ part.Suffixes acc ∷ v)

  index_read : {n : ℕ} {a : Expr} {ts r : Lexemes} → IsIndex a n ts r → (p : Phrase) (w_ : Place) (acc : List Suffix) (s : List Symbol) (v : Parts)
      → run (x.Suffix w_ p ∷ s) (part.Suffixes acc ∷ v) ts ≡ run (x.Suffix w_ phrase.Var ∷ s) (part.Suffixes (acc ++ suffix.Index a n ∷ []) ∷ v) r
  index_read (bracket {n = n} d) p w_ acc s v = whole_read d (x.CloseIndex ∷ x.Suffix w_ phrase.Var ∷ s) (part.Line n ∷ part.Suffixes acc ∷ v)
  index_read dot p w_ acc s v = refl

  call_read : {n : ℕ} {es : List Expr} {ts r : Lexemes} → IsArguments es n ts r → (p : Phrase) (w_ : Place) (acc : List Suffix) (s : List Symbol) (v : Parts)
      → run (x.Suffix w_ p ∷ s) (part.Suffixes acc ∷ v) ts ≡ run (x.Suffix w_ phrase.Call ∷ s) (part.Suffixes (acc ++ suffix.Call es n ∷ []) ∷ v) r
  call_read {r = r} (no_argument {n = n}) p w_ acc s v = make_pops act.AddCall (x.Suffix w_ phrase.Call ∷ s) (part.Exprs [] ∷ part.Line n ∷ part.Suffixes acc ∷ v) r
  call_read {r = r} (arguments {n = n} {es = es} {ts = ts} d) p w_ acc s v =
      let u = part.Line n ∷ part.Suffixes acc ∷ v in
      arguments_begin (x.Make act.AddCall ∷ x.Suffix w_ phrase.Call ∷ s) (part.Exprs [] ∷ u) ts (begins_exprs d)
      ∙ arguments_read d [] (x.Make act.AddCall ∷ x.Suffix w_ phrase.Call ∷ s) u
      ∙ make_pops act.AddCall (x.Suffix w_ phrase.Call ∷ s) (part.Exprs es ∷ u) r
  call_read {r = r} (of_table {n = n} {fs = fs} d) p w_ acc s v =
      let u = part.Line n ∷ part.Suffixes acc ∷ v in
      fields_read d [] (x.Make act.Table ∷ x.Make act.OnlyExpr ∷ x.Make act.AddCall ∷ x.Suffix w_ phrase.Call ∷ s) u
      ∙ make_pops act.Table (x.Make act.OnlyExpr ∷ x.Make act.AddCall ∷ x.Suffix w_ phrase.Call ∷ s) (part.Fields fs ∷ u) r
      ∙ make_pops act.OnlyExpr (x.Make act.AddCall ∷ x.Suffix w_ phrase.Call ∷ s) (part.Expr (e.Table fs) ∷ u) r
      ∙ make_pops act.AddCall (x.Suffix w_ phrase.Call ∷ s) (part.Exprs (e.Table fs ∷ []) ∷ u) r
  call_read of_text p w_ acc s v = refl

  method_read : {n : ℕ} {es : List Expr} {ts r : Lexemes} → IsArguments es n ts r → (s : List Symbol) (v : Parts)
      → run (x.MethodArguments ∷ s) v ts ≡ run s (effect_of None act.AddMethod (part.Exprs es ∷ part.Line n ∷ v)) r
  method_read {r = r} (no_argument {n = n}) s v = make_pops act.AddMethod s (part.Exprs [] ∷ part.Line n ∷ v) r
  method_read {r = r} (arguments {n = n} {es = es} {ts = ts} d) s v =
      arguments_begin (x.Make act.AddMethod ∷ s) (part.Exprs [] ∷ part.Line n ∷ v) ts (begins_exprs d)
      ∙ arguments_read d [] (x.Make act.AddMethod ∷ s) (part.Line n ∷ v)
      ∙ make_pops act.AddMethod s (part.Exprs es ∷ part.Line n ∷ v) r
  method_read {r = r} (of_table {n = n} {fs = fs} d) s v =
      fields_read d [] (x.Make act.Table ∷ x.Make act.OnlyExpr ∷ x.Make act.AddMethod ∷ s) (part.Line n ∷ v)
      ∙ make_pops act.Table (x.Make act.OnlyExpr ∷ x.Make act.AddMethod ∷ s) (part.Fields fs ∷ part.Line n ∷ v) r
      ∙ make_pops act.OnlyExpr (x.Make act.AddMethod ∷ s) (part.Expr (e.Table fs) ∷ part.Line n ∷ v) r
      ∙ make_pops act.AddMethod s (part.Exprs (e.Table fs ∷ []) ∷ part.Line n ∷ v) r
  method_read of_text s v = refl

  arguments_read : {n : ℕ} {es : List Expr} {ts r : Lexemes} → IsExprs es ts (at (k.Sign sign.CloseParen) n ∷ r) → (acc : List Expr) (s : List Symbol) (v : Parts)
      → run (x.Expr 1 ∷ x.MoreArguments ∷ s) (part.Exprs acc ∷ v) ts ≡ run s (part.Exprs (acc ++ es) ∷ v) r
  arguments_read (last d n) acc s v = whole_read d (x.MoreArguments ∷ s) (part.Exprs acc ∷ v)
  arguments_read {r = r} (more {a = a} {es = es} d f) acc s v =
      whole_read d (x.MoreArguments ∷ s) (part.Exprs acc ∷ v) ∙ arguments_read f (acc ++ a ∷ []) s v ∙ ap (λ all. run s (part.Exprs all ∷ v) r) (append_assoc acc (a ∷ []) es)

  pub exprs_read : {es : List Expr} {ts r : Lexemes} → IsExprs es ts r → (acc : List Expr) (s : List Symbol) (v : Parts)
      → run (x.Expr 1 ∷ x.MoreExprs ∷ s) (part.Exprs acc ∷ v) ts ≡ run s (part.Exprs (acc ++ es) ∷ v) r
  exprs_read {r = r} (last {a = a} d n) acc s v = whole_read d (x.MoreExprs ∷ s) (part.Exprs acc ∷ v) ∙ more_pops s (part.Expr a ∷ part.Exprs acc ∷ v) r n
  exprs_read {r = r} (more {a = a} {es = es} d f) acc s v =
      whole_read d (x.MoreExprs ∷ s) (part.Exprs acc ∷ v) ∙ exprs_read f (acc ++ a ∷ []) s v ∙ ap (λ all. run s (part.Exprs all ∷ v) r) (append_assoc acc (a ∷ []) es)

  fields_read : {fs : List Field} {ts r : Lexemes} → IsFields fs ts r → (acc : List Field) (s : List Symbol) (v : Parts)
      → run (x.Fields ∷ s) (part.Fields acc ∷ v) ts ≡ run s (part.Fields (acc ++ fs) ∷ v) r
  fields_read {r = r} no_field acc s v = ap (λ all. run s (part.Fields all ∷ v) r) (sym (append-nil acc))
  fields_read (last_field d) acc s v = field_read d acc s v
  fields_read {r = r} (next_field {n = n} {kind = kind} {f = a} {fs = fs} {mid = mid} h d f) acc s v =
      field_read d acc s v
      ∙ separator_takes n kind s (part.Fields (acc ++ a ∷ []) ∷ v) mid h
      ∙ fields_read f (acc ++ a ∷ []) s v
      ∙ ap (λ all. run s (part.Fields all ∷ v) r) (append_assoc acc (a ∷ []) fs)

  field_read : {a : Field} {ts r : Lexemes} → IsField a ts r → (acc : List Field) (s : List Symbol) (v : Parts)
      → run (x.Fields ∷ s) (part.Fields acc ∷ v) ts ≡ run (x.MoreFields ∷ s) (part.Fields (acc ++ a ∷ []) ∷ v) r
  field_read {r = r} (key {a = a} {b = b} d f) acc s v =
      whole_read d (x.CloseKey ∷ x.Assign ∷ x.Expr 1 ∷ x.Make act.KeyField ∷ x.MoreFields ∷ s) (part.Fields acc ∷ v)
      ∙ whole_read f (x.Make act.KeyField ∷ x.MoreFields ∷ s) (part.Expr a ∷ part.Fields acc ∷ v)
      ∙ make_pops act.KeyField (x.MoreFields ∷ s) (part.Expr b ∷ part.Expr a ∷ part.Fields acc ∷ v) r
  field_read {r = r} (named {x = y} {b = b} d) acc s v =
      whole_read d (x.Make act.KeyField ∷ x.MoreFields ∷ s) (part.Expr (e.Text y) ∷ part.Fields acc ∷ v)
      ∙ make_pops act.KeyField (x.MoreFields ∷ s) (part.Expr b ∷ part.Expr (e.Text y) ∷ part.Fields acc ∷ v) r
  field_read {r = r} (item {a = a} {ts = ts} d n) acc s v =
      fields_begin s (part.Fields acc ∷ v) ts (begins_whole d) (whole_name d n)
      ∙ whole_read d (x.Make act.ItemField ∷ x.MoreFields ∷ s) (part.Fields acc ∷ v)
      ∙ make_pops act.ItemField (x.MoreFields ∷ s) (part.Expr a ∷ part.Fields acc ∷ v) r

  body_read : {before : List Text} {b : Body} {ts r : Lexemes} → IsBody before b ts r → (y : Symbol) (n : ℕ) (v u : Parts) (s : List Symbol) → Opens y n before v u
      → run (y ∷ s) v ts ≡ run s (part.Body b ∷ u) r
  body_read {r = r} (body {before = before} {xs = xs} {has_dots = vararg} {b = b} d f) y n v u s h =
      opened_read d y n before v u s h
      ∙ block_read f (of_function (count n xs) vararg) (x.End ∷ x.Make (act.Body vararg) ∷ s) (part.Names (before ++ xs) ∷ u)
      ∙ make_pops (act.Body vararg) s (part.Block b ∷ part.Names (before ++ xs) ∷ u) r

  targets_read : {vs : List Target} {n : ℕ} {ts r : Lexemes} → IsTargets vs ts (at (k.Sign sign.Assign) n ∷ r) → (acc : List Target) (s : List Symbol) (v : Parts)
      → run (x.Target ∷ s) (part.Targets acc ∷ v) ts ≡ run (x.Expr 1 ∷ x.MoreExprs ∷ x.Make act.Assign ∷ s) (part.Exprs [] ∷ part.Targets (acc ++ vs) ∷ v) r
  targets_read {r = r} (last_target d) acc s v =
      next_target_read d s (part.Targets acc ∷ v) ∙ ap (λ (t : Target). run (x.Expr 1 ∷ x.MoreExprs ∷ x.Make act.Assign ∷ s) (part.Exprs [] ∷ part.Targets (acc ++ t ∷ []) ∷ v) r) (end_target d)
  targets_read {r = r} (next_target {a = a} {others = vs} {mid = mid} d f) acc s v =
      next_target_read d s (part.Targets acc ∷ v)
      ∙ ap (λ (t : Target). run (x.Target ∷ s) (part.Targets (acc ++ t ∷ []) ∷ v) mid) (end_target d)
      ∙ targets_read f (acc ++ a ∷ []) s v
      ∙ ap (λ all. run (x.Expr 1 ∷ x.MoreExprs ∷ x.Make act.Assign ∷ s) (part.Exprs [] ∷ part.Targets all ∷ v) r) (append_assoc acc (a ∷ []) vs)

  next_target_read : {a : Target} {ts r : Lexemes} → (d : IsTarget a ts r) → (s : List Symbol) (v : Parts)
      → run (x.Target ∷ s) v ts ≡ run (x.Suffix place.Target phrase.Var ∷ s) (part.Suffixes (suffixes_of d) ∷ part.Expr (base_of d) ∷ v) r
  next_target_read variable s v = refl
  next_target_read (element (prefixed {q = q} {a = a} {xs = ys} d f) i) s v =
      target_base_read d s v ∙ suffixes_read f place.Target [] s (part.Expr a ∷ v) ∙ index_read i q place.Target ys s (part.Expr a ∷ v)

  target_base_read : {q : Phrase} {a : Expr} {ts r : Lexemes} → IsBase q a ts r → (s : List Symbol) (v : Parts)
      → run (x.Target ∷ s) v ts ≡ run (x.Suffix place.Target q ∷ s) (part.Suffixes [] ∷ part.Expr a ∷ v) r
  target_base_read name s v = refl
  target_base_read (enclosed d) s v = whole_read d (x.CloseParen ∷ x.Suffix place.Target phrase.Enclosed ∷ s) v

  first_target_read : {a : Target} {ts r : Lexemes} → (d : IsTarget a ts r) → (c : Scope) (s : List Symbol) (v : Parts)
      → run (x.Block c ∷ s) v ts ≡ run (x.Suffix place.Statement phrase.Var ∷ x.Block c ∷ s) (part.Suffixes (suffixes_of d) ∷ part.Expr (base_of d) ∷ v) r
  first_target_read variable c s v = refl
  first_target_read (element (prefixed {q = q} {a = a} {xs = ys} d f) i) c s v =
      stat_base_read d c s v ∙ suffixes_read f place.Statement [] (x.Block c ∷ s) (part.Expr a ∷ v) ∙ index_read i q place.Statement ys (x.Block c ∷ s) (part.Expr a ∷ v)

  stat_base_read : {q : Phrase} {a : Expr} {ts r : Lexemes} → IsBase q a ts r → (c : Scope) (s : List Symbol) (v : Parts)
      → run (x.Block c ∷ s) v ts ≡ run (x.Suffix place.Statement q ∷ x.Block c ∷ s) (part.Suffixes [] ∷ part.Expr a ∷ v) r
  stat_base_read name c s v = refl
  stat_base_read (enclosed d) c s v = whole_read d (x.CloseParen ∷ x.Suffix place.Statement phrase.Enclosed ∷ x.Block c ∷ s) v

  all_targets_read : {vs : List Target} {n : ℕ} {ts r : Lexemes} → IsTargets vs ts (at (k.Sign sign.Assign) n ∷ r) → (c : Scope) (s : List Symbol) (v : Parts)
      → run (x.Block c ∷ s) v ts ≡ run (x.Expr 1 ∷ x.MoreExprs ∷ x.Make act.Assign ∷ x.Block c ∷ s) (part.Exprs [] ∷ part.Targets vs ∷ v) r
  all_targets_read {r = r} (last_target d) c s v =
      first_target_read d c s v ∙ ap (λ (t : Target). run (x.Expr 1 ∷ x.MoreExprs ∷ x.Make act.Assign ∷ x.Block c ∷ s) (part.Exprs [] ∷ part.Targets (t ∷ []) ∷ v) r) (end_target d)
  all_targets_read {r = r} (next_target {a = a} {mid = mid} d f) c s v =
      first_target_read d c s v
      ∙ ap (λ (t : Target). run (x.Target ∷ x.Block c ∷ s) (part.Targets (t ∷ []) ∷ v) mid) (end_target d)
      ∙ targets_read f (a ∷ []) (x.Block c ∷ s) v

  elses_read : {bs : List Branch} {other : Option Block} {ts r : Lexemes} → IsElses bs other ts r → (c : Scope) (a : Expr) (b : Block) (acc : List Branch) (s : List Symbol) (ss : List Stat) (v : Parts)
      → run (x.Else c ∷ s) (part.Block b ∷ part.Expr a ∷ part.Branches acc ∷ part.Stats ss ∷ v) ts
      ≡ run s (part.Stats (ss ++ stat.If (acc ++ branch_of a b ∷ bs) other ∷ []) ∷ v) r
  elses_read end_if c a b acc s ss v = refl
  elses_read {r = r} (else_block {b = other} d) c a b acc s ss v =
      block_read d c (x.End ∷ x.Make act.IfElse ∷ s) (part.Branches (acc ++ branch_of a b ∷ []) ∷ part.Stats ss ∷ v)
      ∙ make_pops act.IfElse s (part.Block other ∷ part.Branches (acc ++ branch_of a b ∷ []) ∷ part.Stats ss ∷ v) r
  elses_read {r = r} (elseif {bs = bs} {other = other} (branch {a = a'} {b = b'} d g) f) c a b acc s ss v =
      whole_read d (x.Then c ∷ x.Else c ∷ s) (part.Branches (acc ++ branch_of a b ∷ []) ∷ part.Stats ss ∷ v)
      ∙ block_read g c (x.Else c ∷ s) (part.Expr a' ∷ part.Branches (acc ++ branch_of a b ∷ []) ∷ part.Stats ss ∷ v)
      ∙ elses_read f c a' b' (acc ++ branch_of a b ∷ []) s ss v
      ∙ ap (λ all. run s (part.Stats (ss ++ stat.If all other ∷ []) ∷ v) r) (append_assoc acc (branch_of a b ∷ []) (branch_of a' b' ∷ bs))

  do_read : {b : Block} {ts r : Lexemes} → IsDo b ts r → (c : Scope) (s : List Symbol) (v : Parts) → run (x.Do c ∷ s) v ts ≡ run s (part.Block b ∷ v) r
  do_read (do_end d) c s v = block_read d (in_loop c) (x.End ∷ s) v

  step_read : {b : Block} {ts r : Lexemes} → IsDo b ts r → (c : Scope) (s : List Symbol) (v : Parts) → run (x.ForStep c ∷ s) v ts ≡ run (x.Make act.Numeric ∷ s) (part.Block b ∷ v) r
  step_read (do_end d) c s v = block_read d (in_loop c) (x.End ∷ x.Make act.Numeric ∷ s) v

  pub stat_read : {a : Stat} {ts r : Lexemes} → (d : IsStat a ts r) → (c : Scope) (s : List Symbol) (acc : List Stat) (v : Parts)
      → run (x.Block c ∷ s) (part.Stats acc ∷ v) ts ≡ run (x.Block (scope_after d c) ∷ s) (part.Stats (acc ++ a ∷ []) ∷ v) r
  stat_read {r = r} (assign {vs = vs} {es = es} d f) c s acc v =
      all_targets_read d c s (part.Stats acc ∷ v)
      ∙ exprs_read f [] (x.Make act.Assign ∷ x.Block c ∷ s) (part.Targets vs ∷ part.Stats acc ∷ v)
      ∙ make_pops act.Assign (x.Block c ∷ s) (part.Exprs es ∷ part.Targets vs ∷ part.Stats acc ∷ v) r
  stat_read {r = r} (call_stat {a = a} {xs = ys} (prefixed d f) n) c s acc v =
      stat_base_read d c s (part.Stats acc ∷ v)
      ∙ suffixes_read f place.Statement [] (x.Block c ∷ s) (part.Expr a ∷ part.Stats acc ∷ v)
      ∙ call_pops (x.Block c ∷ s) (part.Suffixes ys ∷ part.Expr a ∷ part.Stats acc ∷ v) r n
  stat_read break c s acc v = refl
  stat_read {r = r} (do_stat {b = b} (do_end d)) c s acc v =
      block_read d c (x.End ∷ x.Make act.Do ∷ x.Block c ∷ s) (part.Stats acc ∷ v) ∙ make_pops act.Do (x.Block c ∷ s) (part.Block b ∷ part.Stats acc ∷ v) r
  stat_read {r = r} (while {a = a} {b = b} d f) c s acc v =
      whole_read d (x.Do c ∷ x.Make act.While ∷ x.Block c ∷ s) (part.Stats acc ∷ v)
      ∙ do_read f c (x.Make act.While ∷ x.Block c ∷ s) (part.Expr a ∷ part.Stats acc ∷ v)
      ∙ make_pops act.While (x.Block c ∷ s) (part.Block b ∷ part.Expr a ∷ part.Stats acc ∷ v) r
  stat_read {r = r} (repeat {a = a} {b = b} d f) c s acc v =
      block_read d (in_loop c) (x.Until ∷ x.Expr 1 ∷ x.Make act.Repeat ∷ x.Block c ∷ s) (part.Stats acc ∷ v)
      ∙ whole_read f (x.Make act.Repeat ∷ x.Block c ∷ s) (part.Block b ∷ part.Stats acc ∷ v)
      ∙ make_pops act.Repeat (x.Block c ∷ s) (part.Expr a ∷ part.Block b ∷ part.Stats acc ∷ v) r
  stat_read (if_stat (branch {a = a} {b = b} d g) f) c s acc v =
      whole_read d (x.Then c ∷ x.Else c ∷ x.Block c ∷ s) (part.Branches [] ∷ part.Stats acc ∷ v)
      ∙ block_read g c (x.Else c ∷ x.Block c ∷ s) (part.Expr a ∷ part.Branches [] ∷ part.Stats acc ∷ v)
      ∙ elses_read f c a b [] (x.Block c ∷ s) acc v
  stat_read {r = r} (numeric {h = h} {x = y} {a = a} {b = b} {body = inner} d f g) c s acc v =
      let c' = with_one c in
      let u = part.Names (y ∷ []) ∷ part.Line h ∷ part.Stats acc ∷ v in
      whole_read d (x.Comma ∷ x.Expr 1 ∷ x.ForStep c' ∷ x.Block c ∷ s) u
      ∙ whole_read f (x.ForStep c' ∷ x.Block c ∷ s) (part.Expr a ∷ u)
      ∙ step_read g c' (x.Block c ∷ s) (part.Expr b ∷ part.Expr a ∷ u)
      ∙ make_pops act.Numeric (x.Block c ∷ s) (part.Block inner ∷ part.Expr b ∷ part.Expr a ∷ u) r
  stat_read {r = r} (numeric_by {h = h} {x = y} {a = a} {b = b} {c = e} {body = inner} d f i g) c s acc v =
      let c' = with_one c in
      let u = part.Names (y ∷ []) ∷ part.Line h ∷ part.Stats acc ∷ v in
      whole_read d (x.Comma ∷ x.Expr 1 ∷ x.ForStep c' ∷ x.Block c ∷ s) u
      ∙ whole_read f (x.ForStep c' ∷ x.Block c ∷ s) (part.Expr a ∷ u)
      ∙ whole_read i (x.Do c' ∷ x.Make act.NumericBy ∷ x.Block c ∷ s) (part.Expr b ∷ part.Expr a ∷ u)
      ∙ do_read g c' (x.Make act.NumericBy ∷ x.Block c ∷ s) (part.Expr e ∷ part.Expr b ∷ part.Expr a ∷ u)
      ∙ make_pops act.NumericBy (x.Block c ∷ s) (part.Block inner ∷ part.Expr e ∷ part.Expr b ∷ part.Expr a ∷ u) r
  stat_read {r = r} (generic {h = h} {xs = ys} {es = es} {body = inner} d f g) c s acc v =
      let u = part.Line h ∷ part.Stats acc ∷ v in
      for_read d c (x.Block c ∷ s) u
      ∙ exprs_read f [] (x.Do (scoped c ys) ∷ x.Make act.Generic ∷ x.Block c ∷ s) (part.Names ys ∷ u)
      ∙ do_read g (scoped c ys) (x.Make act.Generic ∷ x.Block c ∷ s) (part.Exprs es ∷ part.Names ys ∷ u)
      ∙ make_pops act.Generic (x.Block c ∷ s) (part.Block inner ∷ part.Exprs es ∷ part.Names ys ∷ u) r
  stat_read {r = r} (function_stat {v = t} {b = b} {mid = mid} d f) c s acc v =
      path_read d (x.Make act.AssignFunction ∷ x.Block c ∷ s) (part.Stats acc ∷ v)
      ∙ body_read f x.FunctionPath 0 (part.Suffixes (path_suffixes d) ∷ part.Expr (path_base d) ∷ part.Stats acc ∷ v) (part.Targets (t ∷ []) ∷ part.Stats acc ∷ v)
      (x.Make act.AssignFunction ∷ x.Block c ∷ s)
      (λ m s ts. ap (λ (t : Target). run (x.FirstParameter 0 ∷ s) (part.Names [] ∷ part.Targets (t ∷ []) ∷ part.Stats acc ∷ v) ts) (end_path d))
      ∙ make_pops act.AssignFunction (x.Block c ∷ s) (part.Body b ∷ part.Targets (t ∷ []) ∷ part.Stats acc ∷ v) r
  stat_read {r = r} (method_stat {l = l} {x = z} {y = y} {xs = ys} {b = b} d f) c s acc v =
      dots_read d [] (x.Make act.AssignFunction ∷ x.Block c ∷ s) (part.Expr (e.Name z) ∷ part.Stats acc ∷ v)
      ∙ body_read f x.MethodParameters 1 (part.Suffixes (ys ++ suffix.Index (e.Text y) l ∷ []) ∷ part.Expr (e.Name z) ∷ part.Stats acc ∷ v)
      (part.Targets (target.Element (suffixed (e.Name z) ys) (e.Text y) l ∷ []) ∷ part.Stats acc ∷ v) (x.Make act.AssignFunction ∷ x.Block c ∷ s)
      (λ m s ts. ap (λ (t : Target). run (x.FirstParameter 1 ∷ s) (part.Names (self ∷ []) ∷ part.Targets (t ∷ []) ∷ part.Stats acc ∷ v) ts) (element_target (e.Name z) (e.Text y) l ys))
      ∙ make_pops act.AssignFunction (x.Block c ∷ s) (part.Body b ∷ part.Targets (target.Element (suffixed (e.Name z) ys) (e.Text y) l ∷ []) ∷ part.Stats acc ∷ v) r
  stat_read {r = r} (local_function {x = y} {b = b} d) c s acc v =
      body_read d x.Parameters 0 (part.Name y ∷ part.Stats acc ∷ v) (part.Name y ∷ part.Stats acc ∷ v) (x.Make act.LocalFunction ∷ x.Block (with_one c) ∷ s) (λ m s ts. refl)
      ∙ make_pops act.LocalFunction (x.Block (with_one c) ∷ s) (part.Body b ∷ part.Name y ∷ part.Stats acc ∷ v) r
  stat_read {r = r} (local_alone {xs = ys} d n m) c s acc v =
      locals_read d c s (part.Stats acc ∷ v) ∙ local_begins (scoped c ys) s (part.Names ys ∷ part.Stats acc ∷ v) r n m
  stat_read {r = r} (local {xs = ys} {es = es} d f) c s acc v =
      locals_read d c s (part.Stats acc ∷ v)
      ∙ exprs_read f [] (x.Make act.Local ∷ x.Block (scoped c ys) ∷ s) (part.Names ys ∷ part.Stats acc ∷ v)
      ∙ make_pops act.Local (x.Block (scoped c ys) ∷ s) (part.Exprs es ∷ part.Names ys ∷ part.Stats acc ∷ v) r

  pub block_read : {b : Block} {ts r : Lexemes} → IsBlock b ts r → (c : Scope) (s : List Symbol) (v : Parts)
      → run (x.Block c ∷ s) (part.Stats [] ∷ v) ts ≡ run s (part.Block b ∷ v) r
  block_read (block d) c s v = stats_read d c s [] v

  stats_read : {ss : List Stat} {result : Option (List Expr)} {ts r : Lexemes} → IsStats ss result ts r → (c : Scope) (s : List Symbol) (acc : List Stat) (v : Parts)
      → run (x.Block c ∷ s) (part.Stats acc ∷ v) ts ≡ run s (part.Block (block_of (acc ++ ss) result) ∷ v) r
  stats_read {r = r} (end_block n) c s acc v =
      block_pops c s (part.Stats acc ∷ v) r n ∙ ap (λ all. run s (part.Block (block_of all None) ∷ v) r) (sym (append-nil acc))
  stats_read (semicolon d) c s acc v = stats_read d c s acc v
  stats_read {result = result} {r = r} (statement {a = a} {ss = ss} d f) c s acc v =
      stat_read d c s acc v
      ∙ stats_read f (scope_after d c) s (acc ++ a ∷ []) v
      ∙ ap (λ all. run s (part.Block (block_of all result) ∷ v) r) (append_assoc acc (a ∷ []) ss)
  stats_read {r = r} (return {es = es} {mid = mid} d f) c s acc v =
      result_read d (x.OptionalSemicolon c ∷ x.Make act.Return ∷ s) (part.Stats acc ∷ v)
      ∙ end_read f c (x.Make act.Return ∷ s) (part.Exprs es ∷ part.Stats acc ∷ v)
      ∙ make_pops act.Return s (part.Exprs es ∷ part.Stats acc ∷ v) r
      ∙ ap (λ all. run s (part.Block (block_of all (Some es)) ∷ v) r) (sym (append-nil acc))

  result_read : {es : List Expr} {ts r : Lexemes} → IsResult es ts r → (s : List Symbol) (v : Parts) → run (x.ReturnExprs ∷ s) (part.Exprs [] ∷ v) ts ≡ run s (part.Exprs es ∷ v) r
  result_read {r = r} (no_value n) s v = result_leaves s (part.Exprs [] ∷ v) r n
  result_read {ts = ts} (values d) s v = result_begins s (part.Exprs [] ∷ v) ts (begins_exprs d) ∙ exprs_read d [] s v

-- the whole text
abbrev pub at_start : Parts
at_start = part.Stats [] ∷ []

abbrev pub chunk_scope : Scope
chunk_scope = of_function 0 true

pub chunk_read : {b : Block} {ts : Lexemes} → IsBlock b ts [] → run (x.Block chunk_scope ∷ []) at_start ts ≡ Ok (part.Block b ∷ [])
chunk_read d = block_read d chunk_scope [] []

abbrev read_block : Result Parts Lexemes → Block
read_block (Ok v) = block_at v
read_block (Err r) = block_of [] None

-- a list of lexemes is one block at most
pub one_block : {a b : Block} {ts : Lexemes} → IsBlock a ts [] → IsBlock b ts [] → a ≡ b
one_block d f = ap read_block (sym (chunk_read d) ∙ chunk_read f)
