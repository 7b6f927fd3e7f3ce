-- Single steps of the reading.
use Rattle.std.proofs.Common.{◌≡◌, ℕ, ◌+◌, ◌<◌, ◌≤◌, List, [], ◌∷◌, ◌++◌, append_assoc, true, false, nat_le, nat_lt, ◌==◌, refl, sym, ap, ◌∙◌, arith, Result, Option, Some, None, is_some}
use Rattle.std.specs.Bool.{⊤}
use Rattle.std.proofs.lemmas.Bool.Decides.{nat_tests}
use Rattle.lua_tree.specs.declared.token.Word.TheVariants as word
use Rattle.lua_tree.specs.declared.token.Sign.TheVariants as sign
use Rattle.lua_tree.specs.declared.token.TokenKind.{TokenKind}
use Rattle.lua_tree.specs.declared.token.TokenKind.TheVariants as k
use Rattle.lua_tree.specs.declared.tree.UnaryOp.{UnaryOp}
use Rattle.lua_tree.specs.declared.tree.BinaryOp.{BinaryOp}
use Rattle.lua_tree.specs.declared.tree.BinaryOp.TheVariants as binary
use Rattle.lua_grammar.specs.declared.tree.Part.TheVariants as part
use Rattle.lua_grammar.specs.declared.symbol.Phrase.{Phrase}
use Rattle.lua_grammar.specs.declared.symbol.Phrase.TheVariants as phrase
use Rattle.lua_grammar.specs.declared.symbol.Place.TheVariants as place
use Rattle.lua_grammar.specs.declared.symbol.Scope.{Scope}
use Rattle.lua_grammar.specs.declared.symbol.Effect.{Effect}
use Rattle.lua_grammar.specs.declared.symbol.Effect.TheVariants as act
use Rattle.lua_grammar.specs.declared.symbol.Symbol.{Symbol}
use Rattle.lua_grammar.specs.declared.symbol.Symbol.TheVariants as x
use Rattle.lua_grammar.specs.Lexeme.{Lexeme, at, Lexemes, operator, unary_operator, level, groups_left, right_least, is_operator, is_suffix, is_comma, is_separator, is_semicolon, begins_statement, Not}
use Rattle.lua_grammar.specs.Table.{Act, shift, pop, refuse, Step, plain, over, acts_of, next_with, act_of, Others, others, operand, at_unary, at_expr, at_tail, at_chained, at_suffix, at_block, at_more_exprs, at_semicolon, at_more_fields}
use Rattle.lua_grammar.specs.Parts.{Parts, effect_of, effects_of}
use Rattle.lua_grammar.specs.Machine.{State, fed, taken, feed, going, run}

-- what a list does once it is known what its first token does
abbrev pub from : Step → List Symbol → Parts → Lexeme → Lexemes → Result Parts Lexemes
from step s v t ts = going (taken step (λ u. feed s u t) s v t) (λ state. run state.stack state.parts ts) (t ∷ ts)

-- ---- levels

-- the operator, where one is there, has a lower level
abbrev pub below_at : ℕ → Option BinaryOp → Type 0
below_at l (Some o) = level o < l
below_at l None = ⊤

abbrev pub Below : ℕ → Lexemes → Type 0
Below l [] = ⊤
Below l (t ∷ ts) = below_at l (operator t.kind)

pub Below-more : (l m : ℕ) (r : Lexemes) → Below l r → l ≤ m → Below m r
Below-more l m [] h le = tt
Below-more l m (t ∷ ts) h le = on (operator t.kind) h
  where
    on : (o : Option BinaryOp) → below_at l o → below_at m o
    on (Some o) h = omega (arith, h, le)
    on None h = tt

pub Below-none : (l : ℕ) (r : Lexemes) → Not is_operator r → Below l r
Below-none l [] h = tt
Below-none l (t ∷ ts) h = on (operator t.kind) h
  where
    on : (o : Option BinaryOp) → is_some o ≡ false → below_at l o
    on (Some o) h = cc
    on None h = tt

pub level_bounds : (o : BinaryOp) → (1 ≤ level o) × (level o ≤ right_least o) × (level o < 11) × (right_least o ≤ level o + 1) × (right_least o ≤ 11)
level_bounds binary.Or = (omega arith, omega arith, omega arith, omega arith, omega arith)
level_bounds binary.And = (omega arith, omega arith, omega arith, omega arith, omega arith)
level_bounds binary.Less = (omega arith, omega arith, omega arith, omega arith, omega arith)
level_bounds binary.Greater = (omega arith, omega arith, omega arith, omega arith, omega arith)
level_bounds binary.LessEqual = (omega arith, omega arith, omega arith, omega arith, omega arith)
level_bounds binary.GreaterEqual = (omega arith, omega arith, omega arith, omega arith, omega arith)
level_bounds binary.NotEqual = (omega arith, omega arith, omega arith, omega arith, omega arith)
level_bounds binary.Equal = (omega arith, omega arith, omega arith, omega arith, omega arith)
level_bounds binary.BitOr = (omega arith, omega arith, omega arith, omega arith, omega arith)
level_bounds binary.BitXor = (omega arith, omega arith, omega arith, omega arith, omega arith)
level_bounds binary.BitAnd = (omega arith, omega arith, omega arith, omega arith, omega arith)
level_bounds binary.ShiftLeft = (omega arith, omega arith, omega arith, omega arith, omega arith)
level_bounds binary.ShiftRight = (omega arith, omega arith, omega arith, omega arith, omega arith)
level_bounds binary.Concat = (omega arith, omega arith, omega arith, omega arith, omega arith)
level_bounds binary.Add = (omega arith, omega arith, omega arith, omega arith, omega arith)
level_bounds binary.Subtract = (omega arith, omega arith, omega arith, omega arith, omega arith)
level_bounds binary.Multiply = (omega arith, omega arith, omega arith, omega arith, omega arith)
level_bounds binary.Divide = (omega arith, omega arith, omega arith, omega arith, omega arith)
level_bounds binary.Remainder = (omega arith, omega arith, omega arith, omega arith, omega arith)

pub left_right : (o : BinaryOp) → groups_left o ≡ true → right_least o ≡ level o + 1
left_right binary.Concat h = cc
left_right _ h = refl

pub Below-unary : (r : Lexemes) → Below 11 r
Below-unary [] = tt
Below-unary (t ∷ ts) = on (operator t.kind)
  where
    on : (o : Option BinaryOp) → below_at 11 o
    on (Some o) = (level_bounds o).2
    on None = tt

-- ---- tests by their values

pub le_true : (m n : ℕ) → m ≤ n → nat_le m n ≡ true
le_true m n h = grind (arith, nat_tests)

pub le_false : (m n : ℕ) → n < m → nat_le m n ≡ false
le_false m n h = grind (arith, nat_tests)

pub lt_true : (m n : ℕ) → m < n → nat_lt m n ≡ true
lt_true m n h = grind (arith, nat_tests)

pub eq_true : (n : ℕ) → (n == n) ≡ true
eq_true n = grind (arith, nat_tests)

pub eq_false : (m n : ℕ) → m < n → (m == n) ≡ false
eq_false m n h = grind (arith, nat_tests)

-- ---- what goes

pub make_pops : (effect : Effect) (s : List Symbol) (v : Parts) (r : Lexemes) → run (x.Make effect ∷ s) v r ≡ run s (effect_of None effect v) r
make_pops effect s v [] = refl
make_pops effect s v (t ∷ ts) = refl

tail_leaves : (p q : ℕ) (o : Option BinaryOp) → below_at p o → at_tail p q o ≡ pop []
tail_leaves p q (Some o) h = rw (le_false p (level o) h) refl
tail_leaves p q None h = refl

pub tail_pops : (p q : ℕ) (s : List Symbol) (v : Parts) (r : Lexemes) → Below p r → run (x.Tail p q ∷ s) v r ≡ run s v r
tail_pops p q s v [] h = refl
tail_pops p q s v (t ∷ ts) h = ap (λ a. from (plain a) s v t ts) (tail_leaves p q (operator t.kind) h)

chained_leaves : (l : ℕ) (o : Option BinaryOp) → below_at l o → at_chained l o ≡ pop (act.EndChain ∷ [])
chained_leaves l (Some o) h = rw (eq_false (level o) l h) refl
chained_leaves l None h = refl

pub chained_pops : (l : ℕ) (s : List Symbol) (v : Parts) (r : Lexemes) → Below l r → run (x.Chained l ∷ s) v r ≡ run s (effect_of None act.EndChain v) r
chained_pops l s v [] h = refl
chained_pops l s v (t ∷ ts) h = ap (λ a. from (plain a) s v t ts) (chained_leaves l (operator t.kind) h)

suffix_leaves : (p : Phrase) (kind : TokenKind) → is_suffix kind ≡ false → at_suffix place.Expression p kind ≡ pop (act.EndSuffixes ∷ [])
suffix_leaves p (k.Sign sign.Dot) h = cc
suffix_leaves p (k.Sign sign.OpenBracket) h = cc
suffix_leaves p (k.Sign sign.Colon) h = cc
suffix_leaves p (k.Sign sign.OpenParen) h = cc
suffix_leaves p (k.Sign sign.OpenBrace) h = cc
suffix_leaves p (k.Text t) h = cc
suffix_leaves p _ h = refl

pub suffix_pops : (p : Phrase) (s : List Symbol) (v : Parts) (r : Lexemes) → Not is_suffix r → run (x.Suffix place.Expression p ∷ s) v r ≡ run s (effect_of None act.EndSuffixes v) r
suffix_pops p s v [] h = refl
suffix_pops p s v (t ∷ ts) h = ap (λ a. from (plain a) s v t ts) (suffix_leaves p t.kind h)

call_leaves : (kind : TokenKind) → is_suffix kind ≡ false → at_suffix place.Statement phrase.Call kind ≡ pop (act.EndSuffixes ∷ act.Invoke ∷ [])
call_leaves (k.Sign sign.Dot) h = cc
call_leaves (k.Sign sign.OpenBracket) h = cc
call_leaves (k.Sign sign.Colon) h = cc
call_leaves (k.Sign sign.OpenParen) h = cc
call_leaves (k.Sign sign.OpenBrace) h = cc
call_leaves (k.Text t) h = cc
call_leaves _ h = refl

pub call_pops : (s : List Symbol) (v : Parts) (r : Lexemes) → Not is_suffix r
    → run (x.Suffix place.Statement phrase.Call ∷ s) v r ≡ run s (effect_of None act.Invoke (effect_of None act.EndSuffixes v)) r
call_pops s v [] h = refl
call_pops s v (t ∷ ts) h = ap (λ a. from (plain a) s v t ts) (call_leaves t.kind h)

comma_leaves : (kind : TokenKind) → is_comma kind ≡ false → at_more_exprs kind ≡ pop (act.AddExpr ∷ [])
comma_leaves (k.Sign sign.Comma) h = cc
comma_leaves _ h = refl

pub more_pops : (s : List Symbol) (v : Parts) (r : Lexemes) → Not is_comma r → run (x.MoreExprs ∷ s) v r ≡ run s (effect_of None act.AddExpr v) r
more_pops s v [] h = refl
more_pops s v (t ∷ ts) h = ap (λ a. from (plain a) s v t ts) (comma_leaves t.kind h)

semicolon_leaves : (kind : TokenKind) → is_semicolon kind ≡ false → at_semicolon kind ≡ pop []
semicolon_leaves (k.Sign sign.Semicolon) h = cc
semicolon_leaves _ h = refl

pub semicolon_pops : (c : Scope) (s : List Symbol) (v : Parts) (r : Lexemes) → Not is_semicolon r → run (x.OptionalSemicolon c ∷ s) v r ≡ run s v r
semicolon_pops c s v [] h = refl
semicolon_pops c s v (t ∷ ts) h = ap (λ a. from (plain a) s v t ts) (semicolon_leaves t.kind h)

block_leaves : (c : Scope) (kind : TokenKind) → begins_statement kind ≡ false → at_block c kind ≡ pop (act.EndBlock ∷ [])
block_leaves c (k.Sign sign.Semicolon) h = cc
block_leaves c (k.Name t) h = cc
block_leaves c (k.Sign sign.OpenParen) h = cc
block_leaves c (k.Word word.Break) h = cc
block_leaves c (k.Word word.Do) h = cc
block_leaves c (k.Word word.While) h = cc
block_leaves c (k.Word word.Repeat) h = cc
block_leaves c (k.Word word.If) h = cc
block_leaves c (k.Word word.For) h = cc
block_leaves c (k.Word word.Function) h = cc
block_leaves c (k.Word word.Local) h = cc
block_leaves c (k.Word word.Return) h = cc
block_leaves c _ h = refl

pub block_pops : (c : Scope) (s : List Symbol) (v : Parts) (r : Lexemes) → Not begins_statement r → run (x.Block c ∷ s) v r ≡ run s (effect_of None act.EndBlock v) r
block_pops c s v [] h = refl
block_pops c s v (t ∷ ts) h = ap (λ a. from (plain a) s v t ts) (block_leaves c t.kind h)

-- ---- what takes

pub tail_takes : (p q n : ℕ) (kind : TokenKind) (o : BinaryOp) (s : List Symbol) (v : Parts) (ts : Lexemes) → operator kind ≡ Some o → p ≤ level o → level o < q
    → run (x.Tail p q ∷ s) v (at kind n ∷ ts) ≡ run (operand o ++ x.Tail p (level o) ∷ s) (part.Line n ∷ part.Operands [] ∷ v) ts
tail_takes p q n kind o s v ts h i j =
    let e : at_tail p q (operator kind) ≡ shift (act.OpenOperands ∷ act.Line ∷ []) (operand o ++ x.Tail p (level o) ∷ []) =
    ap (at_tail p q) h ∙ rw (le_true p (level o) i, lt_true (level o) q j) refl in
    ap (λ a. from (plain a) s v (at kind n) ts) e

pub chained_takes : (n : ℕ) (kind : TokenKind) (o : BinaryOp) (s : List Symbol) (v : Parts) (ts : Lexemes) → operator kind ≡ Some o → groups_left o ≡ true
    → run (x.Chained (level o) ∷ s) v (at kind n ∷ ts) ≡ run (operand o ++ s) (part.Line n ∷ v) ts
chained_takes n kind o s v ts h i =
    let e : at_chained (level o) (operator kind) ≡ shift (act.Line ∷ []) (operand o) = ap (at_chained (level o)) h ∙ rw (eq_true (level o), i) refl in
    ap (λ a. from (plain a) s v (at kind n) ts) e

unary_at : (p : ℕ) (kind : TokenKind) (o : UnaryOp) → unary_operator kind ≡ Some o → at_expr p kind ≡ at_unary p (Some o)
unary_at p (k.Word word.Not) o h = ap (at_unary p) h
unary_at p (k.Sign sign.Hash) o h = ap (at_unary p) h
unary_at p (k.Sign sign.Minus) o h = ap (at_unary p) h
unary_at p (k.Sign sign.Tilde) o h = ap (at_unary p) h
unary_at p _ o h = cc

pub unary_takes : (p n : ℕ) (kind : TokenKind) (o : UnaryOp) (s : List Symbol) (v : Parts) (ts : Lexemes) → unary_operator kind ≡ Some o
    → run (x.Expr p ∷ s) v (at kind n ∷ ts) ≡ run (x.Expr 11 ∷ x.Make (act.Unary o) ∷ x.Tail p 11 ∷ s) (part.Line n ∷ v) ts
unary_takes p n kind o s v ts h = ap (λ a. from (plain a) s v (at kind n) ts) (unary_at p kind o h)

separator_at : (kind : TokenKind) → is_separator kind ≡ true → at_more_fields kind ≡ shift [] (x.Fields ∷ [])
separator_at (k.Sign sign.Comma) h = refl
separator_at (k.Sign sign.Semicolon) h = refl
separator_at _ h = cc

pub separator_takes : (n : ℕ) (kind : TokenKind) (s : List Symbol) (v : Parts) (ts : Lexemes) → is_separator kind ≡ true
    → run (x.MoreFields ∷ s) v (at kind n ∷ ts) ≡ run (x.Fields ∷ s) v ts
separator_takes n kind s v ts h = ap (λ a. from (plain a) s v (at kind n) ts) (separator_at kind h)

-- ---- what becomes other symbols

-- none of these becomes others
abbrev pub Flat : List Symbol → TokenKind → Type 0
Flat [] t = ⊤
Flat (x ∷ more) t = (others x t ≡ None) × Flat more t

pub effects_append : (t : Option Lexeme) (es fs : List Effect) (v : Parts) → effects_of t (es ++ fs) v ≡ effects_of t fs (effects_of t es v)
effects_append t [] fs v = refl
effects_append t (e ∷ es) fs v = effects_append t es fs (effect_of t e v)

acts_feed_at : (a : Act) (x : Symbol) (new s : List Symbol) (v : Parts) (t : Lexeme)
    → ((u : Parts) → taken (acts_of new t.kind) (λ u. feed s u t) s u t ≡ feed (new ++ s) u t)
    → taken (over a new (acts_of new t.kind)) (λ u. feed s u t) s v t ≡ taken (plain a) (λ u. feed (new ++ s) u t) (new ++ s) v t
acts_feed_at (shift es more) x new s v t go_on = ap {A = List Symbol} {B = Option State} (λ stack. Some (record { stack = stack; parts = effects_of (Some t) es v })) (append_assoc more new s)
acts_feed_at (pop es) x new s v t go_on =
    ap (λ u. fed (acts_of new t.kind).act (λ u. feed s u t) s u t) (effects_append None es (acts_of new t.kind).first v) ∙ go_on (effects_of None es v)
acts_feed_at refuse x new s v t go_on = refl

-- several symbols do what they do one after another
pub acts_feed : (new s : List Symbol) (v : Parts) (t : Lexeme) → Flat new t.kind → taken (acts_of new t.kind) (λ u. feed s u t) s v t ≡ feed (new ++ s) v t
acts_feed [] s v t h = refl
acts_feed (x ∷ new) s v t h =
    acts_feed_at (act_of x t.kind) x new s v t (λ u. acts_feed new s u t h.1)
    ∙ ap (λ o. taken (next_with o x t.kind) (λ u. feed (new ++ s) u t) (new ++ s) v t) (sym h.0)

pub feed_becomes : (x : Symbol) (o : Others) (s : List Symbol) (v : Parts) (t : Lexeme) → others x t.kind ≡ Some o → Flat o.symbols t.kind
    → feed (x ∷ s) v t ≡ feed (o.symbols ++ s) (effects_of None o.effects v) t
feed_becomes x o s v t h flat =
    ap (λ other. taken (next_with other x t.kind) (λ u. feed s u t) s v t) h
    ∙ ap (λ u. fed (acts_of o.symbols t.kind).act (λ u. feed s u t) s u t) (effects_append None o.effects (acts_of o.symbols t.kind).first v)
    ∙ acts_feed o.symbols s (effects_of None o.effects v) t flat

pub run_becomes : (x : Symbol) (o : Others) (s : List Symbol) (v : Parts) (t : Lexeme) (ts : Lexemes) → others x t.kind ≡ Some o → Flat o.symbols t.kind
    → run (x ∷ s) v (t ∷ ts) ≡ run (o.symbols ++ s) (effects_of None o.effects v) (t ∷ ts)
run_becomes x o s v t ts h flat = ap (λ fed. going fed (λ state. run state.stack state.parts ts) (t ∷ ts)) (feed_becomes x o s v t h flat)
