-- Where no token is refused, some chunk goes on so; where one is, none does.
use Rattle.std.proofs.Common.{◌≡◌, ℕ, List, [], ◌∷◌, ◌++◌, append_assoc, Bool, true, false, not, nat_le, nat_lt, ◌==◌, if◌then◌else◌, refl, sym, ap, ◌∙◌, subst, Ok, Option, Some, None, option_and_then}
use Rattle.std.specs.Bool.{⊤}
use Rattle.std.specs.List.{flat_map}
use Rattle.std.proofs.lemmas.List.{append-nil}
use Rattle.lua_tree.specs.declared.token.Word.{Word}
use Rattle.lua_tree.specs.declared.token.Word.TheVariants as word
use Rattle.lua_tree.specs.declared.token.Sign.{Sign}
use Rattle.lua_tree.specs.declared.token.Sign.TheVariants as sign
use Rattle.lua_tree.specs.declared.token.TokenKind.{TokenKind}
use Rattle.lua_tree.specs.declared.token.TokenKind.TheVariants as k
use Rattle.lua_tree.specs.declared.tree.BinaryOp.{BinaryOp}
use Rattle.lua_tree.specs.declared.tree.Expr.TheVariants as e
use Rattle.lua_tree.specs.declared.tree.Expr.TheVariants.{outs-Name}
use Rattle.lua_grammar.specs.declared.tree.Part.TheVariants as part
use Rattle.lua_grammar.specs.declared.symbol.Phrase.{Phrase}
use Rattle.lua_grammar.specs.declared.symbol.Phrase.TheVariants as phrase
use Rattle.lua_grammar.specs.declared.symbol.Place.{Place}
use Rattle.lua_grammar.specs.declared.symbol.Place.TheVariants as place
use Rattle.lua_grammar.specs.declared.symbol.Scope.{Scope}
use Rattle.lua_grammar.specs.declared.symbol.Effect.{Effect}
use Rattle.lua_grammar.specs.declared.symbol.Effect.TheVariants as act
use Rattle.lua_grammar.specs.declared.symbol.Symbol.{Symbol}
use Rattle.lua_grammar.specs.declared.symbol.Symbol.TheVariants as x
use Rattle.lua_grammar.specs.Lexeme.{Lexeme, at, Lexemes, operator, level, groups_left, is_operator, is_suffix, is_comma, is_semicolon, is_assign, begins_statement, begins_expr, Not}
use Rattle.lua_grammar.specs.Grammar.{IsViable}
use Rattle.lua_grammar.specs.Table.{Act, shift, pop, refuse, next_with, act_of, Others, others, operand, with_one, function_block, is_close, begins_field, is_assign_sign, goes_on_with_names, at_expr, at_tail, at_chained, at_suffix, at_phrase, at_block, at_name}
use Rattle.lua_grammar.specs.Parts.{Parts, effect_of, effects_of}
use Rattle.lua_grammar.specs.Machine.{State, fed, taken, feed, going, run, drive}
use Rattle.lua_grammar.proofs.Steps.{Below-none, Flat, feed_becomes, make_pops, tail_pops, chained_pops, suffix_pops, call_pops, more_pops, semicolon_pops, block_pops}
use Rattle.lua_grammar.proofs.Complete.{chunk_read, local_begins, result_leaves, at_start, chunk_scope}
use Rattle.lua_grammar.proofs.Sound.{run_block, others_flat, others_are, none_some}

abbrev here : TokenKind → Lexeme
here kind = at kind 0

abbrev sign_here : Sign → Lexeme
sign_here x = here (k.Sign x)

abbrev word_here : Word → Lexeme
word_here x = here (k.Word x)

abbrev name_here : Lexeme
name_here = here (k.Name [])

abbrev nil_here : Lexeme
nil_here = here (k.Word word.Nil)

-- a value of an assignment
abbrev value_here : Lexemes
value_here = sign_here sign.Assign ∷ nil_here ∷ []

abbrev body_here : Lexemes
body_here = sign_here sign.CloseParen ∷ word_here word.End ∷ []

abbrev do_here : Lexemes
do_here = word_here word.Do ∷ word_here word.End ∷ []

-- tokens that end what is expected
abbrev finishing : Symbol → Lexemes
finishing (x.Make effect) = []
finishing (x.Expr p) = nil_here ∷ []
finishing (x.Tail p q) = []
finishing (x.Chained l) = []
finishing x.MoreExprs = []
finishing (x.Suffix place.Expression p) = []
finishing (x.Suffix place.Statement phrase.Call) = []
finishing (x.Suffix place.Statement phrase.Var) = value_here
finishing (x.Suffix place.Statement phrase.Enclosed) = sign_here sign.OpenParen ∷ sign_here sign.CloseParen ∷ []
finishing (x.Suffix place.Target phrase.Var) = value_here
finishing (x.Suffix place.Target phrase.Call) = sign_here sign.Dot ∷ name_here ∷ value_here
finishing (x.Suffix place.Target phrase.Enclosed) = sign_here sign.Dot ∷ name_here ∷ value_here
finishing x.DotName = name_here ∷ []
finishing x.MethodName = name_here ∷ sign_here sign.OpenParen ∷ sign_here sign.CloseParen ∷ []
finishing x.MethodArguments = sign_here sign.OpenParen ∷ sign_here sign.CloseParen ∷ []
finishing x.Arguments = sign_here sign.CloseParen ∷ []
finishing x.MoreArguments = sign_here sign.CloseParen ∷ []
finishing x.CloseIndex = sign_here sign.CloseBracket ∷ []
finishing x.CloseParen = sign_here sign.CloseParen ∷ []
finishing x.Fields = sign_here sign.CloseBrace ∷ []
finishing x.MoreFields = sign_here sign.CloseBrace ∷ []
finishing x.NameField = sign_here sign.CloseBrace ∷ []
finishing x.CloseKey = sign_here sign.CloseBracket ∷ []
finishing x.Assign = sign_here sign.Assign ∷ []
finishing (x.Block c) = []
finishing x.ReturnExprs = []
finishing (x.OptionalSemicolon c) = []
finishing x.Target = name_here ∷ value_here
finishing x.Comma = sign_here sign.Comma ∷ []
finishing (x.Then c) = word_here word.Then ∷ []
finishing (x.Else c) = word_here word.End ∷ []
finishing (x.Do c) = do_here
finishing x.Until = word_here word.Until ∷ []
finishing x.End = word_here word.End ∷ []
finishing (x.For c) = name_here ∷ word_here word.In ∷ nil_here ∷ do_here
finishing (x.ForName c) = name_here ∷ word_here word.In ∷ nil_here ∷ do_here
finishing (x.ForFirst c) = word_here word.In ∷ nil_here ∷ do_here
finishing (x.ForMore c) = word_here word.In ∷ nil_here ∷ do_here
finishing (x.ForStep c) = do_here
finishing (x.Local c) = name_here ∷ []
finishing (x.LocalName c) = name_here ∷ []
finishing (x.LocalMore c) = []
finishing (x.LocalFunction c) = name_here ∷ sign_here sign.OpenParen ∷ body_here
finishing x.FunctionName = name_here ∷ sign_here sign.OpenParen ∷ body_here
finishing x.FunctionPath = sign_here sign.OpenParen ∷ body_here
finishing x.MethodParameters = sign_here sign.OpenParen ∷ body_here
finishing x.Parameters = sign_here sign.OpenParen ∷ body_here
finishing (x.FirstParameter n) = body_here
finishing (x.NextParameter n) = name_here ∷ body_here
finishing (x.MoreParameters n) = body_here
finishing (x.CloseDots n) = body_here

abbrev to_finish : List Symbol → Lexemes
to_finish = flat_map finishing

-- ---- what may come after a symbol's tokens, so that they end it

-- nothing that goes on with an expression
abbrev Calm : Lexemes → Type 0
Calm w = Not is_operator w × Not is_suffix w

abbrev ends_list : TokenKind → Bool
ends_list (k.Word word.End) = true
ends_list (k.Word word.Until) = true
ends_list (k.Word word.Do) = true
ends_list _ = false

abbrev ends_block : TokenKind → Bool
ends_block (k.Word word.End) = true
ends_block (k.Word word.Until) = true
ends_block _ = false

-- the first lexeme, where there is one, is one of these
abbrev First : (TokenKind → Bool) → Lexemes → Type 0
First test [] = ⊤
First test (t ∷ ts) = test t.kind ≡ true

list_is_calm : (kind : TokenKind) → ends_list kind ≡ true → (is_operator kind ≡ false) × (is_suffix kind ≡ false) × (is_comma kind ≡ false)
list_is_calm (k.Word word.End) h = (refl, refl, refl)
list_is_calm (k.Word word.Until) h = (refl, refl, refl)
list_is_calm (k.Word word.Do) h = (refl, refl, refl)
list_is_calm _ h = cc

block_is_calm : (kind : TokenKind) → ends_block kind ≡ true
    → (ends_list kind ≡ true) × (begins_statement kind ≡ false) × (begins_expr kind ≡ false) × (is_semicolon kind ≡ false) × (is_comma kind ≡ false) × (is_assign kind ≡ false)
block_is_calm (k.Word word.End) h = (refl, refl, refl, refl, refl, refl)
block_is_calm (k.Word word.Until) h = (refl, refl, refl, refl, refl, refl)
block_is_calm _ h = cc

list_calm : (w : Lexemes) → First ends_list w → Calm w
list_calm [] h = (tt, tt)
list_calm (t ∷ w) h = let c = list_is_calm t.kind h in (c.0, c.1)

list_comma : (w : Lexemes) → First ends_list w → Not is_comma w
list_comma [] h = tt
list_comma (t ∷ w) h = (list_is_calm t.kind h).2

block_list : (w : Lexemes) → First ends_block w → First ends_list w
block_list [] h = tt
block_list (t ∷ w) h = (block_is_calm t.kind h).0

block_statement : (w : Lexemes) → First ends_block w → Not begins_statement w
block_statement [] h = tt
block_statement (t ∷ w) h = (block_is_calm t.kind h).1

block_expr : (w : Lexemes) → First ends_block w → Not begins_expr w
block_expr [] h = tt
block_expr (t ∷ w) h = (block_is_calm t.kind h).2

block_semicolon : (w : Lexemes) → First ends_block w → Not is_semicolon w
block_semicolon [] h = tt
block_semicolon (t ∷ w) h = (block_is_calm t.kind h).3

block_comma : (w : Lexemes) → First ends_block w → Not is_comma w
block_comma [] h = tt
block_comma (t ∷ w) h = (block_is_calm t.kind h).4

block_assign : (w : Lexemes) → First ends_block w → Not is_assign w
block_assign [] h = tt
block_assign (t ∷ w) h = (block_is_calm t.kind h).5

abbrev Quiet : Symbol → Lexemes → Type 0
Quiet (x.Expr p) w = Calm w
Quiet (x.Tail p q) w = Calm w
Quiet (x.Chained l) w = Calm w
Quiet (x.Suffix place.Expression p) w = Calm w
Quiet (x.Suffix place.Statement p) w = First ends_list w
Quiet (x.Suffix place.Target p) w = First ends_list w
Quiet x.Target w = First ends_list w
Quiet x.MoreExprs w = First ends_list w
Quiet (x.Block c) w = First ends_block w
Quiet x.ReturnExprs w = First ends_block w
Quiet (x.OptionalSemicolon c) w = First ends_block w
Quiet (x.Then c) w = First ends_block w
Quiet (x.Local c) w = First ends_block w
Quiet (x.LocalName c) w = First ends_block w
Quiet (x.LocalMore c) w = First ends_block w
Quiet (x.LocalFunction c) w = First ends_block w
Quiet _ w = ⊤

-- a symbol is ended by its tokens, whatever quiet comes after them
abbrev Finishes : Symbol → Type 0
Finishes y = (s : List Symbol) (v : Parts) (w : Lexemes) → Quiet y w → (u : Parts) × (run (y ∷ s) v (finishing y ++ w) ≡ run s u w)

tail_ends : (p q : ℕ) (s : List Symbol) (v : Parts) (w : Lexemes) → Calm w → run (x.Tail p q ∷ s) v w ≡ run s v w
tail_ends p q s v w h = tail_pops p q s v w (Below-none p w h.0)

-- an assignment that needs no more
assign_ends : (s : List Symbol) (v : Parts) (w : Lexemes) → First ends_list w → (u : Parts) × (run (x.Tail 1 12 ∷ x.MoreExprs ∷ x.Make act.Assign ∷ s) v w ≡ run s u w)
assign_ends s v w h =
    (_, tail_ends 1 12 (x.MoreExprs ∷ x.Make act.Assign ∷ s) v w (list_calm w h) ∙ more_pops (x.Make act.Assign ∷ s) v w (list_comma w h) ∙ make_pops act.Assign s (effect_of None act.AddExpr v) w)

block_ends : (c : Scope) (s : List Symbol) (v : Parts) (w : Lexemes) → First ends_block w → (u : Parts) × (run (x.Block c ∷ s) v w ≡ run s u w)
block_ends c s v w h = (_, block_pops c s v w (block_statement w h))

local_ends : (c : Scope) (s : List Symbol) (v : Parts) (w : Lexemes) → First ends_block w → (u : Parts) × (run (x.LocalMore c ∷ s) v w ≡ run s u w)
local_ends c s v w h = (_, local_begins c s v w (block_comma w h) (block_assign w h) ∙ block_pops c s (effect_of None act.LocalAlone v) w (block_statement w h))

make_ends : (effect : Effect) (s : List Symbol) (v : Parts) (w : Lexemes) → (u : Parts) × (run (x.Make effect ∷ s) v w ≡ run s u w)
make_ends effect s v w = (_, make_pops effect s v w)

finishes : (y : Symbol) → Finishes y
finishes (x.Make effect) = λ s v w h. make_ends effect s v w
finishes (x.Expr p) = λ s v w h. (_, tail_ends p 12 s (part.Expr e.Nil ∷ v) w h)
finishes (x.Tail p q) = λ s v w h. (v, tail_ends p q s v w h)
finishes (x.Chained l) = λ s v w h. (_, chained_pops l s v w (Below-none l w h.0))
finishes x.MoreExprs = λ s v w h. (_, more_pops s v w (list_comma w h))
finishes (x.Suffix place.Expression p) = λ s v w h. (_, suffix_pops p s v w h.1)
finishes (x.Suffix place.Statement phrase.Call) = λ s v w h. (_, call_pops s v w (list_calm w h).1)
finishes (x.Suffix place.Statement phrase.Var) = λ s v w h. assign_ends s _ w h
finishes (x.Suffix place.Statement phrase.Enclosed) = λ s v w h.
    (_, make_pops act.AddCall (x.Suffix place.Statement phrase.Call ∷ s) (part.Exprs [] ∷ part.Line 0 ∷ v) w ∙ call_pops s _ w (list_calm w h).1)
finishes (x.Suffix place.Target phrase.Var) = λ s v w h. assign_ends s _ w h
finishes (x.Suffix place.Target phrase.Call) = λ s v w h. assign_ends s _ w h
finishes (x.Suffix place.Target phrase.Enclosed) = λ s v w h. assign_ends s _ w h
finishes x.DotName = λ s v w h. (_, refl)
finishes x.MethodName = λ s v w h. make_ends act.AddMethod s _ w
finishes x.MethodArguments = λ s v w h. make_ends act.AddMethod s _ w
finishes x.Arguments = λ s v w h. (_, refl)
finishes x.MoreArguments = λ s v w h. (_, refl)
finishes x.CloseIndex = λ s v w h. (_, refl)
finishes x.CloseParen = λ s v w h. (_, refl)
finishes x.Fields = λ s v w h. (_, refl)
finishes x.MoreFields = λ s v w h. (_, refl)
finishes x.NameField = λ s v w h. (_, refl)
finishes x.CloseKey = λ s v w h. (_, refl)
finishes x.Assign = λ s v w h. (_, refl)
finishes (x.Block c) = λ s v w h. block_ends c s v w h
finishes x.ReturnExprs = λ s v w h. (v, result_leaves s v w (block_expr w h))
finishes (x.OptionalSemicolon c) = λ s v w h. (v, semicolon_pops c s v w (block_semicolon w h))
finishes x.Target = λ s v w h. assign_ends s _ w h
finishes x.Comma = λ s v w h. (_, refl)
finishes (x.Then c) = λ s v w h. block_ends c s _ w h
finishes (x.Else c) = λ s v w h. (_, refl)
finishes (x.Do c) = λ s v w h. (_, refl)
finishes x.Until = λ s v w h. (_, refl)
finishes x.End = λ s v w h. (_, refl)
finishes (x.For c) = λ s v w h. make_ends act.Generic s _ w
finishes (x.ForName c) = λ s v w h. make_ends act.Generic s _ w
finishes (x.ForFirst c) = λ s v w h. make_ends act.Generic s _ w
finishes (x.ForMore c) = λ s v w h. make_ends act.Generic s _ w
finishes (x.ForStep c) = λ s v w h. make_ends act.Numeric s _ w
finishes (x.Local c) = λ s v w h. local_ends (with_one c) s _ w h
finishes (x.LocalName c) = λ s v w h. local_ends (with_one c) s _ w h
finishes (x.LocalMore c) = λ s v w h. local_ends c s v w h
finishes (x.LocalFunction c) = λ s v w h.
    let u = part.Stats [] ∷ part.Names [] ∷ part.Name [] ∷ v in
    let f = effect_of None (act.Body false) (effect_of None act.EndBlock u) in (
      _,
      make_pops (act.Body false) (x.Make act.LocalFunction ∷ x.Block (with_one c) ∷ s) (effect_of None act.EndBlock u) w
          ∙ make_pops act.LocalFunction (x.Block (with_one c) ∷ s) f w
          ∙ block_pops (with_one c) s (effect_of None act.LocalFunction f) w (block_statement w h),
    )
finishes x.FunctionName = λ s v w h. make_ends (act.Body false) s _ w
finishes x.FunctionPath = λ s v w h. make_ends (act.Body false) s _ w
finishes x.MethodParameters = λ s v w h. make_ends (act.Body false) s _ w
finishes x.Parameters = λ s v w h. make_ends (act.Body false) s _ w
finishes (x.FirstParameter n) = λ s v w h. make_ends (act.Body false) s _ w
finishes (x.NextParameter n) = λ s v w h. make_ends (act.Body false) s _ w
finishes (x.MoreParameters n) = λ s v w h. make_ends (act.Body false) s _ w
finishes (x.CloseDots n) = λ s v w h. make_ends (act.Body true) s _ w

-- ---- stacks that come up

-- each symbol is ended by its tokens before those of the symbols below it
abbrev QuietAll : List Symbol → Lexemes → Type 0
QuietAll [] w = ⊤
QuietAll (y ∷ s) w = Quiet y (to_finish s ++ w) × QuietAll s w

completes : (s : List Symbol) (v : Parts) → QuietAll s [] → (w : Parts) × (run s v (to_finish s) ≡ Ok w)
completes [] v h = (v, refl)
completes (y ∷ s) v h =
    let g = finishes y s v (to_finish s) (subst (λ w. Quiet y w) (append-nil (to_finish s)) h.0) in
    let f = completes s g.0 h.1 in
    (f.0, g.1 ∙ f.1)

-- each entry of the table keeps this
abbrev Keeps : Act → Symbol → Type 0
Keeps (shift effects new) y = (w : Lexemes) → Quiet y w → QuietAll new w
Keeps (pop effects) y = Unit {0}
Keeps refuse y = Unit {0}

keeps_expr : (p : ℕ) (kind : TokenKind) → Keeps (at_expr p kind) (x.Expr p)
keeps_expr p (k.Int i) = λ w h. (h, tt)
keeps_expr p (k.Text t) = λ w h. (h, tt)
keeps_expr p (k.Name t) = λ w h. (h, (h, tt))
keeps_expr p (k.Word word.Nil) = λ w h. (h, tt)
keeps_expr p (k.Word word.False) = λ w h. (h, tt)
keeps_expr p (k.Word word.True) = λ w h. (h, tt)
keeps_expr p (k.Word word.Function) = λ w h. (tt, (tt, (h, tt)))
keeps_expr p (k.Sign sign.Dots) = λ w h. (h, tt)
keeps_expr p (k.Sign sign.OpenParen) = λ w h. ((refl, refl), (tt, (h, (h, tt))))
keeps_expr p (k.Sign sign.OpenBrace) = λ w h. (tt, (tt, (h, tt)))
keeps_expr p (k.Word word.Not) = λ w h. (h, (tt, (h, tt)))
keeps_expr p (k.Sign sign.Hash) = λ w h. (h, (tt, (h, tt)))
keeps_expr p (k.Sign sign.Minus) = λ w h. (h, (tt, (h, tt)))
keeps_expr p (k.Sign sign.Tilde) = λ w h. (h, (tt, (h, tt)))
keeps_expr p _ = tt

keeps_operator : (p q : ℕ) (o : BinaryOp) (b c : Bool)
    → Keeps (if b then (if c then shift (act.OpenOperands ∷ act.Line ∷ []) (operand o ++ x.Tail p (level o) ∷ []) else refuse) else pop []) (x.Tail p q)
keeps_operator p q o true true = λ w h. (h, (tt, (h, (h, tt))))
keeps_operator p q o true false = tt
keeps_operator p q o false c = tt

keeps_tail : (p q : ℕ) (o : Option BinaryOp) → Keeps (at_tail p q o) (x.Tail p q)
keeps_tail p q (Some o) = keeps_operator p q o (nat_le p (level o)) (nat_lt (level o) q)
keeps_tail p q None = tt

keeps_chain : (l : ℕ) (o : BinaryOp) (b c : Bool) → Keeps (if b then (if c then shift (act.Line ∷ []) (operand o) else refuse) else pop (act.EndChain ∷ [])) (x.Chained l)
keeps_chain l o true true = λ w h. (h, (tt, (h, tt)))
keeps_chain l o true false = tt
keeps_chain l o false c = tt

keeps_chained : (l : ℕ) (o : Option BinaryOp) → Keeps (at_chained l o) (x.Chained l)
keeps_chained l (Some o) = keeps_chain l o (level o == l) (groups_left o)
keeps_chained l None = tt

-- a prefix is quiet where its phrase does not matter
abbrev same_quiet : (w_ : Place) (p q : Phrase) (w : Lexemes) → Quiet (x.Suffix w_ p) w → Quiet (x.Suffix w_ q) w
same_quiet place.Expression p q w h = h
same_quiet place.Statement p q w h = h
same_quiet place.Target p q w h = h

keeps_phrase : (w_ : Place) (p : Phrase) (kind : TokenKind) → Keeps (at_phrase w_ p kind) (x.Suffix w_ p)
keeps_phrase place.Expression p kind = tt
keeps_phrase place.Statement phrase.Call kind = tt
keeps_phrase place.Statement phrase.Var (k.Sign sign.Comma) = λ w h. (h, tt)
keeps_phrase place.Statement phrase.Var (k.Sign sign.Assign) = λ w h. (list_calm w h, (h, (tt, tt)))
keeps_phrase place.Target phrase.Var (k.Sign sign.Comma) = λ w h. (h, tt)
keeps_phrase place.Target phrase.Var (k.Sign sign.Assign) = λ w h. (list_calm w h, (h, (tt, tt)))
keeps_phrase _ _ _ = tt

keeps_suffix : (w_ : Place) (p : Phrase) (kind : TokenKind) → Keeps (at_suffix w_ p kind) (x.Suffix w_ p)
keeps_suffix w_ p (k.Sign sign.Dot) = λ w h. (tt, (same_quiet w_ p phrase.Var w h, tt))
keeps_suffix w_ p (k.Sign sign.OpenBracket) = λ w h. ((refl, refl), (tt, (same_quiet w_ p phrase.Var w h, tt)))
keeps_suffix w_ p (k.Sign sign.Colon) = λ w h. (tt, (same_quiet w_ p phrase.Call w h, tt))
keeps_suffix w_ p (k.Sign sign.OpenParen) = λ w h. (tt, (tt, (same_quiet w_ p phrase.Call w h, tt)))
keeps_suffix w_ p (k.Sign sign.OpenBrace) = λ w h. (tt, (tt, (tt, (tt, (same_quiet w_ p phrase.Call w h, tt)))))
keeps_suffix w_ p (k.Text t) = λ w h. (same_quiet w_ p phrase.Call w h, tt)
keeps_suffix w_ p kind = keeps_phrase w_ p kind

keeps_block : (c : Scope) (kind : TokenKind) → Keeps (at_block c kind) (x.Block c)
keeps_block c (k.Sign sign.Semicolon) = λ w h. (h, tt)
keeps_block c (k.Name t) = λ w h. (block_list w h, (h, tt))
keeps_block c (k.Sign sign.OpenParen) = λ w h. ((refl, refl), (tt, (block_list w h, (h, tt))))
keeps_block c (k.Word word.Break) = λ w h. (h, tt)
keeps_block c (k.Word word.Do) = λ w h. (refl, (tt, (tt, (h, tt))))
keeps_block c (k.Word word.While) = λ w h. ((refl, refl), (tt, (tt, (h, tt))))
keeps_block c (k.Word word.Repeat) = λ w h. (refl, (tt, (list_calm w (block_list w h), (tt, (h, tt)))))
keeps_block c (k.Word word.If) = λ w h. ((refl, refl), (refl, (tt, (h, tt))))
keeps_block c (k.Word word.For) = λ w h. (tt, (h, tt))
keeps_block c (k.Word word.Function) = λ w h. (tt, (tt, (h, tt)))
keeps_block c (k.Word word.Local) = λ w h. (h, tt)
keeps_block c (k.Word word.Return) = λ w h. (h, (h, (tt, tt)))
keeps_block c _ = tt

keeps_name_with : (y : Symbol) (effects : List Effect) (new : List Symbol) (kind : TokenKind) → ((w : Lexemes) → Quiet y w → QuietAll new w) → Keeps (at_name effects new kind) y
keeps_name_with y effects new (k.Name t) h = h
keeps_name_with y effects new _ h = tt

function_quiet : (n : ℕ) (d : Bool) (w : Lexemes) → QuietAll (function_block n d) w
function_quiet n d w = (refl, (tt, (tt, tt)))

keeps : (y : Symbol) (kind : TokenKind) → Keeps (act_of y kind) y
keeps (x.Make effect) kind = tt
keeps (x.Expr p) kind = keeps_expr p kind
keeps (x.Tail p q) kind = keeps_tail p q (operator kind)
keeps (x.Chained l) kind = keeps_chained l (operator kind)
keeps x.MoreExprs (k.Sign sign.Comma) = λ w h. (list_calm w h, (h, tt))
keeps x.MoreExprs _ = tt
keeps (x.Suffix w_ p) kind = keeps_suffix w_ p kind
keeps x.DotName kind = keeps_name_with x.DotName _ _ kind (λ w h. tt)
keeps x.MethodName kind = keeps_name_with x.MethodName _ _ kind (λ w h. (tt, tt))
keeps x.MethodArguments (k.Sign sign.OpenParen) = λ w h. (tt, (tt, tt))
keeps x.MethodArguments (k.Sign sign.OpenBrace) = λ w h. (tt, (tt, (tt, (tt, tt))))
keeps x.MethodArguments (k.Text t) = λ w h. tt
keeps x.MethodArguments _ = tt
keeps x.Arguments (k.Sign sign.CloseParen) = λ w h. tt
keeps x.Arguments _ = tt
keeps x.MoreArguments (k.Sign sign.Comma) = λ w h. ((refl, refl), (tt, tt))
keeps x.MoreArguments (k.Sign sign.CloseParen) = λ w h. tt
keeps x.MoreArguments _ = tt
keeps x.CloseIndex (k.Sign sign.CloseBracket) = λ w h. tt
keeps x.CloseIndex _ = tt
keeps x.CloseParen (k.Sign sign.CloseParen) = λ w h. tt
keeps x.CloseParen _ = tt
keeps x.Fields (k.Sign sign.CloseBrace) = λ w h. tt
keeps x.Fields (k.Name t) = λ w h. (tt, tt)
keeps x.Fields (k.Sign sign.OpenBracket) = λ w h. ((refl, refl), (tt, (tt, ((refl, refl), (tt, (tt, tt))))))
keeps x.Fields _ = tt
keeps x.MoreFields (k.Sign sign.Comma) = λ w h. (tt, tt)
keeps x.MoreFields (k.Sign sign.Semicolon) = λ w h. (tt, tt)
keeps x.MoreFields (k.Sign sign.CloseBrace) = λ w h. tt
keeps x.MoreFields _ = tt
keeps x.NameField (k.Sign sign.Assign) = λ w h. ((refl, refl), (tt, (tt, tt)))
keeps x.NameField _ = tt
keeps x.CloseKey (k.Sign sign.CloseBracket) = λ w h. tt
keeps x.CloseKey _ = tt
keeps x.Assign (k.Sign sign.Assign) = λ w h. tt
keeps x.Assign _ = tt
keeps (x.Block c) kind = keeps_block c kind
keeps x.ReturnExprs kind = tt
keeps (x.OptionalSemicolon c) (k.Sign sign.Semicolon) = λ w h. tt
keeps (x.OptionalSemicolon c) _ = tt
keeps x.Target (k.Name t) = λ w h. (h, tt)
keeps x.Target (k.Sign sign.OpenParen) = λ w h. ((refl, refl), (tt, (h, tt)))
keeps x.Target _ = tt
keeps x.Comma (k.Sign sign.Comma) = λ w h. tt
keeps x.Comma _ = tt
keeps (x.Then c) (k.Word word.Then) = λ w h. (h, tt)
keeps (x.Then c) _ = tt
keeps (x.Else c) (k.Word word.Elseif) = λ w h. ((refl, refl), (refl, (tt, tt)))
keeps (x.Else c) (k.Word word.Else) = λ w h. (refl, (tt, (tt, tt)))
keeps (x.Else c) (k.Word word.End) = λ w h. tt
keeps (x.Else c) _ = tt
keeps (x.Do c) (k.Word word.Do) = λ w h. (refl, (tt, tt))
keeps (x.Do c) _ = tt
keeps x.Until (k.Word word.Until) = λ w h. tt
keeps x.Until _ = tt
keeps x.End (k.Word word.End) = λ w h. tt
keeps x.End _ = tt
keeps (x.For c) kind = keeps_name_with (x.For c) _ _ kind (λ w h. (tt, tt))
keeps (x.ForName c) kind = keeps_name_with (x.ForName c) _ _ kind (λ w h. (tt, tt))
keeps (x.ForFirst c) (k.Sign sign.Assign) = λ w h. ((refl, refl), (tt, ((refl, refl), (tt, tt))))
keeps (x.ForFirst c) (k.Sign sign.Comma) = λ w h. (tt, tt)
keeps (x.ForFirst c) (k.Word word.In) = λ w h. ((refl, refl), (refl, (tt, (tt, tt))))
keeps (x.ForFirst c) _ = tt
keeps (x.ForMore c) (k.Sign sign.Comma) = λ w h. (tt, tt)
keeps (x.ForMore c) (k.Word word.In) = λ w h. ((refl, refl), (refl, (tt, (tt, tt))))
keeps (x.ForMore c) _ = tt
keeps (x.ForStep c) (k.Sign sign.Comma) = λ w h. ((refl, refl), (tt, (tt, tt)))
keeps (x.ForStep c) (k.Word word.Do) = λ w h. (refl, (tt, (tt, tt)))
keeps (x.ForStep c) _ = tt
keeps (x.Local c) (k.Word word.Function) = λ w h. (h, tt)
keeps (x.Local c) (k.Name t) = λ w h. (h, tt)
keeps (x.Local c) _ = tt
keeps (x.LocalName c) kind = keeps_name_with (x.LocalName c) _ _ kind (λ w h. (h, tt))
keeps (x.LocalMore c) (k.Sign sign.Comma) = λ w h. (h, tt)
keeps (x.LocalMore c) (k.Sign sign.Assign) = λ w h. (list_calm w (block_list w h), (block_list w h, (tt, (h, tt))))
keeps (x.LocalMore c) _ = tt
keeps (x.LocalFunction c) kind = keeps_name_with (x.LocalFunction c) _ _ kind (λ w h. (tt, (tt, (h, tt))))
keeps x.FunctionName kind = keeps_name_with x.FunctionName _ _ kind (λ w h. (tt, tt))
keeps x.FunctionPath (k.Sign sign.Dot) = λ w h. (tt, (tt, tt))
keeps x.FunctionPath (k.Sign sign.Colon) = λ w h. (tt, (tt, tt))
keeps x.FunctionPath (k.Sign sign.OpenParen) = λ w h. (tt, tt)
keeps x.FunctionPath _ = tt
keeps x.MethodParameters (k.Sign sign.OpenParen) = λ w h. (tt, tt)
keeps x.MethodParameters _ = tt
keeps x.Parameters (k.Sign sign.OpenParen) = λ w h. (tt, tt)
keeps x.Parameters _ = tt
keeps (x.FirstParameter n) (k.Sign sign.CloseParen) = λ w h. function_quiet n false w
keeps (x.FirstParameter n) (k.Sign sign.Dots) = λ w h. (tt, tt)
keeps (x.FirstParameter n) (k.Name t) = λ w h. (tt, tt)
keeps (x.FirstParameter n) _ = tt
keeps (x.NextParameter n) (k.Sign sign.Dots) = λ w h. (tt, tt)
keeps (x.NextParameter n) (k.Name t) = λ w h. (tt, tt)
keeps (x.NextParameter n) _ = tt
keeps (x.MoreParameters n) (k.Sign sign.Comma) = λ w h. (tt, tt)
keeps (x.MoreParameters n) (k.Sign sign.CloseParen) = λ w h. function_quiet n false w
keeps (x.MoreParameters n) _ = tt
keeps (x.CloseDots n) (k.Sign sign.CloseParen) = λ w h. function_quiet n true w
keeps (x.CloseDots n) _ = tt

-- what a symbol becomes keeps it
others_keep : (y : Symbol) (kind : TokenKind) (o : Others) → others y kind ≡ Some o → (w : Lexemes) → Quiet y w → QuietAll o.symbols w
others_keep x.Arguments kind o h w q = subst (λ (o : Others). QuietAll o.symbols w) (others_are (is_close kind) _ _ o h).1 ((refl, refl), (tt, tt))
others_keep x.Fields kind o h w q = subst (λ (o : Others). QuietAll o.symbols w) (others_are (begins_field kind) _ _ o h).1 ((refl, refl), (tt, (tt, tt)))
others_keep x.NameField kind o h w q = subst (λ (o : Others). QuietAll o.symbols w) (others_are (is_assign_sign kind) _ _ o h).1 ((refl, refl), ((refl, refl), (tt, (tt, tt))))
others_keep x.ReturnExprs kind o h w q =
    subst (λ (o : Others). QuietAll o.symbols w) (others_are (not (begins_expr kind)) _ _ o h).1 (list_calm w (block_list w q), (block_list w q, tt))
others_keep (x.LocalMore c) kind o h w q = subst (λ (o : Others). QuietAll o.symbols w) (others_are (goes_on_with_names kind) _ _ o h).1 (q, tt)
others_keep y kind o h w q = absurd (none_some h)

finish_append : (new s : List Symbol) → to_finish (new ++ s) ≡ to_finish new ++ to_finish s
finish_append [] s = refl
finish_append (y ∷ new) s = ap (λ (l : Lexemes). finishing y ++ l) (finish_append new s) ∙ sym (append_assoc (finishing y) (to_finish new) (to_finish s))

quiet_append : (new s : List Symbol) → QuietAll new (to_finish s) → QuietAll s [] → QuietAll (new ++ s) []
quiet_append [] s h f = f
quiet_append (y ∷ new) s h f =
    (subst (λ w. Quiet y w) (sym (finish_append new s) ∙ sym (append-nil (to_finish (new ++ s)))) h.0, quiet_append new s h.1 f)

abbrev stack_or : List Symbol → Option State → List Symbol
stack_or d (Some state) = state.stack
stack_or d None = d

-- that a token keeps a stack quiet
abbrev StaysQuiet : List Symbol → Lexeme → State → Type 0
StaysQuiet s t state = (v : Parts) → QuietAll s [] → feed s v t ≡ Some state → QuietAll state.stack []

fed_quiet : (a : Act) (y : Symbol) (s : List Symbol) (v : Parts) (t : Lexeme) (state : State) → Keeps a y → QuietAll (y ∷ s) [] → StaysQuiet s t state
    → fed a (λ u. feed s u t) s v t ≡ Some state → QuietAll state.stack []
fed_quiet (shift effects new) y s v t state keep h down e =
    subst (λ s. QuietAll s []) (ap (stack_or []) e) (quiet_append new s (keep (to_finish s) (subst (λ w. Quiet y w) (append-nil (to_finish s)) h.0)) h.1)
fed_quiet (pop effects) y s v t state keep h down e = down (effects_of None effects v) h.1 e
fed_quiet refuse y s v t state keep h down e = cc

simple_quiet : (y : Symbol) (s : List Symbol) (t : Lexeme) (state : State) → others y t.kind ≡ None → StaysQuiet s t state → StaysQuiet (y ∷ s) t state
simple_quiet y s t state none down v h e =
    fed_quiet (act_of y t.kind) y s v t state (keeps y t.kind) h down (subst (λ (o : Option Others). taken (next_with o y t.kind) (λ u. feed s u t) s v t ≡ Some state) none e)

flat_quiet : (new s : List Symbol) (t : Lexeme) (state : State) → Flat new t.kind → StaysQuiet s t state → StaysQuiet (new ++ s) t state
flat_quiet [] s t state flat down = down
flat_quiet (y ∷ new) s t state flat down = simple_quiet y (new ++ s) t state flat.0 (flat_quiet new s t state flat.1 down)

one_quiet : (y : Symbol) (s : List Symbol) (t : Lexeme) (state : State) (o : Option Others) → others y t.kind ≡ o → StaysQuiet s t state → StaysQuiet (y ∷ s) t state
one_quiet y s t state None e down = simple_quiet y s t state e down
one_quiet y s t state (Some o) e down = λ v h f.
    let flat = others_flat y t.kind o e in
    let q = others_keep y t.kind o e (to_finish s) (subst (λ w. Quiet y w) (append-nil (to_finish s)) h.0) in
    flat_quiet o.symbols s t state flat down (effects_of None o.effects v) (quiet_append o.symbols s q h.1) (sym (feed_becomes y o s v t e flat) ∙ f)

feed_quiet : (s : List Symbol) (t : Lexeme) (state : State) → StaysQuiet s t state
feed_quiet [] t state v h e = cc
feed_quiet (y ∷ s) t state v h e = one_quiet y s t state (others y t.kind) refl (feed_quiet s t state) v h e

drove : (o : Option State) (ts : Lexemes) (state : State) (s : List Symbol) (v : Parts) (t : Lexeme) → QuietAll s [] → feed s v t ≡ o
    → ((mid : State) → QuietAll mid.stack [] → drive mid.stack mid.parts ts ≡ Some state → QuietAll state.stack [])
    → option_and_then (λ state. drive state.stack state.parts ts) o ≡ Some state → QuietAll state.stack []
drove (Some mid) ts state s v t h f go_on i = go_on mid (feed_quiet s t mid v h f) i
drove None ts state s v t h f go_on i = cc

drive_quiet : (ts : Lexemes) (s : List Symbol) (v : Parts) (state : State) → QuietAll s [] → drive s v ts ≡ Some state → QuietAll state.stack []
drive_quiet [] s v state h e = subst (λ s. QuietAll s []) (ap (stack_or []) e) h
drive_quiet (t ∷ ts) s v state h e = drove (feed s v t) ts state s v t h refl (λ mid g i. drive_quiet ts mid.stack mid.parts state g i) e

-- ---- what was driven, and what comes after

abbrev pub state_or : State → Option State → State
state_or d (Some state) = state
state_or d None = d

pub run_on : (ts more : Lexemes) (s : List Symbol) (v : Parts) (state : State) → drive s v ts ≡ Some state → run s v (ts ++ more) ≡ run state.stack state.parts more
run_on [] more s v state e = ap (λ o. run (stack_or [] o) (state_or state o).parts more) e
run_on (t ∷ ts) more s v state e = on (feed s v t) ts more state (λ mid i. run_on ts more mid.stack mid.parts state i) (t ∷ ts ++ more) e
  where
    on : (o : Option State) (ts more : Lexemes) (state : State) → ((mid : State) → drive mid.stack mid.parts ts ≡ Some state → run mid.stack mid.parts (ts ++ more) ≡ run state.stack state.parts more)
        → (all : Lexemes) → option_and_then (λ state. drive state.stack state.parts ts) o ≡ Some state → going o (λ state. run state.stack state.parts (ts ++ more)) all ≡ run state.stack state.parts more
    on (Some mid) ts more state go_on all i = go_on mid i
    on None ts more state go_on all i = cc

-- Where some token is refused, the run fails, whatever comes after it.
run_off : (ts more : Lexemes) (s : List Symbol) (v w : Parts) → drive s v ts ≡ None → run s v (ts ++ more) ≡ Ok w → ⊥
run_off [] more s v w e h = cc
run_off (t ∷ ts) more s v w e h = off (feed s v t) ts more w (λ mid i. run_off ts more mid.stack mid.parts w i) (t ∷ ts ++ more) e h
  where
    off : (o : Option State) (ts more : Lexemes) (w : Parts) → ((mid : State) → drive mid.stack mid.parts ts ≡ None → run mid.stack mid.parts (ts ++ more) ≡ Ok w → ⊥)
        → (all : Lexemes) → option_and_then (λ state. drive state.stack state.parts ts) o ≡ None → going o (λ state. run state.stack state.parts (ts ++ more)) all ≡ Ok w → ⊥
    off (Some mid) ts more w go_on all i h = go_on mid i h
    off None ts more w go_on all i h = cc

-- ---- the two directions

abbrev pub begun : List Symbol
begun = x.Block chunk_scope ∷ []

pub viable : (ts : Lexemes) (state : State) → drive begun at_start ts ≡ Some state → IsViable ts
viable ts state e =
    let g = completes state.stack state.parts (drive_quiet ts begun at_start state (tt, tt) e) in
    let more = to_finish state.stack in
    let c = run_block (ts ++ more) g.0 (run_on ts more begun at_start state e ∙ g.1) in
    (more, record { block = c.0 }, c.1)

pub dead : (ts : Lexemes) → drive begun at_start ts ≡ None → IsViable ts → ⊥
dead ts e f = run_off ts f.0 begun at_start _ e (chunk_read f.2)

pub drive_one : (ts : Lexemes) (t : Lexeme) (s : List Symbol) (v : Parts) (state : State) → drive s v ts ≡ Some state → feed state.stack state.parts t ≡ None → drive s v (ts ++ t ∷ []) ≡ None
drive_one [] t s v state e h =
    let f : feed s v t ≡ None = ap (λ o. feed (state_or state o).stack (state_or state o).parts t) e ∙ h in
    ap (option_and_then (λ state. drive state.stack state.parts [])) f
drive_one (u ∷ ts) t s v state e h = one (feed s v u) ts t state (λ mid i. drive_one ts t mid.stack mid.parts state i h) e
  where
    one : (o : Option State) (ts : Lexemes) (t : Lexeme) (state : State) → ((mid : State) → drive mid.stack mid.parts ts ≡ Some state → drive mid.stack mid.parts (ts ++ t ∷ []) ≡ None)
        → option_and_then (λ state. drive state.stack state.parts ts) o ≡ Some state → option_and_then (λ state. drive state.stack state.parts (ts ++ t ∷ [])) o ≡ None
    one (Some mid) ts t state go_on i = go_on mid i
    one None ts t state go_on i = cc
