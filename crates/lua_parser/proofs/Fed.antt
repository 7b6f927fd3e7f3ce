-- A turn that leaves the token, and what it says of the reading.
use Rattle.std.proofs.Common.{◌≡◌, ℕ, ◌+◌, ◌<◌, List, [], ◌∷◌, ◌++◌, ap, sym, ◌∙◌, arith, Bool, true, false, Option, Some, None, refl}
use Rattle.std.specs.Bool.{⊤}
use Rattle.lua_tree.specs.declared.token.TokenKind.{TokenKind}
use Rattle.lua_grammar.specs.declared.symbol.Effect.{Effect}
use Rattle.lua_grammar.specs.declared.symbol.Symbol.{Symbol}
use Rattle.lua_grammar.specs.declared.symbol.Symbol.TheVariants as x
use Rattle.lua_grammar.specs.Lexeme.{Lexeme}
use Rattle.lua_grammar.specs.Table.{Act, shift, pop, refuse, Others, others, act_of, next_with, becomes_unless, is_close, begins_field, is_assign_sign, goes_on_with_names}
use Rattle.lua_grammar.specs.Parts.{Parts, effects_of}
use Rattle.lua_grammar.specs.Machine.{State, feed, fed, taken}
use Rattle.lua_grammar.proofs.Steps.{Flat, feed_becomes}
use Rattle.lua_parser.specs.declared.reader.Turn.{Turn}
use Rattle.lua_parser.specs.declared.reader.Turn.TheVariants.{Taken, Gone, Replaced, Refused}
use Rattle.lua_parser.specs.Turns.{with_both, Turned}

-- ---- how many turns the symbols may take at one token

-- more than those of what may come in its place
abbrev pub turns_of : Symbol → ℕ
turns_of x.Arguments = 5
turns_of x.Fields = 5
turns_of x.NameField = 5
turns_of x.ReturnExprs = 5
turns_of (x.LocalMore c) = 5
turns_of _ = 1

abbrev pub all_turns : List Symbol → ℕ
all_turns [] = 0
all_turns (s ∷ more) = turns_of s + all_turns more

-- ---- what comes in a symbol's place

-- It does not become others again, and needs fewer turns.
abbrev Settles : Symbol → TokenKind → Option Others → Type 0
Settles s t None = ⊤
Settles s t (Some o) = Flat o.symbols t × ((below : List Symbol) → all_turns (o.symbols ++ below) < all_turns (s ∷ below))

settled : (s : Symbol) (t : TokenKind) (b : Bool) (effects : List Effect) (symbols : List Symbol) → Flat symbols t → ((below : List Symbol) → all_turns (symbols ++ below) < all_turns (s ∷ below))
    → Settles s t (becomes_unless b effects symbols)
settled s t true effects symbols f h = tt
settled s t false effects symbols f h = (f, h)

settles : (s : Symbol) (t : TokenKind) → Settles s t (others s t)
settles x.Arguments t = settled x.Arguments t (is_close t) _ _ (refl, (refl, tt)) (λ below. omega arith)
settles x.Fields t = settled x.Fields t (begins_field t) _ _ (refl, (refl, (refl, tt))) (λ below. omega arith)
settles x.NameField t = settled x.NameField t (is_assign_sign t) _ _ (refl, (refl, (refl, (refl, tt)))) (λ below. omega arith)
settles x.ReturnExprs t = settled x.ReturnExprs t _ _ _ (refl, (refl, tt)) (λ below. omega arith)
settles (x.LocalMore c) t = settled (x.LocalMore c) t (goes_on_with_names t) _ _ (refl, tt) (λ below. omega arith)
settles _ t = tt

-- ---- the symbol went, or became others

abbrev GoesOn : List Symbol → Parts → Lexeme → State → Type 0
GoesOn s v t now = (feed now.stack now.parts t ≡ feed s v t) × (all_turns now.stack < all_turns s)

replaced : (s : Symbol) (below : List Symbol) (v : Parts) (t : Lexeme) (o : Others) (now : State) → others s t.kind ≡ Some o → Settles s t.kind (Some o)
    → now ≡ with_both (o.symbols ++ below) (effects_of None o.effects v) → GoesOn (s ∷ below) v t now
replaced s below v t o now e f h =
    (ap (λ (n : State). feed n.stack n.parts t) h ∙ sym (feed_becomes s o below v t e f.0), omega (arith, ap (λ (n : State). all_turns n.stack) h, f.1 below))

gone : (s : Symbol) (below : List Symbol) (v : Parts) (t : Lexeme) (effects : List Effect) (now : State) → others s t.kind ≡ None → act_of s t.kind ≡ pop effects
    → now ≡ with_both below (effects_of None effects v) → GoesOn (s ∷ below) v t now
gone s below v t effects now e a h =
    let g : feed (s ∷ below) v t ≡ feed below (effects_of None effects v) t =
    ap (λ o. taken (next_with o s t.kind) (λ u. feed below u t) below v t) e ∙ ap (λ a. fed a (λ u. feed below u t) below v t) a in
    (ap (λ (n : State). feed n.stack n.parts t) h ∙ sym g, omega (arith, ap (λ (n : State). all_turns n.stack) h, one s))
  where
    one : (s : Symbol) → 0 < turns_of s
    one x.Arguments = omega arith
    one x.Fields = omega arith
    one x.NameField = omega arith
    one x.ReturnExprs = omega arith
    one (x.LocalMore c) = omega arith
    one _ = omega arith

turned : (s : Symbol) (below : List Symbol) (v : Parts) (t : Lexeme) (turn : Turn) (now : State) (o : Option Others) (a : Act) → others s t.kind ≡ o → act_of s t.kind ≡ a → Settles s t.kind o
    → Turned o a t (with_both below v) turn now → (turn ≡ Taken → ⊥) → (turn ≡ Refused → ⊥) → GoesOn (s ∷ below) v t now
turned s below v t Replaced now (Some o) a e i f h taken_not refused_not = replaced s below v t o now e f h
turned s below v t Taken now (Some o) a e i f h taken_not refused_not = absurd h
turned s below v t Gone now (Some o) a e i f h taken_not refused_not = absurd h
turned s below v t Refused now (Some o) a e i f h taken_not refused_not = absurd h
turned s below v t Taken now None a e i f h taken_not refused_not = absurd (taken_not refl)
turned s below v t Refused now None a e i f h taken_not refused_not = absurd (refused_not refl)
turned s below v t Gone now None (pop effects) e i f h taken_not refused_not = gone s below v t effects now e i h
turned s below v t Gone now None (shift effects new) e i f h taken_not refused_not = absurd h
turned s below v t Gone now None refuse e i f h taken_not refused_not = absurd h
turned s below v t Replaced now None (pop effects) e i f h taken_not refused_not = absurd h
turned s below v t Replaced now None (shift effects new) e i f h taken_not refused_not = absurd h
turned s below v t Replaced now None refuse e i f h taken_not refused_not = absurd h

pub fed_on : (all : List Symbol) (s : Symbol) (below : List Symbol) (v : Parts) (t : Lexeme) (turn : Turn) (now : State) → all ≡ s ∷ below
    → Turned (others s t.kind) (act_of s t.kind) t (with_both below v) turn now → (turn ≡ Taken → ⊥) → (turn ≡ Refused → ⊥) → (feed now.stack now.parts t ≡ feed all v t) × (all_turns now.stack < all_turns all)
fed_on all s below v t turn now e h taken_not refused_not =
    let g = turned s below v t turn now (others s t.kind) (act_of s t.kind) refl refl (settles s t.kind) h taken_not refused_not in
    (g.0 ∙ sym (ap (λ all. feed all v t) e), omega (arith, g.1, ap all_turns e))
