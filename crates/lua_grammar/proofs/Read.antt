-- What the reading gives, and what it means.
use Rattle.std.proofs.Common.{◌≡◌, ℕ, List, [], ◌∷◌, ◌++◌, Bool, true, false, refl, sym, ap, ◌∙◌, subst, Ok, Err, Result, Option, Some, None, option_and_then, if◌then◌else◌, ◌⊎◌, inl, inr, nat_lt, append_assoc}
use Rattle.std.proofs.lemmas.List.{append-nil}
use Rattle.sk_types.specs.declared.fault.SyntaxKind.{SyntaxKind}
use Rattle.sk_types.specs.declared.fault.SyntaxKind.TheVariants as bad
use Rattle.sk_types.specs.declared.fault.SyntaxFault.{SyntaxFault}
use Rattle.lua_tree.specs.declared.tree.Chunk.{Chunk}
use Rattle.lua_tree.specs.declared.tree.Block.{Block}
use Rattle.lua_tree.specs.declared.token.TokenKind.{TokenKind}
use Rattle.lua_grammar.specs.declared.symbol.Symbol.{Symbol}
use Rattle.lua_grammar.specs.declared.tree.Part.TheVariants as part
use Rattle.lua_grammar.specs.Lexeme.{Lexeme, Lexemes}
use Rattle.lua_grammar.specs.Grammar.{IsChunk, IsViable, IsFirstBad}
use Rattle.lua_grammar.specs.Parts.{Parts}
use Rattle.lua_grammar.specs.Machine.{State, feed, finish, ending, going, run, drive}
use Rattle.lua_grammar.specs.Faults.{verdict, verdict_on, Passes, none_passed, one_passed, Keeps, IsFault, at_token, at_end, opening, is_float, is_unsupported, level_of, is_over, top_names, is_stray_break, is_stray_dots, is_bound}
use Rattle.lua_grammar.specs.Reading.{judged_by, ended, going_on, reading}
use Rattle.lua_grammar.proofs.Complete.{chunk_read, one_block, at_start}
use Rattle.lua_grammar.proofs.Sound.{run_block}
use Rattle.lua_grammar.proofs.Viable.{state_or, begun, viable, dead, drive_one}

-- ---- what passes is driven

pub passes_drive : {state last : State} {ts : Lexemes} → Passes state ts last → drive state.stack state.parts ts ≡ Some last
passes_drive none_passed = refl
passes_drive (one_passed {ts = ts} v f d) = ap (option_and_then (λ (state : State). drive state.stack state.parts ts)) f ∙ passes_drive d

passes_run : {state last : State} {ts : Lexemes} → Passes state ts last → run state.stack state.parts ts ≡ ending (finish last.stack last.parts)
passes_run none_passed = refl
passes_run (one_passed {t = t} {ts = ts} v f d) = ap (λ o. going o (λ state. run state.stack state.parts ts) (t ∷ ts)) f ∙ passes_run d

-- ---- what passes is read

pub passes_read : {state last : State} {ts : Lexemes} → Passes state ts last → (end : ℕ) → reading end state ts ≡ ended end (finish last.stack last.parts)
passes_read none_passed end = refl
passes_read (one_passed {state = state} {mid = mid} {t = t} {ts = ts} v f d) end =
    ap (λ o. going_on (judged_by o (feed state.stack state.parts t)) (λ after. reading end after ts) t.line) v
    ∙ ap (λ o. going_on (judged_by None o) (λ after. reading end after ts) t.line) f
    ∙ passes_read d end

fault_read_on : {state last : State} {before : Lexemes} → Passes state before last → (end : ℕ) (t : Lexeme) (later : Lexemes) (kind : SyntaxKind) → verdict last t ≡ Some kind
    → reading end state (before ++ t ∷ later) ≡ Err (record { line = t.line; kind = kind })
fault_read_on {state = state} none_passed end t later kind v = ap (λ o. going_on (judged_by o (feed state.stack state.parts t)) (λ after. reading end after later) t.line) v
fault_read_on {state = state} (one_passed {mid = mid} {t = u} {ts = ts} w f d) end t later kind v =
    ap (λ o. going_on (judged_by o (feed state.stack state.parts u)) (λ after. reading end after (ts ++ t ∷ later)) u.line) w
    ∙ ap (λ o. going_on (judged_by None o) (λ after. reading end after (ts ++ t ∷ later)) u.line) f
    ∙ fault_read_on d end t later kind v

pub fault_read : {end : ℕ} {ts : Lexemes} {f : SyntaxFault} → IsFault end ts f → reading end opening ts ≡ Err f
fault_read {end = end} (at_token {kind = kind} before t later d v) = fault_read_on d end t later kind v
fault_read {end = end} (at_end d f) = passes_read d end ∙ ap (ended end) f

-- ---- what is read

-- the verdict is nothing only where the token fits
verdict_fits : (before : List Symbol) (t : TokenKind) (after : Option State) → verdict_on before t after ≡ None → (state : State) × (after ≡ Some state)
verdict_fits before t (Some state) h = (state, refl)
verdict_fits before t None h = absurd (never (is_float t) (is_unsupported before t) h)
  where
    never : (a b : Bool) → (if a then Some bad.Float else (if b then Some bad.Unsupported else Some bad.Unexpected)) ≡ None → ⊥
    never true b h = cc
    never false true h = cc
    never false false h = cc

-- the first fault, from a state on
data FaultFrom : ℕ → State → Lexemes → SyntaxFault → Type 0 where
  token_from : {end : ℕ} {state last : State} {kind : SyntaxKind} (before : Lexemes) (t : Lexeme) (later : Lexemes) → Passes state before last → verdict last t ≡ Some kind
      → FaultFrom end state (before ++ t ∷ later) (record { line = t.line; kind = kind })
  end_from : {end : ℕ} {state last : State} {ts : Lexemes} → Passes state ts last → finish last.stack last.parts ≡ None → FaultFrom end state ts (record { line = end; kind = bad.Unexpected })

-- what the reading says of lexemes from a state on
abbrev Said : ℕ → State → Lexemes → Result Parts SyntaxFault → Type 0
Said end state ts (Ok w) = (last : State) × Passes state ts last × (finish last.stack last.parts ≡ Some w)
Said end state ts (Err f) = FaultFrom end state ts f

fault_on : {end : ℕ} {state mid : State} {t : Lexeme} {ts : Lexemes} {f : SyntaxFault} → verdict state t ≡ None → feed state.stack state.parts t ≡ Some mid → FaultFrom end mid ts f → FaultFrom end state (t ∷ ts) f
fault_on {t = t} v f (token_from before u later d w) = token_from (t ∷ before) u later (one_passed v f d) w
fault_on v f (end_from d g) = end_from (one_passed v f d) g

is_fault : {end : ℕ} {ts : Lexemes} {f : SyntaxFault} → FaultFrom end opening ts f → IsFault end ts f
is_fault (token_from before t later d v) = at_token before t later d v
is_fault (end_from d f) = at_end d f

said_on : (end : ℕ) (state mid : State) (t : Lexeme) (ts : Lexemes) (r : Result Parts SyntaxFault) → verdict state t ≡ None → feed state.stack state.parts t ≡ Some mid → Said end mid ts r → Said end state (t ∷ ts) r
said_on end state mid t ts (Ok w) v f s = (s.0, one_passed v f s.1, s.2)
said_on end state mid t ts (Err g) v f s = fault_on v f s

said_end : (end : ℕ) (state : State) (o : Option Parts) → finish state.stack state.parts ≡ o → Said end state [] (ended end o)
said_end end state (Some w) h = (state, none_passed, h)
said_end end state None h = end_from none_passed h

said_at : (end : ℕ) (state : State) (t : Lexeme) (ts : Lexemes) (o : Option SyntaxKind) → verdict state t ≡ o → ((mid : State) → Said end mid ts (reading end mid ts))
    → Said end state (t ∷ ts) (going_on (judged_by o (feed state.stack state.parts t)) (λ after. reading end after ts) t.line)
said_at end state t ts (Some kind) v go_on = token_from [] t ts none_passed v
said_at end state t ts None v go_on =
    let g = verdict_fits state.stack t.kind (feed state.stack state.parts t) v in
    subst (λ o. Said end state (t ∷ ts) (going_on (judged_by None o) (λ after. reading end after ts) t.line)) (sym g.1) (said_on end state g.0 t ts (reading end g.0 ts) v g.1 (go_on g.0))

said : (end : ℕ) (ts : Lexemes) (state : State) → Said end state ts (reading end state ts)
said end [] state = said_end end state (finish state.stack state.parts) refl
said end (t ∷ ts) state = said_at end state t ts (verdict state t) refl (λ mid. said end ts mid)

-- ---- the whole text

pub read_ok : (end : ℕ) (ts : Lexemes) (w : Parts) → reading end opening ts ≡ Ok w → (c : Chunk) × IsChunk c ts × Keeps ts × (w ≡ part.Block c.block ∷ [])
read_ok end ts w h =
    let s = subst (λ r. Said end opening ts r) h (said end ts opening) in
    let b = run_block ts w (passes_run s.1 ∙ ap ending s.2) in
    (record { block = b.0 }, b.1, (s.0, s.1), b.2)

pub read_err : (end : ℕ) (ts : Lexemes) (f : SyntaxFault) → reading end opening ts ≡ Err f → IsFault end ts f
read_err end ts f h = is_fault (subst (λ r. Said end opening ts r) h (said end ts opening))

abbrev parts_of : Result Parts SyntaxFault → Parts
parts_of (Ok w) = w
parts_of (Err f) = []

ends_ok : (end : ℕ) (o : Option Parts) (w : Parts) → ending o ≡ Ok w → ended end o ≡ Ok w
ends_ok end (Some u) w h = cc
ends_ok end None w h = cc

pub chunk_reading : (end : ℕ) (ts : Lexemes) (c : Chunk) → IsChunk c ts → Keeps ts → reading end opening ts ≡ Ok (part.Block c.block ∷ [])
chunk_reading end ts c d keeps =
    passes_read keeps.1 end ∙ ends_ok end (finish keeps.0.stack keeps.0.parts) (part.Block c.block ∷ []) (sym (passes_run keeps.1) ∙ chunk_read d)

pub one_chunk_law : (a b : Chunk) (ts : Lexemes) → IsChunk a ts → IsChunk b ts → a ≡ b
one_chunk_law a b ts d f = ap {A = Block} {B = Chunk} (λ block. record { block = block }) (one_block d f)

abbrev fails : SyntaxFault → Result Parts SyntaxFault
fails f = Err f

abbrev gives : Parts → Result Parts SyntaxFault
gives w = Ok w

err_same : (f g : SyntaxFault) → fails f ≡ fails g → f ≡ g
err_same f g h = cc

pub one_fault_law : (end : ℕ) (ts : Lexemes) (f g : SyntaxFault) → IsFault end ts f → IsFault end ts g → f ≡ g
one_fault_law end ts f g d e = err_same f g (sym (fault_read d) ∙ fault_read e)

ok_err : (w : Parts) (f : SyntaxFault) → gives w ≡ fails f → ⊥
ok_err w f h = cc

pub not_both_law : (end : ℕ) (ts : Lexemes) (c : Chunk) (f : SyntaxFault) → IsChunk c ts → Keeps ts → IsFault end ts f → ⊥
not_both_law end ts c f d keeps e = ok_err (part.Block c.block ∷ []) f (sym (chunk_reading end ts c d keeps) ∙ fault_read e)

pub decided_law : (end : ℕ) (ts : Lexemes) → ((c : Chunk) × IsChunk c ts × Keeps ts) ⊎ ((f : SyntaxFault) × IsFault end ts f)
decided_law end ts = on (reading end opening ts) refl
  where
    on : (r : Result Parts SyntaxFault) → reading end opening ts ≡ r → ((c : Chunk) × IsChunk c ts × Keeps ts) ⊎ ((f : SyntaxFault) × IsFault end ts f)
    on (Ok w) h = let g = read_ok end ts w h in inl (g.0, g.1, g.2)
    on (Err f) h = inr (f, read_err end ts f h)

drive_more : (ts : Lexemes) (t : Lexeme) (s : List Symbol) (v : Parts) (state after : State) → drive s v ts ≡ Some state → feed state.stack state.parts t ≡ Some after → drive s v (ts ++ t ∷ []) ≡ Some after
drive_more [] t s v state after e h =
    let f : feed s v t ≡ Some after = ap (λ o. feed (state_or state o).stack (state_or state o).parts t) e ∙ h in
    ap (option_and_then (λ state. drive state.stack state.parts [])) f
drive_more (u ∷ ts) t s v state after e h = one (feed s v u) (λ mid i. drive_more ts t mid.stack mid.parts state after i h) e
  where
    one : (o : Option State) → ((mid : State) → drive mid.stack mid.parts ts ≡ Some state → drive mid.stack mid.parts (ts ++ t ∷ []) ≡ Some after)
        → option_and_then (λ state. drive state.stack state.parts ts) o ≡ Some state → option_and_then (λ state. drive state.stack state.parts (ts ++ t ∷ [])) o ≡ Some after
    one (Some mid) go_on i = go_on mid i
    one None go_on i = cc

-- a token fits exactly where some chunk goes on with it
pub fits_law : (before : Lexemes) (t : Lexeme) (state after : State) → Passes opening before state → feed state.stack state.parts t ≡ Some after → IsViable (before ++ t ∷ [])
fits_law before t state after d f = viable (before ++ t ∷ []) after (drive_more before t begun at_start state after (passes_drive d) f)

pub dead_law : (before : Lexemes) (t : Lexeme) (state : State) → Passes opening before state → feed state.stack state.parts t ≡ None → IsViable (before ++ t ∷ []) → ⊥
dead_law before t state d f = dead (before ++ t ∷ []) (drive_one before t begun at_start state (passes_drive d) f)

-- ---- kinds of faults

abbrev kind_or : SyntaxKind → Option SyntaxKind → SyntaxKind
kind_or d (Some kind) = kind
kind_or d None = d

unexpected_refused : (before : List Symbol) (t : TokenKind) (after : Option State) → verdict_on before t after ≡ Some bad.Unexpected → after ≡ None
unexpected_refused before t None h = refl
unexpected_refused before t (Some state) h =
    absurd (never (is_float t) (is_unsupported before t) (nat_lt 200 (level_of state.stack)) (is_over (top_names before) t) (is_stray_break before t) (is_stray_dots before t) h)
  where
    never : (a b c d e f : Bool)
        → (if a then Some bad.Float
        else (if b then Some bad.Unsupported
        else (if c then Some bad.Nesting else (if d then Some bad.Locals else (if e then Some bad.Break else (if f then Some bad.Vararg else None))))))
        ≡ Some bad.Unexpected → ⊥
    never true b c d e f h = cc
    never false true c d e f h = cc
    never false false true d e f h = cc
    never false false false true e f h = cc
    never false false false false true f h = cc
    never false false false false false true h = cc
    never false false false false false false h = cc

bound_fits : (before : List Symbol) (t : TokenKind) (after : Option State) (kind : SyntaxKind) → verdict_on before t after ≡ Some kind → is_bound kind ≡ true → (state : State) × (after ≡ Some state)
bound_fits before t (Some state) kind h b = (state, refl)
bound_fits before t None kind h b = absurd (never (is_float t) (is_unsupported before t) h)
  where
    never : (a c : Bool) → (if a then Some bad.Float else (if c then Some bad.Unsupported else Some bad.Unexpected)) ≡ Some kind → ⊥
    never true c h = let i : false ≡ true = ap (λ o. is_bound (kind_or kind o)) h ∙ b in cc
    never false true h = let i : false ≡ true = ap (λ o. is_bound (kind_or kind o)) h ∙ b in cc
    never false false h = let i : false ≡ true = ap (λ o. is_bound (kind_or kind o)) h ∙ b in cc

pub bounds_law : (before : Lexemes) (t : Lexeme) (state : State) (kind : SyntaxKind) → Passes opening before state → verdict state t ≡ Some kind → is_bound kind ≡ true → IsViable (before ++ t ∷ [])
bounds_law before t state kind d v b =
    let g = bound_fits state.stack t.kind (feed state.stack state.parts t) kind v b in
    fits_law before t state g.0 d g.1

no_chunk_after : (before : Lexemes) (t : Lexeme) (later : Lexemes) (state : State) → Passes opening before state → feed state.stack state.parts t ≡ None → (c : Chunk) → IsChunk c (before ++ t ∷ later) → ⊥
no_chunk_after before t later state d f c i = dead_law before t state d f (later, c, subst (λ ts. IsChunk c ts) (sym (append_assoc before (t ∷ []) later)) i)

abbrev first_or : Lexeme → Lexemes → Lexeme
first_or d [] = d
first_or d (t ∷ ts) = t

first_same : (t u : Lexeme) (later more : Lexemes) → t ∷ later ≡ u ∷ more → t ≡ u
first_same t u later more e = ap (first_or t) e

nil_cons : (u : Lexeme) (more : Lexemes) → [] ≡ u ∷ more → ⊥
nil_cons u more e = cc

pub unexpected_law : (before : Lexemes) (t : Lexeme) (later : Lexemes) (state : State) → Passes opening before state → verdict state t ≡ Some bad.Unexpected → IsFirstBad (before ++ t ∷ later) (t ∷ later)
unexpected_law before t later state d v =
    let f = unexpected_refused state.stack t.kind (feed state.stack state.parts t) v in
    record {
      before = before;
      split = refl;
      viable = viable before state (passes_drive d);
      none = no_chunk_after before t later state d f;
      dead = λ u more e w. dead_law before t state d f (subst (λ (u : Lexeme). IsViable (before ++ u ∷ [])) (sym (first_same t u later more e)) w);
    }

ok_none : (o : Option Parts) (w : Parts) → o ≡ None → ending o ≡ Ok w → ⊥
ok_none (Some u) w h i = cc
ok_none None w h i = cc

pub end_law : (ts : Lexemes) (state : State) → Passes opening ts state → finish state.stack state.parts ≡ None → IsFirstBad ts []
end_law ts state d f = record {
  before = ts;
  split = sym (append-nil ts);
  viable = viable ts state (passes_drive d);
  none = λ c i. ok_none (finish state.stack state.parts) (part.Block c.block ∷ []) f (sym (passes_run d) ∙ chunk_read i);
  dead = λ u more e w. absurd (nil_cons u more e);
}
