-- A text has one reading or one fault.
use Rattle.std.proofs.Common.{◌≡◌, ◌∙◌, refl, sym, ap, subst, ℕ, ◌+◌, ◌≤◌, ◌<◌, List, [], ◌∷◌, ◌++◌, drop, Some, arith}
use Rattle.sk_types.specs.declared.fault.SyntaxFault.{SyntaxFault}
use Rattle.sk_types.specs.declared.fault.SyntaxKind.{SyntaxKind}
use Rattle.sk_types.specs.declared.fault.SyntaxKind.TheVariants as bad
use Rattle.lua_tree.specs.declared.token.Token.{Token}
use Rattle.lua_tree.specs.declared.tree.Chunk.{Chunk}
use Rattle.lua_token.specs.declared.front.Front.{Front}
use Rattle.lua_token.specs.declared.front.Front.TheVariants.{Gap, Item, Bad}
use Rattle.lua_token.specs.Characters.{Text}
use Rattle.lua_token.specs.Spells.{IsSpelling, IsLexicalFault, too_long, faulty, Faulty, here, after_gap, after_item}
use Rattle.lua_token.proofs.Steps.{one_spelling_of, no_fault_of}
use Rattle.lua_grammar.specs.Lexeme.{Lexemes, lexemes_of}
use Rattle.lua_grammar.specs.Grammar.{IsFirstBad}
use Rattle.lua_grammar.specs.Faults as tokens
use Rattle.lua_grammar.specs.Faults.{ReadsAs, IsTokenFault, at_token, at_end}
use Rattle.lua_grammar.proofs.Read.{one_chunk_law, not_both_law, one_fault_law, unexpected_law, end_law}
use Rattle.lua_syntax.specs.Script.{IsFault, lexical, of_tokens, Reads, end_line, line_at}

abbrev len_of : Front → ℕ
len_of (Gap n lines) = n
len_of (Item kind n lines) = n
len_of _ = 0

abbrev lines_of : Front → ℕ
lines_of (Gap n lines) = lines
lines_of (Item kind n lines) = lines
lines_of _ = 0

abbrev kind_of : Front → SyntaxKind
kind_of (Bad kind) = kind
kind_of _ = bad.Unexpected

-- along two equal fronts
along : (at line n m lines more : ℕ) (bytes : Text) (f : SyntaxFault) → n ≡ m → lines ≡ more
    → Faulty (at + n) (line + lines) (drop n bytes) f → Faulty (at + m) (line + more) (drop m bytes) f
along at line n m lines more bytes fault e f d =
    subst (λ n. Faulty (at + n) (line + more) (drop n bytes) fault) e (subst (λ more. Faulty (at + n) (line + more) (drop n bytes) fault) f d)

same_kind : (line : ℕ) (k l : SyntaxKind) → k ≡ l → ◌≡◌ {A = SyntaxFault} (record { line = line; kind = k }) (record { line = line; kind = l })
same_kind line k l e = cc

one_lexical : {at line : ℕ} {bytes : Text} {f g : SyntaxFault} → Faulty at line bytes f → Faulty at line bytes g → f ≡ g
one_lexical {line = line} (here {kind = k} e) (here {kind = l} f) = same_kind line k l (ap kind_of (sym e ∙ f))
one_lexical (here e) (after_gap f d) = let i = sym e ∙ f in cc
one_lexical (here e) (after_item f d) = let i = sym e ∙ f in cc
one_lexical (after_gap e d) (here f) = let i = sym e ∙ f in cc
one_lexical {at = at} {line = line} {bytes = bytes} {g = g} (after_gap {n = n} {lines = lines} e d) (after_gap {n = m} {lines = more} f c) =
    one_lexical d (along at line m n more lines bytes g (ap len_of (sym f ∙ e)) (ap lines_of (sym f ∙ e)) c)
one_lexical (after_gap e d) (after_item f c) = let i = sym e ∙ f in cc
one_lexical (after_item e d) (here f) = let i = sym e ∙ f in cc
one_lexical (after_item e d) (after_gap f c) = let i = sym e ∙ f in cc
one_lexical {at = at} {line = line} {bytes = bytes} {g = g} (after_item {n = n} {lines = lines} e d) (after_item {n = m} {lines = more} f c) =
    one_lexical d (along at line m n more lines bytes g (ap len_of (sym f ∙ e)) (ap lines_of (sym f ∙ e)) c)

one_lexical_of : (bytes : Text) (f g : SyntaxFault) → IsLexicalFault bytes f → IsLexicalFault bytes g → f ≡ g
one_lexical_of bytes f g (too_long h) (too_long i) = refl
one_lexical_of bytes f g (too_long h) (faulty i d) = absurd (omega arith)
one_lexical_of bytes f g (faulty h d) (too_long i) = absurd (omega arith)
one_lexical_of bytes f g (faulty h d) (faulty i c) = one_lexical d c

pub one_law : (bytes : Text) (a b : Chunk) → Reads bytes a → Reads bytes b → a ≡ b
one_law bytes a b d e =
    one_chunk_law a b (lexemes_of d.0) d.2.0 (subst (λ ts. tokens.ReadsAs ts b) (sym (one_spelling_of bytes d.0 e.0 d.1 e.1)) e.2).0

pub not_both_of : (bytes : Text) (chunk : Chunk) (f : SyntaxFault) → Reads bytes chunk → IsFault bytes f → ⊥
not_both_of bytes chunk f d (lexical e) = no_fault_of bytes d.0 f d.1 e
not_both_of bytes chunk f d (of_tokens {ts = ts} s e) =
    not_both_law (end_line bytes) (lexemes_of d.0) chunk f d.2.0 d.2.1
    (subst (λ us. IsTokenFault (end_line bytes) us f) (one_spelling_of bytes ts d.0 s d.1) e)

pub one_fault_of : (bytes : Text) (f g : SyntaxFault) → IsFault bytes f → IsFault bytes g → f ≡ g
one_fault_of bytes f g (lexical d) (lexical e) = one_lexical_of bytes f g d e
one_fault_of bytes f g (lexical d) (of_tokens {ts = ts} s e) = absurd (no_fault_of bytes ts f s d)
one_fault_of bytes f g (of_tokens {ts = ts} s d) (lexical e) = absurd (no_fault_of bytes ts g s e)
one_fault_of bytes f g (of_tokens {ts = ts} s d) (of_tokens {ts = us} r e) =
    one_fault_law (end_line bytes) (lexemes_of ts) f g d (subst (λ us. IsTokenFault (end_line bytes) us g) (one_spelling_of bytes us ts r s) e)

first_of : {end : ℕ} {ls : Lexemes} {f : SyntaxFault} → tokens.IsFault end ls f → f.kind ≡ bad.Unexpected → (rest : Lexemes) × IsFirstBad ls rest × (f.line ≡ line_at end rest)
first_of (at_token {state = state} before t later d v) e = (t ∷ later, unexpected_law before t later state d (v ∙ ap Some e), refl)
first_of (at_end {state = state} {ts = ts} d f) e = ([], end_law ts state d f, refl)

pub unexpected_of : (end : ℕ) (ts : List Token) (f : SyntaxFault) → IsTokenFault end ts f → f.kind ≡ bad.Unexpected
    → (rest : Lexemes) × IsFirstBad (lexemes_of ts) rest × (f.line ≡ line_at end rest)
unexpected_of end ts f d e = first_of d e
