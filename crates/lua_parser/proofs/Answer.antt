-- What the reading gives, and what the tokens spell.
use Rattle.std.proofs.Common.{◌≡◌, ℕ, [], ◌∷◌, refl, ap, sym, ◌∙◌, subst, Result, Ok, Err, Some, true}
use Rattle.sk_types.specs.declared.fault.SyntaxFault.{SyntaxFault}
use Rattle.sk_types.specs.declared.fault.SyntaxKind.TheVariants as bad
use Rattle.lua_tree.specs.declared.tree.Chunk.{Chunk}
use Rattle.lua_tree.specs.declared.tree.Block.{Block}
use Rattle.lua_grammar.specs.declared.tree.Part.TheVariants as part
use Rattle.lua_grammar.specs.Lexeme.{Lexemes}
use Rattle.lua_grammar.specs.Grammar.{IsChunk, IsBlock}
use Rattle.lua_grammar.specs.Parts.{Parts, block}
use Rattle.lua_grammar.specs.Faults.{IsFault, Keeps, opening}
use Rattle.lua_grammar.specs.Reading.{reading}
use Rattle.lua_grammar.proofs.Read.{read_ok, read_err, chunk_reading, fault_read}
use Rattle.lua_parser.specs.declared.error.ParseError.{ParseError}
use Rattle.lua_parser.specs.declared.error.ParseError.TheVariants.{Memory, Fault}
use Rattle.lua_parser.specs.Answers.{Gives, Faults}
use Rattle.lua_parser.specs.Verdicts.{Reads}

-- ---- a chunk is answered

pub found : (end : ℕ) (ts : Lexemes) (w : Parts) (b : Block) → reading end opening ts ≡ Ok w → b ≡ block w → IsBlock b ts [] × Keeps ts
found end ts w b h e =
    let r = read_ok end ts w h in
    (subst (λ b. IsBlock b ts []) (sym (e ∙ ap block r.3)) r.1, r.2)

ok_same : (u w : Parts) (r : Result Parts SyntaxFault) → r ≡ Ok u → r ≡ Ok w → u ≡ w
ok_same u w r h i = cc

pub only : (end : ℕ) (ts : Lexemes) (w : Parts) (b : Block) → reading end opening ts ≡ Ok w → b ≡ block w → (c : Chunk) → IsChunk c ts → Keeps ts → ◌≡◌ {A = Chunk} (record { block = b }) c
only end ts w b h e c d keeps =
    let g : w ≡ part.Block c.block ∷ [] = ok_same w (part.Block c.block ∷ []) (reading end opening ts) h (chunk_reading end ts c d keeps) in
    ap {A = Block} {B = Chunk} (λ b. record { block = b }) (e ∙ ap block g)

ok_err : (w : Parts) (f : SyntaxFault) (r : Result Parts SyntaxFault) → r ≡ Ok w → r ≡ Err f → ⊥
ok_err w f r h i = cc

pub no_fault : (end : ℕ) (ts : Lexemes) (w : Parts) → reading end opening ts ≡ Ok w → (f : SyntaxFault) → IsFault end ts f → ⊥
no_fault end ts w h f d = ok_err w f (reading end opening ts) h (fault_read d)

-- ---- an error is answered

pub no_chunk : (end : ℕ) (ts : Lexemes) (error : ParseError) → Reads (reading end opening ts) (Err error) → (c : Chunk) → IsChunk c ts → Keeps ts → Gives c (Err error)
no_chunk end ts Memory h c d keeps = tt
no_chunk end ts (Fault f) h c d keeps = ok_err (part.Block c.block ∷ []) f (reading end opening ts) (chunk_reading end ts c d keeps) h

pub fault : (end : ℕ) (ts : Lexemes) (error : ParseError) → Reads (reading end opening ts) (Err error) → (f : SyntaxFault) → error ≡ Fault f → IsFault end ts f
fault end ts Memory h f e = cc
fault end ts (Fault g) h f e = let i : g ≡ f = cc in subst (λ f. IsFault end ts f) i (read_err end ts g h)

err_same : (f g : SyntaxFault) (r : Result Parts SyntaxFault) → r ≡ Err f → r ≡ Err g → f ≡ g
err_same f g r h i = cc

pub refused : (end : ℕ) (ts : Lexemes) (error : ParseError) → Reads (reading end opening ts) (Err error) → (f : SyntaxFault) → IsFault end ts f → Faults f (Err error)
refused end ts Memory h f d = tt
refused end ts (Fault g) h f d = err_same g f (reading end opening ts) h (fault_read d)
