-- What the answer on the tokens says of the text.
use Rattle.std.proofs.Common.{◌≡◌, refl, ℕ, List}
use Rattle.std.specs.Prelude.{Result, Ok, Err, IfOk, IfErr}
use Rattle.sk_types.specs.declared.fault.SyntaxFault.{SyntaxFault}
use Rattle.lua_tree.specs.declared.token.Token.{Token}
use Rattle.lua_tree.specs.declared.tree.Chunk.{Chunk}
use Rattle.lua_token.specs.Characters.{Text}
use Rattle.lua_token.specs.Spells.{IsSpelling, IsLexicalFault}
use Rattle.lua_grammar.specs.Faults.{ReadsAs, IsTokenFault}
use Rattle.lua_parser.specs.declared.error.ParseError.{ParseError}
use Rattle.lua_parser.specs.declared.error.ParseError.TheVariants.{Memory, Fault}
use Rattle.lua_syntax.specs.Script.{IsFault, lexical, of_tokens, Reads, HasFault, Gives, Refuses, end_line}
use Rattle.lua_syntax.proofs.OneReading.{one_law, one_fault_of, not_both_of}

-- a fault of the tokens is answered only where it is their first
abbrev pub Tells : ℕ → List Token → Result Chunk ParseError → Type 0
Tells end ts r = (f : SyntaxFault) → r ≡ Err (Fault f) → IsTokenFault end ts f

pub found_of : (bytes : Text) (ts : List Token) (r : Result Chunk ParseError) → IsSpelling bytes ts → IfOk r (λ c. ReadsAs ts c) → IfOk r (λ c. Reads bytes c)
found_of bytes ts (Ok c) s found = (ts, s, found)
found_of bytes ts (Err e) s found = tt

pub only_of : (bytes : Text) (ts : List Token) (r : Result Chunk ParseError) → IsSpelling bytes ts
    → IfOk r (λ c. ReadsAs ts c) → Tells (end_line bytes) ts r → (chunk : Chunk) → Reads bytes chunk → Gives chunk r
only_of bytes ts (Ok c) s found fault chunk d = one_law bytes c chunk (ts, s, found) d
only_of bytes ts (Err Memory) s found fault chunk d = tt
only_of bytes ts (Err (Fault f)) s found fault chunk d = not_both_of bytes chunk f d (of_tokens s (fault f refl))

pub fault_of : (bytes : Text) (ts : List Token) (r : Result Chunk ParseError) → IsSpelling bytes ts
    → Tells (end_line bytes) ts r → IfErr r (HasFault bytes)
fault_of bytes ts (Ok c) s fault = tt
fault_of bytes ts (Err Memory) s fault = tt
fault_of bytes ts (Err (Fault f)) s fault = of_tokens s (fault f refl)

pub refused_of : (bytes : Text) (ts : List Token) (r : Result Chunk ParseError) → IsSpelling bytes ts
    → IfOk r (λ c. ReadsAs ts c) → Tells (end_line bytes) ts r → (f : SyntaxFault) → IsFault bytes f → Refuses f r
refused_of bytes ts (Ok c) s found fault f d = not_both_of bytes c f (ts, s, found) d
refused_of bytes ts (Err Memory) s found fault f d = tt
refused_of bytes ts (Err (Fault g)) s found fault f d = one_fault_of bytes g f (of_tokens s (fault g refl)) d
