-- Short and long strings (Lua 5.4 manual, section 3.1).
use Rattle.std.specs.Prelude.{ℕ, zero, suc, ◌+◌, ◌==◌, ◌&&◌, Bool, false, [], ◌∷◌, ◌++◌, drop, length, take_while, if◌then◌else◌, Option, Some, None, Result, Ok, Err, ◌≡◌}
use Rattle.sk_types.specs.declared.fault.SyntaxKind.{SyntaxKind}
use Rattle.sk_types.specs.declared.fault.SyntaxKind.TheVariants as bad
use Rattle.lua_token.specs.declared.escape.Escape.{Escape}
use Rattle.lua_token.specs.declared.string.Quoted.{Quoted}
use Rattle.lua_token.specs.declared.string.StringError.{StringError}
use Rattle.lua_token.specs.declared.string.StringError.TheVariants.{Memory, Bad}
use Rattle.lua_token.specs.Characters.{Text, end_len, first_is, is_end, is_equals, is_other_end}
use Rattle.lua_token.specs.Escapes.{bytes_of, escape}

-- the bytes that a string stands for, how many bytes it takes and how many ends of line are in them; or its fault
abbrev pub Found : Type 0
Found = Result Quoted SyntaxKind

abbrev pub quoted : Text → ℕ → ℕ → Quoted
quoted text len lines = record { text = text; len = len; lines = lines }

-- what is found, with what stands before it
abbrev pub with_front : Text → ℕ → ℕ → Found → Found
with_front text len lines (Ok q) = Ok (quoted (text ++ q.text) (len + q.len) (lines + q.lines))
with_front text len lines (Err kind) = Err kind

abbrev pub escaped : Option Escape → (ℕ → Found) → Found
escaped None next = Err bad.BadEscape
escaped (Some e) next = with_front (bytes_of e.stands) (1 + e.len) e.lines (next e.len)

-- A short string after its opening quote, where these first bytes belong to the escape before: it ends at the quote.
abbrev pub short_from : ℕ → ℕ → Text → Found
short_from quote skip [] = Err bad.OpenString
short_from quote (suc k) (b ∷ bs) = short_from quote k bs
short_from quote zero (b ∷ bs) =
    if b == quote then Ok (quoted [] 1 0)
    else (if is_end b then Err bad.OpenString
    else (if b == 92 then escaped (escape bs) (λ skip. short_from quote skip bs)
    else with_front (b ∷ []) 1 0 (short_from quote 0 bs)))

-- how many equals signs stand first
abbrev pub equals : Text → ℕ
equals bs = length (take_while is_equals bs)

-- a closing long bracket of this level stands first
abbrev pub closes : ℕ → Text → Bool
closes level [] = false
closes level (b ∷ bs) = b == 93 && (equals bs == level && first_is (λ c. c == 93) (drop (equals bs) bs))

-- A long string after its opening, where these first bytes belong to the end of line before: it ends at a closing bracket of
-- its level, and each end of line in it is a line feed.
abbrev pub long_from : ℕ → ℕ → Text → Found
long_from level skip [] = Err bad.OpenLong
long_from level (suc k) (b ∷ bs) = long_from level k bs
long_from level zero (b ∷ bs) =
    if closes level (b ∷ bs) then Ok (quoted [] (level + 2) 0)
    else (if is_end b then with_front (10 ∷ []) (end_len b bs) 1 (long_from level (if first_is (is_other_end b) bs then 1 else 0) bs)
    else with_front (b ∷ []) 1 0 (long_from level 0 bs))

-- an end of line right after the opening is skipped
abbrev pub long_body : ℕ → Text → Found
long_body level [] = Err bad.OpenLong
long_body level (b ∷ bs) =
    if is_end b then with_front [] (end_len b bs) 1 (long_from level 0 (drop (end_len b bs) (b ∷ bs)))
    else long_from level 0 (b ∷ bs)

-- the level of the long bracket that opens after this first bracket
abbrev pub level_of : Text → Option ℕ
level_of bs = if first_is (λ c. c == 91) (drop (equals bs) bs) then Some (equals bs) else None

-- what a function that reads a string answers, unless memory is wanting
abbrev pub IsFound : Found → Result Quoted StringError → Type 0
IsFound found (Ok q) = found ≡ Ok q
IsFound found (Err (Bad kind)) = found ≡ Err kind
IsFound found (Err Memory) = Unit {0}
