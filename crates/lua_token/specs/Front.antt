-- What a text begins with (Lua 5.4 manual, section 3.1).
use Rattle.std.specs.Prelude.{ℕ, ℤ, ◌+◌, ◌==◌, ◌||◌, ◌&&◌, Bool, [], ◌∷◌, take, drop, length, take_while, if◌then◌else◌, Option, Some, None, Ok, Err, ◌≤◌, ◌<◌}
use Rattle.sk_types.specs.declared.fault.SyntaxKind.TheVariants as bad
use Rattle.lua_tree.specs.declared.token.Sign.{Sign}
use Rattle.lua_tree.specs.declared.token.TokenKind.TheVariants as kind
use Rattle.lua_token.specs.declared.front.Front.{Front}
use Rattle.lua_token.specs.declared.front.Front.TheVariants.{End, Gap, Item, Bad}
use Rattle.lua_token.specs.Characters.{Text, end_len, first_is, is_blank, is_digit, is_end, is_letter, is_name_byte, is_no_end, is_numeral_byte}
use Rattle.lua_token.specs.Names.{named}
use Rattle.lua_token.specs.Numerals.{integer_of}
use Rattle.lua_token.specs.Signs.{sign_of_one, sign_of_three, sign_of_two}
use Rattle.lua_token.specs.Strings.{Found, level_of, long_body, short_from}

-- a numeral is the longest run of its bytes, and spells an integer or nothing
abbrev pub numeral_or : Option ℤ → ℕ → Front
numeral_or (Some n) len = Item (kind.Int n) len 0
numeral_or None len = Bad bad.BadNumeral

abbrev pub numeral : Text → Front
numeral text = numeral_or (integer_of text) (length text)

abbrev pub name : Text → Front
name text = Item (named text) (length text) 0

-- a string with so many bytes before what was found of it
abbrev pub string : ℕ → Found → Front
string before (Ok q) = Item (kind.Text q.text) (before + q.len) q.lines
string before (Err fault) = Bad fault

-- so is a comment, of which nothing stays
abbrev pub remark : ℕ → Found → Front
remark before (Ok q) = Gap (before + q.len) q.lines
remark before (Err fault) = Bad fault

abbrev pub sign_or : Option Sign → ℕ → Front → Front
sign_or (Some s) len other = Item (kind.Sign s) len 0
sign_or None len other = other

-- the longest sign
abbrev pub signed : Text → Front
signed bytes = sign_or (sign_of_three (take 3 bytes)) 3 (sign_or (sign_of_two (take 2 bytes)) 2 (sign_or (sign_of_one (take 1 bytes)) 1 (Bad bad.BadByte)))

-- after the hyphens: a long bracket makes a long comment, and else the comment ends with its line
abbrev pub remark_at : Option ℕ → Text → Front
remark_at (Some level) after = remark (level + 4) (long_body level (drop (level + 2) after))
remark_at None after = Gap (2 + length (take_while is_no_end after)) 0

abbrev pub bracket_level : Text → Option ℕ
bracket_level [] = None
bracket_level (b ∷ bs) = if b == 91 then level_of bs else None

-- what begins with the second hyphen
abbrev pub comment : Text → Front
comment bs = remark_at (bracket_level (drop 1 bs)) (drop 1 bs)

-- after a bracket: a long string, or the sign
abbrev pub bracket : Option ℕ → Text → Front
bracket (Some level) bytes = string (level + 2) (long_body level (drop (level + 2) bytes))
bracket None bytes = signed bytes

abbrev pub is_numeral_start : ℕ → Text → Bool
is_numeral_start b bs = is_digit b || (b == 46 && first_is is_digit bs)

abbrev pub is_comment : ℕ → Text → Bool
is_comment b bs = b == 45 && first_is (λ c. c == 45) bs

abbrev pub is_quote : ℕ → Bool
is_quote b = b == 34 || b == 39

unfoldable pub front : Text → Front
front [] = End
front (b ∷ bs) =
    if is_blank b then Gap 1 0
    else (if is_end b then Gap (end_len b bs) 1
    else (if is_letter b then name (take_while is_name_byte (b ∷ bs))
    else (if is_numeral_start b bs then numeral (take_while is_numeral_byte (b ∷ bs))
    else (if is_quote b then string 1 (short_from b 0 bs)
    else (if is_comment b bs then comment bs
    else bracket (bracket_level (b ∷ bs)) (b ∷ bs))))))

-- it takes some of the text, no more than there is, and no more ends of line than bytes
abbrev pub Within : Front → ℕ → Type 0
Within (Gap n lines) len = (0 < n) × (n ≤ len) × (lines ≤ n)
Within (Item kind n lines) len = (0 < n) × (n ≤ len) × (lines ≤ n)
Within _ len = Unit {0}
