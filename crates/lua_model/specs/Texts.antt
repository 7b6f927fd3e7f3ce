-- Strings: their bytes, their order, and their numbers (Lua 5.4 manual, sections 2.1, 3.4.3, 3.4.4 and 3.4.6).
use Rattle.std.specs.Prelude.{ℕ, suc, Bool, if◌then◌else◌, List, [], ◌∷◌, Option, Some, None, slice_get, nat_eq, unwrap_or}
use Rattle.std.specs.Fmt.{signed_decimal}
use Rattle.std.specs.Cmp.Lexicographic.{pointwise}
use Rattle.lua_value.specs.declared.value.Value.{Value}
use Rattle.lua_value.specs.declared.value.Value.TheVariants as value

-- the strings of a heap, in the order in which they were first made; a string's number is its place
abbrev pub Texts : Type 0
Texts = List (List ℕ)

abbrev pub same_bytes : List ℕ → List ℕ → Bool
same_bytes a b = pointwise nat_eq a b

-- the place of a string, or the next free one
abbrev pub number_of : Texts → List ℕ → ℕ
number_of [] bytes = 0
number_of (t ∷ ts) bytes = if same_bytes bytes t then 0 else suc (number_of ts bytes)

-- equal bytes stand once
abbrev pub with_text : Texts → List ℕ → Texts
with_text [] bytes = bytes ∷ []
with_text (t ∷ ts) bytes = if same_bytes bytes t then t ∷ ts else t ∷ with_text ts bytes

-- the bytes of the string with a number; there are none where it was never made
abbrev pub bytes_at : Texts → ℕ → List ℕ
bytes_at texts k = unwrap_or (slice_get texts k) []

-- a string's bytes, and an integer in decimal, as `..` takes them
abbrev pub spelled : Texts → Value → Option (List ℕ)
spelled texts (value.Text k) = Some (bytes_at texts k)
spelled texts (value.Int z) = Some (signed_decimal z)
spelled texts _ = None
