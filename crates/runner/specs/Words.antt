-- The words of the command.
use Rattle.std.specs.Prelude.{ℕ, List, [], ◌∷◌, Bool, true, false, not, ◌==◌}

-- a word does not begin as an option does, with a hyphen
abbrev pub is_folder : List ℕ → Bool
is_folder [] = true
is_folder (byte ∷ bytes) = not (byte == 45)

-- so far the words are the folder's name alone
abbrev pub is_form : List (List ℕ) → Bool
is_form (word ∷ []) = is_folder word
is_form _ = false
