-- The logger's lines (service_logger.c, without a time stamp).
use Rattle.std.specs.Prelude.{ℕ, ◌-◌, List, [], ◌∷◌, ◌++◌, length, replicate, codes, false}
use Rattle.std.specs.Fmt.{digits}
use Rattle.sk_types.specs.declared.number.Handle.{Handle}
use Rattle.sk_types.specs.declared.number.Kind.{Kind}
use Rattle.sk_types.specs.declared.number.Kind.TheVariants as kind
use Rattle.runner.specs.declared.message.Message.{Message}

-- filled up with zeros to eight digits
abbrev pub eight_digits : List ℕ → List ℕ
eight_digits text = replicate (8 - length text) 48 ++ text

-- a colon, and the handle in lower-case hexadecimal
abbrev pub address_of : Handle → List ℕ
address_of handle = 58 ∷ eight_digits (digits 16 false handle.0)

-- the first text of a body, or none
abbrev pub first_text : List (List ℕ) → List ℕ
first_text [] = []
first_text (text ∷ texts) = text

-- [:0000000h] text
abbrev pub text_line : Handle → List ℕ → List ℕ
text_line source text = 91 ∷ (address_of source ++ (codes "] " ++ (text ++ 10 ∷ [])))

-- a message of kind Text gives a line, and any other gives none
abbrev pub line_for : Kind → Message → List ℕ
line_for kind.Text m = text_line m.source (first_text m.body)
line_for _ m = []

abbrev pub line_of : Message → List ℕ
line_of m = line_for m.kind m
