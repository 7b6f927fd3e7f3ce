-- The logger's lines (service_logger.c, without its time stamp).
use Rattle.std.specs.Prelude.{ℕ, zero, suc, ◌+◌, ◌/◌, ◌%◌, ◌==◌, ◌&&◌, nat_lt, List, [], ◌∷◌, ◌++◌, Option, Some, None, if◌then◌else◌, codes}
use Rattle.sk_types.specs.declared.number.Handle.{Handle}
use Rattle.message.specs.Messages.{is_text}
use Rattle.message.specs.Actors.{Way}
use Rattle.message.specs.Worlds.{World, act}
use Rattle.message.specs.declared.datum.Datum.{Datum}
use Rattle.message.specs.declared.datum.Datum.TheVariants.{Text}
use Rattle.message.specs.declared.record.What.{What}
use Rattle.message.specs.declared.record.What.TheVariants as did

-- a digit of a number in base 16, as its character
abbrev pub hex_digit : ℕ → ℕ
hex_digit d = if nat_lt d 10 then 48 + d else 87 + d

-- the last so many digits of a number in base 16
abbrev pub hex : ℕ → ℕ → List ℕ
hex zero n = []
hex (suc k) n = hex k (n / 16) ++ hex_digit (n % 16) ∷ []

-- a text as the logger writes it, with its source in front
abbrev pub line : Handle → List ℕ → List ℕ
line source text = codes "[:" ++ (hex 8 source.0 ++ (codes "] " ++ (text ++ codes "\n")))

-- the text of a message: its first datum, where that is a text
abbrev pub text_of : List Datum → List ℕ
text_of (Text t ∷ ds) = t
text_of _ = []

-- the line that an act writes: the logger, agent 1, takes a message of kind Text
abbrev pub line_of : Handle → What → Option (List ℕ)
line_of h (did.Take m left) = if (h.0 == 1) && is_text m.kind then Some (line m.source (text_of m.body)) else None
line_of h _ = None

abbrev pub or_empty : Option (List ℕ) → List ℕ
or_empty None = []
or_empty (Some l) = l

abbrev pub lines_on : {S : Type 0} → Handle → Option (What × World S) → (World S → List ℕ) → List ℕ
lines_on h None f = []
lines_on h (Some d) f = or_empty (line_of h d.0) ++ f d.1

-- the text of a run: the lines of its acts, one after another
abbrev pub text : {S : Type 0} → Way S → List Handle → World S → List ℕ
text way [] w = []
text way (h ∷ hs) w = lines_on h (act way w h) (λ w2. text way hs w2)
