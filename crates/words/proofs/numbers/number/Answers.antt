use Rattle.std.proofs.Common.{◌≡◌, ◌∙◌, ◌<◌, ◌≤◌, ◌^◌, ℕ, true, List, length, sym, rules, arith}
use Rattle.std.specs.Prelude.{Result, Ok}
use Rattle.std.specs.Char.{is_ascii_digit}
use Rattle.std.specs.List.{list_all}
use Rattle.std.specs.Str.Parse.{ParsesUnsigned, digits_value}
use Rattle.std.proofs.lemmas.Str.Parse.{IsNumeralModel, numerals_by_value, parse_gives, digits_value_short}
use Rattle.std.proofs.lemmas.Grind.{common_steps}
use Rattle.words.specs.Numbers.{is_digits}
use Rattle.words.proofs.numbers.number.Goals as goal

own : IsNumeralModel (λ ds. list_all is_ascii_digit ds ≡ true) (digits_value 10)
own = numerals_by_value _ (search rules)

digits_parts : (text : List ℕ) → is_digits text ≡ true
    → (0 < length text) × (length text ≤ 10) × (list_all is_ascii_digit text ≡ true)
digits_parts text h = search (rules, common_steps)

parses : {E : Type 0} (text : List ℕ) (r : Result ℕ E) → is_digits text ≡ true → ParsesUnsigned 64 10 text r → r ≡ Ok (digits_value 10 text)
parses text r h p =
    let parts = digits_parts text h in
    let short : digits_value 10 text < 10 ^ 10 = digits_value_short own text 10 parts.2 parts.1 in
    parse_gives own 64 text r p parts.2 parts.0 (omega arith)

pub returns-in_default-clause-number : goal.returns-in_default-clause-number
returns-in_default-clause-number c =
    let ok = parses c.args.text.now c.parse.result (sym c.is_digits.ensures ∙ c.if-not-is_digits.false) c.parse.ensures.value.0 in
    absurd (cc)
