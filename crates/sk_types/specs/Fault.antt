-- The text of each kind of fault.
use Rattle.std.specs.Prelude.{List, ℕ, codes}
use Rattle.sk_types.specs.declared.fault.SyntaxKind.{SyntaxKind}
use Rattle.sk_types.specs.declared.fault.SyntaxKind.TheVariants as kind

abbrev pub text_of : SyntaxKind → List ℕ
text_of kind.BadByte = codes "bad byte"
text_of kind.OpenString = codes "unfinished string"
text_of kind.OpenLong = codes "unfinished long string"
text_of kind.BadEscape = codes "bad escape"
text_of kind.BadNumeral = codes "bad numeral"
text_of kind.TooLong = codes "script too long"
text_of kind.Float = codes "float operator"
text_of kind.Unexpected = codes "unexpected token"
text_of kind.Nesting = codes "too deeply nested"
text_of kind.Locals = codes "too many locals"
text_of kind.Break = codes "break outside a loop"
text_of kind.Vararg = codes "vararg outside a vararg function"
text_of kind.Unsupported = codes "not supported"
text_of kind.NotBuilt = codes "not built yet"
