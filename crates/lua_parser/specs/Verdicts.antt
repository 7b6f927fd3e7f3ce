-- What the code finds at a token, before and after it is taken.
use Rattle.std.specs.Prelude.{◌≡◌, List, Bool, true, false, if◌then◌else◌, Option, Some, None, Result, Ok, Err}
use Rattle.sk_types.specs.declared.fault.SyntaxKind.{SyntaxKind}
use Rattle.sk_types.specs.declared.fault.SyntaxKind.TheVariants as bad
use Rattle.sk_types.specs.declared.fault.SyntaxFault.{SyntaxFault}
use Rattle.lua_tree.specs.declared.token.TokenKind.{TokenKind}
use Rattle.lua_grammar.specs.declared.symbol.Symbol.{Symbol}
use Rattle.lua_grammar.specs.Parts.{Parts}
use Rattle.lua_grammar.specs.Machine.{State}
use Rattle.lua_grammar.specs.Faults.{is_float, is_unsupported, is_over, is_stray_break, is_stray_dots, top_names}
use Rattle.lua_parser.specs.declared.error.ParseError.{ParseError}
use Rattle.lua_parser.specs.declared.error.ParseError.TheVariants.{Memory, Fault}
use Rattle.lua_parser.specs.declared.reader.Reader.{Reader}

-- what is wrong with a token whether it fits or not
abbrev pub outside : List Symbol → TokenKind → Option SyntaxKind
outside before t = if is_float t then Some bad.Float else (if is_unsupported before t then Some bad.Unsupported else None)

-- what is wrong with a token by what is in scope
abbrev pub stray : List Symbol → TokenKind → Option SyntaxKind
stray before t =
    if is_over (top_names before) t then Some bad.Locals
    else (if is_stray_break before t then Some bad.Break
    else (if is_stray_dots before t then Some bad.Vararg
    else None))

-- whether a token fits, and the state that it leaves
abbrev pub Fed : Option State → Bool → State → Type 0
Fed fed true now = fed ≡ Some now
Fed fed false now = fed ≡ None

-- whether the text may end, and the parts that it leaves
abbrev pub Finished : Option Parts → Bool → Parts → Type 0
Finished done true parts = done ≡ Some parts
Finished done false parts = done ≡ None

-- what is wrong with a token, or the state that it leaves
abbrev pub Judged : Result State SyntaxKind → Option SyntaxKind → State → Type 0
Judged judged None now = judged ≡ Ok now
Judged judged (Some kind) now = judged ≡ Err kind

-- what a whole reading gives, unless memory is wanting
abbrev pub Reads : Result Parts SyntaxFault → Result Reader ParseError → Type 0
Reads reading (Ok reader) = reading ≡ Ok reader.trees
Reads reading (Err (Fault f)) = reading ≡ Err f
Reads reading (Err Memory) = Unit {0}
