-- Levels, and the stack.
use Rattle.std.proofs.Common.{◌*◌, ◌≤◌, List, [], ◌∷◌, length, arith}
use Rattle.lua_grammar.specs.declared.symbol.Effect.TheVariants as act
use Rattle.lua_grammar.specs.declared.symbol.Symbol.{Symbol}
use Rattle.lua_grammar.specs.declared.symbol.Symbol.TheVariants as x
use Rattle.lua_grammar.specs.Faults.{weight, level_of}

weight_le : (s : Symbol) → weight s ≤ 2
weight_le (x.Make (act.Unary o)) = omega arith
weight_le (x.Make (act.AddOperand o)) = omega arith
weight_le (x.Make act.Repeat) = omega arith
weight_le (x.Make _) = omega arith
weight_le _ = omega arith

pub level_le : (s : List Symbol) → level_of s ≤ 2 * length s
level_le [] = omega arith
level_le (s ∷ more) = omega (arith, weight_le s, level_le more)
