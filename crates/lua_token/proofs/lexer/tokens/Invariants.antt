use Rattle.std.proofs.Common.{◌+◌, ◌-◌, ◌≤◌, List, ◌++◌, length, drop}
use Rattle.sk_types.specs.declared.fault.SyntaxFault.{SyntaxFault}
use Rattle.lua_tree.specs.declared.token.Token.{Token}
use Rattle.lua_token.specs.Spells.{Spells, Faulty, hash_line}
use Rattle.lua_token.proofs.lexer.tokens.Given as goal

-- what spells the rest goes on with the tokens so far
abbrev pub invariant-loop-found : goal.invariant-loop-found
invariant-loop-found l = record {
  small : length l.source ≤ 1048576;
  within : length l.rest ≤ length l.source;
  lines : l.line ≤ 1 + (length l.source - length l.rest);
  spells : (ts : List Token) → Spells (length l.source - length l.rest) l.line l.rest ts → Spells (hash_line l.source) 1 (drop (hash_line l.source) l.source) (l.found ++ ts);
  faulty : (f : SyntaxFault) → Faulty (length l.source - length l.rest) l.line l.rest f → Faulty (hash_line l.source) 1 (drop (hash_line l.source) l.source) f;
}

abbrev pub decreases-loop-found : goal.decreases-loop-found
decreases-loop-found l = length l.rest
