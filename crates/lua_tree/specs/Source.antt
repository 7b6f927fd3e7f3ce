-- A script as plain data: what its meaning is told of. (The Lua 5.4 manual, sections 3.3 and 3.4.)
use Rattle.std.specs.Prelude.{ℕ, ℤ, Bool, List}
use Rattle.lua_tree.specs.declared.tree.UnaryOp.{UnaryOp}
use Rattle.lua_tree.specs.declared.tree.BinaryOp.{BinaryOp}

abbrev pub Text : Type 0
Text = List ℕ

mutual
  -- a block has its statements, and where it ends in `return` what it returns
  pub data Block : Type 0 where
    Plain : Stats → Block
    Returns : Stats → Exps → Block

  pub data Stats : Type 0 where
    NoStat : Stats
    MoreStats : Stat → Stats → Stats

  -- a number is the line of the word `for`
  pub data Stat : Type 0 where
    Assign : Targets → Exps → Stat
    Invoke : Exp → Stat
    Break : Stat
    Do : Block → Stat
    While : Exp → Block → Stat
    Repeat : Block → Exp → Stat
    If : Exp → Block → Branches → Stat
    Numeric : Text → Exp → Exp → Block → ℕ → Stat
    NumericBy : Text → Exp → Exp → Exp → Block → ℕ → Stat
    Generic : List Text → Exps → Block → ℕ → Stat
    Local : List Text → Exps → Stat
    LocalFunction : Text → Body → Stat

  -- what is tried after the first test of an `if`
  pub data Branches : Type 0 where
    NoElse : Branches
    Else : Block → Branches
    Elseif : Exp → Block → Branches → Branches

  pub data Targets : Type 0 where
    NoTarget : Targets
    MoreTargets : Target → Targets → Targets

  -- a variable, or the element of a table under a key with the line of the index sign
  pub data Target : Type 0 where
    Variable : Text → Target
    Element : Exp → Exp → ℕ → Target

  pub data Exps : Type 0 where
    NoExp : Exps
    MoreExps : Exp → Exps → Exps

  -- The suffixes and the operands of a list are applied from the first to the last.
  pub data Exp : Type 0 where
    Nil : Exp
    False : Exp
    True : Exp
    Int : ℤ → Exp
    Str : Text → Exp
    Dots : Exp
    Function : Body → Exp
    Name : Text → Exp
    Paren : Exp → Exp
    Table : Fields → Exp
    Suffixed : Exp → Suffixes → Exp
    Unary : UnaryOp → ℕ → Exp → Exp
    Chain : Exp → Operands → Exp

  -- an operator, its line and its right operand
  pub data Operands : Type 0 where
    NoOperand : Operands
    MoreOperands : BinaryOp → ℕ → Exp → Operands → Operands

  pub data Suffixes : Type 0 where
    NoSuffix : Suffixes
    MoreSuffixes : Suffix → Suffixes → Suffixes

  -- A key with the line of its sign; arguments with the line of their first token; a method's name and arguments, with the lines of both.
  pub data Suffix : Type 0 where
    Index : Exp → ℕ → Suffix
    Call : Exps → ℕ → Suffix
    Method : Text → ℕ → Exps → ℕ → Suffix

  pub data Fields : Type 0 where
    NoField : Fields
    MoreFields : Field → Fields → Fields

  pub data Field : Type 0 where
    KeyField : Exp → Exp → Field
    ItemField : Exp → Field

  -- the parameters, whether `...` comes after them, and the block
  pub data Body : Type 0 where
    body : List Text → Bool → Block → Body
