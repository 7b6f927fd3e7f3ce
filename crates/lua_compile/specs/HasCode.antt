-- Which terms the compiler has code for: those that make and read no table, and that name locals alone (manual, sections 3.2 and 3.4.9 for what is
-- left out). The names in scope are told the innermost first. Of what the grammar rules out it is said too that a chain has an operand and
-- that a `break` stands in a loop (manual, sections 3.3.4 and 3.4).
use Rattle.std.specs.Prelude.{◌≡◌, Bool, true, false, if◌then◌else◌, List, [], ◌∷◌}
use Rattle.lua_tree.specs.Source as source
use Rattle.lua_tree.specs.Source.{Text, Block, Plain, Returns, Stats, NoStat, MoreStats, Stat, Branches, NoElse, Else, Elseif, Targets, NoTarget, MoreTargets, Variable, Element, Exps, NoExp, MoreExps, Exp, Operands, NoOperand, MoreOperands, Suffixes, NoSuffix, MoreSuffixes, Body, body}
use Rattle.lua_model.specs.Texts.{same_bytes}
use Rattle.lua_compile.specs.Forms.{no_more}

abbrev pub in_scope : List Text → Text → Bool
in_scope [] x = false
in_scope (n ∷ ns) x = if same_bytes n x then true else in_scope ns x

-- these locals come into scope, one after another
abbrev pub with_names : List Text → List Text → List Text
with_names [] ns = ns
with_names (x ∷ xs) ns = with_names xs (x ∷ ns)

-- the names in scope after a statement, and at the end of a block
abbrev pub names_after : Stat → List Text → List Text
names_after (source.Local xs es) ns = with_names xs ns
names_after (source.LocalFunction x p) ns = x ∷ ns
names_after _ ns = ns

abbrev pub names_at_end : Stats → List Text → List Text
names_at_end NoStat ns = ns
names_at_end (MoreStats t ts) ns = names_at_end ts (names_after t ns)

abbrev pub names_inside : Block → List Text → List Text
names_inside (Plain ts) ns = names_at_end ts ns
names_inside (Returns ts es) ns = names_at_end ts ns

-- the targets of an assignment are locals
abbrev pub AreLocals : Targets → List Text → Type 0
AreLocals NoTarget ns = Unit {0}
AreLocals (MoreTargets (Variable x) ts) ns = (in_scope ns x ≡ true) × AreLocals ts ns
AreLocals (MoreTargets (Element a b line) ts) ns = ⊥

abbrev mutual
  pub ExpHasCode : Exp → List Text → Type 0
  ExpHasCode (source.Function p) ns = BodyHasCode p ns
  ExpHasCode (source.Name x) ns = in_scope ns x ≡ true
  ExpHasCode (source.Paren e) ns = ExpHasCode e ns
  ExpHasCode (source.Table fs) ns = ⊥
  ExpHasCode (source.Suffixed e ss) ns = ExpHasCode e ns × SuffixesHaveCode ss ns
  ExpHasCode (source.Unary o line e) ns = ExpHasCode e ns
  ExpHasCode (source.Chain e os) ns = (no_more os ≡ false) × ExpHasCode e ns × OperandsHaveCode os ns
  ExpHasCode _ ns = Unit {0}

  pub OperandsHaveCode : Operands → List Text → Type 0
  OperandsHaveCode NoOperand ns = Unit {0}
  OperandsHaveCode (MoreOperands o line e os) ns = ExpHasCode e ns × OperandsHaveCode os ns

  pub SuffixesHaveCode : Suffixes → List Text → Type 0
  SuffixesHaveCode NoSuffix ns = Unit {0}
  SuffixesHaveCode (MoreSuffixes (source.Call es line) ss) ns = ExpsHaveCode es ns × SuffixesHaveCode ss ns
  SuffixesHaveCode (MoreSuffixes (source.Index e line) ss) ns = ⊥
  SuffixesHaveCode (MoreSuffixes (source.Method x at es line) ss) ns = ⊥

  pub ExpsHaveCode : Exps → List Text → Type 0
  ExpsHaveCode NoExp ns = Unit {0}
  ExpsHaveCode (MoreExps e es) ns = ExpHasCode e ns × ExpsHaveCode es ns

  pub BodyHasCode : Body → List Text → Type 0
  BodyHasCode (body xs dots p) ns = BlockHasCode p (with_names xs ns) false

  -- and whether the block stands in a loop of its function
  pub BlockHasCode : Block → List Text → Bool → Type 0
  BlockHasCode (Plain ts) ns loop = StatsHaveCode ts ns loop
  BlockHasCode (Returns ts es) ns loop = StatsHaveCode ts ns loop × ExpsHaveCode es (names_at_end ts ns)

  pub StatsHaveCode : Stats → List Text → Bool → Type 0
  StatsHaveCode NoStat ns loop = Unit {0}
  StatsHaveCode (MoreStats t ts) ns loop = StatHasCode t ns loop × StatsHaveCode ts (names_after t ns) loop

  pub StatHasCode : Stat → List Text → Bool → Type 0
  StatHasCode (source.Assign ts es) ns loop = AreLocals ts ns × ExpsHaveCode es ns
  StatHasCode (source.Invoke e) ns loop = ExpHasCode e ns
  StatHasCode source.Break ns loop = loop ≡ true
  StatHasCode (source.Do p) ns loop = BlockHasCode p ns loop
  StatHasCode (source.While e p) ns loop = ExpHasCode e ns × BlockHasCode p ns true
  StatHasCode (source.Repeat p e) ns loop = BlockHasCode p ns true × ExpHasCode e (names_inside p ns)
  StatHasCode (source.If e p others) ns loop = ExpHasCode e ns × BlockHasCode p ns loop × BranchesHaveCode others ns loop
  StatHasCode (source.Numeric x first limit p line) ns loop = ExpHasCode first ns × ExpHasCode limit ns × BlockHasCode p (x ∷ ns) true
  StatHasCode (source.NumericBy x first limit step p line) ns loop =
      ExpHasCode first ns × ExpHasCode limit ns × ExpHasCode step ns × BlockHasCode p (x ∷ ns) true
  StatHasCode (source.Generic xs es p line) ns loop = ExpsHaveCode es ns × BlockHasCode p (with_names xs ns) true
  StatHasCode (source.Local xs es) ns loop = ExpsHaveCode es ns
  StatHasCode (source.LocalFunction x p) ns loop = BodyHasCode p (x ∷ ns)

  pub BranchesHaveCode : Branches → List Text → Bool → Type 0
  BranchesHaveCode NoElse ns loop = Unit {0}
  BranchesHaveCode (Else p) ns loop = BlockHasCode p ns loop
  BranchesHaveCode (Elseif e p others) ns loop = ExpHasCode e ns × BlockHasCode p ns loop × BranchesHaveCode others ns loop

-- the whole chunk; outside it no name is in scope
abbrev pub HasCode : Block → Type 0
HasCode b = BlockHasCode b [] false
