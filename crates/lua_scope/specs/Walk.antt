-- The uses and the locals of a text, one after another (Lua 5.4 manual, sections 3.3 to 3.5).
use Rattle.std.specs.Prelude.{[]}
use Rattle.lua_tree.specs.Source as source
use Rattle.lua_tree.specs.Source.{Text, Block, Plain, Returns, Stats, NoStat, MoreStats, Stat, Branches, NoElse, Else, Elseif, Targets, NoTarget, MoreTargets, Target, Variable, Element, Exps, NoExp, MoreExps, Exp, Operands, NoOperand, MoreOperands, Suffixes, NoSuffix, MoreSuffixes, Suffix, Fields, NoField, MoreFields, Field, KeyField, ItemField, Body, body}
use Rattle.lua_scope.specs.Scope.{Walk, used, declared, all_declared, closed, entered}

abbrev mutual
  pub exp_read : Exp → Walk → Walk
  exp_read source.Nil w = w
  exp_read source.False w = w
  exp_read source.True w = w
  exp_read (source.Int n) w = w
  exp_read (source.Str t) w = w
  exp_read source.Dots w = w
  exp_read (source.Function f) w = body_read f w
  exp_read (source.Name x) w = used x w
  exp_read (source.Paren e) w = exp_read e w
  exp_read (source.Table fs) w = fields_read fs w
  exp_read (source.Suffixed e ss) w = suffixes_read ss (exp_read e w)
  exp_read (source.Unary op line e) w = exp_read e w
  exp_read (source.Chain e os) w = operands_read os (exp_read e w)

  pub exps_read : Exps → Walk → Walk
  exps_read NoExp w = w
  exps_read (MoreExps e es) w = exps_read es (exp_read e w)

  pub operands_read : Operands → Walk → Walk
  operands_read NoOperand w = w
  operands_read (MoreOperands op line e os) w = operands_read os (exp_read e w)

  pub suffixes_read : Suffixes → Walk → Walk
  suffixes_read NoSuffix w = w
  suffixes_read (MoreSuffixes s ss) w = suffixes_read ss (suffix_read s w)

  pub suffix_read : Suffix → Walk → Walk
  suffix_read (source.Index e line) w = exp_read e w
  suffix_read (source.Call es line) w = exps_read es w
  suffix_read (source.Method x at es line) w = exps_read es w

  pub fields_read : Fields → Walk → Walk
  fields_read NoField w = w
  fields_read (MoreFields f fs) w = fields_read fs (field_read f w)

  pub field_read : Field → Walk → Walk
  field_read (KeyField a b) w = exp_read b (exp_read a w)
  field_read (ItemField a) w = exp_read a w

  -- the parameters are locals of the function
  pub body_read : Body → Walk → Walk
  body_read (body xs dots b) w = closed w (block_read b (all_declared xs (entered w)))

  -- a block, up to its end
  pub block_read : Block → Walk → Walk
  block_read (Plain ts) w = stats_read ts w
  block_read (Returns ts es) w = exps_read es (stats_read ts w)

  pub stats_read : Stats → Walk → Walk
  stats_read NoStat w = w
  stats_read (MoreStats t ts) w = stats_read ts (stat_read t w)

  -- a local is in scope after its statement, but a local function is in its own body
  pub stat_read : Stat → Walk → Walk
  stat_read (source.Assign ts es) w = exps_read es (targets_read ts w)
  stat_read (source.Invoke e) w = exp_read e w
  stat_read source.Break w = w
  stat_read (source.Do b) w = closed w (block_read b w)
  stat_read (source.While e b) w = closed (exp_read e w) (block_read b (exp_read e w))
  stat_read (source.Repeat b e) w = closed w (exp_read e (block_read b w))
  stat_read (source.If e b others) w = branches_read others (closed (exp_read e w) (block_read b (exp_read e w)))
  stat_read (source.Numeric x a b p line) w =
      let v = exp_read b (exp_read a w) in closed v (block_read p (declared x v))
  stat_read (source.NumericBy x a b c p line) w =
      let v = exp_read c (exp_read b (exp_read a w)) in closed v (block_read p (declared x v))
  stat_read (source.Generic xs es p line) w =
      let v = exps_read es w in closed v (block_read p (all_declared xs v))
  stat_read (source.Local xs es) w = all_declared xs (exps_read es w)
  stat_read (source.LocalFunction x f) w = body_read f (declared x w)

  pub branches_read : Branches → Walk → Walk
  branches_read NoElse w = w
  branches_read (Else b) w = closed w (block_read b w)
  branches_read (Elseif e b others) w = branches_read others (closed (exp_read e w) (block_read b (exp_read e w)))

  pub targets_read : Targets → Walk → Walk
  targets_read NoTarget w = w
  targets_read (MoreTargets t ts) w = targets_read ts (target_read t w)

  pub target_read : Target → Walk → Walk
  target_read (Variable x) w = used x w
  target_read (Element a b line) w = exp_read b (exp_read a w)

-- before the text nothing is in scope; the chunk is a function without parameters
abbrev pub nothing_read : Walk
nothing_read = record { scope = []; outside = 0; uses = []; locals = 0 }

abbrev pub chunk_read : Block → Walk
chunk_read b = block_read b nothing_read
