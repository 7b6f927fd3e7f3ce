-- Small chunks, compiled and run: they give what their meaning gives, which is what Lua 5.4 gives.
use Rattle.std.specs.Prelude.{◌≡◌, ℕ, zero, suc, ◌-◌, true, Bool, List, [], ◌∷◌, ◌++◌, length, codes, pos, negsuc}
use Rattle.lua_tree.specs.Source.{Block, Returns, NoStat, MoreStats, Assign, Local, Targets, NoTarget, MoreTargets, Variable, NoExp}
use Rattle.lua_value.specs.declared.value.Value.TheVariants as value
use Rattle.lua_meaning.specs.Worked as source
use Rattle.lua_meaning.specs.Worked.{Outcome, Values, Error, NoTicks, NoUnits, ints, counting}
use Rattle.lua_scope.specs.declared.usage.Use.{Use}
use Rattle.lua_scope.specs.Scope.{is_captured}
use Rattle.lua_scope.specs.Walk.{chunk_read}
use Rattle.lua_steps.specs.Machine.{Code}
use Rattle.lua_steps.specs.Calls.{given}
use Rattle.lua_steps.specs.Exec as machine
use Rattle.lua_steps.specs.Run.{run, outcome_of}
use Rattle.lua_compile.specs.Written.{chunk_written}

-- what the chunk `m` gives within n operations, this budget and these units
abbrev pub within : List Bool → ℕ → ℕ → ℕ → Block → Outcome
within flags n budget limit b =
    let code : Code = (chunk_written flags b).made in
    outcome_of (run n code (given (machine.opening (codes "m") (length code - 1) (counting limit) budget) []))

-- which of the first n locals a closure captures
abbrev pub flags_from : List Use → ℕ → List Bool
flags_from uses zero = []
flags_from uses (suc n) = flags_from uses n ++ is_captured uses n ∷ []

-- with the captured locals in cells, and with all of them
abbrev pub gives : Block → Outcome
gives b = within (flags_from (chunk_read b).uses (chunk_read b).locals) 200 100 100 b

abbrev pub gives_by_cells : Block → Outcome
gives_by_cells b = within [] 200 100 100 b

-- `local a, b; b, a, a, .. = 1, 2, 3`, with n times a: too many targets for slots
abbrev pub times_a : ℕ → Targets
times_a zero = NoTarget
times_a (suc n) = MoreTargets (Variable source.a) (times_a n)

abbrev pub many_targets : ℕ → Block
many_targets n =
    Returns (MoreStats (Local (source.a ∷ source.b ∷ []) NoExp)
    (MoreStats (Assign (MoreTargets (Variable source.b) (times_a n)) (source.list (source.int 1 ∷ source.int 2 ∷ source.int 3 ∷ []))) NoStat))
    (source.list (source.name source.a ∷ source.name source.b ∷ []))

pub record CompiledChunksAreAsInLua : Type 0 where
  pub operators_give : gives source.operators ≡ ints (negsuc 3 ∷ negsuc 0 ∷ pos 0 ∷ [])
  pub swap_gives : gives source.swap ≡ ints (pos 2 ∷ pos 1 ∷ [])
  pub twice_gives : gives source.twice ≡ ints (pos 1 ∷ [])
  pub turns_are_fresh : gives source.fresh_each_turn ≡ ints (pos 1 ∷ pos 2 ∷ [])
  pub locals_are_shared : gives source.shared ≡ ints (pos 3 ∷ [])
  pub lists_are_cut : gives source.varargs ≡ ints (pos 1 ∷ pos 3 ∷ pos 5 ∷ pos 6 ∷ [])
  pub lists_are_filled : gives source.filled ≡ Values (value.Nil ∷ value.Int (pos 2) ∷ value.Int (pos 1) ∷ [])
  pub nothing_wraps : gives source.ends_of_range ≡ ints (pos 6 ∷ [])
  pub loops_give : gives source.loops ≡ ints (pos 6 ∷ [])
  pub iterator_gives : gives source.iterator ≡ ints (pos 27 ∷ [])
  pub links_give : gives source.links ≡ Values (value.Int (pos 1) ∷ value.Int (pos 3) ∷ value.Nil ∷ [])
  pub strings_give : gives source.strings ≡ Values (value.Int (pos 2) ∷ value.Bool true ∷ value.Bool true ∷ [])
  pub wrong_raises : gives source.wrong ≡ Error (codes "m.lua:1: attempt to perform arithmetic on a nil value")
  pub no_function_raises : gives source.no_function ≡ Error (codes "m.lua:1: attempt to call a nil value")
  pub endless_stops : gives source.endless ≡ NoTicks
  pub tail_gives : gives source.tail ≡ ints (pos 7 ∷ [])
  pub units_are_exact : within [] 200 100 1 source.strings ≡ Values (value.Int (pos 2) ∷ value.Bool true ∷ value.Bool true ∷ [])
  pub units_are_counted : within [] 200 100 0 source.strings ≡ NoUnits
  pub cells_are_shared : gives_by_cells source.shared ≡ ints (pos 3 ∷ [])
  pub cells_are_fresh : gives_by_cells source.fresh_each_turn ≡ ints (pos 1 ∷ pos 2 ∷ [])
  pub cells_swap : gives_by_cells source.swap ≡ ints (pos 2 ∷ pos 1 ∷ [])
  pub loops_by_cells : gives_by_cells source.loops ≡ ints (pos 6 ∷ [])
  pub iterator_by_cells : gives_by_cells source.iterator ≡ ints (pos 27 ∷ [])
  pub targets_in_slots : gives (many_targets 49) ≡ ints (pos 2 ∷ pos 1 ∷ [])
  pub targets_by_a_list : gives (many_targets 50) ≡ ints (pos 2 ∷ pos 1 ∷ [])
  pub targets_in_cells : gives_by_cells (many_targets 50) ≡ ints (pos 2 ∷ pos 1 ∷ [])
