-- A heap as contracts see it, and what each call makes of it.
use Rattle.std.specs.Prelude.{ℕ, ◌++◌, List, [], ◌∷◌, true, Option, Some, None, slice_get, slice_set, option_map}
use Rattle.lua_value.specs.declared.value.Value.{Value}
use Rattle.lua_model.specs.Heap as model

-- a closure: a function of the code, and its cells
pub record Made : Type 0 where
  pub function : ℕ
  pub cells : List ℕ

pub record Contents : Type 0 where
  -- strings and units
  pub shared : model.Heap
  -- closures and cells, each by its number
  pub closures : List Made
  pub cells : List Value

abbrev pub empty : ℕ → Contents
empty limit = record { shared = model.empty limit; closures = []; cells = [] }

abbrev pub started : Contents → Contents
started h = record h { shared = record h.shared { counts = true } }

abbrev pub with_shared : Contents → Option model.Heap → Option Contents
with_shared h None = None
with_shared h (Some shared) = Some (record h { shared = shared })

-- the string is held, and its units are counted, or they pass the limit
abbrev pub text_made : List ℕ → Contents → Option Contents
text_made bytes h = with_shared h (model.charged (model.text_units bytes) (model.holding bytes h.shared))

abbrev pub closure_in : Made → Option Contents → Option Contents
closure_in c None = None
closure_in c (Some h) = Some (record h { closures = h.closures ++ c ∷ [] })

-- a closure goes last, and its unit is counted, or it passes the limit
abbrev pub closure_made : Made → Contents → Option Contents
closure_made c h = closure_in c (with_shared h (model.charged model.closure_units h.shared))

-- a cell goes last, and costs nothing
abbrev pub cell_made : Value → Contents → Contents
cell_made v h = record h { cells = h.cells ++ v ∷ [] }

abbrev pub cell_written : ℕ → Value → Contents → Contents
cell_written c v h = record h { cells = slice_set h.cells c v }

abbrev pub function_at : Contents → ℕ → Option ℕ
function_at h k = option_map (λ c. c.function) (slice_get h.closures k)

abbrev pub cells_at : Contents → ℕ → Option (List ℕ)
cells_at h k = option_map (λ c. c.cells) (slice_get h.closures k)
