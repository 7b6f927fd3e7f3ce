-- How far two texts are the same.
use Rattle.std.specs.Prelude.{ℕ, suc, List, ◌∷◌, ◌==◌, if◌then◌else◌}

abbrev pub common : List ℕ → List ℕ → ℕ
common (a ∷ text) (b ∷ other) = if a == b then suc (common text other) else 0
common _ _ = 0
