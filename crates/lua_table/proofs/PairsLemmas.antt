-- The first pair whose value is not Nil, place by place.
use Rattle.std.proofs.Common.{◌≡◌, ◌∙◌, ◌+◌, ◌<◌, ap, refl, ℕ, zero, suc, Bool, true, false, not, [], ◌∷◌, Option, Some, None, drop, length, arith, cond, add-one, if◌then◌else◌}
use Rattle.std.specs.Prelude.{slice_get}
use Rattle.lua_table.specs.Pairs.{Pairs, first_set, set_pair}
use Rattle.lua_value.specs.Same.{is_nil}
use Rattle.lua_value.specs.declared.value.Value.{Value}

abbrev or_rest : Option (Value × Value) → Option (Value × Value) → Option (Value × Value)
or_rest None rest = rest
or_rest (Some p) rest = Some p

here : (b : Bool) (p : Value × Value) (rest : Option (Value × Value))
    → cond (not b) (Some p) rest ≡ or_rest (if b then None else Some p) rest
here true p rest = refl
here false p rest = refl

step : (ps : Pairs) (i : ℕ) → i < length ps → first_set (drop i ps) ≡ or_rest (set_pair (slice_get ps i)) (first_set (drop (suc i) ps))
step [] i h = absurd (omega arith)
step (p ∷ ps) zero h = here (is_nil p.1) p (first_set ps)
step (p ∷ ps) (suc i) h = step ps i (omega arith)

pub first_set-here : (ps : Pairs) (i : ℕ) (p : Value × Value) → i < length ps → set_pair (slice_get ps i) ≡ Some p → first_set (drop i ps) ≡ Some p
first_set-here ps i p h e = step ps i h ∙ ap (λ (o : Option (Value × Value)). or_rest o (first_set (drop (suc i) ps))) e

pub first_set-later : (ps : Pairs) (i : ℕ) → i < length ps → set_pair (slice_get ps i) ≡ None → first_set (drop i ps) ≡ first_set (drop (i + 1) ps)
first_set-later ps i h e = rw add-one (step ps i h ∙ ap (λ (o : Option (Value × Value)). or_rest o (first_set (drop (suc i) ps))) e)
