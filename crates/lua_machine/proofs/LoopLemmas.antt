-- The turns of a loop, by whether there is one.
use Rattle.std.proofs.Common.{◌≡◌, ◌≢◌, ℕ, zero, suc, ◌-◌, ◌<◌, FitsSigned, w64, ℤ, pos, negsuc, refl, ap, arith, Some}
use Rattle.std.proofs.lemmas.Int.{int_wrap_fits}
use Rattle.lua_value.specs.declared.value.Value.{Value}
use Rattle.lua_value.specs.declared.value.Value.TheVariants as value
use Rattle.lua_model.specs.declared.refusal.Refusal.TheVariants as refusal
use Rattle.lua_steps.specs.Machine.{Machine}
use Rattle.lua_steps.specs.Moves.{jump, paid, refused}
use Rattle.lua_meaning.specs.Loops.{turns_of}
use Rattle.lua_model.specs.Integer as lua
use Rattle.lua_steps.specs.Loops.{turn, first_turn, numeric_by, numeric_from, next_turn}

pub numeric_some : (a b c : ℤ) (line pay base to : ℕ) (m : Machine) → c ≢ pos 0 → numeric_by a b c line pay base to m ≡ first_turn (turns_of a b c) a c pay base to m
numeric_some a b (pos zero) line pay base to m some = absurd (some refl)
numeric_some a b (pos (suc c)) line pay base to m some = refl
numeric_some a b (negsuc c) line pay base to m some = refl

pub next_some : (n : ℕ) (at step : ℤ) (pay base to : ℕ) (m : Machine) → 0 < n → next_turn n at step pay base to m ≡ paid pay m (λ t. jump to (turn (n - 1) (lua.add at step) step base t))
next_some zero at step pay base to m some = absurd (omega arith)
next_some (suc n) at step pay base to m some =
    let e : n ≡ suc n - 1 = omega arith in
    ap (λ (k : ℕ). paid pay m (λ t. jump to (turn k (lua.add at step) step base t))) e

-- integers of 64 bits are those by which a loop begins
pub numeric_ints : (a b c : ℤ) (line pay base to : ℕ) (m : Machine) → FitsSigned w64 a → FitsSigned w64 b → FitsSigned w64 c
    → numeric_from (value.Int a) (value.Int b) (value.Int c) line pay base to m ≡ numeric_by a b c line pay base to m
numeric_ints a b c line pay base to m fa fb fc = rw (int_wrap_fits w64 a fa, int_wrap_fits w64 b fb, int_wrap_fits w64 c fc) refl

-- values that are not all integers are refused
pub numeric_not : (u v w : Value) (line pay base to : ℕ) (m : Machine) → ((a b c : ℤ) → u ≡ value.Int a → v ≡ value.Int b → w ≡ value.Int c → ⊥)
    → numeric_from u v w line pay base to m ≡ refused (Some line) refusal.ForValues m
numeric_not (value.Int a) (value.Int b) (value.Int c) line pay base to m apart = absurd (apart a b c refl refl refl)
numeric_not u v w line pay base to m apart = refl
