-- Flags, marked one after another.
use Rattle.std.proofs.Common.{◌≡◌, ◌≢◌, ℕ, zero, suc, ◌+◌, ◌<◌, refl, sym, ap, ◌∙◌, List, [], ◌∷◌, Some, length, arith, Bool, true, false, ⊎_elim}
use Rattle.std.specs.Prelude.{slice_get, slice_set, ◌==◌, ◌||◌, drop}
use Rattle.std.specs.List.{list_any}
use Rattle.std.proofs.lemmas.Bool.Decides.{eqb_tells}
use Rattle.lua_scope.specs.declared.usage.Use.{Use}
use Rattle.lua_scope.specs.declared.usage.Use.TheVariants as usage
use Rattle.lua_scope.specs.Scope.{is_captured_by, is_captured}
use Rattle.lua_scope.specs.Scoped.{flag, marked}

-- after some of the uses: the flags so far, and the uses to come
pub record Marks (uses : List Use) (locals i : ℕ) (flags : List Bool) : Type 0 where
  pub count : length flags ≡ locals
  pub each : (k : ℕ) → k < locals → (flag flags k || list_any (is_captured_by k) (drop i uses)) ≡ is_captured uses k

or_false : (b : Bool) → b ≡ (b || false)
or_false true = refl
or_false false = refl

or_true : (b : Bool) → true ≡ (b || true)
or_true true = refl
or_true false = refl

or_more : (a b c : Bool) → ((a || b) || c) ≡ (a || (b || c))
or_more true b c = refl
or_more false b c = refl

set_here : (flags : List Bool) (k : ℕ) → k < length flags → flag (slice_set flags k true) k ≡ true
set_here [] k lt = absurd (omega arith)
set_here (x ∷ xs) zero lt = refl
set_here (x ∷ xs) (suc k) lt = set_here xs k (omega arith)

set_other : (flags : List Bool) (j k : ℕ) → j ≢ k → flag (slice_set flags j true) k ≡ flag flags k
set_other [] j k h = refl
set_other (x ∷ xs) zero zero h = absurd (h refl)
set_other (x ∷ xs) zero (suc k) h = refl
set_other (x ∷ xs) (suc j) zero h = refl
set_other (x ∷ xs) (suc j) (suc k) h = set_other xs j k (λ e. h (ap suc e))

set_flag : (flags : List Bool) (j k : ℕ) → k < length flags → flag (slice_set flags j true) k ≡ (flag flags k || (j == k))
set_flag flags j k lt =
    ⊎_elim
    (λ (same : ((j == k) ≡ true) × (j ≡ k)).
    ap (λ n. flag (slice_set flags n true) k) same.1 ∙ set_here flags k lt ∙ or_true (flag flags k) ∙ ap (λ b. flag flags k || b) (sym same.0))
    (λ (differs : ((j == k) ≡ false) × (j ≢ k)).
    set_other flags j k differs.1 ∙ or_false (flag flags k) ∙ ap (λ b. flag flags k || b) (sym differs.0))
    (eqb_tells j k)

length_set : (flags : List Bool) (j : ℕ) → length (slice_set flags j true) ≡ length flags
length_set [] j = refl
length_set (x ∷ xs) zero = refl
length_set (x ∷ xs) (suc j) = ap suc (length_set xs j)

length_marked : (u : Use) (flags : List Bool) → length (marked u flags) ≡ length flags
length_marked (usage.Upvalue j) flags = length_set flags j
length_marked (usage.Local j) flags = refl
length_marked usage.Global flags = refl

flag_marked : (u : Use) (flags : List Bool) (k : ℕ) → k < length flags → flag (marked u flags) k ≡ (flag flags k || is_captured_by k u)
flag_marked (usage.Upvalue j) flags k lt = set_flag flags j k lt
flag_marked (usage.Local j) flags k lt = or_false (flag flags k)
flag_marked usage.Global flags k lt = or_false (flag flags k)

drop_at : (uses : List Use) (i : ℕ) (u : Use) → slice_get uses i ≡ Some u → drop i uses ≡ u ∷ drop (suc i) uses
drop_at [] i u e = absurd (cc)
drop_at (x ∷ xs) zero u e = let same : x ≡ u = cc in ap (λ y. y ∷ xs) same
drop_at (x ∷ xs) (suc i) u e = drop_at xs i u e

pub marks_more : (uses : List Use) (locals i : ℕ) (flags : List Bool) (u : Use) → slice_get uses i ≡ Some u → Marks uses locals i flags → Marks uses locals (i + 1) (marked u flags)
marks_more uses locals i flags u here m =
    record {
      count = length_marked u flags ∙ m.count;
      each = λ k lt.
          let rest = list_any (is_captured_by k) (drop (suc i) uses) in
          let next : i + 1 ≡ suc i = omega arith in
          ap (λ n. flag (marked u flags) k || list_any (is_captured_by k) (drop n uses)) next
          ∙ ap (λ b. b || rest) (flag_marked u flags k (omega (arith, m.count)))
          ∙ or_more (flag flags k) (is_captured_by k u) rest
          ∙ ap (λ (us : List Use). flag flags k || list_any (is_captured_by k) us) (sym (drop_at uses i u here))
          ∙ m.each k lt;
    }
