-- Each state stops, and in one way.
use Rattle.std.proofs.Common.{◌≡◌, ℕ, zero, suc, ◌<◌, ◌≤◌, inl, inr, refl, sym, ap, ◌∙◌, subst, ⊎_elim, arith}
use Rattle.lua_meaning.specs.State.{State, Stop, NativeCall, Step, Next, Halt, Pause}
use Rattle.lua_meaning.specs.Reduce.{reduce}
use Rattle.lua_meaning.specs.Until.{then_on, iterate, Until, Asks}
use Rattle.lua_meaning.specs.Size.{size}
use Rattle.lua_meaning.specs.Laws.{Ends, Lighter, StepIsDetermined}
use Rattle.lua_meaning.proofs.SoundSteps.{budget_falls}

later : (s t : State) → reduce s ≡ Next t → Ends t → Ends s
later s t e (inl u) = inl (u.0, u.1, (suc u.2.0, ap (λ r. then_on r (iterate u.2.0)) e ∙ u.2.1))
later s t e (inr u) = inr (u.0, u.1, (suc u.2.0, ap (λ r. then_on r (iterate u.2.0)) e ∙ u.2.1))

from_step : (k n : ℕ) (s : State) → ((t : State) → t.left < k → Ends t) → ((t : State) → t.left ≤ k → size t < n → Ends t) → s.left ≤ k → size s < suc n → (r : Step) → reduce s ≡ r → Lighter (size s) s.left r → Ends s
from_step k n s fewer smaller le lt (Halt x t) e w = inl (x, t, (1, ap (λ r. then_on r (iterate 0)) e))
from_step k n s fewer smaller le lt (Pause c t) e w = inr (c, t, (1, ap (λ r. then_on r (iterate 0)) e))
from_step k n s fewer smaller le lt (Next t) e w =
    later s t e (⊎_elim
    (λ (tick : t.left < s.left). fewer t (omega arith))
    (λ (none : (t.left ≡ s.left) × (size t < size s)). smaller t (omega (arith, none.0)) (omega (arith, none.1)))
    w)

by_size : (k : ℕ) → ((t : State) → t.left < k → Ends t) → (n : ℕ) (s : State) → s.left ≤ k → size s < n → Ends s
by_size k fewer zero s le lt = absurd (omega arith)
by_size k fewer (suc n) s le lt = from_step k n s fewer (by_size k fewer n) le lt (reduce s) refl (budget_falls s)

by_left : (k : ℕ) (s : State) → s.left < k → Ends s
by_left zero s lt = absurd (omega arith)
by_left (suc k) s lt = by_size k (by_left k) (suc (size s)) s (omega arith) (omega arith)

pub ends : (s : State) → Ends s
ends s = by_left (suc s.left) s (omega arith)

-- a step that is no next state
abbrev Done : Step → Type 0
Done (Next s) = ⊥
Done (Halt x s) = Unit {0}
Done (Pause c s) = Unit {0}

once_in : (m n : ℕ) (r p q : Step) → Done p → Done q → ((t : State) → iterate m t ≡ p → iterate n t ≡ q → p ≡ q) → then_on r (iterate m) ≡ p → then_on r (iterate n) ≡ q → p ≡ q
once_in m n (Next t) p q d f h a b = h t a b
once_in m n (Halt x t) p q d f h a b = sym a ∙ b
once_in m n (Pause c t) p q d f h a b = sym a ∙ b

pub once : (m n : ℕ) (s : State) (p q : Step) → Done p → Done q → iterate m s ≡ p → iterate n s ≡ q → p ≡ q
once zero n s p q d f a b = absurd (subst Done (sym a) d)
once (suc m) zero s p q d f a b = absurd (subst Done (sym b) f)
once (suc m) (suc n) s p q d f a b = once_in m n (reduce s) p q d f (λ t. once m n t p q d f) a b

one_stop : (s : State) (x y : Stop) (t u : State) → Until s x t → Until s y u → (x ≡ y) × (t ≡ u)
one_stop s x y t u a b =
    let e : Halt x t ≡ Halt y u = once a.0 b.0 s (Halt x t) (Halt y u) tt tt a.1 b.1 in
    let p : x ≡ y = cc in
    let q : t ≡ u = cc in
    (p, q)

one_call : (s : State) (c d : NativeCall) (t u : State) → Asks s c t → Asks s d u → (c ≡ d) × (t ≡ u)
one_call s c d t u a b =
    let e : Pause c t ≡ Pause d u = once a.0 b.0 s (Pause c t) (Pause d u) tt tt a.1 b.1 in
    let p : c ≡ d = cc in
    let q : t ≡ u = cc in
    (p, q)

not_both : (s : State) (x : Stop) (c : NativeCall) (t u : State) → Until s x t → Asks s c u → ⊥
not_both s x c t u a b =
    let e : Halt x t ≡ Pause c u = once a.0 b.0 s (Halt x t) (Pause c u) tt tt a.1 b.1 in
    cc

pub determined : StepIsDetermined
determined =
    record {
      ends = ends;
      one_stop = one_stop;
      one_call = one_call;
      not_both = not_both;
    }
