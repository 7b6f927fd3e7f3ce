-- A run goes on by one operation.
use Rattle.std.proofs.Common.{◌≡◌, ℕ, zero, suc, ◌+◌, ◌<◌, ◌≤◌, refl, sym, ap, ◌∙◌, subst, arith}
use Rattle.lua_code.specs.Valid.{IsValid}
use Rattle.lua_steps.specs.Measure.{total, rank, MeasureFalls}
use Rattle.lua_steps.specs.Machine.{Code, Machine, Went, On, Off, Paused, Stuck}
use Rattle.lua_steps.specs.Exec.{exec}
use Rattle.lua_steps.specs.Run.{then_on, run}
use Rattle.lua_machine.specs.Runs.{Runs}

on_one : (code : Code) (m : Machine) (w : Went) → exec code m ≡ w → then_on w (run zero code) ≡ w
on_one code m (On t) e = refl
on_one code m (Off x t) e = refl
on_one code m (Paused c t) e = refl
on_one code m Stuck e = refl

one : (code : Code) (m t : Machine) (w : Went) → On m ≡ On t → exec code t ≡ w → exec code m ≡ w
one code m t w e last = let same : m ≡ t = cc in ap (exec code) same ∙ last

after : (n : ℕ) (code : Code) (t : Machine) (w x : Went) → ((u : Machine) → run n code u ≡ On t → run (suc n) code u ≡ w) → then_on x (run n code) ≡ On t → then_on x (run (suc n) code) ≡ w
after n code t w (On u) rest e = rest u e
after n code t w (Off x u) rest e = absurd (cc)
after n code t w (Paused c u) rest e = absurd (cc)
after n code t w Stuck rest e = absurd (cc)

run_more : (n : ℕ) (code : Code) (m t : Machine) (w : Went) → exec code t ≡ w → run n code m ≡ On t → run (suc n) code m ≡ w
run_more zero code m t w last e = ap (λ (x : Went). then_on x (run zero code)) (one code m t w e last) ∙ on_one code m w (one code m t w e last)
run_more (suc n) code m t w last e = after n code t w (exec code m) (λ (u : Machine). run_more n code u t w last) e

pub runs_more : (code : Code) (m t : Machine) (w : Went) → Runs code m (On t) → exec code t ≡ w → Runs code m w
runs_more code m t w r last = record { count = suc r.count; is = run_more r.count code m t w last r.is }

pub runs_none : (code : Code) (m : Machine) → Runs code m (On m)
runs_none code m = record { count = 0; is = refl }

le_self : (n : ℕ) → n ≤ n
le_self n = omega arith

le_before : {a b c : ℕ} → a ≤ b → b < c → a ≤ c
le_before p q = omega arith

lt_within : {a b c : ℕ} → a < b → b ≤ c → a < c
lt_within p q = omega arith

-- one run after another
add_by : (n k : ℕ) (code : Code) (b : Machine) (x : Went) → ((u : Machine) → run n code u ≡ On b → run (n + k) code u ≡ run k code b) → then_on x (run n code) ≡ On b → then_on x (run (n + k) code) ≡ run k code b
add_by n k code b (On u) rest e = rest u e
add_by n k code b (Off x u) rest e = absurd (cc)
add_by n k code b (Paused c u) rest e = absurd (cc)
add_by n k code b Stuck rest e = absurd (cc)

run_add : (n k : ℕ) (code : Code) (a b : Machine) → run n code a ≡ On b → run (n + k) code a ≡ run k code b
run_add zero k code a b e =
    let same : a ≡ b = cc in
    let none : 0 + k ≡ k = omega arith in
    ap (λ (i : ℕ). run i code a) none ∙ ap (run k code) same
run_add (suc n) k code a b e =
    let more : suc n + k ≡ suc (n + k) = omega arith in
    ap (λ (i : ℕ). run i code a) more ∙ add_by n k code b (exec code a) (λ (u : Machine). run_add n k code u b) e

pub runs_join : (code : Code) (a b : Machine) (w : Went) → Runs code a (On b) → Runs code b w → Runs code a w
runs_join code a b w r s = record { count = r.count + s.count; is = run_add r.count s.count code a b r.is ∙ s.is }

fall_by : (n : ℕ) (code : Code) (a b : Machine) (x : Went) → MeasureFalls → IsValid code → exec code a ≡ x → ((u : Machine) → run n code u ≡ On b → rank (total code) b ≤ rank (total code) u) → then_on x (run n code) ≡ On b
    → rank (total code) b ≤ rank (total code) a
fall_by n code a b (On u) falls valid e rest f =
    let lt : rank (total code) u < rank (total code) a = falls code a u valid e in
    let le : rank (total code) b ≤ rank (total code) u = rest u f in
    le_before le lt
fall_by n code a b (Off x u) falls valid e rest f = absurd (cc)
fall_by n code a b (Paused c u) falls valid e rest f = absurd (cc)
fall_by n code a b Stuck falls valid e rest f = absurd (cc)

fallen : (n : ℕ) (code : Code) (a b : Machine) → MeasureFalls → IsValid code → run n code a ≡ On b → rank (total code) b ≤ rank (total code) a
fallen zero code a b falls valid e = let same : a ≡ b = cc in subst (λ (m : Machine). rank (total code) m ≤ rank (total code) a) same (le_self (rank (total code) a))
fallen (suc n) code a b falls valid e = fall_by n code a b (exec code a) falls valid refl (λ (u : Machine). fallen n code u b falls valid) e

pub runs_reach : (code : Code) (a b : Machine) → MeasureFalls → IsValid code → Runs code a (On b) → rank (total code) b ≤ rank (total code) a
runs_reach code a b falls valid r = fallen r.count code a b falls valid r.is

pub runs_fall : (code : Code) (a b c : Machine) → MeasureFalls → IsValid code → Runs code a (On b) → exec code b ≡ On c → rank (total code) c < rank (total code) a
runs_fall code a b c falls valid r e =
    let le : rank (total code) b ≤ rank (total code) a = fallen r.count code a b falls valid r.is in
    let lt : rank (total code) c < rank (total code) b = falls code b c valid e in
    lt_within lt le

-- to a machine that is the same
pub runs_same : (code : Code) (m t u : Machine) → Runs code m (On t) → u ≡ t → Runs code m (On u)
runs_same code m t u r e = subst (λ (x : Machine). Runs code m (On x)) (sym e) r
