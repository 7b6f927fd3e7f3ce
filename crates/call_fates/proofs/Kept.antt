-- An act keeps the list of calls in step with the world.
use Rattle.std.proofs.Common.{◌⊎◌, inl, inr, ℕ, zero, suc, ◌≡◌, ◌<◌, ◌≤◌, ◌+◌, ◌==◌, false, Option, Some, None, refl, ap, sym, ◌∙◌, subst, arith}
use Rattle.std.proofs.lemmas.Bool.Decides.{nat_tests}
use Rattle.call_fates.specs.Table.{with_fate}
use Rattle.call_fates.specs.Kept.{fate_by, turned_by, is_waiting, is_held, is_on_its_way, is_answered, is_failed, is_void, in_state}
use Rattle.call_fates.specs.declared.calls.CallState.{CallState}
use Rattle.call_fates.specs.declared.calls.Fate.{Fate}
use Rattle.call_fates.specs.declared.calls.Fate.TheVariants.{Waiting, Held, OnItsWay, Answered, Failed, Void}

-- NUMBERS

-- how often a call has each fate, by the list
pub record Stands (s : Option CallState) (w h g a f v : ℕ) : Type 0 where
  pub waits : in_state is_waiting s ≡ w
  pub holds : in_state is_held s ≡ h
  pub way : in_state is_on_its_way s ≡ g
  pub answered : in_state is_answered s ≡ a
  pub failed : in_state is_failed s ≡ f
  pub void : in_state is_void s ≡ v

stands : (s : Option CallState) → Stands s (in_state is_waiting s) (in_state is_held s) (in_state is_on_its_way s) (in_state is_answered s) (in_state is_failed s) (in_state is_void s)
stands s = record { waits = refl; holds = refl; way = refl; answered = refl; failed = refl; void = refl }

-- how many fates it has
abbrev pub some_of : Option CallState → ℕ
some_of s = in_state is_waiting s + (in_state is_held s + (in_state is_on_its_way s + (in_state is_answered s + (in_state is_failed s + in_state is_void s))))

pub fate_one : (f : Fate) → is_waiting f + (is_held f + (is_on_its_way f + (is_answered f + (is_failed f + is_void f)))) ≡ 1
fate_one Waiting = refl
fate_one Held = refl
fate_one OnItsWay = refl
fate_one Answered = refl
fate_one Failed = refl
fate_one Void = refl

pub at_most_one : (s : Option CallState) → some_of s ≤ 1
at_most_one None = omega arith
at_most_one (Some s) = omega (arith, fate_one s.fate)

-- what an act moves of one call, in numbers: of W, H, T, R that wait, are held, are sent, are in the caller's inbox
pub record Moves (W H T R W' H' T' R' on v a f r b fr sent ref fet : ℕ) : Type 0 where
  pub waits : W' + (r + b) ≡ W
  pub holds : H' + fr ≡ H + r
  pub sends : T' + (sent + ref) ≡ T + (fr + b)
  pub brings : R' + fet ≡ R + sent
  pub gone : sent + ref ≤ T
  pub settled : a + (f + v) ≡ fet + ref
  pub turned : (on ≡ fr + b) ⊎ ((on ≤ T) × (fr ≡ 0) × (b ≡ 0) × (sent + ref ≡ 0) × (fet ≡ 0))

is_zero : (n : ℕ) → (suc n == 0) ≡ false
is_zero n = grind (arith, nat_tests)

-- with what it is after the act
abbrev pub After : Option CallState → Option CallState → ℕ → ℕ → ℕ → ℕ → ℕ → ℕ → ℕ → Type 0
After s s2 W' H' T' R' a f v = Stands s2 W' H' (T' + R') (in_state is_answered s + a) (in_state is_failed s + f) (in_state is_void s + v)

with_last : (f g : Fate) (s : Option CallState) → with_fate f (with_fate g s) ≡ with_fate f s
with_last f g None = refl
with_last f g (Some s) = refl

-- being on its way is all that counts
last_fate : (v a f r : ℕ) (s : Option CallState) → with_fate OnItsWay (fate_by v a f r s) ≡ with_fate OnItsWay s
last_fate (suc v) a f r s = rw (is_zero v) (with_last OnItsWay Void s)
last_fate zero (suc a) f r s = rw (is_zero a) (with_last OnItsWay Answered s)
last_fate zero zero (suc f) r s = rw (is_zero f) (with_last OnItsWay Failed s)
last_fate zero zero zero (suc r) s = rw (is_zero r) (with_last OnItsWay Held s)
last_fate zero zero zero zero s = refl

module _ (T R W' H' T' R' b fr sent ref fet : ℕ) where
  -- no call: nothing moves
  none_moves : (on v a f r : ℕ) → 0 ≡ T + R → Moves 0 0 T R W' H' T' R' on v a f r b fr sent ref fet → After None None W' H' T' R' a f v
  none_moves on v a f r g m = split m.turned where
    split : ((on ≡ fr + b) ⊎ ((on ≤ T) × (fr ≡ 0) × (b ≡ 0) × (sent + ref ≡ 0) × (fet ≡ 0))) → After None None W' H' T' R' a f v
    split d = record {
      waits = omega (arith, m.waits);
      holds = omega (arith, m.waits, m.holds);
      way = omega (arith, g, m.waits, m.holds, m.sends, m.brings, m.gone);
      answered = omega (arith, g, m.sends, m.brings, m.gone, m.settled);
      failed = omega (arith, g, m.sends, m.brings, m.gone, m.settled);
      void = omega (arith, g, m.sends, m.brings, m.gone, m.settled);
    }

  module _ (x : CallState) where
    abbrev pub Moved : ℕ → ℕ → ℕ → ℕ → ℕ → Type 0
    Moved on v a f r = Moves (is_waiting x.fate) (is_held x.fate) T R W' H' T' R' on v a f r b fr sent ref fet

    abbrev pub To : Fate → ℕ → ℕ → ℕ → Type 0
    To y a f v = After (Some x) (with_fate y (Some x)) W' H' T' R' a f v

    on_way : (on v a f r : ℕ) → is_on_its_way x.fate ≡ T + R → Moved (suc on) v a f r → To OnItsWay a f v
    on_way on v a f r g m = split m.turned where
      one : is_waiting x.fate + (is_held x.fate + (is_on_its_way x.fate + (is_answered x.fate + (is_failed x.fate + is_void x.fate)))) ≡ 1
      one = fate_one x.fate

      split : ((suc on ≡ fr + b) ⊎ ((suc on ≤ T) × (fr ≡ 0) × (b ≡ 0) × (sent + ref ≡ 0) × (fet ≡ 0))) → To OnItsWay a f v
      split (inl d) = record {
        waits = omega (arith, one, g, d, m.waits, m.holds, m.sends, m.brings, m.gone, m.settled);
        holds = omega (arith, one, g, d, m.waits, m.holds, m.sends, m.brings, m.gone, m.settled);
        way = omega (arith, one, g, d, m.waits, m.holds, m.sends, m.brings, m.gone, m.settled);
        answered = omega (arith, one, g, d, m.waits, m.holds, m.sends, m.brings, m.gone, m.settled);
        failed = omega (arith, one, g, d, m.waits, m.holds, m.sends, m.brings, m.gone, m.settled);
        void = omega (arith, one, g, d, m.waits, m.holds, m.sends, m.brings, m.gone, m.settled);
      }
      split (inr d) = record {
        waits = omega (arith, one, g, d.0, d.1, d.2, d.3, d.4, m.waits, m.holds, m.sends, m.brings, m.gone, m.settled);
        holds = omega (arith, one, g, d.0, d.1, d.2, d.3, d.4, m.waits, m.holds, m.sends, m.brings, m.gone, m.settled);
        way = omega (arith, one, g, d.0, d.1, d.2, d.3, d.4, m.waits, m.holds, m.sends, m.brings, m.gone, m.settled);
        answered = omega (arith, one, g, d.0, d.1, d.2, d.3, d.4, m.waits, m.holds, m.sends, m.brings, m.gone, m.settled);
        failed = omega (arith, one, g, d.0, d.1, d.2, d.3, d.4, m.waits, m.holds, m.sends, m.brings, m.gone, m.settled);
        void = omega (arith, one, g, d.0, d.1, d.2, d.3, d.4, m.waits, m.holds, m.sends, m.brings, m.gone, m.settled);
      }

    -- where one of the last three happened
    settles : (y : Fate) (on v a f r : ℕ) → is_on_its_way x.fate ≡ T + R → Moved on v a f r → 0 < a + (f + v) → is_waiting y + (is_held y + is_on_its_way y) ≡ 0 → is_answered y ≡ a → is_failed y ≡ f → is_void y ≡ v → To y a f v
    settles y on v a f r g m some none ya yf yv = record {
      waits = omega (arith, fate_one x.fate, g, m.waits, m.holds, m.sends, m.brings, m.gone, m.settled, some, none);
      holds = omega (arith, fate_one x.fate, g, m.waits, m.holds, m.sends, m.brings, m.gone, m.settled, some, none);
      way = omega (arith, fate_one x.fate, g, m.waits, m.holds, m.sends, m.brings, m.gone, m.settled, some, none);
      answered = omega (arith, fate_one x.fate, g, m.waits, m.holds, m.sends, m.brings, m.gone, m.settled, some, none, ya);
      failed = omega (arith, fate_one x.fate, g, m.waits, m.holds, m.sends, m.brings, m.gone, m.settled, some, none, yf);
      void = omega (arith, fate_one x.fate, g, m.waits, m.holds, m.sends, m.brings, m.gone, m.settled, some, none, yv);
    }

    -- one reply at most is settled
    one_settled : (on v a f r : ℕ) → is_on_its_way x.fate ≡ T + R → Moved on v a f r → a + (f + v) ≤ 1
    one_settled on v a f r g m = omega (arith, fate_one x.fate, g, m.waits, m.holds, m.sends, m.brings, m.gone, m.settled)

    no_turn : (v a f r : ℕ) → Moved 0 v a f r → (fr ≡ 0) × (b ≡ 0)
    no_turn v a f r m = split m.turned where
      split : ((0 ≡ fr + b) ⊎ ((0 ≤ T) × (fr ≡ 0) × (b ≡ 0) × (sent + ref ≡ 0) × (fet ≡ 0))) → (fr ≡ 0) × (b ≡ 0)
      split (inl d) = (omega (arith, d), omega (arith, d))
      split (inr d) = (d.1, d.2)

    receives : (r : ℕ) → is_on_its_way x.fate ≡ T + R → Moved 0 0 0 0 (suc r) → To Held 0 0 0
    receives r g m = let n = no_turn 0 0 0 (suc r) m in record {
      waits = omega (arith, fate_one x.fate, g, n.0, n.1, m.waits, m.holds, m.sends, m.brings, m.gone, m.settled);
      holds = omega (arith, fate_one x.fate, g, n.0, n.1, m.waits, m.holds, m.sends, m.brings, m.gone, m.settled);
      way = omega (arith, fate_one x.fate, g, n.0, n.1, m.waits, m.holds, m.sends, m.brings, m.gone, m.settled);
      answered = omega (arith, fate_one x.fate, g, m.waits);
      failed = omega (arith, fate_one x.fate, g, m.waits);
      void = omega (arith, fate_one x.fate, g, m.waits);
    }

    still : is_on_its_way x.fate ≡ T + R → Moved 0 0 0 0 0 → After (Some x) (Some x) W' H' T' R' 0 0 0
    still g m = let n = no_turn 0 0 0 0 m in record {
      waits = omega (arith, n.0, n.1, m.waits);
      holds = omega (arith, n.0, n.1, m.holds);
      way = omega (arith, g, n.0, n.1, m.sends, m.brings, m.settled);
      answered = omega arith;
      failed = omega arith;
      void = omega arith;
    }

    some_moves : (on v a f r : ℕ) → is_on_its_way x.fate ≡ T + R → Moved on v a f r → After (Some x) (turned_by on (fate_by v a f r (Some x))) W' H' T' R' a f v
    some_moves (suc on) v a f r g m = rw (is_zero on) (subst (λ (z : Option CallState). After (Some x) z W' H' T' R' a f v) (sym (last_fate v a f r (Some x))) (on_way on v a f r g m))
    some_moves zero (suc v) a f r g m =
        let l = one_settled 0 (suc v) a f r g m in
        rw (is_zero v) (settles Void 0 (suc v) a f r g m (omega arith) refl (omega (arith, l)) (omega (arith, l)) (omega (arith, l)))
    some_moves zero zero (suc a) f r g m =
        let l = one_settled 0 0 (suc a) f r g m in
        rw (is_zero a) (settles Answered 0 0 (suc a) f r g m (omega arith) refl (omega (arith, l)) (omega (arith, l)) (omega (arith, l)))
    some_moves zero zero zero (suc f) r g m =
        let l = one_settled 0 0 0 (suc f) r g m in
        rw (is_zero f) (settles Failed 0 0 0 (suc f) r g m (omega arith) refl (omega (arith, l)) (omega (arith, l)) (omega (arith, l)))
    some_moves zero zero zero zero (suc r) g m = rw (is_zero r) (receives r g m)
    some_moves zero zero zero zero zero g m = still g m

-- nothing becomes of what is no call
fates_none : (v a f r : ℕ) → fate_by v a f r None ≡ None
fates_none (suc v) a f r = rw (is_zero v) refl
fates_none zero (suc a) f r = rw (is_zero a) refl
fates_none zero zero (suc f) r = rw (is_zero f) refl
fates_none zero zero zero (suc r) = rw (is_zero r) refl
fates_none zero zero zero zero = refl

turns_none : (on : ℕ) → turned_by on None ≡ None
turns_none zero = refl
turns_none (suc on) = rw (is_zero on) refl

pub fate_none : (on v a f r : ℕ) → turned_by on (fate_by v a f r None) ≡ None
fate_none on v a f r = ap (turned_by on) (fates_none v a f r) ∙ turns_none on

pub call_moves : (s : Option CallState) (T R W' H' T' R' on v a f r b fr sent ref fet : ℕ) → in_state is_on_its_way s ≡ T + R
    → Moves (in_state is_waiting s) (in_state is_held s) T R W' H' T' R' on v a f r b fr sent ref fet → After s (turned_by on (fate_by v a f r s)) W' H' T' R' a f v
call_moves None T R W' H' T' R' on v a f r b fr sent ref fet g m =
    subst (λ (z : Option CallState). After None z W' H' T' R' a f v) (sym (fate_none on v a f r)) (none_moves T R W' H' T' R' b fr sent ref fet on v a f r g m)
call_moves (Some x) T R W' H' T' R' on v a f r b fr sent ref fet g m = some_moves T R W' H' T' R' b fr sent ref fet x on v a f r g m
