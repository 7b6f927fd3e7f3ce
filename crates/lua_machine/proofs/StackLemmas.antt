-- The frames below a depth stay as they are where a frame at the depth, or past it, changes.
use Rattle.std.proofs.Common.{◌≡◌, ◌≢◌, ℕ, zero, suc, ◌+◌, ◌<◌, ◌≤◌, List, [], ◌∷◌, ◌++◌, length, refl, ap, ◌∙◌, arith}
use Rattle.std.specs.Prelude.{get_or, slice_set}
use Rattle.std.proofs.lemmas.List.{length-set, get_or-set_same, get_or-set_other}
use Rattle.lua_value.specs.declared.value.Value.TheVariants as value
use Rattle.lua_steps.specs.Machine.{Frame}
use Rattle.lua_steps.specs.Exec.{fresh}
use Rattle.lua_machine.specs.Stack.{Stacked, frame_at, under, stacked}

pub under_set : (d i : ℕ) (fs : List Frame) (f : Frame) → d ≤ i → under d (slice_set fs i f) ≡ under d fs
under_set zero i fs f le = refl
under_set (suc d) i fs f le =
    let differs : d ≢ i = λ e. omega arith in
    let first : frame_at (slice_set fs i f) d ≡ frame_at fs d = get_or-set_other fs i d f (fresh value.Nil) differs in
    let below : under d (slice_set fs i f) ≡ under d fs = under_set d i fs f (omega arith) in
    ap (λ (x : Frame). x ∷ under d (slice_set fs i f)) first ∙ ap (λ (xs : List Frame). frame_at fs d ∷ xs) below

pub stacked_set : (d : ℕ) (fs : List Frame) (f : Frame) → d < length fs → stacked (slice_set fs d f) d ≡ record { top = f; below = under d fs }
stacked_set d fs f lt =
    let first : frame_at (slice_set fs d f) d ≡ f = get_or-set_same fs d f (fresh value.Nil) lt in
    let below : under d (slice_set fs d f) ≡ under d fs = under_set d d fs f (omega arith) in
    ap (λ (x : Frame). record { top = x; below = under d (slice_set fs d f) }) first ∙ ap (λ (xs : List Frame). record { top = f; below = xs }) below

at_push : (d : ℕ) (fs : List Frame) (f : Frame) → d < length fs → frame_at (fs ++ f ∷ []) d ≡ frame_at fs d
at_push d [] f lt = absurd (omega arith)
at_push zero (g ∷ fs) f lt = refl
at_push (suc d) (g ∷ fs) f lt = at_push d fs f (omega arith)

at_end : (d : ℕ) (fs : List Frame) (f : Frame) → d ≡ length fs → frame_at (fs ++ f ∷ []) d ≡ f
at_end zero [] f e = refl
at_end (suc d) [] f e = absurd (omega arith)
at_end zero (g ∷ fs) f e = absurd (omega arith)
at_end (suc d) (g ∷ fs) f e = at_end d fs f (omega arith)

pub under_push : (d : ℕ) (fs : List Frame) (f : Frame) → d ≤ length fs → under d (fs ++ f ∷ []) ≡ under d fs
under_push zero fs f le = refl
under_push (suc d) fs f le =
    ap (λ (x : Frame). x ∷ under d (fs ++ f ∷ [])) (at_push d fs f (omega arith)) ∙ ap (λ (xs : List Frame). frame_at fs d ∷ xs) (under_push d fs f (omega arith))

pub stacked_push : (d : ℕ) (fs : List Frame) (f : Frame) → d ≡ length fs → stacked (fs ++ f ∷ []) d ≡ record { top = f; below = under d fs }
stacked_push d fs f e =
    ap (λ (x : Frame). record { top = x; below = under d (fs ++ f ∷ []) }) (at_end d fs f e) ∙ ap (λ (xs : List Frame). record { top = f; below = xs }) (under_push d fs f (omega arith))

pub at_any : (d : ℕ) (fs : List Frame) (f : Frame) → d < length fs → get_or fs d f ≡ frame_at fs d
at_any d [] f lt = absurd (omega arith)
at_any zero (g ∷ fs) f lt = refl
at_any (suc d) (g ∷ fs) f lt = at_any d fs f (omega arith)

-- an entry's frames
pub entered_set : (d : ℕ) (fs : List Frame) (f : Frame) (s : Stacked) → d + 1 < length fs → stacked fs d ≡ s → stacked (slice_set fs (d + 1) f) (d + 1) ≡ record { top = f; below = s.top ∷ s.below }
entered_set d fs f s lt e =
    let next : d + 1 ≡ suc d = omega arith in
    stacked_set (d + 1) fs f lt ∙ ap (λ (n : ℕ). record { top = f; below = under n fs }) next ∙ ap (λ (x : Stacked). record { top = f; below = x.top ∷ x.below }) e

pub entered_push : (d : ℕ) (fs : List Frame) (f : Frame) (s : Stacked) → d + 1 ≡ length fs → stacked fs d ≡ s → stacked (fs ++ f ∷ []) (d + 1) ≡ record { top = f; below = s.top ∷ s.below }
entered_push d fs f s lt e =
    let next : d + 1 ≡ suc d = omega arith in
    stacked_push (d + 1) fs f lt ∙ ap (λ (n : ℕ). record { top = f; below = under n fs }) next ∙ ap (λ (x : Stacked). record { top = f; below = x.top ∷ x.below }) e

-- an entry into a dead frame, where the one that ran ends as `w`
pub reentered : (d : ℕ) (fs : List Frame) (f w : Frame) (s : Stacked) → d + 1 < length fs → stacked fs d ≡ s → stacked (slice_set (slice_set fs (d + 1) f) d w) (d + 1) ≡ record { top = f; below = w ∷ s.below }
reentered d fs f w s lt e =
    let dead = slice_set fs (d + 1) f in
    let long : length dead ≡ length fs = length-set fs (d + 1) f in
    let differs : d + 1 ≢ d = λ is. omega arith in
    let next : d + 1 ≡ suc d = omega arith in
    let top : frame_at (slice_set dead d w) (d + 1) ≡ f = get_or-set_other dead d (d + 1) w (fresh value.Nil) differs ∙ get_or-set_same fs (d + 1) f (fresh value.Nil) lt in
    let waits : frame_at (slice_set dead d w) d ≡ w = get_or-set_same dead d w (fresh value.Nil) (omega arith) in
    let below : under d (slice_set dead d w) ≡ under d fs = under_set d d dead w (omega arith) ∙ under_set d (d + 1) fs f (omega arith) in
    ap (λ (x : Frame). record { top = x; below = under (d + 1) (slice_set dead d w) }) top
    ∙ ap (λ (n : ℕ). record { top = f; below = under n (slice_set dead d w) }) next
    ∙ ap (λ (x : Frame). record { top = f; below = x ∷ under d (slice_set dead d w) }) waits
    ∙ ap (λ (xs : List Frame). record { top = f; below = w ∷ xs }) below
    ∙ ap (λ (x : Stacked). record { top = f; below = w ∷ x.below }) e

-- a dead frame is not seen
pub unseen : (d : ℕ) (fs : List Frame) (f : Frame) → stacked (slice_set fs (d + 1) f) d ≡ stacked fs d
unseen d fs f =
    let differs : d ≢ d + 1 = λ is. omega arith in
    ap (λ (x : Frame). record { top = x; below = under d (slice_set fs (d + 1) f) }) (get_or-set_other fs (d + 1) d f (fresh value.Nil) differs) ∙ ap (λ (xs : List Frame). record { top = frame_at fs d; below = xs }) (under_set d (d + 1) fs f (omega arith))
