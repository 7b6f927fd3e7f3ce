-- Inner calls become frames, one after another.
use Rattle.std.proofs.Common.{◌≡◌, ◌≢◌, ℕ, zero, suc, ◌+◌, ◌-◌, ◌<◌, ◌≤◌, List, [], ◌∷◌, length, take, Result, Ok, Err, refl, sym, ap, ◌∙◌, arith}
use Rattle.std.specs.Prelude.{get_or, slice_set, OnOk}
use Rattle.std.proofs.lemmas.List.{get_or-set_same, get_or-take, length-take-le}
use Rattle.lua_steps.specs.Machine.{Closure, Frame}
use Rattle.lua_machine.specs.declared.call_info.CallInfo.{CallInfo}
use Rattle.lua_machine.specs.Stack.{Stacked}
use Rattle.lua_machine.specs.Nests.{frame_of, call_at, beneath, over}
use Rattle.lua_machine.specs.Settle.{at_place, KeepsPlace}
use Rattle.lua_machine.proofs.NestLemmas.{no_call, beneath_set}

-- the frames below the next inner call are all those that are there
pub beneath_over : (cs : List Closure) (calls : List CallInfo) (d : ℕ) (s : Stacked) → beneath cs calls d s ≡ (over cs calls d s).top ∷ (over cs calls d s).below
beneath_over cs calls zero s = refl
beneath_over cs calls (suc d) s = refl

-- a read within the list, whatever stands past its end
pub call_any : (calls : List CallInfo) (d : ℕ) (c : CallInfo) → d < length calls → get_or calls d c ≡ call_at calls d
call_any [] d c lt = absurd (omega (arith, lt))
call_any (x ∷ calls) zero c lt = refl
call_any (x ∷ calls) (suc d) c lt = call_any calls d c (omega (arith, lt))

-- one more of the inner calls has a frame
pub over_next : (cs : List Closure) (calls : List CallInfo) (i : ℕ) (s t : Stacked) → t ≡ over cs calls i s
    → record { top = frame_of cs (call_at calls i); below = t.top ∷ t.below } ≡ over cs calls (i + 1) s
over_next cs calls i s t e =
    let next : i + 1 ≡ suc i = omega arith in
    ap (λ (x : Stacked). record { top = frame_of cs (call_at calls i); below = x.top ∷ x.below }) e
    ∙ ap (λ (fs : List Frame). record { top = frame_of cs (call_at calls i); below = fs }) (sym (beneath_over cs calls i s))
    ∙ sym (ap (λ (n : ℕ). over cs calls n s) next)

-- the last inner call has come to a place
pub over_placed : (cs : List Closure) (calls : List CallInfo) (k at : ℕ) (c : CallInfo) (s : Stacked) → k < length calls → c ≡ call_at calls k
    → over cs (slice_set calls k (record c { at = at })) (suc k) s ≡ at_place at (over cs calls (suc k) s)
over_placed cs calls k at c s lt e =
    let set : List CallInfo = slice_set calls k (record c { at = at }) in
    let last : call_at set k ≡ record c { at = at } = get_or-set_same calls k (record c { at = at }) no_call lt in
    let below : beneath cs set k s ≡ beneath cs calls k s = beneath_set cs k k calls (record c { at = at }) s (omega arith) in
    ap (λ (x : CallInfo). record { top = frame_of cs x; below = beneath cs set k s }) last
    ∙ ap (λ (fs : List Frame). record { top = frame_of cs (record c { at = at }); below = fs }) below
    ∙ ap (λ (x : CallInfo). record { top = frame_of cs (record x { at = at }); below = beneath cs calls k s }) e

-- the first inner calls of a list are those of the list
beneath_take : (cs : List Closure) (calls : List CallInfo) (n d : ℕ) (s : Stacked) → d ≤ n → beneath cs (take n calls) d s ≡ beneath cs calls d s
beneath_take cs calls n zero s le = refl
beneath_take cs calls n (suc d) s le =
    let first : call_at (take n calls) d ≡ call_at calls d = get_or-take n calls d no_call (omega (arith, le)) in
    let below : beneath cs (take n calls) d s ≡ beneath cs calls d s = beneath_take cs calls n d s (omega (arith, le)) in
    ap (λ (x : CallInfo). frame_of cs x ∷ beneath cs (take n calls) d s) first ∙ ap (λ (fs : List Frame). frame_of cs (call_at calls d) ∷ fs) below

over_take : (cs : List Closure) (calls : List CallInfo) (n : ℕ) (s : Stacked) → over cs (take n calls) n s ≡ over cs calls n s
over_take cs calls zero s = refl
over_take cs calls (suc d) s =
    let first : call_at (take (suc d) calls) d ≡ call_at calls d = get_or-take (suc d) calls d no_call (omega arith) in
    let below : beneath cs (take (suc d) calls) d s ≡ beneath cs calls d s = beneath_take cs calls (suc d) d s (omega arith) in
    ap (λ (x : CallInfo). record { top = frame_of cs x; below = beneath cs (take (suc d) calls) d s }) first ∙ ap (λ (fs : List Frame). record { top = frame_of cs (call_at calls d); below = fs }) below

pub over_first : (cs : List Closure) (calls : List CallInfo) (n : ℕ) (s : Stacked) → n ≤ length calls → over cs (take n calls) (length (take n calls)) s ≡ over cs calls n s
over_first cs calls n s le = ap (λ (k : ℕ). over cs (take n calls) k s) (length-take-le n calls le) ∙ over_take cs calls n s

-- where what runs is kept
pub kept_frame : (inner at : ℕ) (calls : List CallInfo) (s t : Stacked) → inner ≡ 0 → t ≡ at_place at s → KeepsPlace inner at calls s calls t
kept_frame inner at calls s t none e = record { is = λ cs. ap (λ (n : ℕ). over cs calls n t) none ∙ e ∙ ap (λ (n : ℕ). at_place at (over cs calls n s)) (sym none) }

pub kept_call : (inner at : ℕ) (calls : List CallInfo) (c : CallInfo) (s : Stacked) → inner ≢ 0 → inner ≤ length calls → KeepsPlace inner at calls s (slice_set calls (inner - 1) (record (get_or calls (inner - 1) c) { at = at })) s
kept_call inner at calls c s some le =
    let k = inner - 1 in
    let more : inner ≡ suc k = omega (arith, some) in
    let lt : k < length calls = omega (arith, some, le) in
    let last = get_or calls k c in record {
      is = λ cs.
          ap (λ (n : ℕ). over cs (slice_set calls k (record last { at = at })) n s) more
          ∙ over_placed cs calls k at last s lt (call_any calls k c lt)
          ∙ ap (λ (n : ℕ). at_place at (over cs calls n s)) (sym more);
    }

-- what holds in any case holds where there is a value
pub held_on_ok : {T E P : Type 0} (r : Result T E) → P → OnOk r P
held_on_ok (Ok x) p = p
held_on_ok (Err e) p = tt
