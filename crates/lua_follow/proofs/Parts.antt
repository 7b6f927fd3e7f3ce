-- A value more in a list that has come in part.
use Rattle.std.proofs.Common.{◌≡◌, ℕ, zero, suc, ◌+◌, ◌-◌, ◌≤◌, List, [], ◌∷◌, ◌++◌, length, refl, sym, ap, ◌∙◌, arith, length-append}
use Rattle.std.specs.Prelude.{min}
use Rattle.lua_value.specs.declared.value.Value.{Value}
use Rattle.lua_value.specs.Lists.{value_at, adjusted}
use Rattle.lua_steps.specs.Moves.{values_from}
use Rattle.lua_steps.specs.Serves.{following}
use Rattle.lua_follow.specs.Spot.{Form, Exactly, Filled, OnList, Alone}
use Rattle.lua_follow.specs.Memory.{View}
use Rattle.lua_follow.specs.Kept.{Partly}
use Rattle.lua_follow.proofs.Nils.{values_split, filled}

one_longer : (us : List Value) (v : Value) → length (us ++ v ∷ []) ≡ length us + 1
one_longer us v = length-append us (v ∷ [])

pub next_exact : (fr : View) (row : List Value) (f : Form) (r : ℕ) (us : List Value) (v : Value) → Partly fr row f (Exactly r) us → value_at row (fr.base + r) ≡ v → Partly fr row f (Exactly (r + 1)) (us ++ v ∷ [])
next_exact fr row (Exactly r0) r us v h e =
    let n = one_longer us v in
    let there : fr.base + r ≡ fr.base + r0 + length us = omega (arith, h.0) in
    let last : value_at row (fr.base + r0 + length us) ≡ v = ap (value_at row) (sym there) ∙ e in
    let place : r + 1 ≡ r0 + length (us ++ v ∷ []) = omega (arith, n, h.0) in (
      place,
      ap (λ i. values_from row (fr.base + r0) i) n ∙ values_split row (fr.base + r0) (length us) 1 ∙ ap (λ ws. ws ++ values_from row (fr.base + r0 + length us) 1) h.1
          ∙ ap (λ w. us ++ w ∷ []) last,
    )
next_exact fr row (Filled r0 n) r us v h e = absurd h
next_exact fr row (OnList d) r us v h e = absurd h
next_exact fr row (Alone t d) r us v h e = absurd h

abbrev one_or_none : List Value → ℕ → ℕ → Value → Type 0
one_or_none row i k v = values_from row i k ≡ adjusted k (v ∷ [])

last_of : (row : List Value) (i k : ℕ) (v : Value) → value_at row i ≡ v → k ≤ 1 → one_or_none row i k v
last_of row i zero v e le = refl
last_of row i (suc zero) v e le = ap (λ w. w ∷ []) e
last_of row i (suc (suc k)) v e le = absurd (omega arith)

pub next_filled : (fr : View) (row : List Value) (f : Form) (r n : ℕ) (us : List Value) (v : Value) → Partly fr row f (Filled r n) us → value_at row (fr.base + r) ≡ v
    → Partly fr row f (Filled (following n r) (n - 1)) (us ++ v ∷ [])
next_filled fr row (Filled r0 n0) r n us v h e =
    let more = one_longer us v in
    let k : ℕ = min (length (us ++ v ∷ [])) n0 in
    let same : min (length us) k ≡ min (length us) n0 = omega (arith, more) in
    let few : k - length us ≤ 1 = omega (arith, more) in
    let there : r0 + min (length us) k ≡ r = omega (arith, same, h.0) in (
      following_is n r h.0 h.1,
      omega (arith, more, h.1),
      filled row fr.base r0 k us (v ∷ []) (ap (λ i. values_from row (fr.base + r0) i) same ∙ h.2 ∙ ap (λ i. adjusted i us) (sym same))
          (ap (λ i. values_from row (fr.base + i) (k - length us)) there ∙ last_of row (fr.base + r) (k - length us) v e few),
    )
  where
    following_is : (i q : ℕ) → q ≡ r0 + min (length us) n0 → i ≡ n0 - length us → following i q ≡ r0 + min (length (us ++ v ∷ [])) n0
    following_is zero q a b = let more = one_longer us v in omega (arith, more, a, b)
    following_is (suc i) q a b = let more = one_longer us v in omega (arith, more, a, b)
next_filled fr row (Exactly r0) r n us v h e = absurd h
next_filled fr row (OnList d) r n us v h e = absurd h
next_filled fr row (Alone t d) r n us v h e = absurd h

pub next_list : (fr : View) (row : List Value) (f : Form) (d : ℕ) (us vs : List Value) → Partly fr row f (OnList d) us → Partly fr row f (OnList d) vs
next_list fr row (OnList d0) d us vs h = h
next_list fr row (Exactly r0) d us vs h = absurd h
next_list fr row (Filled r0 n) d us vs h = absurd h
next_list fr row (Alone t e) d us vs h = absurd h

pub append_more : (ws us vs : List Value) → (ws ++ us) ++ vs ≡ ws ++ (us ++ vs)
append_more [] us vs = refl
append_more (w ∷ ws) us vs = ap (λ xs. w ∷ xs) (append_more ws us vs)
