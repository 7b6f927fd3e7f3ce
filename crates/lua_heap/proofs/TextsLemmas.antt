-- Strings in a set, against strings in a list.
use Rattle.std.proofs.Common.{◌≡◌, ℕ, suc, ◌+◌, ◌<◌, List, [], ◌∷◌, ◌++◌, length, refl, sym, ap, ◌∙◌, arith, Bool, true, false, cond, Some, None}
use Rattle.std.specs.Prelude.{map, nat_lt, position, if◌then◌else◌, ◌||◌, not}
use Rattle.std.specs.List.{list_any, position_or_len}
use Rattle.std.proofs.lemmas.Bool.{ltb-true}
use Rattle.lua_model.specs.Texts.{Texts, same_bytes, number_of, with_text}

there_in : (t : List ℕ) (ts : Texts) (a : List ℕ) (b : Bool) → (number_of ts a < length ts → with_text ts a ≡ ts)
    → (if b then 0 else suc (number_of ts a)) < suc (length ts) → (if b then t ∷ ts else t ∷ with_text ts a) ≡ t ∷ ts
there_in t ts a true h lt = refl
there_in t ts a false h lt = ap (λ (r : Texts). t ∷ r) (h (omega arith))

pub with_text-there : (ts : Texts) (a : List ℕ) → number_of ts a < length ts → with_text ts a ≡ ts
with_text-there [] a lt = absurd (omega arith)
with_text-there (t ∷ ts) a lt = there_in t ts a (same_bytes a t) (with_text-there ts a) lt

module _ {V : Type 0} (f : V → List ℕ) (bytes : List ℕ) where
  abbrev pub is_it : V → Bool
  is_it v = same_bytes bytes (f v)

  number_in : (b : Bool) (m n : ℕ) → m ≡ n → cond (not b) (1 + m) 0 ≡ (if b then 0 else suc n)
  number_in true m n h = refl
  number_in false m n h = omega (arith, h)

  pub number-place : (vs : List V) → position_or_len is_it vs ≡ number_of (map f vs) bytes
  number-place [] = refl
  number-place (v ∷ vs) = number_in (is_it v) _ _ (number-place vs)

  pub length-map-f : (vs : List V) → length (map f vs) ≡ length vs
  length-map-f [] = refl
  length-map-f (v ∷ vs) = ap suc (length-map-f vs)

  place_in : (b : Bool) (p k : ℕ) → cond b (Some p) None ≡ Some k → (b ≡ true) × (p ≡ k)
  place_in true p k e = (refl, cc)
  place_in false p k e = absurd (cc)

  pub found : (vs : List V) (k : ℕ) → position is_it vs ≡ Some k → (k ≡ number_of (map f vs) bytes) × (with_text (map f vs) bytes ≡ map f vs)
  found vs k e =
      let is = place_in (nat_lt (position_or_len is_it vs) (length vs)) (position_or_len is_it vs) k e in
      let lt : position_or_len is_it vs < length vs = ltb-true _ _ is.0 in
      let n = number-place vs in
      let m = length-map-f vs in
      (sym is.1 ∙ n, with_text-there (map f vs) bytes (omega arith))

  added_in : (t : List ℕ) (b c : Bool) (vs : List V) (w : V) (v : V) → f w ≡ bytes
      → map f (if c then vs else vs ++ w ∷ []) ≡ with_text (map f vs) bytes
      → map f (if b || c then v ∷ vs else (v ∷ vs) ++ w ∷ []) ≡ (if b then f v ∷ map f vs else f v ∷ with_text (map f vs) bytes)
  added_in t true c vs w v e h = refl
  added_in t false true vs w v e h = ap (λ (r : Texts). f v ∷ r) h
  added_in t false false vs w v e h = ap (λ (r : Texts). f v ∷ r) h

  pub added : (vs : List V) (w : V) → f w ≡ bytes → map f (if list_any is_it vs then vs else vs ++ w ∷ []) ≡ with_text (map f vs) bytes
  added [] w e = ap (λ (r : List ℕ). r ∷ []) e
  added (v ∷ vs) w e = added_in bytes (is_it v) (list_any is_it vs) vs w v e (added vs w e)
