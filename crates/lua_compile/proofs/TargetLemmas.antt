-- The targets of assignments, and the stores into them, one after another.
use Rattle.std.proofs.Common.{◌≡◌, ℕ, zero, suc, ◌+◌, ◌<◌, ◌≢◌, refl, sym, ap, ◌∙◌, false, List, [], ◌∷◌, ◌++◌, length, map, take, get_or, Option, Some, None, arith}
use Rattle.std.proofs.lemmas.List.{append-nil, append_assoc}
use Rattle.lua_tree.specs.Source.{Text}
use Rattle.lua_tree.specs.View.{exp_of, exps_of}
use Rattle.lua_tree.specs.declared.tree.Expr.{Expr}
use Rattle.lua_meaning.specs.Statements.{named}
use Rattle.lua_steps.specs.declared.scope.Known.{Known}
use Rattle.lua_steps.specs.Scope.{place_of}
use Rattle.lua_steps.specs.Stand.{Write, FromSlot, FromItem, from_slots, from_items}
use Rattle.lua_code.specs.declared.op.Op.TheVariants as op
use Rattle.lua_compile.specs.Writer.{Writer, put}
use Rattle.lua_compile.specs.Forms.{only_direct, only_slot, slot_at, stored, stores_written}
use Rattle.lua_compile.specs.Parts.{with_front}

pub not_direct : (es : List Expr) → length es ≢ 1 → only_direct (exps_of (map exp_of es)) ≡ false
not_direct [] h = refl
not_direct (e ∷ []) h = absurd (h refl)
not_direct (e ∷ (g ∷ es)) h = refl

pub one_slot : (x : Text) (xs : List Text) (ks : List Known) → length xs ≡ 0 → only_slot (x ∷ xs) ks ≡ slot_at (place_of ks x)
one_slot x [] ks h = refl
one_slot x (y ∷ ys) ks h = absurd (omega (arith, h))

pub no_slot : (x : Text) (xs : List Text) (ks : List Known) → length xs ≢ 0 → only_slot (x ∷ xs) ks ≡ None
no_slot x [] ks h = absurd (h refl)
no_slot x (y ∷ ys) ks h = refl

pub front_more : (ns : List Text) (o : Option (List Text)) (x : Text) → with_front ns (named o x) ≡ with_front (ns ++ x ∷ []) o
front_more ns None x = refl
front_more ns (Some xs) x = ap (λ (ys : List Text). Some ys) (sym (append_assoc ns (x ∷ []) xs))

pub front_end : (ns : List Text) → with_front ns (Some []) ≡ Some ns
front_end ns = ap (λ (ys : List Text). Some ys) (append-nil ns)

-- ---- the last of some targets comes first
last_slot : (xs : List Text) (k r : ℕ) (x : Text) (todo : List Write) → k < length xs → get_or xs k x ≡ x
    → from_slots (take (suc k) xs) r todo ≡ record { name = x; origin = FromSlot (r + k) } ∷ from_slots (take k xs) r todo
last_slot [] k r x todo h e = absurd (omega (arith, h))
last_slot (y ∷ ys) zero r x todo h e =
    let place : r ≡ r + 0 = omega arith in
    ap (λ (z : Text). record { name = z; origin = FromSlot r } ∷ todo) e ∙ ap (λ n. record { name = x; origin = FromSlot n } ∷ todo) place
last_slot (y ∷ ys) (suc k) r x todo h e =
    let place : r + 1 + k ≡ r + suc k = omega arith in
    last_slot ys k (r + 1) x (record { name = y; origin = FromSlot r } ∷ todo) (omega (arith, h)) e
    ∙ ap (λ n. record { name = x; origin = FromSlot n } ∷ from_slots (take k ys) (r + 1) (record { name = y; origin = FromSlot r } ∷ todo)) place

last_item : (xs : List Text) (k r : ℕ) (x : Text) (todo : List Write) → k < length xs → get_or xs k x ≡ x
    → from_items (take (suc k) xs) r todo ≡ record { name = x; origin = FromItem (r + k) } ∷ from_items (take k xs) r todo
last_item [] k r x todo h e = absurd (omega (arith, h))
last_item (y ∷ ys) zero r x todo h e =
    let place : r ≡ r + 0 = omega arith in
    ap (λ (z : Text). record { name = z; origin = FromItem r } ∷ todo) e ∙ ap (λ n. record { name = x; origin = FromItem n } ∷ todo) place
last_item (y ∷ ys) (suc k) r x todo h e =
    let place : r + 1 + k ≡ r + suc k = omega arith in
    last_item ys k (r + 1) x (record { name = y; origin = FromItem r } ∷ todo) (omega (arith, h)) e
    ∙ ap (λ n. record { name = x; origin = FromItem n } ∷ from_items (take k ys) (r + 1) (record { name = y; origin = FromItem r } ∷ todo)) place

pub slots_end : (xs : List Text) (ks : List Known) (d r k m : ℕ) (x : Text) (w : Writer) → m ≡ suc k → k < length xs → get_or xs k x ≡ x
    → stores_written (from_slots (take m xs) r []) d ks w ≡ stores_written (from_slots (take k xs) r []) d ks (stored (place_of ks x) (r + k) w)
slots_end xs ks d r k m x w s h e = ap (λ n. stores_written (from_slots (take n xs) r []) d ks w) s ∙ ap (λ (l : List Write). stores_written l d ks w) (last_slot xs k r x [] h e)

pub items_end : (xs : List Text) (ks : List Known) (d k m : ℕ) (x : Text) (w : Writer) → m ≡ suc k → k < length xs → get_or xs k x ≡ x
    → stores_written (from_items (take m xs) 0 []) d ks w ≡ stores_written (from_items (take k xs) 0 []) d ks (stored (place_of ks x) d (put (op.Item d k) w))
items_end xs ks d k m x w s h e =
    let z : 0 + k ≡ k = omega arith in
    ap (λ n. stores_written (from_items (take n xs) 0 []) d ks w) s ∙ ap (λ (l : List Write). stores_written l d ks w) (last_item xs k 0 x [] h e)
    ∙ ap (λ n. stores_written (from_items (take k xs) 0 []) d ks (stored (place_of ks x) d (put (op.Item d n) w))) z
