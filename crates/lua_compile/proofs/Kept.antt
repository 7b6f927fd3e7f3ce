-- What is written stays: operations, lines, constants, functions, and labels that stand.
use Rattle.std.proofs.Common.{◌≡◌, ℕ, zero, suc, ◌+◌, ◌<◌, ◌≤◌, ◌≢◌, refl, sym, ap, ◌∙◌, subst, List, [], ◌∷◌, ◌++◌, length, Some, arith, false, length-append}
use Rattle.std.specs.Prelude.{slice_get, slice_set}
use Rattle.std.proofs.lemmas.Option.{slice_get_within}
use Rattle.std.proofs.Math.Nat.{le-max_left}
use Rattle.lua_code.specs.declared.function.Constant.{Constant}
use Rattle.lua_code.specs.declared.op.Op.{Op}
use Rattle.lua_code.specs.Routine.{Routine}
use Rattle.lua_compile.specs.Writer.{Writer, reach, cell_reach, emit, labelled, placed_here}

-- ---- lists
pub get_front : {A : Type 0} (xs ys : List A) (k : ℕ) (x : A) → slice_get xs k ≡ Some x → slice_get (xs ++ ys) k ≡ Some x
get_front [] ys k x e = absurd (cc)
get_front (y ∷ xs) ys zero x e = e
get_front (y ∷ xs) ys (suc k) x e = get_front xs ys k x e

pub get_end : {A : Type 0} (xs : List A) (x : A) → slice_get (xs ++ x ∷ []) (length xs) ≡ Some x
get_end [] x = refl
get_end (y ∷ xs) x = get_end xs x

pub length_set : {A : Type 0} (xs : List A) (k : ℕ) (x : A) → length (slice_set xs k x) ≡ length xs
length_set [] k x = refl
length_set (y ∷ xs) zero x = refl
length_set (y ∷ xs) (suc k) x = ap suc (length_set xs k x)

pub get_set : {A : Type 0} (xs : List A) (k : ℕ) (x : A) → k < length xs → slice_get (slice_set xs k x) k ≡ Some x
get_set [] k x h = absurd (omega arith)
get_set (y ∷ xs) zero x h = refl
get_set (y ∷ xs) (suc k) x h = get_set xs k x (omega arith)

pub get_other : {A : Type 0} (xs : List A) (j k : ℕ) (x : A) → k ≢ j → slice_get (slice_set xs j x) k ≡ slice_get xs k
get_other [] j k x h = refl
get_other (y ∷ xs) zero zero x h = absurd (h refl)
get_other (y ∷ xs) zero (suc k) x h = refl
get_other (y ∷ xs) (suc j) zero x h = refl
get_other (y ∷ xs) (suc j) (suc k) x h = get_other xs j k x (λ e. h (ap suc e))

-- ---- writers
-- the count of operations is right
pub record Level (w : Writer) : Type 0 where
  pub ops : w.at ≡ length w.draft.ops
  pub lines : w.at ≡ length w.draft.lines

-- what of w stands in v too, the labels from n on
pub record Kept (n : ℕ) (w v : Writer) : Type 0 where
  pub ops : (k : ℕ) (o : Op) → slice_get w.draft.ops k ≡ Some o → slice_get v.draft.ops k ≡ Some o
  pub lines : (k z : ℕ) → slice_get w.draft.lines k ≡ Some z → slice_get v.draft.lines k ≡ Some z
  pub constants : (k : ℕ) (c : Constant) → slice_get w.draft.constants k ≡ Some c → slice_get v.draft.constants k ≡ Some c
  pub made : (k : ℕ) (r : Routine) → slice_get w.made k ≡ Some r → slice_get v.made k ≡ Some r
  pub labels : (k z : ℕ) → n ≤ k → slice_get w.labels k ≡ Some z → slice_get v.labels k ≡ Some z
  pub more : length w.labels ≤ length v.labels
  pub found : v.lost ≡ false → w.lost ≡ false
  pub level : Level w → Level v
  pub at : w.at ≤ v.at
  pub slots : w.draft.shape.slots ≤ v.draft.shape.slots
  pub cells : w.draft.shape.cells ≤ v.draft.shape.cells
  pub captures : v.draft.captures ≡ w.draft.captures
  pub params : v.draft.shape.params ≡ w.draft.shape.params
  pub dots : v.draft.shape.has_dots ≡ w.draft.shape.has_dots
  pub pay : v.draft.shape.pay ≡ w.draft.shape.pay

pub kept_self : (n : ℕ) (w : Writer) → Kept n w w
kept_self n w =
    record {
      ops = λ k o e. e;
      lines = λ k z e. e;
      constants = λ k c e. e;
      made = λ k r e. e;
      labels = λ k z h e. e;
      more = omega arith;
      found = λ e. e;
      level = λ l. l;
      at = omega arith;
      slots = omega arith;
      cells = omega arith;
      captures = refl;
      params = refl;
      dots = refl;
      pay = refl;
    }

pub kept_then : (n : ℕ) (w v u : Writer) → Kept n w v → Kept n v u → Kept n w u
kept_then n w v u a b =
    record {
      ops = λ k o e. b.ops k o (a.ops k o e);
      lines = λ k z e. b.lines k z (a.lines k z e);
      constants = λ k c e. b.constants k c (a.constants k c e);
      made = λ k r e. b.made k r (a.made k r e);
      labels = λ k z h e. b.labels k z h (a.labels k z h e);
      more = omega (arith, a.more, b.more);
      found = λ e. a.found (b.found e);
      level = λ l. b.level (a.level l);
      at = omega (arith, a.at, b.at);
      slots = omega (arith, a.slots, b.slots);
      cells = omega (arith, a.cells, b.cells);
      captures = b.captures ∙ a.captures;
      params = b.params ∙ a.params;
      dots = b.dots ∙ a.dots;
      pay = b.pay ∙ a.pay;
    }

pub kept_from : (m n : ℕ) (w v : Writer) → m ≤ n → Kept m w v → Kept n w v
kept_from m n w v le a =
    record {
      ops = a.ops;
      lines = a.lines;
      constants = a.constants;
      made = a.made;
      labels = λ k z h e. a.labels k z (omega arith) e;
      more = a.more;
      found = a.found;
      level = a.level;
      at = a.at;
      slots = a.slots;
      cells = a.cells;
      captures = a.captures;
      params = a.params;
      dots = a.dots;
      pay = a.pay;
    }

length_more : {A : Type 0} (xs : List A) (x : A) (n : ℕ) → n ≡ length xs → n + 1 ≡ length (xs ++ x ∷ [])
length_more xs x n e = omega (arith, e, length-append xs (x ∷ []))

pub kept_emit : (n : ℕ) (o : Op) (line : ℕ) (w : Writer) → Kept n w (emit o line w)
kept_emit n o line w =
    record {
      ops = λ k p e. get_front w.draft.ops (o ∷ []) k p e;
      lines = λ k z e. get_front w.draft.lines (line ∷ []) k z e;
      constants = λ k c e. e;
      made = λ k r e. e;
      labels = λ k z h e. e;
      more = omega arith;
      found = λ e. e;
      level = λ l. record { ops = length_more w.draft.ops o w.at l.ops; lines = length_more w.draft.lines line w.at l.lines };
      at = omega arith;
      slots = le-max_left w.draft.shape.slots (reach o);
      cells = le-max_left w.draft.shape.cells (cell_reach o);
      captures = refl;
      params = refl;
      dots = refl;
      pay = refl;
    }

pub kept_labelled : (n : ℕ) (w : Writer) → Kept n w (labelled w)
kept_labelled n w =
    record {
      ops = λ k o e. e;
      lines = λ k z e. e;
      constants = λ k c e. e;
      made = λ k r e. e;
      labels = λ k z h e. get_front w.labels (0 ∷ []) k z e;
      more = omega (arith, length-append w.labels (0 ∷ []));
      found = λ e. e;
      level = λ l. record { ops = l.ops; lines = l.lines };
      at = omega arith;
      slots = omega arith;
      cells = omega arith;
      captures = refl;
      params = refl;
      dots = refl;
      pay = refl;
    }

-- a label below n, or one that w has not, gets its place
placed_by : (n l : ℕ) (w v : Writer) → Kept n w v → ((k : ℕ) → n ≤ k → k < length w.labels → k ≢ l) → Kept n w (placed_here l v)
placed_by n l w v a h =
    record {
      ops = a.ops;
      lines = a.lines;
      constants = a.constants;
      made = a.made;
      labels = λ k z le e. get_other v.labels l k v.at (h k le (slice_get_within w.labels k z e)) ∙ a.labels k z le e;
      more = omega (arith, a.more, length_set v.labels l v.at);
      found = a.found;
      level = λ lv. record { ops = (a.level lv).ops; lines = (a.level lv).lines };
      at = a.at;
      slots = a.slots;
      cells = a.cells;
      captures = a.captures;
      params = a.params;
      dots = a.dots;
      pay = a.pay;
    }

below_differs : (n l k : ℕ) → l < n → n ≤ k → k ≢ l
below_differs n l k lt le e = let lt' : k < n = subst (λ i. i < n) (sym e) lt in absurd (omega arith)

pub kept_placed_below : (n l : ℕ) (w v : Writer) → l < n → Kept n w v → Kept n w (placed_here l v)
kept_placed_below n l w v lt a = placed_by n l w v a (λ k le lt2. below_differs n l k lt le)

new_differs : (l k m : ℕ) → m ≤ l → k < m → k ≢ l
new_differs l k m le lt e = let lt' : l < m = subst (λ i. i < m) e lt in absurd (omega arith)

pub kept_placed_new : (n l : ℕ) (w v : Writer) → length w.labels ≤ l → Kept n w v → Kept n w (placed_here l v)
kept_placed_new n l w v le a = placed_by n l w v a (λ k h lt. new_differs l k (length w.labels) le lt)
