-- Each operation of two operands gives the operator's answer.
use Rattle.std.proofs.Common.{Less, Greater, Equal, ◌≡◌, ℕ, ◌+◌, ◌≤◌, inl, inr, refl, sym, ap, ◌∙◌}
use Rattle.std.specs.Prelude.{Bool, true, false, not, if◌then◌else◌, int_lt, ℤ, neg_ℤ}
use Rattle.std.specs.Ordering.{int_eq, is_eq}
use Rattle.std.proofs.Math.IntN.{+ℤ_comm, *ℤ_comm}
use Rattle.lua_value.specs.declared.value.Value.{Value}
use Rattle.lua_value.specs.declared.value.Value.TheVariants as value
use Rattle.lua_value.specs.Same.{same}
use Rattle.lua_model.specs.declared.operator.Binary.{Binary}
use Rattle.lua_model.specs.declared.operator.Binary.TheVariants as binary_op
use Rattle.lua_model.specs.Answer as answer
use Rattle.lua_model.specs.Answer.{Answer}
use Rattle.lua_model.specs.Integer as lua
use Rattle.lua_model.specs.Texts.{Texts}
use Rattle.lua_model.specs.Operators.{binary, less, less_equal}
use Rattle.lua_code.specs.Routine.{Routine}
use Rattle.lua_code.specs.declared.op.Op.{Op}
use Rattle.lua_code.specs.declared.op.Op.TheVariants as op
use Rattle.lua_code.specs.Valid.{Fits}
use Rattle.lua_steps.specs.Machine.{Code, Machine}
use Rattle.lua_steps.specs.Moves.{answered, slot}
use Rattle.lua_steps.specs.Exec.{perform, line, unless}
use Rattle.lua_steps.specs.Stand.{AtLine, AtSome, Shown, Reg, Imm, IsBinary, short_op, int_op, left_int_op, test_op}
use Rattle.lua_follow.specs.Memory.{view}
use Rattle.lua_follow.specs.Kept.{Shows}

-- ---- integers
sub_is : (a n : ℤ) → lua.add a (neg_ℤ n) ≡ lua.sub a n
sub_is a n = refl

add_turns : (a n : ℤ) → lua.add a n ≡ lua.add n a
add_turns a n = ap lua.wrap (+ℤ_comm a n)

mul_turns : (a n : ℤ) → lua.mul a n ≡ lua.mul n a
mul_turns a n = ap lua.wrap (*ℤ_comm a n)

sub_int : (texts : Texts) (u : Value) (n : ℤ) → binary texts binary_op.Add u (value.Int (neg_ℤ n)) ≡ binary texts binary_op.Sub u (value.Int n)
sub_int texts (value.Int a) n = refl
sub_int texts u n = refl

int_add : (texts : Texts) (v : Value) (n : ℤ) → binary texts binary_op.Add v (value.Int n) ≡ binary texts binary_op.Add (value.Int n) v
int_add texts (value.Int a) n = ap (λ z. answer.Plain (value.Int z)) (add_turns a n)
int_add texts v n = refl

int_mul : (texts : Texts) (v : Value) (n : ℤ) → binary texts binary_op.Mul v (value.Int n) ≡ binary texts binary_op.Mul (value.Int n) v
int_mul texts (value.Int a) n = ap (λ z. answer.Plain (value.Int z)) (mul_turns a n)
int_mul texts v n = refl

int_eq_turns : (a b : ℤ) → int_eq a b ≡ int_eq b a
int_eq_turns a b = both_ways (int_lt a b) (int_lt b a)
  where
    both_ways : (p q : Bool) → is_eq (if p then Less else (if q then Greater else Equal)) ≡ is_eq (if q then Less else (if p then Greater else Equal))
    both_ways true true = refl
    both_ways true false = refl
    both_ways false true = refl
    both_ways false false = refl

same_turns : (v : Value) (n : ℤ) → same v (value.Int n) ≡ same (value.Int n) v
same_turns (value.Int a) n = int_eq_turns a n
same_turns v n = refl

-- ---- operations
-- an operation at this line goes to slot r with the operator's answer
pub record Answers (code : Code) (m : Machine) (o : Binary) (r : ℕ) (u v : Value) (at : ℕ) : Type 0 where
  pub op : Op
  pub answer : Answer
  pub is : AtLine code m.top.function m.top.at op at
  pub does : perform code op m ≡ answered answer r (line code m) m
  pub same : answer ≡ binary m.aside.heap.texts o u v
  pub fits : (f : Routine) → Fits code f m.top.at op → r + 1 ≤ f.shape.slots

-- an operation at this line goes on, or jumps to z, by the operator's answer
pub record Tests (code : Code) (m : Machine) (o : Binary) (u v : Value) (pay z at : ℕ) : Type 0 where
  pub op : Op
  pub answer : Answer
  pub is : AtLine code m.top.function m.top.at op at
  pub does : perform code op m ≡ unless answer (line code m) pay z m
  pub same : answer ≡ binary m.aside.heap.texts o u v

module _ (code : Code) (m : Machine) where
  two : (o : Binary) (x y : ℕ) (u v : Value) → Shows (view m.top) m.row (Reg x) u → Shows (view m.top) m.row (Reg y) v → binary m.aside.heap.texts o (slot m x) (slot m y) ≡ binary m.aside.heap.texts o u v
  two o x y u v p q = ap (λ w. binary m.aside.heap.texts o w (slot m y)) p ∙ ap (λ w. binary m.aside.heap.texts o u w) q

  left_int : (o : Binary) (x : ℕ) (n : ℤ) (u v : Value) → Shows (view m.top) m.row (Reg x) u → v ≡ value.Int n → binary m.aside.heap.texts o (slot m x) (value.Int n) ≡ binary m.aside.heap.texts o u v
  left_int o x n u v p q = ap (λ w. binary m.aside.heap.texts o w (value.Int n)) p ∙ ap (λ w. binary m.aside.heap.texts o u w) (sym q)

  -- the integer stands left in the source
  turned : (o q : Binary) (y : ℕ) (n : ℤ) (u v : Value) → ((w : Value) → binary m.aside.heap.texts q w (value.Int n) ≡ binary m.aside.heap.texts o (value.Int n) w) → u ≡ value.Int n → Shows (view m.top) m.row (Reg y) v
      → binary m.aside.heap.texts q (slot m y) (value.Int n) ≡ binary m.aside.heap.texts o u v
  turned o q y n u v law e p = law (slot m y) ∙ ap (λ w. binary m.aside.heap.texts o (value.Int n) w) p ∙ ap (λ w. binary m.aside.heap.texts o w v) (sym e)

  short_does : (o : Binary) (r x y : ℕ) (u v : Value) (at : ℕ) → AtSome code m.top.function m.top.at (short_op o r x y) at → Shows (view m.top) m.row (Reg x) u → Shows (view m.top) m.row (Reg y) v → Answers code m o r u v at
  short_does binary_op.Add r x y u v at is p q =
      record { op = op.Add r x y; answer = binary m.aside.heap.texts binary_op.Add (slot m x) (slot m y); is = is; does = refl; same = two binary_op.Add x y u v p q; fits = λ f w. w.0 }
  short_does binary_op.Sub r x y u v at is p q =
      record { op = op.Sub r x y; answer = binary m.aside.heap.texts binary_op.Sub (slot m x) (slot m y); is = is; does = refl; same = two binary_op.Sub x y u v p q; fits = λ f w. w.0 }
  short_does binary_op.Mul r x y u v at is p q =
      record { op = op.Mul r x y; answer = binary m.aside.heap.texts binary_op.Mul (slot m x) (slot m y); is = is; does = refl; same = two binary_op.Mul x y u v p q; fits = λ f w. w.0 }
  short_does o r x y u v at is p q = absurd is

  int_does : (o : Binary) (r x : ℕ) (n : ℤ) (u v : Value) (at : ℕ) → AtLine code m.top.function m.top.at (int_op o r x n) at → Shows (view m.top) m.row (Reg x) u → v ≡ value.Int n → Answers code m o r u v at
  int_does binary_op.Add r x n u v at is p q =
      record { op = op.AddInt r x n; answer = binary m.aside.heap.texts binary_op.Add (slot m x) (value.Int n); is = is; does = refl; same = left_int binary_op.Add x n u v p q; fits = λ f w. w.0 }
  int_does binary_op.Sub r x n u v at is p q =
      record {
        op = op.AddInt r x (neg_ℤ n);
        answer = binary m.aside.heap.texts binary_op.Add (slot m x) (value.Int (neg_ℤ n));
        is = is;
        does = refl;
        same = sub_int m.aside.heap.texts (slot m x) n ∙ left_int binary_op.Sub x n u v p q;
        fits = λ f w. w.0;
      }
  int_does binary_op.Mul r x n u v at is p q =
      record { op = op.MulInt r x n; answer = binary m.aside.heap.texts binary_op.Mul (slot m x) (value.Int n); is = is; does = refl; same = left_int binary_op.Mul x n u v p q; fits = λ f w. w.0 }
  int_does o r x n u v at is p q =
      record { op = op.BinaryInt o r x n; answer = binary m.aside.heap.texts o (slot m x) (value.Int n); is = is; does = refl; same = left_int o x n u v p q; fits = λ f w. w.0 }

  left_does : (o : Binary) (r y : ℕ) (n : ℤ) (u v : Value) (at : ℕ) → AtSome code m.top.function m.top.at (left_int_op o r n y) at → u ≡ value.Int n → Shows (view m.top) m.row (Reg y) v → Answers code m o r u v at
  left_does binary_op.Add r y n u v at is p q =
      record {
        op = op.AddInt r y n;
        answer = binary m.aside.heap.texts binary_op.Add (slot m y) (value.Int n);
        is = is;
        does = refl;
        same = turned binary_op.Add binary_op.Add y n u v (λ w. int_add m.aside.heap.texts w n) p q;
        fits = λ f w. w.0;
      }
  left_does binary_op.Mul r y n u v at is p q =
      record {
        op = op.MulInt r y n;
        answer = binary m.aside.heap.texts binary_op.Mul (slot m y) (value.Int n);
        is = is;
        does = refl;
        same = turned binary_op.Mul binary_op.Mul y n u v (λ w. int_mul m.aside.heap.texts w n) p q;
        fits = λ f w. w.0;
      }
  left_does o r y n u v at is p q = absurd is

  pub binary_does : (o : Binary) (r : ℕ) (p q : Shown) (u v : Value) (at : ℕ) → IsBinary code m.top.function m.top.at o r p q at → Shows (view m.top) m.row p u → Shows (view m.top) m.row q v → Answers code m o r u v at
  binary_does o r (Reg x) (Reg y) u v at (inl is) p q =
      record { op = op.Binary o r x y; answer = binary m.aside.heap.texts o (slot m x) (slot m y); is = is; does = refl; same = two o x y u v p q; fits = λ f w. w.0 }
  binary_does o r (Reg x) (Reg y) u v at (inr is) p q = short_does o r x y u v at is p q
  binary_does o r (Reg x) (Imm n) u v at is p q = int_does o r x n u v at is p q
  binary_does o r (Imm n) (Reg y) u v at is p q = left_does o r y n u v at is p q
  binary_does o r a b u v at is p q = absurd is

  -- ---- comparisons
  equal_turns : (w : Value) (n : ℤ) → binary m.aside.heap.texts binary_op.Equal w (value.Int n) ≡ binary m.aside.heap.texts binary_op.Equal (value.Int n) w
  equal_turns w n = ap (λ b. answer.Plain (value.Bool b)) (same_turns w n)

  differ_turns : (w : Value) (n : ℤ) → binary m.aside.heap.texts binary_op.NotEqual w (value.Int n) ≡ binary m.aside.heap.texts binary_op.NotEqual (value.Int n) w
  differ_turns w n = ap (λ b. answer.Plain (value.Bool (not b))) (same_turns w n)

  pub test_does : (o : Binary) (p q : Shown) (u v : Value) (pay z at : ℕ) → AtSome code m.top.function m.top.at (test_op o p q pay z) at → Shows (view m.top) m.row p u → Shows (view m.top) m.row q v → Tests code m o u v pay z at
  test_does binary_op.Less (Reg x) (Reg y) u v pay z at is p q =
      record { op = op.UnlessLess x y pay z; answer = binary m.aside.heap.texts binary_op.Less (slot m x) (slot m y); is = is; does = refl; same = two binary_op.Less x y u v p q }
  test_does binary_op.Less (Reg x) (Imm n) u v pay z at is p q =
      record { op = op.UnlessLessInt x n pay z; answer = binary m.aside.heap.texts binary_op.Less (slot m x) (value.Int n); is = is; does = refl; same = left_int binary_op.Less x n u v p q }
  test_does binary_op.Less (Imm n) (Reg y) u v pay z at is p q =
      record {
        op = op.UnlessGreaterInt y n pay z;
        answer = binary m.aside.heap.texts binary_op.Greater (slot m y) (value.Int n);
        is = is;
        does = refl;
        same = turned binary_op.Less binary_op.Greater y n u v (λ w. refl) p q;
      }
  test_does binary_op.LessEqual (Reg x) (Reg y) u v pay z at is p q =
      record { op = op.UnlessLessEqual x y pay z; answer = binary m.aside.heap.texts binary_op.LessEqual (slot m x) (slot m y); is = is; does = refl; same = two binary_op.LessEqual x y u v p q }
  test_does binary_op.LessEqual (Reg x) (Imm n) u v pay z at is p q =
      record { op = op.UnlessLessEqualInt x n pay z; answer = binary m.aside.heap.texts binary_op.LessEqual (slot m x) (value.Int n); is = is; does = refl; same = left_int binary_op.LessEqual x n u v p q }
  test_does binary_op.LessEqual (Imm n) (Reg y) u v pay z at is p q =
      record {
        op = op.UnlessGreaterEqualInt y n pay z;
        answer = binary m.aside.heap.texts binary_op.GreaterEqual (slot m y) (value.Int n);
        is = is;
        does = refl;
        same = turned binary_op.LessEqual binary_op.GreaterEqual y n u v (λ w. refl) p q;
      }
  test_does binary_op.Greater (Reg x) (Reg y) u v pay z at is p q =
      record { op = op.UnlessLess y x pay z; answer = binary m.aside.heap.texts binary_op.Less (slot m y) (slot m x); is = is; does = refl; same = two binary_op.Less y x v u q p }
  test_does binary_op.Greater (Reg x) (Imm n) u v pay z at is p q =
      record { op = op.UnlessGreaterInt x n pay z; answer = binary m.aside.heap.texts binary_op.Greater (slot m x) (value.Int n); is = is; does = refl; same = left_int binary_op.Greater x n u v p q }
  test_does binary_op.Greater (Imm n) (Reg y) u v pay z at is p q =
      record {
        op = op.UnlessLessInt y n pay z;
        answer = binary m.aside.heap.texts binary_op.Less (slot m y) (value.Int n);
        is = is;
        does = refl;
        same = turned binary_op.Greater binary_op.Less y n u v (λ w. refl) p q;
      }
  test_does binary_op.GreaterEqual (Reg x) (Reg y) u v pay z at is p q =
      record { op = op.UnlessLessEqual y x pay z; answer = binary m.aside.heap.texts binary_op.LessEqual (slot m y) (slot m x); is = is; does = refl; same = two binary_op.LessEqual y x v u q p }
  test_does binary_op.GreaterEqual (Reg x) (Imm n) u v pay z at is p q =
      record { op = op.UnlessGreaterEqualInt x n pay z; answer = binary m.aside.heap.texts binary_op.GreaterEqual (slot m x) (value.Int n); is = is; does = refl; same = left_int binary_op.GreaterEqual x n u v p q }
  test_does binary_op.GreaterEqual (Imm n) (Reg y) u v pay z at is p q =
      record {
        op = op.UnlessLessEqualInt y n pay z;
        answer = binary m.aside.heap.texts binary_op.LessEqual (slot m y) (value.Int n);
        is = is;
        does = refl;
        same = turned binary_op.GreaterEqual binary_op.LessEqual y n u v (λ w. refl) p q;
      }
  test_does binary_op.Equal (Reg x) (Reg y) u v pay z at is p q =
      record { op = op.UnlessEqual x y pay z; answer = binary m.aside.heap.texts binary_op.Equal (slot m x) (slot m y); is = is; does = refl; same = two binary_op.Equal x y u v p q }
  test_does binary_op.Equal (Reg x) (Imm n) u v pay z at is p q =
      record { op = op.UnlessEqualInt x n pay z; answer = binary m.aside.heap.texts binary_op.Equal (slot m x) (value.Int n); is = is; does = refl; same = left_int binary_op.Equal x n u v p q }
  test_does binary_op.Equal (Imm n) (Reg y) u v pay z at is p q =
      record {
        op = op.UnlessEqualInt y n pay z;
        answer = binary m.aside.heap.texts binary_op.Equal (slot m y) (value.Int n);
        is = is;
        does = refl;
        same = turned binary_op.Equal binary_op.Equal y n u v (λ w. equal_turns w n) p q;
      }
  test_does binary_op.NotEqual (Reg x) (Reg y) u v pay z at is p q =
      record { op = op.UnlessNotEqual x y pay z; answer = binary m.aside.heap.texts binary_op.NotEqual (slot m x) (slot m y); is = is; does = refl; same = two binary_op.NotEqual x y u v p q }
  test_does binary_op.NotEqual (Reg x) (Imm n) u v pay z at is p q =
      record { op = op.UnlessNotEqualInt x n pay z; answer = binary m.aside.heap.texts binary_op.NotEqual (slot m x) (value.Int n); is = is; does = refl; same = left_int binary_op.NotEqual x n u v p q }
  test_does binary_op.NotEqual (Imm n) (Reg y) u v pay z at is p q =
      record {
        op = op.UnlessNotEqualInt y n pay z;
        answer = binary m.aside.heap.texts binary_op.NotEqual (slot m y) (value.Int n);
        is = is;
        does = refl;
        same = turned binary_op.NotEqual binary_op.NotEqual y n u v (λ w. differ_turns w n) p q;
      }
  test_does o a b u v pay z at is p q = absurd is

-- a comparison makes no string
abbrev pub IsTest : Binary → Type 0
IsTest binary_op.Less = Unit {0}
IsTest binary_op.LessEqual = Unit {0}
IsTest binary_op.Greater = Unit {0}
IsTest binary_op.GreaterEqual = Unit {0}
IsTest binary_op.Equal = Unit {0}
IsTest binary_op.NotEqual = Unit {0}
IsTest o = ⊥

abbrev pub IsOld : Answer → Type 0
IsOld (answer.Plain v) = Unit {0}
IsOld (answer.Fresh bytes) = ⊥
IsOld (answer.Refused why) = Unit {0}

less_old : (texts : Texts) (u v : Value) → IsOld (less texts u v)
less_old texts (value.Int a) (value.Int b) = tt
less_old texts (value.Text a) (value.Text b) = tt
less_old texts u v = tt

less_equal_old : (texts : Texts) (u v : Value) → IsOld (less_equal texts u v)
less_equal_old texts (value.Int a) (value.Int b) = tt
less_equal_old texts (value.Text a) (value.Text b) = tt
less_equal_old texts u v = tt

pub test_old : (texts : Texts) (o : Binary) (u v : Value) → IsTest o → IsOld (binary texts o u v)
test_old texts binary_op.Less u v t = less_old texts u v
test_old texts binary_op.LessEqual u v t = less_equal_old texts u v
test_old texts binary_op.Greater u v t = less_old texts v u
test_old texts binary_op.GreaterEqual u v t = less_equal_old texts v u
test_old texts binary_op.Equal u v t = tt
test_old texts binary_op.NotEqual u v t = tt
test_old texts o u v t = absurd t

pub is_test : (code : Code) (f a : ℕ) (o : Binary) (p q : Shown) (pay z at : ℕ) → AtSome code f a (test_op o p q pay z) at → IsTest o
is_test code f a binary_op.Less p q pay z at h = tt
is_test code f a binary_op.LessEqual p q pay z at h = tt
is_test code f a binary_op.Greater p q pay z at h = tt
is_test code f a binary_op.GreaterEqual p q pay z at h = tt
is_test code f a binary_op.Equal p q pay z at h = tt
is_test code f a binary_op.NotEqual p q pay z at h = tt
is_test code f a o p q pay z at h = absurd h
