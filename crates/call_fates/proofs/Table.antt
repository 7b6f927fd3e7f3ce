-- What becomes of calls in the list.
use Rattle.std.proofs.Common.{ℕ, zero, suc, ◌≡◌, ◌<◌, ◌+◌, ◌==◌, ◌&&◌, Bool, true, false, List, [], ◌∷◌, ◌++◌, take, slice_get, Option, Some, None, cond, refl, ap, sym, ◌∙◌, arith}
use Rattle.std.specs.List.{sum_by}
use Rattle.std.specs.declared.cmp.Ordering.{Ordering}
use Rattle.std.specs.declared.cmp.Ordering.TheVariants.{Less, Equal, Greater}
use Rattle.std.specs.Ordering.{nat_cmp, ordering_then, is_eq, MatchOrdering}
use Rattle.std.proofs.lemmas.Cmp.{ranked}
use Rattle.std.proofs.lemmas.Bool.Decides.{nat_tests}
use Rattle.std.proofs.lemmas.List.Sums.{sum_by-append}
use Rattle.message.specs.Messages.{is_answer}
use Rattle.sk_types.specs.declared.number.Handle.{Handle}
use Rattle.message.specs.declared.request.Message.{Message}
use Rattle.message.specs.declared.request.Held.{Held}
use Rattle.call_fates.specs.Calls.{Call, one_if, one, replies}
use Rattle.call_fates.specs.Table.{Table, state_at, with_fate, is_key, Sets, call_of, Becomes}
use Rattle.call_fates.specs.declared.calls.CallKey.{CallKey}
use Rattle.call_fates.specs.declared.calls.CallState.{CallState}
use Rattle.call_fates.specs.declared.calls.Fate.{Fate}

eq_cmp : (a b : ℕ) → is_eq (nat_cmp a b) ≡ (a == b)
eq_cmp a b = go (nat_cmp a b) (ranked a b (nat_cmp a b) refl) where
  go : (r : Ordering) → MatchOrdering r (a < b) (a ≡ b) (b < a) → is_eq r ≡ (a == b)
  go Less l = let e : (a == b) ≡ false = grind (arith, nat_tests, l) in sym e
  go Equal l = let e : (a == b) ≡ true = grind (arith, nat_tests, l) in sym e
  go Greater l = let e : (a == b) ≡ false = grind (arith, nat_tests, l) in sym e

then_eq : (o p : Ordering) → is_eq (ordering_then o p) ≡ (is_eq o && is_eq p)
then_eq Less p = refl
then_eq Equal p = refl
then_eq Greater p = refl

-- keys are compared by their numbers
pub key_is : (k q : CallKey) → is_key k q ≡ ((k.caller.0 == q.caller.0) && (k.session.0 == q.session.0))
key_is k q = then_eq (nat_cmp k.caller.0 q.caller.0) (nat_cmp k.session.0 q.session.0)
    ∙ (ap (λ b. b && is_eq (nat_cmp k.session.0 q.session.0)) (eq_cmp k.caller.0 q.caller.0) ∙ ap (λ b. (k.caller.0 == q.caller.0) && b) (eq_cmp k.session.0 q.session.0))

-- a test as a count
counted_if : {X : Type 0} (b : Bool) (n : ℕ) (x y : X) → n ≡ one_if b → cond b x y ≡ cond (n == 0) y x
counted_if true n x y e = let k : (n == 0) ≡ false = grind (arith, nat_tests, e) in rw k refl
counted_if false n x y e = let k : (n == 0) ≡ true = grind (arith, nat_tests, e) in rw k refl

becomes_if : (all all2 : Table) (k : CallKey) (f : Fate) (count : Call → ℕ) → Sets all k f all2 → ((q : CallKey) → count (call_of q) ≡ one_if (is_key k q)) → Becomes f count all all2
becomes_if all all2 k f count s n = record { each = λ q. s.each q ∙ counted_if (is_key k q) (count (call_of q)) (with_fate f (state_at all q)) (state_at all q) (n q) }

pub sets_becomes : (all all2 : Table) (x : Held) (f : Fate) → Sets all (record { caller = x.source; session = x.session }) f all2 → Becomes f (λ c. one c 0 x) all all2
sets_becomes all all2 x f s = becomes_if all all2 (record { caller = x.source; session = x.session }) f (λ c. one c 0 x) s (λ q. ap one_if (sym (key_is (record { caller = x.source; session = x.session }) q)))

-- nothing becomes of any call
pub sets_none : (all : Table) (f : Fate) (count : Call → ℕ) → ((q : CallKey) → count (call_of q) ≡ 0) → Becomes f count all all
sets_none all f count n = record { each = λ q. sym (ap (λ k. cond (k == 0) (state_at all q) (with_fate f (state_at all q))) (n q)) }

pub sets_replies : (all all2 : Table) (own : Handle) (m : Message) (f : Fate) → is_answer m.kind ≡ true → (m.source.0 == 0) ≡ false → Sets all (record { caller = own; session = m.session }) f all2 → Becomes f (λ c. replies c own.0 m) all all2
sets_replies all all2 own m f kind_is source_is s = becomes_if all all2 (record { caller = own; session = m.session }) f (λ c. replies c own.0 m) s (λ q. go q) where
  go : (q : CallKey) → replies (call_of q) own.0 m ≡ one_if (is_key (record { caller = own; session = m.session }) q)
  go q = rw (kind_is, source_is) (ap one_if (sym (key_is (record { caller = own; session = m.session }) q)))

-- two after one another
with_twice : (f : Fate) (s : Option CallState) → with_fate f (with_fate f s) ≡ with_fate f s
with_twice f None = refl
with_twice f (Some s) = refl

not_zero : (n : ℕ) → (suc n == 0) ≡ false
not_zero n = grind (arith, nat_tests)

both_counts : (n m : ℕ) (f : Fate) (s : Option CallState) → cond (m == 0) (cond (n == 0) s (with_fate f s)) (with_fate f (cond (n == 0) s (with_fate f s))) ≡ cond ((n + m) == 0) s (with_fate f s)
both_counts zero zero f s = refl
both_counts zero (suc m) f s = let k : zero + suc m ≡ suc m = omega arith in rw (k, not_zero m) refl
both_counts (suc n) zero f s = let k : suc n + zero ≡ suc n = omega arith in rw (k, not_zero n) refl
both_counts (suc n) (suc m) f s = let k : suc n + suc m ≡ suc (n + suc m) = omega arith in rw (k, not_zero m, not_zero n, not_zero (n + suc m)) (with_twice f s)

pub becomes_join : (all a1 a2 : Table) (f : Fate) (n m total : Call → ℕ) → Becomes f n all a1 → Becomes f m a1 a2 → ((c : Call) → total c ≡ n c + m c) → Becomes f total all a2
becomes_join all a1 a2 f n m total one two sum = record {
  each = λ q. two.each q
      ∙ (ap (λ s. cond (m (call_of q) == 0) s (with_fate f s)) (one.each q)
      ∙ (both_counts (n (call_of q)) (m (call_of q)) f (state_at all q) ∙ ap (λ k. cond (k == 0) (state_at all q) (with_fate f (state_at all q))) (sym (sum (call_of q)))));
}

-- one item of a list more
take_more : {X : Type 0} (xs : List X) (n : ℕ) (x : X) → slice_get xs n ≡ Some x → take (n + 1) xs ≡ take n xs ++ x ∷ []
take_more [] n x e = absurd (cc)
take_more (y ∷ xs) zero x e = let same : y ≡ x = cc in ap (λ z. z ∷ []) same
take_more (y ∷ xs) (suc n) x e = let k : suc n + 1 ≡ suc (n + 1) = omega arith in ap (λ j. take j (y ∷ xs)) k ∙ ap (λ z. y ∷ z) (take_more xs n x e)

pub becomes_more : {X : Type 0} (all a1 a2 : Table) (f : Fate) (count : Call → X → ℕ) (xs : List X) (n : ℕ) (x : X) → Becomes f (λ c. sum_by (count c) (take n xs)) all a1 → slice_get xs n ≡ Some x → Becomes f (λ c. count c x) a1 a2
    → Becomes f (λ c. sum_by (count c) (take (n + 1) xs)) all a2
becomes_more all a1 a2 f count xs n x one there two =
    becomes_join all a1 a2 f (λ c. sum_by (count c) (take n xs)) (λ c. count c x) (λ c. sum_by (count c) (take (n + 1) xs)) one two
    (λ c. omega (arith, ap (sum_by (count c)) (take_more xs n x there), sum_by-append (count c) (take n xs) (x ∷ [])))
