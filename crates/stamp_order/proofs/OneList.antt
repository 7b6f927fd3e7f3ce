-- Keys in order are told by how often each stands among them.
use Rattle.std.proofs.Common.{◌⊎◌, inl, inr, ◌≡◌, ℕ, zero, suc, ◌<◌, ◌≤◌, ◌+◌, ◌==◌, ◌&&◌, nat_lt, Bool, true, false, List, [], ◌∷◌, map, if◌then◌else◌, refl, ap, sym, ◌∙◌, subst, arith}
use Rattle.std.specs.List.{sum_by}
use Rattle.std.specs.List.Sorted.{IsSorted}
use Rattle.std.specs.Ordering.{is_lt, nat_cmp, ordering_then}
use Rattle.std.specs.declared.cmp.Ordering.TheVariants.{Less, Equal}
use Rattle.std.proofs.lemmas.Bool.Decides.{nat_tests}
use Rattle.std.proofs.lemmas.List.Sums.{sum_by-cons}
use Rattle.std.proofs.lemmas.List.Sorted.{sum_by-IsPermutation}
use Rattle.sk_types.specs.declared.number.Handle.{Handle}
use Rattle.sk_types.specs.declared.number.Stamp.{Stamp}
use Rattle.stamp_order.specs.Merged.{key, by_stamp, entries_of}
use Rattle.stamp_order.specs.Laws.{OneMerged}
use Rattle.stamp_order.proofs.Lists.{num_same, num_is}
use Rattle.stamp_order.proofs.Keys.{not_lower, sorted_tail, sorted_head}

-- ONE KEY BEFORE ANOTHER

-- x does not stand after y
pub record IsUpTo (x y : Stamp × Handle) : Type 0 where
  pub stamp : x.0.0 ≤ y.0.0
  pub agent : x.0.0 ≡ y.0.0 → x.1.0 ≤ y.1.0

up_to : (x y : Stamp × Handle) → is_lt (by_stamp y x) ≡ false → IsUpTo x y
up_to x y e = record { stamp = not_lower x y e; agent = λ same. go same (nat_lt y.1.0 x.1.0) refl } where
  go : x.0.0 ≡ y.0.0 → (b : Bool) → nat_lt y.1.0 x.1.0 ≡ b → x.1.0 ≤ y.1.0
  go same false t = grind (arith, nat_tests)
  go same true t =
      let not_less : nat_lt y.0.0 x.0.0 ≡ false = grind (arith, nat_tests) in
      let equal : (y.0.0 == x.0.0) ≡ true = ap (λ n. y.0.0 == n) same ∙ num_same y.0.0 in
      let first : nat_cmp y.0.0 x.0.0 ≡ Equal = rw (not_less, equal) refl in
      let second : nat_cmp y.1.0 x.1.0 ≡ Less = rw t refl in
      let k : is_lt (by_stamp y x) ≡ true = ap (λ o. is_lt (ordering_then o (nat_cmp y.1.0 x.1.0))) first ∙ ap is_lt second in
      absurd (cc)

trans : (x y z : Stamp × Handle) → IsUpTo x y → IsUpTo y z → IsUpTo x z
trans x y z a b = record { stamp = omega (arith, a.stamp, b.stamp); agent = λ same. both same } where
  both : x.0.0 ≡ z.0.0 → x.1.0 ≤ z.1.0
  both same =
      let one : x.0.0 ≡ y.0.0 = omega (arith, same, a.stamp, b.stamp) in
      let two : y.0.0 ≡ z.0.0 = omega (arith, same, a.stamp, b.stamp) in
      omega (arith, a.agent one, b.agent two)

key_is : (x y : Stamp × Handle) → x.0.0 ≡ y.0.0 → x.1.0 ≡ y.1.0 → x ≡ y
key_is x y e f = let F : ℕ → ℕ → Stamp × Handle = λ n m. (record { 0 = n }, record { 0 = m }) in ap (λ n. F n x.1.0) e ∙ ap (F y.0.0) f

one_key : (x y : Stamp × Handle) → IsUpTo x y → IsUpTo y x → x ≡ y
one_key x y a b =
    let e : x.0.0 ≡ y.0.0 = omega (arith, a.stamp, b.stamp) in
    key_is x y e (omega (arith, a.agent e, b.agent (sym e)))

-- LISTS OF KEYS

abbrev pub Has : Stamp × Handle → List (Stamp × Handle) → Type 0
Has x [] = ⊥
Has x (y ∷ ys) = (x ≡ y) ⊎ Has x ys

abbrev pub Ascends : List (Stamp × Handle) → Type 0
Ascends [] = Unit {0}
Ascends (x ∷ xs) = ((y : Stamp × Handle) → Has y xs → IsUpTo x y) × Ascends xs

ascends : (xs : List (Stamp × Handle)) → IsSorted by_stamp xs → Ascends xs
ascends [] sorted = tt
ascends (x ∷ []) sorted = (λ y i. absurd i, tt)
ascends (x ∷ y ∷ xs) sorted = go (ascends (y ∷ xs) (sorted_tail lt x (y ∷ xs) sorted)) where
  lt : Stamp × Handle → Stamp × Handle → Bool
  lt a b = is_lt (by_stamp a b)

  go : Ascends (y ∷ xs) → Ascends (x ∷ y ∷ xs)
  go rec = (all, rec) where
    next : IsUpTo x y
    next = up_to x y (sorted_head (λ a b. is_lt (by_stamp a b)) x y xs sorted)

    all : (z : Stamp × Handle) → (z ≡ y) ⊎ Has z xs → IsUpTo x z
    all z (inl p) = subst (IsUpTo x) (sym p) next
    all z (inr i) = trans x y z next (rec.0 z i)

-- HOW OFTEN A KEY STANDS AMONG THEM

abbrev pub is_key : Stamp × Handle → Stamp × Handle → ℕ
is_key x y = if (y.0.0 == x.0.0) && (y.1.0 == x.1.0) then 1 else 0

abbrev pub times : Stamp × Handle → List (Stamp × Handle) → ℕ
times x ys = sum_by (is_key x) ys

times_more : (x y : Stamp × Handle) (ys : List (Stamp × Handle)) → times x (y ∷ ys) ≡ is_key x y + times x ys
times_more x y ys = sum_by-cons (is_key x) y ys

key_self : (x : Stamp × Handle) → is_key x x ≡ 1
key_self x = let e : (x.0.0 == x.0.0) ≡ true = num_same x.0.0 in let f : (x.1.0 == x.1.0) ≡ true = num_same x.1.0 in rw (e, f) refl

key_found : (x y : Stamp × Handle) → 0 < is_key x y → x ≡ y
key_found x y some = go (y.0.0 == x.0.0) (y.1.0 == x.1.0) refl refl where
  go : (b c : Bool) → (y.0.0 == x.0.0) ≡ b → (y.1.0 == x.1.0) ≡ c → x ≡ y
  go true true e f = key_is x y (sym (num_is y.0.0 x.0.0 e)) (sym (num_is y.1.0 x.1.0 f))
  go true false e f = let k : is_key x y ≡ 0 = rw (e, f) refl in absurd (omega (arith, some, k))
  go false c e f = let k : is_key x y ≡ 0 = rw e refl in absurd (omega (arith, some, k))

has_of : (x : Stamp × Handle) (ys : List (Stamp × Handle)) → 0 < times x ys → Has x ys
has_of x [] some = absurd (omega (arith, some))
has_of x (y ∷ ys) some = go (is_key x y) refl (has_of x ys) where
  go : (n : ℕ) → is_key x y ≡ n → (0 < times x ys → Has x ys) → Has x (y ∷ ys)
  go zero e later = inr (later (omega (arith, some, times_more x y ys, e)))
  go (suc n) e later = inl (key_found x y (omega (arith, e)))

abbrev pub SameTimes : List (Stamp × Handle) → List (Stamp × Handle) → Type 0
SameTimes xs ys = (x : Stamp × Handle) → times x xs ≡ times x ys

first_is : (x y : Stamp × Handle) (xs ys : List (Stamp × Handle)) → Ascends (x ∷ xs) → Ascends (y ∷ ys) → Has x (y ∷ ys) → Has y (x ∷ xs) → x ≡ y
first_is x y xs ys a b (inl p) k = p
first_is x y xs ys a b (inr i) (inl p) = sym p
first_is x y xs ys a b (inr i) (inr j) = one_key x y (a.0 y j) (b.0 x i)

one_list : (xs ys : List (Stamp × Handle)) → Ascends xs → Ascends ys → SameTimes xs ys → xs ≡ ys
one_list [] [] a b same = refl
one_list [] (y ∷ ys) a b same = absurd (omega (arith, same y, times_more y y ys, key_self y))
one_list (x ∷ xs) [] a b same = absurd (omega (arith, same x, times_more x x xs, key_self x))
one_list (x ∷ xs) (y ∷ ys) a b same =
    let in_ys : Has x (y ∷ ys) = has_of x (y ∷ ys) (omega (arith, same x, times_more x x xs, key_self x)) in
    let in_xs : Has y (x ∷ xs) = has_of y (x ∷ xs) (omega (arith, same y, times_more y y ys, key_self y)) in
    let one : x ≡ y = first_is x y xs ys a b in_ys in_xs in
    ap (λ l. x ∷ l) (one_list xs ys a.1 b.1 (rest one)) ∙ ap (λ z. z ∷ ys) one where
      rest : x ≡ y → SameTimes xs ys
      rest one z = omega (arith, same z, times_more z x xs, times_more z y ys, ap (is_key z) one)

pub one_merged : OneMerged
one_merged trails one other m n =
    let all = map key (entries_of trails) in
    let same : SameTimes m.keys n.keys = λ x. sum_by-IsPermutation (is_key x) all m.keys m.all ∙ sym (sum_by-IsPermutation (is_key x) all n.keys n.all) in
    let keys : m.keys ≡ n.keys = one_list m.keys n.keys (ascends m.keys m.ordered) (ascends n.keys n.ordered) same in
    m.agents ∙ (ap (map (λ (k : Stamp × Handle). k.1)) keys ∙ sym n.agents)
