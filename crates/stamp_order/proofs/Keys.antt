-- The merged list is the list of agents of all entries, put into order.
use Rattle.std.proofs.Common.{◌⊎◌, inl, inr, ◌≡◌, ◌≢◌, ℕ, zero, suc, ◌<◌, ◌≤◌, ◌+◌, ◌==◌, nat_lt, Bool, true, false, List, [], ◌∷◌, length, map, Contains, slice_index_or, slice_set, if◌then◌else◌, refl, ap, sym, ◌∙◌, subst, arith}
use Rattle.std.specs.List.{filter, sum_by, swap}
use Rattle.std.specs.List.Sorted.{IsPermutation, IsSorted, IsSortedBy, apply_swaps, SwapsInRange}
use Rattle.std.specs.Ordering.{is_lt, nat_cmp, ordering_then}
use Rattle.std.specs.declared.cmp.Ordering.TheVariants.{Less}
use Rattle.std.proofs.lemmas.Bool.Decides.{nat_tests}
use Rattle.std.proofs.lemmas.List.{map-set, length-map}
use Rattle.std.proofs.Math.ListN.{get_or-map}
use Rattle.std.proofs.lemmas.List.Sums.{sum_by-cons}
use Rattle.std.proofs.lemmas.List.Sorted.{sum_by-IsPermutation, Contains-permutation, IsPermutation-sym}
use Rattle.message.specs.Trails.{Trail}
use Rattle.message.specs.Records.{Rises}
use Rattle.sk_types.specs.declared.number.Handle.{Handle}
use Rattle.sk_types.specs.declared.number.Stamp.{Stamp}
use Rattle.message.specs.declared.record.Entry.{Entry}
use Rattle.stamp_order.specs.Merged.{key, by_stamp, entries_of, IsMerged}
use Rattle.stamp_order.specs.Records.{Records, is_by, IsAmong, IsRising, AreRising, Climbs, IsAll, journal}
use Rattle.stamp_order.specs.Laws.{HaveAll}
use Rattle.stamp_order.proofs.Lists.{num_same, num_apart, filter_yes, filter_no, among_part, climbs_among, climbs_part, rises_among}

-- WHAT MOVES THE KEYS MOVES THE ENTRIES

module _ {X Y : Type 0} (f : X → Y) where
  map_swap : (xs : List X) (i j : ℕ) → map f (swap xs i j) ≡ swap (map f xs) i j
  map_swap [] i j = refl
  map_swap (d ∷ ys) i j =
      let one : map f (slice_set (d ∷ ys) i (slice_index_or (d ∷ ys) j d)) ≡ slice_set (map f (d ∷ ys)) i (slice_index_or (map f (d ∷ ys)) j (f d)) = map-set f (d ∷ ys) i (slice_index_or (d ∷ ys) j d) ∙ ap (slice_set (map f (d ∷ ys)) i) (sym (get_or-map f (d ∷ ys) j d)) in
      map-set f (slice_set (d ∷ ys) i (slice_index_or (d ∷ ys) j d)) j (slice_index_or (d ∷ ys) i d)
      ∙ (ap (λ l. slice_set l j (f (slice_index_or (d ∷ ys) i d))) one ∙ ap (slice_set (slice_set (map f (d ∷ ys)) i (slice_index_or (map f (d ∷ ys)) j (f d))) j) (sym (get_or-map f (d ∷ ys) i d)))

  map_swaps : (xs : List X) (ps : List (ℕ × ℕ)) → map f (apply_swaps xs ps) ≡ apply_swaps (map f xs) ps
  map_swaps xs [] = refl
  map_swaps xs (p ∷ ps) = map_swap (apply_swaps xs ps) p.0 p.1 ∙ ap (λ l. swap l p.0 p.1) (map_swaps xs ps)

-- the entries in the order of the keys
pub record IsLifted {X Y : Type 0} (f : X → Y) (xs : List X) (keys : List Y) : Type 0 where
  pub moved : List X
  pub all : IsPermutation xs moved
  pub keyed : map f moved ≡ keys

lifted : {X Y : Type 0} (f : X → Y) (xs : List X) (keys : List Y) → IsPermutation (map f xs) keys → IsLifted f xs keys
lifted f xs keys p = record {
  moved = apply_swaps xs p.moves;
  all = record { moves = p.moves; below = subst (λ n. SwapsInRange n p.moves) (length-map xs f) p.below; is = refl };
  keyed = map_swaps f xs p.moves ∙ sym p.is;
}

-- ORDER

pub not_lower : (x y : Stamp × Handle) → is_lt (by_stamp y x) ≡ false → x.0.0 ≤ y.0.0
not_lower x y e = go (nat_lt y.0.0 x.0.0) refl where
  go : (b : Bool) → nat_lt y.0.0 x.0.0 ≡ b → x.0.0 ≤ y.0.0
  go true t =
      let less : nat_cmp y.0.0 x.0.0 ≡ Less = rw t refl in
      let k : is_lt (by_stamp y x) ≡ true = ap (λ o. is_lt (ordering_then o (nat_cmp y.1.0 x.1.0))) less in
      absurd (cc)
  go false t = grind (arith, nat_tests)

pub sorted_tail : {X : Type 0} (lt : X → X → Bool) (x : X) (xs : List X) → IsSortedBy lt (x ∷ xs) → IsSortedBy lt xs
sorted_tail {X = X} lt x xs sorted k d low high =
    let n : k + 1 ≡ suc k = omega arith in
    let m : (k + 1) + 1 ≡ suc (k + 1) = omega arith in
    let zero_low : 0 ≤ k + 1 = omega arith in
    let below : (k + 1) + 1 < length (x ∷ xs) = omega (arith, high) in
    let was : lt (slice_index_or (x ∷ xs) ((k + 1) + 1) d) (slice_index_or (x ∷ xs) (k + 1) d) ≡ false = sorted (k + 1) d zero_low below in
    let one : lt (slice_index_or (x ∷ xs) (suc (k + 1)) d) (slice_index_or (x ∷ xs) (k + 1) d) ≡ false = ap (λ i. lt (slice_index_or (x ∷ xs) i d) (slice_index_or (x ∷ xs) (k + 1) d)) (sym m) ∙ was in
    let two : lt (slice_index_or xs (k + 1) d) (slice_index_or (x ∷ xs) (suc k) d) ≡ false = ap (λ i. lt (slice_index_or xs (k + 1) d) (slice_index_or (x ∷ xs) i d)) (sym n) ∙ one in
    two

pub sorted_head : {X : Type 0} (lt : X → X → Bool) (x y : X) (xs : List X) → IsSortedBy lt (x ∷ y ∷ xs) → lt y x ≡ false
sorted_head lt x y xs sorted = sorted 0 x (omega arith) (omega arith)

sorted_climbs : (e : Entry) (es : List Entry) → IsSorted by_stamp (map key (e ∷ es)) → Climbs e.stamp.0 es
sorted_climbs e [] sorted = tt
sorted_climbs e (d ∷ es) sorted =
    let lt : Stamp × Handle → Stamp × Handle → Bool = λ x y. is_lt (by_stamp x y) in
    (not_lower (key e) (key d) (sorted_head lt (key e) (key d) (map key es) sorted), sorted_climbs d es (sorted_tail lt (key e) (key d ∷ map key es) sorted))

climbs_of : (es : List Entry) → IsSorted by_stamp (map key es) → Climbs 0 es
climbs_of [] sorted = tt
climbs_of (e ∷ es) sorted = (omega arith, sorted_climbs e es sorted)

-- HOW OFTEN A STAMP STANDS IN A LIST

abbrev pub has_stamp : ℕ → Entry → ℕ
has_stamp s e = if e.stamp.0 == s then 1 else 0

abbrev pub tally : ℕ → List Entry → ℕ
tally s es = sum_by (has_stamp s) es

-- one entry more
tally_more : (s : ℕ) (e : Entry) (es : List Entry) → tally s (e ∷ es) ≡ has_stamp s e + tally s es
tally_more s e es = sum_by-cons (has_stamp s) e es

stamp_yes : (s : ℕ) (e : Entry) → e.stamp.0 ≡ s → has_stamp s e ≡ 1
stamp_yes s e same = let t : (e.stamp.0 == s) ≡ true = ap (λ n. n == s) same ∙ num_same s in rw t refl

stamp_no : (s : ℕ) (e : Entry) → e.stamp.0 ≢ s → has_stamp s e ≡ 0
stamp_no s e ne = let t : (e.stamp.0 == s) ≡ false = num_apart e.stamp.0 s ne in rw t refl

tally_none : (s : ℕ) (es : List Entry) → ((x : Entry) → IsAmong x es → x.stamp.0 ≢ s) → tally s es ≡ 0
tally_none s [] none = refl
tally_none s (e ∷ es) none = omega (arith, tally_more s e es, stamp_no s e (none e (inl refl)), tally_none s es (λ x i. none x (inr i)))

tally_some : (s : ℕ) (es : List Entry) (x : Entry) → IsAmong x es → x.stamp.0 ≡ s → 0 < tally s es
tally_some s [] x i same = absurd i
tally_some s (e ∷ es) x (inl p) same = omega (arith, tally_more s e es, stamp_yes s e (sym (ap (λ (z : Entry). z.stamp.0) p) ∙ same))
tally_some s (e ∷ es) x (inr i) same = omega (arith, tally_more s e es, tally_some s es x i same)

abbrev pub SameTallies : List Entry → List Entry → Type 0
SameTallies xs ys = (s : ℕ) → tally s xs ≡ tally s ys

first_same : (x y : Entry) (xs ys : List Entry) → Climbs x.stamp.0 xs → Rises y.stamp.0 ys → SameTallies (x ∷ xs) (y ∷ ys) → IsAmong x (y ∷ ys) → x ≡ y
first_same x y xs ys c r same (inl p) = p
first_same x y xs ys c r same (inr i) =
    let above : y.stamp.0 < x.stamp.0 = rises_among y.stamp.0 ys x r i in
    let none : tally y.stamp.0 (x ∷ xs) ≡ 0 = tally_none y.stamp.0 (x ∷ xs) (λ z j e. absurd (low above z j e)) in
    absurd (omega (arith, none, same y.stamp.0, tally_more y.stamp.0 y ys, stamp_yes y.stamp.0 y refl)) where
      low : y.stamp.0 < x.stamp.0 → (z : Entry) → IsAmong z (x ∷ xs) → z.stamp.0 ≡ y.stamp.0 → ⊥
      low above z (inl p) e = omega (arith, above, e, ap (λ (v : Entry). v.stamp.0) p)
      low above z (inr j) e = omega (arith, above, e, climbs_among x.stamp.0 xs z c j)

-- one whose stamps do not fall and one whose stamps rise, with the same entries, are one list
same_list : (n : ℕ) (xs ys : List Entry) → Climbs n xs → IsRising ys → SameTallies xs ys → ((x : Entry) → IsAmong x xs → IsAmong x ys) → xs ≡ ys
same_list n [] [] c r same inside = refl
same_list n [] (y ∷ ys) c r same inside = absurd (omega (arith, same y.stamp.0, tally_more y.stamp.0 y ys, stamp_yes y.stamp.0 y refl))
same_list n (x ∷ xs) [] c r same inside = absurd (inside x (inl refl))
same_list n (x ∷ xs) (y ∷ ys) c r same inside =
    let one : x ≡ y = first_same x y xs ys c.1 r same (inside x (inl refl)) in
    ap (λ l. x ∷ l) (same_list x.stamp.0 xs ys c.1 (rising ys r) (tallies one) (λ z i. within one z i (inside z (inr i)))) ∙ ap (λ z. z ∷ ys) one where
      rising : (zs : List Entry) → Rises y.stamp.0 zs → IsRising zs
      rising [] k = tt
      rising (z ∷ zs) k = k.1

      tallies : x ≡ y → SameTallies xs ys
      tallies one s = omega (arith, same s, tally_more s x xs, tally_more s y ys, ap (has_stamp s) one)

      within : x ≡ y → (z : Entry) → IsAmong z xs → (z ≡ y) ⊎ IsAmong z ys → IsAmong z ys
      within one z i (inr j) = j
      within one z i (inl p) =
          let none : tally y.stamp.0 ys ≡ 0 = tally_none y.stamp.0 ys (λ v j e. omega (arith, rises_among y.stamp.0 ys v r j, e)) in
          absurd (omega (arith, tallies one y.stamp.0, none, tally_some y.stamp.0 xs z i (ap (λ (v : Entry). v.stamp.0) p)))

-- PARTS OF A PERMUTATION

-- in a part
abbrev pub counts : (Entry → Bool) → ℕ → Entry → ℕ
counts q s e = if q e then has_stamp s e else 0

counts_more : (q : Entry → Bool) (s : ℕ) (e : Entry) (es : List Entry) → sum_by (counts q s) (e ∷ es) ≡ counts q s e + sum_by (counts q s) es
counts_more q s e es = sum_by-cons (counts q s) e es

tally_part : (q : Entry → Bool) (s : ℕ) (es : List Entry) → tally s (filter q es) ≡ sum_by (counts q s) es
tally_part q s [] = refl
tally_part q s (e ∷ es) = go (q e) refl (tally_part q s es) where
  go : (b : Bool) → q e ≡ b → tally s (filter q es) ≡ sum_by (counts q s) es → tally s (filter q (e ∷ es)) ≡ sum_by (counts q s) (e ∷ es)
  go true t rec = let k : counts q s e ≡ has_stamp s e = rw t refl in omega (arith, ap (tally s) (filter_yes q e es t), tally_more s e (filter q es), counts_more q s e es, k, rec)
  go false t rec = let k : counts q s e ≡ 0 = rw t refl in omega (arith, ap (tally s) (filter_no q e es t), counts_more q s e es, k, rec)

part_tallies : (q : Entry → Bool) (xs ys : List Entry) → IsPermutation xs ys → SameTallies (filter q ys) (filter q xs)
part_tallies q xs ys p s = tally_part q s ys ∙ (sum_by-IsPermutation (counts q s) xs ys p ∙ sym (tally_part q s xs))

contained : (x : Entry) (es : List Entry) → IsAmong x es → Contains es x
contained x [] i = absurd i
contained x (e ∷ es) (inl p) = (0, omega arith, sym p)
contained x (e ∷ es) (inr i) = let k = contained x es i in (suc (k.0), omega (arith, k.1), k.2)

among : (x : Entry) (es : List Entry) (k : ℕ) → k < length es → slice_index_or es k x ≡ x → IsAmong x es
among x [] k l is = absurd (omega (arith, l))
among x (e ∷ es) zero l is = inl (sym is)
among x (e ∷ es) (suc k) l is = inr (among x es k (omega (arith, l)) is)

passes : (q : Entry → Bool) (x : Entry) (es : List Entry) → IsAmong x (filter q es) → q x ≡ true
passes q x [] i = absurd i
passes q x (e ∷ es) i = go (passes q x es) (q e) refl where
  go : (IsAmong x (filter q es) → q x ≡ true) → (b : Bool) → q e ≡ b → q x ≡ true
  go later true t = by (subst (IsAmong x) (filter_yes q e es t) i) where
    by : ((x ≡ e) ⊎ IsAmong x (filter q es)) → q x ≡ true
    by (inl p) = ap q p ∙ t
    by (inr j) = later j
  go later false t = later (subst (IsAmong x) (filter_no q e es t) i)

kept : (q : Entry → Bool) (x : Entry) (es : List Entry) → q x ≡ true → IsAmong x es → IsAmong x (filter q es)
kept q x [] t i = i
kept q x (e ∷ es) t (inl p) = subst (IsAmong x) (sym (filter_yes q e es (ap q (sym p) ∙ t))) (inl p)
kept q x (e ∷ es) t (inr i) = go (kept q x es t i) (q e) refl where
  go : IsAmong x (filter q es) → (b : Bool) → q e ≡ b → IsAmong x (filter q (e ∷ es))
  go j true f = subst (IsAmong x) (sym (filter_yes q e es f)) (inr j)
  go j false f = subst (IsAmong x) (sym (filter_no q e es f)) j

part_inside : (q : Entry → Bool) (xs ys : List Entry) → IsPermutation xs ys → (x : Entry) → IsAmong x (filter q ys) → IsAmong x (filter q xs)
part_inside q xs ys p x i =
    let there = Contains-permutation ys xs x (IsPermutation-sym xs ys p) (contained x ys (among_part q x ys i)) in
    kept q x xs (passes q x ys i) (among x xs there.0 there.1 there.2)

-- THE MERGED LIST

agents_of : (es : List Entry) → map (λ (k : Stamp × Handle). k.1) (map key es) ≡ journal es
agents_of [] = refl
agents_of (e ∷ es) = ap (λ l. e.agent ∷ l) (agents_of es)

-- it is the list of agents of all entries, in order
pub record IsOrdered (records : Records) (merged : List Handle) : Type 0 where
  pub entries : List Entry
  pub all : IsAll records entries
  pub agents : merged ≡ journal entries

pub merged_is_ordered : (records : Records) (trails : List Trail) (merged : List Handle) → AreRising records → HaveAll records trails → IsMerged trails merged → IsOrdered records merged
merged_is_ordered records trails merged rising have m = go (lifted key (entries_of trails) m.keys m.all) where
  go : IsLifted key (entries_of trails) m.keys → IsOrdered records merged
  go l = record {
    entries = l.moved;
    all = record { parts = part; climbs = climbs };
    agents = m.agents ∙ (ap (map (λ (k : Stamp × Handle). k.1)) (sym l.keyed) ∙ agents_of l.moved);
  } where
    climbs : Climbs 0 l.moved
    climbs = climbs_of l.moved (subst (IsSorted by_stamp) (sym l.keyed) m.ordered)

    part : (h : Handle) → filter (is_by h) l.moved ≡ records.of_agent h
    part h = same_list 0 (filter (is_by h) l.moved) (records.of_agent h) (climbs_part (is_by h) 0 0 l.moved (omega arith) climbs) (rising.agents h)
        (λ s. part_tallies (is_by h) (entries_of trails) l.moved l.all s ∙ ap (tally s) (have h))
        (λ x i. subst (IsAmong x) (have h) (part_inside (is_by h) (entries_of trails) l.moved l.all x i))
