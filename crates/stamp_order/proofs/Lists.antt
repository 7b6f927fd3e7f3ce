-- Lists of entries, their parts, and lists whose places count from 1.
use Rattle.std.proofs.Common.{◌⊎◌, inl, inr, ◌≡◌, ◌≢◌, ℕ, zero, suc, ◌<◌, ◌≤◌, ◌+◌, ◌-◌, ◌==◌, Bool, true, false, List, [], ◌∷◌, ◌++◌, length, Some, None, slice_get, slice_set, if◌then◌else◌, refl, ap, sym, ◌∙◌, subst, arith}
use Rattle.std.specs.List.{filter}
use Rattle.std.proofs.lemmas.Bool.Decides.{nat_tests}
use Rattle.message.specs.Registries.{at, set_at}
use Rattle.message.specs.Records.{Rises}
use Rattle.sk_types.specs.declared.number.Handle.{Handle}
use Rattle.message.specs.declared.record.Entry.{Entry}
use Rattle.message.specs.declared.place.Place.{Place}
use Rattle.message.specs.declared.place.Place.TheVariants.{Registry as TheRegistry, Inbox as TheInbox, Clock as TheClock}
use Rattle.stamp_order.specs.Records.{same_place, IsAmong, Climbs}

-- NUMBERS, HANDLES, PLACES

pub num_same : (n : ℕ) → (n == n) ≡ true
num_same n = grind (arith, nat_tests)

pub num_is : (g h : ℕ) → (g == h) ≡ true → g ≡ h
num_is g h e = grind (arith, nat_tests)

pub num_apart : (g h : ℕ) → g ≢ h → (g == h) ≡ false
num_apart g h e = grind (arith, nat_tests)

pub num_differ : (g h : ℕ) → (g == h) ≡ false → g ≢ h
num_differ g h e same = grind (arith, nat_tests)

pub num_turn : (g h : ℕ) → (g == h) ≡ false → (h == g) ≡ false
num_turn g h e = grind (arith, nat_tests)

pub handle_is : (g h : Handle) → g.0 ≡ h.0 → g ≡ h
handle_is g h e = let F : ℕ → Handle = λ k. record { 0 = k } in ap F e

pub place_same : (p : Place) → same_place p p ≡ true
place_same TheRegistry = refl
place_same (TheInbox h) = num_same h.0
place_same TheClock = refl

pub place_is : (p q : Place) → same_place p q ≡ true → p ≡ q
place_is TheRegistry TheRegistry e = refl
place_is TheRegistry (TheInbox h) e = absurd (cc)
place_is TheRegistry TheClock e = absurd (cc)
place_is (TheInbox g) TheRegistry e = absurd (cc)
place_is (TheInbox g) (TheInbox h) e = ap TheInbox (handle_is g h (num_is g.0 h.0 e))
place_is (TheInbox g) TheClock e = absurd (cc)
place_is TheClock TheRegistry e = absurd (cc)
place_is TheClock (TheInbox h) e = absurd (cc)
place_is TheClock TheClock e = refl

pub place_turn : (p q : Place) → same_place p q ≡ false → same_place q p ≡ false
place_turn TheRegistry TheRegistry e = e
place_turn TheRegistry (TheInbox h) e = refl
place_turn TheRegistry TheClock e = refl
place_turn (TheInbox g) TheRegistry e = refl
place_turn (TheInbox g) (TheInbox h) e = num_turn g.0 h.0 e
place_turn (TheInbox g) TheClock e = refl
place_turn TheClock TheRegistry e = refl
place_turn TheClock (TheInbox h) e = refl
place_turn TheClock TheClock e = e

-- PARTS

pub filter_yes : (q : Entry → Bool) (y : Entry) (es : List Entry) → q y ≡ true → filter q (y ∷ es) ≡ y ∷ filter q es
filter_yes q y es e = rw e refl

pub filter_no : (q : Entry → Bool) (y : Entry) (es : List Entry) → q y ≡ false → filter q (y ∷ es) ≡ filter q es
filter_no q y es e = rw e refl

-- a part of a part, in either order
pub filter_swap : (q r : Entry → Bool) (es : List Entry) → filter q (filter r es) ≡ filter r (filter q es)
filter_swap q r [] = refl
filter_swap q r (e ∷ es) = go (filter_swap q r es) (q e) (r e) refl refl where
  go : filter q (filter r es) ≡ filter r (filter q es) → (b c : Bool) → q e ≡ b → r e ≡ c → filter q (filter r (e ∷ es)) ≡ filter r (filter q (e ∷ es))
  go rec true true x y = ap (filter q) (filter_yes r e es y) ∙ (filter_yes q e (filter r es) x ∙ (ap (λ l. e ∷ l) rec ∙ (sym (filter_yes r e (filter q es) y) ∙ sym (ap (filter r) (filter_yes q e es x)))))
  go rec true false x y = ap (filter q) (filter_no r e es y) ∙ (rec ∙ (sym (filter_no r e (filter q es) y) ∙ sym (ap (filter r) (filter_yes q e es x))))
  go rec false true x y = ap (filter q) (filter_yes r e es y) ∙ (filter_no q e (filter r es) x ∙ (rec ∙ sym (ap (filter r) (filter_no q e es x))))
  go rec false false x y = ap (filter q) (filter_no r e es y) ∙ (rec ∙ sym (ap (filter r) (filter_no q e es x)))

-- who is in a part is in the whole
pub among_part : (q : Entry → Bool) (x : Entry) (es : List Entry) → IsAmong x (filter q es) → IsAmong x es
among_part q x [] i = i
among_part q x (y ∷ ys) i = go (among_part q x ys) (q y) refl where
  go : (IsAmong x (filter q ys) → IsAmong x ys) → (b : Bool) → q y ≡ b → IsAmong x (y ∷ ys)
  go later true t = part (subst (IsAmong x) (filter_yes q y ys t) i) where
    part : ((x ≡ y) ⊎ IsAmong x (filter q ys)) → (x ≡ y) ⊎ IsAmong x ys
    part (inl p) = inl p
    part (inr p) = inr (later p)
  go later false t = inr (later (subst (IsAmong x) (filter_no q y ys t) i))

-- the head of a part, or one of the rest
pub among_split : (q : Entry → Bool) (x y : Entry) (ys : List Entry) → IsAmong x (filter q (y ∷ ys)) → (x ≡ y) ⊎ IsAmong x (filter q ys)
among_split q x y ys i = go (q y) refl where
  go : (b : Bool) → q y ≡ b → (x ≡ y) ⊎ IsAmong x (filter q ys)
  go true t = subst (IsAmong x) (filter_yes q y ys t) i
  go false t = inr (subst (IsAmong x) (filter_no q y ys t) i)

pub among_later : (q : Entry → Bool) (x y : Entry) (ys : List Entry) → IsAmong x (filter q ys) → IsAmong x (filter q (y ∷ ys))
among_later q x y ys i = go (q y) refl where
  go : (b : Bool) → q y ≡ b → IsAmong x (filter q (y ∷ ys))
  go true t = subst (IsAmong x) (sym (filter_yes q y ys t)) (inr i)
  go false t = subst (IsAmong x) (sym (filter_no q y ys t)) i

pub among_head : (q : Entry → Bool) (y : Entry) (ys : List Entry) → q y ≡ true → IsAmong y (filter q (y ∷ ys))
among_head q y ys t = subst (IsAmong y) (sym (filter_yes q y ys t)) (inl refl)

-- a part that is not empty
pub part_grows : (q : Entry → Bool) (y : Entry) (ys : List Entry) → filter q ys ≢ [] → filter q (y ∷ ys) ≢ []
part_grows q y ys some is = go (q y) refl where
  go : (b : Bool) → q y ≡ b → ⊥
  go true t = let k : y ∷ filter q ys ≡ [] = sym (filter_yes q y ys t) ∙ is in absurd (cc)
  go false t = some (sym (filter_no q y ys t) ∙ is)

pub part_some : (q : Entry → Bool) (y : Entry) (ys : List Entry) → q y ≡ true → filter q (y ∷ ys) ≢ []
part_some q y ys t is = let k : y ∷ filter q ys ≡ [] = sym (filter_yes q y ys t) ∙ is in absurd (cc)

-- STAMPS

pub climbs_among : (n : ℕ) (es : List Entry) (x : Entry) → Climbs n es → IsAmong x es → n ≤ x.stamp.0
climbs_among n [] x c i = absurd i
climbs_among n (y ∷ ys) x c (inl p) = omega (arith, c.0, ap (λ (z : Entry). z.stamp.0) p)
climbs_among n (y ∷ ys) x c (inr i) = omega (arith, c.0, climbs_among y.stamp.0 ys x c.1 i)

-- the first of all is not above any
pub climbs_least : (n : ℕ) (e : Entry) (es : List Entry) (x : Entry) → Climbs n (e ∷ es) → IsAmong x (e ∷ es) → e.stamp.0 ≤ x.stamp.0
climbs_least n e es x c (inl p) = omega (arith, ap (λ (z : Entry). z.stamp.0) p)
climbs_least n e es x c (inr i) = climbs_among e.stamp.0 es x c.1 i

pub climbs_part : (q : Entry → Bool) (n m : ℕ) (es : List Entry) → m ≤ n → Climbs n es → Climbs m (filter q es)
climbs_part q n m [] le c = tt
climbs_part q n m (e ∷ es) le c = go (q e) refl (climbs_part q e.stamp.0 e.stamp.0 es (omega arith) c.1) (climbs_part q e.stamp.0 m es (omega (arith, le, c.0)) c.1) where
  go : (b : Bool) → q e ≡ b → Climbs e.stamp.0 (filter q es) → Climbs m (filter q es) → Climbs m (filter q (e ∷ es))
  go true t high low = subst (Climbs m) (sym (filter_yes q e es t)) (omega (arith, le, c.0), high)
  go false t high low = subst (Climbs m) (sym (filter_no q e es t)) low

pub rises_among : (n : ℕ) (es : List Entry) (x : Entry) → Rises n es → IsAmong x es → n < x.stamp.0
rises_among n [] x r i = absurd i
rises_among n (y ∷ ys) x r (inl p) = omega (arith, r.0, ap (λ (z : Entry). z.stamp.0) p)
rises_among n (y ∷ ys) x r (inr i) = omega (arith, r.0, rises_among y.stamp.0 ys x r.1 i)

pub rises_tail : (n : ℕ) (e : Entry) (es : List Entry) → Rises n (e ∷ es) → Rises n es
rises_tail n e [] r = tt
rises_tail n e (d ∷ es) r = (omega (arith, r.0, r.1.0), r.1.1)

pub rises_part : (q : Entry → Bool) (n : ℕ) (e : Entry) (es : List Entry) → Rises n (filter q (e ∷ es)) → Rises n (filter q es)
rises_part q n e es r = go (q e) refl where
  go : (b : Bool) → q e ≡ b → Rises n (filter q es)
  go true t = rises_tail n e (filter q es) (subst (Rises n) (filter_yes q e es t) r)
  go false t = subst (Rises n) (filter_no q e es t) r

-- PLACES THAT COUNT FROM 1

get_other : {X : Type 0} (xs : List X) (i j : ℕ) (x : X) → j ≢ i → slice_get (slice_set xs i x) j ≡ slice_get xs j
get_other [] i j x ne = refl
get_other (z ∷ xs) zero zero x ne = absurd (ne refl)
get_other (z ∷ xs) zero (suc j) x ne = refl
get_other (z ∷ xs) (suc i) zero x ne = refl
get_other (z ∷ xs) (suc i) (suc j) x ne = get_other xs i j x (λ e. ne (ap suc e))

get_here : {X : Type 0} (xs : List X) (i : ℕ) (x y : X) → slice_get xs i ≡ Some y → slice_get (slice_set xs i x) i ≡ Some x
get_here [] i x y e = absurd (cc)
get_here (z ∷ xs) zero x y e = refl
get_here (z ∷ xs) (suc i) x y e = get_here xs i x y e

get_push : {X : Type 0} (xs : List X) (j : ℕ) (x : X) → j ≢ length xs → slice_get (xs ++ x ∷ []) j ≡ slice_get xs j
get_push [] zero x ne = absurd (ne refl)
get_push [] (suc j) x ne = refl
get_push (z ∷ xs) zero x ne = refl
get_push (z ∷ xs) (suc j) x ne = get_push xs j x (λ e. ne (ap suc e))

get_last : {X : Type 0} (xs : List X) (x : X) → slice_get (xs ++ x ∷ []) (length xs) ≡ Some x
get_last [] x = refl
get_last (z ∷ xs) x = get_last xs x

get_within : {X : Type 0} (xs : List X) (i : ℕ) (x : X) → slice_get xs i ≡ Some x → i < length xs
get_within [] i x e = absurd (cc)
get_within (z ∷ xs) zero x e = omega arith
get_within (z ∷ xs) (suc i) x e = let l = get_within xs i x e in omega (arith, l)

at_if : {X : Type 0} (xs : List X) (h : ℕ) (x : X) (b : Bool) → (h == 0) ≡ b → (if b then None else slice_get xs (h - 1)) ≡ Some x → (0 < h) × (slice_get xs (h - 1) ≡ Some x)
at_if xs h x true e p = absurd (cc)
at_if xs h x false e p = (grind (arith, nat_tests), p)

pub at_is : {X : Type 0} (xs : List X) (h : ℕ) (x : X) → at xs h ≡ Some x → (0 < h) × (slice_get xs (h - 1) ≡ Some x)
at_is xs h x e = at_if xs h x (h == 0) refl e

pub at_of : {X : Type 0} (xs : List X) (h : ℕ) → 0 < h → at xs h ≡ slice_get xs (h - 1)
at_of xs h big = let ne : (h == 0) ≡ false = grind (arith, nat_tests) in rw ne refl

pub at_nobody : {X : Type 0} (xs ys : List X) (h : ℕ) → (h == 0) ≡ true → at xs h ≡ at ys h
at_nobody xs ys h e = rw e refl

-- elsewhere nothing changes
pub at_other : {X : Type 0} (xs : List X) (h g : ℕ) (x : X) → 0 < h → (g == h) ≡ false → at (set_at xs h x) g ≡ at xs g
at_other {X = X} xs h g x big ne = go (g == 0) refl where
  go : (b : Bool) → (g == 0) ≡ b → at (set_at xs h x) g ≡ at xs g
  go true t = at_nobody (set_at xs h x) xs g t
  go false t =
      let some : 0 < g = grind (arith, nat_tests) in
      let apart : g - 1 ≢ h - 1 = λ e. num_differ g h ne (omega (arith, e, some, big)) in
      at_of (set_at xs h x) g some ∙ (get_other xs (h - 1) (g - 1) x apart ∙ sym (at_of xs g some))

pub at_here : {X : Type 0} (xs : List X) (h : ℕ) (x y : X) → at xs h ≡ Some y → at (set_at xs h x) h ≡ Some x
at_here xs h x y e = let there = at_is xs h y e in at_of (set_at xs h x) h there.0 ∙ get_here xs (h - 1) x y there.1

pub at_push : {X : Type 0} (xs : List X) (g : ℕ) (x : X) → g ≢ length xs + 1 → at (xs ++ x ∷ []) g ≡ at xs g
at_push {X = X} xs g x ne = go (g == 0) refl where
  go : (b : Bool) → (g == 0) ≡ b → at (xs ++ x ∷ []) g ≡ at xs g
  go true t = at_nobody (xs ++ x ∷ []) xs g t
  go false t =
      let some : 0 < g = grind (arith, nat_tests) in
      at_of (xs ++ x ∷ []) g some ∙ (get_push xs (g - 1) x (λ e. ne (omega (arith, e, some))) ∙ sym (at_of xs g some))

pub at_last : {X : Type 0} (xs : List X) (h : ℕ) (x : X) → h ≡ length xs + 1 → at (xs ++ x ∷ []) h ≡ Some x
at_last xs h x e =
    let big : 0 < h = omega (arith, e) in
    let n : h - 1 ≡ length xs = omega (arith, e) in
    at_of (xs ++ x ∷ []) h big ∙ (ap (slice_get (xs ++ x ∷ [])) n ∙ get_last xs x)

pub at_within : {X : Type 0} (xs : List X) (h : ℕ) (x : X) → at xs h ≡ Some x → h ≤ length xs
at_within xs h x e = let there = at_is xs h x e in let l = get_within xs (h - 1) x there.1 in let big = there.0 in omega (arith, l, big)
