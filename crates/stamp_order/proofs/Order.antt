-- A list that goes by stamps is told by its parts.
use Rattle.std.proofs.Common.{◌⊎◌, inl, inr, ◌≡◌, ℕ, Bool, true, false, List, [], ◌∷◌, refl, ap, sym, ◌∙◌, subst, arith}
use Rattle.std.specs.List.{filter}
use Rattle.message.specs.Records.{Rises}
use Rattle.sk_types.specs.declared.number.Handle.{Handle}
use Rattle.message.specs.declared.record.Entry.{Entry}
use Rattle.message.specs.declared.place.Place.{Place}
use Rattle.stamp_order.specs.Records.{Records, is_by, is_at, IsAmong, IsRising, Climbs, Agree, AreRising, IsAll}
use Rattle.stamp_order.proofs.Lists.{num_same, filter_yes, filter_no, filter_swap, among_part, among_head, climbs_among, climbs_part, rises_among}

abbrev pub SameParts : List Entry → List Entry → Type 0
SameParts xs ys = (h : Handle) → filter (is_by h) xs ≡ filter (is_by h) ys

heads : (x y : Entry) (xs ys : List Entry) → Climbs x.stamp.0 xs → Rises y.stamp.0 ys → SameParts (x ∷ xs) (y ∷ ys) → x ≡ y
heads x y xs ys c r same = go in_ys in_xs where
  in_ys : IsAmong x (y ∷ ys)
  in_ys = among_part (is_by x.agent) x (y ∷ ys) (subst (IsAmong x) (same x.agent) (among_head (is_by x.agent) x xs (num_same x.agent.0)))

  in_xs : IsAmong y (x ∷ xs)
  in_xs = among_part (is_by y.agent) y (x ∷ xs) (subst (IsAmong y) (sym (same y.agent)) (among_head (is_by y.agent) y ys (num_same y.agent.0)))

  go : ((x ≡ y) ⊎ IsAmong x ys) → ((y ≡ x) ⊎ IsAmong y xs) → x ≡ y
  go (inl p) k = p
  go (inr i) (inl p) = sym p
  go (inr i) (inr j) = absurd (omega (arith, rises_among y.stamp.0 ys x r i, climbs_among x.stamp.0 xs y c j))

tails : (x : Entry) (xs ys : List Entry) → SameParts (x ∷ xs) (x ∷ ys) → SameParts xs ys
tails x xs ys same h = go (is_by h x) refl where
  go : (b : Bool) → is_by h x ≡ b → filter (is_by h) xs ≡ filter (is_by h) ys
  go true t = let e : x ∷ filter (is_by h) xs ≡ x ∷ filter (is_by h) ys = sym (filter_yes (is_by h) x xs t) ∙ (same h ∙ filter_yes (is_by h) x ys t) in cc
  go false t = sym (filter_no (is_by h) x xs t) ∙ (same h ∙ filter_no (is_by h) x ys t)

rising : (e : Entry) (es : List Entry) → Rises e.stamp.0 es → IsRising es
rising e [] r = tt
rising e (d ∷ es) r = r.1

-- one whose stamps do not fall and one whose stamps rise, with the same entries of each agent, are one list
pub one_order : (n : ℕ) (xs ys : List Entry) → Climbs n xs → IsRising ys → SameParts xs ys → xs ≡ ys
one_order n [] [] c r same = refl
one_order n [] (y ∷ ys) c r same = absurd (subst (IsAmong y) (sym (same y.agent)) (among_head (is_by y.agent) y ys (num_same y.agent.0)))
one_order n (x ∷ xs) [] c r same = absurd (subst (IsAmong x) (same x.agent) (among_head (is_by x.agent) x xs (num_same x.agent.0)))
one_order n (x ∷ xs) (y ∷ ys) c r same =
    let one = heads x y xs ys c.1 r same in
    let same2 : SameParts (x ∷ xs) (x ∷ ys) = subst (λ z. SameParts (x ∷ xs) (z ∷ ys)) (sym one) same in
    ap (λ l. x ∷ l) (one_order x.stamp.0 xs ys c.1 (rising y ys r) (tails x xs ys same2)) ∙ ap (λ z. z ∷ ys) one

-- the records of a list are its parts
abbrev pub parts : List Entry → Records
parts es = record { of_agent = λ h. filter (is_by h) es; of_place = λ p. filter (is_at p) es }

-- each place's part is its record too
place_parts : (records : Records) (es : List Entry) → Agree records → AreRising records → IsAll records es → (p : Place) → filter (is_at p) es ≡ records.of_place p
place_parts records es agree rising all p =
    one_order 0 (filter (is_at p) es) (records.of_place p) (climbs_part (is_at p) 0 0 es (omega arith) all.climbs) (rising.places p)
    (λ h. filter_swap (is_by h) (is_at p) es ∙ (ap (filter (is_at p)) (all.parts h) ∙ agree h p))

-- the records of all are the parts of the list
pub records_are_parts : (records : Records) (es : List Entry) → Agree records → AreRising records → IsAll records es → parts es ≡ records
records_are_parts records es agree rising all =
    λ i. record { of_agent = λ h. all.parts h i; of_place = λ p. place_parts records es agree rising all p i }
