-- Records that get one entry.
use Rattle.std.proofs.Common.{◌≡◌, ◌≢◌, ◌⊎◌, inl, inr, zero, suc, ℕ, eqb, eq-eqb, ne_eqb, List, [], ◌∷◌, ◌++◌, Bool, true, false, true≢false, cond, Option, Some, None, is_some, refl, sym, ap, ◌∙◌}
use Rattle.std.specs.Ordering.{nat_cmp}
use Rattle.std.specs.BTreeMap.{get}
use mathlib.Core.Option.{some, some-ne-none, some-injective}
use mathlib.Core.Logic.{dite}
use lib.ListN.{get_elem?}
use native.Mathlib.Decide.{ℕ_discrete}
use Rattle.atomic_table.specs.Seated.{TableId}
use Rattle.message.specs.declared.record.Entry.{Entry}
use Rattle.tie.specs.Rules.{Has, IsPair, Mastered, Piece}
use Rattle.tied_record.specs.Halves.{Halves, Holds, IsHere, IsSame, IsSet}
use Rattle.tied_record.specs.Tied.{IsMaster, Tied, Trail, at, half_for, mate, meets, other}

-- ---- the entries with an end, after one entry more
at_here : (s : Bool) (k : ℕ) (es : List Entry) (e : Entry) → other s e ≡ k → at s k (es ++ e ∷ []) ≡ at s k es ++ e ∷ []
at_here s k [] e is = ap (λ b. cond b (e ∷ []) []) (eq-eqb (other s e) k is)
at_here s k (x ∷ xs) e is =
    elim (eqb (other s x) k) as (λ b. cond b (x ∷ at s k (xs ++ e ∷ [])) (at s k (xs ++ e ∷ [])) ≡ cond b (x ∷ at s k xs) (at s k xs) ++ e ∷ [])
    [ true ↦ ap (λ l. x ∷ l) (at_here s k xs e is) | false ↦ at_here s k xs e is ]

at_else : (s : Bool) (k : ℕ) (es : List Entry) (e : Entry) → other s e ≢ k → at s k (es ++ e ∷ []) ≡ at s k es
at_else s k [] e ne = ap (λ b. cond b (e ∷ []) []) (ne_eqb (other s e) k ne)
at_else s k (x ∷ xs) e ne = ap (λ l. cond (eqb (other s x) k) (x ∷ l) l) (at_else s k xs e ne)

-- ---- the half for some entries
half_more : (T : TableId) (s : Bool) (own k : ℕ) (xs : List Entry) (e : Entry) → half_for T s own k (xs ++ e ∷ []) ≡ Some (Some (mate T s own k (xs ++ e ∷ [])))
half_more T s own k [] e = refl
half_more T s own k (x ∷ xs) e = refl

half_is : (T : TableId) (s : Bool) (own k : ℕ) (xs : List Entry) (h : Piece Entry) → half_for T s own k xs ≡ Some (Some h) → h ≡ mate T s own k xs
half_is T s own k [] h e = cc
half_is T s own k (x ∷ xs) h e = cc

half_meets : (T : TableId) (s : Bool) (own k : ℕ) (xs : List Entry) → is_some (half_for T s own k xs) ≡ meets xs
half_meets T s own k [] = refl
half_meets T s own k (x ∷ xs) = refl

half_there : (T : TableId) (s : Bool) (own k : ℕ) (xs : List Entry) → meets xs ≡ true → (h : Piece Entry) × (half_for T s own k xs ≡ Some (Some h))
half_there T s own k [] e = absurd (true≢false (sym e))
half_there T s own k (x ∷ xs) e = (mate T s own k (x ∷ xs), refl)

half_absent : (T : TableId) (s : Bool) (own k : ℕ) (xs : List Entry) → meets xs ≡ false → half_for T s own k xs ≡ None
half_absent T s own k [] e = refl
half_absent T s own k (x ∷ xs) e = absurd (true≢false e)

pub nothing : (xs : List Entry) → meets xs ≡ false → xs ≡ []
nothing [] e = refl
nothing (x ∷ xs) e = absurd (true≢false e)

-- ---- a record and its halves
pub known_half : (T : TableId) (s : Bool) (own : ℕ) (es : List Entry) (m : Halves) (k : ℕ) (h : Piece Entry) → Tied T s own es m → Holds m k h → h ≡ mate T s own k (at s k es)
known_half T s own es m k h tied holds = half_is T s own k (at s k es) h (sym (tied.each k) ∙ holds)

pub is_met : (T : TableId) (s : Bool) (own : ℕ) (es : List Entry) (m : Halves) (k : ℕ) → Tied T s own es m → is_some (get nat_cmp m k) ≡ meets (at s k es)
is_met T s own es m k tied = ap is_some (tied.each k) ∙ half_meets T s own k (at s k es)

pub is_here : (T : TableId) (s : Bool) (own : ℕ) (es : List Entry) (m : Halves) (k : ℕ) → Tied T s own es m → meets (at s k es) ≡ true → IsHere m k
is_here T s own es m k tied e = let h = half_there T s own k (at s k es) e in (h.0, tied.each k ∙ h.1)

pub is_absent : (T : TableId) (s : Bool) (own : ℕ) (es : List Entry) (m : Halves) (k : ℕ) → Tied T s own es m → meets (at s k es) ≡ false → get nat_cmp m k ≡ None
is_absent T s own es m k tied e = tied.each k ∙ half_absent T s own k (at s k es) e

pub tied_same : (T : TableId) (s : Bool) (own : ℕ) (es : List Entry) (m n : Halves) → Tied T s own es m → IsSame m n → Tied T s own es n
tied_same T s own es m n tied same = record { each = λ k. same.each k ∙ tied.each k }

-- a place is changed twice
set_twice : (m n o : Halves) (k : ℕ) (a b : Option (Option (Piece Entry))) → IsSet m n k a → IsSet n o k b → IsSet m o k b
set_twice m n o k a b one two = record { each = λ j. two.each j ∙ by (eqb k j) (get nat_cmp n j) (get nat_cmp m j) (one.each j) }
  where
    by : (c : Bool) (x y : Option (Option (Piece Entry))) → x ≡ cond c a y → cond c b x ≡ cond c b y
    by true x y e = refl
    by false x y e = e

set_at : (m n : Halves) (k j : ℕ) (o : Option (Option (Piece Entry))) → IsSet m n k o → k ≡ j → get nat_cmp n j ≡ o
set_at m n k j o set e = set.each j ∙ ap (λ c. cond c o (get nat_cmp m j)) (eq-eqb k j e)

set_off : (m n : Halves) (k j : ℕ) (o : Option (Option (Piece Entry))) → IsSet m n k o → k ≢ j → get nat_cmp n j ≡ get nat_cmp m j
set_off m n k j o set ne = set.each j ∙ ap (λ c. cond c o (get nat_cmp m j)) (ne_eqb k j ne)

-- the record has one entry more, and the half for its other end knows it
pub tied_more : (T : TableId) (s : Bool) (own : ℕ) (es : List Entry) (m n o : Halves) (k : ℕ) (a : Option (Option (Piece Entry))) (e : Entry) (h : Piece Entry)
    → Tied T s own es m → other s e ≡ k → IsSet m n k a → IsSet n o k (Some (Some h)) → h ≡ mate T s own k (at s k es ++ e ∷ []) → Tied T s own (es ++ e ∷ []) o
tied_more T s own es m n o k a e h tied is one two mates = record {
  each = λ j. dite (ℕ_discrete k j)
      (λ same. set_at n o k j (Some (Some h)) two same ∙ ap (λ x. Some (Some x)) (mates ∙ ap (λ i. mate T s own i (at s i es ++ e ∷ [])) same)
      ∙ sym (half_more T s own j (at s j es) e) ∙ ap (half_for T s own j) (sym (at_here s j es e (is ∙ same))))
      (λ apart. set_off m o k j (Some (Some h)) (set_twice m n o k a (Some (Some h)) one two) apart ∙ tied.each j
      ∙ ap (half_for T s own j) (sym (at_else s j es e (λ q. apart (sym is ∙ q)))));
}

-- a half was taken out and put back
pub tied_again : (T : TableId) (s : Bool) (own : ℕ) (es : List Entry) (m n o : Halves) (k : ℕ) (a : Option (Option (Piece Entry))) (h g : Piece Entry)
    → Tied T s own es m → Holds m k h → IsSet m n k a → IsSet n o k (Some (Some g)) → g ≡ h → Tied T s own es o
tied_again T s own es m n o k a h g tied holds one two same = record {
  each = λ j. dite (ℕ_discrete k j)
      (λ e. set_at n o k j (Some (Some g)) two e ∙ ap (λ x. Some (Some x)) same ∙ sym holds ∙ ap (get nat_cmp m) e ∙ tied.each j)
      (λ apart. set_off m o k j (Some (Some g)) (set_twice m n o k a (Some (Some g)) one two) apart ∙ tied.each j);
}

-- ---- the two halves of a pair
pub pair_of : (T : TableId) (a p : ℕ) (xs ys : List Entry) (h g : Piece Entry) → h ≡ mate T false a p xs → g ≡ mate T true p a ys → IsPair h g
pair_of T a p xs ys h g eh eg = (
  ap (λ (x : Piece Entry). x.table) eh ∙ sym (ap (λ (x : Piece Entry). x.table) eg),
  ap (λ (x : Piece Entry). x.agent) eh ∙ sym (ap (λ (x : Piece Entry). x.agent) eg),
  ap (λ (x : Piece Entry). x.place) eh ∙ sym (ap (λ (x : Piece Entry). x.place) eg),
  ap (λ (x : Piece Entry). x.side) eh,
  ap (λ (x : Piece Entry). x.side) eg,
)

-- a half that knows one entry more
pub mine_more : (T : TableId) (a p : ℕ) (xs : List Entry) (e : Entry) (h : Piece Entry) → h ≡ mate T false a p xs
    → let g : Piece Entry = record h { entries = h.entries ++ e ∷ [] } in g ≡ mate T false a p (xs ++ e ∷ [])
mine_more T a p xs e h is = ap (λ (x : Piece Entry). record x { entries = x.entries ++ e ∷ [] }) is

pub yours_more : (T : TableId) (a p : ℕ) (ys : List Entry) (e : Entry) (h : Piece Entry) → h ≡ mate T true p a ys
    → let g : Piece Entry = record h { entries = h.entries ++ e ∷ [] } in g ≡ mate T true p a (ys ++ e ∷ [])
yours_more T a p ys e h is = ap (λ (x : Piece Entry). record x { entries = x.entries ++ e ∷ [] }) is

-- ---- what was met
pub met_of : (s b : Bool) (own : ℕ) (es : List Entry) (t u : Trail) → own ≡ t.own → es ≡ u.entries → meets (at s t.own u.entries) ≡ b → meets (at s own es) ≡ b
met_of s b own es t u e f h = ap (λ n. meets (at s n es)) e ∙ ap (λ l. meets (at s t.own l)) f ∙ h

-- ---- the master
last_or_before : (xs : List ℕ) (y x k : ℕ) → get_elem? (xs ++ y ∷ []) k ≡ some x → Has xs x ⊎ (y ≡ x)
last_or_before [] y x zero e = inr (some-injective y x e)
last_or_before [] y x (suc k) e = absurd (some-ne-none x (sym e))
last_or_before (z ∷ zs) y x zero e = inl (zero, e)
last_or_before (z ∷ zs) y x (suc k) e = elim (last_or_before zs y x k e) [ inl h ↦ inl (suc h.0, h.1) | inr h ↦ inr h ]

snoc_apart : (l : List Entry) (e : Entry) → l ++ e ∷ [] ≢ []
snoc_apart [] e h = cc
snoc_apart (x ∷ xs) e h = cc

at_grows : (s : Bool) (k : ℕ) (es : List Entry) (e : Entry) → at s k es ≢ [] → at s k (es ++ e ∷ []) ≢ []
at_grows s k es e some_at h = dite (ℕ_discrete (other s e) k)
    (λ is. snoc_apart (at s k es) e (sym (at_here s k es e is) ∙ h))
    (λ ne. some_at (sym (at_else s k es e ne) ∙ h))

-- the agent met a place that it had met before
pub master_kept : (T : TableId) (t u : Trail) (m n : Mastered) (e : Entry) → IsMaster T t m → u ≡ record { own = t.own; entries = t.entries ++ e ∷ [] } → n ≡ m → IsMaster T u n
master_kept T t u m n e is grown same = rw (grown, same) (record {
  table = is.table;
  agent = is.agent;
  places = λ key has. at_grows false key t.entries e (is.places key has);
})

-- the agent met a new place
pub master_more : (T : TableId) (t u : Trail) (m n : Mastered) (place : ℕ) (e : Entry) → IsMaster T t m → other false e ≡ place
    → u ≡ record { own = t.own; entries = t.entries ++ e ∷ [] } → n ≡ record { table = m.table; agent = m.agent; places = m.places ++ place ∷ [] } → IsMaster T u n
master_more T t u m n place e is here grown listed = rw (grown, listed) (record {
  table = is.table;
  agent = is.agent;
  places = λ key has. elim (last_or_before m.places place key has.0 has.1) [
    | inl before ↦ at_grows false key t.entries e (is.places key before)
    | inr last ↦ λ h. snoc_apart (at false key t.entries) e (sym (at_here false key t.entries e (here ∙ last)) ∙ h)
  ];
})

-- ---- a new pair's halves with one entry
pub new_mine : (T : TableId) (m : Mastered) (t : Trail) (own place : ℕ) (e : Entry) (xs : List Entry) (p q : Piece Entry) → IsMaster T t m → own ≡ t.own → xs ≡ []
    → p ≡ record { table = m.table; agent = m.agent; place = place; side = false; entries = [] } → q ≡ record p { entries = p.entries ++ e ∷ [] } → q ≡ mate T false own place (xs ++ e ∷ [])
new_mine T m t own place e xs p q is o n ep eq =
    eq ∙ ap (λ (x : Piece Entry). record x { entries = x.entries ++ e ∷ [] }) ep
    ∙ (λ i. record { table = is.table i; agent = (is.agent ∙ sym o) i; place = place; side = false; entries = (ap (λ (l : List Entry). l ++ e ∷ []) (sym n)) i })

pub new_yours : (T : TableId) (m : Mastered) (t : Trail) (agent own : ℕ) (e : Entry) (xs : List Entry) (p q : Piece Entry) → IsMaster T t m → agent ≡ t.own → xs ≡ []
    → p ≡ record { table = m.table; agent = m.agent; place = own; side = true; entries = [] } → q ≡ record p { entries = p.entries ++ e ∷ [] } → q ≡ mate T true own agent (xs ++ e ∷ [])
new_yours T m t agent own e xs p q is o n ep eq =
    eq ∙ ap (λ (x : Piece Entry). record x { entries = x.entries ++ e ∷ [] }) ep
    ∙ (λ i. record { table = is.table i; agent = (is.agent ∙ sym o) i; place = own; side = true; entries = (ap (λ (l : List Entry). l ++ e ∷ []) (sym n)) i })
