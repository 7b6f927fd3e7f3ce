-- What writes, new locations and assignments leave of the places of locations.
use Rattle.std.proofs.Common.{◌≡◌, ℕ, zero, suc, ◌+◌, ◌<◌, ◌≤◌, ◌⊎◌, inl, inr, List, [], ◌∷◌, ◌++◌, length, Option, Some, None, refl, sym, ap, ◌∙◌, subst, arith, length-append}
use Rattle.std.specs.Prelude.{Bool, true, false, slice_get, slice_set, if◌then◌else◌}
use Rattle.std.proofs.lemmas.Bool.{cases_eq, eq-eqb, ne_eqb, cases_lt, lt-ltb, le-ltb}
use Rattle.lua_tree.specs.Source.{Text}
use Rattle.lua_model.specs.Texts.{same_bytes}
use Rattle.lua_value.specs.declared.value.Value.{Value}
use Rattle.lua_value.specs.Lists.{value_at}
use Rattle.lua_meaning.specs.State as meaning
use Rattle.lua_meaning.specs.State.{Named}
use Rattle.lua_meaning.specs.Moves.{location_of}
use Rattle.lua_steps.specs.declared.scope.Place.{Place}
use Rattle.lua_steps.specs.declared.scope.Place.TheVariants.{InSlot, InCell, InUp, Hidden}
use Rattle.lua_steps.specs.declared.scope.Known.{Known}
use Rattle.lua_steps.specs.Machine.{Code, Closure}
use Rattle.lua_steps.specs.Scope.{place_of}
use Rattle.lua_follow.specs.Spot.{Home, AtSlot, AtCell}
use Rattle.lua_follow.specs.Memory.{Homes, Owners, owned_by, owned_below, Rows, Cells, View, Has, HasAll, Up, Ups, Closes, ClosesAll}
use Rattle.lua_follow.proofs.Lists.{get_before, within, value_set, value_other, value_before, value_at_end, length_set}

some_same : {A : Type 0} (x y : A) → Some x ≡ Some y → x ≡ y
some_same x y e = cc

slot_same : (p q : ℕ) → AtSlot p ≡ AtSlot q → p ≡ q
slot_same p q e = ap (λ h. place h) e
  where
    place : Home → ℕ
    place (AtSlot p) = p
    place (AtCell c) = 0

slot_cell : (p c : ℕ) → AtSlot p ≡ AtCell c → ⊥
slot_cell p c e = subst IsSlot e tt
  where
    IsSlot : Home → Type 0
    IsSlot (AtSlot p) = Unit {0}
    IsSlot (AtCell c) = ⊥

-- ---- owners
pub owner_here : (p : ℕ) (o : Option ℕ) (owners : Owners) → owned_by p o owners p ≡ o
owner_here p o owners = ap (λ b. if b then o else owners p) (eq-eqb p p refl)

pub owner_there : (p q : ℕ) (o : Option ℕ) (owners : Owners) → (q ≡ p → ⊥) → owned_by p o owners q ≡ owners q
owner_there p q o owners ne = ap (λ b. if b then o else owners q) (ne_eqb q p ne)

pub owner_below : (n q : ℕ) (owners : Owners) → q < n → owned_below n owners q ≡ owners q
owner_below n q owners lt = ap (λ b. if b then owners q else None) (lt-ltb q n lt)

pub owner_above : (n q : ℕ) (owners : Owners) → n ≤ q → owned_below n owners q ≡ None
owner_above n q owners le = ap (λ b. if b then owners q else None) (le-ltb q n le)

-- ---- the row
-- the row changes past the end
pub rows_row : (homes : Homes) (owners : Owners) (row line store : List Value) (end but : ℕ) → ((p : ℕ) → p < end → value_at line p ≡ value_at row p) → Rows homes owners row store end but
    → Rows homes owners line store end but
rows_row homes owners row line store end but same h = record { home = h.home; same = λ p l lt ne o. same p lt ∙ h.same p l lt ne o }

-- or in one place, which is the exception then
pub rows_write : (homes : Homes) (owners : Owners) (row store : List Value) (end but p : ℕ) (v : Value) → end ≤ but → Rows homes owners row store end but → Rows homes owners (slice_set row p v) store end p
rows_write homes owners row store end but p v le h =
    record { home = h.home; same = λ q l lt ne o. value_other row p q v (λ e. ne (sym e)) ∙ h.same q l lt (λ e. omega (arith, e)) o }

pub rows_but : (homes : Homes) (owners : Owners) (row store : List Value) (end but other : ℕ) → end ≤ but → Rows homes owners row store end but → Rows homes owners row store end other
rows_but homes owners row store end but other le h = record { home = h.home; same = λ q l lt ne o. h.same q l lt (λ e. omega (arith, e)) o }

pub rows_lower : (homes : Homes) (owners : Owners) (row store : List Value) (end low but : ℕ) → low ≤ end → Rows homes owners row store end but → Rows homes owners row store low but
rows_lower homes owners row store end low but le h = record { home = λ p l lt o. h.home p l (omega arith) o; same = λ p l lt ne o. h.same p l (omega arith) ne o }

-- nothing is owned from the old end on
pub rows_higher : (homes : Homes) (owners : Owners) (row store : List Value) (end high but : ℕ) → Rows homes owners row store end but → Rows homes (owned_below end owners) row store high but
rows_higher homes owners row store end high but h =
    record {
      home = λ p l lt o. below_home p l (cases_lt p end) o;
      same = λ p l lt ne o. below_same p l ne (cases_lt p end) o;
    }
  where
    below_home : (p l : ℕ) → (p < end) ⊎ (end ≤ p) → owned_below end owners p ≡ Some l → slice_get homes l ≡ Some (AtSlot p)
    below_home p l (inl lt) o = h.home p l lt (sym (owner_below end p owners lt) ∙ o)
    below_home p l (inr le) o = let none = owner_above end p owners le in absurd (cc)

    below_same : (p l : ℕ) → (p ≡ but → ⊥) → (p < end) ⊎ (end ≤ p) → owned_below end owners p ≡ Some l → value_at row p ≡ value_at store l
    below_same p l ne (inl lt) o = h.same p l lt ne (sym (owner_below end p owners lt) ∙ o)
    below_same p l ne (inr le) o = let none = owner_above end p owners le in absurd (cc)

-- a new location
pub rows_new : (homes : Homes) (owners : Owners) (row store : List Value) (end but : ℕ) (home : Home) (v : Value) → length homes ≡ length store → Rows homes owners row store end but
    → Rows (homes ++ home ∷ []) owners row (store ++ v ∷ []) end but
rows_new homes owners row store end but home v homed h =
    record {
      home = λ p l lt o. get_before homes (home ∷ []) l (AtSlot p) (h.home p l lt o);
      same = λ p l lt ne o. (let in_homes = within homes l (AtSlot p) (h.home p l lt o) in h.same p l lt ne o ∙ sym (value_before store (v ∷ []) l (omega (arith, homed))));
    }

-- a place gets an owner, whose value it has
pub rows_owner : (homes : Homes) (owners : Owners) (row store : List Value) (end more but p l : ℕ) → slice_get homes l ≡ Some (AtSlot p) → value_at row p ≡ value_at store l
    → ((q : ℕ) → q < more → (q ≡ p → ⊥) → q < end) → Rows homes owners row store end but → Rows homes (owned_by p (Some l) owners) row store more but
rows_owner homes owners row store end more but p l home same reach h =
    record {
      home = λ q k lt o. home_in q k lt (cases_eq q p) o;
      same = λ q k lt ne o. same_in q k lt ne (cases_eq q p) o;
    }
  where
    home_in : (q k : ℕ) → q < more → (q ≡ p) ⊎ (q ≡ p → ⊥) → owned_by p (Some l) owners q ≡ Some k → slice_get homes k ≡ Some (AtSlot q)
    home_in q k lt (inl e) o =
        let at_p : owned_by p (Some l) owners q ≡ Some l = ap (owned_by p (Some l) owners) e ∙ owner_here p (Some l) owners in
        let is : l ≡ k = some_same l k (sym at_p ∙ o) in
        ap (λ i. slice_get homes i) (sym is) ∙ home ∙ ap (λ i. Some (AtSlot i)) (sym e)
    home_in q k lt (inr ne) o = h.home q k (reach q lt ne) (sym (owner_there p q (Some l) owners ne) ∙ o)

    same_in : (q k : ℕ) → q < more → (q ≡ but → ⊥) → (q ≡ p) ⊎ (q ≡ p → ⊥) → owned_by p (Some l) owners q ≡ Some k → value_at row q ≡ value_at store k
    same_in q k lt no_but (inl e) o =
        let at_p : owned_by p (Some l) owners q ≡ Some l = ap (owned_by p (Some l) owners) e ∙ owner_here p (Some l) owners in
        let is : l ≡ k = some_same l k (sym at_p ∙ o) in
        ap (λ i. value_at row i) e ∙ same ∙ ap (λ i. value_at store i) is
    same_in q k lt no_but (inr ne) o = h.same q k (reach q lt ne) no_but (sym (owner_there p q (Some l) owners ne) ∙ o)

-- the location of a place is assigned, and the place has its value
pub rows_store : (homes : Homes) (owners : Owners) (row line store : List Value) (end but p l other : ℕ) (v : Value) → length homes ≡ length store → p < end → owners p ≡ Some l
    → ((q : ℕ) → (q ≡ p → ⊥) → (q ≡ but → ⊥) × (value_at line q ≡ value_at row q)) → value_at line p ≡ v → Rows homes owners row store end but → Rows homes owners line (slice_set store l v) end other
rows_store homes owners row line store end but p l other v homed lt owner rest is h =
    let home : slice_get homes l ≡ Some (AtSlot p) = h.home p l lt owner in
    let inside = within homes l (AtSlot p) home in
    record {
      home = h.home;
      same = λ q k less ne o. same_in q k less (cases_eq q p) o home (omega (arith, homed));
    }
  where
    same_in : (q k : ℕ) → q < end → (q ≡ p) ⊎ (q ≡ p → ⊥) → owners q ≡ Some k → slice_get homes l ≡ Some (AtSlot p) → l < length store → value_at line q ≡ value_at (slice_set store l v) k
    same_in q k less (inl e) o home inside =
        let is_l : l ≡ k = some_same l k (sym owner ∙ ap owners (sym e) ∙ o) in
        ap (λ i. value_at line i) e ∙ is ∙ sym (value_set store l v inside) ∙ ap (λ i. value_at (slice_set store l v) i) is_l
    same_in q k less (inr ne) o home inside =
        (rest q ne).1 ∙ h.same q k less (rest q ne).0 o
        ∙ sym (value_other store l k v (λ e. ne (slot_same q p (some_same (AtSlot q) (AtSlot p) (sym (h.home q k less o) ∙ ap (λ i. slice_get homes i) (sym e) ∙ home)))))

-- a location in a cell is assigned
pub rows_cell : (homes : Homes) (owners : Owners) (row store : List Value) (end but l c : ℕ) (v : Value) → slice_get homes l ≡ Some (AtCell c) → Rows homes owners row store end but
    → Rows homes owners row (slice_set store l v) end but
rows_cell homes owners row store end but l c v home h =
    record {
      home = h.home;
      same = λ q k lt ne o. h.same q k lt ne o
          ∙ sym (value_other store l k v (λ e. slot_cell q c (some_same (AtSlot q) (AtCell c) (sym (h.home q k lt o) ∙ ap (λ i. slice_get homes i) (sym e) ∙ home))));
    }

-- ---- cells
length_more : {A : Type 0} (xs : List A) (x : A) → length (xs ++ x ∷ []) ≡ length xs + 1
length_more xs x = length-append xs (x ∷ [])

get_last : {A : Type 0} (xs : List A) (x y : A) (i : ℕ) → slice_get (xs ++ x ∷ []) i ≡ Some y → (slice_get xs i ≡ Some y) ⊎ ((i ≡ length xs) × (x ≡ y))
get_last [] x y zero e = inr (refl, some_same x y e)
get_last [] x y (suc i) e = absurd (cc)
get_last (z ∷ xs) x y zero e = inl e
get_last (z ∷ xs) x y (suc i) e = lift (get_last xs x y i e)
  where
    lift : (slice_get xs i ≡ Some y) ⊎ ((i ≡ length xs) × (x ≡ y)) → (slice_get (z ∷ xs) (suc i) ≡ Some y) ⊎ ((suc i ≡ length (z ∷ xs)) × (x ≡ y))
    lift (inl h) = inl h
    lift (inr h) = inr (ap (λ n. suc n) h.0, h.1)

-- a new location in a slot
pub cells_new : (homes : Homes) (cells store : List Value) (p : ℕ) (v : Value) → length homes ≡ length store → Cells homes cells store → Cells (homes ++ AtSlot p ∷ []) cells (store ++ v ∷ [])
cells_new homes cells store p v homed h =
    record {
      within = λ l c e. h.within l c (old l c e);
      same = λ l c e. (let lt = within homes l (AtCell c) (old l c e) in h.same l c (old l c e) ∙ sym (value_before store (v ∷ []) l (omega (arith, homed))));
      alone = λ l k c e f. h.alone l k c (old l c e) (old k c f);
    }
  where
    from : (l c : ℕ) → (slice_get homes l ≡ Some (AtCell c)) ⊎ ((l ≡ length homes) × (AtSlot p ≡ AtCell c)) → slice_get homes l ≡ Some (AtCell c)
    from l c (inl e) = e
    from l c (inr e) = absurd (slot_cell p c e.1)

    old : (l c : ℕ) → slice_get (homes ++ AtSlot p ∷ []) l ≡ Some (AtCell c) → slice_get homes l ≡ Some (AtCell c)
    old l c e = from l c (get_last homes (AtSlot p) (AtCell c) l e)

cell_same : (p q : ℕ) → AtCell p ≡ AtCell q → p ≡ q
cell_same p q e = ap (λ h. place h) e
  where
    place : Home → ℕ
    place (AtSlot p) = 0
    place (AtCell c) = c

-- or in a new cell
pub cells_cell : (homes : Homes) (cells store : List Value) (v : Value) → length homes ≡ length store → Cells homes cells store
    → Cells (homes ++ AtCell (length cells) ∷ []) (cells ++ v ∷ []) (store ++ v ∷ [])
cells_cell homes cells store v homed h =
    record {
      within = λ l c e. in_cells l c (get_last homes (AtCell (length cells)) (AtCell c) l e);
      same = λ l c e. same_in l c (get_last homes (AtCell (length cells)) (AtCell c) l e);
      alone = λ l k c e f. one l k c (get_last homes (AtCell (length cells)) (AtCell c) l e) (get_last homes (AtCell (length cells)) (AtCell c) k f);
    }
  where
    Got : ℕ → ℕ → Type 0
    Got l c = (slice_get homes l ≡ Some (AtCell c)) ⊎ ((l ≡ length homes) × (AtCell (length cells) ≡ AtCell c))

    in_cells : (l c : ℕ) → Got l c → c < length (cells ++ v ∷ [])
    in_cells l c (inl e) = let n = length_more cells v in let lt = h.within l c e in omega (arith, n)
    in_cells l c (inr e) = let n = length_more cells v in let is = cell_same (length cells) c e.1 in omega (arith, n, is)

    same_in : (l c : ℕ) → Got l c → value_at (cells ++ v ∷ []) c ≡ value_at (store ++ v ∷ []) l
    same_in l c (inl e) =
        let lt = within homes l (AtCell c) e in
        value_before cells (v ∷ []) c (h.within l c e) ∙ h.same l c e ∙ sym (value_before store (v ∷ []) l (omega (arith, homed)))
    same_in l c (inr e) =
        ap (λ i. value_at (cells ++ v ∷ []) i) (sym (cell_same (length cells) c e.1)) ∙ value_at_end cells v ∙ sym (value_at_end store v)
        ∙ ap (λ i. value_at (store ++ v ∷ []) i) (sym homed ∙ sym e.0)

    one : (l k c : ℕ) → Got l c → Got k c → l ≡ k
    one l k c (inl e) (inl f) = h.alone l k c e f
    one l k c (inl e) (inr f) = let lt = h.within l c e in let is = cell_same (length cells) c f.1 in absurd (omega (arith, is))
    one l k c (inr e) (inl f) = let lt = h.within k c f in let is = cell_same (length cells) c e.1 in absurd (omega (arith, is))
    one l k c (inr e) (inr f) = e.0 ∙ sym f.0

-- a location is assigned
pub cells_store : (homes : Homes) (cells store : List Value) (l c : ℕ) (v : Value) → length homes ≡ length store → slice_get homes l ≡ Some (AtCell c) → Cells homes cells store
    → Cells homes (slice_set cells c v) (slice_set store l v)
cells_store homes cells store l c v homed home h =
    record {
      within = λ k b e. (let n = length_set cells c v in let lt = h.within k b e in omega (arith, n));
      same = λ k b e. same_in k b (cases_eq c b) e;
      alone = h.alone;
    }
  where
    same_in : (k b : ℕ) → (c ≡ b) ⊎ (c ≡ b → ⊥) → slice_get homes k ≡ Some (AtCell b) → value_at (slice_set cells c v) b ≡ value_at (slice_set store l v) k
    same_in k b (inl e) f =
        let is : l ≡ k = h.alone l k b (home ∙ ap (λ i. Some (AtCell i)) e) f in
        let lt = within homes l (AtCell c) home in
        ap (λ i. value_at (slice_set cells c v) i) (sym e) ∙ value_set cells c v (h.within l c home) ∙ sym (value_set store l v (omega (arith, homed)))
        ∙ ap (λ i. value_at (slice_set store l v) i) is
    same_in k b (inr ne) f =
        value_other cells c b v ne ∙ h.same k b f
        ∙ sym (value_other store l k v (λ e. ne (cell_same c b (some_same (AtCell c) (AtCell b) (sym home ∙ ap (λ i. slice_get homes i) e ∙ f)))))

pub cells_slot : (homes : Homes) (cells store : List Value) (l p : ℕ) (v : Value) → slice_get homes l ≡ Some (AtSlot p) → Cells homes cells store → Cells homes cells (slice_set store l v)
cells_slot homes cells store l p v home h =
    record {
      within = h.within;
      same = λ k b e. h.same k b e
          ∙ sym (value_other store l k v (λ is. slot_cell p b (some_same (AtSlot p) (AtCell b) (sym home ∙ ap (λ i. slice_get homes i) is ∙ e))));
      alone = h.alone;
    }

-- ---- closures
up_more : (homes : Homes) (home : Home) (ups : List ℕ) (l : ℕ) (p : Place) → Up homes ups p l → Up (homes ++ home ∷ []) ups p l
up_more homes home ups l (InUp u) h = get_before homes (home ∷ []) l _ h
up_more homes home ups l Hidden h = tt
up_more homes home ups l (InSlot s) h = absurd h
up_more homes home ups l (InCell c) h = absurd h

ups_more : (homes : Homes) (home : Home) (ups : List ℕ) (ns : List Known) (ks : List Named) → Ups homes ups ns ks → Ups (homes ++ home ∷ []) ups ns ks
ups_more homes home ups [] [] h = tt
ups_more homes home ups [] (k ∷ ks) h = absurd h
ups_more homes home ups (n ∷ ns) [] h = absurd h
ups_more homes home ups (n ∷ ns) (k ∷ ks) h = (h.0, up_more homes home ups k.location n.place h.1, ups_more homes home ups ns ks h.2)

closes_more : (code : Code) (homes : Homes) (home : Home) (m : Closure) (c : meaning.Closure) → Closes code homes m c → Closes code (homes ++ home ∷ []) m c
closes_more code homes home m c h = record { names = h.names; begins = h.begins; ups = ups_more homes home m.cells h.names c.env.locals h.ups }

pub closures_more : (code : Code) (homes : Homes) (home : Home) (ms : List Closure) (cs : List meaning.Closure) → ClosesAll code homes ms cs → ClosesAll code (homes ++ home ∷ []) ms cs
closures_more code homes home [] [] h = tt
closures_more code homes home [] (c ∷ cs) h = absurd h
closures_more code homes home (m ∷ ms) [] h = absurd h
closures_more code homes home (m ∷ ms) (c ∷ cs) h = (closes_more code homes home m c h.0, closures_more code homes home ms cs h.1)

-- ---- names
-- the frame has the location of a name
pub record Found (homes : Homes) (owners : Owners) (fr : View) (free cells : ℕ) (ks : List Named) (x : Text) (p : Place) : Type 0 where
  pub location : ℕ
  pub is : location_of ks x ≡ Some location
  pub has : Has homes owners fr free cells p location

found_in : (homes : Homes) (owners : Owners) (fr : View) (free cells : ℕ) (n : Known) (ns : List Known) (k : Named) (ks : List Named) (x : Text) (p : Place) (b : Bool)
    → same_bytes k.name x ≡ b → Has homes owners fr free cells n.place k.location
    → (place_of ns x ≡ Some p → Found homes owners fr free cells ks x p) → (if b then Some n.place else place_of ns x) ≡ Some p
    → Found homes owners fr free cells (k ∷ ks) x p
found_in homes owners fr free cells n ns k ks x p true same has rec e =
    record { location = k.location; is = ap (λ b. if b then Some k.location else location_of ks x) same; has = subst (λ q. Has homes owners fr free cells q k.location) (some_same n.place p e) has }
found_in homes owners fr free cells n ns k ks x p false same has rec e =
    let r = rec e in
    record { location = r.location; is = ap (λ b. if b then Some k.location else location_of ks x) same ∙ r.is; has = r.has }

pub found : (homes : Homes) (owners : Owners) (fr : View) (free cells : ℕ) (ns : List Known) (ks : List Named) (x : Text) (p : Place) → HasAll homes owners fr free cells ns ks → place_of ns x ≡ Some p
    → Found homes owners fr free cells ks x p
found homes owners fr free cells [] ks x p h e = absurd (cc)
found homes owners fr free cells (n ∷ ns) [] x p h e = absurd h
found homes owners fr free cells (n ∷ ns) (k ∷ ks) x p h e =
    found_in homes owners fr free cells n ns k ks x p (same_bytes k.name x) refl h.1 (λ f. found homes owners fr free cells ns ks x p h.2 f)
    (ap (λ m. if same_bytes m x then Some n.place else place_of ns x) (sym h.0) ∙ e)
