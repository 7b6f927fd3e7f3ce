-- What the forms of code need so that they have code, where each local goes to a cell.
use Rattle.std.proofs.Common.{◌≡◌, ℕ, zero, suc, ◌+◌, ◌≤◌, ◌≢◌, refl, sym, ap, ◌∙◌, subst, List, [], ◌∷◌, Option, Some, None, arith, Bool, true, false, inl, inr, ⊎_elim}
use Rattle.std.proofs.lemmas.Bool.Decides.{eqb_tells}
use Rattle.std.specs.Prelude.{◌⊎◌, ◌||◌, ◌&&◌, ◌==◌, not, ltb, ℤ, if◌then◌else◌}
use Rattle.lua_tree.specs.Source as source
use Rattle.lua_tree.specs.Source.{Text, Block, Plain, Returns, Stats, NoStat, MoreStats, Branches, NoElse, Else, Elseif, Targets, NoTarget, MoreTargets, Variable, Element, Exps, NoExp, MoreExps, Exp, Operands, NoOperand, MoreOperands, Suffixes, NoSuffix, MoreSuffixes}
use Rattle.lua_tree.specs.declared.tree.BinaryOp.{BinaryOp}
use Rattle.lua_model.specs.Texts.{same_bytes}
use Rattle.lua_model.specs.declared.operator.Binary.{Binary}
use Rattle.lua_model.specs.declared.operator.Binary.TheVariants as binary
use Rattle.lua_model.specs.declared.operator.Unary.{Unary}
use Rattle.lua_model.specs.declared.operator.Unary.TheVariants as unary
use Rattle.lua_meaning.specs.Values.{Link, Both, Either, Strict, link_of}
use Rattle.lua_meaning.specs.Statements.{variables, named}
use Rattle.lua_code.specs.declared.op.Op.TheVariants as op
use Rattle.lua_steps.specs.declared.scope.Place.{Place}
use Rattle.lua_steps.specs.declared.scope.Place.TheVariants.{InSlot, InCell, InUp, Hidden}
use Rattle.lua_steps.specs.declared.scope.Known.{Known}
use Rattle.lua_steps.specs.Scope.{Scope, place_of, in_slot, in_cell, past}
use Rattle.lua_steps.specs.Stand.{Write, Origin, FromSlot, FromItem, test_op, from_slots, from_items}
use Rattle.lua_compile.specs.declared.aim.Aim.{Aim}
use Rattle.lua_compile.specs.declared.aim.Aim.TheVariants.{Into, Anywhere, Unless}
use Rattle.lua_compile.specs.declared.aim.Room.{Room}
use Rattle.lua_compile.specs.declared.aim.Room.TheVariants.{Nothing, Word}
use Rattle.lua_compile.specs.declared.aim.Operand.{Operand}
use Rattle.lua_compile.specs.declared.aim.Operand.TheVariants.{Slot, Constant as Held}
use Rattle.lua_compile.specs.declared.aim.Want.{Want}
use Rattle.lua_compile.specs.declared.aim.Want.TheVariants as want
use Rattle.lua_compile.specs.HasCode.{in_scope, with_names, AreLocals}
use Rattle.lua_compile.specs.Writer.{Writer, put, lost_if, flag, known, all_known, declare, declare_all, up_from, after_up, seen_inside}
use Rattle.lua_compile.specs.Forms.{register, is_unless, paid_here, settled, differ, has_room, int_written, int_aimed, true_written, name_shown, name_written, stored, from, stores_written, nils_written, shown, shown_of, on_slot, is_slot, some_written, binary_written, is_comparison, no_more, test_written, unary_slot, so_far, last_settled, linked, link_aim, and_aim, is_strict, all_strict, only_shown, called, called_list, wanted_written, where_none, prepay, ticked, ticked_more, paid_before, ticked_twice, is_direct, only_direct, with_targets, directly, jumped, where_else, function_known, numeric_written, generic_written}
use Rattle.lua_compile.proofs.Final.{and_left, and_right}

-- nothing was lost, and each local goes to a cell
abbrev pub Sound : Writer → Type 0
Sound w = (w.lost ≡ false) × (w.flags ≡ [])

-- ---- bools
neither : (a b : Bool) → a ≡ false → b ≡ false → (a || b) ≡ false
neither true b e f = absurd (cc)
neither false b e f = f

same : (n : ℕ) → (n == n) ≡ true
same n = ⊎_elim (λ (s : ((n == n) ≡ true) × (n ≡ n)). s.0) (λ (d : ((n == n) ≡ false) × (n ≢ n)). absurd (d.1 refl)) (eqb_tells n n)

pub no_difference : (a b : ℕ) → a ≡ b → differ a b ≡ false
no_difference a b e = ap not (ap (λ c. a == c) (sym e) ∙ same a)

pub s_lost_if : (b : Bool) (w : Writer) → b ≡ false → Sound w → Sound (lost_if b w)
s_lost_if b w e g = (neither w.lost b g.0 e, g.1)

pub s_if : (b : Bool) (x y : Writer) → Sound x → Sound y → Sound (if b then x else y)
s_if true x y g h = g
s_if false x y g h = h

pub s_test : (b : Bool) (x y : Writer) → (b ≡ true → Sound x) → (b ≡ false → Sound y) → Sound (if b then x else y)
s_test true x y g h = g refl
s_test false x y g h = h refl

-- ---- names
-- a place that functions inside can share
abbrev pub IsShared : Place → Type 0
IsShared (InSlot s) = ⊥
IsShared (InCell c) = Unit {0}
IsShared (InUp u) = Unit {0}
IsShared Hidden = ⊥

abbrev pub IsFound : Option Place → Type 0
IsFound None = ⊥
IsFound (Some p) = IsShared p

-- the names in scope are these
abbrev pub Sees : List Known → List Text → Type 0
Sees [] [] = Unit {0}
Sees (k ∷ ks) (n ∷ ns) = (k.name ≡ n) × IsShared k.place × Sees ks ns
Sees _ _ = ⊥

found_if : (b : Bool) (p : Place) (o : Option Place) (rest : Bool) → IsShared p → (if b then true else rest) ≡ true → (rest ≡ true → IsFound o) → IsFound (if b then Some p else o)
found_if true p o rest h e f = h
found_if false p o rest h e f = f e

pub place_found : (ks : List Known) (ns : List Text) (x : Text) → Sees ks ns → in_scope ns x ≡ true → IsFound (place_of ks x)
place_found [] [] x s e = absurd (cc)
place_found [] (n ∷ ns) x s e = absurd s
place_found (k ∷ ks) [] x s e = absurd s
place_found (k ∷ ks) (n ∷ ns) x s e =
    let same : (if same_bytes k.name x then true else in_scope ns x) ≡ true = subst (λ m. (if same_bytes m x then true else in_scope ns x) ≡ true) (sym s.0) e in
    found_if (same_bytes k.name x) k.place (place_of ks x) (in_scope ns x) s.1 same (λ f. place_found ks ns x s.2 f)

up_shared : (p : Place) (i : ℕ) → IsShared p → IsShared (up_from p i)
up_shared (InSlot s) i h = absurd h
up_shared (InCell c) i h = tt
up_shared (InUp u) i h = tt
up_shared Hidden i h = absurd h

-- a function sees what stands outside it
pub sees_inside : (ks : List Known) (ns : List Text) (i : ℕ) → Sees ks ns → Sees (seen_inside i ks) ns
sees_inside [] [] i s = tt
sees_inside [] (n ∷ ns) i s = absurd s
sees_inside (k ∷ ks) [] i s = absurd s
sees_inside (k ∷ ks) (n ∷ ns) i s = (s.0, up_shared k.place i s.1, sees_inside ks ns (after_up k.place i) s.2)

shared : (flags : List Bool) (k : ℕ) → flags ≡ [] → flag flags k ≡ true
shared flags k e = ap (λ (fs : List Bool). flag fs k) e

known_if : (b : Bool) (x : Text) (sc : Scope) (ns : List Text) → b ≡ true → Sees sc.names ns → Sees (if b then past 1 (in_cell x sc) else in_slot x sc).names (x ∷ ns)
known_if true x sc ns e s = (refl, tt, s)
known_if false x sc ns e s = absurd (cc)

pub all_seen : (xs : List Text) (ns : List Text) (sc : Scope) (flags : List Bool) (k : ℕ) → flags ≡ [] → Sees sc.names ns → Sees (all_known xs sc flags k).names (with_names xs ns)
all_seen [] ns sc flags k e s = s
all_seen (x ∷ xs) ns sc flags k e s = all_seen xs (x ∷ ns) (known x sc flags k) flags (k + 1) e (known_if (flag flags k) x sc ns (shared flags k e) s)

pub function_seen : (x : Text) (sc : Scope) (ns : List Text) (flags : List Bool) (k : ℕ) → flags ≡ [] → Sees sc.names ns → Sees (function_known x sc (flag flags k)).names (x ∷ ns)
function_seen x sc ns flags k e s = go (flag flags k) (shared flags k e)
  where
    go : (b : Bool) → b ≡ true → Sees (function_known x sc b).names (x ∷ ns)
    go true f = (refl, tt, s)
    go false f = absurd (cc)

s_declare : (sc : Scope) (w : Writer) → Sound w → Sound (declare sc w)
s_declare sc w g = s_if (flag w.flags w.locals) (put (op.NewCell sc.cells sc.free) w) w g g

pub s_declare_all : (xs : List Text) (sc : Scope) (w : Writer) → Sound w → Sound (declare_all xs sc w)
s_declare_all [] sc w g = g
s_declare_all (x ∷ xs) sc w g = s_declare_all xs (known x sc w.flags w.locals) (declare sc w) (s_declare sc w g)

-- ---- values
s_paid : (pay : ℕ) (w : Writer) → Sound w → Sound (paid_here pay w)
s_paid zero w g = g
s_paid (suc k) w g = g

pub s_settled : (aim : Aim) (r : ℕ) (w : Writer) → Sound w → Sound (settled aim r w)
s_settled (Into s) r w g = g
s_settled (Anywhere room) r w g = g
s_settled (Unless l pay) r w g = s_paid pay (put (op.Test r l) w) g

pub s_int : (r : ℕ) (n : ℤ) (w : Writer) → Sound w → Sound (int_written r n w)
s_int r n w g = s_if (has_room Word n) _ _ g g

pub s_aimed : (n : ℤ) (d : ℕ) (aim : Aim) (w : Writer) → Sound w → Sound (int_aimed n d aim w)
s_aimed n d (Into r) w g = s_int r n w g
s_aimed n d (Anywhere room) w g = s_if (has_room room n) w (int_written d n w) g (s_int d n w g)
s_aimed n d (Unless l pay) w g = s_paid pay w g

pub s_true : (d : ℕ) (aim : Aim) (w : Writer) → Sound w → Sound (true_written d aim w)
s_true d (Into r) w g = g
s_true d (Anywhere room) w g = g
s_true d (Unless l pay) w g = s_paid pay w g

pub s_name : (o : Option Place) (d : ℕ) (aim : Aim) (w : Writer) → IsFound o → Sound w → Sound (name_written o d aim w)
s_name None d aim w h g = absurd h
s_name (Some (InSlot s)) d aim w h g = absurd h
s_name (Some (InCell c)) d aim w h g = s_settled aim (register aim d) _ g
s_name (Some (InUp u)) d aim w h g = s_settled aim (register aim d) _ g
s_name (Some Hidden) d aim w h g = absurd h

s_stored : (o : Option Place) (r : ℕ) (w : Writer) → IsFound o → Sound w → Sound (stored o r w)
s_stored None r w h g = absurd h
s_stored (Some (InSlot s)) r w h g = absurd h
s_stored (Some (InCell c)) r w h g = g
s_stored (Some (InUp u)) r w h g = g
s_stored (Some Hidden) r w h g = absurd h

s_from : (x : Origin) (d : ℕ) (o : Option Place) (w : Writer) → IsFound o → Sound w → Sound (from x d o w)
s_from (FromSlot r) d o w h g = s_stored o r w h g
s_from (FromItem i) d o w h g = s_stored o d (put (op.Item d i) w) h g

-- the names of all writes are in scope
abbrev pub WritesSeen : List Write → List Text → Type 0
WritesSeen [] ns = Unit {0}
WritesSeen (x ∷ xs) ns = (in_scope ns x.name ≡ true) × WritesSeen xs ns

abbrev pub AllSeen : List Text → List Text → Type 0
AllSeen [] ns = Unit {0}
AllSeen (x ∷ xs) ns = (in_scope ns x ≡ true) × AllSeen xs ns

pub s_stores : (xs : List Write) (d : ℕ) (ks : List Known) (ns : List Text) (w : Writer) → Sees ks ns → WritesSeen xs ns → Sound w → Sound (stores_written xs d ks w)
s_stores [] d ks ns w s h g = g
s_stores (x ∷ xs) d ks ns w s h g =
    s_stores xs d ks ns (from x.origin d (place_of ks x.name) w) s h.1 (s_from x.origin d (place_of ks x.name) w (place_found ks ns x.name s h.0) g)

pub slots_seen : (xs : List Text) (r : ℕ) (todo : List Write) (ns : List Text) → AllSeen xs ns → WritesSeen todo ns → WritesSeen (from_slots xs r todo) ns
slots_seen [] r todo ns h t = t
slots_seen (x ∷ xs) r todo ns h t = slots_seen xs (r + 1) _ ns h.1 (h.0, t)

pub items_seen : (xs : List Text) (i : ℕ) (todo : List Write) (ns : List Text) → AllSeen xs ns → WritesSeen todo ns → WritesSeen (from_items xs i todo) ns
items_seen [] i todo ns h t = t
items_seen (x ∷ xs) i todo ns h t = items_seen xs (i + 1) _ ns h.1 (h.0, t)

abbrev pub NamesSeen : Option (List Text) → List Text → Type 0
NamesSeen None ns = ⊥
NamesSeen (Some xs) ns = AllSeen xs ns

named_seen : (o : Option (List Text)) (x : Text) (ns : List Text) → NamesSeen o ns → in_scope ns x ≡ true → NamesSeen (named o x) ns
named_seen None x ns h e = absurd h
named_seen (Some xs) x ns h e = (e, h)

pub targets_seen : (ts : Targets) (ns : List Text) → AreLocals ts ns → NamesSeen (variables ts) ns
targets_seen NoTarget ns h = tt
targets_seen (MoreTargets (Variable x) ts) ns h = named_seen (variables ts) x ns (targets_seen ts ns h.1) h.0
targets_seen (MoreTargets (Element a b line) ts) ns h = absurd h

pub s_targets : (o : Option (List Text)) (w : Writer) (go : List Text → Writer) (ns : List Text) → NamesSeen o ns → ((xs : List Text) → AllSeen xs ns → Sound (go xs)) → Sound (with_targets o w go)
s_targets None w go ns h f = absurd h
s_targets (Some xs) w go ns h f = f xs h

pub s_directly : (o : Option ℕ) (b : Bool) (x : Writer) (go : ℕ → Writer) → Sound x → ((s : ℕ) → b ≡ true → Sound (go s)) → Sound (directly o b x go)
s_directly None b x go g f = g
s_directly (Some s) b x go g f = s_test b (go s) x (λ e. f s e) (λ e. g)

pub s_nils : (r n : ℕ) (w : Writer) → Sound w → Sound (nils_written r n w)
s_nils r zero w g = g
s_nils r (suc n) w g = s_nils (r + 1) n (put (op.Nil r) w) g

-- ---- where a value is shown
abbrev pub InASlot : Operand → Type 0
InASlot (Slot r) = Unit {0}
InASlot (Held n) = ⊥

name_in_slot : (o : Option Place) (d : ℕ) (room : Room) → InASlot (name_shown o d (Anywhere room))
name_in_slot None d room = tt
name_in_slot (Some (InSlot s)) d room = tt
name_in_slot (Some (InCell c)) d room = tt
name_in_slot (Some (InUp u)) d room = tt
name_in_slot (Some Hidden) d room = tt

pub in_a_slot : (e : Exp) (ks : List Known) (d : ℕ) → InASlot (shown e ks d (Anywhere Nothing))
in_a_slot (source.Int n) ks d = tt
in_a_slot (source.Name x) ks d = name_in_slot (place_of ks x) d Nothing
in_a_slot (source.Paren e) ks d = in_a_slot e ks d
in_a_slot e ks d = tt

pub only_in_a_slot : (es : Exps) (ks : List Known) (d : ℕ) → InASlot (only_shown es ks d (Anywhere Nothing))
only_in_a_slot NoExp ks d = tt
only_in_a_slot (MoreExps e NoExp) ks d = in_a_slot e ks d
only_in_a_slot (MoreExps e (MoreExps g es)) ks d = tt

name_into : (o : Option Place) (d : ℕ) → name_shown o d (Into d) ≡ Slot d
name_into None d = refl
name_into (Some (InSlot s)) d = refl
name_into (Some (InCell c)) d = refl
name_into (Some (InUp u)) d = refl
name_into (Some Hidden) d = refl

shown_into : (e : Exp) (ks : List Known) (d : ℕ) → shown e ks d (Into d) ≡ Slot d
shown_into (source.Int n) ks d = refl
shown_into (source.Name x) ks d = name_into (place_of ks x) d
shown_into (source.Paren e) ks d = shown_into e ks d
shown_into e ks d = refl

pub s_on : (p : Operand) (w : Writer) (go : ℕ → Writer) → InASlot p → ((r : ℕ) → Sound (go r)) → Sound (on_slot p w go)
s_on (Slot r) w go h f = f r
s_on (Held n) w go h f = absurd h

-- ---- aims
-- the first free slot, or any slot for a value that only its last operation writes
abbrev pub AimFits : Exp → Aim → ℕ → Type 0
AimFits e (Into r) d = (r ≡ d) ⊎ (is_direct e ≡ true)
AimFits e (Anywhere room) d = Unit {0}
AimFits e (Unless l pay) d = Unit {0}

pub unless_fits : (e : Exp) (aim : Aim) (d : ℕ) → is_unless aim ≡ true → AimFits e aim d
unless_fits e (Into r) d h = absurd (cc)
unless_fits e (Anywhere room) d h = tt
unless_fits e (Unless l pay) d h = tt

pub and_unless : (os : Operands) (aim : Aim) → is_unless aim ≡ true → is_unless (and_aim os aim) ≡ true
and_unless os (Into r) h = h
and_unless os (Anywhere room) h = h
and_unless os (Unless l pay) h = refl

pub paren_fits : (e : Exp) (aim : Aim) (d : ℕ) → AimFits (source.Paren e) aim d → AimFits e aim d
paren_fits e (Into r) d h = h
paren_fits e (Anywhere room) d h = tt
paren_fits e (Unless l pay) d h = tt

-- a call's value comes to the first free slot
not_direct : (r d : ℕ) (e : Exp) → is_direct e ≡ false → (r ≡ d) ⊎ (is_direct e ≡ true) → r ≡ d
not_direct r d e f (inl h) = h
not_direct r d e f (inr h) = absurd (cc)

pub call_fits : (e : Exp) (ss : Suffixes) (aim : Aim) (d : ℕ) → AimFits (source.Suffixed e ss) aim d → register aim d ≡ d
call_fits e ss (Into r) d h = not_direct r d (source.Suffixed e ss) refl h
call_fits e ss (Anywhere room) d h = refl
call_fits e ss (Unless l pay) d h = refl

abbrev pub ChainFits : Operands → Aim → ℕ → Type 0
ChainFits os (Into r) d = (r ≡ d) ⊎ (all_strict os ≡ true)
ChainFits os (Anywhere room) d = Unit {0}
ChainFits os (Unless l pay) d = Unit {0}

some_strict : (r d : ℕ) (os : Operands) → (r ≡ d) ⊎ ((all_strict os && not (no_more os)) ≡ true) → (r ≡ d) ⊎ (all_strict os ≡ true)
some_strict r d os (inl h) = inl h
some_strict r d os (inr h) = inr (and_left (all_strict os) (not (no_more os)) h)

pub chain_fits : (e : Exp) (os : Operands) (aim : Aim) (d : ℕ) → AimFits (source.Chain e os) aim d → ChainFits os aim d
chain_fits e os (Into r) d h = some_strict r d os h
chain_fits e os (Anywhere room) d h = tt
chain_fits e os (Unless l pay) d h = tt

less_strict : (lk : Link) (r d : ℕ) (os : Operands) → (r ≡ d) ⊎ ((is_strict lk && all_strict os) ≡ true) → (r ≡ d) ⊎ (all_strict os ≡ true)
less_strict lk r d os (inl h) = inl h
less_strict lk r d os (inr h) = inr (and_right (is_strict lk) (all_strict os) h)

not_strict : (lk : Link) (b : Bool) (r d : ℕ) → is_strict lk ≡ false → (r ≡ d) ⊎ ((is_strict lk && b) ≡ true) → r ≡ d
not_strict lk b r d f (inl h) = h
not_strict lk b r d f (inr h) = (let t = and_left (is_strict lk) b h in absurd (cc))

pub chain_rest : (o : BinaryOp) (line : ℕ) (e : Exp) (os : Operands) (aim : Aim) (d : ℕ) → ChainFits (MoreOperands o line e os) aim d → ChainFits os aim d
chain_rest o line e os (Into r) d h = less_strict (link_of o) r d os h
chain_rest o line e os (Anywhere room) d h = tt
chain_rest o line e os (Unless l pay) d h = tt

-- `and` and `or` leave their value in the first free slot
pub chain_free : (o : BinaryOp) (line : ℕ) (e : Exp) (os : Operands) (aim : Aim) (d : ℕ) → ChainFits (MoreOperands o line e os) aim d → is_strict (link_of o) ≡ false → register aim d ≡ d
chain_free o line e os (Into r) d h f = not_strict (link_of o) (all_strict os) r d f h
chain_free o line e os (Anywhere room) d h f = refl
chain_free o line e os (Unless l pay) d h f = refl

-- the aim of what stands before an operator
pub link_fits : (lk : Link) (e : Exp) (d : ℕ) → AimFits e (link_aim lk d) d
link_fits Both e d = inl refl
link_fits Either e d = inl refl
link_fits (Strict u) e d = tt

-- ---- chains
-- the value so far is where the next operator takes it
abbrev pub BeginsBy : Link → Operand → ℕ → Type 0
BeginsBy Both p d = p ≡ Slot d
BeginsBy Either p d = p ≡ Slot d
BeginsBy (Strict u) p d = InASlot p

pub base_begins : (lk : Link) (e : Exp) (ks : List Known) (d : ℕ) → BeginsBy lk (shown e ks d (link_aim lk d)) d
base_begins Both e ks d = shown_into e ks d
base_begins Either e ks d = shown_into e ks d
base_begins (Strict u) e ks d = in_a_slot e ks d

pub slot_begins : (lk : Link) (d : ℕ) → BeginsBy lk (Slot d) d
slot_begins Both d = refl
slot_begins Either d = refl
slot_begins (Strict u) d = tt

pub is_there : (p : Operand) (d : ℕ) → p ≡ Slot d → not (is_slot p d) ≡ false
is_there p d e = ap (λ q. not (is_slot q d)) e ∙ ap not (same d)

pub s_link : (lk : Link) (x y : Writer) (go : Binary → Writer) → (lk ≡ Both → Sound x) → (lk ≡ Either → Sound y) → ((u : Binary) → lk ≡ Strict u → Sound (go u)) → Sound (linked lk x y go)
s_link Both x y go f g h = f refl
s_link Either x y go f g h = g refl
s_link (Strict u) x y go f g h = h u refl

-- the last value of a chain is at its aim
abbrev pub EndsAt : Operands → Aim → ℕ → ℕ → Type 0
EndsAt NoOperand aim d r = register aim d ≡ r
EndsAt (MoreOperands o line e os) aim d r = Unit {0}

pub so_far_ends : (os : Operands) (aim : Aim) (d : ℕ) → EndsAt os aim d (so_far os aim d)
so_far_ends NoOperand aim d = refl
so_far_ends (MoreOperands o line e os) aim d = tt

pub free_ends : (os : Operands) (aim : Aim) (d : ℕ) → register aim d ≡ d → EndsAt os aim d d
free_ends NoOperand aim d e = e
free_ends (MoreOperands o line e os) aim d h = tt

pub s_last : (os : Operands) (aim : Aim) (d r : ℕ) (w : Writer) → EndsAt os aim d r → Sound w → Sound (last_settled os aim d r w)
s_last NoOperand aim d r w e g = s_settled aim r _ (s_lost_if (differ (register aim d) r) w (no_difference (register aim d) r e) g)
s_last (MoreOperands o line e os) aim d r w h g = g

-- ---- operators
pub s_binary : (u : Binary) (r : ℕ) (p q : Operand) (line : ℕ) (w : Writer) → InASlot p → Sound w → Sound (binary_written u r p q line w)
s_binary u r (Slot x) (Slot y) line w h g = s_if (ltb r 256 && ltb x 256 && ltb y 256) _ _ g g
s_binary u r (Slot x) (Held n) line w h g = g
s_binary u r (Held n) q line w h g = absurd h

s_compare : (u : Binary) (x : ℕ) (q : Operand) (pay l line : ℕ) (w : Writer) → is_comparison u ≡ true → Sound w → Sound (some_written (test_op u (shown_of (Slot x)) (shown_of q) pay l) line w)
s_compare binary.Less x (Slot y) pay l line w h g = g
s_compare binary.Less x (Held n) pay l line w h g = g
s_compare binary.LessEqual x (Slot y) pay l line w h g = g
s_compare binary.LessEqual x (Held n) pay l line w h g = g
s_compare binary.Greater x (Slot y) pay l line w h g = g
s_compare binary.Greater x (Held n) pay l line w h g = g
s_compare binary.GreaterEqual x (Slot y) pay l line w h g = g
s_compare binary.GreaterEqual x (Held n) pay l line w h g = g
s_compare binary.Equal x (Slot y) pay l line w h g = g
s_compare binary.Equal x (Held n) pay l line w h g = g
s_compare binary.NotEqual x (Slot y) pay l line w h g = g
s_compare binary.NotEqual x (Held n) pay l line w h g = g
s_compare u x q pay l line w h g = absurd (cc)

pub s_test_written : (u : Binary) (p q : Operand) (aim : Aim) (line : ℕ) (w : Writer) → is_comparison u ≡ true → is_unless aim ≡ true → InASlot p → Sound w → Sound (test_written u p q aim line w)
s_test_written u (Slot x) q (Unless l pay) line w h un s g = s_compare u x q pay l line w h g
s_test_written u (Held n) q (Unless l pay) line w h un s g = absurd s
s_test_written u p q (Into r) line w h un s g = absurd (cc)
s_test_written u p q (Anywhere room) line w h un s g = absurd (cc)

pub s_unary : (u : Unary) (x d : ℕ) (aim : Aim) (line : ℕ) (w : Writer) → Sound w → Sound (unary_slot u x d aim line w)
s_unary unary.Not x d (Into r) line w g = g
s_unary unary.Not x d (Anywhere room) line w g = g
s_unary unary.Not x d (Unless l pay) line w g = s_paid pay (put (op.TestNot x l) w) g
s_unary u x d aim line w g = s_settled aim (register aim d) _ g

-- ---- calls
pub s_called : (a : Want) (d k line : ℕ) (w : Writer) → Sound w → Sound (called a d k line w)
s_called (want.Count n) d k line w g = g
s_called want.AsList d k line w g = g
s_called want.AsResult d k line w g = g

pub s_called_list : (a : Want) (d line : ℕ) (w : Writer) → Sound w → Sound (called_list a d line w)
s_called_list (want.Count n) d line w g = g
s_called_list want.AsList d line w g = g
s_called_list want.AsResult d line w g = g

s_wanted : (a : Want) (d : ℕ) (w : Writer) → Sound w → Sound (wanted_written a d w)
s_wanted (want.Count zero) d w g = g
s_wanted (want.Count (suc n)) d w g = s_nils (d + 1) n w g
s_wanted want.AsList d w g = g
s_wanted want.AsResult d w g = g

pub s_none : (ss : Suffixes) (a : Want) (d : ℕ) (w : Writer) → Sound w → Sound (where_none ss a d w)
s_none NoSuffix a d w g = s_wanted a d w g
s_none (MoreSuffixes x ss) a d w g = g

-- ---- ticks
-- so many ticks may be paid before these statements
abbrev pub PaidFor : Stats → ℕ → Type 0
PaidFor NoStat k = k ≡ 0
PaidFor (MoreStats t ts) k = k ≤ 1

abbrev pub PaidIn : Block → ℕ → Type 0
PaidIn (Plain ts) k = PaidFor ts k
PaidIn (Returns ts es) k = PaidFor ts k

pub prepaid : (p : Block) → PaidIn p (prepay p)
prepaid (Plain NoStat) = refl
prepaid (Plain (MoreStats t ts)) = omega arith
prepaid (Returns NoStat es) = refl
prepaid (Returns (MoreStats t ts) es) = omega arith

pub unpaid_for : (ts : Stats) → PaidFor ts 0
unpaid_for NoStat = refl
unpaid_for (MoreStats t ts) = omega arith

pub unpaid : (p : Block) → PaidIn p 0
unpaid (Plain ts) = unpaid_for ts
unpaid (Returns ts es) = unpaid_for ts

pub still_paid : (k : ℕ) (p : Block) → k ≤ 1 → PaidIn p (paid_before k (prepay p))
still_paid zero p h = prepaid p
still_paid (suc k) p h = (let e : 0 ≡ k = omega (arith, h) in subst (λ j. PaidIn p j) e (unpaid p))

pub s_ticked : (k : ℕ) (w : Writer) → k ≤ 1 → Sound w → Sound (ticked k w)
s_ticked zero w h g = g
s_ticked (suc zero) w h g = g
s_ticked (suc (suc k)) w h g = absurd (omega (arith, h))

pub s_ticked_more : (k m : ℕ) (w : Writer) → Sound w → Sound (ticked_more k m w)
s_ticked_more zero m w g = g
s_ticked_more (suc k) m w g = g

pub s_ticked_twice : (k m : ℕ) (w : Writer) → k ≤ 1 → Sound w → Sound (ticked_twice k m w)
s_ticked_twice zero m w h g = g
s_ticked_twice (suc zero) m w h g = g
s_ticked_twice (suc (suc k)) m w h g = absurd (omega (arith, h))

-- ---- statements
-- where a `break` may stand it has a label to jump to
abbrev pub MayLeave : Bool → Option ℕ → Type 0
MayLeave true None = ⊥
MayLeave _ _ = Unit {0}

pub leaves_some : (loop : Bool) (l : ℕ) → MayLeave loop (Some l)
leaves_some true l = tt
leaves_some false l = tt

pub s_jumped : (loop : Bool) (o : Option ℕ) (w : Writer) → loop ≡ true → MayLeave loop o → Sound w → Sound (jumped o w)
s_jumped true None w e h g = absurd h
s_jumped false None w e h g = absurd (cc)
s_jumped loop (Some l) w e h g = g

pub s_where_else : (b : Branches) (l : ℕ) (w : Writer) → Sound w → Sound (where_else b l w)
s_where_else NoElse l w g = g
s_where_else (Else p) l w g = g
s_where_else (Elseif e p b) l w g = g

abbrev pub OnlyFits : Exps → Aim → ℕ → Type 0
OnlyFits NoExp aim d = Unit {0}
OnlyFits (MoreExps e NoExp) aim d = AimFits e aim d
OnlyFits (MoreExps e (MoreExps g es)) aim d = Unit {0}

pub direct_fits : (es : Exps) (s d : ℕ) → only_direct es ≡ true → OnlyFits es (Into s) d
direct_fits NoExp s d h = tt
direct_fits (MoreExps e NoExp) s d h = inr h
direct_fits (MoreExps e (MoreExps g es)) s d h = tt

pub anywhere_fits : (es : Exps) (d : ℕ) → OnlyFits es (Anywhere Nothing) d
anywhere_fits NoExp d = tt
anywhere_fits (MoreExps e NoExp) d = tt
anywhere_fits (MoreExps e (MoreExps g es)) d = tt

-- what a loop's body needs
abbrev pub TurnFound : (Scope → Option ℕ → Writer → Writer) → List Text → Type 0
TurnFound block ns = (inner : Scope) (l : ℕ) (t : Writer) → Sees inner.names ns → Sound t → Sound (block inner (Some l) t)

pub s_numeric : (x : Text) (sc : Scope) (line m : ℕ) (block : Scope → Option ℕ → Writer → Writer) (w : Writer) (ns : List Text) → Sees sc.names ns → TurnFound block (x ∷ ns) → Sound w
    → Sound (numeric_written x sc line m block w)
s_numeric x sc line m block w ns s f g =
    f _ _ _ (all_seen (x ∷ []) ns (past 3 sc) w.flags w.locals g.1 s) (s_declare_all (x ∷ []) (past 3 sc) _ g)

pub s_generic : (xs : List Text) (sc : Scope) (line m : ℕ) (block : Scope → Option ℕ → Writer → Writer) (w : Writer) (ns : List Text) → Sees sc.names ns → TurnFound block (with_names xs ns) → Sound w
    → Sound (generic_written xs sc line m block w)
s_generic xs sc line m block w ns s f g = f _ _ _ (all_seen xs ns (past 3 sc) w.flags w.locals g.1 s) (s_declare_all xs (past 3 sc) _ g)
