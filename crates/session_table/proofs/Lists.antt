-- Entries of a map: the last one put in, and one put in and taken out again.
use Rattle.std.proofs.Common.{ℕ, ◌+◌, ◌<◌, ◌≡◌, Bool, true, false, cond, List, [], ◌∷◌, ◌++◌, length, Some, None, refl, sym, ap, subst, ◌∙◌, arith}
use Rattle.std.specs.declared.cmp.Ordering.{Ordering}
use Rattle.std.specs.declared.cmp.Ordering.TheVariants.{Less, Equal, Greater}
use Rattle.std.specs.Ordering.{nat_cmp, int_cmp, ordering_then, is_eq, match_ordering}
use Rattle.std.specs.Cmp.{nat_cmp_is, int_cmp_is}
use Rattle.std.specs.Map.{lookup, remove_entry}
use Rattle.std.specs.BTreeMap.{is_at, insert_entry}
use Rattle.message.specs.declared.request.Held.{Held}
use Rattle.sk_types.specs.declared.number.Session.{Session}
use Rattle.session_table.specs.declared.words.Token.{Token}
use Rattle.session_table.specs.Keys.{token_cmp, is_token}
use Rattle.session_table.specs.Table.{AllBelow}

above : (n m : ℕ) → m < n → Greater ≡ nat_cmp n m
above n m h = nat_cmp_is n m Greater h

-- a request that is taken is the last one
pub put_last : (n : ℕ) (v : Held) (es : List (ℕ × Held)) → AllBelow n es → insert_entry nat_cmp es n v ≡ es ++ (n, v) ∷ []
put_last n v [] h = refl
put_last n v (e ∷ es) h =
    subst (λ o. match_ordering o ((n, v) ∷ e ∷ es) ((e.0, v) ∷ es) (e ∷ insert_entry nat_cmp es n v) ≡ e ∷ (es ++ (n, v) ∷ [])) (above n e.0 h.0) (ap (λ l. e ∷ l) (put_last n v es h.1))

pub below_more : (n : ℕ) (v : Held) (es : List (ℕ × Held)) → AllBelow n es → AllBelow (n + 1) (es ++ (n, v) ∷ [])
below_more n v [] h = (omega arith, h)
below_more n v (e ∷ es) h = (omega (arith, h.0), below_more n v es h.1)

below_removed_head : (test : ℕ → Bool) (n : ℕ) (e : ℕ × Held) (es : List (ℕ × Held)) (b : Bool) → AllBelow n (e ∷ es) → AllBelow n (remove_entry test es) → AllBelow n (cond b es (e ∷ remove_entry test es))
below_removed_head test n e es true h ih = h.1
below_removed_head test n e es false h ih = (h.0, ih)

pub below_removed : (test : ℕ → Bool) (n : ℕ) (es : List (ℕ × Held)) → AllBelow n es → AllBelow n (remove_entry test es)
below_removed test n [] h = h
below_removed test n (e ∷ es) h = below_removed_head test n e es (test e.0) h (below_removed test n es h.1)

-- the next number is not taken
pub below_absent : (n : ℕ) (es : List (ℕ × Held)) → AllBelow n es → lookup (is_at (nat_cmp n)) es ≡ None
below_absent n [] h = refl
below_absent n (e ∷ es) h =
    subst (λ o. cond (is_eq o) (Some e.1) (lookup (is_at (nat_cmp n)) es) ≡ None) (above n e.0 h.0) (below_absent n es h.1)

undo_head : {K X : Type 0} (cmp : K → K → Ordering) (k : K) (v : X) (e : K × X) (es : List (K × X)) (o : Ordering) → cmp k k ≡ Equal → cmp k e.0 ≡ o → (lookup (is_at (cmp k)) es ≡ None → remove_entry (is_at (cmp k)) (insert_entry cmp es k v) ≡ es) → cond (is_eq o) (Some e.1) (lookup (is_at (cmp k)) es) ≡ None → remove_entry (is_at (cmp k)) (match_ordering o ((k, v) ∷ e ∷ es) ((e.0, v) ∷ es) (e ∷ insert_entry cmp es k v)) ≡ e ∷ es
undo_head cmp k v e es Less r q ih h = ap (λ o. cond (is_eq o) (e ∷ es) ((k, v) ∷ remove_entry (is_at (cmp k)) (e ∷ es))) r
undo_head cmp k v e es Equal r q ih h = absurd (cc)
undo_head cmp k v e es Greater r q ih h =
    ap (λ o. cond (is_eq o) (insert_entry cmp es k v) (e ∷ remove_entry (is_at (cmp k)) (insert_entry cmp es k v))) q ∙ ap (λ l. e ∷ l) (ih h)

-- an absent key that is put in and taken out again leaves all as it was
pub undo : {K X : Type 0} (cmp : K → K → Ordering) (k : K) (v : X) (es : List (K × X)) → cmp k k ≡ Equal → lookup (is_at (cmp k)) es ≡ None → remove_entry (is_at (cmp k)) (insert_entry cmp es k v) ≡ es
undo cmp k v [] r h = ap (λ o. cond (is_eq o) [] ((k, v) ∷ [])) r
undo cmp k v (e ∷ es) r h = undo_head cmp k v e es (cmp k e.0) r refl (undo cmp k v es r) h

longer : {X : Type 0} (xs : List X) (x : X) → length (xs ++ x ∷ []) ≡ length xs + 1
longer [] x = refl
longer (y ∷ xs) x = omega (arith, longer xs x)

-- what holds of the entries fs after the next request is put in
pub taken_below : (n : ℕ) (v : Held) (es fs : List (ℕ × Held)) → AllBelow n es → fs ≡ insert_entry nat_cmp es n v → AllBelow (n + 1) fs
taken_below n v es fs h e = subst (AllBelow (n + 1)) (sym (e ∙ put_last n v es h)) (below_more n v es h)

pub taken_long : (n : ℕ) (v : Held) (es fs : List (ℕ × Held)) → AllBelow n es → fs ≡ insert_entry nat_cmp es n v → length fs ≡ length es + 1
taken_long n v es fs h e = ap (λ (l : List (ℕ × Held)). length l) (e ∙ put_last n v es h) ∙ longer es (n, v)

-- and of gs, where it is taken out again
pub undone : (n : ℕ) (v : Held) (es fs gs : List (ℕ × Held)) → AllBelow n es → fs ≡ insert_entry nat_cmp es n v → gs ≡ remove_entry (is_at (nat_cmp n)) fs → gs ≡ es
undone n v es fs gs h e g =
    g ∙ ap (remove_entry (is_at (nat_cmp n))) e ∙ undo nat_cmp n v es (sym (nat_cmp_is n n Equal refl)) (below_absent n es h)

token_same : (k : Token) → token_cmp k k ≡ Equal
token_same k = ap (λ o. ordering_then o (int_cmp k.number k.number)) (sym (nat_cmp_is k.kind k.kind Equal refl)) ∙ sym (int_cmp_is k.number k.number Equal refl)

-- the same of a sleeper
pub sleeper_undone : (k : Token) (v : Session) (es fs gs : List (Token × Session)) → lookup (is_token k) es ≡ None → fs ≡ insert_entry token_cmp es k v → gs ≡ remove_entry (is_token k) fs → gs ≡ es
sleeper_undone k v es fs gs h e g = g ∙ ap (remove_entry (is_token k)) e ∙ undo token_cmp k v es (token_same k) h
