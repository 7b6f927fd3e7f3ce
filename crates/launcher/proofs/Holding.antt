-- Whether a request is held: what the search over the list finds.
use Rattle.std.proofs.Common.{◌≡◌, ℕ, suc, zero, ◌<◌, Bool, true, false, ◌||◌, ◌&&◌, List, [], ◌∷◌, length, refl, ap, ◌∙◌, arith}
use Rattle.std.specs.Prelude.{Contains, slice_index_or, ◌==◌}
use Rattle.std.specs.List.{list_any}
use Rattle.std.proofs.lemmas.Bool.Decides.{nat_tests}
use Rattle.sk_types.specs.declared.number.Handle.{Handle}
use Rattle.sk_types.specs.declared.number.Session.{Session}
use Rattle.message.specs.declared.request.Held.{Held}
use Rattle.launcher.specs.declared.desk.Taken.{Taken}
use Rattle.launcher.specs.Rows.{held, is_held_as}

both : (a b : Bool) → (a && b) ≡ true → (a ≡ true) × (b ≡ true)
both true true e = (refl, refl)
both true false e = absurd (cc)
both false b e = absurd (cc)

same_number : (m n : ℕ) → (m == n) ≡ true → m ≡ n
same_number m n e = grind (arith, nat_tests)

own_number : (n : ℕ) → (n == n) ≡ true
own_number n = grind (arith, nat_tests)

same_held : (h : Handle) (s : Session) (x : Held) → is_held_as h s x ≡ true → x ≡ record { source = h; session = s }
same_held h s x e =
    let b = both (x.source.0 == h.0) (x.session.0 == s.0) e in
    λ i. record { source = record { 0 = same_number x.source.0 h.0 b.0 i }; session = record { 0 = same_number x.session.0 s.0 b.1 i } }

own_held : (h : Handle) (s : Session) → is_held_as h s (record { source = h; session = s }) ≡ true
own_held h s = ap (λ b. b && (s.0 == s.0)) (own_number h.0) ∙ own_number s.0

found_head : (h : Handle) (s : Session) (t : Taken) (ts : List Taken) (b : Bool) → is_held_as h s t.held ≡ b → (b || list_any (λ x. is_held_as h s x.held) ts) ≡ true → (list_any (λ x. is_held_as h s x.held) ts ≡ true → Contains (held ts) (record { source = h; session = s })) → Contains (t.held ∷ held ts) (record { source = h; session = s })
found_head h s t ts true is e ih = (0, omega arith, same_held h s t.held is)
found_head h s t ts false is e ih = let c = ih e in (suc c.0, omega (arith, c.1), c.2)

pub found_is_held : (h : Handle) (s : Session) (ts : List Taken) → list_any (λ x. is_held_as h s x.held) ts ≡ true → Contains (held ts) (record { source = h; session = s })
found_is_held h s [] e = absurd (cc)
found_is_held h s (t ∷ ts) e = found_head h s t ts (is_held_as h s t.held) refl e (found_is_held h s ts)

or_true : (a b : Bool) → b ≡ true → (a || b) ≡ true
or_true true b e = refl
or_true false b e = e

at_place : (h : Handle) (s : Session) (ts : List Taken) (n : ℕ) → n < length (held ts) → slice_index_or (held ts) n (record { source = h; session = s }) ≡ record { source = h; session = s } → list_any (λ x. is_held_as h s x.held) ts ≡ true
at_place h s [] n l e = absurd (omega (arith, l))
at_place h s (t ∷ ts) zero l e = ap (λ (x : Held). is_held_as h s x || list_any (λ x. is_held_as h s x.held) ts) e ∙ ap (λ b. b || list_any (λ x. is_held_as h s x.held) ts) (own_held h s)
at_place h s (t ∷ ts) (suc n) l e = or_true (is_held_as h s t.held) (list_any (λ x. is_held_as h s x.held) ts) (at_place h s ts n (omega (arith, l)) e)

pub held_is_found : (h : Handle) (s : Session) (ts : List Taken) → Contains (held ts) (record { source = h; session = s }) → list_any (λ x. is_held_as h s x.held) ts ≡ true
held_is_found h s ts c = at_place h s ts c.0 c.1 c.2
