-- An act draws its session above those that were drawn before.
use Rattle.std.proofs.Common.{◌⊎◌, inl, inr, ℕ, ◌≡◌, ◌<◌, ◌≤◌, ◌==◌, ◌&&◌, ◌||◌, Bool, true, false, not, cond, Option, Some, None, refl, ap, sym, ◌∙◌, subst, arith, if◌then◌else◌}
use Rattle.std.proofs.lemmas.Bool.Decides.{nat_tests}
use Rattle.message.specs.Messages.{is_request, is_answer, is_lua, held_of, bounce}
use Rattle.message.specs.Actors.{Way, IsLawful, IsSound, MayPut, drawn, DrawsAbove}
use Rattle.message.specs.Steps.{IsOne, Asks, service_ops, op_of, input_of, service_after, serving_after}
use Rattle.sk_types.specs.declared.number.Handle.{Handle}
use Rattle.sk_types.specs.declared.number.Kind.{Kind}
use Rattle.sk_types.specs.declared.number.Kind.TheVariants as kind
use Rattle.message.specs.declared.request.Message.{Message}
use Rattle.message.specs.declared.request.Held.{Held}
use Rattle.message.specs.declared.request.Next.TheVariants.{Ask}
use Rattle.message.specs.declared.request.Request.TheVariants as ask
use Rattle.message.specs.declared.record.What.{What}
use Rattle.message.specs.declared.record.What.TheVariants as did
use Rattle.message.specs.declared.place.Service.{Service}
use Rattle.message.specs.declared.place.Service.TheVariants.{Serving, Leaving}
use Rattle.call_fates.specs.Calls.{Call, is_callee, one, asks}
use Rattle.call_fates.specs.Reached.{ServiceOk}
use Rattle.call_fates.specs.Sessions.{IsBelow, IsUpTo, HasDrawn, Draws}
use Rattle.call_fates.proofs.Forms.{LookFits, asks_then, bounce_did, LooksBack, PutsBack}
use Rattle.call_fates.proofs.Worlds.{EndsOrFed, ends_or_fed}

-- SESSIONS

drawn_step : (n before top : ℕ) (d : Option ℕ) → n ≤ before → DrawsAbove before top d → (n ≤ top) × IsBelow n d
drawn_step n before top None le a = (omega (arith, le, a), tt)
drawn_step n before top (Some m) le a = (omega (arith, le, a.0, a.1), omega (arith, le, a.0))

no_more : (before top : ℕ) (d : Option ℕ) → DrawsAbove before top d → IsUpTo top d
no_more before top None a = tt
no_more before top (Some m) a = a.1

abbrev pub IsBehind : {S : Type 0} → Way S → ℕ → Service S → Type 0
IsBehind way n (Serving s) = n ≤ way.asked s
IsBehind way n (Leaving e) = Unit {0}

pub drawn_behind : {S : Type 0} (way : Way S) (n : ℕ) (x : Service S) → HasDrawn way n x → IsBehind way n x
drawn_behind way n (Serving s) d = d.0
drawn_behind way n (Leaving e) d = tt

-- what a service does leaves a session behind that was behind, or that it drew
pub after_drawn : {S : Type 0} (way : Way S) (sound : S → Type 0) → IsLawful way sound → (h : Handle) (x : Service S) (what : What) (n : ℕ) → ServiceOk way sound h x → IsOne (op_of what) (service_ops way x) → LookFits what
    → IsBehind way n x → HasDrawn way n (service_after way x what)
after_drawn way sound lawful h (Serving s) what n ok may fits old = go (ends_or_fed way s what may fits) where
  go : EndsOrFed way s what → HasDrawn way n (serving_after way s what)
  go (inl p) = subst (λ z. HasDrawn way n (serving_after way s z)) (sym p.1) tt
  go (inr p) = subst (HasDrawn way n) (sym p.1) (drawn_step n (way.asked s) (way.asked (way.fed s (input_of what))) (drawn (way.next (way.fed s (input_of what)))) old (lawful.step s (input_of what) ok.0 p.0).1.draws)
after_drawn way sound lawful h (Leaving e) what n ok may fits old = tt

pub after_draws : {S : Type 0} (way : Way S) (sound : S → Type 0) → IsLawful way sound → (h : Handle) (x : Service S) (what : What) → ServiceOk way sound h x → IsOne (op_of what) (service_ops way x) → LookFits what → Draws way (service_after way x what)
after_draws way sound lawful h (Serving s) what ok may fits = go (ends_or_fed way s what may fits) where
  go : EndsOrFed way s what → Draws way (serving_after way s what)
  go (inl p) = subst (λ z. Draws way (serving_after way s z)) (sym p.1) tt
  go (inr p) = subst (Draws way) (sym p.1) (no_more (way.asked s) (way.asked (way.fed s (input_of what))) (drawn (way.next (way.fed s (input_of what)))) (lawful.step s (input_of what) ok.0 p.0).1.draws)
after_draws way sound lawful h (Leaving e) what ok may fits = tt

-- THE REQUEST THAT IS PUT

request_no_answer : (k : Kind) → is_lua k ≡ true → is_answer k ≡ false
request_no_answer kind.Lua e = refl
request_no_answer kind.Text e = absurd (cc)
request_no_answer kind.Response e = absurd (cc)
request_no_answer kind.Error e = absurd (cc)

pub and_first : (a b : Bool) → (a && b) ≡ true → a ≡ true
and_first true b e = refl
and_first false b e = absurd (cc)

pub and_second : (a b : Bool) → (a && b) ≡ true → b ≡ true
and_second true b e = e
and_second false b e = absurd (cc)

pub same_nat : (x y : ℕ) → (x == y) ≡ true → x ≡ y
same_nat x y h = grind (arith, nat_tests)

-- the message is a request of this call
pub record IsAsked (c : Call) (h : ℕ) (m : Message) : Type 0 where
  pub request : is_request m ≡ true
  pub caller : m.source.0 ≡ c.caller.0
  pub session : m.session.0 ≡ c.session.0
  pub callee : is_callee c.callee h ≡ true
  pub once : asks c h m ≡ 1

abbrev pub both : Bool → Bool → ℕ
both d e = cond (d && e) 1 0

-- where asks is not 0
pub asks_is : (c : Call) (h : ℕ) (m : Message) → 0 < asks c h m → IsAsked c h m
asks_is c h m p = go (is_request m) refl (is_callee c.callee h) refl ((m.source.0 == c.caller.0) && (m.session.0 == c.session.0)) refl where
  not_zero : asks c h m ≡ 0 → ⊥
  not_zero z = omega (arith, p, z)

  go : (b : Bool) → is_request m ≡ b → (d : Bool) → is_callee c.callee h ≡ d → (e : Bool) → ((m.source.0 == c.caller.0) && (m.session.0 == c.session.0)) ≡ e → IsAsked c h m
  go true r true f true g = record {
    request = r;
    caller = same_nat m.source.0 c.caller.0 (and_first (m.source.0 == c.caller.0) (m.session.0 == c.session.0) g);
    session = same_nat m.session.0 c.session.0 (and_second (m.source.0 == c.caller.0) (m.session.0 == c.session.0) g);
    callee = f;
    once = ap (λ b. cond b (one c h (held_of m)) 0) r ∙ (ap (λ d. both d ((m.source.0 == c.caller.0) && (m.session.0 == c.session.0))) f ∙ ap (λ e. both true e) g);
  }
  go true r true f false g = absurd (not_zero (ap (λ b. cond b (one c h (held_of m)) 0) r ∙ (ap (λ d. both d ((m.source.0 == c.caller.0) && (m.session.0 == c.session.0))) f ∙ ap (λ e. both true e) g)))
  go true r false f e g = absurd (not_zero (ap (λ b. cond b (one c h (held_of m)) 0) r ∙ ap (λ d. both d ((m.source.0 == c.caller.0) && (m.session.0 == c.session.0))) f))
  go false r d f e g = absurd (not_zero (ap (λ b. cond b (one c h (held_of m)) 0) r))

-- the request that a service puts has its handle, and the session that it draws
put_draws : {S : Type 0} (way : Way S) (s : S) (to : Handle) (m : Message) → IsSound way s → way.next s ≡ Ask (ask.Put to m) → is_request m ≡ true → (m.source ≡ way.handle s) × (drawn (way.next s) ≡ Some m.session.0)
put_draws way s to m ok asked r = (source (subst (MayPut way s) asked ok.puts), ap drawn asked ∙ ap (λ b. if b || (is_answer m.kind && (m.source.0 == 0)) then Some m.session.0 else None) r) where
  plain : is_answer m.kind ≡ false
  plain = request_no_answer m.kind (and_first (is_lua m.kind) (not (m.session.0 == 0)) r)

  source : MayPut way s (Ask (ask.Put to m)) → m.source ≡ way.handle s
  source (inl p) = p.1
  source (inr (inl p)) = absurd (cc (p.2, plain))
  source (inr (inr p)) = absurd (cc (p.3.kind, plain))

bounce_not : (own : Handle) (x : Held) (m : Message) → m ≡ bounce own x → is_request m ≡ false
bounce_not own x m e = ap is_request e

put_is : (h to : Handle) (m n : Message) (b d : Bool) → did.Put h m b ≡ did.Put to n d → m ≡ n
put_is h to m n b d e = cc

-- the service that puts a request: it serves, it is the caller, and draws the session
pub record IsPutter {S : Type 0} (way : Way S) (h : Handle) (x : Service S) (m : Message) : Type 0 where
  pub state : S
  pub serves : x ≡ Serving state
  pub source : m.source ≡ h
  pub draws : drawn (way.next state) ≡ Some m.session.0

pub putter : {S : Type 0} (way : Way S) (sound : S → Type 0) → IsLawful way sound → (h : Handle) (x : Service S) (to : Handle) (m : Message) (b : Bool) → ServiceOk way sound h x → IsOne (Asks (ask.Put to m)) (service_ops way x) → is_request m ≡ true → IsPutter way h x m
putter way sound lawful h (Serving s) to m b ok may req =
    let asks_it = asks_then (way.next s) (ask.Put to m) may in
    let p = put_draws way s to m (lawful.told s ok.0) asks_it req in
    record { state = s; serves = refl; source = p.0 ∙ ok.1; draws = p.1 }
putter {S = S} way sound lawful h (Leaving e) to m b ok may req = go (bounce_did e.own e.found e.bounces (did.Put to m b) may) where
  go : LooksBack e.own e.found e.bounces (did.Put to m b) ⊎ PutsBack e.own e.found e.bounces (did.Put to m b) → IsPutter way h (Leaving e) m
  go (inl p) = absurd (cc (p.4))
  go (inr p) = absurd (cc (bounce_not e.own p.0 m (put_is to p.0.source m (bounce e.own p.0) b p.1 p.4), req))
