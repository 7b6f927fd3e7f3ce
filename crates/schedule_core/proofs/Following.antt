-- The turns follow an act: what the agent was about to do, and the number of handles, tell which turn is queued.
use Rattle.std.proofs.Common.{inl, inr, ℕ, ◌≡◌, ◌≢◌, ◌<◌, ◌+◌, nat_lt, Bool, true, false, List, [], ◌∷◌, length, Option, Some, None, if◌then◌else◌, refl, ap, sym, ◌∙◌, arith, length-append}
use Rattle.std.specs.Option.{option_map}
use Rattle.std.proofs.lemmas.Bool.Decides.{nat_tests}
use Rattle.message.specs.Messages.{bounce, timer_message}
use Rattle.message.specs.Actors.{Way}
use Rattle.message.specs.Registries.{Registry, register, next_handle}
use Rattle.message.specs.Steps.{Op, Asks, Ticks, Fires, Agent, Serves, Times, IsOne, ops, next_ops, bounce_ops, op_of}
use Rattle.message.specs.Worlds.{World, act}
use Rattle.sk_types.specs.declared.number.Handle.{Handle}
use Rattle.message.specs.declared.datum.Datum.{Datum}
use Rattle.message.specs.declared.request.Dest.TheVariants.{Number}
use Rattle.message.specs.declared.request.Held.{Held}
use Rattle.message.specs.declared.request.Request.TheVariants as ask
use Rattle.message.specs.declared.request.Next.{Next}
use Rattle.message.specs.declared.request.Next.TheVariants.{Idle, Ask}
use Rattle.message.specs.declared.record.What.{What}
use Rattle.message.specs.declared.record.What.TheVariants as did
use Rattle.message.specs.declared.place.Service.TheVariants.{Serving, Leaving}
use Rattle.world_machine.specs.Phases.{op_phase, phase_of, phase}
use Rattle.world_machine.specs.declared.phase.Phase.{Phase}
use Rattle.call_fates.proofs.Lists.{handle_is}
use Rattle.call_fates.proofs.Inverts.{Acted, acted, Grows, Registers}
use Rattle.call_fates.proofs.Worlds.{listed_len, launch_listed, registry_given}
use Rattle.schedule_core.specs.Turns.{Turns, joined, turns_after}
use Rattle.schedule_core.specs.Levels.{Levels, HasTurns}
use Rattle.schedule_core.specs.Cores.{followed}

-- the phase is that of what is done
phase_one : (op : Op) (all : List Op) → IsOne op all → ((one two : Op) → IsOne one all → IsOne two all → op_phase one ≡ op_phase two) → phase_of all ≡ op_phase op
phase_one op [] one same = absurd one
phase_one op (x ∷ more) one same = same x op (inl refl) one

next_same : (n : Next) (one two : Op) → IsOne one (next_ops n) → IsOne two (next_ops n) → op_phase one ≡ op_phase two
next_same Idle one two (inl e) (inl f) = ap op_phase e ∙ sym (ap op_phase f)
next_same Idle one two (inl e) (inr (inl f)) = ap op_phase e ∙ sym (ap op_phase f)
next_same Idle one two (inl e) (inr (inr f)) = absurd f
next_same Idle one two (inr (inl e)) (inl f) = ap op_phase e ∙ sym (ap op_phase f)
next_same Idle one two (inr (inl e)) (inr (inl f)) = ap op_phase e ∙ sym (ap op_phase f)
next_same Idle one two (inr (inl e)) (inr (inr f)) = absurd f
next_same Idle one two (inr (inr e)) k = absurd e
next_same (Ask r) one two (inl e) (inl f) = ap op_phase (e ∙ sym f)
next_same (Ask r) one two (inl e) (inr f) = absurd f
next_same (Ask r) one two (inr e) k = absurd e

-- where there is one operation at most
only_one : (x one two : Op) → IsOne one (x ∷ []) → IsOne two (x ∷ []) → op_phase one ≡ op_phase two
only_one x one two (inl e) (inl f) = ap op_phase (e ∙ sym f)
only_one x one two (inl e) (inr f) = absurd f
only_one x one two (inr e) k = absurd e

below_not : (n m : ℕ) → m ≡ n → n < m → ⊥
below_not n m e l = omega (arith, e, l)

bounce_same : (own : Handle) (found : Bool) (xs : List Held) (one two : Op) → IsOne one (bounce_ops own found xs) → IsOne two (bounce_ops own found xs) → op_phase one ≡ op_phase two
bounce_same own found [] one two j k = absurd j
bounce_same own false (x ∷ xs) one two j k = only_one (Asks (ask.Look (Number x.source.0))) one two j k
bounce_same own true (x ∷ xs) one two j k = only_one (Asks (ask.Put x.source (bounce own x))) one two j k

same_phase : {S : Type 0} (way : Way S) (a : Agent S) (one two : Op) → IsOne one (ops way a) → IsOne two (ops way a) → op_phase one ≡ op_phase two
same_phase way (Serves (Serving s)) one two j k = next_same (way.next s) one two j k
same_phase way (Serves (Leaving e)) one two j k = bounce_same e.own e.found e.bounces one two j k
same_phase way (Times []) one two j k = only_one Ticks one two j k
same_phase way (Times (d ∷ ds)) one two j k = only_one (Fires d.0 (timer_message d.1)) one two j k

-- what an agent did was in the phase that was told
pub phase_was : {S : Type 0} (way : Way S) (w : World S) (h : Handle) (what : What) (w2 : World S) → Acted way w h (what, w2) → phase way w h ≡ Some (op_phase (op_of what))
phase_was way w h what w2 x = ap (option_map (λ a. phase_of (ops way a))) x.there ∙ ap Some (phase_one (op_of what) (ops way x.who) x.may (same_phase way x.who))

-- THE NUMBER OF HANDLES

not_below : (n m : ℕ) → m ≡ n → nat_lt n m ≡ false
not_below n m e = grind (arith, nat_tests)

is_below : (n m : ℕ) → m ≡ n + 1 → nat_lt n m ≡ true
is_below n m e = grind (arith, nat_tests)

module _ {S : Type 0} (way : Way S) (c : Levels S) (h : Handle) (two : HasTurns way c) where
  abbrev w : World S
  w = c.world

  abbrev t : Turns
  t = c.turns

  given : (what : What) (w2 : World S) → Acted way w h (what, w2) → ((text : List ℕ) (args : List Datum) (own : Handle) → what ≡ did.Launch text args (Some own) → ⊥) → length w2.registry.listed ≡ length w.registry.listed
  given what w2 x none = go x.grows where
    go : Grows way what x.mid w2 → length w2.registry.listed ≡ length w.registry.listed
    go (inl p) = ap (λ (z : World S). length z.registry.listed) p.0 ∙ listed_len way w h what x.mid.registry x.registry (λ text args own e. absurd (none text args own e))
    go (inr l) = absurd (none l.text l.args l.own l.is)

  -- a handle more, that of the new service
  launched : (text : List ℕ) (args : List Datum) (own : Handle) (w2 : World S) → Acted way w h (did.Launch text args (Some own), w2) → (length w2.registry.listed ≡ length w.registry.listed + 1) × (own.0 ≡ length w.registry.listed + 1)
  launched text args own w2 x = go x.grows where
    listed : (own ≡ next_handle w.registry) × (x.mid.registry ≡ register w.registry)
    listed = launch_listed way w h (did.Launch text args (Some own)) x.mid.registry text args own x.registry refl

    bars : Registers way w h (op_of (did.Launch text args (Some own))) (did.Launch text args (Some own)) x.mid.registry → way.begins text own ≢ None
    bars (inl p) = (registry_given way (op_of (did.Launch text args (Some own))) w.registry (did.Launch text args (Some own)) x.mid.registry p.1).2
    bars (inr p) = absurd (p.0 refl)

    go : Grows way (did.Launch text args (Some own)) x.mid w2 → (length w2.registry.listed ≡ length w.registry.listed + 1) × (own.0 ≡ length w.registry.listed + 1)
    go (inl p) = absurd (bars x.registry (p.1 text args own refl))
    go (inr l) = (ap (λ (z : World S). length z.registry.listed) l.grown ∙ (ap (λ (z : Registry). length z.listed) listed.1 ∙ length-append w.registry.listed (true ∷ [])), ap (λ (z : Handle). z.0) listed.0)

  abbrev Follows : What → World S → Type 0
  Follows what w2 = followed (Some (op_phase (op_of what))) (length w.registry.listed) (length w2.registry.listed) t ≡ turns_after t what

  stays : (what : What) (w2 : World S) → Acted way w h (what, w2) → ((text : List ℕ) (args : List Datum) (own : Handle) → what ≡ did.Launch text args (Some own) → ⊥)
      → (if nat_lt (length w.registry.listed) (length w2.registry.listed) then joined t (record { 0 = length w2.registry.listed }) else t) ≡ t
  stays what w2 x none = ap (λ b. if b then joined t (record { 0 = length w2.registry.listed }) else t) (not_below (length w.registry.listed) (length w2.registry.listed) (given what w2 x none))

  follows : (what : What) (w2 : World S) → Acted way w h (what, w2) → Follows what w2
  follows (did.Put to m b) w2 x = refl
  follows (did.Mark to) w2 x = refl
  follows (did.Fire to m b) w2 x = refl
  follows (did.Launch text args (Some own)) w2 x =
      let l = launched text args own w2 x in
      let same : own ≡ record { 0 = length w2.registry.listed } = handle_is own (record { 0 = length w2.registry.listed }) (l.1 ∙ sym l.0) in
      ap (λ b. if b then joined t (record { 0 = length w2.registry.listed }) else t) (is_below (length w.registry.listed) (length w2.registry.listed) l.0) ∙ ap (joined t) (sym same)
  follows (did.Launch text args None) w2 x = stays (did.Launch text args None) w2 x (λ a b o e. cc)
  follows (did.Look d f) w2 x = stays (did.Look d f) w2 x (λ a b o e. cc)
  follows (did.Name text to b) w2 x = stays (did.Name text to b) w2 x (λ a b2 o e. cc)
  follows (did.Retire to b) w2 x = stays (did.Retire to b) w2 x (λ a b2 o e. cc)
  follows (did.Later n s) w2 x = stays (did.Later n s) w2 x (λ a b o e. cc)
  follows (did.Now n) w2 x = stays (did.Now n) w2 x (λ a b o e. cc)
  follows (did.Take m left) w2 x = stays (did.Take m left) w2 x (λ a b o e. cc)
  follows (did.End ms) w2 x = stays (did.End ms) w2 x (λ a b o e. cc)
  follows (did.Tick due) w2 x = stays (did.Tick due) w2 x (λ a b o e. cc)

pub follows_act : {S : Type 0} (way : Way S) (c : Levels S) (h : Handle) (what : What) (w2 : World S) → HasTurns way c → act way c.world h ≡ Some (what, w2)
    → (p : Option Phase) → p ≡ phase way c.world h → followed p (length c.world.registry.listed) (length w2.registry.listed) c.turns ≡ turns_after c.turns what
follows_act way c h what w2 two e p is =
    let x = acted way c.world h (what, w2) e in
    ap (λ q. followed q (length c.world.registry.listed) (length w2.registry.listed) c.turns) (is ∙ phase_was way c.world h what w2 x) ∙ follows way c h two what w2 x
