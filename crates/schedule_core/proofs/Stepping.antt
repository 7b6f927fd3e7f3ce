-- The core's own steps: what is known of the turns and of the world gives that the two levels still fit.
use Rattle.std.proofs.Common.{inl, ℕ, ◌≡◌, ◌≢◌, Bool, true, false, List, [], ◌∷◌, length, Option, Some, None, slice_get, refl, ap, sym, ◌∙◌, subst}
use Rattle.std.specs.Bool.{OnFalse}
use Rattle.std.proofs.lemmas.Bool.{OnFalse_from}
use Rattle.message.specs.Actors.{Way, IsLawful}
use Rattle.message.specs.Registries.{at}
use Rattle.message.specs.Worlds.{World, act, over}
use Rattle.sk_types.specs.declared.number.Handle.{Handle}
use Rattle.message.specs.declared.record.What.{What}
use Rattle.schedule_core.specs.declared.spot.Rest.{Rest}
use Rattle.schedule_core.specs.declared.spot.Spot.TheVariants.{Hand}
use Rattle.schedule_core.specs.Turns.{Turns, ArePlaced, sent_last, turns_after, IsFetch}
use Rattle.schedule_core.specs.Levels.{Levels, HasTurns, IsTwo, levels_over}
use Rattle.std.specs.Prelude.{Result, Ok, Err, IfOk}
use Rattle.world_machine.specs.Machines.{Run}
use Rattle.world_machine.specs.Launching.{clock_agent}
use Rattle.schedule_core.specs.declared.action.Action.TheVariants as does
use Rattle.schedule_core.specs.Steps.{IsPark, IsExchange, IsStep}
use Rattle.schedule_core.specs.Cores.{parked as parked_lem, followed}
use Rattle.message.specs.declared.place.InboxState.{InboxState}
use Rattle.world_machine.specs.Phases.{phase}
use Rattle.world_machine.specs.declared.phase.Phase.{Phase}
use Rattle.world_machine.specs.declared.phase.Phase.TheVariants as phases
use Rattle.schedule_core.specs.Cores.{TurnBook, Scheduled, levels_of, Steps, Moves, Tried, MayAct}
use Rattle.schedule_core.proofs.Runs.{fetched, parked, exchanged}
use Rattle.schedule_core.proofs.Placed.{held_is}
use Rattle.schedule_core.proofs.Parking.{Parking, parking, phase_idle}
use Rattle.schedule_core.proofs.Following.{follows_act}
use Rattle.call_fates.specs.Kept.{Follows}
use Rattle.call_fates.proofs.Lists.{at_is}
use Rattle.schedule_core.proofs.Acting.{act_two}
use Rattle.schedule_core.proofs.Timers.{act_timers}

-- what follows where nothing was spent
pub on_false : {P Q : Type 0} (b : Bool) → (P → Q) → OnFalse b P → OnFalse b Q
on_false true f p = p
on_false false f p = f p

pub fit_with : {S : Type 0} (way : Way S) (w : World S) (t t2 : Turns) → IsTwo way (record { world = w; turns = t }) → HasTurns way (record { world = w; turns = t2 }) → IsTwo way (record { world = w; turns = t2 })
fit_with way w t t2 fit two = record { turns = two; timers = fit.timers }

pub fit_fetched : {S : Type 0} (way : Way S) (w : World S) (t t2 : Turns) (i : ℕ) (b spent : Bool) → OnFalse spent (IsTwo way (record { world = w; turns = t }))
    → (b ≡ true → (own : Handle) × IsFetch t i own t2) → (b ≡ false → t2 ≡ t) → OnFalse spent (IsTwo way (record { world = w; turns = t2 }))
fit_fetched way w t t2 i true spent fit done other =
    let x = done refl in
    on_false spent (λ (f : IsTwo way (record { world = w; turns = t })). fit_with way w t t2 f (fetched way (record { world = w; turns = t }) f.turns i x.0 t2 x.1)) fit
fit_fetched way w t t2 i false spent fit done other = subst (λ (z : Turns). OnFalse spent (IsTwo way (record { world = w; turns = z }))) (sym (other refl)) fit

pub fit_acted : {S : Type 0} (way : Way S) (sound : S → Type 0) → IsLawful way sound → (w w2 : World S) (t : Turns) (h : Handle) (what : What) → IsTwo way (record { world = w; turns = t }) → MayAct t h → act way w h ≡ Some (what, w2)
    → IsTwo way (record { world = w2; turns = turns_after t what })
fit_acted way sound lawful w w2 t h what fit may e = record {
  turns = act_two way sound lawful (record { world = w; turns = t }) h what w2 fit.turns may e;
  timers = act_timers way w h what w2 fit.timers (fit.turns.services ∙ sym fit.turns.inboxes) e;
}

abbrev with_turns : {A : Type 0} → Run A → Turns → Scheduled A
with_turns run t = record { run = run; turns = t }

one_hand : (g h : Handle) (o : Option (Option Handle)) → o ≡ Some (Some g) → o ≡ Some (Some h) → g ≡ h
one_hand g h o e f = cc

acts_not : {X : Type 0} (x : X) → Some x ≢ None
acts_not x e = cc

-- what a step is, in the core's terms
pub fetch_steps : {A S : Type 0} (way : Way S) (f : A → S) (run : Run A) (b b2 : TurnBook) (i : ℕ) (r : Bool)
    → (r ≡ true → (own : Handle) × IsFetch b.turns i own b2.turns) → (r ≡ false → ((own : Handle) (t3 : Turns) → IsFetch b.turns i own t3 → ⊥) × (b2 ≡ b))
    → Steps way f (record { run = run; turns = b.turns }) (does.Fetch i) r (record { run = run; turns = b2.turns })
fetch_steps way f run b b2 i true done none = let x = done refl in ([], (x.0, refl, refl, x.1), refl)
fetch_steps way f run b b2 i false done none =
    let n = none refl in
    (record { none = λ who c2 y. n.0 y.0 c2.turns y.3 }, ap (λ (z : TurnBook). with_turns run z.turns) n.1)

pub act_steps : {A S : Type 0} (way : Way S) (f : A → S) (s s2 : Scheduled A) (i : ℕ) (own : Handle) (r : Bool) → slice_get s.turns.hands i ≡ Some (Some own) → Moves way f s own r s2 → Steps way f s (does.Act i) r s2
act_steps way f s s2 i own true has m = (own ∷ [], (own, m.0, refl, record { has = has; acts = m.1; after = inl m.3 }), ((m.0, over f s2.run.world), s2.run.calls, m.1, m.2, refl))
act_steps {S = S} way f s s2 i own false has m = (record { none = λ who c2 y. cannot who c2 y }, m.1) where
  cannot : (who : List Handle) (c2 : Levels S) → IsStep way (levels_of f s) (does.Act i) who c2 → ⊥
  cannot who c2 y =
      let same : own ≡ y.0 = one_hand own y.0 (slice_get s.turns.hands i) has y.3.has in
      acts_not _ (sym (ap (act way (over f s.run.world)) same ∙ y.3.acts) ∙ m.0)

pub clock_steps : {A S : Type 0} (way : Way S) (f : A → S) (s s2 : Scheduled A) (h : Handle) (r : Bool) → h ≡ clock_agent → Moves way f s h r s2 → Steps way f s does.Clock r s2
clock_steps way f s s2 h true is m =
    let acts = ap (act way (over f s.run.world)) (sym is) ∙ m.1 in
    let follows = subst (λ (g : Handle). Follows way (over f s.run.world) g m.0 s.run.calls s2.run.calls) is m.2 in
    (clock_agent ∷ [], (m.0, refl, record { acts = acts; after = m.3 }), ((m.0, over f s2.run.world), s2.run.calls, acts, follows, refl))
clock_steps way f s s2 h false is m = (record { none = λ who c2 y. acts_not _ (sym y.2.acts ∙ (ap (act way (over f s.run.world)) (sym is) ∙ m.0)) }, m.1)

pub if_ok : {X E : Type 0} (r : Result X E) (P Q : X → Type 0) → ((x : X) → P x → Q x) → IfOk r P → IfOk r Q
if_ok (Ok x) P Q f p = f x p
if_ok (Err e) P Q f p = p

-- an Exchange
pub exchanges_by : {S : Type 0} (way : Way S) (w : World S) (t t1 t2 : Turns) (i : ℕ) (own : Handle) (p : Option Phase) → ArePlaced t → slice_get t.hands i ≡ Some (Some own) → p ≡ phase way w own → p ≡ Some phases.Idle → (t.queue ≡ [] → ⊥) → t1 ≡ t
    → (new : Handle) × IsFetch (sent_last t1 i own) i new t2 → (old : Handle) × (new : Handle) × IsExchange way w t i old new t2
exchanges_by way w t t1 t2 i own p placed has told idle waits same x =
    let held = held_is t i own placed has in
    let found = phase_idle way w own (at_is t.spots own.0 Hand held).0 (sym told ∙ idle) in (
      own,
      x.0,
      record {
        mid = sent_last t i own;
        waits = waits;
        puts = record { has = has; service = found.0; there = found.1; idle = found.2; after = refl };
        gets = subst (λ (z : Turns). IsFetch (sent_last z i own) i x.0 t2) same x.1;
      },
    )

pub fit_exchanged : {S : Type 0} (way : Way S) (w : World S) (t t2 : Turns) (i : ℕ) (spent : Bool) → OnFalse spent (IsTwo way (record { world = w; turns = t }))
    → (old : Handle) × (new : Handle) × IsExchange way w t i old new t2 → OnFalse spent (IsTwo way (record { world = w; turns = t2 }))
fit_exchanged way w t t2 i spent fit x =
    on_false spent (λ (z : IsTwo way (record { world = w; turns = t })). fit_with way w t t2 z (exchanged way (record { world = w; turns = t }) z.turns i x.0 x.1 t2 x.2)) fit

-- a Park
pub fit_parked : {S : Type 0} (way : Way S) (w : World S) (t t2 : Turns) (i : ℕ) (own : Handle) (spent : Bool) → OnFalse spent (IsTwo way (record { world = w; turns = t })) → IsPark way w t i own t2 → OnFalse spent (IsTwo way (record { world = w; turns = t2 }))
fit_parked way w t t2 i own spent fit x =
    on_false spent (λ (z : IsTwo way (record { world = w; turns = t })). fit_with way w t t2 z (parked way (record { world = w; turns = t }) z.turns i own t2 x)) fit

pub park_says : {S : Type 0} (way : Way S) (w : World S) (t : Turns) (i : ℕ) (own : Handle) (p : Option Phase) (o : Option InboxState) (q : Option Rest) → ArePlaced t → slice_get t.hands i ≡ Some (Some own)
    → p ≡ phase way w own → o ≡ at w.inboxes own.0 → q ≡ parked_lem p o → Parking way t i own w q
park_says way w t i own p o q placed has told found is =
    let held = held_is t i own placed has in
    subst (Parking way t i own w) (sym (is ∙ (ap (λ z. parked_lem z o) told ∙ ap (parked_lem (phase way w own)) found))) (parking way t i own w (at_is t.spots own.0 Hand held).0 has)

-- an act
abbrev GoesOn : {A S : Type 0} → Way S → (A → S) → Run A → Turns → Handle → Run A → Turns → Type 0
GoesOn way f r t h r2 t2 = (what : What) × (act way (over f r.world) h ≡ Some (what, over f r2.world)) × Follows way (over f r.world) h what r.calls r2.calls × (t2 ≡ turns_after t what)

pub follows_so : {A S : Type 0} (way : Way S) (f : A → S) (r r2 : Run A) (t t2 : Turns) (h : Handle) (b : Bool) (p : Option Phase) (before after : ℕ) → IsTwo way (levels_over f r.world t) → b ≡ true → Tried way f r h b r2
    → p ≡ phase way (over f r.world) h → before ≡ length r.world.registry.listed → after ≡ length r2.world.registry.listed → t2 ≡ followed p before after t → GoesOn way f r t h r2 t2
follows_so way f r r2 t t2 h false p before after fit e x told b1 b2 is = absurd (cc)
follows_so way f r r2 t t2 h true p before after fit e x told b1 b2 is =
    (x.0, x.1, x.2, is ∙ (ap (λ n. followed p n after t) b1 ∙ (ap (λ n. followed p (length r.world.registry.listed) n t) b2 ∙ follows_act way (levels_over f r.world t) h x.0 (over f r2.world) fit.turns x.1 p told)))

pub fit_gone_on : {A S : Type 0} (way : Way S) (sound : S → Type 0) → IsLawful way sound → (f : A → S) (r r2 : Run A) (t t2 : Turns) (h : Handle) → IsTwo way (levels_over f r.world t) → MayAct t h → GoesOn way f r t h r2 t2
    → OnFalse r2.spent (IsTwo way (levels_over f r2.world t2))
fit_gone_on way sound lawful f r r2 t t2 h fit may x = OnFalse_from r2.spent (IsTwo way (levels_over f r2.world t2))
    (λ whole. subst (λ (z : Turns). IsTwo way (levels_over f r2.world z)) (sym x.3) (fit_acted way sound lawful (over f r.world) (over f r2.world) t h x.0 fit may x.1))

abbrev pub followed_with : Option Phase → ℕ → ℕ → Turns → Turns
followed_with p before after t = followed p before after t
