-- The handles that a service may put to, or ask a Mark of, were given.
use Rattle.std.proofs.Common.{◌⊎◌, inl, inr, ℕ, ◌≡◌, ◌≤◌, Bool, true, false, [], length, Option, Some, None, if◌then◌else◌, refl, ap, sym, ◌∙◌, subst, arith}
use Rattle.std.specs.Prelude.{Contains}
use Rattle.message.specs.Ends.{first}
use Rattle.message.specs.Actors.{Way, IsLawful, IsNew, IsStep, MayMark, looked_up, retired}
use Rattle.message.specs.Registries.{Registry, is_listed, look}
use Rattle.message.specs.Steps.{Op, Asks, IsOne, next_ops, service_ops, op_of, input_of, service_after, serving_after, ending_after, place_of, registry_does}
use Rattle.message.specs.Worlds.{World}
use Rattle.sk_types.specs.declared.number.Handle.{Handle}
use Rattle.message.specs.declared.request.Held.{Held}
use Rattle.message.specs.declared.request.Dest.{Dest}
use Rattle.message.specs.declared.request.Dest.TheVariants.{Number}
use Rattle.message.specs.declared.request.Request.{Request}
use Rattle.message.specs.declared.request.Request.TheVariants as ask
use Rattle.message.specs.declared.request.Answer.TheVariants.{Found, Flag, Clock as Told, Done}
use Rattle.message.specs.declared.request.Input.{Input}
use Rattle.message.specs.declared.request.Input.TheVariants.{Message as Comes, Answer as Answers}
use Rattle.message.specs.declared.request.Next.{Next}
use Rattle.message.specs.declared.request.Next.TheVariants.{Idle, Ask}
use Rattle.message.specs.declared.record.What.{What}
use Rattle.message.specs.declared.record.What.TheVariants as did
use Rattle.message.specs.declared.place.Ending.{Ending}
use Rattle.message.specs.declared.place.Service.{Service}
use Rattle.message.specs.declared.place.Service.TheVariants.{Serving, Leaving}
use Rattle.call_fates.specs.Reached.{ServiceOk}
use Rattle.call_fates.proofs.Lists.{handle_is}
use Rattle.call_fates.proofs.Forms.{LookFits, look_what, bounce_did, LooksBack, PutsBack}
use Rattle.call_fates.proofs.Inverts.{Registers}
use Rattle.call_fates.proofs.Worlds.{EndsOrFed, ends_or_fed}
use Rattle.call_fates.proofs.Given.{IsGiven, NamesGiven, given_more, given_listed, look_given, looked, retired_true, may_retire_listed}

-- of a service that serves: the handles that it may put to, and the one whose Mark it asks
pub record ServesGiven {S : Type 0} (way : Way S) (n : ℕ) (s : S) : Type 0 where
  pub known : (g : Handle) → Contains (way.known s) g → IsGiven n g
  pub marked : (g : Handle) → way.next s ≡ Ask (ask.Mark g) → IsGiven n g

-- of one that has ended: the caller that it has found
pub record TellsGiven (n : ℕ) (e : Ending) : Type 0 where
  pub caller : (x : Held) → e.found ≡ true → first e.bounces ≡ Some x → IsGiven n x.source

abbrev pub SpeaksOf : {S : Type 0} → Way S → ℕ → Service S → Type 0
SpeaksOf way n (Serving s) = ServesGiven way n s
SpeaksOf way n (Leaving e) = TellsGiven n e

pub speaks_more : {S : Type 0} (way : Way S) (n m : ℕ) (y : Service S) → n ≤ m → SpeaksOf way n y → SpeaksOf way m y
speaks_more way n m (Serving s) le o = record { known = λ g c. given_more n m g le (o.known g c); marked = λ g c. given_more n m g le (o.marked g c) }
speaks_more way n m (Leaving e) le o = record { caller = λ x f c. given_more n m x.source le (o.caller x f c) }

-- what is asked is what is done
pub asks_only : (n : Next) (q : Request) (op : Op) → n ≡ Ask q → IsOne op (next_ops n) → op ≡ Asks q
asks_only Idle q op e may = absurd (cc)
asks_only (Ask p) q op e (inl k) = let same : p ≡ q = cc in k ∙ ap Asks same
asks_only (Ask p) q op e (inr k) = absurd k

-- A LOOK, AND A RETIRE

abbrev LooksUp : Next → Input → Handle → Type 0
LooksUp n i g = (d : Dest) × (n ≡ Ask (ask.Look d)) × (i ≡ Answers (Found (Some g)))

looked_is : (n : Next) (i : Input) (g : Handle) → looked_up n i ≡ Some g → LooksUp n i g
looked_is Idle i g e = absurd (cc)
looked_is (Ask (ask.Look d)) (Answers (Found found)) g e = (d, refl, ap (λ z. Answers (Found z)) e)
looked_is (Ask (ask.Look d)) (Answers (Flag b)) g e = absurd (cc)
looked_is (Ask (ask.Look d)) (Answers (Told n)) g e = absurd (cc)
looked_is (Ask (ask.Look d)) (Answers Done) g e = absurd (cc)
looked_is (Ask (ask.Look d)) (Comes m) g e = absurd (cc)
looked_is (Ask (ask.Put to m)) i g e = absurd (cc)
looked_is (Ask (ask.Launch text args)) i g e = absurd (cc)
looked_is (Ask (ask.Name text to)) i g e = absurd (cc)
looked_is (Ask (ask.Retire to)) i g e = absurd (cc)
looked_is (Ask (ask.Mark to)) i g e = absurd (cc)
looked_is (Ask (ask.Later n x)) i g e = absurd (cc)
looked_is (Ask ask.Now) i g e = absurd (cc)

abbrev Retires : Next → Input → Handle → Type 0
Retires n i g = (n ≡ Ask (ask.Retire g)) × (i ≡ Answers (Flag true))

retired_is : (n : Next) (i : Input) (g : Handle) → retired n i ≡ Some g → Retires n i g
retired_is Idle i g e = absurd (cc)
retired_is (Ask (ask.Retire to)) (Answers (Flag true)) g e = let same : to ≡ g = cc in (ap (λ z. Ask (ask.Retire z)) same, refl)
retired_is (Ask (ask.Retire to)) (Answers (Flag false)) g e = absurd (cc)
retired_is (Ask (ask.Retire to)) (Answers (Found found)) g e = absurd (cc)
retired_is (Ask (ask.Retire to)) (Answers (Told n)) g e = absurd (cc)
retired_is (Ask (ask.Retire to)) (Answers Done) g e = absurd (cc)
retired_is (Ask (ask.Retire to)) (Comes m) g e = absurd (cc)
retired_is (Ask (ask.Look d)) i g e = absurd (cc)
retired_is (Ask (ask.Put to m)) i g e = absurd (cc)
retired_is (Ask (ask.Launch text args)) i g e = absurd (cc)
retired_is (Ask (ask.Name text to)) i g e = absurd (cc)
retired_is (Ask (ask.Mark to)) i g e = absurd (cc)
retired_is (Ask (ask.Later n x)) i g e = absurd (cc)
retired_is (Ask ask.Now) i g e = absurd (cc)

pub retire_what : (g : Handle) (what : What) → op_of what ≡ Asks (ask.Retire g) → (b : Bool) × (what ≡ did.Retire g b)
retire_what g (did.Retire h b) e = let same : h ≡ g = cc in (b, ap (λ z. did.Retire z b) same)
retire_what g (did.Look d f) e = absurd (cc)
retire_what g (did.Put h m taken) e = absurd (cc)
retire_what g (did.Launch name args found) e = absurd (cc)
retire_what g (did.Name text h named) e = absurd (cc)
retire_what g (did.Mark h) e = absurd (cc)
retire_what g (did.Later n x) e = absurd (cc)
retire_what g (did.Now n) e = absurd (cc)
retire_what g (did.Take m left) e = absurd (cc)
retire_what g (did.End ms) e = absurd (cc)
retire_what g (did.Tick due) e = absurd (cc)
retire_what g (did.Fire h m taken) e = absurd (cc)

found_same : (f k : Option Handle) → Answers (Found f) ≡ Answers (Found k) → f ≡ k
found_same f k e = cc

flag_same : (f k : Bool) → Answers (Flag f) ≡ Answers (Flag k) → f ≡ k
flag_same f k e = cc

-- WHAT IS DONE AT THE REGISTRY

-- what a service was answered there
pub record Answered (n : ℕ) (what : What) : Type 0 where
  pub looks : (d : Dest) (g : Handle) → what ≡ did.Look d (Some g) → IsGiven n g
  pub numbers : (k : ℕ) (g : Handle) → what ≡ did.Look (Number k) (Some g) → g.0 ≡ k
  pub retires : (g : Handle) → what ≡ did.Retire g true → IsGiven n g

look_number : (r : Registry) (k : ℕ) (g : Handle) → look r (Number k) ≡ Some g → g.0 ≡ k
look_number r k g e = go (is_listed r.listed k) e where
  go : (b : Bool) → (if b then Some (record { 0 = k }) else None) ≡ Some g → g.0 ≡ k
  go true q = let N : Handle = record { 0 = k } in let same : N ≡ g = cc in sym (ap (λ (z : Handle). z.0) same)
  go false q = absurd (cc)

pub answered : {S : Type 0} (way : Way S) (w : World S) (h : Handle) (what : What) (r : Registry) → NamesGiven (length w.registry.listed) w.registry.named → Registers way w h (op_of what) what r → Answered (length w.registry.listed) what
answered way w h what r names (inr p) = record {
  looks = λ d g e. absurd (p.0 (ap (λ z. place_of h (op_of z)) e));
  numbers = λ k g e. absurd (p.0 (ap (λ z. place_of h (op_of z)) e));
  retires = λ g e. absurd (p.0 (ap (λ z. place_of h (op_of z)) e));
}
answered way w h what r names (inl p) = record { looks = looks; numbers = numbers; retires = retires } where
  at_look : (d : Dest) (g : Handle) → what ≡ did.Look d (Some g) → look w.registry d ≡ Some g
  at_look d g e = looked way w.registry r d (Some g) (subst (λ z. registry_does way (op_of z) w.registry ≡ Some (z, r)) e p.1)

  looks : (d : Dest) (g : Handle) → what ≡ did.Look d (Some g) → IsGiven (length w.registry.listed) g
  looks d g e = look_given w.registry d g names (at_look d g e)

  numbers : (k : ℕ) (g : Handle) → what ≡ did.Look (Number k) (Some g) → g.0 ≡ k
  numbers k g e = look_number w.registry k g (at_look (Number k) g e)

  retires : (g : Handle) → what ≡ did.Retire g true → IsGiven (length w.registry.listed) g
  retires g e = given_listed w.registry.listed g (may_retire_listed w.registry g (retired_true way w.registry r g true (subst (λ z. registry_does way (op_of z) w.registry ≡ Some (z, r)) e p.1)))

-- A SERVICE

module _ {S : Type 0} (way : Way S) (sound : S → Type 0) (lawful : IsLawful way sound) where
  pub new_speaks : (n : ℕ) (own : Handle) (s : S) → IsNew way own s → SpeaksOf way n (Serving s)
  new_speaks n own s new = record { known = λ g c. none g (subst (λ z. Contains z g) new.knows c); marked = λ g e. absurd (idle_not g (sym new.idle ∙ e)) } where
    none : (g : Handle) → Contains {X = Handle} [] g → IsGiven n g
    none g c = let l = c.1 in absurd (omega (arith, l))

    idle_not : (g : Handle) → Idle ≡ Ask (ask.Mark g) → ⊥
    idle_not g e = cc

  fed_speaks : (n : ℕ) (h : Handle) (s : S) (what : What) → IsGiven n h → way.handle s ≡ h → IsOne (op_of what) (next_ops (way.next s)) → Answered n what → ServesGiven way n s → IsStep way s (input_of what) (way.fed s (input_of what)) → ServesGiven way n (way.fed s (input_of what))
  fed_speaks n h s what own is may said old step = record { known = known; marked = marked } where
    s2 : S
    s2 = way.fed s (input_of what)

    learnt : (g : Handle) → LooksUp (way.next s) (input_of what) g → IsGiven n g
    learnt g u =
        let l = look_what u.0 what (asks_only (way.next s) (ask.Look u.0) (op_of what) u.1 may) in
        let same : l.0 ≡ Some g = found_same l.0 (Some g) (ap input_of (sym l.1) ∙ u.2) in
        said.looks u.0 g (l.1 ∙ ap (did.Look u.0) same)

    known : (g : Handle) → Contains (way.known s2) g → IsGiven n g
    known g c = go (step.learns g c) where
      go : Contains (way.known s) g ⊎ (looked_up (way.next s) (input_of what) ≡ Some g) → IsGiven n g
      go (inl k) = old.known g k
      go (inr k) = learnt g (looked_is (way.next s) (input_of what) g k)

    taken_out : (g : Handle) → Retires (way.next s) (input_of what) g → IsGiven n g
    taken_out g u =
        let l = retire_what g what (asks_only (way.next s) (ask.Retire g) (op_of what) u.0 may) in
        let same : l.0 ≡ true = flag_same l.0 true (ap input_of (sym l.1) ∙ u.1) in
        said.retires g (l.1 ∙ ap (did.Retire g) same)

    marked : (g : Handle) → way.next s2 ≡ Ask (ask.Mark g) → IsGiven n g
    marked g e = go (subst (MayMark way s2 (retired (way.next s) (input_of what))) e step.may_mark) where
      go : (g ≡ way.handle s2) ⊎ (retired (way.next s) (input_of what) ≡ Some g) → IsGiven n g
      go (inl k) = subst (IsGiven n) (sym (k ∙ (step.named ∙ is))) own
      go (inr k) = taken_out g (retired_is (way.next s) (input_of what) g k)

  leaving_speaks : (n : ℕ) (e : Ending) (what : What) → Answered n what → IsOne (op_of what) (service_ops way (Leaving e)) → TellsGiven n (ending_after e what)
  leaving_speaks n e what said may = go (bounce_did e.own e.found e.bounces what may) where
    go : LooksBack e.own e.found e.bounces what ⊎ PutsBack e.own e.found e.bounces what → TellsGiven n (ending_after e what)
    go (inr p) = subst (λ z. TellsGiven n (ending_after e z)) (sym p.4) (record { caller = λ x f c. absurd (cc) })
    go (inl p) = look p.1 p.4 where
      look : (answer : Option Handle) → what ≡ did.Look (Number p.0.source.0) answer → TellsGiven n (ending_after e what)
      look None q = subst (λ z. TellsGiven n (ending_after e z)) (sym q) (record { caller = λ x f c. absurd (cc) })
      look (Some g) q = subst (λ z. TellsGiven n (ending_after e z)) (sym q) (record { caller = λ x f c. found x c }) where
        same_held : (a b : Held) → Some a ≡ Some b → a ≡ b
        same_held a b k = cc

        found : (x : Held) → first e.bounces ≡ Some x → IsGiven n x.source
        found x c =
            let same : p.0 ≡ x = same_held p.0 x (sym p.2 ∙ c) in
            let n_is : g.0 ≡ p.0.source.0 = said.numbers p.0.source.0 g q in
            let at_g : IsGiven n g = said.looks (Number p.0.source.0) g q in
            subst (IsGiven n) (handle_is g x.source (n_is ∙ ap (λ (z : Held). z.source.0) same)) at_g

  -- what a service does leaves one that speaks of given handles
  pub after_speaks : (n : ℕ) (h : Handle) (y : Service S) (what : What) → IsGiven n h → ServiceOk way sound h y → IsOne (op_of what) (service_ops way y) → LookFits what → Answered n what → SpeaksOf way n y → SpeaksOf way n (service_after way y what)
  after_speaks n h (Leaving e) what own ok may fits said old = leaving_speaks n e what said may
  after_speaks n h (Serving s) what own ok may fits said old = go (ends_or_fed way s what may fits) where
    go : EndsOrFed way s what → SpeaksOf way n (serving_after way s what)
    go (inl p) = subst (λ z. SpeaksOf way n (serving_after way s z)) (sym p.1) (record { caller = λ x f c. absurd (cc) })
    go (inr p) = subst (SpeaksOf way n) (sym p.1) (fed_speaks n h s what own ok.1 may said old (lawful.step s (input_of what) ok.0 p.0).1)
