-- The list names the callee of each call.
use Rattle.std.proofs.Common.{◌⊎◌, inl, inr, ℕ, ◌≡◌, ◌≤◌, ◌+◌, ◌==◌, ◌&&◌, not, Bool, true, false, List, [], ◌∷◌, Option, Some, None, IsSome, cond, refl, ap, sym, ◌∙◌, subst, arith}
use Rattle.std.proofs.lemmas.Bool.Decides.{nat_tests}
use Rattle.std.proofs.lemmas.List.Sums.{sum_by-le-sum_by}
use Rattle.message.specs.Messages.{is_answer, is_request, held_of}
use Rattle.message.specs.Actors.{Way, IsLawful}
use Rattle.message.specs.Worlds.{World, agent, act}
use Rattle.sk_types.specs.declared.number.Handle.{Handle}
use Rattle.message.specs.declared.request.Message.{Message}
use Rattle.message.specs.declared.request.Held.{Held as Request}
use Rattle.message.specs.declared.record.What.{What}
use Rattle.message.specs.declared.record.What.TheVariants as did
use Rattle.message.specs.declared.place.InboxState.{InboxState}
use Rattle.message.specs.declared.place.Service.{Service}
use Rattle.message.specs.declared.place.Service.TheVariants.{Serving, Leaving}
use Rattle.call_fates.specs.Calls.{Call, one_if, one, one_of, all_of, asks, replies, total, asks_in, replies_in, holds, sends, waiting, held, on_its_way}
use Rattle.call_fates.specs.Fates.{is_response, makes, answers, fails, voids, replying_at, with_act, tally}
use Rattle.call_fates.specs.Flows.{receives}
use Rattle.call_fates.specs.Table.{Table, state_at, with_fate, call_of, call_to, names}
use Rattle.call_fates.specs.Kept.{turns_at, fate_by, turned_by, receiver, next_state, Follows, HasFate, IsKept, in_state, is_waiting, is_held, is_on_its_way}
use Rattle.call_fates.specs.declared.calls.CallKey.{CallKey}
use Rattle.call_fates.specs.declared.calls.CallState.{CallState}
use Rattle.call_fates.specs.declared.calls.Fate.{Fate}
use Rattle.call_fates.specs.declared.calls.Fate.TheVariants.{Waiting, Held, OnItsWay, Answered, Failed, Void}
use Rattle.call_fates.proofs.Inverts.{Acted}
use Rattle.call_fates.proofs.Journals.{Maker, maker, first_time, sum_step}

-- WITH A CALLEE THERE IS NO MORE THAN WITHOUT

first_le : (x y : Bool) → one_if (x && y) ≤ one_if (true && y)
first_le true y = omega arith
first_le false true = omega arith
first_le false false = omega arith

third_le : (a b x y : Bool) → one_if (a && (b && (x && y))) ≤ one_if (a && (b && (true && y)))
third_le true true x y = first_le x y
third_le true false x y = omega arith
third_le false b x y = omega arith

cond_le : (b : Bool) (n m : ℕ) → n ≤ m → cond b n 0 ≤ cond b m 0
cond_le true n m le = le
cond_le false n m le = omega arith

else_le : (b : Bool) (n m : ℕ) → n ≤ m → cond b 0 n ≤ cond b 0 m
else_le true n m le = omega arith
else_le false n m le = le

total_below : {X : Type 0} (f g : ℕ → X → ℕ) → ((h : ℕ) (x : X) → f h x ≤ g h x) → (h : ℕ) (xs : List X) → total f h xs ≤ total g h xs
total_below f g le h [] = omega arith
total_below f g le h (x ∷ xs) = let here = le h x in let more = total_below f g le (h + 1) xs in omega (arith, here, more)

module _ (q : CallKey) (d : Handle) where
  one_le : (h : ℕ) (x : Request) → one (call_to q d) h x ≤ one (call_of q) h x
  one_le h x = first_le (h == d.0) ((x.source.0 == q.caller.0) && (x.session.0 == q.session.0))

  one_of_le : (h : ℕ) (x : Option Request) → one_of (call_to q d) h x ≤ one_of (call_of q) h x
  one_of_le h None = omega arith
  one_of_le h (Some x) = one_le h x

  all_of_le : (h : ℕ) (xs : List Request) → all_of (call_to q d) h xs ≤ all_of (call_of q) h xs
  all_of_le h xs = sum_by-le-sum_by (one (call_to q d) h) (one (call_of q) h) xs (one_le h)

  asks_le : (h : ℕ) (m : Message) → asks (call_to q d) h m ≤ asks (call_of q) h m
  asks_le h m = cond_le (is_request m) (one (call_to q d) h (held_of m)) (one (call_of q) h (held_of m)) (one_le h (held_of m))

  replies_le : (h : ℕ) (m : Message) → replies (call_to q d) h m ≤ replies (call_of q) h m
  replies_le h m = third_le (is_answer m.kind) (not (m.source.0 == 0)) (m.source.0 == d.0) ((h == q.caller.0) && (m.session.0 == q.session.0))

  asks_in_le : (h : ℕ) (i : InboxState) → asks_in (call_to q d) h i ≤ asks_in (call_of q) h i
  asks_in_le h i = sum_by-le-sum_by (asks (call_to q d) h) (asks (call_of q) h) i.waiting (asks_le h)

  replies_in_le : (h : ℕ) (i : InboxState) → replies_in (call_to q d) h i ≤ replies_in (call_of q) h i
  replies_in_le h i = sum_by-le-sum_by (replies (call_to q d) h) (replies (call_of q) h) i.waiting (replies_le h)

  -- in an act

  makes_le : (what : What) → makes (call_to q d) what ≤ makes (call_of q) what
  makes_le (did.Put to m true) = asks_le to.0 m
  makes_le (did.Put to m false) = omega arith
  makes_le (did.Look dest f) = omega arith
  makes_le (did.Launch text args f) = omega arith
  makes_le (did.Name text to b) = omega arith
  makes_le (did.Retire to b) = omega arith
  makes_le (did.Mark to) = omega arith
  makes_le (did.Later n x) = omega arith
  makes_le (did.Now n) = omega arith
  makes_le (did.Take m l) = omega arith
  makes_le (did.End ms) = omega arith
  makes_le (did.Tick due) = omega arith
  makes_le (did.Fire to m b) = omega arith

  pub answers_le : (h : Handle) (what : What) → answers (call_to q d) h what ≤ answers (call_of q) h what
  answers_le h (did.Take m l) = cond_le (is_response m.kind) (replies (call_to q d) h.0 m) (replies (call_of q) h.0 m) (replies_le h.0 m)
  answers_le h (did.Put to m b) = omega arith
  answers_le h (did.Look dest f) = omega arith
  answers_le h (did.Launch text args f) = omega arith
  answers_le h (did.Name text to b) = omega arith
  answers_le h (did.Retire to b) = omega arith
  answers_le h (did.Mark to) = omega arith
  answers_le h (did.Later n x) = omega arith
  answers_le h (did.Now n) = omega arith
  answers_le h (did.End ms) = omega arith
  answers_le h (did.Tick due) = omega arith
  answers_le h (did.Fire to m b) = omega arith

  pub fails_le : (h : Handle) (what : What) → fails (call_to q d) h what ≤ fails (call_of q) h what
  fails_le h (did.Take m l) = else_le (is_response m.kind) (replies (call_to q d) h.0 m) (replies (call_of q) h.0 m) (replies_le h.0 m)
  fails_le h (did.Put to m b) = omega arith
  fails_le h (did.Look dest f) = omega arith
  fails_le h (did.Launch text args f) = omega arith
  fails_le h (did.Name text to b) = omega arith
  fails_le h (did.Retire to b) = omega arith
  fails_le h (did.Mark to) = omega arith
  fails_le h (did.Later n x) = omega arith
  fails_le h (did.Now n) = omega arith
  fails_le h (did.End ms) = omega arith
  fails_le h (did.Tick due) = omega arith
  fails_le h (did.Fire to m b) = omega arith

  pub voids_le : (h : Handle) (sent : Option Request) (what : What) → voids (call_to q d) h sent what ≤ voids (call_of q) h sent what
  voids_le h sent (did.Look dest None) = one_of_le h.0 sent
  voids_le h sent (did.Look dest (Some g)) = omega arith
  voids_le h sent (did.Put to m false) = one_of_le h.0 sent
  voids_le h sent (did.Put to m true) = omega arith
  voids_le h sent (did.End ms) = sum_by-le-sum_by (replies (call_to q d) h.0) (replies (call_of q) h.0) ms (replies_le h.0)
  voids_le h sent (did.Launch text args f) = omega arith
  voids_le h sent (did.Name text to b) = omega arith
  voids_le h sent (did.Retire to b) = omega arith
  voids_le h sent (did.Mark to) = omega arith
  voids_le h sent (did.Later n x) = omega arith
  voids_le h sent (did.Now n) = omega arith
  voids_le h sent (did.Take m l) = omega arith
  voids_le h sent (did.Tick due) = omega arith
  voids_le h sent (did.Fire to m b) = omega arith

  module _ {S : Type 0} (way : Way S) where
    holds_le : (h : ℕ) (x : Service S) → holds way (call_to q d) h x ≤ holds way (call_of q) h x
    holds_le h (Serving s) = all_of_le h (way.held s)
    holds_le h (Leaving e) = omega arith

    sends_le : (h : ℕ) (x : Service S) → sends way (call_to q d) h x ≤ sends way (call_of q) h x
    sends_le h (Serving s) = one_of_le h (way.reply s)
    sends_le h (Leaving e) = all_of_le h e.bounces

    pub waiting_le : (w : World S) → waiting (call_to q d) w ≤ waiting (call_of q) w
    waiting_le w = total_below (asks_in (call_to q d)) (asks_in (call_of q)) asks_in_le 1 w.inboxes

    pub held_le : (w : World S) → held way (call_to q d) w ≤ held way (call_of q) w
    held_le w = total_below (holds way (call_to q d)) (holds way (call_of q)) holds_le 1 w.services

    pub on_its_way_le : (w : World S) → on_its_way way (call_to q d) w ≤ on_its_way way (call_of q) w
    on_its_way_le w =
        let at_services = total_below (sends way (call_to q d)) (sends way (call_of q)) sends_le 1 w.services in
        let in_inboxes = total_below (replies_in (call_to q d)) (replies_in (call_of q)) replies_in_le 1 w.inboxes in
        omega (arith, at_services, in_inboxes)

-- a sum over a journal is no more than one of larger terms
pub tally_le : {S : Type 0} (way : Way S) (f g : World S → Handle → What → ℕ) → ((v : World S) (h : Handle) (what : What) → f v h what ≤ g v h what) → (hs : List Handle) (w : World S) → tally way f hs w ≤ tally way g hs w
tally_le way f g le [] w = omega arith
tally_le {S = S} way f g le (h ∷ hs) w = go (λ v. tally_le way f g le hs v) (act way w h) where
  go : ((v : World S) → tally way f hs v ≤ tally way g hs v) → (r : Option (What × World S)) → with_act r (f w h) (λ v. tally way f hs v) ≤ with_act r (g w h) (λ v. tally way g hs v)
  go later None = omega arith
  go later (Some r) = let here = le w h r.0 in let more = later r.1 in omega (arith, here, more)

-- WHOM THE LIST NAMES

abbrev pub callee_of : Option CallState → Option Handle
callee_of None = None
callee_of (Some s) = Some s.callee

either : {X Y : Type 0} (f : X → Y) (b : Bool) (x y : X) (z : Y) → f x ≡ z → f y ≡ z → f (cond b x y) ≡ z
either f true x y z one two = one
either f false x y z one two = two

-- what no fate changes stays
stays : {Y : Type 0} (f : Option CallState → Y) → ((y : Fate) (s : Option CallState) → f (with_fate y s) ≡ f s) → (on v a l r : ℕ) (s : Option CallState) → f (turned_by on (fate_by v a l r s)) ≡ f s
stays f same on v a l r s =
    let held_is = either f (r == 0) s (with_fate Held s) (f s) refl (same Held s) in
    let failed_is = either f (l == 0) (cond (r == 0) s (with_fate Held s)) (with_fate Failed s) (f s) held_is (same Failed s) in
    let answered_is = either f (a == 0) (cond (l == 0) (cond (r == 0) s (with_fate Held s)) (with_fate Failed s)) (with_fate Answered s) (f s) failed_is (same Answered s) in
    let void_is : f (fate_by v a l r s) ≡ f s = either f (v == 0) (cond (a == 0) (cond (l == 0) (cond (r == 0) s (with_fate Held s)) (with_fate Failed s)) (with_fate Answered s)) (with_fate Void s) (f s) answered_is (same Void s) in
    either f (on == 0) (fate_by v a l r s) (with_fate OnItsWay (fate_by v a l r s)) (f s) void_is (same OnItsWay (fate_by v a l r s) ∙ void_is)

callee_same : (y : Fate) (s : Option CallState) → callee_of (with_fate y s) ≡ callee_of s
callee_same y None = refl
callee_same y (Some s) = refl

names_same : (d : Handle) (y : Fate) (s : Option CallState) → names d (with_fate y s) ≡ names d s
names_same d y None = refl
names_same d y (Some s) = refl

turned_same : {Y : Type 0} (f : Option CallState → Y) → ((y : Fate) (s : Option CallState) → f (with_fate y s) ≡ f s) → (on : ℕ) (s : Option CallState) → f (turned_by on s) ≡ f s
turned_same f same on s = either f (on == 0) s (with_fate OnItsWay s) (f s) refl (same OnItsWay s)

-- a call that is made is made to who gets its request
asks_to : (b x y : Bool) → cond b (one_if (true && y)) 0 ≡ 1 → cond b (one_if (x && y)) 0 ≡ one_if x
asks_to true true true e = refl
asks_to true false true e = refl
asks_to true x false e = absurd (omega (arith, e))
asks_to false x y e = absurd (omega (arith, e))

makes_to : (q : CallKey) (d : Handle) (what : What) → makes (call_of q) what ≡ 1 → makes (call_to q d) what ≡ one_if ((receiver what).0 == d.0)
makes_to q d (did.Put to m true) e = asks_to (is_request m) (to.0 == d.0) (((held_of m).source.0 == q.caller.0) && ((held_of m).session.0 == q.session.0)) e
makes_to q d (did.Put to m false) e = absurd (omega (arith, e))
makes_to q d (did.Look dest f) e = absurd (omega (arith, e))
makes_to q d (did.Launch text args f) e = absurd (omega (arith, e))
makes_to q d (did.Name text to b) e = absurd (omega (arith, e))
makes_to q d (did.Retire to b) e = absurd (omega (arith, e))
makes_to q d (did.Mark to) e = absurd (omega (arith, e))
makes_to q d (did.Later n x) e = absurd (omega (arith, e))
makes_to q d (did.Now n) e = absurd (omega (arith, e))
makes_to q d (did.Take m l) e = absurd (omega (arith, e))
makes_to q d (did.End ms) e = absurd (omega (arith, e))
makes_to q d (did.Tick due) e = absurd (omega (arith, e))
makes_to q d (did.Fire to m b) e = absurd (omega (arith, e))

pub itself : (n : ℕ) → one_if (n == n) ≡ 1
itself n = let e : (n == n) ≡ true = grind (arith, nat_tests) in ap one_if e

one_not : (n : ℕ) → n ≡ 1 → (n == 0) ≡ false
one_not n e = grind (arith, nat_tests, e)

none_some : {X : Type 0} (x : X) → ◌≡◌ {A = Option X} None (Some x) → ⊥
none_some x e = cc

some_is : {X : Type 0} (x y : X) → Some x ≡ Some y → x ≡ y
some_is x y e = cc

-- what is no more than the other, and of which as much is left, is as much
pub record Same (W H O W2 H2 O2 : ℕ) : Type 0 where
  pub waits : W2 ≡ W
  pub holds : H2 ≡ H
  pub under_way : O2 ≡ O

same_rest : (W H O W2 H2 O2 n n2 m m2 x x2 : ℕ) → W2 ≤ W → H2 ≤ H → O2 ≤ O → x2 ≤ x → W + (H + (O + x)) ≡ n + m → W2 + (H2 + (O2 + x2)) ≡ n2 + m2 → n2 ≡ n → m2 ≡ m → Same W H O W2 H2 O2
same_rest W H O W2 H2 O2 n n2 m m2 x x2 l1 l2 l3 l4 one two e1 e2 = record {
  waits = omega (arith, l1, l2, l3, l4, one, two, e1, e2);
  holds = omega (arith, l1, l2, l3, l4, one, two, e1, e2);
  under_way = omega (arith, l1, l2, l3, l4, one, two, e1, e2);
}

module _ {S : Type 0} (way : Way S) (sound : S → Type 0) (lawful : IsLawful way sound) where
  -- how often the call is alive
  abbrev pub alive : Call → World S → ℕ
  alive c w = waiting c w + (held way c w + (on_its_way way c w + (0 + (0 + 0))))

  module _ (w : World S) (h : Handle) (r : What × World S) (all all2 : Table) (kept : IsKept way sound w all) (x : Acted way w h r) (after : Follows way w h r.0 all all2) where
    is_agent : (q : CallKey) → state_at all2 q ≡ next_state way (call_of q) h (Some x.who) r.0 (state_at all q)
    is_agent q = after.each q ∙ ap (λ a. next_state way (call_of q) h a r.0 (state_at all q)) x.there

    abbrev pub on_is : CallKey → ℕ
    on_is q = turns_at way (call_of q) h.0 (Some x.who) r.0

    abbrev pub new_state : Option CallState
    new_state = Some (record { callee = receiver r.0; fate = Waiting })

    abbrev pub old_fate : CallKey → Option CallState → Option CallState
    old_fate q s = fate_by (voids (call_of q) h (replying_at way (Some x.who)) r.0) (answers (call_of q) h r.0) (fails (call_of q) h r.0) (receives (call_of q) h.0 r.0) s

    -- a call that is not made now
    old_state : (q : CallKey) → makes (call_of q) r.0 ≡ 0 → state_at all2 q ≡ turned_by (on_is q) (old_fate q (state_at all q))
    old_state q z = is_agent q ∙ ap (λ n. turned_by (on_is q) (cond (n == 0) (old_fate q (state_at all q)) new_state)) z

    -- and one that is
    made_state : (q : CallKey) → makes (call_of q) r.0 ≡ 1 → state_at all2 q ≡ turned_by (on_is q) new_state
    made_state q z = is_agent q ∙ ap (λ n. turned_by (on_is q) (cond (n == 0) (old_fate q (state_at all q)) new_state)) z

    stays_old : {Y : Type 0} (f : Option CallState → Y) → ((y : Fate) (s : Option CallState) → f (with_fate y s) ≡ f s) → (q : CallKey) → makes (call_of q) r.0 ≡ 0 → f (state_at all2 q) ≡ f (state_at all q)
    stays_old f same q z = ap f (old_state q z)
        ∙ stays f same (on_is q) (voids (call_of q) h (replying_at way (Some x.who)) r.0) (answers (call_of q) h r.0) (fails (call_of q) h r.0) (receives (call_of q) h.0 r.0) (state_at all q)

    stays_made : {Y : Type 0} (f : Option CallState → Y) → ((y : Fate) (s : Option CallState) → f (with_fate y s) ≡ f s) → (q : CallKey) → makes (call_of q) r.0 ≡ 1 → f (state_at all2 q) ≡ f new_state
    stays_made f same q z = ap f (made_state q z) ∙ turned_same f same (on_is q) new_state

    -- it was no call before
    new_call : (q : CallKey) → Maker way sound lawful w h r (call_of q) x → (s : Option CallState) → state_at all q ≡ s → s ≡ None
    new_call q p None e = refl
    new_call q p (Some t) e = absurd (first_time way sound lawful w h r (call_of q) kept.fresh x p (kept.drawn q (subst IsSome (sym e) refl)))

    -- the list names whom the call was made to
    pub named_step : (q : CallKey) (d : Handle) → names d (state_at all2 q) ≡ names d (state_at all q) + makes (call_to q d) r.0
    named_step q d = go (maker way sound lawful w h r (call_of q) kept.fresh x) where
      go : ((makes (call_of q) r.0 ≡ 0) ⊎ Maker way sound lawful w h r (call_of q) x) → names d (state_at all2 q) ≡ names d (state_at all q) + makes (call_to q d) r.0
      go (inl z) =
          let same = stays_old (names d) (names_same d) q z in
          let le = makes_le q d r.0 in
          omega (arith, same, le, z)
      go (inr p) =
          let now = stays_made (names d) (names_same d) q p.makes in
          let none : names d (state_at all q) ≡ 0 = ap (names d) (new_call q p (state_at all q) refl) in
          let to_is = makes_to q d r.0 p.makes in
          omega (arith, now, none, to_is)

    -- as often as alive before, and as often made: then with the same fate after
    same_after : (q : CallKey) (d : Handle) → alive (call_to q d) w ≡ alive (call_of q) w → makes (call_to q d) r.0 ≡ makes (call_of q) r.0
        → Same (waiting (call_of q) r.1) (held way (call_of q) r.1) (on_its_way way (call_of q) r.1) (waiting (call_to q d) r.1) (held way (call_to q d) r.1) (on_its_way way (call_to q d) r.1)
    same_after q d alive_is made_is =
        let c = call_to q d in
        let n = call_of q in
        let a = answers_le q d h r.0 in
        let f = fails_le q d h r.0 in
        let v = voids_le q d h (replying_at way (agent w h)) r.0 in
        same_rest (waiting n r.1) (held way n r.1) (on_its_way way n r.1) (waiting c r.1) (held way c r.1) (on_its_way way c r.1) (alive n w) (alive c w) (makes n r.0) (makes c r.0)
        ((0 + answers n h r.0) + ((0 + fails n h r.0) + (0 + voids n h (replying_at way (agent w h)) r.0))) ((0 + answers c h r.0) + ((0 + fails c h r.0) + (0 + voids c h (replying_at way (agent w h)) r.0)))
        (waiting_le q d way r.1) (held_le q d way r.1) (on_its_way_le q d way r.1) (omega (arith, a, f, v))
        (sum_step way sound lawful n w h r (alive n w) 0 0 0 kept.fresh x refl) (sum_step way sound lawful c w h r (alive c w) 0 0 0 kept.fresh x refl) alive_is made_is

    module _ (q : CallKey) (s : CallState) (is : state_at all2 q ≡ Some s) where
      -- the callee was named before
      callee_was : makes (call_of q) r.0 ≡ 0 → (t : Option CallState) → state_at all q ≡ t → (y : CallState) × (state_at all q ≡ Some y) × (s.callee ≡ y.callee)
      callee_was z None e = absurd (none_some s.callee (sym (ap callee_of e) ∙ (sym (stays_old callee_of callee_same q z) ∙ ap callee_of is)))
      callee_was z (Some y) e = (y, e, some_is s.callee y.callee (sym (ap callee_of is) ∙ (stays_old callee_of callee_same q z ∙ ap callee_of e)))

      alive_was : (y : CallState) → state_at all q ≡ Some y → s.callee ≡ y.callee → alive (call_to q s.callee) w ≡ alive (call_of q) w
      alive_was y e same =
          let there = kept.at_callee q y e in
          let here : HasFate way (call_to q s.callee) w y.fate = subst (λ d. HasFate way (call_to q d) w y.fate) (sym same) there in
          let waits : waiting (call_of q) w ≡ is_waiting y.fate = kept.waits q ∙ ap (in_state is_waiting) e in
          let holds_it : held way (call_of q) w ≡ is_held y.fate = kept.holds q ∙ ap (in_state is_held) e in
          let comes : on_its_way way (call_of q) w ≡ is_on_its_way y.fate = kept.under_way q ∙ ap (in_state is_on_its_way) e in
          omega (arith, here.waits, here.holds, here.under_way, waits, holds_it, comes)

      alive_none : state_at all q ≡ None → alive (call_to q s.callee) w ≡ alive (call_of q) w
      alive_none e =
          let waits : waiting (call_of q) w ≡ 0 = kept.waits q ∙ ap (in_state is_waiting) e in
          let holds_it : held way (call_of q) w ≡ 0 = kept.holds q ∙ ap (in_state is_held) e in
          let comes : on_its_way way (call_of q) w ≡ 0 = kept.under_way q ∙ ap (in_state is_on_its_way) e in
          omega (arith, waiting_le q s.callee way w, held_le q s.callee way w, on_its_way_le q s.callee way w, waits, holds_it, comes)

      made_to : makes (call_of q) r.0 ≡ 1 → makes (call_to q s.callee) r.0 ≡ makes (call_of q) r.0
      made_to z =
          let same : s.callee ≡ receiver r.0 = some_is s.callee (receiver r.0) (sym (ap callee_of is) ∙ stays_made callee_of callee_same q z) in
          let one_is : one_if ((receiver r.0).0 == s.callee.0) ≡ 1 = ap (λ (d : Handle). one_if ((receiver r.0).0 == d.0)) same ∙ itself (receiver r.0).0 in
          makes_to q s.callee r.0 z ∙ (one_is ∙ sym z)

      pub same_at : Same (waiting (call_of q) r.1) (held way (call_of q) r.1) (on_its_way way (call_of q) r.1) (waiting (call_to q s.callee) r.1) (held way (call_to q s.callee) r.1) (on_its_way way (call_to q s.callee) r.1)
      same_at = go (maker way sound lawful w h r (call_of q) kept.fresh x) where
        go : ((makes (call_of q) r.0 ≡ 0) ⊎ Maker way sound lawful w h r (call_of q) x)
            → Same (waiting (call_of q) r.1) (held way (call_of q) r.1) (on_its_way way (call_of q) r.1) (waiting (call_to q s.callee) r.1) (held way (call_to q s.callee) r.1) (on_its_way way (call_to q s.callee) r.1)
        go (inl z) =
            let was = callee_was z (state_at all q) refl in
            let le = makes_le q s.callee r.0 in
            same_after q s.callee (alive_was was.0 was.1 was.2) (omega (arith, le, z))
        go (inr p) = same_after q s.callee (alive_none (new_call q p (state_at all q) refl)) (made_to p.makes)
