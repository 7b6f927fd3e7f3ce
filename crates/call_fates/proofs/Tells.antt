-- The list of calls tells the fates after a journal.
use Rattle.std.proofs.Common.{ℕ, ◌≡◌, ◌≤◌, ◌+◌, List, [], ◌∷◌, Some, IsSome, ap, sym, ◌∙◌, subst, arith}
use Rattle.message.specs.Actors.{Way, IsLawful}
use Rattle.message.specs.Worlds.{World, agent, act, after, go_on}
use Rattle.sk_types.specs.declared.number.Handle.{Handle}
use Rattle.message.specs.declared.record.What.{What}
use Rattle.call_fates.specs.Calls.{waiting, held, on_its_way}
use Rattle.call_fates.specs.Fates.{Fates, fates, all_fates, makes, made, answers, fails, voids, replying_at, answered, failed, void}
use Rattle.call_fates.specs.Reached.{IsOpening}
use Rattle.call_fates.specs.Table.{Table, state_at, call_of, call_to, names}
use Rattle.call_fates.specs.Kept.{IsKept, Follows, FollowsAll, in_state, only, is_waiting, is_held, is_on_its_way, is_answered, is_failed, is_void}
use Rattle.call_fates.specs.Laws.{TableTells}
use Rattle.call_fates.specs.declared.calls.CallKey.{CallKey}
use Rattle.call_fates.specs.declared.calls.CallState.{CallState}
use Rattle.call_fates.specs.declared.calls.Fate.{Fate}
use Rattle.call_fates.proofs.Inverts.{acted}
use Rattle.call_fates.proofs.Journals.{tally_step, sum_opening, fresh_opening, each_counted}
use Rattle.call_fates.proofs.Kept.{fate_one}
use Rattle.call_fates.proofs.Callees.{named_step, itself, waiting_le, held_le, on_its_way_le, answers_le, fails_le, voids_le, tally_le}
use Rattle.call_fates.proofs.KeptSteps.{turned, kept_step}

abbrev pub fates_of : (w h o a f v : ℕ) → Fates
fates_of w h o a f v = record { waiting = w; held = h; on_its_way = o; answered = a; failed = f; void = v }

fates_same : (w w2 h h2 o o2 a a2 f f2 v v2 : ℕ) → w ≡ w2 → h ≡ h2 → o ≡ o2 → a ≡ a2 → f ≡ f2 → v ≡ v2 → fates_of w h o a f v ≡ fates_of w2 h2 o2 a2 f2 v2
fates_same w w2 h h2 o o2 a a2 f f2 v v2 e1 e2 e3 e4 e5 e6 = cc

same_fates : (a b : Fates) → a.waiting ≡ b.waiting → a.held ≡ b.held → a.on_its_way ≡ b.on_its_way → a.answered ≡ b.answered → a.failed ≡ b.failed → a.void ≡ b.void → a ≡ b
same_fates a b e1 e2 e3 e4 e5 e6 = fates_same a.waiting b.waiting a.held b.held a.on_its_way b.on_its_way a.answered b.answered a.failed b.failed a.void b.void e1 e2 e3 e4 e5 e6

module _ {S : Type 0} (way : Way S) (sound : S → Type 0) (lawful : IsLawful way sound) where
  -- the list after a journal, by that before it
  pub record Grown (hs : List Handle) (w w2 : World S) (all all2 : Table) : Type 0 where
    pub kept : IsKept way sound w2 all2
    pub answers : (q : CallKey) → in_state is_answered (state_at all2 q) ≡ in_state is_answered (state_at all q) + answered way (call_of q) hs w
    pub fails : (q : CallKey) → in_state is_failed (state_at all2 q) ≡ in_state is_failed (state_at all q) + failed way (call_of q) hs w
    pub voids : (q : CallKey) → in_state is_void (state_at all2 q) ≡ in_state is_void (state_at all q) + void way (call_of q) hs w
    pub callees : (q : CallKey) (d : Handle) → names d (state_at all2 q) ≡ names d (state_at all q) + made way (call_to q d) hs w

  one_more : (h : Handle) (hs : List Handle) (w w2 : World S) (r : What × World S) (all mid all2 : Table) → act way w h ≡ Some r → IsKept way sound w all → Follows way w h r.0 all mid → Grown hs r.1 w2 mid all2 → Grown (h ∷ hs) w w2 all all2
  one_more h hs w w2 r all mid all2 e kept follows more =
      let x = acted way w h r e in
      let t = turned way sound lawful w h r all mid kept x follows in
      record {
        kept = more.kept;
        answers = λ q. omega (arith, more.answers q, (t q).answered, tally_step way sound lawful (λ u g what. answers (call_of q) g what) h hs w r e);
        fails = λ q. omega (arith, more.fails q, (t q).failed, tally_step way sound lawful (λ u g what. fails (call_of q) g what) h hs w r e);
        voids = λ q. omega (arith, more.voids q, (t q).void, tally_step way sound lawful (λ u g what. voids (call_of q) g (replying_at way (agent u g)) what) h hs w r e);
        callees = λ q d. omega (arith, more.callees q d, named_step way sound lawful w h r all mid kept x follows q d, tally_step way sound lawful (λ u g what. makes (call_to q d) what) h hs w r e);
      }

  grown : (hs : List Handle) (w w2 : World S) (all all2 : Table) → IsKept way sound w all → after way hs w ≡ Some w2 → FollowsAll way hs w all all2 → Grown hs w w2 all all2
  grown [] w w2 all all2 kept e f =
      let same : w ≡ w2 = cc in
      subst (λ (z : Table). Grown [] w w2 all z) (sym f) (record { kept = subst (λ (z : World S). IsKept way sound z all) same kept; answers = λ q. omega arith; fails = λ q. omega arith; voids = λ q. omega arith; callees = λ q d. omega arith })
  grown (h ∷ hs) w w2 all all2 kept e f =
      let x = acted way w h f.0 f.2 in
      let rest : after way hs f.0.1 ≡ Some w2 = sym (ap (λ q. go_on q (λ v. after way hs v)) f.2) ∙ e in
      one_more h hs w w2 f.0 all f.1 all2 f.2 kept f.3 (grown hs f.0.1 w2 f.1 all2 (kept_step way sound lawful w h f.0 all f.1 kept x f.3) rest f.4)

  no_call : (q : CallKey) → IsSome (state_at [] q) → ⊥
  no_call q e = cc

  no_state : (q : CallKey) (s : CallState) → state_at [] q ≡ Some s → ⊥
  no_state q s e = cc

  pub kept_opening : (w : World S) → IsOpening way sound w → IsKept way sound w []
  kept_opening w o = record {
    fresh = fresh_opening way sound lawful w o;
    waits = λ q. omega (arith, sum q);
    holds = λ q. omega (arith, sum q);
    under_way = λ q. omega (arith, sum q);
    at_callee = λ q s e. absurd (no_state q s e);
    drawn = λ q e. absurd (no_call q e);
  } where
    sum : (q : CallKey) → waiting (call_of q) w + (held way (call_of q) w + (on_its_way way (call_of q) w + (0 + (0 + 0)))) ≡ 0
    sum q = subst (λ (z : World S). waiting (call_of q) z + (held way (call_of q) z + (on_its_way way (call_of q) z + (0 + (0 + 0)))) ≡ 0) (sym o.same) (sum_opening way sound lawful (call_of q) o.logger o.launcher o.start o.first o.second o.third)

  -- one fate is as much as all of them
  told : (c n : Fates) (f : Fate) → all_fates c ≡ 1 → n ≡ only f → c.waiting ≤ n.waiting → c.held ≤ n.held → c.on_its_way ≤ n.on_its_way → c.answered ≤ n.answered → c.failed ≤ n.failed → c.void ≤ n.void → c ≡ only f
  told c n f one is l1 l2 l3 l4 l5 l6 = same_fates c (only f) k1 k2 k3 k4 k5 k6 where
    sum : all_fates (only f) ≡ 1
    sum = fate_one f

    m1 : c.waiting ≤ is_waiting f
    m1 = subst (λ (z : Fates). c.waiting ≤ z.waiting) is l1

    m2 : c.held ≤ is_held f
    m2 = subst (λ (z : Fates). c.held ≤ z.held) is l2

    m3 : c.on_its_way ≤ is_on_its_way f
    m3 = subst (λ (z : Fates). c.on_its_way ≤ z.on_its_way) is l3

    m4 : c.answered ≤ is_answered f
    m4 = subst (λ (z : Fates). c.answered ≤ z.answered) is l4

    m5 : c.failed ≤ is_failed f
    m5 = subst (λ (z : Fates). c.failed ≤ z.failed) is l5

    m6 : c.void ≤ is_void f
    m6 = subst (λ (z : Fates). c.void ≤ z.void) is l6

    k1 : c.waiting ≡ is_waiting f
    k1 = omega (arith, sum, one, m1, m2, m3, m4, m5, m6)

    k2 : c.held ≡ is_held f
    k2 = omega (arith, sum, one, m1, m2, m3, m4, m5, m6)

    k3 : c.on_its_way ≡ is_on_its_way f
    k3 = omega (arith, sum, one, m1, m2, m3, m4, m5, m6)

    k4 : c.answered ≡ is_answered f
    k4 = omega (arith, sum, one, m1, m2, m3, m4, m5, m6)

    k5 : c.failed ≡ is_failed f
    k5 = omega (arith, sum, one, m1, m2, m3, m4, m5, m6)

    k6 : c.void ≡ is_void f
    k6 = omega (arith, sum, one, m1, m2, m3, m4, m5, m6)

  module _ (hs : List Handle) (w w2 : World S) (all : Table) (o : IsOpening way sound w) (e : after way hs w ≡ Some w2) (g : Grown hs w w2 [] all) where
    callees_are : (q : CallKey) (d : Handle) → made way (call_to q d) hs w ≡ names d (state_at all q)
    callees_are q d = omega (arith, g.callees q d)

    with_callee : (q : CallKey) (s : CallState) → state_at all q ≡ Some s → fates way (call_to q s.callee) hs w w2 ≡ only s.fate
    with_callee q s is =
        let c = call_to q s.callee in
        let n = call_of q in
        let counted = each_counted way sound lawful c hs w w2 o e in
        let named : names s.callee (state_at all q) ≡ 1 = ap (names s.callee) is ∙ itself s.callee.0 in
        let made_one : made way c hs w ≡ 1 = callees_are q s.callee ∙ named in
        let all_is : fates way n hs w w2 ≡ only s.fate = same_fates (fates way n hs w w2) (only s.fate) (g.kept.waits q ∙ ap (in_state is_waiting) is) (g.kept.holds q ∙ ap (in_state is_held) is) (g.kept.under_way q ∙ ap (in_state is_on_its_way) is)
        (answers_are q ∙ ap (in_state is_answered) is) (fails_are q ∙ ap (in_state is_failed) is) (voids_are q ∙ ap (in_state is_void) is) in
        told (fates way c hs w w2) (fates way n hs w w2) s.fate (counted.one_fate ∙ made_one) all_is (waiting_le q s.callee way w2) (held_le q s.callee way w2) (on_its_way_le q s.callee way w2)
        (tally_le way (λ v h what. answers c h what) (λ v h what. answers n h what) (λ v h what. answers_le q s.callee h what) hs w)
        (tally_le way (λ v h what. fails c h what) (λ v h what. fails n h what) (λ v h what. fails_le q s.callee h what) hs w)
        (tally_le way (λ v h what. voids c h (replying_at way (agent v h)) what) (λ v h what. voids n h (replying_at way (agent v h)) what) (λ v h what. voids_le q s.callee h (replying_at way (agent v h)) what) hs w) where
          answers_are : (k : CallKey) → answered way (call_of k) hs w ≡ in_state is_answered (state_at all k)
          answers_are k = omega (arith, g.answers k)

          fails_are : (k : CallKey) → failed way (call_of k) hs w ≡ in_state is_failed (state_at all k)
          fails_are k = omega (arith, g.fails k)

          voids_are : (k : CallKey) → void way (call_of k) hs w ≡ in_state is_void (state_at all k)
          voids_are k = omega (arith, g.voids k)

  pub table_tells : (hs : List Handle) (w w2 : World S) (all : Table) → IsOpening way sound w → after way hs w ≡ Some w2 → FollowsAll way hs w [] all → TableTells way sound hs w w2 all
  table_tells hs w w2 all o e f =
      let g = grown hs w w2 [] all (kept_opening w o) e f in
      record { kept = g.kept; answers = λ q. omega (arith, g.answers q); fails = λ q. omega (arith, g.fails q); voids = λ q. omega (arith, g.voids q); callees = callees_are hs w w2 all o e g; with_callee = with_callee hs w w2 all o e g }
