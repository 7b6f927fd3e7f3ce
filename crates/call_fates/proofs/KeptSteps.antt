-- An act keeps the list of calls in step with the world, and the list tells the fates after a journal.
use Rattle.std.proofs.Common.{◌⊎◌, inl, inr, ℕ, ◌≡◌, ◌≤◌, ◌+◌, ◌==◌, Bool, true, false, Option, Some, None, IsSome, cond, refl, ap, sym, ◌∙◌, subst, arith}
use Rattle.std.proofs.lemmas.Bool.Decides.{nat_tests}
use Rattle.message.specs.Actors.{Way, IsLawful}
use Rattle.message.specs.Worlds.{World, agent}
use Rattle.sk_types.specs.declared.number.Handle.{Handle}
use Rattle.message.specs.declared.request.Message.{Message}
use Rattle.message.specs.declared.request.Held.{Held as Request}
use Rattle.message.specs.declared.record.What.{What}
use Rattle.message.specs.declared.record.What.TheVariants as did
use Rattle.call_fates.specs.Calls.{Call, total, sends, replies_in, waiting, held, on_its_way}
use Rattle.call_fates.specs.Fates.{makes, answers, fails, voids, replying_at}
use Rattle.call_fates.specs.Flows.{receives, bounces, frees_at, sent, refused, fetched}
use Rattle.call_fates.specs.Table.{Table, state_at, call_of, call_to}
use Rattle.call_fates.specs.Sessions.{IsDrawn}
use Rattle.call_fates.specs.Kept.{turns_at, fate_by, turned_by, receiver, next_state, Follows, is_waiting, is_held, is_on_its_way, is_answered, is_failed, is_void, in_state, HasFate, IsKept}
use Rattle.call_fates.specs.declared.calls.CallKey.{CallKey}
use Rattle.call_fates.specs.declared.calls.CallState.{CallState}
use Rattle.call_fates.specs.declared.calls.Fate.TheVariants.{Waiting}
use Rattle.call_fates.proofs.Inverts.{Acted}
use Rattle.call_fates.proofs.Counts.{changes, settled, Turns}
use Rattle.call_fates.proofs.Journals.{Maker, maker, first_time, now_drawn, drawn_kept, fresh_kept}
use Rattle.call_fates.proofs.Callees.{same_at}
use Rattle.call_fates.proofs.Kept.{Stands, Moves, After, call_moves, fate_none}

-- who makes a call takes nothing
maker_takes : (c : Call) (h : Handle) (what : What) (to : Handle) (m : Message) → what ≡ did.Put to m true → (receives c h.0 what ≡ 0) × (bounces c h.0 what ≡ 0)
maker_takes c h what to m e = subst (λ z. (receives c h.0 z ≡ 0) × (bounces c h.0 z ≡ 0)) (sym e) (refl, refl)

-- a made call is new
made_new : (T R W' H' T' R' on v a f r b fr sent ref fet : ℕ) (to : Handle) → 0 ≡ T + R → r ≡ 0 → b ≡ 0 → W' + (r + b) ≡ 1 → H' + fr ≡ r → T' + (sent + ref) ≡ T + (fr + b) → R' + fet ≡ R + sent → sent + ref ≤ T → a + (f + v) ≡ fet + ref
    → After None (Some (record { callee = to; fate = Waiting })) W' H' T' R' a f v
made_new T R W' H' T' R' on v a f r b fr sent ref fet to g zr zb one two three four gone done = record {
  waits = omega (arith, zr, zb, one);
  holds = omega (arith, zr, two);
  way = omega (arith, g, zr, zb, two, three, four, gone);
  answered = omega (arith, g, zr, zb, two, three, four, gone, done);
  failed = omega (arith, g, zr, zb, two, three, four, gone, done);
  void = omega (arith, g, zr, zb, two, three, four, gone, done);
}

no_call : ◌≡◌ {A = Bool} false true → ⊥
no_call e = cc

-- nor does it turn
turns_zero : (c : Call) (h : Handle) (on T fr : ℕ) (r : Option Request) (what : What) → Turns c h on T fr r what → fr ≡ 0 → bounces c h.0 what ≡ 0 → T ≡ 0 → on ≡ 0
turns_zero c h on T fr r what (inl e) z1 z2 z3 = omega (arith, e, z1, z2)
turns_zero c h on T fr r what (inr e) z1 z2 z3 = let l = e.0 in omega (arith, l, z3)

one_not : (n : ℕ) → n ≡ 1 → (n == 0) ≡ false
one_not n e = grind (arith, nat_tests, e)

module _ {S : Type 0} (way : Way S) (sound : S → Type 0) (lawful : IsLawful way sound) where
  -- the call after the act
  abbrev pub Turned : World S → Handle → What × World S → Option CallState → Option CallState → CallKey → Type 0
  Turned w h r s s2 q = Stands s2 (waiting (call_of q) r.1) (held way (call_of q) r.1) (on_its_way way (call_of q) r.1)
      (in_state is_answered s + answers (call_of q) h r.0) (in_state is_failed s + fails (call_of q) h r.0) (in_state is_void s + voids (call_of q) h (replying_at way (agent w h)) r.0)

  module _ (w : World S) (h : Handle) (r : What × World S) (all all2 : Table) (kept : IsKept way sound w all) (x : Acted way w h r) (after : Follows way w h r.0 all all2) where
    is_agent : (q : CallKey) → state_at all2 q ≡ next_state way (call_of q) h (Some x.who) r.0 (state_at all q)
    is_agent q = after.each q ∙ ap (λ a. next_state way (call_of q) h a r.0 (state_at all q)) x.there

    abbrev pub Here : CallKey → Option CallState → Type 0
    Here q s2 = Stands s2 (waiting (call_of q) r.1) (held way (call_of q) r.1) (on_its_way way (call_of q) r.1)
        (in_state is_answered (state_at all q) + answers (call_of q) h r.0) (in_state is_failed (state_at all q) + fails (call_of q) h r.0) (in_state is_void (state_at all q) + voids (call_of q) h (replying_at way (Some x.who)) r.0)

    -- nothing was made
    unmade : (q : CallKey) → makes (call_of q) r.0 ≡ 0 → Here q (next_state way (call_of q) h (Some x.who) r.0 (state_at all q))
    unmade q z =
        let c = call_of q in
        let k = changes way sound lawful c w h r kept.fresh.world x in
        let g : in_state is_on_its_way (state_at all q) ≡ total (sends way c) 1 w.services + total (replies_in c) 1 w.inboxes = sym (kept.under_way q) in
        let m : Moves (in_state is_waiting (state_at all q)) (in_state is_held (state_at all q)) (total (sends way c) 1 w.services) (total (replies_in c) 1 w.inboxes) (waiting c r.1) (held way c r.1) (total (sends way c) 1 r.1.services) (total (replies_in c) 1 r.1.inboxes)
        (turns_at way c h.0 (Some x.who) r.0) (voids c h (replying_at way (Some x.who)) r.0) (answers c h r.0) (fails c h r.0) (receives c h.0 r.0) (bounces c h.0 r.0) (frees_at way c h.0 x.who r.0) (sent c r.0) (refused c h.0 (replying_at way (Some x.who)) r.0) (fetched c h.0 r.0) = record {
          waits = omega (arith, k.waits, z, kept.waits q);
          holds = omega (arith, k.hold, kept.holds q);
          sends = k.send;
          brings = k.bring;
          gone = k.gone;
          settled = settled c h (replying_at way (Some x.who)) r.0;
          turned = k.turn;
        } in
        let e : (makes c r.0 == 0) ≡ true = ap (λ n. n == 0) z in
        rw e (call_moves (state_at all q) (total (sends way c) 1 w.services) (total (replies_in c) 1 w.inboxes) (waiting c r.1) (held way c r.1) (total (sends way c) 1 r.1.services) (total (replies_in c) 1 r.1.inboxes)
        (turns_at way c h.0 (Some x.who) r.0) (voids c h (replying_at way (Some x.who)) r.0) (answers c h r.0) (fails c h r.0) (receives c h.0 r.0) (bounces c h.0 r.0) (frees_at way c h.0 x.who r.0) (sent c r.0) (refused c h.0 (replying_at way (Some x.who)) r.0) (fetched c h.0 r.0) g m)

    -- it was made: it was no call before
    new_call : (q : CallKey) → Maker way sound lawful w h r (call_of q) x → (s : Option CallState) → state_at all q ≡ s → s ≡ None
    new_call q p None e = refl
    new_call q p (Some t) e = absurd (first_time way sound lawful w h r (call_of q) kept.fresh x p (kept.drawn q (subst IsSome (sym e) refl)))

    made : (q : CallKey) → Maker way sound lawful w h r (call_of q) x → Here q (next_state way (call_of q) h (Some x.who) r.0 (state_at all q))
    made q p =
        let c = call_of q in
        let k = changes way sound lawful c w h r kept.fresh.world x in
        let none = new_call q p (state_at all q) refl in
        let zero_is = maker_takes c h r.0 p.to p.message p.put in
        let g : 0 ≡ total (sends way c) 1 w.services + total (replies_in c) 1 w.inboxes = sym (kept.under_way q ∙ ap (in_state is_on_its_way) none) in
        let wz : waiting c w ≡ 0 = kept.waits q ∙ ap (in_state is_waiting) none in
        let hz : held way c w ≡ 0 = kept.holds q ∙ ap (in_state is_held) none in
        let it = made_new (total (sends way c) 1 w.services) (total (replies_in c) 1 w.inboxes) (waiting c r.1) (held way c r.1) (total (sends way c) 1 r.1.services) (total (replies_in c) 1 r.1.inboxes)
        (turns_at way c h.0 (Some x.who) r.0) (voids c h (replying_at way (Some x.who)) r.0) (answers c h r.0) (fails c h r.0) (receives c h.0 r.0) (bounces c h.0 r.0) (frees_at way c h.0 x.who r.0) (sent c r.0) (refused c h.0 (replying_at way (Some x.who)) r.0) (fetched c h.0 r.0) (receiver r.0)
        g zero_is.0 zero_is.1 (omega (arith, k.waits, wz, p.makes)) (omega (arith, k.hold, hz)) k.send k.bring k.gone (settled c h (replying_at way (Some x.who)) r.0) in
        let P : Option CallState → Type 0 = λ s. Stands (Some (record { callee = receiver r.0; fate = Waiting })) (waiting c r.1) (held way c r.1) (on_its_way way c r.1)
        (in_state is_answered s + answers c h r.0) (in_state is_failed s + fails c h r.0) (in_state is_void s + voids c h (replying_at way (Some x.who)) r.0) in
        let on_zero = turns_zero c h (turns_at way c h.0 (Some x.who) r.0) (total (sends way c) 1 w.services) (frees_at way c h.0 x.who r.0) (replying_at way (Some x.who)) r.0 k.turn (omega (arith, k.hold, hz, zero_is.0)) zero_is.1 (omega (arith, g)) in
        let on_is : (turns_at way c h.0 (Some x.who) r.0 == 0) ≡ true = ap (λ n. n == 0) on_zero in
        rw (on_is, one_not (makes c r.0) p.makes) (subst P (sym none) it)

    pub turned : (q : CallKey) → Turned w h r (state_at all q) (state_at all2 q) q
    turned q =
        let c = call_of q in
        let here : Here q (next_state way c h (Some x.who) r.0 (state_at all q)) = go (maker way sound lawful w h r c kept.fresh x) in
        let v_is : voids c h (replying_at way (Some x.who)) r.0 ≡ voids c h (replying_at way (agent w h)) r.0 = ap (λ a. voids c h (replying_at way a) r.0) (sym x.there) in
        let now = subst (Here q) (sym (is_agent q)) here in
        record { waits = now.waits; holds = now.holds; way = now.way; answered = now.answered; failed = now.failed; void = now.void ∙ ap (λ n. in_state is_void (state_at all q) + n) v_is } where
          go : ((makes (call_of q) r.0 ≡ 0) ⊎ Maker way sound lawful w h r (call_of q) x) → Here q (next_state way (call_of q) h (Some x.who) r.0 (state_at all q))
          go (inl z) = unmade q z
          go (inr p) = made q p

    -- a call of the list was one before, or is made now
    was : (q : CallKey) → IsSome (state_at all2 q) → IsDrawn way (call_of q) r.1
    was q some = go (maker way sound lawful w h r (call_of q) kept.fresh x) where
      old : (s : Option CallState) → state_at all q ≡ s → makes (call_of q) r.0 ≡ 0 → IsDrawn way (call_of q) r.1
      old (Some t) e z = drawn_kept way sound lawful w h r (call_of q) kept.fresh x (kept.drawn q (subst IsSome (sym e) refl))
      old None e z = absurd (no_call (subst IsSome (is_agent q ∙ (ap (λ n. turned_by on (cond (n == 0) (fate_by v a f t (state_at all q)) new)) z ∙ (ap (λ s. turned_by on (fate_by v a f t s)) e ∙ fate_none on v a f t))) some)) where
        on : ℕ
        on = turns_at way (call_of q) h.0 (Some x.who) r.0

        v : ℕ
        v = voids (call_of q) h (replying_at way (Some x.who)) r.0

        a : ℕ
        a = answers (call_of q) h r.0

        f : ℕ
        f = fails (call_of q) h r.0

        t : ℕ
        t = receives (call_of q) h.0 r.0

        new : Option CallState
        new = Some (record { callee = receiver r.0; fate = Waiting })

      go : ((makes (call_of q) r.0 ≡ 0) ⊎ Maker way sound lawful w h r (call_of q) x) → IsDrawn way (call_of q) r.1
      go (inl z) = old (state_at all q) refl z
      go (inr p) = now_drawn way sound lawful w h r (call_of q) kept.fresh x p

    -- its fate is with the callee that the list names
    called : (q : CallKey) (s : CallState) → state_at all2 q ≡ Some s → HasFate way (call_to q s.callee) r.1 s.fate
    called q s is =
        let same = same_at way sound lawful w h r all all2 kept x after q s is in
        let now = turned q in
        record {
          waits = same.waits ∙ (sym now.waits ∙ ap (in_state is_waiting) is);
          holds = same.holds ∙ (sym now.holds ∙ ap (in_state is_held) is);
          under_way = same.under_way ∙ (sym now.way ∙ ap (in_state is_on_its_way) is);
        }

    pub kept_step : IsKept way sound r.1 all2
    kept_step = record {
      fresh = fresh_kept way sound lawful w h r kept.fresh x;
      waits = λ q. sym (turned q).waits;
      holds = λ q. sym (turned q).holds;
      under_way = λ q. sym (turned q).way;
      at_callee = called;
      drawn = was;
    }
