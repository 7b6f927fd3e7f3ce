-- What the loop over the world needs.
use Rattle.std.proofs.Common.{◌≡◌, ◌∙◌, ◌++◌, ◌<◌, ◌==◌, ap, refl, sym, subst, ℕ, Bool, true, false, List, [], ◌∷◌, Some, None, length, arith, append_assoc, append-nil, length-append, if◌then◌else◌}
use Rattle.sk_types.specs.declared.number.Handle.{Handle}
use Rattle.runner.specs.declared.message.Message.{Message}
use Rattle.runner.specs.World.{World, Step, act, actions_left, after, logger_acts, logs, prefixed, service_acts, takes, then_acts, writes}

prefixed-prefixed : (p q : List ℕ) (s : Step) → prefixed p (prefixed q s) ≡ prefixed (p ++ q) s
prefixed-prefixed p q None = refl
prefixed-prefixed p q (Some r) = ap (λ (u : List ℕ). Some (r.0, u)) (sym (append_assoc p q r.1))

prefixed-then_acts : (p : List ℕ) (next : World → Step) (s : Step) → prefixed p (then_acts next s) ≡ then_acts next (prefixed p s)
prefixed-then_acts p next None = refl
prefixed-then_acts p next (Some q) = prefixed-prefixed p q.1 (next q.0)

no_more : (s : Step) → then_acts (after []) s ≡ prefixed [] s
no_more None = refl
no_more (Some q) = ap (λ (u : List ℕ). Some (q.0, u)) (append-nil q.1)

one_more : (journal : List Handle) (agent : Handle) (s : Step)
    → ((w : World) → after (journal ++ agent ∷ []) w ≡ then_acts (λ v. act v agent) (after journal w))
    → then_acts (after (journal ++ agent ∷ [])) s ≡ then_acts (λ v. act v agent) (then_acts (after journal) s)
one_more journal agent None h = refl
one_more journal agent (Some q) h = ap (prefixed q.1) (h q.0) ∙ prefixed-then_acts q.1 (λ v. act v agent) (after journal q.0)

-- one more agent acts last
after-push : (journal : List Handle) (agent : Handle) (w : World) → after (journal ++ agent ∷ []) w ≡ then_acts (λ v. act v agent) (after journal w)
after-push [] agent w = no_more (act w agent)
after-push (x ∷ xs) agent w = one_more xs agent (act w x) (after-push xs agent)

-- the step leaves fewer actions than n
abbrev FallsBelow : ℕ → Step → Type 0
FallsBelow n None = Unit {0}
FallsBelow n (Some p) = actions_left p.0 < n

writes_fall : (w : World) (ms : List Message) → w.logged ≡ ms → FallsBelow (actions_left w) (writes w ms)
writes_fall w [] e = tt
writes_fall w (m ∷ ms) e = omega (arith, ap length e)

takes_fall : (w : World) (ms : List Message) → w.mailbox ≡ ms → FallsBelow (actions_left w) (takes w ms)
takes_fall w [] e = tt
takes_fall w (m ∷ ms) e = omega (arith, ap length e)

logs_fall : (w : World) (ts : List (List ℕ)) → w.texts ≡ ts → FallsBelow (actions_left w) (logs w ts)
logs_fall w [] e = takes_fall w w.mailbox refl
logs_fall w (t ∷ ts) e = omega (arith, ap length e, length-append {A = Message})

service_falls : (w : World) (b : Bool) → FallsBelow (actions_left w) (if b then logs w w.texts else takes w w.mailbox)
service_falls w true = logs_fall w w.texts refl
service_falls w false = takes_fall w w.mailbox refl

act_falls : (w : World) (b d : Bool) → FallsBelow (actions_left w) (if b then logger_acts w else (if d then service_acts w else None))
act_falls w true d = writes_fall w w.logged refl
act_falls w false true = service_falls w w.begun
act_falls w false false = tt

-- each action leaves fewer
pub act-falls : (w v : World) (line : List ℕ) (agent : Handle) → act w agent ≡ Some (v, line) → actions_left v < actions_left w
act-falls w v line agent h = subst (FallsBelow (actions_left w)) h (act_falls w (agent.0 == 1) (agent.0 == 3))

-- one more agent in the journal, and what it writes at the end of the text
pub after-more : (first w v : World) (journal longer : List Handle) (text more line : List ℕ) (agent : Handle)
    → after journal first ≡ Some (w, text) → longer ≡ journal ++ agent ∷ [] → act w agent ≡ Some (v, line)
    → more ≡ text ++ line → after longer first ≡ Some (v, more)
after-more first w v journal longer text more line agent so_far j step m =
    ap (λ (l : List Handle). after l first) j ∙ after-push journal agent first
    ∙ ap (then_acts (λ (u : World). act u agent)) so_far ∙ ap (prefixed text) step
    ∙ ap (λ (u : List ℕ). Some (v, u)) (sym m)
