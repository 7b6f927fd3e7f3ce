-- A reader of a journal's lines, one byte after another.
use Rattle.std.proofs.Common.{◌≡◌, ◌∙◌, ◌⊎◌, inl, inr, ◌+◌, ◌-◌, ◌*◌, ◌≤◌, ◌<◌, ℕ, suc, List, [], ◌∷◌, ◌++◌, ap, sym, refl, arith, decimal, length, append_assoc, append-nil, take, drop, get_or, drop-cons}
use Rattle.std.proofs.Math.Seq.{take-suc}
use Rattle.std.proofs.Math.Path.{subst}
use Rattle.std.proofs.lemmas.List.{length-append, drop_all}
use Rattle.sk_types.specs.declared.number.Handle.{Handle}
use Rattle.journal.specs.Faults.{Begins, IsBody, IsFirstFault}
use Rattle.journal.specs.Format.{AreKnown, last_line, lines}
use Rattle.journal.specs.Tails.{IsReached, LineTail, NumberTail, Tail, Takes, begun}
use Rattle.journal.specs.declared.lines.Spot.{Spot}
use Rattle.journal.specs.declared.lines.Spot.TheVariants as spot
use Rattle.journal.specs.declared.lines.Step.{Step}
use Rattle.journal.specs.declared.lines.Step.TheVariants as step
use Rattle.journal.proofs.Languages.{fault_at_byte, fault_at_end, fault_from}
use Rattle.journal.proofs.Numerals.{decimal_starts}
use Rattle.journal.proofs.Spellings.{appended, begun_goes_on, lines-append}
use Rattle.journal.proofs.Steps.{number_inv}

pub reached_first : (body : List ℕ) → IsReached body 0 [] spot.Line
reached_first body = record {
  journal = record { few = omega arith; known = tt };
  is_place = tt;
  is = refl;
  only = λ text b. record { agents = b.agents; few = omega (arith, b.spells.journal.few); known = b.spells.journal.known; is = b.spells.is ∙ ap (λ (n : ℕ). lines b.agents ++ last_line n) (omega arith) };
}

-- the bytes up to the next one
abbrev pub Next : List ℕ → ℕ → ℕ → Type 0
Next body at byte = take (at + 1) body ≡ take at body ++ byte ∷ []

pub next_of : (body : List ℕ) (at : ℕ) → at < length body → Next body at (get_or body at 0)
next_of body at small = ap (λ (j : ℕ). take j body) {x = at + 1} {y = suc at} (omega arith) ∙ take-suc body at 0 small

pub drop_of : (body : List ℕ) (at : ℕ) → at < length body → drop at body ≡ get_or body at 0 ∷ drop (at + 1) body
drop_of body at small = drop-cons body at 0 small ∙ ap (λ (j : ℕ). get_or body at 0 ∷ drop j body) {x = suc at} {y = at + 1} (omega arith)

pub takes_at : (place : Spot) (byte m n : ℕ) (s : Step) → m ≡ n → Takes place byte m s → Takes place byte n s
takes_at place byte m n s e t = subst (λ (k : ℕ). Takes place byte k s) e t

body_on : (body : List ℕ) (at byte : ℕ) (text : List ℕ) → Next body at byte → IsBody (take (at + 1) body ++ text) → IsBody (take at body ++ (byte ∷ text))
body_on body at byte text next b = subst IsBody (ap (λ (t : List ℕ). t ++ text) next ∙ append_assoc (take at body) (byte ∷ []) text) b

pub reached_digit : (body : List ℕ) (at byte : ℕ) (agents : List Handle) (place : Spot) (n : ℕ) → Next body at byte → IsReached body at agents place
    → Takes place byte (length agents) (step.Digit n) → IsReached body (at + 1) agents (spot.Number n)
reached_digit body at byte agents place n next r t = record {
  journal = r.journal;
  is_place = t.1;
  is = next ∙ ap (λ (x : List ℕ). x ++ byte ∷ []) r.is ∙ append_assoc (lines agents) (begun place) (byte ∷ []) ∙ ap (λ (x : List ℕ). lines agents ++ x) t.0;
  only = λ text b. t.2 text (r.only (byte ∷ text) (body_on body at byte text next b));
}

ended : (body : List ℕ) (at : ℕ) (agents : List Handle) (n : ℕ) (h : Handle) → h.0 ≡ n → Next body at 10 → IsReached body at agents (spot.Number n)
    → IsReached body (at + 1) (agents ++ h ∷ []) spot.Line
ended body at agents n h is next r = record {
  journal = appended agents h r.journal r.is_place.0 (omega (arith, is, r.is_place.1));
  is_place = tt;
  is = next ∙ ap (λ (x : List ℕ). x ++ 10 ∷ []) r.is ∙ append_assoc (lines agents) (decimal n) (10 ∷ [])
      ∙ ap (λ (k : ℕ). lines agents ++ (decimal k ++ 10 ∷ [])) (sym is) ∙ sym (lines-append agents (h ∷ []))
      ∙ sym (append-nil (lines (agents ++ h ∷ [])));
  only = λ text b. go text (number_inv (length agents) n 10 text (r.only (10 ∷ text) (body_on body at 10 text next b)));
}
  where
    go : (text : List ℕ) → (◌≡◌ {A = ℕ} 10 10 × LineTail (length agents + 1) text)
        ⊎ ((0 < n) × (48 ≤ 10) × (10 ≤ 57) × (n * 10 + (10 - 48) ≤ 65535) × NumberTail (length agents) (n * 10 + (10 - 48)) text)
        → LineTail (length (agents ++ h ∷ [])) text
    go text (inl p) = subst (λ (k : ℕ). LineTail k text) (sym (length-append agents (h ∷ []))) p.1
    go text (inr p) = absurd (omega (arith, p.1))

pub reached_entry : (body : List ℕ) (at byte : ℕ) (agents : List Handle) (place : Spot) (n : ℕ) (h : Handle) → h.0 ≡ n → Next body at byte → IsReached body at agents place
    → Takes place byte (length agents) (step.Entry n) → IsReached body (at + 1) (agents ++ h ∷ []) spot.Line
reached_entry body at byte agents place n h is next r t =
    ended body at agents n h is (next ∙ ap (λ (b : ℕ). take at body ++ b ∷ []) t.1) (subst (IsReached body at agents) t.0 r)

-- ---- faults

goes_on : (body : List ℕ) (at : ℕ) (agents : List Handle) (place : Spot) → IsReached body at agents place → Begins (λ r. IsBody (take at body ++ r)) []
goes_on body at agents place r =
    let b = begun_goes_on agents place r.journal r.is_place in
    record { rest = b.rest; goes_on = subst IsBody (ap (λ (t : List ℕ). t ++ b.rest) (sym r.is)) b.goes_on }

pub fault_here : (body : List ℕ) (at byte : ℕ) (agents : List Handle) (place : Spot) → at < length body → drop at body ≡ byte ∷ drop (at + 1) body
    → IsReached body at agents place → Takes place byte (length agents) step.Fault → IsFirstFault IsBody body at
fault_here body at byte agents place small is r t =
    let here = fault_at_byte (λ x. IsBody (take at body ++ x)) byte (drop (at + 1) body) (goes_on body at agents place r)
    (λ x b. t x (r.only (byte ∷ x) b)) in
    let there = subst (λ (x : List ℕ). IsFirstFault (λ x. IsBody (take at body ++ x)) x 0) (sym is) here in
    subst (IsFirstFault IsBody body) {x = at + 0} {y = at} (omega arith) (fault_from IsBody body at 0 (omega arith) there)

no_line : (entries : ℕ) → LineTail entries [] → ⊥
no_line entries t = go t.agents t.known t.is
  where
    go : (agents : List Handle) → AreKnown agents → [] ≡ lines agents ++ last_line (entries + length agents) → ⊥
    go [] k e = absurd (cc)
    go (h ∷ agents) k e =
        let s = decimal_starts h.0 (omega (arith, k.0)) in
        let spelled : [] ≡ s.first ∷ (s.digits ++ (10 ∷ (lines agents ++ last_line (entries + suc (length agents))))) =
        e ∙ append_assoc (decimal h.0) (10 ∷ lines agents) _ ∙ ap (λ (t : List ℕ). t ++ (10 ∷ (lines agents ++ last_line (entries + suc (length agents))))) s.is in
        absurd (cc)

no_tail : (entries : ℕ) (place : Spot) → Tail place entries [] → ⊥
no_tail entries spot.Line t = no_line entries t
no_tail entries (spot.Number n) t = go t.digits t.is
  where
    go : (digits : List ℕ) → [] ≡ digits ++ 10 ∷ t.after → ⊥
    go [] e = absurd (cc)
    go (d ∷ digits) e = absurd (cc)

pub fault_end : (body : List ℕ) (agents : List Handle) (place : Spot) → IsReached body (length body) agents place → IsFirstFault IsBody body (length body)
fault_end body agents place r =
    let at = length body in
    let here = fault_at_end (λ x. IsBody (take at body ++ x)) (goes_on body at agents place r) (λ b. no_tail (length agents) place (r.only [] b)) in
    let there = subst (λ (x : List ℕ). IsFirstFault (λ x. IsBody (take at body ++ x)) x 0) (sym (drop_all at body (omega arith))) here in
    subst (IsFirstFault IsBody body) {x = at + 0} {y = at} (omega arith) (fault_from IsBody body at 0 (omega arith) there)
