-- What a byte does in a journal's lines.
use Rattle.std.proofs.Common.{◌≡◌, ◌≢◌, ◌∙◌, ◌⊎◌, inl, inr, ◌+◌, ◌-◌, ◌*◌, ◌/◌, ◌%◌, ◌≤◌, ◌<◌, ℕ, suc, List, [], ◌∷◌, ◌++◌, ap, sym, arith, decimal, length, append_assoc}
use Rattle.sk_types.specs.declared.number.Handle.{Handle}
use Rattle.std.proofs.lemmas.Fmt.{decimal_digit, decimal_step}
use Rattle.journal.specs.Format.{AreKnown, last_line, lines}
use Rattle.journal.specs.Tails.{GoesOn, LineTail, NumberTail, Takes, value}
use Rattle.journal.specs.declared.lines.Spot.TheVariants as spot
use Rattle.journal.specs.declared.lines.Step.TheVariants as step
use Rattle.journal.proofs.Numerals.{Starts, decimal_starts, grows}

-- what a byte that does not begin the last line says at the head of a line
pub record Began (entries byte : ℕ) (text : List ℕ) : Type 0 where
  pub low : 48 ≤ byte
  pub high : byte ≤ 57
  pub room : entries < 4000000
  pub tail : NumberTail entries (byte - 48) text

began : (entries byte : ℕ) (text : List ℕ) (agent : Handle) (agents : List Handle) (s : Starts agent.0 (decimal agent.0)) → agent.0 ≤ 65535 → AreKnown agents
    → entries + suc (length agents) ≤ 4000000
    → byte ≡ s.first → text ≡ s.digits ++ (10 ∷ (lines agents ++ last_line (entries + suc (length agents))))
    → Began entries byte text
began entries byte text agent agents s small known few head tail = record {
  low = omega (arith, s.low, head);
  high = omega (arith, s.high, head);
  room = omega arith;
  tail = record {
    digits = s.digits;
    goes_on = rw (head) s.goes_on;
    small = rw (head, s.worth) small;
    after = lines agents ++ last_line (entries + suc (length agents));
    lines_after = record { agents = agents; few = omega arith; known = known; is = ap (λ (n : ℕ). lines agents ++ last_line n) (omega arith) };
    is = tail;
  };
}

pub line_inv : (entries byte : ℕ) (text : List ℕ) → byte ≢ 101 → LineTail entries (byte ∷ text) → Began entries byte text
line_inv entries byte text other t = go t.agents t.few t.known t.is
  where
    go : (agents : List Handle) → entries + length agents ≤ 4000000 → AreKnown agents → byte ∷ text ≡ lines agents ++ last_line (entries + length agents) → Began entries byte text
    go [] few known e = absurd (other (cc))
    go (agent ∷ agents) few known e =
        let s = decimal_starts agent.0 (omega (arith, known.0)) in
        let spelled : byte ∷ text ≡ s.first ∷ (s.digits ++ (10 ∷ (lines agents ++ last_line (entries + suc (length agents))))) =
        e ∙ append_assoc (decimal agent.0) (10 ∷ lines agents) _ ∙ ap (λ (t : List ℕ). t ++ (10 ∷ (lines agents ++ last_line (entries + suc (length agents))))) s.is in
        began entries byte text agent agents s known.0 known.1 few (cc) (cc)

-- what a byte says after digits
pub number_inv : (entries number byte : ℕ) (text : List ℕ) → NumberTail entries number (byte ∷ text)
    → ((byte ≡ 10) × LineTail (entries + 1) text)
    ⊎ ((0 < number) × (48 ≤ byte) × (byte ≤ 57) × (number * 10 + (byte - 48) ≤ 65535) × NumberTail entries (number * 10 + (byte - 48)) text)
number_inv entries number byte text t = go t.digits t.goes_on t.small t.is
  where
    go : (digits : List ℕ) → GoesOn number digits → value number digits ≤ 65535 → byte ∷ text ≡ digits ++ 10 ∷ t.after
        → ((byte ≡ 10) × LineTail (entries + 1) text)
        ⊎ ((0 < number) × (48 ≤ byte) × (byte ≤ 57) × (number * 10 + (byte - 48) ≤ 65535) × NumberTail entries (number * 10 + (byte - 48)) text)
    go [] g small e =
        let same : text ≡ t.after = cc in
        inl (cc, record { agents = t.lines_after.agents; few = t.lines_after.few; known = t.lines_after.known; is = same ∙ t.lines_after.is })
    go (digit ∷ digits) g small e =
        let head : byte ≡ digit = cc in
        let rest : text ≡ digits ++ 10 ∷ t.after = cc in
        inr (
          g.0,
          rw head g.1,
          rw head g.2,
          rw head (omega (arith, grows (number * 10 + (digit - 48)) digits, small)),
          record { digits = digits; goes_on = rw head g.3; small = rw head small; after = t.after; lines_after = t.lines_after; is = rest },
        )

-- ---- what each step takes

pub line_fault : (byte entries : ℕ) → byte ≢ 101 → ((48 ≤ byte) × (byte ≤ 57) × (entries < 4000000) → ⊥) → Takes spot.Line byte entries step.Fault
line_fault byte entries other outside text t =
    let began = line_inv entries byte text other t in outside (began.low, began.high, began.room)

pub line_digit : (byte entries : ℕ) → 48 ≤ byte → byte ≤ 57 → entries < 4000000 → Takes spot.Line byte entries (step.Digit (byte - 48))
line_digit byte entries low high room = (
  ap (λ (b : ℕ). b ∷ []) (omega arith) ∙ sym (decimal_digit (byte - 48) (omega arith)),
  (room, omega arith),
  λ text t. (line_inv entries byte text (λ e. omega arith) t).tail,
)

pub number_fault : (number byte entries : ℕ) → byte ≢ 10 → ((0 < number) × (48 ≤ byte) × (byte ≤ 57) × (number * 10 + (byte - 48) ≤ 65535) → ⊥) → Takes (spot.Number number) byte entries step.Fault
number_fault number byte entries other outside text t = go (number_inv entries number byte text t)
  where
    go : ((byte ≡ 10) × LineTail (entries + 1) text)
        ⊎ ((0 < number) × (48 ≤ byte) × (byte ≤ 57) × (number * 10 + (byte - 48) ≤ 65535) × NumberTail entries (number * 10 + (byte - 48)) text) → ⊥
    go (inl p) = other p.0
    go (inr p) = outside (p.0, p.1, p.2, p.3)

pub number_digit : (number byte entries longer : ℕ) → longer ≡ number * 10 + (byte - 48) → 0 < number → 48 ≤ byte → byte ≤ 57 → longer ≤ 65535 → entries < 4000000
    → Takes (spot.Number number) byte entries (step.Digit longer)
number_digit number byte entries longer is some low high small room = (
  rw (decimal_step longer (omega arith) (omega arith)) (same (longer / 10) (longer % 10) (omega arith) (omega arith)),
  (room, small),
  λ text t. rw is (go text (number_inv entries number byte text t)),
)
  where
    same : (tens ones : ℕ) → tens ≡ number → 48 + ones ≡ byte → decimal number ++ byte ∷ [] ≡ decimal tens ++ (48 + ones) ∷ []
    same tens ones a b = rw (a, b)

    go : (text : List ℕ) → ((byte ≡ 10) × LineTail (entries + 1) text)
        ⊎ ((0 < number) × (48 ≤ byte) × (byte ≤ 57) × (number * 10 + (byte - 48) ≤ 65535) × NumberTail entries (number * 10 + (byte - 48)) text) → NumberTail entries (number * 10 + (byte - 48)) text
    go text (inl p) = absurd (omega (arith, p.0))
    go text (inr p) = p.4
