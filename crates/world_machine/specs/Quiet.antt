-- An actor for tests: it takes each message, holds each request, and asks nothing, under any handle and any name but the empty one.
use Rattle.std.specs.Prelude.{ℕ, ◌≡◌, List, [], ◌∷◌, ◌++◌, Option, Some, None, refl}
use Rattle.std.proofs.Common.{arith, subst, inl}
use Rattle.message.specs.Actors.{Way, IsLawful, Begins, request_in}
use Rattle.sk_types.specs.declared.number.Handle.{Handle}
use Rattle.message.specs.declared.request.Held.{Held}
use Rattle.message.specs.declared.request.Next.TheVariants.{Idle}

-- its handle, and what it holds
abbrev pub Quiets : Type 0
Quiets = Handle × List Held

abbrev pub quiet_begins : Handle → List ℕ → Option Quiets
quiet_begins own [] = None
quiet_begins own (c ∷ cs) = Some (own, [])

abbrev pub quiet_way : Way Quiets
quiet_way = record {
  next = λ s. Idle;
  fed = λ s i. (s.0, s.1 ++ request_in i);
  held = λ s. s.1;
  reply = λ s. None;
  handle = λ s. s.0;
  asked = λ s. 0;
  known = λ s. [];
  begins = λ name own. quiet_begins own name;
  opens = λ own. Some (own, []);
}

abbrev pub quiet_sound : Quiets → Type 0
quiet_sound s = Unit {0}

pub quiet_new : (own : Handle) (s : Quiets) → Some (own, []) ≡ Some s → Begins quiet_way quiet_sound own s
quiet_new own s h =
    let e : (own, []) ≡ s = cc in
    subst (λ (z : Quiets). Begins quiet_way quiet_sound own z) e (record { is_sound = tt; is_new = record { idle = refl; holds = refl; replies = refl; asks = refl; knows = refl; named = refl } })

begun : (own : Handle) (name : List ℕ) (s : Quiets) → quiet_begins own name ≡ Some s → Begins quiet_way quiet_sound own s
begun own [] s h = absurd (cc)
begun own (c ∷ cs) s h = quiet_new own s h

pub quiet_lawful : IsLawful quiet_way quiet_sound
quiet_lawful = record {
  begin = λ name own s h. begun own name s h;
  opened = λ own s h. quiet_new own s h;
  told = λ s h. record { replying = tt; puts = tt; reaches = tt; waits = tt };
  step = λ s i h fits. (tt, record { named = refl; moves = refl; draws = omega arith; marks = tt; may_mark = tt; learns = λ k c. inl c });
}
