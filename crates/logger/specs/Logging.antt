-- The logger as an actor: it takes each message, holds each request, and asks nothing. And that it keeps the laws.
use Rattle.std.specs.Prelude.{ℕ, ◌≡◌, ◌==◌, Bool, true, false, List, [], ◌++◌, Some, None, if◌then◌else◌, refl}
use Rattle.std.proofs.Common.{arith, ap, sym, inl}
use Rattle.std.proofs.lemmas.Bool.Decides.{nat_tests}
use Rattle.message.specs.Actors.{Way, IsLawful, request_in}
use Rattle.sk_types.specs.declared.number.Handle.{Handle}
use Rattle.message.specs.declared.request.Held.{Held}
use Rattle.message.specs.declared.request.Next.TheVariants.{Idle}

-- its state is the list of the requests that it holds; it is the first service of a run, and no script is one
abbrev pub logger_way : Way (List Held)
logger_way = record {
  next = λ s. Idle;
  fed = λ s i. s ++ request_in i;
  held = λ s. s;
  reply = λ s. None;
  handle = λ s. record { 0 = 1 };
  asked = λ s. 0;
  known = λ s. [];
  begins = λ name own. None;
  opens = λ own. if own.0 == 1 then Some [] else None;
}

-- any list is one of its states
abbrev pub logger_sound : List Held → Type 0
logger_sound s = Unit {0}

named : (own : Handle) → own.0 ≡ 1 → own ≡ record { 0 = 1 }
named own e = let f : ℕ → Handle = λ k. record { 0 = k } in ap f e

opened : (own : Handle) (b : Bool) → (own.0 == 1) ≡ b → (s : List Held) → (if b then Some [] else None) ≡ Some s → (s ≡ []) × (own ≡ record { 0 = 1 })
opened own true e s h = (cc, named own (grind (arith, nat_tests)))
opened own false e s h = absurd (cc)

pub logger_lawful : IsLawful logger_way logger_sound
logger_lawful = record {
  begin = λ name own s h. absurd (cc);
  opened = λ own s h. let w = opened own (own.0 == 1) refl s h in record { is_sound = tt; is_new = record { idle = refl; holds = w.0; replies = refl; asks = refl; knows = refl; named = sym w.1 } };
  told = λ s h. record { replying = tt; puts = tt; reaches = tt; waits = tt };
  step = λ s i h fits. (tt, record { named = refl; moves = refl; draws = omega arith; marks = tt; may_mark = tt; learns = λ k c. inl c });
}
