-- What an act moves of a call at the service that acts.
use Rattle.std.proofs.Common.{◌⊎◌, inl, inr, ℕ, ◌≡◌, ◌≢◌, ◌<◌, ◌≤◌, ◌+◌, ◌==◌, Bool, true, false, List, [], ◌∷◌, ◌++◌, Option, Some, None, cond, if◌then◌else◌, refl, ap, sym, ◌∙◌, subst, arith}
use Rattle.std.specs.List.{sum_by}
use Rattle.std.proofs.lemmas.List.Sums.{sum_by-append, sum_by-cons}
use Rattle.std.proofs.lemmas.Bool.Decides.{nat_tests}
use Rattle.message.specs.Messages.{is_request, is_answer, held_of, requests, bounce}
use Rattle.message.specs.Ends.{first, rest}
use Rattle.message.specs.Actors.{Way, IsLawful, IsSound, IsReply, Replying, MayPut, Fits, Frees, Moves, request_in, found_caller}
use Rattle.message.specs.Steps.{IsOne, next_ops, service_ops, op_of, service_after}
use Rattle.sk_types.specs.declared.number.Handle.{Handle}
use Rattle.message.specs.declared.request.Message.{Message}
use Rattle.message.specs.declared.request.Held.{Held}
use Rattle.message.specs.declared.request.Dest.{Dest}
use Rattle.message.specs.declared.request.Dest.TheVariants.{Number, Name}
use Rattle.message.specs.declared.request.Request.TheVariants as ask
use Rattle.message.specs.declared.request.Answer.TheVariants.{Found, Flag, Clock as Told, Done}
use Rattle.message.specs.declared.request.Input.{Input}
use Rattle.message.specs.declared.request.Input.TheVariants.{Message as Comes, Answer as Answers}
use Rattle.message.specs.declared.request.Next.{Next}
use Rattle.message.specs.declared.request.Next.TheVariants.{Idle, Ask}
use Rattle.message.specs.declared.record.What.{What}
use Rattle.message.specs.declared.record.What.TheVariants as did
use Rattle.message.specs.declared.place.Ending.{Ending}
use Rattle.message.specs.declared.place.Service.{Service}
use Rattle.message.specs.declared.place.Service.TheVariants.{Serving, Leaving}
use Rattle.call_fates.specs.Calls.{Call, one, one_of, all_of, asks, replies, holds, sends}
use Rattle.call_fates.specs.Fates.{replying}
use Rattle.call_fates.specs.Flows.{receives, bounces, freed_by, frees, sent, refused, fetched}
use Rattle.call_fates.specs.Kept.{turns}
use Rattle.call_fates.specs.Reached.{ServiceOk}
use Rattle.call_fates.proofs.Forms.{LookFits, asks_then, takes_then, ends_then, no_ticks, no_fires, bounce_did, LooksBack, PutsBack}

-- REQUESTS IN LISTS

one_request : (c : Call) (h : ℕ) (m : Message) (b : Bool) → is_request m ≡ b → all_of c h (if b then held_of m ∷ [] else []) ≡ cond b (one c h (held_of m)) 0
one_request c h m true e = omega (arith, sum_by-cons (one c h) (held_of m) [])
one_request c h m false e = refl

requests_more : (c : Call) (h : ℕ) (m : Message) (ms : List Message) (b : Bool) → is_request m ≡ b → all_of c h (requests (m ∷ ms)) ≡ asks c h m + all_of c h (requests ms)
requests_more c h m ms true e = rw e (omega (arith, sum_by-cons (one c h) (held_of m) (requests ms)))
requests_more c h m ms false e = rw e (omega arith)

pub all_requests : (c : Call) (h : ℕ) (ms : List Message) → all_of c h (requests ms) ≡ sum_by (asks c h) ms
all_requests c h [] = refl
all_requests c h (m ∷ ms) = omega (arith, all_requests c h ms, requests_more c h m ms (is_request m) refl, sum_by-cons (asks c h) m ms)

-- AN INPUT

-- the request whose reply leaves the service by the input
abbrev pub given_up : Option Held → Option Held → Option Held
given_up now (Some x) = None
given_up now None = now

-- what is held and answered next is what was held, with what came
frees_flow : {S : Type 0} (way : Way S) (c : Call) (h : ℕ) (all : List Held) (s : S) (r : Option Held) → Frees way all s r
    → all_of c h (way.held s) + one_of c h r ≡ all_of c h all
frees_flow way c h all s None f = omega (arith, ap (all_of c h) f)
frees_flow way c h all s (Some x) f =
    let front = f.0 in
    let back = f.1 in
    omega (arith, ap (all_of c h) f.2, ap (all_of c h) f.3, sum_by-append (one c h) front (x ∷ back), sum_by-append (one c h) front back, sum_by-cons (one c h) x back)

-- a caller is found for what is being answered, and nothing else comes with it
found_is : (r : Option Held) (i : Input) (x : Held) → found_caller r i ≡ Some x → (r ≡ Some x) × (request_in i ≡ [])
found_is None (Comes m) x e = absurd (cc)
found_is None (Answers (Found f)) x e = absurd (cc)
found_is None (Answers (Flag b)) x e = absurd (cc)
found_is None (Answers (Told n)) x e = absurd (cc)
found_is None (Answers Done) x e = absurd (cc)
found_is (Some y) (Comes m) x e = absurd (cc)
found_is (Some y) (Answers (Found None)) x e = absurd (cc)
found_is (Some y) (Answers (Found (Some h))) x e = (e, refl)
found_is (Some y) (Answers (Flag b)) x e = absurd (cc)
found_is (Some y) (Answers (Told n)) x e = absurd (cc)
found_is (Some y) (Answers Done) x e = absurd (cc)

given_le : (c : Call) (h : ℕ) (r found : Option Held) → one_of c h (given_up r found) ≤ one_of c h r
given_le c h r None = omega arith
given_le c h r (Some x) = omega arith

-- a reply whose caller was found is sent on; else the reply that is sent is a new one
abbrev pub SentOn : Call → ℕ → Option Held → Option Held → Option Held → Type 0
SentOn c h r q found = (one_of c h (freed_by found q) ≡ one_of c h q) ⊎ ((one_of c h (freed_by found q) ≡ 0) × (one_of c h (given_up r found) ≡ 0))

sent_on : (c : Call) (h : ℕ) (r q found : Option Held) → SentOn c h r q found
sent_on c h r q None = inl refl
sent_on c h r q (Some x) = inr (refl, refl)

-- what the input moves
record Moved {S : Type 0} (way : Way S) (c : Call) (h : ℕ) (s : S) (i : Input) (s2 : S) : Type 0 where
  pub hold : all_of c h (way.held s2) + one_of c h (freed_by (found_caller (way.reply s) i) (way.reply s2)) ≡ all_of c h (way.held s) + all_of c h (request_in i)
  pub send : one_of c h (way.reply s2) + one_of c h (given_up (way.reply s) (found_caller (way.reply s) i)) ≡ one_of c h (way.reply s) + one_of c h (freed_by (found_caller (way.reply s) i) (way.reply s2))
  pub gone : one_of c h (given_up (way.reply s) (found_caller (way.reply s) i)) ≤ one_of c h (way.reply s)
  pub on : SentOn c h (way.reply s) (way.reply s2) (found_caller (way.reply s) i)

moved_by : {S : Type 0} (way : Way S) (c : Call) (h : ℕ) (s : S) (i : Input) (s2 : S) (found : Option Held) → found_caller (way.reply s) i ≡ found → Moves way s i s2 found
    → (all_of c h (way.held s2) + one_of c h (freed_by found (way.reply s2)) ≡ all_of c h (way.held s) + all_of c h (request_in i))
    × (one_of c h (way.reply s2) + one_of c h (given_up (way.reply s) found) ≡ one_of c h (way.reply s) + one_of c h (freed_by found (way.reply s2)))
moved_by way c h s i s2 None e m =
    (omega (arith, frees_flow way c h (way.held s ++ request_in i) s2 (way.reply s2) m, sum_by-append (one c h) (way.held s) (request_in i)), omega arith)
moved_by way c h s i s2 (Some x) e m =
    let is = found_is (way.reply s) i x e in
    (omega (arith, ap (all_of c h) is.1, ap (all_of c h) m.1), omega (arith, ap (one_of c h) is.0, ap (one_of c h) m.0))

moved : {S : Type 0} (way : Way S) (sound : S → Type 0) → IsLawful way sound → (c : Call) (h : ℕ) (s : S) (i : Input) → sound s → Fits (way.next s) i → Moved way c h s i (way.fed s i)
moved way sound lawful c h s i ok fits =
    let p = moved_by way c h s i (way.fed s i) (found_caller (way.reply s) i) refl (lawful.step s i ok fits).1.moves in
    record { hold = p.0; send = p.1; gone = given_le c h (way.reply s) (found_caller (way.reply s) i); on = sent_on c h (way.reply s) (way.reply (way.fed s i)) (found_caller (way.reply s) i) }

-- REPLIES

-- the Put of a reply gives the answer to its caller
reply_put : (c : Call) (own : Handle) (x : Held) (to : Handle) (m : Message) → 0 < own.0 → to ≡ x.source → IsReply own x m → replies c to.0 m ≡ one c own.0 x
reply_put c own x to m big is r =
    let ne : (own.0 == 0) ≡ false = grind (arith, nat_tests) in
    rw (r.kind, r.session, r.source, ne, is) refl

no_reply : (c : Call) (h : ℕ) (m : Message) → is_answer m.kind ≡ false → replies c h m ≡ 0
no_reply c h m e = rw e refl

own_reply : (c : Call) (h : ℕ) (m : Message) → is_answer m.kind ≡ true → m.source.0 ≡ 0 → replies c h m ≡ 0
own_reply c h m e zero_is = rw (e, zero_is) refl

-- the Put of a service is the reply to the request that it is answering, or none
serving_put : {S : Type 0} (way : Way S) (c : Call) (s : S) (to : Handle) (m : Message) (r : Option Held) → 0 < (way.handle s).0 → way.next s ≡ Ask (ask.Put to m) → way.reply s ≡ r
    → Replying way s r → MayPut way s (Ask (ask.Put to m)) → replies c to.0 m ≡ one_of c (way.handle s).0 r
serving_put way c s to m None big asked now h (inl p) = no_reply c to.0 m p.0
serving_put way c s to m None big asked now h (inr (inl p)) = own_reply c to.0 m p.2 p.1
serving_put way c s to m None big asked now h (inr (inr p)) = absurd (cc (p.1))
serving_put way c s to m (Some x) big asked now (inl looks) may = absurd (cc)
serving_put way c s to m (Some x) big asked now (inr sends) may =
    let to_is : to ≡ x.source = cc (sends.1) in
    let m_is : sends.0 ≡ m = cc (sends.1) in
    reply_put c (way.handle s) x to m big to_is (subst (IsReply (way.handle s) x) m_is sends.2)

-- a service that asks neither a Look nor a Put sends no reply
pub sends_none : {S : Type 0} (way : Way S) (s : S) (r : Option Held) → Replying way s r → ((d : Dest) → way.next s ≢ Ask (ask.Look d)) → ((h : Handle) (m : Message) → way.next s ≢ Ask (ask.Put h m)) → r ≡ None
sends_none way s None h looks puts = refl
sends_none way s (Some x) (inl p) looks puts = absurd (looks (Number x.source.0) p)
sends_none way s (Some x) (inr p) looks puts = absurd (puts x.source p.0 p.1)

-- so nothing of it leaves by an input
nothing_left : (c : Call) (h : ℕ) (r : Option Held) (i : Input) → r ≡ None → one_of c h (given_up r (found_caller r i)) ≡ 0
nothing_left c h r i e = subst (λ q. one_of c h (given_up q (found_caller q i)) ≡ 0) (sym e) (none i) where
  none : (j : Input) → one_of c h (given_up None (found_caller None j)) ≡ 0
  none (Comes m) = refl
  none (Answers (Found f)) = refl
  none (Answers (Flag b)) = refl
  none (Answers (Told n)) = refl
  none (Answers Done) = refl

all_left : (c : Call) (h : ℕ) (r : Option Held) (b : Bool) → one_of c h (given_up r (found_caller r (Answers (Flag b)))) ≡ one_of c h r
all_left c h None b = refl
all_left c h (Some x) b = refl

look_left : (c : Call) (h : ℕ) (r : Option Held) (d : Dest) (found : Option Handle) → one_of c h (given_up r (found_caller r (Answers (Found found)))) ≡ refused c h r (did.Look d found)
look_left c h None d None = refl
look_left c h None d (Some g) = refl
look_left c h (Some x) d None = refl
look_left c h (Some x) d (Some g) = refl

-- THE SERVICE

-- what an act moves at the service of handle h, which acts
pub record Flows {S : Type 0} (way : Way S) (c : Call) (h : ℕ) (x : Service S) (what : What) : Type 0 where
  pub hold : holds way c h (service_after way x what) + frees way c h x what ≡ holds way c h x + receives c h what
  pub send : sends way c h (service_after way x what) + (sent c what + refused c h (replying way x) what) ≡ sends way c h x + (frees way c h x what + bounces c h what)
  pub gone : sent c what + refused c h (replying way x) what ≤ sends way c h x
  pub turn : (turns way c h x what ≡ frees way c h x what + bounces c h what) ⊎ ((turns way c h x what ≤ sends way c h x) × (frees way c h x what ≡ 0) × (bounces c h what ≡ 0) × (sent c what + refused c h (replying way x) what ≡ 0) × (fetched c h what ≡ 0))

abbrev pub no_count : ℕ
no_count = 0

turned : (q r fr gv : ℕ) (sr : ℕ) → (fr ≡ q) ⊎ ((fr ≡ 0) × (gv ≡ 0)) → q + gv ≡ r + fr → gv ≡ sr → (q ≡ fr + 0) ⊎ ((q ≤ r) × (fr ≡ 0) × (no_count ≡ 0) × (sr ≡ 0) × (no_count ≡ 0))
turned q r fr gv sr (inl e) sum is = inl (omega (arith, e))
turned q r fr gv sr (inr e) sum is = inr (omega (arith, e.0, e.1, sum), e.0, refl, omega (arith, e.1, is), refl)

-- nobody is found by a message
not_by_message : (r q : Option Held) (m : Message) → freed_by (found_caller r (Comes m)) q ≡ q
not_by_message None q m = refl
not_by_message (Some x) q m = refl

-- an input that is the answer to a request other than a Look and a Put
module _ {S : Type 0} (way : Way S) (sound : S → Type 0) (lawful : IsLawful way sound) (c : Call) (s : S) (ok : sound s) (big : 0 < (way.handle s).0) where
  abbrev pub own : ℕ
  own = (way.handle s).0

  told : IsSound way s
  told = lawful.told s ok

  neither : (n : Next) → way.next s ≡ n → ((d : Dest) → n ≢ Ask (ask.Look d)) → ((h : Handle) (m : Message) → n ≢ Ask (ask.Put h m)) → way.reply s ≡ None
  neither n e looks puts = sends_none way s (way.reply s) told.replying (λ d q. looks d (sym e ∙ q)) (λ h m q. puts h m (sym e ∙ q))

  nothing : (n : Next) → way.next s ≡ n → ((d : Dest) → n ≢ Ask (ask.Look d)) → ((h : Handle) (m : Message) → n ≢ Ask (ask.Put h m)) → (i : Input) → one_of c own (given_up (way.reply s) (found_caller (way.reply s) i)) ≡ 0
  nothing n e looks puts i = nothing_left c own (way.reply s) i (neither n e looks puts)

  step : (n : Next) → way.next s ≡ n → (i : Input) → Fits n i → Moved way c own s i (way.fed s i)
  step n e i fits = moved way sound lawful c own s i ok (subst (λ z. Fits z i) (sym e) fits)

  pub serving_flow : (what : What) → IsOne (op_of what) (next_ops (way.next s)) → LookFits what → Flows way c own (Serving s) what
  serving_flow (did.Look (Number n) found) able fits =
      let e = asks_then (way.next s) (ask.Look (Number n)) able in
      let m = step (Ask (ask.Look (Number n))) e (Answers (Found found)) fits in
      record { hold = omega (arith, m.hold); send = omega (arith, m.send, look_left c own (way.reply s) (Number n) found); gone = omega (arith, m.gone, look_left c own (way.reply s) (Number n) found); turn = turned (one_of c own (way.reply (way.fed s (Answers (Found found))))) (one_of c own (way.reply s)) (one_of c own (freed_by (found_caller (way.reply s) (Answers (Found found))) (way.reply (way.fed s (Answers (Found found)))))) (one_of c own (given_up (way.reply s) (found_caller (way.reply s) (Answers (Found found))))) _ m.on m.send (omega (arith, look_left c own (way.reply s) (Number n) found)) }
  serving_flow (did.Look (Name t) found) able fits =
      let e = asks_then (way.next s) (ask.Look (Name t)) able in
      let m = step (Ask (ask.Look (Name t))) e (Answers (Found found)) tt in
      record { hold = omega (arith, m.hold); send = omega (arith, m.send, look_left c own (way.reply s) (Name t) found); gone = omega (arith, m.gone, look_left c own (way.reply s) (Name t) found); turn = turned (one_of c own (way.reply (way.fed s (Answers (Found found))))) (one_of c own (way.reply s)) (one_of c own (freed_by (found_caller (way.reply s) (Answers (Found found))) (way.reply (way.fed s (Answers (Found found)))))) (one_of c own (given_up (way.reply s) (found_caller (way.reply s) (Answers (Found found))))) _ m.on m.send (omega (arith, look_left c own (way.reply s) (Name t) found)) }
  serving_flow (did.Put to msg true) able fits =
      let e = asks_then (way.next s) (ask.Put to msg) able in
      let m = step (Ask (ask.Put to msg)) e (Answers (Flag true)) tt in
      let may : MayPut way s (Ask (ask.Put to msg)) = subst (MayPut way s) e told.puts in
      record { hold = omega (arith, m.hold); send = omega (arith, m.send, all_left c own (way.reply s) true, serving_put way c s to msg (way.reply s) big e refl told.replying may); gone = omega (arith, m.gone, all_left c own (way.reply s) true, serving_put way c s to msg (way.reply s) big e refl told.replying may); turn = turned (one_of c own (way.reply (way.fed s (Answers (Flag true))))) (one_of c own (way.reply s)) (one_of c own (freed_by (found_caller (way.reply s) (Answers (Flag true))) (way.reply (way.fed s (Answers (Flag true)))))) (one_of c own (given_up (way.reply s) (found_caller (way.reply s) (Answers (Flag true))))) _ m.on m.send (omega (arith, all_left c own (way.reply s) true, serving_put way c s to msg (way.reply s) big e refl told.replying may)) }
  serving_flow (did.Put to msg false) able fits =
      let e = asks_then (way.next s) (ask.Put to msg) able in
      let m = step (Ask (ask.Put to msg)) e (Answers (Flag false)) tt in
      record { hold = omega (arith, m.hold); send = omega (arith, m.send, all_left c own (way.reply s) false); gone = omega (arith, m.gone, all_left c own (way.reply s) false); turn = turned (one_of c own (way.reply (way.fed s (Answers (Flag false))))) (one_of c own (way.reply s)) (one_of c own (freed_by (found_caller (way.reply s) (Answers (Flag false))) (way.reply (way.fed s (Answers (Flag false)))))) (one_of c own (given_up (way.reply s) (found_caller (way.reply s) (Answers (Flag false))))) _ m.on m.send (omega (arith, all_left c own (way.reply s) false)) }
  serving_flow (did.Launch text args found) able fits =
      let e = asks_then (way.next s) (ask.Launch text args) able in
      let m = step (Ask (ask.Launch text args)) e (Answers (Found found)) tt in
      record { hold = omega (arith, m.hold); send = omega (arith, m.send, nothing (Ask (ask.Launch text args)) e (λ d q. cc) (λ g n q. cc) (Answers (Found found))); gone = omega (arith, m.gone, nothing (Ask (ask.Launch text args)) e (λ d q. cc) (λ g n q. cc) (Answers (Found found))); turn = turned (one_of c own (way.reply (way.fed s (Answers (Found found))))) (one_of c own (way.reply s)) (one_of c own (freed_by (found_caller (way.reply s) (Answers (Found found))) (way.reply (way.fed s (Answers (Found found)))))) (one_of c own (given_up (way.reply s) (found_caller (way.reply s) (Answers (Found found))))) _ m.on m.send (omega (arith, nothing (Ask (ask.Launch text args)) e (λ d q. cc) (λ g n q. cc) (Answers (Found found)))) }
  serving_flow (did.Name text g named) able fits =
      let e = asks_then (way.next s) (ask.Name text g) able in
      let m = step (Ask (ask.Name text g)) e (Answers (Flag named)) tt in
      record { hold = omega (arith, m.hold); send = omega (arith, m.send, nothing (Ask (ask.Name text g)) e (λ d q. cc) (λ k n q. cc) (Answers (Flag named))); gone = omega (arith, m.gone, nothing (Ask (ask.Name text g)) e (λ d q. cc) (λ k n q. cc) (Answers (Flag named))); turn = turned (one_of c own (way.reply (way.fed s (Answers (Flag named))))) (one_of c own (way.reply s)) (one_of c own (freed_by (found_caller (way.reply s) (Answers (Flag named))) (way.reply (way.fed s (Answers (Flag named)))))) (one_of c own (given_up (way.reply s) (found_caller (way.reply s) (Answers (Flag named))))) _ m.on m.send (omega (arith, nothing (Ask (ask.Name text g)) e (λ d q. cc) (λ k n q. cc) (Answers (Flag named)))) }
  serving_flow (did.Retire g retired) able fits =
      let e = asks_then (way.next s) (ask.Retire g) able in
      let m = step (Ask (ask.Retire g)) e (Answers (Flag retired)) tt in
      record { hold = omega (arith, m.hold); send = omega (arith, m.send, nothing (Ask (ask.Retire g)) e (λ d q. cc) (λ k n q. cc) (Answers (Flag retired))); gone = omega (arith, m.gone, nothing (Ask (ask.Retire g)) e (λ d q. cc) (λ k n q. cc) (Answers (Flag retired))); turn = turned (one_of c own (way.reply (way.fed s (Answers (Flag retired))))) (one_of c own (way.reply s)) (one_of c own (freed_by (found_caller (way.reply s) (Answers (Flag retired))) (way.reply (way.fed s (Answers (Flag retired)))))) (one_of c own (given_up (way.reply s) (found_caller (way.reply s) (Answers (Flag retired))))) _ m.on m.send (omega (arith, nothing (Ask (ask.Retire g)) e (λ d q. cc) (λ k n q. cc) (Answers (Flag retired)))) }
  serving_flow (did.Mark g) able fits =
      let e = asks_then (way.next s) (ask.Mark g) able in
      let m = step (Ask (ask.Mark g)) e (Answers Done) tt in
      record { hold = omega (arith, m.hold); send = omega (arith, m.send, nothing (Ask (ask.Mark g)) e (λ d q. cc) (λ k n q. cc) (Answers Done)); gone = omega (arith, m.gone, nothing (Ask (ask.Mark g)) e (λ d q. cc) (λ k n q. cc) (Answers Done)); turn = turned (one_of c own (way.reply (way.fed s (Answers Done)))) (one_of c own (way.reply s)) (one_of c own (freed_by (found_caller (way.reply s) (Answers Done)) (way.reply (way.fed s (Answers Done))))) (one_of c own (given_up (way.reply s) (found_caller (way.reply s) (Answers Done)))) _ m.on m.send (omega (arith, nothing (Ask (ask.Mark g)) e (λ d q. cc) (λ k n q. cc) (Answers Done))) }
  serving_flow (did.Later n x) able fits =
      let e = asks_then (way.next s) (ask.Later n x) able in
      let m = step (Ask (ask.Later n x)) e (Answers Done) tt in
      record { hold = omega (arith, m.hold); send = omega (arith, m.send, nothing (Ask (ask.Later n x)) e (λ d q. cc) (λ k z q. cc) (Answers Done)); gone = omega (arith, m.gone, nothing (Ask (ask.Later n x)) e (λ d q. cc) (λ k z q. cc) (Answers Done)); turn = turned (one_of c own (way.reply (way.fed s (Answers Done)))) (one_of c own (way.reply s)) (one_of c own (freed_by (found_caller (way.reply s) (Answers Done)) (way.reply (way.fed s (Answers Done))))) (one_of c own (given_up (way.reply s) (found_caller (way.reply s) (Answers Done)))) _ m.on m.send (omega (arith, nothing (Ask (ask.Later n x)) e (λ d q. cc) (λ k z q. cc) (Answers Done))) }
  serving_flow (did.Now n) able fits =
      let e = asks_then (way.next s) ask.Now able in
      let m = step (Ask ask.Now) e (Answers (Told n)) tt in
      record { hold = omega (arith, m.hold); send = omega (arith, m.send, nothing (Ask ask.Now) e (λ d q. cc) (λ k z q. cc) (Answers (Told n))); gone = omega (arith, m.gone, nothing (Ask ask.Now) e (λ d q. cc) (λ k z q. cc) (Answers (Told n))); turn = turned (one_of c own (way.reply (way.fed s (Answers (Told n))))) (one_of c own (way.reply s)) (one_of c own (freed_by (found_caller (way.reply s) (Answers (Told n))) (way.reply (way.fed s (Answers (Told n)))))) (one_of c own (given_up (way.reply s) (found_caller (way.reply s) (Answers (Told n))))) _ m.on m.send (omega (arith, nothing (Ask ask.Now) e (λ d q. cc) (λ k z q. cc) (Answers (Told n)))) }
  serving_flow (did.Take msg left) able fits =
      let e = takes_then (way.next s) able in
      let m = step Idle e (Comes msg) tt in
      record { hold = omega (arith, m.hold, one_request c own msg (is_request msg) refl); send = omega (arith, m.send, nothing Idle e (λ d q. cc) (λ k z q. cc) (Comes msg)); gone = omega (arith, m.gone, nothing Idle e (λ d q. cc) (λ k z q. cc) (Comes msg)); turn = inl (omega (arith, ap (one_of c own) (not_by_message (way.reply s) (way.reply (way.fed s (Comes msg))) msg))) }
  serving_flow (did.End ms) able fits =
      let e = ends_then (way.next s) able in
      let none = neither Idle e (λ d q. cc) (λ k z q. cc) in
      record { hold = omega arith; send = omega (arith, ap (one_of c own) none, all_requests c own ms, sum_by-append (one c own) (way.held s) (requests ms)); gone = omega arith; turn = inl refl }
  serving_flow (did.Tick due) able fits = absurd (no_ticks (way.next s) able)
  serving_flow (did.Fire g m taken) able fits = absurd (no_fires (way.next s) g m able)

bounced : (c : Call) (h : ℕ) (xs : List Held) → all_of c h (rest xs) + one_of c h (first xs) ≡ all_of c h xs
bounced c h [] = refl
bounced c h (x ∷ xs) = omega (arith, sum_by-cons (one c h) x xs)

-- an ended service
leaving_looks : {S : Type 0} (way : Way S) (c : Call) (e : Ending) (d : Dest) (answer : Option Handle) → Flows way c e.own.0 (Leaving e) (did.Look d answer)
leaving_looks way c e d None = record { hold = refl; send = omega (arith, bounced c e.own.0 e.bounces); gone = omega (arith, bounced c e.own.0 e.bounces); turn = inl refl }
leaving_looks way c e d (Some g) = record { hold = refl; send = omega arith; gone = omega arith; turn = inl refl }

leaving_puts : {S : Type 0} (way : Way S) (c : Call) (e : Ending) (x : Held) (taken : Bool) → 0 < e.own.0 → first e.bounces ≡ Some x → Flows way c e.own.0 (Leaving e) (did.Put x.source (bounce e.own x) taken)
leaving_puts way c e x false big is = record { hold = refl; send = omega (arith, bounced c e.own.0 e.bounces); gone = omega (arith, bounced c e.own.0 e.bounces); turn = inl refl }
leaving_puts way c e x true big is = record {
  hold = refl;
  send = omega (arith, bounced c e.own.0 e.bounces, ap (one_of c e.own.0) is, reply_put c e.own x x.source (bounce e.own x) big refl (record { kind = refl; session = refl; source = refl }));
  gone = omega (arith, bounced c e.own.0 e.bounces, ap (one_of c e.own.0) is, reply_put c e.own x x.source (bounce e.own x) big refl (record { kind = refl; session = refl; source = refl }));
  turn = inl refl;
}

leaving_flow : {S : Type 0} (way : Way S) (c : Call) (e : Ending) (what : What) → 0 < e.own.0 → LooksBack e.own e.found e.bounces what ⊎ PutsBack e.own e.found e.bounces what → Flows way c e.own.0 (Leaving e) what
leaving_flow way c e what big (inl p) = subst (Flows way c e.own.0 (Leaving e)) (sym p.4) (leaving_looks way c e (Number p.0.source.0) p.1)
leaving_flow way c e what big (inr p) = subst (Flows way c e.own.0 (Leaving e)) (sym p.4) (leaving_puts way c e p.0 p.1 big p.2)

pub service_flow : {S : Type 0} (way : Way S) (sound : S → Type 0) → IsLawful way sound → (c : Call) (h : Handle) (x : Service S) (what : What) → 0 < h.0 → ServiceOk way sound h x
    → IsOne (op_of what) (service_ops way x) → LookFits what → Flows way c h.0 x what
service_flow way sound lawful c h (Serving s) what big ok able fits =
    let n : (way.handle s).0 ≡ h.0 = ap (λ (z : Handle). z.0) ok.1 in
    subst (λ k. Flows way c k (Serving s) what) n (serving_flow way sound lawful c s ok.0 (omega (arith, big, n)) what able fits)
service_flow way sound lawful c h (Leaving e) what big ok able fits =
    let n : e.own.0 ≡ h.0 = ap (λ (z : Handle). z.0) ok in
    subst (λ k. Flows way c k (Leaving e) what) n (leaving_flow way c e what (omega (arith, big, n)) (bounce_did e.own e.found e.bounces what able))
