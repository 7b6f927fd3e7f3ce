-- The first of a list of bounces, and those after it.
use Rattle.std.proofs.Common.{ℕ, zero, suc, ◌≡◌, ◌<◌, ◌≤◌, ◌+◌, true, false, List, [], ◌∷◌, ◌++◌, drop, length, Some, None, slice_get, refl, ap, sym, ◌∙◌, arith}
use Rattle.std.specs.Option.{option_map}
use Rattle.message.specs.Messages.{is_request, requests, held_of}
use Rattle.message.specs.Ends.{first, rest, BeginsWithRequest}
use Rattle.message.specs.declared.request.Message.{Message}
use Rattle.message.specs.declared.request.Held.{Held}

-- a request stands in the list of requests
pub requests_yes : (m : Message) (ms : List Message) → is_request m ≡ true → requests (m ∷ ms) ≡ held_of m ∷ requests ms
requests_yes m ms e = rw e refl

pub requests_no : (m : Message) (ms : List Message) → is_request m ≡ false → requests (m ∷ ms) ≡ requests ms
requests_no m ms e = rw e refl

-- what begins with a request has its caller first
pub first_waiting : (ms : List Message) → BeginsWithRequest ms → first (requests ms) ≡ option_map held_of (slice_get ms 0)
first_waiting [] h = refl
first_waiting (m ∷ ms) h = ap first (requests_yes m ms h)

pub rest_waiting : (ms : List Message) → BeginsWithRequest ms → requests (drop 1 ms) ≡ rest (requests ms)
rest_waiting [] h = refl
rest_waiting (m ∷ ms) h = sym (ap rest (requests_yes m ms h))

-- a held one stands before those that wait
pub first_held : (xs : List Held) (n : ℕ) (ys : List Held) (x : Held) → slice_get xs n ≡ Some x → first (drop n xs ++ ys) ≡ Some x
first_held [] n ys x e = absurd (cc)
first_held (z ∷ xs) zero ys x e = e
first_held (z ∷ xs) (suc n) ys x e = first_held xs n ys x e

pub first_past : (xs : List Held) (n : ℕ) (ys : List Held) → slice_get xs n ≡ None → first (drop n xs ++ ys) ≡ first ys
first_past [] zero ys e = refl
first_past [] (suc n) ys e = refl
first_past (z ∷ xs) zero ys e = absurd (cc)
first_past (z ∷ xs) (suc n) ys e = first_past xs n ys e

pub rest_held : (xs : List Held) (n : ℕ) (ys : List Held) → n < length xs → drop (suc n) xs ++ ys ≡ rest (drop n xs ++ ys)
rest_held [] n ys l = absurd (omega arith)
rest_held (z ∷ xs) zero ys l = refl
rest_held (z ∷ xs) (suc n) ys l = rest_held xs n ys (omega arith)

pub rest_held_more : (xs : List Held) (n : ℕ) (ys : List Held) → n < length xs → drop (n + 1) xs ++ ys ≡ rest (drop n xs ++ ys)
rest_held_more xs n ys l = let e : n + 1 ≡ suc n = omega arith in ap (λ k. drop k xs ++ ys) e ∙ rest_held xs n ys l

pub rest_past : (xs : List Held) (n : ℕ) → length xs ≤ n → (ys zs : List Held) → zs ≡ rest ys → drop n xs ++ zs ≡ rest (drop n xs ++ ys)
rest_past [] zero l ys zs e = e
rest_past [] (suc n) l ys zs e = e
rest_past (z ∷ xs) zero l ys zs e = absurd (omega arith)
rest_past (z ∷ xs) (suc n) l ys zs e = rest_past xs n (omega arith) ys zs e
