-- What is read after bytes that are skipped.
use Rattle.std.proofs.Common.{◌≡◌, ◌∙◌, ◌+◌, ◌++◌, ℕ, Bool, true, false, [], ◌∷◌, length, drop, take, min, zero, suc, refl, ap, sym, arith, append_assoc, Ok, Err, Some, None, ◌==◌, ◌≢◌, if◌then◌else◌}
use Rattle.lua_token.specs.Characters.{Text, end_len, first_is, is_digit, is_end, is_other_end, line_ends, line_ends_from}
use Rattle.std.proofs.lemmas.Bool.{eqb-true}
use Rattle.std.specs.List.{take_while}
use Rattle.sk_types.specs.declared.fault.SyntaxKind.TheVariants as bad
use Rattle.lua_token.specs.declared.escape.Escape.{Escape}
use Rattle.lua_token.specs.Escapes.{bytes_of, char_escape, decimal_escape, digit_escape, escape, escape_of, hex_escape, letter_escape, other_escape, sign_escape, sign_or, space_escape}
use Rattle.lua_token.specs.declared.escape.Stands.TheVariants.{Byte}
use Rattle.lua_token.proofs.Runs.{take_three}
use Rattle.lua_token.specs.Strings.{Found, closes, escaped, long_from, quoted, short_from, with_front}

pub line_ends-skip : (k : ℕ) (bs : Text) → line_ends_from k bs ≡ line_ends (drop k bs)
line_ends-skip zero bs = refl
line_ends-skip (suc k) [] = refl
line_ends-skip (suc k) (b ∷ bs) = line_ends-skip k bs

pub short-skip : (quote k : ℕ) (bs : Text) → short_from quote k bs ≡ short_from quote 0 (drop k bs)
short-skip quote zero bs = refl
short-skip quote (suc k) [] = refl
short-skip quote (suc k) (b ∷ bs) = short-skip quote k bs

pub long-skip : (level k : ℕ) (bs : Text) → long_from level k bs ≡ long_from level 0 (drop k bs)
long-skip level zero bs = refl
long-skip level (suc k) [] = refl
long-skip level (suc k) (b ∷ bs) = long-skip level k bs

-- two pieces in front are one
pub with_front-with_front : (a b : Text) (m n i j : ℕ) (r : Found) → with_front a m i (with_front b n j r) ≡ with_front (a ++ b) (m + n) (i + j) r
with_front-with_front a b m n i j (Ok q) =
    let len : m + (n + q.len) ≡ m + n + q.len = omega arith in
    let lines : i + (j + q.lines) ≡ i + j + q.lines = omega arith in
    ap (λ (t : Text). Ok (quoted t (m + (n + q.len)) (i + (j + q.lines)))) (sym (append_assoc a b q.text))
    ∙ ap (λ (l : ℕ). Ok (quoted (a ++ b ++ q.text) l (i + (j + q.lines)))) len
    ∙ ap (λ (l : ℕ). Ok (quoted (a ++ b ++ q.text) (m + n + q.len) l)) lines
with_front-with_front a b m n i j (Err kind) = refl

-- one step of a loop that reads a string: what was read grows, and the whole stays
pub step_kept : (text step more : Text) (n m p lines i k : ℕ) (rest next whole : Found) → with_front text n lines rest ≡ whole → rest ≡ with_front step m i next
    → more ≡ text ++ step → p ≡ n + m → k ≡ lines + i → with_front more p k next ≡ whole
step_kept text step more n m p lines i k rest next whole w one e q l =
    ap (λ (t : Text). with_front t p k next) e ∙ ap (λ (x : ℕ). with_front (text ++ step) x k next) q ∙ ap (λ (x : ℕ). with_front (text ++ step) (n + m) x next) l
    ∙ sym (with_front-with_front text step n m lines i next) ∙ ap (with_front text n lines) (sym one) ∙ w

-- ---- one step of a loop

pub line_ends-end : (b : ℕ) (bs : Text) → is_end b ≡ true → line_ends (b ∷ bs) ≡ 1 + line_ends (drop (end_len b bs) (b ∷ bs))
line_ends-end b bs e =
    ap (λ c. if c then 1 + line_ends_from (if first_is (is_other_end b) bs then 1 else 0) bs else line_ends_from 0 bs) e
    ∙ ap (λ (n : ℕ). 1 + n) (go (first_is (is_other_end b) bs))
  where
    go : (t : Bool) → line_ends_from (if t then 1 else 0) bs ≡ line_ends (drop (if t then 2 else 1) (b ∷ bs))
    go true = line_ends-skip 1 bs
    go false = refl

pub line_ends-other : (b : ℕ) (bs : Text) → is_end b ≡ false → line_ends (b ∷ bs) ≡ line_ends bs
line_ends-other b bs e = ap (λ c. if c then 1 + line_ends_from (if first_is (is_other_end b) bs then 1 else 0) bs else line_ends_from 0 bs) e

pub long-end : (level b : ℕ) (bs : Text) → closes level (b ∷ bs) ≡ false → is_end b ≡ true
    → long_from level 0 (b ∷ bs) ≡ with_front (10 ∷ []) (end_len b bs) 1 (long_from level 0 (drop (end_len b bs) (b ∷ bs)))
long-end level b bs c e =
    ap (λ t. if t then Ok (quoted [] (level + 2) 0) else (if is_end b then with_front (10 ∷ []) (end_len b bs) 1 (long_from level (if first_is (is_other_end b) bs then 1 else 0) bs)
    else with_front (b ∷ []) 1 0 (long_from level 0 bs))) c
    ∙ ap (λ t. if t then with_front (10 ∷ []) (end_len b bs) 1 (long_from level (if first_is (is_other_end b) bs then 1 else 0) bs) else with_front (b ∷ []) 1 0 (long_from level 0 bs)) e
    ∙ ap (with_front (10 ∷ []) (end_len b bs) 1) (go (first_is (is_other_end b) bs))
  where
    go : (t : Bool) → long_from level (if t then 1 else 0) bs ≡ long_from level 0 (drop (if t then 2 else 1) (b ∷ bs))
    go true = long-skip level 1 bs
    go false = refl

pub long-other : (level b : ℕ) (bs : Text) → closes level (b ∷ bs) ≡ false → is_end b ≡ false
    → long_from level 0 (b ∷ bs) ≡ with_front (b ∷ []) 1 0 (long_from level 0 bs)
long-other level b bs c e =
    ap (λ t. if t then Ok (quoted [] (level + 2) 0) else (if is_end b then with_front (10 ∷ []) (end_len b bs) 1 (long_from level (if first_is (is_other_end b) bs then 1 else 0) bs)
    else with_front (b ∷ []) 1 0 (long_from level 0 bs))) c
    ∙ ap (λ t. if t then with_front (10 ∷ []) (end_len b bs) 1 (long_from level (if first_is (is_other_end b) bs then 1 else 0) bs) else with_front (b ∷ []) 1 0 (long_from level 0 bs)) e

pub short-escape : (quote b : ℕ) (bs : Text) (e : Escape) → b == quote ≡ false → is_end b ≡ false → b == 92 ≡ true → escape bs ≡ Some e
    → short_from quote 0 (b ∷ bs) ≡ with_front (bytes_of e.stands) (1 + e.len) e.lines (short_from quote 0 (drop e.len bs))
short-escape quote b bs e q n s h =
    ap (λ t. if t then Ok (quoted [] 1 0) else (if is_end b then Err bad.OpenString else (if b == 92 then escaped (escape bs) (λ skip. short_from quote skip bs)
    else with_front (b ∷ []) 1 0 (short_from quote 0 bs)))) q
    ∙ ap (λ t. if t then Err bad.OpenString else (if b == 92 then escaped (escape bs) (λ skip. short_from quote skip bs) else with_front (b ∷ []) 1 0 (short_from quote 0 bs))) n
    ∙ ap (λ t. if t then escaped (escape bs) (λ skip. short_from quote skip bs) else with_front (b ∷ []) 1 0 (short_from quote 0 bs)) s
    ∙ ap (λ o. escaped o (λ skip. short_from quote skip bs)) h
    ∙ ap (with_front (bytes_of e.stands) (1 + e.len) e.lines) (short-skip quote e.len bs)

pub short-other : (quote b : ℕ) (bs : Text) → b == quote ≡ false → is_end b ≡ false → b == 92 ≡ false
    → short_from quote 0 (b ∷ bs) ≡ with_front (b ∷ []) 1 0 (short_from quote 0 bs)
short-other quote b bs q n s =
    ap (λ t. if t then Ok (quoted [] 1 0) else (if is_end b then Err bad.OpenString else (if b == 92 then escaped (escape bs) (λ skip. short_from quote skip bs)
    else with_front (b ∷ []) 1 0 (short_from quote 0 bs)))) q
    ∙ ap (λ t. if t then Err bad.OpenString else (if b == 92 then escaped (escape bs) (λ skip. short_from quote skip bs) else with_front (b ∷ []) 1 0 (short_from quote 0 bs))) n
    ∙ ap (λ t. if t then escaped (escape bs) (λ skip. short_from quote skip bs) else with_front (b ∷ []) 1 0 (short_from quote 0 bs)) s

-- a test of equal numbers, and of others
pub differs : (a b : ℕ) → a ≢ b → a == b ≡ false
differs a b n = go (a == b) refl
  where
    go : (t : Bool) → a == b ≡ t → t ≡ false
    go true e = absurd (n (eqb-true a b e))
    go false e = refl

-- an escape of digits
pub digits-escape : (bytes bs : Text) (b m : ℕ) → bytes ≡ b ∷ bs → None ≡ sign_escape b → is_end b ≡ false → b ≢ 122 → b ≢ 120 → b ≢ 117 → is_digit b ≡ true
    → m ≡ min (length (take_while is_digit bytes)) 3 → decimal_escape (take m bytes) ≡ escape bytes
digits-escape bytes bs b m is s n z x u d e =
    ap decimal_escape (take_three is_digit bytes m e) ∙ ap (λ (t : Text). decimal_escape (take 3 (take_while is_digit t))) is
    ∙ sym (ap escape is
    ∙ ap (λ o. sign_or o (other_escape b bs)) (sym s)
    ∙ ap (λ t. if t then Some (escape_of (Byte 10) (end_len b bs) 1) else letter_escape b bs) n
    ∙ ap (λ t. if t then Some (space_escape bs) else (if b == 120 then hex_escape bs else (if b == 117 then char_escape bs else digit_escape b bs))) (differs b 122 z)
    ∙ ap (λ t. if t then hex_escape bs else (if b == 117 then char_escape bs else digit_escape b bs)) (differs b 120 x)
    ∙ ap (λ t. if t then char_escape bs else digit_escape b bs) (differs b 117 u)
    ∙ ap (λ t. if t then decimal_escape (take 3 (take_while is_digit (b ∷ bs))) else None) d)
