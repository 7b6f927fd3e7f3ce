-- What a text begins with takes some of it, and no more ends of line than bytes.
use Rattle.std.proofs.Common.{◌≡◌, ℕ, ℤ, ◌+◌, ◌-◌, ◌<◌, ◌≤◌, ◌==◌, ◌||◌, ◌&&◌, Bool, true, false, [], ◌∷◌, length, take, drop, zero, suc, refl, ap, sym, ◌∙◌, subst, arith, Result, Ok, Err, Option, Some, None, if◌then◌else◌, inl, inr, ◌⊎◌, nat_lt, nat_le, cond, IfOk}
use Rattle.std.proofs.lemmas.List.Sums.{take_while-cons}
use Rattle.std.proofs.lemmas.List.{length-take, length-drop}
use Rattle.std.proofs.lemmas.Bool.{eqb-true}
use Rattle.std.specs.List.{take_while, prefix_len}
use Rattle.std.specs.Prelude.{IfSome}
use Rattle.std.specs.Prelude.{codes}
use Rattle.std.specs.Str.{bytes_eq}
use Rattle.std.proofs.lemmas.Slice.Eq.{bytes_eq-Decides}
use Rattle.lua_tree.specs.declared.token.Sign.{Sign}
use Rattle.lua_tree.specs.declared.token.Sign.TheVariants as sign
use Rattle.lua_token.specs.declared.escape.Escape.{Escape}
use Rattle.lua_token.specs.declared.front.Front.{Front}
use Rattle.lua_token.specs.Characters.{Text, end_len, first_is, is_blank, is_digit, is_end, is_hex_digit, is_letter, is_name_byte, is_no_end, is_numeral_byte, is_other_end, is_space, line_ends_from}
use Rattle.lua_token.specs.Escapes.{bytes_of, char_digits, char_escape, decimal_escape, escape, hex_escape, sign_escape, sign_or as escape_or}
use Rattle.lua_token.specs.Numerals.{decimal_value, hex_value, integer_of}
use Rattle.lua_token.specs.Strings.{Found, closes, equals, escaped, level_of, long_body, long_from, short_from, with_front}
use Rattle.lua_token.specs.Front.{Within, bracket, bracket_level, comment, front, is_comment, is_numeral_start, is_quote, numeral_or, remark, remark_at, sign_or, signed, string}
use Rattle.lua_token.specs.Signs.{sign_of_one, sign_of_three, sign_of_two}

run_le : (p : ℕ → Bool) (xs : Text) → length (take_while p xs) ≤ length xs
run_le p xs = omega (arith, length-take (prefix_len p xs) xs)

run_some : (p : ℕ → Bool) (b : ℕ) (bs : Text) → p b ≡ true → 0 < length (take_while p (b ∷ bs))
run_some p b bs h =
    subst (λ (l : Text). 0 < length l) (sym (take_while-cons p b bs ∙ ap (λ c. cond c (b ∷ take_while p bs) []) h)) (omega arith)

-- ---- ends of line

pub end_one : (a : ℕ) (bs : Text) → (1 ≤ end_len a bs) × (end_len a bs ≤ 1 + length bs)
end_one a [] = (omega arith, omega arith)
end_one a (c ∷ bs) = two (is_other_end a c)
  where
    two : (t : Bool) → (1 ≤ (if t then 2 else 1)) × ((if t then 2 else 1) ≤ 1 + length (c ∷ bs))
    two true = (omega arith, omega arith)
    two false = (omega arith, omega arith)

pub line_ends_le : (k : ℕ) (bs : Text) → line_ends_from k bs ≤ length bs
line_ends_le k [] = omega arith
line_ends_le (suc k) (b ∷ bs) = let h = line_ends_le k bs in omega arith
line_ends_le zero (b ∷ bs) = go (is_end b) (line_ends_le (if first_is (is_other_end b) bs then 1 else 0) bs) (line_ends_le 0 bs)
  where
    go : (c : Bool) → line_ends_from (if first_is (is_other_end b) bs then 1 else 0) bs ≤ length bs → line_ends_from 0 bs ≤ length bs
        → (if c then 1 + line_ends_from (if first_is (is_other_end b) bs then 1 else 0) bs else line_ends_from 0 bs) ≤ length (b ∷ bs)
    go true h g = omega arith
    go false h g = omega arith

-- ---- escapes

-- an escape takes some of the text
abbrev pub InText : ℕ → Escape → Type 0
InText len e = (0 < e.len) × (e.len ≤ len) × (e.lines ≤ e.len)

abbrev MayTake : ℕ → Option Escape → Type 0
MayTake len found = IfSome found (InText len)

takes_if : (c : Bool) (x y : Option Escape) (len : ℕ) → (c ≡ true → MayTake len x) → (c ≡ false → MayTake len y) → MayTake len (if c then x else y)
takes_if true x y len f g = f refl
takes_if false x y len f g = g refl

sign_takes : (s : Option ℕ) (other : Option Escape) (len : ℕ) → 1 ≤ len → MayTake len other → MayTake len (escape_or s other)
sign_takes (Some b) other len h f = (omega arith, omega arith, omega arith)
sign_takes None other len h f = f

hex_takes : (bs : Text) (len : ℕ) → 1 + length bs ≤ len → MayTake len (hex_escape bs)
hex_takes [] len h = tt
hex_takes (a ∷ []) len h = tt
hex_takes (a ∷ (b ∷ bs)) len h = takes_if (is_hex_digit a && is_hex_digit b) _ _ len (λ _. (omega arith, omega arith, omega arith)) (λ _. tt)

decimal_takes : (digits : Text) (len : ℕ) → 0 < length digits → length digits ≤ len → MayTake len (decimal_escape digits)
decimal_takes digits len h g = takes_if (nat_le (decimal_value digits) 255) _ _ len (λ _. (h, g, omega arith)) (λ _. tt)

first_some : (kind : ℕ → Bool) (bs : Text) → first_is kind bs ≡ true → 0 < length bs
first_some kind [] h = absurd (lit h)
  where
    lit : false ≡ true → ⊥
    lit e = cc
first_some kind (b ∷ bs) h = omega arith

and_first : (a b : Bool) → (a && b) ≡ true → a ≡ true
and_first true b h = refl
and_first false b h = h

char_takes : (bs : Text) (len : ℕ) → 1 + length bs ≤ len → MayTake len (char_escape bs)
char_takes [] len h = tt
char_takes (b ∷ bs) len h = takes_if (b == 123) _ _ len (λ _. digits (take_while is_hex_digit bs) (drop (length (take_while is_hex_digit bs)) bs)
    (let d = length-drop (length (take_while is_hex_digit bs)) bs in let r = run_le is_hex_digit bs in omega arith)) (λ _. tt)
  where
    digits : (ds after : Text) → 2 + length ds + length after ≤ len → MayTake len (char_digits ds after)
    digits ds after g = takes_if (first_is (λ c. c == 125) after && (nat_lt 0 (length ds) && nat_le (hex_value ds) 1114111)) _ _ len
        (λ t. let some = first_some (λ c. c == 125) after (and_first _ _ t) in (omega arith, omega arith, omega arith)) (λ _. tt)

pub escape_takes : (bs : Text) → MayTake (length bs) (escape bs)
escape_takes [] = tt
escape_takes (b ∷ bs) =
    let n = length (b ∷ bs) in
    sign_takes (sign_escape b) _ n (omega arith)
    (takes_if (is_end b) _ _ n (λ _. let e = end_one b bs in (omega arith, omega arith, omega arith)) (λ _.
    takes_if (b == 122) _ _ n (λ _. let r = run_le is_space bs in let l = line_ends_le 0 (take_while is_space bs) in (omega arith, omega arith, omega arith)) (λ _.
    takes_if (b == 120) _ _ n (λ _. hex_takes bs n (omega arith)) (λ _.
    takes_if (b == 117) _ _ n (λ _. char_takes bs n (omega arith)) (λ _.
    takes_if (is_digit b) _ _ n (λ d.
    let some = run_some is_digit b bs d in let all = run_le is_digit (b ∷ bs) in let cut = length-take 3 (take_while is_digit (b ∷ bs)) in
    decimal_takes (take 3 (take_while is_digit (b ∷ bs))) n (omega arith) (omega arith)) (λ _. tt))))))

pub escape_taken : (found : Option Escape) (bs : Text) → found ≡ escape bs → IfSome found (λ e. (0 < e.len) × (e.len ≤ length bs) × (e.lines ≤ e.len))
escape_taken found bs e = subst (MayTake (length bs)) (sym e) (escape_takes bs)

-- ---- strings

abbrev Holds : Found → ℕ → Type 0
Holds (Ok q) n = (q.len ≤ n) × (q.lines ≤ q.len)
Holds (Err kind) n = Unit {0}

holds_if : (c : Bool) (x y : Found) (n : ℕ) → (c ≡ true → Holds x n) → (c ≡ false → Holds y n) → Holds (if c then x else y) n
holds_if true x y n f g = f refl
holds_if false x y n f g = g refl

holds_front : (text : Text) (m i : ℕ) (r : Found) (len n : ℕ) → Holds r len → m + len ≤ n → i ≤ m → Holds (with_front text m i r) n
holds_front text m i (Ok q) len n h le lines = let a = h.0 in let b = h.1 in (omega arith, omega arith)
holds_front text m i (Err kind) len n h le lines = tt

-- after bytes that are skipped, as many less
short_holds : (quote k : ℕ) (bs : Text) → Holds (short_from quote k bs) (length bs - k)
short_holds quote k [] = tt
short_holds quote (suc k) (b ∷ bs) = subst (Holds (short_from quote k bs)) (let e : length bs - k ≡ length (b ∷ bs) - suc k = omega arith in e) (short_holds quote k bs)
short_holds quote zero (b ∷ bs) =
    let n = length (b ∷ bs) - 0 in
    holds_if (b == quote) _ _ n (λ _. (omega arith, omega arith)) (λ _.
    holds_if (is_end b) _ _ n (λ _. tt) (λ _.
    holds_if (b == 92) _ _ n (λ _. after (escape bs) (escape_takes bs) (λ skip. short_holds quote skip bs)) (λ _.
    holds_front (b ∷ []) 1 0 (short_from quote 0 bs) (length bs - 0) n (short_holds quote 0 bs) (omega arith) (omega arith))))
  where
    after : (found : Option Escape) → MayTake (length bs) found → ((skip : ℕ) → Holds (short_from quote skip bs) (length bs - skip))
        → Holds (escaped found (λ skip. short_from quote skip bs)) (length (b ∷ bs) - 0)
    after None t h = tt
    after (Some e) t h = holds_front (bytes_of e.stands) (1 + e.len) e.lines (short_from quote e.len bs) (length bs - e.len) (length (b ∷ bs) - 0) (h e.len)
        (let a = t.1 in omega arith) (let a = t.2 in omega arith)

second : (a b : Bool) → (a && b) ≡ true → b ≡ true
second true b h = h
second false b h = absurd (lit h)
  where
    lit : false ≡ true → ⊥
    lit e = cc

pair_len : (b : ℕ) (bs : Text) → end_len b bs + (length bs - (if first_is (is_other_end b) bs then 1 else 0)) ≤ length (b ∷ bs) - 0
pair_len b [] = omega arith
pair_len b (c ∷ cs) = two (is_other_end b c)
  where
    two : (t : Bool) → (if t then 2 else 1) + (length (c ∷ cs) - (if t then 1 else 0)) ≤ length (b ∷ (c ∷ cs)) - 0
    two true = omega arith
    two false = omega arith

closes_len : (level b : ℕ) (bs : Text) → closes level (b ∷ bs) ≡ true → level + 2 ≤ length (b ∷ bs) - 0
closes_len level b bs t =
    let rest = second (b == 93) _ t in
    let same = eqb-true (equals bs) level (and_first _ _ rest) in
    let some = first_some (λ c. c == 93) (drop (equals bs) bs) (second _ _ rest) in
    let d = length-drop (equals bs) bs in
    omega arith

long_holds : (level k : ℕ) (bs : Text) → Holds (long_from level k bs) (length bs - k)
long_holds level k [] = tt
long_holds level (suc k) (b ∷ bs) = subst (Holds (long_from level k bs)) (let e : length bs - k ≡ length (b ∷ bs) - suc k = omega arith in e) (long_holds level k bs)
long_holds level zero (b ∷ bs) =
    let n = length (b ∷ bs) - 0 in
    let k = if first_is (is_other_end b) bs then 1 else 0 in
    holds_if (closes level (b ∷ bs)) _ _ n (λ t. (closes_len level b bs t, omega arith)) (λ _.
    holds_if (is_end b) _ _ n (λ _. holds_front (10 ∷ []) (end_len b bs) 1 (long_from level k bs) (length bs - k) n (long_holds level k bs) (pair_len b bs) ((end_one b bs).0)) (λ _.
    holds_front (b ∷ []) 1 0 (long_from level 0 bs) (length bs - 0) n (long_holds level 0 bs) (omega arith) (omega arith)))

body_holds : (level : ℕ) (bs : Text) → Holds (long_body level bs) (length bs)
body_holds level [] = tt
body_holds level (b ∷ bs) =
    let n = length (b ∷ bs) in
    let m = end_len b bs in
    holds_if (is_end b) _ _ n (λ _. holds_front [] m 1 (long_from level 0 (drop m (b ∷ bs))) (length (drop m (b ∷ bs)) - 0) n (long_holds level 0 (drop m (b ∷ bs)))
    (let d = length-drop m (b ∷ bs) in let e = end_one b bs in omega arith) ((end_one b bs).0)) (λ _. subst (Holds (long_from level 0 (b ∷ bs))) (let e : length (b ∷ bs) - 0 ≡ length (b ∷ bs) = omega arith in e) (long_holds level 0 (b ∷ bs)))

-- ---- the front

within_if : (c : Bool) (x y : Front) (n : ℕ) → (c ≡ true → Within x n) → (c ≡ false → Within y n) → Within (if c then x else y) n
within_if true x y n f g = f refl
within_if false x y n f g = g refl

string_within : (before : ℕ) (r : Found) (len n : ℕ) → Holds r len → 0 < before → before + len ≤ n → Within (string before r) n
string_within before (Ok q) len n h some le = let a = h.0 in let b = h.1 in (omega arith, omega arith, omega arith)
string_within before (Err kind) len n h some le = tt

remark_within : (before : ℕ) (r : Found) (len n : ℕ) → Holds r len → 0 < before → before + len ≤ n → Within (remark before r) n
remark_within before (Ok q) len n h some le = let a = h.0 in let b = h.1 in (omega arith, omega arith, omega arith)
remark_within before (Err kind) len n h some le = tt

numeral_within : (v : Option ℤ) (len n : ℕ) → 0 < len → len ≤ n → Within (numeral_or v len) n
numeral_within (Some v) len n h g = (h, g, omega arith)
numeral_within None len n h g = tt

sign_within : (s : Option Sign) (k n : ℕ) (other : Front) → 0 < k → IfSome s (λ _. k ≤ n) → Within other n → Within (sign_or s k other) n
sign_within (Some s) k n other h g f = (h, g, omega arith)
sign_within None k n other h g f = f

level_len : (bs : Text) → IfSome (level_of bs) (λ level. level + 1 ≤ length bs)
level_len bs = go (first_is (λ c. c == 91) (drop (equals bs) bs)) (first_some (λ c. c == 91) (drop (equals bs) bs))
  where
    go : (t : Bool) → (t ≡ true → 0 < length (drop (equals bs) bs)) → IfSome (if t then Some (equals bs) else None) (λ level. level + 1 ≤ length bs)
    go true h = let some = h refl in let d = length-drop (equals bs) bs in omega arith
    go false h = tt

bracket_len : (bs : Text) → IfSome (bracket_level bs) (λ level. level + 2 ≤ length bs)
bracket_len [] = tt
bracket_len (b ∷ bs) = go (b == 91) (level_len bs)
  where
    go : (t : Bool) → IfSome (level_of bs) (λ level. level + 1 ≤ length bs) → IfSome (if t then level_of bs else None) (λ level. level + 2 ≤ length (b ∷ bs))
    go true h = more (level_of bs) h
      where
        more : (o : Option ℕ) → IfSome o (λ level. level + 1 ≤ length bs) → IfSome o (λ level. level + 2 ≤ length (b ∷ bs))
        more (Some k) h = omega arith
        more None h = tt
    go false h = tt

front_level : (o : Option ℕ) (bs : Text) → IfSome o (λ level. level + 2 ≤ length bs) → 0 < length bs → Within (signed bs) (length bs) → Within (bracket o bs) (length bs)
front_level (Some level) bs h some sign =
    let d = length-drop (level + 2) bs in
    string_within (level + 2) (long_body level (drop (level + 2) bs)) (length (drop (level + 2) bs)) (length bs) (body_holds level (drop (level + 2) bs)) (omega arith) (omega arith)
front_level None bs h some sign = sign

comment_level : (o : Option ℕ) (after : Text) → IfSome o (λ level. level + 2 ≤ length after) → Within (remark_at o after) (2 + length after)
comment_level (Some level) after h =
    let d = length-drop (level + 2) after in
    remark_within (level + 4) (long_body level (drop (level + 2) after)) (length (drop (level + 2) after)) (2 + length after) (body_holds level (drop (level + 2) after)) (omega arith) (omega arith)
comment_level None after h = let r = run_le is_no_end after in (omega arith, omega arith, omega arith)

-- ---- signs: one that stands there has its bytes there

some_len : (text t : Text) (n : ℕ) (s : Sign) (other : Option Sign) → length t ≡ n → IfSome other (λ _. length text ≡ n)
    → IfSome (if bytes_eq text t then Some s else other) (λ _. length text ≡ n)
some_len text t n s other e h = go (bytes_eq text t) refl
  where
    go : (c : Bool) → bytes_eq text t ≡ c → IfSome (if c then Some s else other) (λ _. length text ≡ n)
    go true is = ap (λ (x : Text). length x) ((bytes_eq-Decides text t).0 is) ∙ e
    go false is = h

sign_of_three_len : (text : Text) → IfSome (sign_of_three text) (λ _. length text ≡ 3)
sign_of_three_len text =
    some_len text (codes "...") 3 sign.Dots _ refl (
    tt)

sign_of_two_len : (text : Text) → IfSome (sign_of_two text) (λ _. length text ≡ 2)
sign_of_two_len text =
    some_len text (codes "//") 2 sign.DoubleSlash _ refl (
    some_len text (codes "<<") 2 sign.ShiftLeft _ refl (
    some_len text (codes ">>") 2 sign.ShiftRight _ refl (
    some_len text (codes "==") 2 sign.Equal _ refl (
    some_len text (codes "~=") 2 sign.NotEqual _ refl (
    some_len text (codes "<=") 2 sign.LessEqual _ refl (
    some_len text (codes ">=") 2 sign.GreaterEqual _ refl (
    some_len text (codes "::") 2 sign.DoubleColon _ refl (
    some_len text (codes "..") 2 sign.Concat _ refl (
    tt)))))))))

sign_of_one_len : (text : Text) → IfSome (sign_of_one text) (λ _. length text ≡ 1)
sign_of_one_len text =
    some_len text (codes "+") 1 sign.Plus _ refl (
    some_len text (codes "-") 1 sign.Minus _ refl (
    some_len text (codes "*") 1 sign.Star _ refl (
    some_len text (codes "/") 1 sign.Slash _ refl (
    some_len text (codes "%") 1 sign.Percent _ refl (
    some_len text (codes "^") 1 sign.Caret _ refl (
    some_len text (codes "#") 1 sign.Hash _ refl (
    some_len text (codes "&") 1 sign.Ampersand _ refl (
    some_len text (codes "~") 1 sign.Tilde _ refl (
    some_len text (codes "|") 1 sign.Bar _ refl (
    some_len text (codes "<") 1 sign.Less _ refl (
    some_len text (codes ">") 1 sign.Greater _ refl (
    some_len text (codes "=") 1 sign.Assign _ refl (
    some_len text (codes "(") 1 sign.OpenParen _ refl (
    some_len text (codes ")") 1 sign.CloseParen _ refl (
    some_len text (codes "{") 1 sign.OpenBrace _ refl (
    some_len text (codes "}") 1 sign.CloseBrace _ refl (
    some_len text (codes "[") 1 sign.OpenBracket _ refl (
    some_len text (codes "]") 1 sign.CloseBracket _ refl (
    some_len text (codes ";") 1 sign.Semicolon _ refl (
    some_len text (codes ":") 1 sign.Colon _ refl (
    some_len text (codes ",") 1 sign.Comma _ refl (
    some_len text (codes ".") 1 sign.Dot _ refl (
    tt)))))))))))))))))))))))

taken : (s : Option Sign) (k : ℕ) (bs : Text) → IfSome s (λ _. length (take k bs) ≡ k) → IfSome s (λ _. k ≤ length bs)
taken (Some s) k bs h = omega (arith, h, length-take k bs)
taken None k bs h = tt

signed_within : (bs : Text) → Within (signed bs) (length bs)
signed_within bs =
    let n = length bs in
    sign_within (sign_of_three (take 3 bs)) 3 n _ (omega arith) (taken (sign_of_three (take 3 bs)) 3 bs (sign_of_three_len (take 3 bs)))
    (sign_within (sign_of_two (take 2 bs)) 2 n _ (omega arith) (taken (sign_of_two (take 2 bs)) 2 bs (sign_of_two_len (take 2 bs)))
    (sign_within (sign_of_one (take 1 bs)) 1 n _ (omega arith) (taken (sign_of_one (take 1 bs)) 1 bs (sign_of_one_len (take 1 bs))) tt))

-- ---- all of them

or_true : (a : Bool) → (a || true) ≡ true
or_true true = refl
or_true false = refl

or_cases : (a b : Bool) → (a || b) ≡ true → (a ≡ true) ⊎ (b ≡ true)
or_cases true b h = inl refl
or_cases false b h = inr h

-- a numeral's first byte is one of its bytes
numeral_start : (b : ℕ) (bs : Text) → is_numeral_start b bs ≡ true → is_numeral_byte b ≡ true
numeral_start b bs h = go (or_cases (is_digit b) _ h)
  where
    go : (is_digit b ≡ true) ⊎ ((b == 46 && first_is is_digit bs) ≡ true) → is_numeral_byte b ≡ true
    go (inl d) = ap (λ c. (is_letter b || c) || b == 46) d ∙ ap (λ c. c || b == 46) (or_true (is_letter b))
    go (inr d) = ap (λ c. (is_letter b || is_digit b) || c) (and_first (b == 46) (first_is is_digit bs) d) ∙ or_true (is_letter b || is_digit b)

comment_within : (b : ℕ) (bs : Text) → is_comment b bs ≡ true → Within (comment bs) (length (b ∷ bs))
comment_within b [] h = absurd (lit (second (b == 45) false h))
  where
    lit : false ≡ true → ⊥
    lit e = cc
comment_within b (c ∷ bs) h = subst (λ (n : ℕ). Within (comment (c ∷ bs)) n) (let e : 2 + length bs ≡ length (b ∷ (c ∷ bs)) = omega arith in e)
    (comment_level (bracket_level bs) bs (bracket_len bs))

within : (bytes : Text) → Within (front bytes) (length bytes)
unfolding front
within [] = tt
within (b ∷ bs) =
    let n = length (b ∷ bs) in
    let name = take_while is_name_byte (b ∷ bs) in
    let numeral = take_while is_numeral_byte (b ∷ bs) in
    within_if (is_blank b) _ _ n (λ _. (omega arith, omega arith, omega arith)) (λ _.
    within_if (is_end b) _ _ n (λ _. let e = end_one b bs in (omega arith, omega arith, omega arith)) (λ _.
    within_if (is_letter b) _ _ n (λ h. (run_some is_name_byte b bs (ap (λ c. c || is_digit b) h), run_le is_name_byte (b ∷ bs), omega arith)) (λ _.
    within_if (is_numeral_start b bs) _ _ n (λ h. numeral_within (integer_of numeral) (length numeral) n (run_some is_numeral_byte b bs (numeral_start b bs h)) (run_le is_numeral_byte (b ∷ bs))) (λ _.
    within_if (is_quote b) _ _ n (λ _. string_within 1 (short_from b 0 bs) (length bs - 0) n (short_holds b 0 bs) (omega arith) (omega arith)) (λ _.
    within_if (is_comment b bs) _ _ n (comment_within b bs) (λ _.
    front_level (bracket_level (b ∷ bs)) (b ∷ bs) (bracket_len (b ∷ bs)) (omega arith) (signed_within (b ∷ bs))))))))

pub begun : {E : Type 0} (r : Result Front E) (bytes : Text) → IfOk r (λ f. f ≡ front bytes) → IfOk r (λ f. Within f (length bytes))
begun (Ok f) bytes h = subst (λ f. Within f (length bytes)) (sym h) (within bytes)
begun (Err e) bytes h = tt
