-- One step over a text, and one reading of it.
use Rattle.std.proofs.Common.{◌≡◌, ℕ, ◌+◌, ◌-◌, ◌≤◌, List, [], ◌∷◌, ◌++◌, length, drop, refl, ap, sym, ◌∙◌, subst, arith, length-drop}
use Rattle.std.proofs.lemmas.List.{append-nil}
use Rattle.sk_types.specs.declared.fault.SyntaxFault.{SyntaxFault}
use Rattle.lua_tree.specs.declared.token.TokenKind.{TokenKind}
use Rattle.lua_tree.specs.declared.token.Token.{Token}
use Rattle.lua_token.specs.declared.front.Front.{Front}
use Rattle.lua_token.specs.declared.front.Front.TheVariants.{Gap, Item}
use Rattle.lua_token.specs.Characters.{Text}
use Rattle.lua_token.specs.Front.{front}
use Rattle.lua_token.specs.Spells.{Spells, done, gap, item, Faulty, here, after_gap, after_item, IsLexicalFault, IsSpelling, too_long, faulty}

place : (len n : ℕ) (rest : Text) → n ≤ length rest → length rest ≤ len → len - length (drop n rest) ≡ len - length rest + n
place len n rest h g = omega (arith, length-drop n rest)

pub gap_spells : (len line n lines : ℕ) (rest : Text) (ts : List Token) → front rest ≡ Gap n lines → n ≤ length rest → length rest ≤ len
    → Spells (len - length (drop n rest)) (line + lines) (drop n rest) ts → Spells (len - length rest) line rest ts
gap_spells len line n lines rest ts e h g d = gap e (subst (λ at. Spells at (line + lines) (drop n rest) ts) (place len n rest h g) d)

pub item_spells : (len line n lines : ℕ) (kind : TokenKind) (rest : Text) (ts : List Token) → front rest ≡ Item kind n lines → n ≤ length rest → length rest ≤ len
    → Spells (len - length (drop n rest)) (line + lines) (drop n rest) ts
    → Spells (len - length rest) line rest (record { kind = kind; line = line; from = len - length rest; to = len - length rest + n } ∷ ts)
item_spells len line n lines kind rest ts e h g d = item e (subst (λ at. Spells at (line + lines) (drop n rest) ts) (place len n rest h g) d)

pub gap_faulty : (len line n lines : ℕ) (rest : Text) (f : SyntaxFault) → front rest ≡ Gap n lines → n ≤ length rest → length rest ≤ len
    → Faulty (len - length (drop n rest)) (line + lines) (drop n rest) f → Faulty (len - length rest) line rest f
gap_faulty len line n lines rest f e h g d = after_gap e (subst (λ at. Faulty at (line + lines) (drop n rest) f) (place len n rest h g) d)

pub item_faulty : (len line n lines : ℕ) (kind : TokenKind) (rest : Text) (f : SyntaxFault) → front rest ≡ Item kind n lines → n ≤ length rest → length rest ≤ len
    → Faulty (len - length (drop n rest)) (line + lines) (drop n rest) f → Faulty (len - length rest) line rest f
item_faulty len line n lines kind rest f e h g d = after_item e (subst (λ at. Faulty at (line + lines) (drop n rest) f) (place len n rest h g) d)

-- ---- one reading

abbrev len_of : Front → ℕ
len_of (Gap n lines) = n
len_of (Item kind n lines) = n
len_of _ = 0

abbrev lines_of : Front → ℕ
lines_of (Gap n lines) = lines
lines_of (Item kind n lines) = lines
lines_of _ = 0

abbrev kind_or : TokenKind → Front → TokenKind
kind_or d (Item kind n lines) = kind
kind_or d _ = d

-- along two equal fronts
along : (at line n m lines more : ℕ) (bytes : Text) (us : List Token) → n ≡ m → lines ≡ more
    → Spells (at + n) (line + lines) (drop n bytes) us → Spells (at + m) (line + more) (drop m bytes) us
along at line n m lines more bytes us e f d =
    subst (λ n. Spells (at + n) (line + more) (drop n bytes) us) e (subst (λ more. Spells (at + n) (line + more) (drop n bytes) us) f d)

along_faulty : (at line n m lines more : ℕ) (bytes : Text) (f : SyntaxFault) → n ≡ m → lines ≡ more
    → Faulty (at + n) (line + lines) (drop n bytes) f → Faulty (at + m) (line + more) (drop m bytes) f
along_faulty at line n m lines more bytes fault e f d =
    subst (λ n. Faulty (at + n) (line + more) (drop n bytes) fault) e (subst (λ more. Faulty (at + n) (line + more) (drop n bytes) fault) f d)

same_item : (at line n m : ℕ) (a b : TokenKind) (ts us : List Token) → a ≡ b → n ≡ m → ts ≡ us
    → ◌≡◌ {A = List Token} (record { kind = a; line = line; from = at; to = at + n } ∷ ts) (record { kind = b; line = line; from = at; to = at + m } ∷ us)
same_item at line n m a b ts us e f g = cc

one_spelling : {at line : ℕ} {bytes : Text} {ts us : List Token} → Spells at line bytes ts → Spells at line bytes us → ts ≡ us
one_spelling (done e) (done f) = refl
one_spelling (done e) (gap f d) = let i = sym e ∙ f in cc
one_spelling (done e) (item f d) = let i = sym e ∙ f in cc
one_spelling (gap e d) (done f) = let i = sym e ∙ f in cc
one_spelling {at = at} {line = line} {bytes = bytes} {us = us} (gap {n = n} {lines = lines} e d) (gap {n = m} {lines = more} f g) =
    one_spelling d (along at line m n more lines bytes us (ap len_of (sym f ∙ e)) (ap lines_of (sym f ∙ e)) g)
one_spelling (gap e d) (item f g) = let i = sym e ∙ f in cc
one_spelling (item e d) (done f) = let i = sym e ∙ f in cc
one_spelling (item e d) (gap f g) = let i = sym e ∙ f in cc
one_spelling {at = at} {line = line} {bytes = bytes} (item {n = n} {lines = lines} {kind = a} {ts = ts} e d) (item {n = m} {lines = more} {kind = b} {ts = us} f g) =
    same_item at line n m a b ts us (ap (kind_or a) (sym e ∙ f)) (ap len_of (sym e ∙ f))
    (one_spelling d (along at line m n more lines bytes us (ap len_of (sym f ∙ e)) (ap lines_of (sym f ∙ e)) g))

-- what is spelled has no fault
no_fault : {at line : ℕ} {bytes : Text} {ts : List Token} {f : SyntaxFault} → Spells at line bytes ts → Faulty at line bytes f → ⊥
no_fault (done e) (here f) = let i = sym e ∙ f in cc
no_fault (done e) (after_gap f g) = let i = sym e ∙ f in cc
no_fault (done e) (after_item f g) = let i = sym e ∙ f in cc
no_fault (gap e d) (here f) = let i = sym e ∙ f in cc
no_fault {at = at} {line = line} {bytes = bytes} {f = fault} (gap {n = n} {lines = lines} e d) (after_gap {n = m} {lines = more} f g) =
    no_fault d (along_faulty at line m n more lines bytes fault (ap len_of (sym f ∙ e)) (ap lines_of (sym f ∙ e)) g)
no_fault (gap e d) (after_item f g) = let i = sym e ∙ f in cc
no_fault (item e d) (here f) = let i = sym e ∙ f in cc
no_fault (item e d) (after_gap f g) = let i = sym e ∙ f in cc
no_fault {at = at} {line = line} {bytes = bytes} {f = fault} (item {n = n} {lines = lines} e d) (after_item {n = m} {lines = more} f g) =
    no_fault d (along_faulty at line m n more lines bytes fault (ap len_of (sym f ∙ e)) (ap lines_of (sym f ∙ e)) g)

pub all_spelled : (at : ℕ) (bytes : Text) (ts : List Token) → Spells at 1 bytes (ts ++ []) → Spells at 1 bytes ts
all_spelled at bytes ts d = subst (λ l. Spells at 1 bytes l) (append-nil ts) d

pub one_spelling_of : (bytes : Text) (ts us : List Token) → IsSpelling bytes ts → IsSpelling bytes us → ts ≡ us
one_spelling_of bytes ts us d e = one_spelling d.1 e.1

pub no_fault_of : (bytes : Text) (ts : List Token) (f : SyntaxFault) → IsSpelling bytes ts → IsLexicalFault bytes f → ⊥
no_fault_of bytes ts f d (too_long h) = let le = d.0 in omega arith
no_fault_of bytes ts f d (faulty h g) = no_fault d.1 g
