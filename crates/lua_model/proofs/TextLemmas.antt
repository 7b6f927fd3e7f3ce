-- Numbers of strings.
use Rattle.std.proofs.Common.{◌≡◌, ℕ, zero, suc, ◌<◌, List, [], ◌∷◌, length, refl, sym, ap, ◌∙◌, arith, Bool, true, false}
use Rattle.std.specs.Prelude.{if◌then◌else◌}
use Rattle.std.specs.Cmp.Lexicographic.{bytes_decides}
use Rattle.lua_model.specs.Texts.{Texts, same_bytes, number_of, with_text, bytes_at}
use Rattle.lua_model.specs.Worked.{NumbersAreOfBytes}

-- bytes that pass the test are equal, and equal bytes pass
pub bytes-same : (a b : List ℕ) → same_bytes a b ≡ true → a ≡ b
bytes-same a b h = (bytes_decides a b).0 h

pub same-bytes : (a : List ℕ) → same_bytes a a ≡ true
same-bytes a = (bytes_decides a a).1 refl

held_in : (t : List ℕ) (ts : Texts) (a : List ℕ) (b : Bool) → same_bytes a t ≡ b → bytes_at (with_text ts a) (number_of ts a) ≡ a
    → bytes_at (if b then t ∷ ts else t ∷ with_text ts a) (if b then 0 else suc (number_of ts a)) ≡ a
held_in t ts a true e h = sym (bytes-same a t e)
held_in t ts a false e h = h

pub held_at : (texts : Texts) (a : List ℕ) → bytes_at (with_text texts a) (number_of texts a) ≡ a
held_at [] a = refl
held_at (t ∷ ts) a = held_in t ts a (same_bytes a t) refl (held_at ts a)

stays_in : (t : List ℕ) (ts : Texts) (a b : List ℕ) (c d : Bool) → same_bytes a t ≡ d
    → (number_of ts a < length ts → number_of (with_text ts b) a ≡ number_of ts a)
    → (if d then 0 else suc (number_of ts a)) < suc (length ts)
    → number_of (if c then t ∷ ts else t ∷ with_text ts b) a ≡ (if d then 0 else suc (number_of ts a))
stays_in t ts a b true d e h lt = ap (λ (x : Bool). if x then 0 else suc (number_of ts a)) e
stays_in t ts a b false true e h lt = ap (λ (x : Bool). if x then 0 else suc (number_of (with_text ts b) a)) e
stays_in t ts a b false false e h lt =
    ap (λ (x : Bool). if x then 0 else suc (number_of (with_text ts b) a)) e ∙ ap suc (h (omega arith))

pub stays_at : (texts : Texts) (a b : List ℕ) → number_of texts a < length texts → number_of (with_text texts b) a ≡ number_of texts a
stays_at [] a b lt = absurd (omega arith)
stays_at (t ∷ ts) a b lt = stays_in t ts a b (same_bytes b t) (same_bytes a t) refl (stays_at ts a b) lt

bytes_in : (t : List ℕ) (ts : Texts) (b : List ℕ) (c : Bool) (k : ℕ) → bytes_at (with_text ts b) k ≡ bytes_at ts k
    → bytes_at (if c then t ∷ ts else t ∷ with_text ts b) (suc k) ≡ bytes_at ts k
bytes_in t ts b true k h = refl
bytes_in t ts b false k h = h

bytes_first : (t : List ℕ) (ts : Texts) (b : List ℕ) (c : Bool) → bytes_at (if c then t ∷ ts else t ∷ with_text ts b) 0 ≡ t
bytes_first t ts b true = refl
bytes_first t ts b false = refl

pub bytes_stay_at : (texts : Texts) (b : List ℕ) (k : ℕ) → k < length texts → bytes_at (with_text texts b) k ≡ bytes_at texts k
bytes_stay_at [] b k lt = absurd (omega arith)
bytes_stay_at (t ∷ ts) b zero lt = bytes_first t ts b (same_bytes b t)
bytes_stay_at (t ∷ ts) b (suc k) lt = bytes_in t ts b (same_bytes b t) k (bytes_stay_at ts b k (omega arith))

pub numbers : NumbersAreOfBytes
numbers = record { held = held_at; stays = stays_at; bytes_stay = bytes_stay_at }
