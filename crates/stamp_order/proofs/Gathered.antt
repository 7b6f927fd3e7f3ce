-- The entries of the first so many records.
use Rattle.std.proofs.Common.{◌≡◌, ℕ, zero, suc, ◌<◌, ◌≤◌, ◌+◌, List, [], ◌∷◌, ◌++◌, map, take, length, slice_index_or, refl, ap, sym, ◌∙◌, arith, length-append}
use Rattle.std.proofs.lemmas.List.{append_assoc}
use Rattle.message.specs.Trails.{Trail}
use Rattle.message.specs.declared.record.Entry.{Entry}
use Rattle.stamp_order.specs.Merged.{entries_of, count, key}

-- one record more
grown_by : (ts : List Trail) (i : ℕ) (d : Trail) → i < length ts → entries_of (take (suc i) ts) ≡ entries_of (take i ts) ++ (slice_index_or ts i d).entries
grown_by [] i d l = absurd (omega arith)
grown_by (t ∷ ts) zero d l = append_nil t.entries where
  append_nil : (es : List Entry) → es ++ [] ≡ es
  append_nil [] = refl
  append_nil (e ∷ es) = ap (λ z. e ∷ z) (append_nil es)
grown_by (t ∷ ts) (suc i) d l = ap (λ z. t.entries ++ z) (grown_by ts i d (omega (arith, l))) ∙ sym (append_assoc t.entries (entries_of (take i ts)) (slice_index_or ts i d).entries)

pub grown : (ts : List Trail) (i : ℕ) (d : Trail) → i < length ts → entries_of (take (i + 1) ts) ≡ entries_of (take i ts) ++ (slice_index_or ts i d).entries
grown ts i d l = let n : i + 1 ≡ suc i = omega arith in ap (λ k. entries_of (take k ts)) n ∙ grown_by ts i d l

pub counted : (ts : List Trail) (i : ℕ) (d : Trail) → i < length ts → count (take (i + 1) ts) ≡ count (take i ts) + length (slice_index_or ts i d).entries
counted ts i d l = ap length (grown ts i d l) ∙ length-append (entries_of (take i ts)) (slice_index_or ts i d).entries

map_append : (xs ys : List Entry) → map key (xs ++ ys) ≡ map key xs ++ map key ys
map_append [] ys = refl
map_append (x ∷ xs) ys = ap (λ z. key x ∷ z) (map_append xs ys)

pub keys_grown : (ts : List Trail) (i : ℕ) (d : Trail) → i < length ts → map key (entries_of (take (i + 1) ts)) ≡ map key (entries_of (take i ts)) ++ map key (slice_index_or ts i d).entries
keys_grown ts i d l = ap (map key) (grown ts i d l) ∙ map_append (entries_of (take i ts)) (slice_index_or ts i d).entries

-- a part of the records has no more entries than all
pub fits : (ts : List Trail) (i : ℕ) (d : Trail) → i < length ts → count (take i ts) + length (slice_index_or ts i d).entries ≤ count ts
fits [] i d l = absurd (omega arith)
fits (t ∷ ts) zero d l = omega (arith, length-append t.entries (entries_of ts))
fits (t ∷ ts) (suc i) d l = omega (arith, length-append t.entries (entries_of ts), length-append t.entries (entries_of (take i ts)), fits ts i d (omega (arith, l)))

pub count_one : (a : Trail) → count (a ∷ []) ≡ length a.entries
count_one a = omega (arith, length-append a.entries [])

pub count_three : (a b c : Trail) → count (a ∷ b ∷ c ∷ []) ≡ length a.entries + length b.entries + length c.entries
count_three a b c = omega (arith, length-append a.entries (entries_of (b ∷ c ∷ [])), length-append b.entries (entries_of (c ∷ [])), length-append c.entries [])
