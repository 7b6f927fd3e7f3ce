-- The names of scripts in a set.
use Rattle.std.proofs.Common.{◌≡◌, ◌∙◌, ◌||◌, ◌&&◌, ◌++◌, ap, refl, sym, ℕ, Bool, true, false, List, [], ◌∷◌, cond, if◌then◌else◌, String, string_bytes, map, take, length, get_or, arith, true≢false, ◌<◌, ◌≤◌, ◌+◌, Vec, Result, Ok, Err, IfOk}
use Rattle.std.specs.BTreeSet.{BTreeSet, contains_text}
use Rattle.std.specs.List.{AllByRecursion, list_any}
use Rattle.std.specs.List.Sorted.{IsStrictlySortedBy}
use Rattle.std.specs.Ordering.{is_eq, nat_cmp}
use Rattle.std.specs.declared.cmp.Ordering.TheVariants.{Less}
use Rattle.std.specs.Cmp.Lexicographic.{slice_cmp}
use Rattle.std.specs.Str.{bytes_eq}
use Rattle.std.specs.String.{string_cmp}
use Rattle.std.proofs.lemmas.List.{map_push, take_all, take_more}
use Rattle.std.proofs.lemmas.List.Folds.{list_any-append}
use Rattle.std.proofs.lemmas.Map.Text.{is_eq-slice_cmp}
use Rattle.std.proofs.lemmas.Slice.Eq.{bytes_eq-Decides}
use Rattle.sk_ports.specs.Files.{has_name}
use Rattle.runner.specs.Scripts.{is_script}
use Rattle.tools.specs.Report.{AreScripts, InOrder}

-- one more name, where it is a script's
abbrev pub HasOne : (List ℕ → Bool) → (List ℕ → Bool) → List ℕ → Type 0
HasOne before after name = (other : List ℕ) → after other ≡ (if is_script name then cond (bytes_eq name other) true (before other) else before other)

pub has_one : (before after : List ℕ → Bool) (bytes name : List ℕ) (b : Bool) → b ≡ true → b ≡ is_script name → bytes ≡ name
    → ((other : List ℕ) → after other ≡ cond (bytes_eq bytes other) true (before other)) → HasOne before after name
has_one before after bytes name b t e same h other = rw (sym e ∙ t, sym same) (h other)

-- what a set has is what the listed names have, as far as they are scripts'
abbrev pub Has : (List ℕ → Bool) → List (List ℕ) → Type 0
Has has listed = (other : List ℕ) → has other ≡ (has_name listed other && is_script other)

same_bytes : (a b : List ℕ) → bytes_eq a b ≡ bytes_eq b a
same_bytes a b = by (bytes_eq a b) (bytes_eq b a) refl refl
  where
    by : (c d : Bool) → bytes_eq a b ≡ c → bytes_eq b a ≡ d → c ≡ d
    by true true e f = refl
    by false false e f = refl
    by true false e f = absurd (true≢false (sym ((bytes_eq-Decides b a).1 (sym ((bytes_eq-Decides a b).0 e))) ∙ f))
    by false true e f = absurd (true≢false (sym ((bytes_eq-Decides a b).1 (sym ((bytes_eq-Decides b a).0 f))) ∙ e))

pub has_more : (before after : List ℕ → Bool) (listed : List (List ℕ)) (name : List ℕ) → HasOne before after name → Has before listed → Has after (listed ++ name ∷ [])
has_more before after listed name one has other =
    rw (one other, list_any-append, same_bytes other name)
    (by (is_script name) (is_script other) (bytes_eq name other) (before other) (has_name listed other) (λ e. ap is_script ((bytes_eq-Decides name other).0 e)) (has other))
  where
    by : (s o e h l : Bool) → (e ≡ true → s ≡ o) → h ≡ (l && o) → (if s then cond e true h else h) ≡ ((l || (e || false)) && o)
    by true true true h true same is = refl
    by true true true h false same is = refl
    by true true false h true same is = is
    by true true false h false same is = is
    by true false true h l same is = absurd (apart (same refl))
      where
        apart : true ≡ false → ⊥
        apart x = cc
    by true false false h true same is = is
    by true false false h false same is = is
    by false true true h l same is = absurd (apart (same refl))
      where
        apart : false ≡ true → ⊥
        apart x = cc
    by false true false h true same is = is
    by false true false h false same is = is
    by false false true h true same is = is
    by false false true h false same is = is
    by false false false h true same is = is
    by false false false h false same is = is

module _ {Z : Type 0} where
  pub bytes_more : (xs : List (String Z)) (i : ℕ) (d : String Z) (name : List ℕ) → i < length xs → d ≡ get_or xs i d → name ≡ string_bytes d
      → map string_bytes (take (i + 1) xs) ≡ map string_bytes (take i xs) ++ name ∷ []
  bytes_more xs i d name h e n = rw (take_more xs i d h, ← e, n) (map_push string_bytes (take i xs) d)

  text_of_keys : (keys : List (String Z)) (name : List ℕ) → list_any (λ k. is_eq (slice_cmp nat_cmp name (string_bytes k))) keys ≡ has_name (map string_bytes keys) name
  text_of_keys [] name = refl
  text_of_keys (k ∷ keys) name = rw (is_eq-slice_cmp name (string_bytes k), text_of_keys keys name) refl

  below : (k : String Z) (keys : List (String Z)) → AllByRecursion (λ y. string_cmp k y ≡ Less) keys → AllByRecursion (λ y. slice_cmp nat_cmp (string_bytes k) y ≡ Less) (map string_bytes keys)
  below k [] h = h
  below k (x ∷ xs) h = (h.0, below k xs h.1)

  in_order : (keys : List (String Z)) → IsStrictlySortedBy string_cmp keys → InOrder (map string_bytes keys)
  unfolding IsStrictlySortedBy
  in_order [] h = h
  in_order (k ∷ keys) h = (below k keys h.0, in_order keys h.1)

  are_scripts : (s : BTreeSet (String Z)) (names : List (String Z)) (listed : List (List ℕ)) → names ≡ s.keys → IsStrictlySortedBy string_cmp s.keys
      → Has (contains_text s) listed → AreScripts listed (map string_bytes names)
  are_scripts s names listed e sorted has = rw e (record {
    all = λ name. sym (text_of_keys s.keys name) ∙ has name;
    order = in_order s.keys sorted;
  })

  pub scripts_told : {Y E : Type 0} (s : BTreeSet (String Z)) (xs : List (String Z)) (i : ℕ) (r : Result (Vec (String Z) Y) E) → length xs ≤ i
      → IfOk r (λ names. names.items ≡ s.keys) → IsStrictlySortedBy string_cmp s.keys → Has (contains_text s) (map string_bytes (take i xs))
      → IfOk r (λ names. AreScripts (map string_bytes xs) (map string_bytes names.items))
  scripts_told s xs i (Ok names) h e sorted has = are_scripts s names.items (map string_bytes xs) e sorted (rw (take_all i xs h) at has)
  scripts_told s xs i (Err error) h e sorted has = tt
