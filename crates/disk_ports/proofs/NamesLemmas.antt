-- Names in order are distinct.
use Rattle.std.proofs.Common.{◌≡◌, ◌∙◌, sym, false, List, [], ◌∷◌, String, map, string_bytes}
use Rattle.std.specs.List.{AllByRecursion, IsDistinct}
use Rattle.std.specs.List.Sorted.{IsStrictlySortedBy}
use Rattle.std.specs.Ordering.{eq_by_cmp}
use Rattle.std.specs.Str.{bytes_eq}
use Rattle.std.specs.String.{string_cmp}
use Rattle.std.proofs.lemmas.Map.Keys.{IsDistinct-from_sorted}
use Rattle.std.proofs.lemmas.Map.Text.{is_eq-slice_cmp}

module _ {Z : Type 0} where
  all-texts : (x : String Z) (xs : List (String Z)) → AllByRecursion (λ y. eq_by_cmp string_cmp x y ≡ false) xs
      → AllByRecursion (λ text. bytes_eq (string_bytes x) text ≡ false) (map string_bytes xs)
  all-texts x [] h = tt
  all-texts x (y ∷ ys) h = (sym (is_eq-slice_cmp (string_bytes x) (string_bytes y)) ∙ h.0, all-texts x ys h.1)

  IsDistinct-texts : (xs : List (String Z)) → IsDistinct (eq_by_cmp string_cmp) xs → IsDistinct bytes_eq (map string_bytes xs)
  unfolding IsDistinct
  IsDistinct-texts [] h = tt
  IsDistinct-texts (x ∷ xs) h = (all-texts x xs h.0, IsDistinct-texts xs h.1)

  pub IsDistinct-in_order : (xs : List (String Z)) → IsStrictlySortedBy string_cmp xs → IsDistinct bytes_eq (map string_bytes xs)
  IsDistinct-in_order xs h = IsDistinct-texts xs (IsDistinct-from_sorted string_cmp xs h)
