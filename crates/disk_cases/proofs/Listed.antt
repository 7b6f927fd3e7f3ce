-- A name of a list is listed.
use Rattle.std.proofs.Common.{◌≡◌, ◌∙◌, ap, ℕ, List, Option, Some, true, String, string_bytes, map, length, get_or, ◌<◌}
use Rattle.std.specs.Str.{bytes_eq}
use Rattle.std.proofs.lemmas.List.Folds.{list_any_at}
use Rattle.std.proofs.lemmas.Slice.Eq.{bytes_eq-Decides}
use Rattle.sk_ports.specs.Files.{IsListed, has_name}
use Rattle.sk_ports.proofs.FilesLemmas.{list_any-map}

module _ {Z : Type 0} where
  -- a name of the list is listed
  has_item : (xs : List (String Z)) (i : ℕ) (d : String Z) → i < length xs → d ≡ get_or xs i d
      → has_name (map string_bytes xs) (string_bytes d) ≡ true
  has_item xs i d h at =
      list_any-map (bytes_eq (string_bytes d)) string_bytes xs
      ∙ list_any_at (λ (x : String Z). bytes_eq (string_bytes d) (string_bytes x)) xs i d h
      ((bytes_eq-Decides (string_bytes d) (string_bytes (get_or xs i d))).1 (ap string_bytes at))

  pub item_is_listed : (listed : Option (List (List ℕ))) (xs : List (String Z)) (i : ℕ) (d : String Z) (name : List ℕ)
      → listed ≡ Some (map string_bytes xs) → i < length xs → d ≡ get_or xs i d → name ≡ string_bytes d → IsListed listed name
  item_is_listed listed xs i d name l h at n = rw (l, n) (has_item xs i d h at)
