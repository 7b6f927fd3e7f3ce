-- The first fault of a text by any language.
use Rattle.std.proofs.Common.{◌≡◌, ◌∙◌, ◌+◌, ◌-◌, ◌≤◌, ◌<◌, ℕ, suc, zero, List, [], ◌∷◌, ◌++◌, ap, sym, arith, length, take, drop}
use Rattle.std.proofs.Math.Path.{subst}
use Rattle.std.proofs.Math.Seq.{take-append-add}
use Rattle.std.proofs.lemmas.List.{append_assoc, length-append, take-append-drop, length-take-le}
use Rattle.journal.specs.Faults.{Begins, IsFirstFault}

-- a part of a text, with a part of its rest
joined : (before rest text : List ℕ) (n : ℕ) → take (length before + n) (before ++ rest) ++ text ≡ before ++ (take n rest ++ text)
joined before rest text n = ap (λ (t : List ℕ). t ++ text) (take-append-add before rest n) ∙ append_assoc before (take n rest) text

fault_after : (L : List ℕ → Type 0) (before rest : List ℕ) (k : ℕ) → IsFirstFault (λ r. L (before ++ r)) rest k → IsFirstFault L (before ++ rest) (length before + k)
fault_after L before rest k f = record {
  within = omega (arith, length-append before rest, f.within);
  begins = record { rest = f.begins.rest; goes_on = subst L (sym (joined before rest f.begins.rest k)) f.begins.goes_on };
  longest = λ n more small b. longer n (n - length before) (omega (arith)) more small b;
  none = f.none;
}
  where
    longer : (n m : ℕ) → n ≡ length before + m → length before + k < n → n ≤ length (before ++ rest) → Begins L (take n (before ++ rest)) → ⊥
    longer n m is more small b =
        let same : take n (before ++ rest) ++ b.rest ≡ before ++ (take m rest ++ b.rest) = ap (λ (j : ℕ). take j (before ++ rest) ++ b.rest) is ∙ joined before rest b.rest m in
        f.longest m (omega arith) (omega (arith, length-append before rest)) (record { rest = b.rest; goes_on = subst L same b.goes_on })

-- the fault of what stands from a place on is the text's, that much later
pub fault_from : (L : List ℕ → Type 0) (text : List ℕ) (at k : ℕ) → at ≤ length text → IsFirstFault (λ r. L (take at text ++ r)) (drop at text) k → IsFirstFault L text (at + k)
fault_from L text at k small f =
    let whole = fault_after L (take at text) (drop at text) k f in
    let length_is : length (take at text) + k ≡ at + k = ap (λ (j : ℕ). j + k) (length-take-le at text small) in
    let moved : IsFirstFault L text (length (take at text) + k) = subst (λ (t : List ℕ). IsFirstFault L t (length (take at text) + k)) (take-append-drop at text) whole in
    subst (IsFirstFault L text) length_is moved

-- two languages of the same texts
pub same_fault : (L M : List ℕ → Type 0) (text : List ℕ) (k : ℕ) → ((r : List ℕ) → L r → M r) → ((r : List ℕ) → M r → L r) → IsFirstFault L text k → IsFirstFault M text k
same_fault L M text k to from f = record {
  within = f.within;
  begins = record { rest = f.begins.rest; goes_on = to (take k text ++ f.begins.rest) f.begins.goes_on };
  longest = λ n more small b. f.longest n more small (record { rest = b.rest; goes_on = from (take n text ++ b.rest) b.goes_on });
  none = λ l. f.none (from text l);
}

-- no text of the language has the first byte
pub fault_at_byte : (L : List ℕ → Type 0) (byte : ℕ) (text : List ℕ) → Begins L [] → ((r : List ℕ) → L (byte ∷ r) → ⊥) → IsFirstFault L (byte ∷ text) 0
fault_at_byte L byte text begins none = record {
  within = omega arith;
  begins = begins;
  longest = longer;
  none = none text;
}
  where
    longer : (n : ℕ) → 0 < n → n ≤ length (byte ∷ text) → Begins L (take n (byte ∷ text)) → ⊥
    longer zero more small b = omega arith
    longer (suc n) more small b = none (take n text ++ b.rest) b.goes_on

-- the text ends too early
pub fault_at_end : (L : List ℕ → Type 0) → Begins L [] → (L [] → ⊥) → IsFirstFault L [] 0
fault_at_end L begins none = record {
  within = omega arith;
  begins = begins;
  longest = λ n more small b. omega arith;
  none = none;
}
