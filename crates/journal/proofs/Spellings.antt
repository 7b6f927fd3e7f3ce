-- Lines of entries, one after another, and that they tell their entries.
use Rattle.std.proofs.Common.{◌≡◌, ◌∙◌, ◌+◌, ◌-◌, ◌*◌, ◌≤◌, ◌<◌, ◌^◌, ℕ, suc, List, [], ◌∷◌, ◌++◌, ap, sym, refl, arith, decimal, length, append_assoc, take, get_or}
use Rattle.std.proofs.Math.Seq.{take-suc}
use Rattle.std.proofs.lemmas.List.{length-append, append_cancel_left}
use Rattle.std.proofs.lemmas.Fmt.{decimal_is_IsNumeral}
use Rattle.std.specs.Str.Parse.{digits_value}
use Rattle.sk_types.specs.declared.number.Handle.{Handle}
use Rattle.journal.specs.Faults.{Begins, IsBody}
use Rattle.journal.specs.Format.{AreKnown, IsJournal, header, last_line, lines, spelled}
use Rattle.journal.specs.Tails.{GoesOn, IsPlace, begun}
use Rattle.journal.specs.declared.lines.Spot.{Spot}
use Rattle.journal.specs.declared.lines.Spot.TheVariants as spot
use Rattle.journal.proofs.Numerals.{decimal_starts}

pub lines-append : (a b : List Handle) → lines (a ++ b) ≡ lines a ++ lines b
lines-append [] b = refl
lines-append (h ∷ a) b =
    ap (λ (t : List ℕ). decimal h.0 ++ (10 ∷ t)) (lines-append a b) ∙ sym (append_assoc (decimal h.0) (10 ∷ lines a) (lines b))

pub known-append : (a : List Handle) (h : Handle) → AreKnown a → h.0 ≤ 65535 → AreKnown (a ++ h ∷ [])
known-append [] h k small = (small, tt)
known-append (x ∷ a) h k small = (k.0, known-append a h k.1 small)

pub appended : (a : List Handle) (h : Handle) → IsJournal a → length a < 4000000 → h.0 ≤ 65535 → IsJournal (a ++ h ∷ [])
appended a h j room small = record { few = omega (arith, length-append a (h ∷ [])); known = known-append a h j.known small }

pub after_lines : (agents : List Handle) (text : List ℕ) → (lines agents ++ []) ++ text ≡ lines agents ++ text
after_lines agents text = append_assoc (lines agents) [] text

after_number : (agents : List Handle) (n : ℕ) (h : Handle) (text : List ℕ) → h.0 ≡ n
    → (lines agents ++ decimal n) ++ (10 ∷ text) ≡ lines (agents ++ h ∷ []) ++ text
after_number agents n h text is =
    append_assoc (lines agents) (decimal n) (10 ∷ text)
    ∙ ap (λ (k : ℕ). lines agents ++ (decimal k ++ (10 ∷ text))) (sym is)
    ∙ ap (λ (t : List ℕ). lines agents ++ t) (sym (append_assoc (decimal h.0) (10 ∷ []) text))
    ∙ sym (append_assoc (lines agents) (decimal h.0 ++ (10 ∷ [])) text)
    ∙ ap (λ (t : List ℕ). t ++ text) (sym (lines-append agents (h ∷ [])))

-- some journal goes on from each place
pub begun_goes_on : (agents : List Handle) (place : Spot) → IsJournal agents → IsPlace place (length agents) → Begins IsBody (lines agents ++ begun place)
begun_goes_on agents spot.Line j p = record {
  rest = last_line (length agents);
  goes_on = record { agents = agents; spells = record { journal = j; is = after_lines agents (last_line (length agents)) } };
}
begun_goes_on agents (spot.Number n) j p =
    let h : Handle = record { 0 = n } in
    record {
      rest = 10 ∷ last_line (length (agents ++ h ∷ []));
      goes_on = record {
        agents = agents ++ h ∷ [];
        spells = record { journal = appended agents h j p.0 p.1; is = after_number agents n h (last_line (length (agents ++ h ∷ []))) refl };
      };
    }

-- ---- one text has one journal

-- digits end before a byte that is none
parted : (m n : ℕ) (a b x y : List ℕ) → GoesOn m a → GoesOn n b → a ++ 10 ∷ x ≡ b ++ 10 ∷ y → (a ≡ b) × (x ≡ y)
parted m n [] [] x y g h e = (refl, cc)
parted m n [] (d ∷ b) x y g h e = let head : 10 ≡ d = cc in absurd (omega (arith, h.1))
parted m n (c ∷ a) [] x y g h e = let head : c ≡ 10 = cc in absurd (omega (arith, g.1))
parted m n (c ∷ a) (d ∷ b) x y g h e =
    let head : c ≡ d = cc in
    let tail = parted (m * 10 + (c - 48)) (n * 10 + (d - 48)) a b x y g.3 h.3 (cc) in
    (rw (head, tail.0), tail.1)

same_number : (m n : ℕ) → m < 2 ^ 64 → n < 2 ^ 64 → decimal m ≡ decimal n → m ≡ n
same_number m n small also e =
    sym (decimal_is_IsNumeral m small).1 ∙ ap (digits_value 10) e ∙ (decimal_is_IsNumeral n also).1

same_handle : (g h : Handle) → g.0 ≡ h.0 → g ≡ h
same_handle g h e = let f : ℕ → Handle = λ k. record { 0 = k } in ap f e

line_parted : (g h : Handle) (x y : List ℕ) → g.0 ≤ 65535 → h.0 ≤ 65535 → decimal g.0 ++ (10 ∷ x) ≡ decimal h.0 ++ (10 ∷ y) → (g ≡ h) × (x ≡ y)
line_parted g h x y small also e =
    let s = decimal_starts g.0 (omega arith) in
    let t = decimal_starts h.0 (omega arith) in
    let both : s.first ∷ (s.digits ++ (10 ∷ x)) ≡ t.first ∷ (t.digits ++ (10 ∷ y)) =
    ap (λ (r : List ℕ). r ++ (10 ∷ x)) (sym s.is) ∙ e ∙ ap (λ (r : List ℕ). r ++ (10 ∷ y)) t.is in
    let head : s.first ≡ t.first = cc in
    let tail = parted (s.first - 48) (t.first - 48) s.digits t.digits x y s.goes_on t.goes_on (cc) in
    let number : decimal g.0 ≡ decimal h.0 = s.is ∙ (rw (head, tail.0) refl) ∙ sym t.is in
    (same_handle g h (same_number g.0 h.0 (omega arith) (omega arith) number), tail.1)

pub not_last : (h : Handle) (x y : List ℕ) → h.0 ≤ 65535 → 101 ∷ x ≡ decimal h.0 ++ y → ⊥
not_last h x y small e =
    let s = decimal_starts h.0 (omega arith) in
    let spelled : 101 ∷ x ≡ s.first ∷ (s.digits ++ y) = e ∙ ap (λ (r : List ℕ). r ++ y) s.is in
    let head : 101 ≡ s.first = cc in
    omega (arith, s.high)

one_body : (a b : List Handle) (m n : ℕ) → AreKnown a → AreKnown b → lines a ++ last_line m ≡ lines b ++ last_line n → a ≡ b
one_body [] [] m n k l e = refl
one_body [] (h ∷ b) m n k l e = absurd (not_last h _ _ l.0 (e ∙ append_assoc (decimal h.0) (10 ∷ lines b) (last_line n)))
one_body (g ∷ a) [] m n k l e = absurd (not_last g _ _ k.0 (sym e ∙ append_assoc (decimal g.0) (10 ∷ lines a) (last_line m)))
one_body (g ∷ a) (h ∷ b) m n k l e =
    let p = line_parted g h (lines a ++ last_line m) (lines b ++ last_line n) k.0 l.0
    (sym (append_assoc (decimal g.0) (10 ∷ lines a) (last_line m)) ∙ e ∙ append_assoc (decimal h.0) (10 ∷ lines b) (last_line n)) in
    let rest = one_body a b m n k.1 l.1 p.1 in
    rw (p.0, rest)

pub one_journal : (a b : List Handle) → IsJournal a → IsJournal b → spelled a ≡ spelled b → a ≡ b
one_journal a b j k e =
    one_body a b (length a) (length b) j.known k.known
    (append_cancel_left header (lines a ++ last_line (length a)) (lines b ++ last_line (length b)) e)

-- ---- writing them

pub line_added : (agents items : List Handle) (i : ℕ) (d : Handle) (text new : List ℕ) → items ≡ agents → i < length items
    → text ≡ header ++ lines (take i agents) → new ≡ text ++ (decimal (get_or items i d).0 ++ (10 ∷ [])) → new ≡ header ++ lines (take (i + 1) agents)
line_added agents items i d text new same small so_far is =
    let before : take i items ≡ take i agents = ap (λ (a : List Handle). take i a) same in
    let next : take (i + 1) agents ≡ take i agents ++ get_or items i d ∷ [] =
    ap (λ (a : List Handle). take (i + 1) a) (sym same) ∙ ap (λ (j : ℕ). take j items) {x = i + 1} {y = suc i} (omega arith)
    ∙ take-suc items i d small ∙ ap (λ (a : List Handle). a ++ get_or items i d ∷ []) before in
    is ∙ ap (λ (t : List ℕ). t ++ (decimal (get_or items i d).0 ++ (10 ∷ []))) so_far
    ∙ append_assoc header (lines (take i agents)) (decimal (get_or items i d).0 ++ (10 ∷ []))
    ∙ ap (λ (t : List ℕ). header ++ t) (sym (lines-append (take i agents) (get_or items i d ∷ [])))
    ∙ ap (λ (a : List Handle). header ++ lines a) (sym next)
