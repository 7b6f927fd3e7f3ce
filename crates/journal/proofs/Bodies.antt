-- The last line, and the first one.
use Rattle.std.proofs.Common.{◌≡◌, ◌≢◌, ◌∙◌, ◌+◌, ◌-◌, ◌≤◌, ◌<◌, ℕ, suc, zero, List, [], ◌∷◌, ◌++◌, ap, ap₂, sym, refl, arith, decimal, length, append_assoc, append-nil, take, drop, drop-cons}
use Rattle.std.proofs.Math.Path.{subst}
use Rattle.std.proofs.lemmas.List.{append_cancel_left, length-drop, take-append-drop, take_all}
use Rattle.std.proofs.lemmas.Option.{get_or_from_slice_get}
use Rattle.sk_types.specs.declared.number.Handle.{Handle}
use Rattle.journal.specs.Common.{common}
use Rattle.journal.specs.Faults.{IsBody, IsFirstFault, IsText}
use Rattle.journal.specs.Format.{AreKnown, Spells, SpellsBody, header, last_line, lines}
use Rattle.journal.specs.Tails.{LastBegins, LineTail}
use Rattle.journal.proofs.Languages.{fault_from, same_fault}
use Rattle.journal.proofs.Prefixes.{common-append, common-le, common_longest, take_common}
use Rattle.journal.proofs.Spellings.{after_lines, not_last}

-- what begins as the last line is the last line
line_last : (entries : ℕ) (text : List ℕ) → LineTail entries (101 ∷ text) → 101 ∷ text ≡ last_line entries
line_last entries text t = go t.agents t.known t.is
  where
    go : (agents : List Handle) → AreKnown agents → 101 ∷ text ≡ lines agents ++ last_line (entries + length agents) → 101 ∷ text ≡ last_line entries
    go [] k e = e ∙ ap last_line {x = entries + 0} {y = entries} (omega arith)
    go (h ∷ agents) k e = absurd (not_last h text _ k.0 (e ∙ append_assoc (decimal h.0) (10 ∷ lines agents) _))

pub body_read : (body : List ℕ) (at : ℕ) (agents : List Handle) → LastBegins body at agents → drop at body ≡ last_line (length agents) → SpellsBody body agents
body_read body at agents l e = record {
  journal = l.reached.journal;
  is = sym (take-append-drop at body) ∙ ap₂ (λ (a b : List ℕ). a ++ b) l.reached.is e ∙ after_lines agents (last_line (length agents));
}

pub body_fault : (body : List ℕ) (at : ℕ) (agents : List Handle) → LastBegins body at agents → drop at body ≢ last_line (length agents)
    → IsFirstFault IsBody body (at + common (drop at body) (last_line (length agents)))
body_fault body at agents l other = fault_from IsBody body at k (omega (arith, l.within)) (record {
  within = (common-le rest line).0;
  begins = record { rest = drop k line; goes_on = record { agents = agents; spells = record { journal = l.reached.journal; is = spelled } } };
  longest = λ n more small b. common_longest rest line b.rest [] n more small (goes n b.rest (omega arith) b.goes_on ∙ sym (append-nil line)) (λ h. refl);
  none = λ b. other (whole b);
})
  where
    rest : List ℕ
    rest = drop at body

    line : List ℕ
    line = last_line (length agents)

    k : ℕ
    k = common rest line

    behind : List ℕ
    behind = drop (suc at) body

    first : rest ≡ 101 ∷ behind
    first = drop-cons body at 0 l.within ∙ ap (λ (b : ℕ). b ∷ drop (suc at) body) (get_or_from_slice_get body at 101 0 l.first)

    spelled : take at body ++ (take k rest ++ drop k line) ≡ lines agents ++ line
    spelled = ap (λ (t : List ℕ). take at body ++ (t ++ drop k line)) (take_common rest line) ∙ ap (λ (t : List ℕ). take at body ++ t) (take-append-drop k line)
        ∙ ap (λ (t : List ℕ). t ++ line) l.reached.is ∙ after_lines agents line

    whole : IsBody (take at body ++ rest) → rest ≡ line
    whole b = first ∙ line_last (length agents) behind (subst (LineTail (length agents)) first (l.reached.only rest b))

    goes : (n : ℕ) (r : List ℕ) → 0 < n → IsBody (take at body ++ (take n rest ++ r)) → take n rest ++ r ≡ line
    goes zero r some b = absurd (omega arith)
    goes (suc n) r some b =
        let from : take (suc n) rest ++ r ≡ 101 ∷ (take n behind ++ r) = ap (λ (t : List ℕ). take (suc n) t ++ r) first in
        from ∙ line_last (length agents) (take n behind ++ r) (subst (LineTail (length agents)) from (l.reached.only (take (suc n) rest ++ r) b))

-- ---- the first line

head_is : (text : List ℕ) → common text header ≡ 17 → take 17 text ≡ header
head_is text e = ap (λ (k : ℕ). take k text) (sym e) ∙ take_common text header ∙ ap (λ (k : ℕ). take k header) e

pub text_read : (text : List ℕ) (agents : List Handle) → common text header ≡ 17 → SpellsBody (drop 17 text) agents → Spells text agents
text_read text agents e s = record {
  journal = s.journal;
  is = sym (take-append-drop 17 text) ∙ ap₂ (λ (a b : List ℕ). a ++ b) (head_is text e) s.is;
}

pub text_fault : (text : List ℕ) (k : ℕ) → common text header ≡ 17 → 17 ≤ length text → IsFirstFault IsBody (drop 17 text) k → IsFirstFault IsText text (17 + k)
text_fault text k e small f = fault_from IsText text 17 k small (same_fault IsBody (λ r. IsText (take 17 text ++ r)) (drop 17 text) k to from f)
  where
    to : (r : List ℕ) → IsBody r → IsText (take 17 text ++ r)
    to r b = record { agents = b.agents; spells = record { journal = b.spells.journal; is = ap₂ (λ (a b : List ℕ). a ++ b) (head_is text e) b.spells.is } }

    from : (r : List ℕ) → IsText (take 17 text ++ r) → IsBody r
    from r t = record {
      agents = t.agents;
      spells = record {
        journal = t.spells.journal;
        is = append_cancel_left header r _ (ap (λ (a : List ℕ). a ++ r) (sym (head_is text e)) ∙ t.spells.is);
      };
    }

pub head_fault : (text : List ℕ) → common text header < 17 → IsFirstFault IsText text (common text header)
head_fault text short = record {
  within = (common-le text header).0;
  begins = record { rest = drop k header ++ last_line 0; goes_on = record { agents = []; spells = record { journal = record { few = omega arith; known = tt }; is = spelled } } };
  longest = λ n more small b. common_longest text header b.rest (lines b.goes_on.agents ++ last_line (length b.goes_on.agents)) n more small b.goes_on.spells.is (λ h. absurd (omega (arith, short, h)));
  none = λ t. not_whole (lines t.agents ++ last_line (length t.agents)) t.spells.is;
}
  where
    k : ℕ
    k = common text header

    spelled : take k text ++ (drop k header ++ last_line 0) ≡ header ++ last_line 0
    spelled = ap (λ (t : List ℕ). t ++ (drop k header ++ last_line 0)) (take_common text header)
        ∙ sym (append_assoc (take k header) (drop k header) (last_line 0)) ∙ ap (λ (t : List ℕ). t ++ last_line 0) (take-append-drop k header)

    not_whole : (z : List ℕ) → text ≡ header ++ z → ⊥
    not_whole z e = let is : common text header ≡ 17 = ap (λ (t : List ℕ). common t header) e ∙ common-append header z in omega (arith, short, is)

-- ---- as the reader has them

tail_is : (at : ℕ) (text : List ℕ) → take (length text - at) (drop at text) ≡ drop at text
tail_is at text = take_all (length text - at) (drop at text) (omega (arith, length-drop at text))

module _ (body : List ℕ) (at : ℕ) (agents : List Handle) (line : List ℕ) (l : LastBegins body at agents) (is_line : line ≡ last_line (length agents)) where
  pub body_read_by : take (length body - at) (drop at body) ≡ line → SpellsBody body agents
  body_read_by same = body_read body at agents l (sym (tail_is at body) ∙ same ∙ is_line)

  pub body_fault_by : (k : ℕ) → k ≡ common (take (length body - at) (drop at body)) line → take (length body - at) (drop at body) ≢ line → IsFirstFault IsBody body (at + k)
  body_fault_by k is other =
      subst (λ (n : ℕ). IsFirstFault IsBody body (at + n)) (sym (is ∙ ap₂ common (tail_is at body) is_line))
      (body_fault body at agents l (λ e. other (tail_is at body ∙ e ∙ sym is_line)))

pub text_read_by : (text : List ℕ) (agents : List Handle) → common text header ≡ 17 → SpellsBody (take (length text - 17) (drop 17 text)) agents → Spells text agents
text_read_by text agents e s = text_read text agents e (subst (λ (t : List ℕ). SpellsBody t agents) (tail_is 17 text) s)

pub text_fault_by : (text : List ℕ) (k : ℕ) → common text header ≡ 17 → 17 ≤ length text → IsFirstFault IsBody (take (length text - 17) (drop 17 text)) k → IsFirstFault IsText text (17 + k)
text_fault_by text k e small f = text_fault text k e small (subst (λ (t : List ℕ). IsFirstFault IsBody t k) (tail_is 17 text) f)
