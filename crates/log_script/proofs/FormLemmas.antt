-- A line begins in one way at most.
use Rattle.std.proofs.Common.{◌≡◌, ◌∙◌, ◌++◌, ◌&&◌, ap, refl, sym, subst, ℕ, Bool, true, false, true≢false, List, [], ◌∷◌, cond, length, take, drop, inl, inr, append_assoc, append-nil}
use Rattle.std.specs.Prelude.{take_while, Result, Ok, Err, IfOk, ◌≤◌}
use Rattle.std.specs.List.{list_all}
use Rattle.std.specs.Str.{bytes_eq}
use Rattle.std.proofs.Math.Seq.{drop-append_seam, take-append_seam}
use Rattle.std.proofs.lemmas.List.{append_cancel_left, take-append-drop}
use Rattle.std.proofs.lemmas.List.Sums.{take_while-cons}
use Rattle.std.proofs.lemmas.Slice.Eq.{bytes_eq-Decides}
use Rattle.log_script.specs.Form.{Continues, IsEnd, IsLine, IsPlain, Lines, NoLine, Logs, closing, first_line, is_plain, opening}

both_true : (b c : Bool) → (b && c) ≡ true → (b ≡ true) × (c ≡ true)
both_true true c e = (refl, e)
both_true false c e = absurd (true≢false (sym e))

-- a plain text before a quote is what stands before the first byte that is not plain
take_while-text : (text more : List ℕ) → IsPlain text → take_while is_plain (text ++ 34 ∷ more) ≡ text
take_while-text [] more plain = take_while-cons is_plain 34 more
take_while-text (x ∷ xs) more plain =
    let h = both_true (is_plain x) (list_all is_plain xs) plain in
    take_while-cons is_plain x (xs ++ 34 ∷ more)
    ∙ ap (λ b. cond b (x ∷ take_while is_plain (xs ++ 34 ∷ more)) []) h.0
    ∙ ap (λ ys. x ∷ ys) (take_while-text xs more h.1)

-- what is plain from the front on is a plain text
pub IsPlain-take_while : (bytes : List ℕ) → IsPlain (take_while is_plain bytes)
IsPlain-take_while [] = refl
IsPlain-take_while (x ∷ xs) = subst IsPlain (sym (take_while-cons is_plain x xs)) (go (is_plain x) refl (IsPlain-take_while xs))
  where
    go : (b : Bool) → is_plain x ≡ b → IsPlain (take_while is_plain xs) → IsPlain (cond b (x ∷ take_while is_plain xs) [])
    go true e h = ap (λ b. b && list_all is_plain (take_while is_plain xs)) e ∙ h
    go false e h = refl

pub take-take_while : (bytes : List ℕ) → take (length (take_while is_plain bytes)) bytes ≡ take_while is_plain bytes
take-take_while [] = refl
take-take_while (x ∷ xs) = subst (λ (w : List ℕ). take (length w) (x ∷ xs) ≡ w) (sym (take_while-cons is_plain x xs)) (go (is_plain x) (take-take_while xs))
  where
    go : (b : Bool) → take (length (take_while is_plain xs)) xs ≡ take_while is_plain xs
        → take (length (cond b (x ∷ take_while is_plain xs) [])) (x ∷ xs) ≡ cond b (x ∷ take_while is_plain xs) []
    go true h = ap (λ ys. x ∷ ys) h
    go false h = refl

-- bytes that begin with a prefix
pub begins : (bytes prefix : List ℕ) → bytes_eq (take (length prefix) bytes) prefix ≡ true → bytes ≡ prefix ++ drop (length prefix) bytes
begins bytes prefix e = sym (take-append-drop (length prefix) bytes)
    ∙ ap (λ (front : List ℕ). front ++ drop (length prefix) bytes) ((bytes_eq-Decides (take (length prefix) bytes) prefix).0 e)

pub begins_with : (bytes prefix more : List ℕ) → bytes ≡ prefix ++ more → bytes_eq (take (length prefix) bytes) prefix ≡ true
begins_with bytes prefix more e = (bytes_eq-Decides (take (length prefix) bytes) prefix).1
    (ap (take (length prefix)) e ∙ take-append_seam prefix more)

-- two ways in which a line may begin with a text are one
pub one_text : (text more text2 more2 : List ℕ) → IsPlain text → IsPlain text2 → text ++ (closing ++ more) ≡ text2 ++ (closing ++ more2) → (text ≡ text2) × (more ≡ more2)
one_text text more text2 more2 p q e =
    let same = sym (take_while-text text (41 ∷ more) p) ∙ ap (take_while is_plain) e ∙ take_while-text text2 (41 ∷ more2) q in
    (same, ap (drop 2) (cut text text2 (closing ++ more) (closing ++ more2) same e))
  where
    cut : (a b c d : List ℕ) → a ≡ b → a ++ c ≡ b ++ d → c ≡ d
    cut a b c d s e = append_cancel_left b c d (ap (λ (x : List ℕ). x ++ c) (sym s) ∙ e)

-- no line, since what stands first is not its beginning
pub no_opening : (rest : List ℕ) → bytes_eq (take (length opening) rest) opening ≡ false → NoLine rest
no_opening rest f text more line = true≢false (sym (begins_with rest opening (text ++ (closing ++ more)) line.1) ∙ f)

-- no line, since no quote and parenthesis follow what is plain
pub no_closing : (rest body : List ℕ) → rest ≡ opening ++ body
    → bytes_eq (take (length closing) (drop (length (take_while is_plain body)) body)) closing ≡ false → NoLine rest
no_closing rest body r f text more line =
    let whole : body ≡ text ++ (closing ++ more) = ap (drop 15) (sym r ∙ line.1) in
    let same : take_while is_plain body ≡ text = ap (take_while is_plain) whole ∙ take_while-text text (41 ∷ more) line.0 in
    let after = ap (λ (w : List ℕ). drop (length w) body) same ∙ ap (drop (length text)) whole ∙ drop-append_seam text (closing ++ more) in
    true≢false (sym (begins_with (drop (length (take_while is_plain body)) body) closing more after) ∙ f)

-- a line, where its beginning, a plain text, and a quote and a parenthesis stand first
pub found_line : (rest : List ℕ) → bytes_eq (take (length opening) rest) opening ≡ true → (body text after more : List ℕ)
    → body ≡ drop (length opening) rest → text ≡ take (length (take_while is_plain body)) body → after ≡ drop (length (take_while is_plain body)) body
    → bytes_eq (take (length closing) after) closing ≡ true → more ≡ drop (length closing) after → IsLine rest text more
found_line rest o body text after more b t a c m =
    let is : text ≡ take_while is_plain body = t ∙ take-take_while body in (
      subst IsPlain (sym is) (IsPlain-take_while body),
      begins rest opening o ∙ ap (λ (x : List ℕ). opening ++ x) (sym b
          ∙ sym (take-append-drop (length (take_while is_plain body)) body)
          ∙ ap (λ (x : List ℕ). x ++ drop (length (take_while is_plain body)) body) (sym t)
          ∙ ap (λ (x : List ℕ). text ++ x) (sym a ∙ begins after closing c ∙ ap (λ (x : List ℕ). closing ++ x) (sym m))),
    )

-- no line, where its beginning and a plain text stand first, and then something else
pub refused_line : (rest body after : List ℕ) (n : ℕ) → bytes_eq (take (length opening) rest) opening ≡ true → body ≡ drop (length opening) rest
    → n ≡ length (take_while is_plain body) → after ≡ drop n body → bytes_eq (take (length closing) after) closing ≡ false → NoLine rest
refused_line rest body after n o b e a f =
    no_closing rest body (begins rest opening o ∙ ap (λ (x : List ℕ). opening ++ x) (sym b))
    (ap (λ (x : List ℕ). bytes_eq (take (length closing) x) closing) (sym (a ∙ ap (λ (k : ℕ). drop k body) e)) ∙ f)

too_long : (rest more : List ℕ) → IsEnd rest → rest ≡ opening ++ more → ⊥
too_long rest more (inl e) l = apart (sym e ∙ l)
  where
    apart : [] ≡ opening ++ more → ⊥
    apart h = cc
too_long rest more (inr e) l = apart (ap (drop 1) (sym e ∙ l))
  where
    apart : [] ≡ drop 1 (opening ++ more) → ⊥
    apart h = cc

-- before any line is read
pub Continues-start : (source : List ℕ) → Continues source [] source
Continues-start source = record { on = λ texts h. h; back = λ all h. (all, refl, h) }

-- one line more
pub Continues-line : (source rest text more : List ℕ) (found longer : List (List ℕ)) → longer ≡ found ++ text ∷ [] → IsLine rest text more
    → Continues source found rest → Continues source longer more
Continues-line source rest text more found longer e line c = rw e (record {
  on = λ texts h. subst (λ (all : List (List ℕ)). Lines all source) (sym (append_assoc found (text ∷ []) texts)) (c.on (text ∷ texts) (more, line, h));
  back = λ all h. let before = c.back all h in split before.0 before.2 before.1;
})
  where
    split : {all : List (List ℕ)} (texts : List (List ℕ)) → Lines texts rest → all ≡ found ++ texts
        → (later : List (List ℕ)) × (all ≡ (found ++ text ∷ []) ++ later) × Lines later more
    split [] h is = absurd (too_long rest (text ++ (closing ++ more)) h line.1)
    split (t ∷ ts) h is =
        let one = one_text t h.0 text more h.1.0 line.0 (ap (drop 15) (sym h.1.1 ∙ line.1)) in
        (ts, is ∙ ap (λ (x : List ℕ). found ++ x ∷ ts) one.0 ∙ sym (append_assoc found (text ∷ []) ts), subst (Lines ts) one.1 h.2)

-- at the end of the lines all are found
pub lines_found : (source rest : List ℕ) (found : List (List ℕ)) → Continues source found rest → IsEnd rest → Lines found source
lines_found source rest found c e = subst (λ (all : List (List ℕ)). Lines all source) (append-nil found) (c.on [] e)

-- and no others can be
pub lines_alone : (source rest : List ℕ) (found : List (List ℕ)) → Continues source found rest → NoLine rest → (others : List (List ℕ)) → Lines others source → others ≡ found
lines_alone source rest found c n others h = let before = c.back others h in only before.0 before.1 before.2
  where
    only : (texts : List (List ℕ)) → others ≡ found ++ texts → Lines texts rest → others ≡ found
    only [] e h = e ∙ append-nil found
    only (t ∷ ts) e h = absurd (n t h.0 h.1)

-- what is neither an end nor a line cannot be read
pub lines_refused : (source rest : List ℕ) (found : List (List ℕ)) → Continues source found rest → NoLine rest → (IsEnd rest → ⊥)
    → (texts : List (List ℕ)) → Lines texts source → ⊥
lines_refused source rest found c n e texts h = let before = c.back texts h in none before.0 before.2
  where
    none : (texts : List (List ℕ)) → Lines texts rest → ⊥
    none [] h = e h
    none (t ∷ ts) h = n t h.0 h.1

-- a script is its first line and the lines after it
pub reads_lines : {E : Type 0} (source rest : List ℕ) (read : Result (List (List ℕ)) E) → length source ≤ 1048576 → source ≡ first_line ++ rest
    → IfOk read (λ texts. Lines texts rest) → IfOk read (λ texts. Logs source texts)
reads_lines source rest (Ok texts) within e h = (within, inr (rest, e, h))
reads_lines source rest (Err x) within e h = tt
