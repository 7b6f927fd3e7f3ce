-- The verdicts on the scripts of a folder.
use Rattle.std.proofs.Common.{◌≡◌, ◌∙◌, ◌&&◌, ◌++◌, ap, refl, sym, subst, ℕ, Bool, true, false, List, [], ◌∷◌, Option, Some, None, is_some, String, string_bytes, map, take, length, get_or, arith, ◌<◌, ◌≤◌, ◌+◌}
use Rattle.std.specs.Prelude.{IfSome}
use Rattle.std.specs.List.{All}
use Rattle.std.proofs.lemmas.List.{map_push, take_all}
use Rattle.std.proofs.lemmas.List.Elements.{All-push}
use Rattle.sk_types.specs.declared.fault.SyntaxFault.{SyntaxFault}
use Rattle.sk_ports.specs.Files.{Files, Lists, ListsTold, IsListed, file, has_name}
use Rattle.runner.specs.Scripts.{is_script}
use Rattle.runner.proofs.ScriptsLemmas.{has_name-item}
use Rattle.tools.specs.Report.{AreScripts, InOrder, IsReport, IsVerdict, IsVerdictOn, Verdict, name_of}
use Rattle.tools.proofs.NamesLemmas.{bytes_more}

-- verdicts on the scripts of these names, in this order
pub record AreVerdicts (files : Files) (seen : List (List ℕ)) (vs : List Verdict) : Type 0 where
  pub names : map name_of vs ≡ seen
  pub each : All (IsVerdict files) vs

one_more : (files : Files) (seen : List (List ℕ)) (vs longer : List Verdict) (name : List ℕ) (fault : Option SyntaxFault)
    → longer ≡ vs ++ record { name = name; fault = fault } ∷ [] → AreVerdicts files seen vs → IsVerdictOn name fault files → AreVerdicts files (seen ++ name ∷ []) longer
one_more files seen vs longer name fault e h v = rw e (record {
  names = map_push name_of vs (record { name = name; fault = fault }) ∙ ap (λ (ns : List (List ℕ)). ns ++ name ∷ []) h.names;
  each = All-push (IsVerdict files) vs (record { name = name; fault = fault }) h.each v;
})

whole : (files : Files) (listed names : List (List ℕ)) (vs : List Verdict) → Lists listed files → AreScripts listed names → AreVerdicts files names vs → IsReport files vs
whole files listed names vs lists scripts h = record {
  all = λ name. ap (λ (ns : List (List ℕ)). has_name ns name) h.names ∙ scripts.all name ∙ ap (λ b. b && is_script name) (lists name);
  order = subst InOrder (sym h.names) scripts.order;
  each = h.each;
}

both : (a b : Bool) → true ≡ (a && b) → a ≡ true
both true b e = refl
both false b e = sym e

module _ {Z : Type 0} where
  pub more_told : (held : Option Files) (xs : List (String Z)) (i : ℕ) (d : String Z) (name : List ℕ) (fault : Option SyntaxFault) (vs longer : List Verdict)
      → i < length xs → d ≡ get_or xs i d → name ≡ string_bytes d → longer ≡ vs ++ record { name = name; fault = fault } ∷ []
      → IfSome held (λ files. AreVerdicts files (map string_bytes (take i xs)) vs) → IfSome held (IsVerdictOn name fault)
      → IfSome held (λ files. AreVerdicts files (map string_bytes (take (i + 1) xs)) longer)
  more_told None xs i d name fault vs longer h e n l are v = tt
  more_told (Some files) xs i d name fault vs longer h e n l are v =
      rw (bytes_more xs i d name h e n) (one_more files (map string_bytes (take i xs)) vs longer name fault l are v)

  pub all_told : (held : Option Files) (listed : List (List ℕ)) (xs : List (String Z)) (i : ℕ) (vs : List Verdict) → length xs ≤ i
      → ListsTold held listed → AreScripts listed (map string_bytes xs)
      → IfSome held (λ files. AreVerdicts files (map string_bytes (take i xs)) vs) → IfSome held (λ files. IsReport files vs)
  all_told None listed xs i vs h lists scripts are = tt
  all_told (Some files) listed xs i vs h lists scripts are = whole files listed (map string_bytes xs) vs lists scripts (rw (take_all i xs h) at are)

  -- each script's name was listed
  pub is_listed : (o : Option (List (List ℕ))) (listed : List (List ℕ)) (xs : List (String Z)) (i : ℕ) (d : String Z) (name : List ℕ)
      → o ≡ Some listed → AreScripts listed (map string_bytes xs) → i < length xs → d ≡ get_or xs i d → name ≡ string_bytes d → IsListed o name
  is_listed o listed xs i d name l scripts h e n =
      rw (l, n) (both (has_name listed (string_bytes d)) (is_script (string_bytes d)) (sym (has_name-item xs i d h e) ∙ scripts.all (string_bytes d)))
