-- The code of a chunk serves it.
use Rattle.std.proofs.Common.{◌≡◌, ℕ, zero, suc, ◌∙◌, ◌-◌, refl, sym, ap, subst, List, [], ◌∷◌, ◌++◌, length, Option, Some, arith, Bool, true, false, length-append}
use Rattle.std.specs.Prelude.{slice_get}
use Rattle.lua_tree.specs.Source.{Block, body}
use Rattle.lua_code.specs.declared.op.Op.{Op}
use Rattle.lua_code.specs.declared.op.Op.TheVariants as op
use Rattle.lua_code.specs.Routine.{Routine}
use Rattle.lua_code.specs.Valid.{Fits, CapturesNothing, IsValidFunction, IsValid}
use Rattle.lua_steps.specs.Machine.{Code}
use Rattle.lua_steps.specs.Exec.{ops_of}
use Rattle.lua_steps.specs.Serves.{Serves, IsBody}
use Rattle.lua_compile.specs.Writer.{done}
use Rattle.lua_compile.specs.Written.{body_written, start_routine, opening, chunk_written}
use Rattle.lua_compile.proofs.Kept.{get_front, get_end}
use Rattle.lua_compile.proofs.KeptTerms.{body_kept}
use Rattle.lua_compile.proofs.ServesTerms.{body_serves}
use Rattle.lua_compile.proofs.FitLoops.{done_more}
use Rattle.lua_compile.proofs.FitTerms.{body_fits}

last_place : {A : Type 0} (xs : List A) (x : A) → length (xs ++ x ∷ []) - 1 ≡ length xs
last_place xs x = omega (arith, length-append xs (x ∷ []))

pub chunk_serves : (flags : List Bool) (b : Block) → (chunk_written flags b).lost ≡ false → Serves (chunk_written flags b).made b
chunk_serves flags b found =
    let p = body [] true b in
    let inner = body_written p [] (opening flags) in
    let code : Code = inner.made ++ done inner ∷ [] in
    let first : slice_get code 0 ≡ Some start_routine = get_front inner.made (done inner ∷ []) 0 start_routine ((body_kept p [] (opening flags)).made 0 start_routine refl) in
    let main : IsBody code (length inner.made) [] p =
    body_serves code p [] (opening flags) (length inner.made) (λ z. ⊥) (λ k r e. get_front inner.made (done inner ∷ []) k r e) (get_end inner.made (done inner)) found in
    record {
      append = ap (λ (r : Option Routine). slice_get (ops_of r) 0) first;
      start = ap (λ (r : Option Routine). slice_get (ops_of r) 1) first;
      return = ap (λ (r : Option Routine). slice_get (ops_of r) 2) first;
      main = subst (λ g. IsBody code g [] p) (sym (last_place inner.made (done inner))) main;
    }

start_fits : (code : Code) (k : ℕ) (o : Op) → slice_get start_routine.ops k ≡ Some o → Fits code start_routine k o
start_fits code zero o e = (let s : op.Append ≡ o = cc in let h : Fits code start_routine 0 op.Append = omega arith in subst (λ q. Fits code start_routine 0 q) s h)
start_fits code (suc zero) o e = (let s : op.Start ≡ o = cc in let h : Fits code start_routine 1 op.Start = omega arith in subst (λ q. Fits code start_routine 1 q) s h)
start_fits code (suc (suc zero)) o e = (let s : op.ReturnList ≡ o = cc in subst (λ q. Fits code start_routine 2 q) s tt)
start_fits code (suc (suc (suc k))) o e = absurd (cc)

start_valid : (code : Code) → IsValidFunction code start_routine
start_valid code = record { whole = (omega arith, refl, omega arith, omega arith); ops = record { fit = start_fits code } }

first_valid : (code : Code) (k : ℕ) (h : Routine) → slice_get (start_routine ∷ []) k ≡ Some h → IsValidFunction code h
first_valid code zero h e = (let s : start_routine ≡ h = cc in subst (λ r. IsValidFunction code r) s (start_valid code))
first_valid code (suc k) h e = absurd (cc)

pub chunk_valid : (flags : List Bool) (b : Block) → (chunk_written flags b).lost ≡ false → IsValid (chunk_written flags b).made
chunk_valid flags b found =
    let p = body [] true b in
    let inner = body_written p [] (opening flags) in
    let code : Code = inner.made ++ done inner ∷ [] in
    let there = get_end inner.made (done inner) in
    let fits = body_fits code p [] (opening flags) (length inner.made) (λ k r e. get_front inner.made (done inner ∷ []) k r e) there found (first_valid code) in
    let last : slice_get code (length code - 1) ≡ Some (done inner) = ap (λ k. slice_get code k) (last_place inner.made (done inner)) ∙ there in
    record {
      chunk = subst (λ (o : Option Routine). CapturesNothing o) (sym last) fits.2;
      functions = record { each = done_more (λ h. IsValidFunction code h) inner.made (done inner) fits.0 fits.1 };
    }
