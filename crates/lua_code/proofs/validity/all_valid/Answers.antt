use Rattle.std.proofs.Common.{rules, ◌≡◌, ◌<◌, ◌≤◌, ℕ, ◌+◌, Some, List, length, arith, below_more, refl, sym, subst, Bool, IsTrue}
use Rattle.std.specs.Prelude.{slice_get}
use Rattle.std.proofs.lemmas.Option.{slice_get_within, slice_get_read}
use Rattle.lua_code.specs.Routine.{Routine}
use Rattle.lua_code.specs.Valid.{AllValid, IsValidFunction}
use Rattle.lua_code.proofs.Below.{ValidBelow}
use Rattle.lua_code.proofs.validity.all_valid.Goals as goal

more : (code : List Routine) (n : ℕ) (f : Routine) → ValidBelow code n → slice_get code n ≡ Some f → IsValidFunction code f → ValidBelow code (n + 1)
more code n f below is valid =
    record {
      each = λ k g lt e. below_more (λ (j : ℕ). (h : Routine) → slice_get code j ≡ Some h → IsValidFunction code h) n
          (λ j small h i. below.each j h small i)
          (λ h i. let same : f ≡ h = cc in subst (λ (r : Routine). IsValidFunction code r) same valid) k lt g e;
    }

pub loop-place-preserved : goal.loop-place-preserved
loop-place-preserved c =
    let passed : IsTrue c.is_valid_function.result = subst (λ (b : Bool). IsTrue b) (sym c.if-not-is_valid_function.false) (search rules) in
    more c.args.code.now c.loop-place.place c.index-code-place.result c.loop-place.invariant
    (slice_get_read c.args.code.now (length c.args.code.now) c.loop-place.place c.index-code-place.result refl c.loop-place-test.true c.index-code-place.is)
    (c.is_valid_function.ensures.0 passed)

all_from : (code : List Routine) (n : ℕ) → ValidBelow code n → length code ≤ n → AllValid code
all_from code n below h = record { each = λ k f e. let lt : k < length code = slice_get_within code k f e in below.each k f (omega arith) e }

pub returns : goal.returns
returns c = (λ t. all_from c.args.code.now c.loop-place.place c.loop-place.invariant c.loop-place-test.false, λ v. search rules)
