-- The list of calls stays true over an act.
use Rattle.std.proofs.Common.{◌⊎◌, inl, inr, ◌≡◌, Bool, true, false, List, [], Option, refl, ap, sym, ◌∙◌, subst}
use Rattle.std.specs.Prelude.{ℕ, Result, Ok, Err, IfOk, IfErr, OnErr}
use Rattle.std.specs.Bool.{OnFalse}
use Rattle.std.proofs.lemmas.Bool.{OnFalse_at, OnFalse_from}
use Rattle.sk_types.specs.declared.number.Handle.{Handle}
use Rattle.message.specs.Actors.{Way, IsLawful, Begins}
use Rattle.message.specs.Worlds.{over}
use Rattle.call_fates.specs.Table.{Table}
use Rattle.call_fates.specs.Kept.{IsKept}
use Rattle.call_fates.specs.Reached.{IsOpening}
use Rattle.call_fates.proofs.Inverts.{acted}
use Rattle.call_fates.proofs.KeptSteps.{kept_step}
use Rattle.call_fates.proofs.Tells.{kept_opening}
use Rattle.world_machine.specs.Machines.{Machine, Run}
use Rattle.world_machine.specs.Failing.{Fails, FailsRun}
use Rattle.world_machine.specs.Calling.{Goes}
use Rattle.world_machine.specs.Opening.{first_handle, second_handle, start_handle, Opens}
use Rattle.world_machine.specs.declared.engine.ActError.{ActError}
use Rattle.world_machine.specs.declared.engine.ActError.TheVariants.{Fault, Memory, Spent}

differ : ◌≡◌ {A = Bool} true false → ⊥
differ e = cc

module _ {A M : Type 0} (way : Way M) (sound : M → Type 0) (lawful : IsLawful way sound) (f : A → M) (m m2 : Machine A) (h : Handle) (all all2 : Table) where
  abbrev pub Kept : Machine A → Table → Type 0
  Kept v list = OnFalse v.spent (IsKept way sound (over f v.world) list)

  goes_kept : (l : Option (List ℕ)) → Goes way (over f m.world) h l (over f m2.world) all all2 → IsKept way sound (over f m.world) all → IsKept way sound (over f m2.world) all2
  goes_kept l k kept = kept_step way sound lawful (over f m.world) h (k.what, over f m2.world) all all2 kept (acted way (over f m.world) h (k.what, over f m2.world) k.acts) k.follows

  same_kept : m2 ≡ m → all2 ≡ all → Kept m all → Kept m2 all2
  same_kept e e2 kept = subst (λ (v : Machine A). Kept v all2) (sym e) (subst (Kept m) (sym e2) kept)

  whole : (m.spent ≡ true) ⊎ (m.spent ≡ false)
  whole = go m.spent refl where
    go : (b : Bool) → m.spent ≡ b → (m.spent ≡ true) ⊎ (m.spent ≡ false)
    go true e = inl e
    go false e = inr e

  failed_kept : (e : ActError) → Fails way (over f m.world) h m m2 e → OnFalse m2.spent (all2 ≡ all) → Kept m all → m2.spent ≡ false → IsKept way sound (over f m2.world) all2
  failed_kept (Fault e) k same kept left = OnFalse_at left (same_kept k.1 (OnFalse_at left same) kept)
  failed_kept Memory e same kept left = OnFalse_at left (same_kept e (OnFalse_at left same) kept)
  failed_kept (Spent line) k same kept left = absurd (differ (sym k.met ∙ left))

  pub act_kept : (r : Result (Option (List ℕ)) ActError) → IfOk r (λ l. Goes way (over f m.world) h l (over f m2.world) all all2) → IfErr r (λ e. Fails way (over f m.world) h m m2 e) → OnErr r (OnFalse m2.spent (all2 ≡ all))
      → (m.spent ≡ true → (r ≡ Err Memory) × (m2 ≡ m) × (all2 ≡ all)) → Kept m all → Kept m2 all2
  act_kept (Ok l) done undone same spent kept = go whole where
    go : (m.spent ≡ true) ⊎ (m.spent ≡ false) → Kept m2 all2
    go (inl e) = absurd (cc (spent e).0)
    go (inr e) = OnFalse_from m2.spent (IsKept way sound (over f m2.world) all2) (λ no_matter. goes_kept l done (OnFalse_at e kept))
  act_kept (Err e) done undone same spent kept = OnFalse_from m2.spent (IsKept way sound (over f m2.world) all2) (failed_kept e undone same kept)

  abbrev pub run_of : Machine A → Table → Run A
  run_of v list = record { world = v.world; spent = v.spent; calls = list }

  same_run : m2 ≡ m → all2 ≡ all → run_of m2 all2 ≡ run_of m all
  same_run e e2 = ap (λ (v : Machine A). run_of v all2) e ∙ ap (run_of m) e2

  failed_run : (r : Result (Option (List ℕ)) ActError) (e : ActError) → r ≡ Err e → Fails way (over f m.world) h m m2 e → OnFalse m2.spent (all2 ≡ all)
      → (m.spent ≡ true → (r ≡ Err Memory) × (m2 ≡ m) × (all2 ≡ all)) → FailsRun way (over f m.world) h (run_of m all) (run_of m2 all2) e
  failed_run r (Fault e) is k same spent = go whole where
    go : (m.spent ≡ true) ⊎ (m.spent ≡ false) → FailsRun way (over f m.world) h (run_of m all) (run_of m2 all2) (Fault e)
    go (inl t) = (k.0, same_run k.1 (spent t).2)
    go (inr t) = (k.0, same_run k.1 (OnFalse_at (ap (λ (v : Machine A). v.spent) k.1 ∙ t) same))
  failed_run r (Spent line) is k same spent = record { what = k.what; after = k.after; acts = k.acts; line_is = k.line_is; met = k.met }
  failed_run r Memory is e same spent = go whole where
    go : (m.spent ≡ true) ⊎ (m.spent ≡ false) → FailsRun way (over f m.world) h (run_of m all) (run_of m2 all2) Memory
    go (inl t) = same_run e (spent t).2
    go (inr t) = same_run e (OnFalse_at (ap (λ (v : Machine A). v.spent) e ∙ t) same)

  pub act_failed : (r : Result (Option (List ℕ)) ActError) → IfErr r (λ e. Fails way (over f m.world) h m m2 e) → OnErr r (OnFalse m2.spent (all2 ≡ all))
      → (m.spent ≡ true → (r ≡ Err Memory) × (m2 ≡ m) × (all2 ≡ all)) → IfErr r (λ e. FailsRun way (over f m.world) h (run_of m all) (run_of m2 all2) e)
  act_failed (Ok l) undone same spent = tt
  act_failed (Err e) undone same spent = failed_run (Err e) e refl undone same spent

-- no call was made in the opening world
pub opens_kept : {A M : Type 0} (way : Way M) (sound : M → Type 0) (lawful : IsLawful way sound) (f : A → M) (logger launcher : A) (name : List ℕ) (m : Machine A) (all : Table)
    → Begins way sound first_handle (f logger) → Begins way sound second_handle (f launcher) → Opens way f logger launcher name m → all ≡ [] → OnFalse m.spent (IsKept way sound (over f m.world) all)
opens_kept way sound lawful f logger launcher name m all one two o none =
    let first : IsOpening way sound (over f m.world) = record { logger = f logger; launcher = f launcher; start = o.0; first = one; second = two; third = lawful.begin name start_handle o.0 o.1; same = o.2 } in
    OnFalse_from m.spent (IsKept way sound (over f m.world) all) (λ no_matter. subst (IsKept way sound (over f m.world)) (sym none) (kept_opening way sound lawful (over f m.world) first))
