-- The registry after the first three handles and their names.
use Rattle.std.proofs.Common.{◌≡◌, ℕ, ◌<◌, is_some, true, false, List, [], ◌∷◌, length, Option, Some, None, if◌then◌else◌, refl, ap, sym, ◌∙◌, subst, arith, codes}
use Rattle.std.specs.Ordering.{nat_cmp}
use Rattle.std.specs.Cmp.Lexicographic.{slice_cmp, nat_list_cmp_total}
use Rattle.std.specs.FinMap as names
use Rattle.sk_types.specs.declared.number.Handle.{Handle}
use Rattle.message.specs.Registries.{Registry, Names, register, may_name, name, does_name, most_handles}
use Rattle.handle_names.specs.Living.{Registers}
use Rattle.world_machine.specs.Opening.{first_handle, second_handle, opening_registry}

registers_few : (r r2 : Registry) (found : Option Handle) → Registers r found r2 → length r.listed < most_handles → r2 ≡ register r
registers_few r r2 None k few = let full = k.0 in absurd (omega (arith, full, few))
registers_few r r2 (Some h) k few = k.2

abbrev no_names : Names
no_names = names.empty

named_when : (r : Registry) (text : List ℕ) (h : Handle) → may_name r text h ≡ true → (does_name r text h).1 ≡ name r text h
named_when r text h e = ap (λ b. if b then name r text h else r) e

free_two : names.contains_key no_names (codes ".launcher") ≡ false
free_two = ap is_some (names.get-empty (slice_cmp nat_cmp) (codes ".launcher"))

free_one : names.contains_key (names.insert no_names (codes ".launcher") second_handle) (codes ".logger") ≡ false
free_one = ap is_some (names.get-insert nat_list_cmp_total no_names (codes ".launcher") second_handle (codes ".logger") ∙ names.get-empty (slice_cmp nat_cmp) (codes ".logger"))

pub opening_is : (r0 r1 r2 r3 r4 r5 : Registry) (a b c : Option Handle) → r0.listed ≡ [] → r0.named ≡ no_names → Registers r0 a r1 → Registers r1 b r2 → Registers r2 c r3
    → r4 ≡ (does_name r3 (codes ".launcher") second_handle).1 → r5 ≡ (does_name r4 (codes ".logger") first_handle).1 → r5 ≡ opening_registry
opening_is r0 r1 r2 r3 r4 r5 a b c none unnamed one two more launcher logger =
    let e0 : r0 ≡ record { listed = []; named = no_names } = λ i. record { listed = none i; named = unnamed i } in
    let few0 : length r0.listed < most_handles = subst (λ (r : Registry). length r.listed < most_handles) (sym e0) (omega arith) in
    let e1 : r1 ≡ record { listed = true ∷ []; named = no_names } = registers_few r0 r1 a one few0 ∙ ap register e0 in
    let few1 : length r1.listed < most_handles = subst (λ (r : Registry). length r.listed < most_handles) (sym e1) (omega arith) in
    let e2 : r2 ≡ record { listed = true ∷ true ∷ []; named = no_names } = registers_few r1 r2 b two few1 ∙ ap register e1 in
    let few2 : length r2.listed < most_handles = subst (λ (r : Registry). length r.listed < most_handles) (sym e2) (omega arith) in
    let e3 : r3 ≡ record { listed = true ∷ true ∷ true ∷ []; named = no_names } = registers_few r2 r3 c more few2 ∙ ap register e2 in
    let may4 : may_name (record { listed = true ∷ true ∷ true ∷ []; named = no_names }) (codes ".launcher") second_handle ≡ true = rw free_two refl in
    let e4 : r4 ≡ record { listed = true ∷ true ∷ true ∷ []; named = names.insert no_names (codes ".launcher") second_handle } =
    launcher ∙ (ap (λ r. (does_name r (codes ".launcher") second_handle).1) e3 ∙ named_when (record { listed = true ∷ true ∷ true ∷ []; named = no_names }) (codes ".launcher") second_handle may4) in
    let may5 : may_name (record { listed = true ∷ true ∷ true ∷ []; named = names.insert no_names (codes ".launcher") second_handle }) (codes ".logger") first_handle ≡ true = rw free_one refl in
    logger ∙ (ap (λ r. (does_name r (codes ".logger") first_handle).1) e4 ∙ named_when (record { listed = true ∷ true ∷ true ∷ []; named = names.insert no_names (codes ".launcher") second_handle }) (codes ".logger") first_handle may5)
