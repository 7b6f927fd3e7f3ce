-- Closures are made.
use Rattle.std.proofs.Common.{◌≡◌, ℕ, suc, List, [], ◌∷◌, ◌++◌, length, Some, refl, sym, ap, ◌∙◌, subst}
use Rattle.std.specs.Prelude.{map, slice_get, unwrap_or, option_map}
use Rattle.std.proofs.lemmas.Option.{slice_get-map}
use Rattle.lua_tree.specs.Source.{Body, body}
use Rattle.lua_model.specs.Heap as model
use Rattle.lua_code.specs.declared.function.Capture.{Capture}
use Rattle.lua_code.specs.declared.function.Capture.TheVariants as capture
use Rattle.lua_meaning.specs.State as meaning
use Rattle.lua_meaning.specs.State.{Env, Named, State}
use Rattle.lua_steps.specs.declared.scope.Place.{Place}
use Rattle.lua_steps.specs.declared.scope.Place.TheVariants.{InSlot, InCell, InUp, Hidden}
use Rattle.lua_steps.specs.declared.scope.Known.{Known}
use Rattle.lua_steps.specs.Machine.{Code, Machine, Frame, Closure}
use Rattle.lua_steps.specs.Exec.{captured, captures_of, taken, cell_of}
use Rattle.lua_steps.specs.Scope.{Scope, Shares, Inside}
use Rattle.lua_steps.specs.Serves.{IsBody}
use Rattle.lua_follow.specs.Spot.{AtCell}
use Rattle.lua_follow.specs.Memory.{Homes, Owners, view, Has, HasAll, Sees, Up, Ups, Closes, ClosesAll, Memory}

taken_at : (fr : Frame) (cs : List Capture) (u : ℕ) (c : Capture) → slice_get cs u ≡ Some c → cell_of (map (captured fr) cs) u ≡ captured fr c
taken_at fr cs u c e = ap (λ o. unwrap_or o 0) (slice_get-map (captured fr) cs u ∙ ap (option_map (captured fr)) e)

-- what a function shares is in the cells that it takes
shares_up : (homes : Homes) (owners : Owners) (fr : Frame) (free cells : ℕ) (cs : List Capture) (p q : Place) (l : ℕ) → Shares cs p q → Has homes owners (view fr) free cells p l → Up homes (map (captured fr) cs) q l
shares_up homes owners fr free cells cs p Hidden l s h = tt
shares_up homes owners fr free cells cs (InCell c) (InUp u) l s h = h.1 ∙ ap (λ i. Some (AtCell i)) (sym (taken_at fr cs u (capture.Cell c) s))
shares_up homes owners fr free cells cs (InUp v) (InUp u) l s h = h ∙ ap (λ i. Some (AtCell i)) (sym (taken_at fr cs u (capture.Up v) s))
shares_up homes owners fr free cells cs (InSlot x) (InUp u) l s h = absurd s
shares_up homes owners fr free cells cs Hidden (InUp u) l s h = absurd s
shares_up homes owners fr free cells cs (InSlot x) (InSlot y) l s h = absurd s
shares_up homes owners fr free cells cs (InSlot x) (InCell y) l s h = absurd s
shares_up homes owners fr free cells cs (InCell x) (InSlot y) l s h = absurd s
shares_up homes owners fr free cells cs (InCell x) (InCell y) l s h = absurd s
shares_up homes owners fr free cells cs (InUp x) (InSlot y) l s h = absurd s
shares_up homes owners fr free cells cs (InUp x) (InCell y) l s h = absurd s
shares_up homes owners fr free cells cs Hidden (InSlot y) l s h = absurd s
shares_up homes owners fr free cells cs Hidden (InCell y) l s h = absurd s

inside_ups : (homes : Homes) (owners : Owners) (fr : Frame) (free cells : ℕ) (cs : List Capture) (ns is : List Known) (ks : List Named) → Inside cs ns is → HasAll homes owners (view fr) free cells ns ks → Ups homes (map (captured fr) cs) is ks
inside_ups homes owners fr free cells cs [] [] [] s h = tt
inside_ups homes owners fr free cells cs [] [] (k ∷ ks) s h = absurd h
inside_ups homes owners fr free cells cs [] (i ∷ is) ks s h = absurd s
inside_ups homes owners fr free cells cs (n ∷ ns) [] ks s h = absurd s
inside_ups homes owners fr free cells cs (n ∷ ns) (i ∷ is) [] s h = absurd h
inside_ups homes owners fr free cells cs (n ∷ ns) (i ∷ is) (k ∷ ks) s h =
    (s.0 ∙ h.0, shares_up homes owners fr free cells cs n.place i.place k.location s.1 h.1, inside_ups homes owners fr free cells cs ns is ks s.2 h.2)

closes_body : (code : Code) (homes : Homes) (owners : Owners) (fr : Frame) (sc : Scope) (env : Env) (g : ℕ) (b : Body) → Sees homes owners (view fr) sc env → IsBody code g sc.names b
    → Closes code homes (record { function = g; cells = taken code g fr }) (record { body = b; env = env })
closes_body code homes owners fr sc env g (body xs dots b) sees (r, is, params, has, inner, inside, pay, pays, declares) =
    record {
      names = inner;
      begins = (r, is, params, has, pay, pays, declares);
      ups = subst (λ o. Ups homes (map (captured fr) (captures_of o)) inner env.locals) (sym is) (inside_ups homes owners fr sc.free sc.cells r.captures sc.names inner env.locals inside sees.names);
    }

closes_append : (code : Code) (homes : Homes) (ms : List Closure) (cs : List meaning.Closure) (m : Closure) (c : meaning.Closure) → ClosesAll code homes ms cs → Closes code homes m c → ClosesAll code homes (ms ++ m ∷ []) (cs ++ c ∷ [])
closes_append code homes [] [] m c h x = (x, tt)
closes_append code homes [] (d ∷ cs) m c h x = absurd h
closes_append code homes (n ∷ ms) [] m c h x = absurd h
closes_append code homes (n ∷ ms) (d ∷ cs) m c h x = (h.0, closes_append code homes ms cs m c h.1 x)

pub closes_length : (code : Code) (homes : Homes) (ms : List Closure) (cs : List meaning.Closure) → ClosesAll code homes ms cs → length ms ≡ length cs
closes_length code homes [] [] h = refl
closes_length code homes [] (d ∷ cs) h = absurd h
closes_length code homes (n ∷ ms) [] h = absurd h
closes_length code homes (n ∷ ms) (d ∷ cs) h = ap (λ i. suc i) (closes_length code homes ms cs h.1)

-- ---- both with the closure
abbrev pub with_closure : Code → ℕ → model.Heap → Machine → Machine
with_closure code g x m = record m { closures = m.closures ++ record { function = g; cells = taken code g m.top } ∷ []; aside = record m.aside { heap = x } }

abbrev pub and_closure : Body → Env → model.Heap → State → State
and_closure b env x s = record s { closures = s.closures ++ record { body = b; env = env } ∷ []; aside = record s.aside { heap = x } }

pub memory_closure : (code : Code) (homes : Homes) (owners : Owners) (m : Machine) (s : State) (sc : Scope) (env : Env) (g : ℕ) (b : Body) (x : model.Heap) (end but : ℕ) → Sees homes owners (view m.top) sc env → IsBody code g sc.names b
    → Memory code homes owners m.row m.cells m.closures s.store s.closures end but
    → Memory code homes owners m.row m.cells (with_closure code g x m).closures s.store (and_closure b env x s).closures end but
memory_closure code homes owners m s sc env g b x end but sees is h =
    record { homed = h.homed; rows = h.rows; cells = h.cells; closures = closes_append code homes m.closures s.closures _ _ h.closures (closes_body code homes owners m.top sc env g b sees is) }
