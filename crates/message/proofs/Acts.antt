-- What shows that an agent acts, and how.
use Rattle.std.proofs.Common.{inl, inr, ◌≡◌, List, [], ◌∷◌, Option, Some, None, refl, ap, sym, ◌∙◌, subst}
use Rattle.message.specs.Actors.{Way}
use Rattle.message.specs.Steps.{Op, Agent, PlaceState, IsOne, ops, place_of, does}
use Rattle.message.specs.Worlds.{World, agent, place, act, act_by, first_of, does_op, either_of, done_in, answer_at, left_by}
use Rattle.sk_types.specs.declared.number.Handle.{Handle}
use Rattle.message.specs.declared.record.What.{What}

-- what the place answers is done
pub op_done : {S : Type 0} (way : Way S) (w : World S) (h : Handle) (a : Agent S) (op : Op) (p : PlaceState) (d : What × PlaceState)
    → place w (place_of h op) ≡ Some p → does way h op p ≡ Some d → does_op way w h a op ≡ Some (d.0, left_by way w h a (place_of h op) d)
op_done way w h a op p d there can =
    let e : answer_at way h op (place w (place_of h op)) ≡ Some d = ap (answer_at way h op) there ∙ can in
    ap (done_in way w h a (place_of h op)) e

-- what the place refuses, or no place, is not done
pub op_refused : {S : Type 0} (way : Way S) (w : World S) (h : Handle) (a : Agent S) (op : Op)
    → answer_at way h op (place w (place_of h op)) ≡ None → does_op way w h a op ≡ None
op_refused way w h a op bar = ap (done_in way w h a (place_of h op)) bar

-- the first thing that the agent may do is possible
pub act_first : {S : Type 0} (way : Way S) (w : World S) (h : Handle) (a : Agent S) (op : Op) (more : List Op) (p : PlaceState) (d : What × PlaceState)
    → agent w h ≡ Some a → ops way a ≡ op ∷ more → place w (place_of h op) ≡ Some p → does way h op p ≡ Some d
    → act way w h ≡ Some (d.0, left_by way w h a (place_of h op) d)
act_first way w h a op more p d is may there can =
    ap (act_by way w h) is ∙ (ap (first_of way w h a) may ∙ ap (λ r. either_of r (first_of way w h a more)) (op_done way w h a op p d there can))

-- the second is, where the first is not
pub act_second : {S : Type 0} (way : Way S) (w : World S) (h : Handle) (a : Agent S) (skip op : Op) (p : PlaceState) (d : What × PlaceState)
    → agent w h ≡ Some a → ops way a ≡ skip ∷ op ∷ [] → answer_at way h skip (place w (place_of h skip)) ≡ None
    → place w (place_of h op) ≡ Some p → does way h op p ≡ Some d
    → act way w h ≡ Some (d.0, left_by way w h a (place_of h op) d)
act_second way w h a skip op p d is may refused there can =
    ap (act_by way w h) is
    ∙ (ap (first_of way w h a) may
    ∙ (ap (λ r. either_of r (first_of way w h a (op ∷ []))) (op_refused way w h a skip refused)
    ∙ ap (λ r. either_of r None) (op_done way w h a op p d there can)))

-- nothing is possible
pub act_none : {S : Type 0} (way : Way S) (w : World S) (h : Handle) (a : Agent S) (op : Op)
    → agent w h ≡ Some a → ops way a ≡ op ∷ [] → answer_at way h op (place w (place_of h op)) ≡ None → act way w h ≡ None
act_none way w h a op is may bar =
    ap (act_by way w h) is ∙ (ap (first_of way w h a) may ∙ ap (λ r. either_of r None) (op_refused way w h a op bar))

pub act_nothing : {S : Type 0} (way : Way S) (w : World S) (h : Handle) (a : Agent S) → agent w h ≡ Some a → ops way a ≡ [] → act way w h ≡ None
act_nothing way w h a is may = ap (act_by way w h) is ∙ ap (first_of way w h a) may

-- neither of the two is
pub act_neither : {S : Type 0} (way : Way S) (w : World S) (h : Handle) (a : Agent S) (one two : Op)
    → agent w h ≡ Some a → ops way a ≡ one ∷ two ∷ [] → answer_at way h one (place w (place_of h one)) ≡ None → answer_at way h two (place w (place_of h two)) ≡ None → act way w h ≡ None
act_neither way w h a one two is may bar bar2 =
    ap (act_by way w h) is
    ∙ (ap (first_of way w h a) may
    ∙ (ap (λ r. either_of r (first_of way w h a (two ∷ []))) (op_refused way w h a one bar)
    ∙ ap (λ r. either_of r None) (op_refused way w h a two bar2)))

-- there is no such agent
pub act_nobody : {S : Type 0} (way : Way S) (w : World S) (h : Handle) → agent w h ≡ None → act way w h ≡ None
act_nobody way w h is = ap (act_by way w h) is

-- THE OTHER WAY: what an act was

-- how agent h came to do r.0, and the world then
pub record IsAct {S : Type 0} (way : Way S) (w : World S) (h : Handle) (r : What × World S) : Type 0 where
  pub who : Agent S
  pub op : Op
  pub state : PlaceState
  pub did : What × PlaceState
  pub there : agent w h ≡ Some who
  pub may : IsOne op (ops way who)
  pub found : place w (place_of h op) ≡ Some state
  pub can : does way h op state ≡ Some did
  pub same : r ≡ (did.0, left_by way w h who (place_of h op) did)

did_of : {S : Type 0} (way : Way S) (w : World S) (h : Handle) (a : Agent S) (op : Op) (all : List Op) (r : What × World S) → IsOne op all → agent w h ≡ Some a → ops way a ≡ all
    → (p : PlaceState) → place w (place_of h op) ≡ Some p → (q : Option (What × PlaceState)) → does way h op p ≡ q → done_in way w h a (place_of h op) q ≡ Some r → IsAct way w h r
did_of way w h a op all r one there is p found None can e = absurd (cc)
did_of way w h a op all r one there is p found (Some d) can e =
    record { who = a; op = op; state = p; did = d; there = there; may = subst (IsOne op) (sym is) one; found = found; can = can; same = cc }

found_of : {S : Type 0} (way : Way S) (w : World S) (h : Handle) (a : Agent S) (op : Op) (all : List Op) (r : What × World S) → IsOne op all → agent w h ≡ Some a → ops way a ≡ all
    → (p : Option PlaceState) → place w (place_of h op) ≡ p → done_in way w h a (place_of h op) (answer_at way h op p) ≡ Some r → IsAct way w h r
found_of way w h a op all r one there is None found e = absurd (cc)
found_of way w h a op all r one there is (Some p) found e = did_of way w h a op all r one there is p found (does way h op p) refl e

first_inv : {S : Type 0} (way : Way S) (w : World S) (h : Handle) (a : Agent S) (all : List Op) (r : What × World S) → agent w h ≡ Some a → ops way a ≡ all
    → (part : List Op) → ((op : Op) → IsOne op part → IsOne op all) → first_of way w h a part ≡ Some r → IsAct way w h r
first_inv way w h a all r there is [] inside e = absurd (cc)
first_inv {S = S} way w h a all r there is (op ∷ more) inside e = step (first_inv way w h a all r there is more (λ o one. inside o (inr one))) (does_op way w h a op) refl e where
  step : (first_of way w h a more ≡ Some r → IsAct way w h r) → (q : Option (What × World S)) → does_op way w h a op ≡ q → either_of q (first_of way w h a more) ≡ Some r → IsAct way w h r
  step later None eq e2 = later e2
  step later (Some r2) eq e2 = found_of way w h a op all r (inside op (inl refl)) there is (place w (place_of h op)) refl (eq ∙ e2)

act_by_inv : {S : Type 0} (way : Way S) (w : World S) (h : Handle) (r : What × World S) (a : Option (Agent S)) → agent w h ≡ a → act_by way w h a ≡ Some r → IsAct way w h r
act_by_inv way w h r None there e = absurd (cc)
act_by_inv way w h r (Some a) there e = first_inv way w h a (ops way a) r there refl (ops way a) (λ op one. one) e

pub act_inv : {S : Type 0} (way : Way S) (w : World S) (h : Handle) (r : What × World S) → act way w h ≡ Some r → IsAct way w h r
act_inv way w h r e = act_by_inv way w h r (agent w h) refl e
