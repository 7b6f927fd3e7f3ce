use Rattle.std.proofs.Common.{◌≡◌, ◌∙◌, sym, ap, refl, subst, List, ℕ, Some, Vec, Global}
use Rattle.std.specs.Prelude.{map, position}
use Rattle.lua_model.specs.Texts.{Texts, number_of, with_text}
use Rattle.lua_heap.proofs.TextsLemmas.{found, added, number-place, is_it}
use Rattle.lua_heap.proofs.texts.Texts.number.Goals as goal

abbrev items_of : Vec ℕ Global → List ℕ
items_of v = v.items

pub returns-in-Some-clause-value : goal.returns-in-Some-clause-value
returns-in-Some-clause-value c =
    let here : position (is_it items_of c.args.bytes.now) c.self.inside.set.keys ≡ Some c.in-Some.place = sym c.in-Some.ensures.index in
    (found items_of c.args.bytes.now c.self.inside.set.keys c.in-Some.place here).0
    ∙ ap (λ (ts : Texts). number_of ts c.args.bytes.now) c.self.view_is

pub returns-in-Some-clause-ok : goal.returns-in-Some-clause-ok
returns-in-Some-clause-ok c =
    let here : position (is_it items_of c.args.bytes.now) c.self.inside.set.keys ≡ Some c.in-Some.place = sym c.in-Some.ensures.index in
    subst (λ (ts : Texts). ts ≡ with_text ts c.args.bytes.now) c.self.view_is
    (sym (found items_of c.args.bytes.now c.self.inside.set.keys c.in-Some.place here).1)

pub returns-clause-value : goal.returns-clause-value
returns-clause-value c =
    c.in_ok-place.ensures.index
    ∙ number-place items_of (c.in_ok-text.text.items) c.self.inside.set.keys
    ∙ ap (λ (ts : Texts). number_of ts c.in_ok-text.text.items) c.self.view_is
    ∙ ap (λ (b : List ℕ). number_of c.args.self.now b) c.in_ok-text.ensures.items

pub returns-clause-ok : goal.returns-clause-ok
returns-clause-ok c =
    ap (λ (ks : List (Vec ℕ Global)). map items_of ks) c.in_ok-place.ensures.keys
    ∙ added items_of (c.in_ok-text.text.items) c.self.inside.set.keys c.in_ok-text.text refl
    ∙ ap (λ (ts : Texts). with_text ts c.in_ok-text.text.items) c.self.view_is
    ∙ ap (λ (b : List ℕ). with_text c.args.self.now b) c.in_ok-text.ensures.items
