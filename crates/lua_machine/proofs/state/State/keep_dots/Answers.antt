use Rattle.std.proofs.Common.{rules, ◌≡◌, ℕ, ◌+◌, ◌-◌, Bool, true, List, [], ◌∷◌, ◌++◌, sym, ap, ◌∙◌}
use Rattle.lua_value.specs.declared.value.Value.{Value}
use Rattle.lua_steps.specs.Machine as steps
use Rattle.lua_steps.specs.Moves.{values_from}
use Rattle.lua_steps.specs.Calls.{rest_of}
use Rattle.lua_machine.proofs.InPlaceLemmas.{values_after}
use Rattle.lua_machine.proofs.state.State.keep_dots.Goals as goal

pub returns : goal.returns
returns c =
    let m = c.args.self.now in
    let here = c.self.inside in
    let shape = c.args.shape in
    let p = shape.params in
    let s = c.args.args.from in
    let n = c.args.args.count in
    let rest : List Value = rest_of shape.has_dots p (values_from m.row s n) in
    let top = c.top.view_is ∙ c.top_mut-top.ensures.value ∙ ap (λ (x : steps.Machine). x.top) c.self.view_is in
    let none : c.top.inside.dots ≡ [] = ap (λ (x : steps.Frame). x.dots) top ∙ c.requires.none in
    let dots : shape.has_dots ≡ true = search rules in
    let kept : c.push_span.new.list ≡ rest =
    c.in_ok-push_span.ensures
    ∙ ap (λ (xs : List Value). c.top.inside.dots ++ values_from xs (s + p) c.saturating_sub.result) c.as_slice.ensures.value
    ∙ ap (λ (xs : List Value). xs ++ values_from here.row.items (s + p) c.saturating_sub.result) none
    ∙ ap (λ (k : ℕ). values_from here.row.items (s + p) k) c.saturating_sub.ensures
    ∙ ap (λ (x : steps.Machine). values_from x.row (s + p) (n - p)) c.self.view_is
    ∙ sym (values_after m.row p n s)
    ∙ ap (λ (b : Bool). rest_of b p (values_from m.row s n)) (sym dots) in
    let inside : steps.Frame → List Value → steps.Machine = λ f vs.
    record {
      top = record f { dots = vs };
      below = here.stack.below;
      row = here.row.items;
      cells = here.heap.cells;
      closures = here.heap.closures;
      left = here.left;
      aside = record { name = here.name; heap = here.heap.shared; running = 0; resumers = []; threads = steps.Busy ∷ [] };
    } in
    ap (λ (f : steps.Frame). inside f c.push_span.new.list) top
    ∙ ap (λ (vs : List Value). inside m.top vs) kept
    ∙ ap (λ (x : steps.Machine). record x { top = record m.top { dots = rest } }) c.self.view_is
