use Rattle.std.proofs.Common.{ℕ, List, sym, ap, ◌∙◌}
use Rattle.lua_value.specs.declared.value.Value.{Value}
use Rattle.lua_steps.specs.Machine as steps
use Rattle.lua_steps.specs.Moves.{made, raised, fail}
use Rattle.lua_machine.specs.declared.state.Made.{Made}
use Rattle.lua_machine.specs.Views.{made_as}
use Rattle.lua_machine.proofs.state.State.raise_made.Goals as goal

pub returns-in-Text : goal.returns-in-Text
returns-in-Text c = ap (λ (bs : List ℕ). made bs c.args.self.now (λ (v : Value) (t : steps.Machine). raised v t)) (sym c.as_slice.ensures) ∙ c.in_ok-text.ensures.is (λ (v : Value) (t : steps.Machine). raised v t) ∙ ap (λ (x : Made). made_as x c.make.new.self (λ (v : Value) (t : steps.Machine). raised v t)) c.in-Text.is ∙ ap (λ (rs : List steps.Resumer). fail rs c.in-Text.text c.make.new.self) c.in_ok-text.ensures.alone

pub returns-in-Budget : goal.returns-in-Budget
returns-in-Budget c = ap (λ (bs : List ℕ). made bs c.args.self.now (λ (v : Value) (t : steps.Machine). raised v t)) (sym c.as_slice.ensures) ∙ c.in_ok-text.ensures.is (λ (v : Value) (t : steps.Machine). raised v t) ∙ ap (λ (x : Made). made_as x c.make.new.self (λ (v : Value) (t : steps.Machine). raised v t)) c.in-Budget.is

pub returns-in-HeapFull : goal.returns-in-HeapFull
returns-in-HeapFull c = ap (λ (bs : List ℕ). made bs c.args.self.now (λ (v : Value) (t : steps.Machine). raised v t)) (sym c.as_slice.ensures) ∙ c.in_ok-text.ensures.is (λ (v : Value) (t : steps.Machine). raised v t) ∙ ap (λ (x : Made). made_as x c.make.new.self (λ (v : Value) (t : steps.Machine). raised v t)) c.in-HeapFull.is
