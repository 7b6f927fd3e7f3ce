use Rattle.std.proofs.Common.{ap, ◌∙◌}
use Rattle.message.specs.Registries.{does_name}
use Rattle.world_machine.specs.Opening.{first_handle, second_handle}
use Rattle.world_machine.proofs.FirstNames.{opening_is}
use Rattle.world_machine.proofs.opening.opening_registry.Goals as goal

pub returns : goal.returns
returns c =
    opening_is c.new-registry.result c.register.new.self c.register-2.new.self c.register-3.new.self c.name.new.self c.name-2.new.self c.in_ok-register.field-0 c.in_ok-register-2.field-0 c.in_ok-register-3.field-0
    c.new-registry.ensures.listed c.new-registry.ensures.named c.in_ok-register.ensures.ok c.in_ok-register-2.ensures.ok c.in_ok-register-3.ensures.ok
    (c.in_ok-name.ensures.ok.1 ∙ ap (λ t. (does_name c.register-3.new.self t second_handle).1) c.in_ok-launcher.ensures)
    (c.in_ok-name-2.ensures.ok.1 ∙ ap (λ t. (does_name c.name.new.self t first_handle).1) c.in_ok-logger.ensures)
