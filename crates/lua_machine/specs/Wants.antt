-- What a frame waits for, as contracts see it.
use Rattle.lua_steps.specs.Machine as steps
use Rattle.lua_machine.specs.declared.frame.Wanted.{Wanted}
use Rattle.lua_machine.specs.declared.frame.Wanted.TheVariants as wanted

abbrev pub wanted_of : Wanted → steps.Wanted
wanted_of (wanted.InSlots to count) = steps.InSlots to count
wanted_of wanted.OnTop = steps.OnTop
