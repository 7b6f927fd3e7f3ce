use Rattle.lua_machine.proofs.CallLemmas.{calls_refused}
use Rattle.lua_machine.proofs.state.State.call.Goals as goal

pub returns-in_default : goal.returns-in_default
returns-in_default c =
    rw (calls_refused c.args.code.now c.args.line c.args.called c.args.args c.args.base _ c.args.self.now c.in_default.not-Func c.in_default.not-Native) c.refuse.ensures
