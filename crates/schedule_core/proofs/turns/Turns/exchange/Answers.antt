use Rattle.schedule_core.proofs.Placed.{exchanges}
use Rattle.schedule_core.proofs.turns.Turns.exchange.Goals as goal

pub returns : goal.returns
returns c = exchanges c.args.self.now.turns c.send_last.new.self.turns c.fetch.new.self.turns c.args.worker c.args.own c.fetch.result c.requires.has c.requires.waits c.send_last.ensures c.fetch.ensures.done c.fetch.ensures.none
