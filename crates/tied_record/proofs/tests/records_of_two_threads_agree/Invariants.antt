use Rattle.tied_record.proofs.tests.records_of_two_threads_agree.Given as goal

abbrev pub ghosts-two_agents : goal.ghosts-two_agents
ghosts-two_agents a b = record { table = b.tie.now }
