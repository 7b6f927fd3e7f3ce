use Rattle.lua_grammar.proofs.Read.{fits_law, dead_law}
use Rattle.lua_grammar.proofs.laws.fits_where_viable.Goals as goal

pub returns-clause-fits : goal.returns-clause-fits
returns-clause-fits c = fits_law

pub returns-clause-dead : goal.returns-clause-dead
returns-clause-dead c = dead_law
