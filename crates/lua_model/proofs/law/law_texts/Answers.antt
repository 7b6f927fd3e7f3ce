use Rattle.lua_model.proofs.TextLemmas.{numbers}
use Rattle.lua_model.proofs.law.law_texts.Goals as goal

pub returns : goal.returns
returns c = numbers
