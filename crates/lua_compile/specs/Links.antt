-- How an operator comes to its value (manual, sections 3.4.1 to 3.4.5), as the code names it.
use Rattle.lua_meaning.specs.Values as meaning
use Rattle.lua_compile.specs.declared.aim.Link.{Link}
use Rattle.lua_compile.specs.declared.aim.Link.TheVariants.{Both, Either, Strict}

abbrev pub link_in : Link → meaning.Link
link_in Both = meaning.Both
link_in Either = meaning.Either
link_in (Strict op) = meaning.Strict op
