use Rattle.std.proofs.Common.{◌≡◌, drop}
use Rattle.lua_compile.specs.Writer.{all_known, declare_all}
use Rattle.lua_compile.proofs.writer.Writer.declare_all.Given as goal

abbrev pub invariant-loop-x : goal.invariant-loop-x
invariant-loop-x l =
    record {
      writer : declare_all (drop l.x-index l.xs) l.scope l.self ≡ declare_all l.xs l.fn.scope l.fn.self;
      scope : all_known (drop l.x-index l.xs) l.scope l.self.flags l.self.locals ≡ all_known l.xs l.fn.scope l.fn.self.flags l.fn.self.locals;
    }
