-- A block whose first tick an operation pays is served where that tick was paid in advance.
use Rattle.std.proofs.Common.{ℕ, suc, ◌+◌, inl, sym, subst, List, Option, Some, None}
use Rattle.lua_tree.specs.Source as source
use Rattle.lua_tree.specs.Source.{Text, Block, Plain, Returns, Stats, NoStat, MoreStats, Stat}
use Rattle.lua_meaning.specs.Statements.{variables}
use Rattle.lua_code.specs.declared.op.Op.TheVariants as op
use Rattle.lua_steps.specs.Machine.{Code}
use Rattle.lua_steps.specs.Scope.{Scope}
use Rattle.lua_steps.specs.Stand.{At, WhereSome}
use Rattle.lua_steps.specs.Serves.{IsStat, IsStats, IsBlock}
use Rattle.lua_compile.specs.Forms.{prepay}
use Rattle.lua_compile.proofs.Final.{Pays}

where_some : (o : Option (List Text)) (P Q : List Text → Type 0) → ((xs : List Text) → P xs → Q xs) → WhereSome o P → WhereSome o Q
where_some None P Q go h = h
where_some (Some xs) P Q go h = go xs h

stat_ticked : (code : Code) (f : ℕ) (sc : Scope) (t : Stat) (k b : ℕ) (X : ℕ → Type 0) (K : Scope → ℕ → Type 0) → At code f b (op.Tick (suc k)) → IsStat code f sc t (suc k) (b + 1) X K → IsStat code f sc t 0 b X K
stat_ticked code f sc (source.Assign ts es) k b X K at h = where_some (variables ts) _ _ (λ xs g. inl (k, at, g)) h
stat_ticked code f sc (source.Invoke e) k b X K at h = inl (k, at, h)
stat_ticked code f sc source.Break k b X K at h = inl (k, at, h)
stat_ticked code f sc (source.Do p) k b X K at h = inl (k, at, h)
stat_ticked code f sc (source.While e p) k b X K at h = inl (k, at, h)
stat_ticked code f sc (source.Repeat p e) k b X K at h = inl (k, at, h)
stat_ticked code f sc (source.If e p others) k b X K at h = inl (k, at, h)
stat_ticked code f sc (source.Numeric x first limit p line) k b X K at h = inl (k, at, h)
stat_ticked code f sc (source.NumericBy x first limit step p line) k b X K at h = inl (k, at, h)
stat_ticked code f sc (source.Generic xs es p line) k b X K at h = inl (k, at, h)
stat_ticked code f sc (source.Local xs es) k b X K at h = inl (k, at, h)
stat_ticked code f sc (source.LocalFunction x p) k b X K at h = inl (k, at, h)

more_ticked : (code : Code) (f : ℕ) (sc : Scope) (t : Stat) (ts : Stats) (b c : ℕ) (X : ℕ → Type 0) (K : Scope → ℕ → Type 0) → Pays code f 1 b c → IsStats code f sc (MoreStats t ts) 1 c X K → IsStats code f sc (MoreStats t ts) 0 b X K
more_ticked code f sc t ts b c X K pays h =
    stat_ticked code f sc t 0 b X _ pays.0 (subst (λ a. IsStats code f sc (MoreStats t ts) 1 a X K) (sym pays.1) h)

pub block_ticked : (code : Code) (f : ℕ) (sc : Scope) (p : Block) (b c : ℕ) (X : ℕ → Type 0) (K : Scope → ℕ → Type 0) → Pays code f (prepay p) b c → IsBlock code f sc p (prepay p) c X K → IsBlock code f sc p 0 b X K
block_ticked code f sc (Plain NoStat) b c X K pays h = subst (λ a. IsBlock code f sc (Plain NoStat) 0 a X K) (sym pays) h
block_ticked code f sc (Plain (MoreStats t ts)) b c X K pays h = more_ticked code f sc t ts b c X _ pays h
block_ticked code f sc (Returns NoStat es) b c X K pays h = subst (λ a. IsBlock code f sc (Returns NoStat es) 0 a X K) (sym pays) h
block_ticked code f sc (Returns (MoreStats t ts) es) b c X K pays h = more_ticked code f sc t ts b c X _ pays h
