-- Which code serves which term (the terms are those of the manual, sections 3.3 and 3.4).
--
-- A relation says what stands in function f from place a on: code for a term, whose scope is sc; the slots from d on are free, and all below
-- are kept. After it comes a place of which R holds, so that R says what follows. `and`, `or` and tests have more than one such place.
use Rattle.std.specs.Prelude.{◌≡◌, ℕ, zero, suc, ◌+◌, ◌-◌, ◌⊎◌, true, false, List, [], length, Some, slice_get, pos}
use Rattle.lua_tree.specs.Source as source
use Rattle.lua_tree.specs.Source.{Text, Block, Plain, Returns, Stats, NoStat, MoreStats, Stat, Branches, NoElse, Else, Elseif, Exps, NoExp, MoreExps, Exp, Operands, NoOperand, MoreOperands, Suffixes, NoSuffix, MoreSuffixes, Body, body}
use Rattle.lua_meaning.specs.Values.{link_of, unary_of}
use Rattle.lua_meaning.specs.Statements.{variables}
use Rattle.lua_code.specs.declared.function.Constant.TheVariants as constant
use Rattle.lua_code.specs.declared.op.Op.TheVariants as op
use Rattle.lua_code.specs.Routine.{Routine}
use Rattle.lua_steps.specs.Machine.{Code}
use Rattle.lua_steps.specs.Exec.{constant_at}
use Rattle.lua_steps.specs.declared.scope.Known.{Known}
use Rattle.lua_steps.specs.Scope.{Scope, place_of, in_slot, in_cell, Inside}
use Rattle.lua_steps.specs.Stand.{At, AtSome, Leads, Ticks, Tick, IsNils, Target, Into, Anywhere, Decided, Shown, Reg, Imm, Holds, Fails, register, WhereAnywhere, WhereDecided, IsThere, OfReg, IsOperand, Branch, IsGet, IsPut, WhereInSlot, IsDeclares, IsInt, IsBinary, test_op, IsUnary, linked_as, so_far, Want, Count, AsList, AsResult, IsCall, IsWanted, from_slots, from_items, IsNumeric, IsGeneric, IsWrites, WhereSome, WhereOne}

-- ---- what the code asks of trees
-- an expression that gives one value wherever it stands
abbrev pub IsOne : Exp → Type 0
IsOne source.Dots = ⊥
IsOne (source.Suffixed e ss) = ⊥
IsOne _ = Unit {0}

-- a `return` that is no tail call
abbrev pub IsNoTail : Exps → Type 0
IsNoTail (MoreExps (source.Suffixed e ss) NoExp) = ⊥
IsNoTail _ = Unit {0}

-- the slot after a value, of which n are wanted
abbrev pub following : ℕ → ℕ → ℕ
following zero r = r
following (suc n) r = r + 1

-- ---- terms
abbrev mutual
  -- R holds of the next place, and of how the value is shown there
  pub IsExp : Code → ℕ → Scope → Exp → ℕ → ℕ → Target → (ℕ → Shown → Type 0) → Type 0
  IsExp code f sc source.Nil a d t R =
      (At code f a (op.Nil (register t d)) × R (a + 1) (Reg (register t d))) ⊎ WhereDecided t (R a Fails)
  IsExp code f sc source.False a d t R =
      (At code f a (op.Bool (register t d) false) × R (a + 1) (Reg (register t d))) ⊎ WhereDecided t (R a Fails)
  IsExp code f sc source.True a d t R =
      (At code f a (op.Bool (register t d) true) × R (a + 1) (Reg (register t d))) ⊎ WhereDecided t (R a (Holds 0))
  IsExp code f sc (source.Int n) a d t R =
      (IsInt code f a (register t d) n × R (a + 1) (Reg (register t d))) ⊎ WhereAnywhere t (R a (Imm n))
  IsExp code f sc (source.Str bytes) a d t R =
      (i : ℕ) × At code f a (op.Constant (register t d) i) × (constant_at code f i ≡ Some (constant.Text bytes)) × R (a + 1) (Reg (register t d))
  IsExp code f sc source.Dots a d t R = At code f a (op.DotsTo (register t d) 1) × R (a + 1) (Reg (register t d))
  IsExp code f sc (source.Function p) a d t R =
      (g : ℕ) × At code f a (op.Close (register t d) g) × IsBody code g sc.names p × R (a + 1) (Reg (register t d))
  IsExp code f sc (source.Name x) a d t R =
      (IsGet code f a (register t d) (place_of sc.names x) × R (a + 1) (Reg (register t d)))
      ⊎ WhereAnywhere t (WhereInSlot (place_of sc.names x) (λ s. R a (Reg s)))
  IsExp code f sc (source.Paren e) a d t R = IsExp code f sc e a d t R
  IsExp code f sc (source.Table fs) a d t R = ⊥
  IsExp code f sc (source.Suffixed e ss) a d t R =
      (register t d ≡ d) × IsExp code f sc e a d (Into d) (λ b p. IsSuffixes code f sc ss b d (Count 1) (λ c. R c (Reg d)))
  IsExp code f sc (source.Unary o line e) a d t R =
      IsExp code f sc e a d Anywhere (λ b p. IsUnary code f b (unary_of o) t d p line R)
      ⊎ WhereDecided t (IsExp code f sc e a d Decided (λ b p. IsUnary code f b (unary_of o) t d p line R))
  IsExp code f sc (source.Chain e os) a d t R =
      IsExp code f sc e a d Anywhere (λ b p. IsOperands code f sc os b d p t R)
      ⊎ IsExp code f sc e a d (Into d) (λ b p. IsOperands code f sc os b d p t R)
      ⊎ WhereDecided t (IsExp code f sc e a d Decided (λ b p. IsOperands code f sc os b d p t R))

  -- p shows the value so far
  pub IsOperands : Code → ℕ → Scope → Operands → ℕ → ℕ → Shown → Target → (ℕ → Shown → Type 0) → Type 0
  IsOperands code f sc NoOperand a d p t R = IsThere t p × R a p
  IsOperands code f sc (MoreOperands o line e os) a d p t R =
      linked_as (link_of o)
      -- the value that decides is in the first free slot
      (((p ≡ Reg d) × Branch code f a p
      (λ k b. (k ≡ 0) × IsExp code f sc e b d (Into d) (λ c q. IsOperands code f sc os c d q t R))
      (λ b. IsOperands code f sc os b d p t R))
      ⊎ WhereDecided t (Branch code f a p
      (λ k b. (k ≡ 0) × IsExp code f sc e b d Decided (λ c q. IsOperands code f sc os c d q t R))
      (λ b. IsOperands code f sc os b d Fails t R)))
      (((p ≡ Reg d) × Branch code f a p
      (λ k b. IsOperands code f sc os b d p t R)
      (λ b. IsExp code f sc e b d (Into d) (λ c q. IsOperands code f sc os c d q t R)))
      ⊎ WhereDecided t (Branch code f a p
      (λ k b. IsOperands code f sc os b d (Holds k) t R)
      (λ b. IsExp code f sc e b d Decided (λ c q. IsOperands code f sc os c d q t R))))
      (λ u. IsOperand p × IsExp code f sc e a (d + 1) Anywhere (λ b q.
      (IsBinary code f b u (so_far os t d) p q line × IsOperands code f sc os (b + 1) d (Reg (so_far os t d)) t R)
      ⊎ WhereDecided t ((pay z : ℕ) × AtSome code f b (test_op u p q pay z) line
      × Leads code f (b + 1) (λ j. IsOperands code f sc os j d (Holds pay) t R)
      × Leads code f z (λ j. IsOperands code f sc os j d Fails t R))))

  -- the value so far is in slot d
  pub IsSuffixes : Code → ℕ → Scope → Suffixes → ℕ → ℕ → Want → (ℕ → Type 0) → Type 0
  IsSuffixes code f sc NoSuffix a d w R = IsWanted code f a d w R
  IsSuffixes code f sc (MoreSuffixes (source.Call es line) NoSuffix) a d w R =
      IsCall code f a d line w (λ K. IsFixed code f sc es a (d + 1) K) (λ K. IsList code f sc es (a + 2) d K) R
  IsSuffixes code f sc (MoreSuffixes (source.Call es line) (MoreSuffixes x ss)) a d w R =
      IsCall code f a d line (Count 1) (λ K. IsFixed code f sc es a (d + 1) K) (λ K. IsList code f sc es (a + 2) d K)
      (λ b. IsSuffixes code f sc (MoreSuffixes x ss) b d w R)
  IsSuffixes code f sc (MoreSuffixes (source.Index e line) ss) a d w R = ⊥
  IsSuffixes code f sc (MoreSuffixes (source.Method x at es line) ss) a d w R = ⊥

  -- as many values as there are expressions go to the slots from r on; K holds of the next place and the slot after them
  pub IsFixed : Code → ℕ → Scope → Exps → ℕ → ℕ → (ℕ → ℕ → Type 0) → Type 0
  IsFixed code f sc NoExp a r K = K a r
  IsFixed code f sc (MoreExps e NoExp) a r K = IsOne e × IsExp code f sc e a r (Into r) (λ b p. K b (r + 1))
  IsFixed code f sc (MoreExps e (MoreExps g es)) a r K =
      IsExp code f sc e a r (Into r) (λ b p. IsFixed code f sc (MoreExps g es) b (r + 1) K)

  -- n values, cut or filled with nil, go to the slots from r on
  pub IsValues : Code → ℕ → Scope → Exps → ℕ → ℕ → ℕ → (ℕ → Type 0) → Type 0
  IsValues code f sc NoExp n a r R = IsNils code f r n a R
  IsValues code f sc (MoreExps e NoExp) n a r R =
      (IsOne e × IsExp code f sc e a r (Into r) (λ b p. IsNils code f (r + 1) (n - 1) b R)) ⊎ IsMany code f sc e n a r R
  IsValues code f sc (MoreExps e (MoreExps g es)) n a r R =
      IsExp code f sc e a r (Into r) (λ b p. IsValues code f sc (MoreExps g es) (n - 1) b (following n r) R)

  -- the first n values of an expression that may give more than one
  pub IsMany : Code → ℕ → Scope → Exp → ℕ → ℕ → ℕ → (ℕ → Type 0) → Type 0
  IsMany code f sc source.Dots n a r R = At code f a (op.DotsTo r n) × R (a + 1)
  IsMany code f sc (source.Suffixed e ss) n a r R =
      IsExp code f sc e a r (Into r) (λ b p. IsSuffixes code f sc ss b r (Count n) R)
  IsMany code f sc _ n a r R = ⊥

  -- all values go last into the list on top
  pub IsList : Code → ℕ → Scope → Exps → ℕ → ℕ → (ℕ → Type 0) → Type 0
  IsList code f sc NoExp a d R = R a
  IsList code f sc (MoreExps e NoExp) a d R =
      (IsOne e × IsExp code f sc e a d Anywhere (λ b p. OfReg p (λ x. At code f b (op.Push x) × R (b + 1)))) ⊎ IsAll code f sc e a d R
  IsList code f sc (MoreExps e (MoreExps g es)) a d R =
      IsExp code f sc e a d Anywhere (λ b p. OfReg p (λ x. At code f b (op.Push x) × IsList code f sc (MoreExps g es) (b + 1) d R))

  pub IsAll : Code → ℕ → Scope → Exp → ℕ → ℕ → (ℕ → Type 0) → Type 0
  IsAll code f sc source.Dots a d R = At code f a op.Dots × At code f (a + 1) op.Append × R (a + 2)
  IsAll code f sc (source.Suffixed e ss) a d R =
      IsExp code f sc e a d (Into d) (λ b p. IsSuffixes code f sc ss b d AsList (λ c. At code f c op.Append × R (c + 1)))
  IsAll code f sc _ a d R = ⊥

  -- one expression that gives one value
  pub IsOnly : Code → ℕ → Scope → Exps → ℕ → ℕ → Target → (ℕ → Shown → Type 0) → Type 0
  IsOnly code f sc (MoreExps e NoExp) a d t R = IsOne e × IsExp code f sc e a d t R
  IsOnly code f sc _ a d t R = ⊥

  -- a tail call
  pub IsTail : Code → ℕ → Scope → Exps → ℕ → ℕ → Type 0
  IsTail code f sc (MoreExps (source.Suffixed e ss) NoExp) a d =
      IsExp code f sc e a d (Into d) (λ b p. IsSuffixes code f sc ss b d AsResult (λ c. ⊥))
  IsTail code f sc _ a d = ⊥

  -- function g is the body, whose names outside are these
  pub IsBody : Code → ℕ → List Known → Body → Type 0
  IsBody code g names (body xs dots b) =
      (r : Routine) × (slice_get code g ≡ Some r) × (r.shape.params ≡ length xs) × (r.shape.has_dots ≡ dots)
      × (inner : List Known) × Inside r.captures names inner
      × (pay : ℕ) × (r.shape.pay ≡ suc pay)
      × IsDeclares code g (record { names = inner; free = 0; cells = 0 }) xs 0 (λ sc j.
      IsBlock code g sc b pay j (λ z. ⊥) (λ end z. Leads code g z (λ y. (i : ℕ) × At code g y (op.Return i 0))))

  -- k ticks are paid in advance; X says where a `break` leads, and K what comes after the block, in the scope at its end
  pub IsBlock : Code → ℕ → Scope → Block → ℕ → ℕ → (ℕ → Type 0) → (Scope → ℕ → Type 0) → Type 0
  IsBlock code f sc (Plain ts) k a X K = IsStats code f sc ts k a X K
  IsBlock code f sc (Returns ts es) k a X K =
      IsStats code f sc ts k a X (λ inner z.
      IsTail code f inner es z inner.free
      ⊎ IsOnly code f inner es z inner.free Anywhere (λ b p. OfReg p (λ r. At code f b (op.Return r 1)))
      ⊎ IsFixed code f inner es z inner.free (λ b m. (n : ℕ) × (m ≡ inner.free + n) × At code f b (op.Return inner.free n))
      ⊎ (IsNoTail es × At code f z op.Begin × IsList code f inner es (z + 1) inner.free (λ b. At code f b op.ReturnList)))

  pub IsStats : Code → ℕ → Scope → Stats → ℕ → ℕ → (ℕ → Type 0) → (Scope → ℕ → Type 0) → Type 0
  IsStats code f sc NoStat k a X K = (k ≡ 0) × K sc a
  IsStats code f sc (MoreStats t ts) k a X K = IsStat code f sc t k a X (λ next b. IsStats code f next ts 0 b X K)

  -- K says what follows the statement, in the scope after it
  pub IsStat : Code → ℕ → Scope → Stat → ℕ → ℕ → (ℕ → Type 0) → (Scope → ℕ → Type 0) → Type 0
  IsStat code f sc (source.Assign ts es) k a X K =
      WhereSome (variables ts) (λ xs. Tick code f k a (λ b.
      -- the value is made in the slot of the only target
      WhereOne xs (λ x. WhereInSlot (place_of sc.names x) (λ s. IsOnly code f sc es b sc.free (Into s) (λ c p. K sc c)))
      -- or moved to its place
      ⊎ WhereOne xs (λ x. IsOnly code f sc es b sc.free Anywhere (λ c p. OfReg p (λ r. IsPut code f c r (place_of sc.names x) × K sc (c + 1))))
      -- all values are in slots, or in a list
      ⊎ IsValues code f sc es (length xs) b sc.free (λ c. IsWrites code f sc (from_slots xs sc.free []) c (λ z. K sc z))
      ⊎ (At code f b op.Begin × IsList code f sc es (b + 1) sc.free (λ c.
      IsWrites code f sc (from_items xs 0 []) c (λ z. At code f z (op.Spread sc.free 0) × K sc (z + 1))))))
  IsStat code f sc (source.Invoke e) k a X K =
      Tick code f k a (λ b. IsMany code f sc e 0 b sc.free (λ c. K sc c) ⊎ (IsOne e × IsExp code f sc e b sc.free Anywhere (λ c p. K sc c)))
  IsStat code f sc source.Break k a X K = Tick code f k a (λ b. Leads code f b X)
  IsStat code f sc (source.Do p) k a X K = Ticks code f k a (λ n b. IsBlock code f sc p n b X (λ end z. Leads code f z (λ y. K sc y)))
  -- the condition is at c, and the body comes back to it
  IsStat code f sc (source.While e p) k a X K =
      Tick code f k a (λ b. Leads code f b (λ c. IsExp code f sc e c sc.free Decided (λ h q. Branch code f h q
      (λ n j. Ticks code f n j (λ m s. IsBlock code f sc p m s (λ z. Leads code f z (λ y. K sc y)) (λ end z. Leads code f z (λ y. y ≡ c))))
      (λ z. Leads code f z (λ y. K sc y)))))
  -- the body is at s with m ticks paid; its condition sees its locals
  IsStat code f sc (source.Repeat p e) k a X K =
      Ticks code f k a (λ n b. Ticks code f n b (λ m s. IsBlock code f sc p m s (λ z. Leads code f z (λ y. K sc y)) (λ end z.
      IsExp code f end e z end.free Decided (λ h q. Branch code f h q
      (λ i j. (i ≡ 0) × Leads code f j (λ y. K sc y))
      (λ z. Ticks code f 0 z (λ i j. (i ≡ m) × (j ≡ s)))))))
  IsStat code f sc (source.If e p others) k a X K =
      Tick code f k a (λ b. IsExp code f sc e b sc.free Decided (λ h q. Branch code f h q
      (λ n j. IsBlock code f sc p n j X (λ end z. Leads code f z (λ y. K sc y)))
      (λ z. IsElse code f sc others z X K)))
  IsStat code f sc (source.Numeric x first limit p line) k a X K =
      Tick code f k a (λ b. IsExp code f sc first b sc.free (Into sc.free) (λ c q.
      IsExp code f sc limit c (sc.free + 1) (Into (sc.free + 1)) (λ h q'.
      IsInt code f h (sc.free + 2) (pos 1)
      × IsNumeric code f sc x line (h + 1) (λ inner n s end. IsBlock code f inner p n s (λ z. Leads code f z (λ y. K sc y)) (λ _ z. end z)) (λ y. K sc y))))
  IsStat code f sc (source.NumericBy x first limit step p line) k a X K =
      Tick code f k a (λ b. IsExp code f sc first b sc.free (Into sc.free) (λ c q.
      IsExp code f sc limit c (sc.free + 1) (Into (sc.free + 1)) (λ h q'.
      IsExp code f sc step h (sc.free + 2) (Into (sc.free + 2)) (λ i q''.
      IsNumeric code f sc x line i (λ inner n s end. IsBlock code f inner p n s (λ z. Leads code f z (λ y. K sc y)) (λ _ z. end z)) (λ y. K sc y)))))
  IsStat code f sc (source.Generic xs es p line) k a X K =
      Tick code f k a (λ b.
      IsValues code f sc es 3 b sc.free (λ c.
      IsGeneric code f sc xs line c (λ inner n s end. IsBlock code f inner p n s (λ z. Leads code f z (λ y. K sc y)) (λ _ z. end z)) (λ y. K sc y))
      ⊎ (At code f b op.Begin × IsList code f sc es (b + 1) sc.free (λ c. At code f c (op.Spread sc.free 3)
      × IsGeneric code f sc xs line (c + 1) (λ inner n s end. IsBlock code f inner p n s (λ z. Leads code f z (λ y. K sc y)) (λ _ z. end z)) (λ y. K sc y))))
  IsStat code f sc (source.Local xs es) k a X K =
      Tick code f k a (λ b.
      IsValues code f sc es (length xs) b sc.free (λ c. IsDeclares code f sc xs c K)
      ⊎ (At code f b op.Begin × IsList code f sc es (b + 1) sc.free (λ c. At code f c (op.Spread sc.free (length xs)) × IsDeclares code f sc xs (c + 1) K)))
  -- the name is in scope in the body
  IsStat code f sc (source.LocalFunction x p) k a X K =
      Tick code f k a (λ b. (g : ℕ)
      × ((At code f b (op.Close sc.free g) × IsBody code g (in_slot x sc).names p × K (in_slot x sc) (b + 1))
      ⊎ (At code f b (op.CloseCell sc.cells g) × IsBody code g (in_cell x sc).names p × K (in_cell x sc) (b + 1))))

  pub IsElse : Code → ℕ → Scope → Branches → ℕ → (ℕ → Type 0) → (Scope → ℕ → Type 0) → Type 0
  IsElse code f sc NoElse a X K = K sc a
  IsElse code f sc (Else p) a X K = IsBlock code f sc p 0 a X (λ end z. Leads code f z (λ y. K sc y))
  IsElse code f sc (Elseif e p others) a X K =
      IsExp code f sc e a sc.free Decided (λ h q. Branch code f h q
      (λ n j. IsBlock code f sc p n j X (λ end z. Leads code f z (λ y. K sc y)))
      (λ z. IsElse code f sc others z X K))

-- the code serves the chunk
pub record Serves (code : Code) (chunk : Block) : Type 0 where
  -- a thread begins in the first function
  pub append : At code 0 0 op.Append
  pub start : At code 0 1 op.Start
  pub return : At code 0 2 op.ReturnList
  -- and the chunk is the last one
  pub main : IsBody code (length code - 1) [] (body [] true chunk)
