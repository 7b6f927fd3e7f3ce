-- What the forms of code keep.
use Rattle.std.proofs.Common.{◌≡◌, ℕ, zero, suc, ◌+◌, refl, List, [], ◌∷◌, length, Option, Some, None, Bool, true, false}
use Rattle.std.specs.Prelude.{slice_get, ◌||◌, if◌then◌else◌, ltb, ◌&&◌, ℤ}
use Rattle.lua_tree.specs.Source.{Text, Suffixes, NoSuffix, MoreSuffixes, Operands, NoOperand, MoreOperands, Branches, NoElse, Else, Elseif}
use Rattle.lua_model.specs.declared.operator.Binary.{Binary}
use Rattle.lua_model.specs.declared.operator.Unary.{Unary}
use Rattle.lua_model.specs.declared.operator.Unary.TheVariants as unary
use Rattle.lua_meaning.specs.Values.{Link, Both, Either, Strict}
use Rattle.lua_code.specs.declared.function.Constant.{Constant}
use Rattle.lua_code.specs.declared.function.Constant.TheVariants as constant
use Rattle.lua_code.specs.declared.op.Op.{Op}
use Rattle.lua_code.specs.declared.op.Op.TheVariants as op
use Rattle.lua_code.specs.Routine.{Routine}
use Rattle.lua_steps.specs.declared.scope.Place.{Place}
use Rattle.lua_steps.specs.declared.scope.Place.TheVariants.{InSlot, InCell, InUp, Hidden}
use Rattle.lua_steps.specs.declared.scope.Known.{Known}
use Rattle.lua_steps.specs.Scope.{Scope, place_of}
use Rattle.lua_steps.specs.Stand.{Write, Origin, FromSlot, FromItem, short_op, int_op, test_op}
use Rattle.lua_compile.specs.declared.aim.Aim.{Aim}
use Rattle.lua_compile.specs.declared.aim.Aim.TheVariants.{Into, Anywhere, Unless}
use Rattle.lua_compile.specs.declared.aim.Operand.{Operand}
use Rattle.lua_compile.specs.declared.aim.Operand.TheVariants.{Slot, Constant as Held}
use Rattle.lua_compile.specs.declared.aim.Want.{Want}
use Rattle.lua_compile.specs.declared.aim.Want.TheVariants as want
use Rattle.lua_compile.specs.Writer.{Writer, emit, put, labelled, with_constant, lost_if, counted, done, resumed, declare, declare_all, known, flag}
use Rattle.lua_compile.specs.Forms.{register, paid_here, settled, int_written, int_aimed, has_room, true_written, slot_written, name_written, stored, from, stores_written, nils_written, on_slot, some_written, or_else, shown_of, differ, binary_written, test_written, unary_slot, last_settled, linked, called, called_list, wanted_written, where_none, ticked, ticked_more, ticked_twice, with_targets, directly, jumped, where_else}
use Rattle.lua_compile.proofs.Kept.{Kept, kept_then, kept_emit, kept_labelled, get_front}

-- w stands in v
abbrev pub K : Writer → Writer → Type 0
K w v = Kept 0 w v

pub k_emit : (w v : Writer) (o : Op) (line : ℕ) → K w v → K w (emit o line v)
k_emit w v o line a = kept_then 0 w v (emit o line v) a (kept_emit 0 o line v)

pub k_put : (w v : Writer) (o : Op) → K w v → K w (put o v)
k_put w v o a = k_emit w v o 0 a

pub k_labelled : (w v : Writer) → K w v → K w (labelled v)
k_labelled w v a = kept_then 0 w v (labelled v) a (kept_labelled 0 v)

pub k_constant : (w v : Writer) (c : Constant) → K w v → K w (with_constant c v)
k_constant w v c a =
    record {
      ops = a.ops;
      lines = a.lines;
      constants = λ k b e. get_front v.draft.constants (c ∷ []) k b (a.constants k b e);
      made = a.made;
      labels = a.labels;
      more = a.more;
      found = a.found;
      level = λ l. record { ops = (a.level l).ops; lines = (a.level l).lines };
      at = a.at;
      slots = a.slots;
      cells = a.cells;
      captures = a.captures;
      params = a.params;
      dots = a.dots;
      pay = a.pay;
    }

pub or_false : (a b : Bool) → (a || b) ≡ false → a ≡ false
or_false false b e = refl
or_false true b e = e

pub k_lost : (w v : Writer) (b : Bool) → K w v → K w (lost_if b v)
k_lost w v b a =
    record {
      ops = a.ops;
      lines = a.lines;
      constants = a.constants;
      made = a.made;
      labels = a.labels;
      more = a.more;
      found = λ e. a.found (or_false v.lost b e);
      level = λ l. record { ops = (a.level l).ops; lines = (a.level l).lines };
      at = a.at;
      slots = a.slots;
      cells = a.cells;
      captures = a.captures;
      params = a.params;
      dots = a.dots;
      pay = a.pay;
    }

pub k_counted : (w v : Writer) → K w v → K w (counted v)
k_counted w v a =
    record {
      ops = a.ops;
      lines = a.lines;
      constants = a.constants;
      made = a.made;
      labels = a.labels;
      more = a.more;
      found = a.found;
      level = λ l. record { ops = (a.level l).ops; lines = (a.level l).lines };
      at = a.at;
      slots = a.slots;
      cells = a.cells;
      captures = a.captures;
      params = a.params;
      dots = a.dots;
      pay = a.pay;
    }

-- what a function inside has of what was made before
pub record Inner (w inner : Writer) : Type 0 where
  pub made : (k : ℕ) (r : Routine) → slice_get w.made k ≡ Some r → slice_get inner.made k ≡ Some r
  pub found : inner.lost ≡ false → w.lost ≡ false

pub k_resumed : (w v inner : Writer) → K w v → Inner v inner → K w (resumed inner v)
k_resumed w v inner a b =
    record {
      ops = a.ops;
      lines = a.lines;
      constants = a.constants;
      made = λ k r e. get_front inner.made (done inner ∷ []) k r (b.made k r (a.made k r e));
      labels = a.labels;
      more = a.more;
      found = λ e. a.found (b.found e);
      level = λ l. record { ops = (a.level l).ops; lines = (a.level l).lines };
      at = a.at;
      slots = a.slots;
      cells = a.cells;
      captures = a.captures;
      params = a.params;
      dots = a.dots;
      pay = a.pay;
    }

pub k_if : (w x y : Writer) (b : Bool) → K w x → K w y → K w (if b then x else y)
k_if w x y true p q = p
k_if w x y false p q = q

pub k_paid : (w v : Writer) (pay : ℕ) → K w v → K w (paid_here pay v)
k_paid w v zero a = a
k_paid w v (suc k) a = k_put w v (op.Tick (suc k)) a

pub k_settled : (w v : Writer) (aim : Aim) (r : ℕ) → K w v → K w (settled aim r v)
k_settled w v (Into s) r a = a
k_settled w v (Anywhere room) r a = a
k_settled w v (Unless l pay) r a = k_paid w (put (op.Test r l) v) pay (k_put w v (op.Test r l) a)

pub k_int : (w v : Writer) (r : ℕ) (n : ℤ) (b : Bool) → K w v → K w (if b then put (op.Int r n) v else put (op.Constant r (length v.draft.constants)) (with_constant (constant.Int n) v))
k_int w v r n true a = k_put w v (op.Int r n) a
k_int w v r n false a = k_put w (with_constant (constant.Int n) v) (op.Constant r (length v.draft.constants)) (k_constant w v (constant.Int n) a)

pub k_aimed : (w v : Writer) (n : ℤ) (d : ℕ) (aim : Aim) → K w v → K w (int_aimed n d aim v)
k_aimed w v n d (Into r) a = k_int w v r n _ a
k_aimed w v n d (Anywhere room) a = k_if w v (int_written d n v) (has_room room n) a (k_int w v d n _ a)
k_aimed w v n d (Unless l pay) a = k_paid w v pay a

pub k_true : (w v : Writer) (d : ℕ) (aim : Aim) → K w v → K w (true_written d aim v)
k_true w v d (Into r) a = k_put w v (op.Bool r true) a
k_true w v d (Anywhere room) a = k_put w v (op.Bool d true) a
k_true w v d (Unless l pay) a = k_paid w v pay a

k_slot : (w v : Writer) (s d : ℕ) (aim : Aim) → K w v → K w (slot_written s d aim v)
k_slot w v s d (Into r) a = k_put w v (op.Move r s) a
k_slot w v s d (Anywhere room) a = a
k_slot w v s d (Unless l pay) a = k_paid w (put (op.Test s l) v) pay (k_put w v (op.Test s l) a)

pub k_name : (w v : Writer) (o : Option Place) (d : ℕ) (aim : Aim) → K w v → K w (name_written o d aim v)
k_name w v (Some (InSlot s)) d aim a = k_slot w v s d aim a
k_name w v (Some (InCell c)) d aim a = k_settled w (put (op.GetCell (register aim d) c) v) aim (register aim d) (k_put w v (op.GetCell (register aim d) c) a)
k_name w v (Some (InUp u)) d aim a = k_settled w (put (op.GetUp (register aim d) u) v) aim (register aim d) (k_put w v (op.GetUp (register aim d) u) a)
k_name w v (Some Hidden) d aim a = k_lost w v true a
k_name w v None d aim a = k_lost w v true a

pub k_stored : (w v : Writer) (o : Option Place) (r : ℕ) → K w v → K w (stored o r v)
k_stored w v (Some (InSlot s)) r a = k_put w v (op.Move s r) a
k_stored w v (Some (InCell c)) r a = k_put w v (op.SetCell c r) a
k_stored w v (Some (InUp u)) r a = k_put w v (op.SetUp u r) a
k_stored w v (Some Hidden) r a = k_lost w v true a
k_stored w v None r a = k_lost w v true a

pub k_from : (w v : Writer) (x : Origin) (d : ℕ) (o : Option Place) → K w v → K w (from x d o v)
k_from w v (FromSlot r) d o a = k_stored w v o r a
k_from w v (FromItem i) d o a = k_stored w (put (op.Item d i) v) o d (k_put w v (op.Item d i) a)

pub k_stores : (w v : Writer) (xs : List Write) (d : ℕ) (names : List Known) → K w v → K w (stores_written xs d names v)
k_stores w v [] d names a = a
k_stores w v (x ∷ xs) d names a = k_stores w (from x.origin d (place_of names x.name) v) xs d names (k_from w v x.origin d (place_of names x.name) a)

pub k_nils : (w v : Writer) (r n : ℕ) → K w v → K w (nils_written r n v)
k_nils w v r zero a = a
k_nils w v r (suc n) a = k_nils w (put (op.Nil r) v) (r + 1) n (k_put w v (op.Nil r) a)

pub k_on : (w v : Writer) (p : Operand) (go : ℕ → Writer) → K w v → ((r : ℕ) → K w (go r)) → K w (on_slot p v go)
k_on w v (Slot r) go a h = h r
k_on w v (Held n) go a h = k_lost w v true a

pub k_some : (w v : Writer) (o : Option Op) (line : ℕ) → K w v → K w (some_written o line v)
k_some w v None line a = k_lost w v true a
k_some w v (Some o) line a = k_emit w v o line a

pub k_binary : (w v : Writer) (o : Binary) (r : ℕ) (p q : Operand) (line : ℕ) → K w v → K w (binary_written o r p q line v)
k_binary w v o r (Slot x) (Slot y) line a =
    k_if w (emit (or_else (short_op o r x y) (op.Binary o r x y)) line v) (emit (op.Binary o r x y) line v) (ltb r 256 && ltb x 256 && ltb y 256)
    (k_emit w v (or_else (short_op o r x y) (op.Binary o r x y)) line a) (k_emit w v (op.Binary o r x y) line a)
k_binary w v o r (Slot x) (Held n) line a = k_emit w v (int_op o r x n) line a
k_binary w v o r (Held n) q line a = k_lost w v true a

pub k_test : (w v : Writer) (o : Binary) (p q : Operand) (aim : Aim) (line : ℕ) → K w v → K w (test_written o p q aim line v)
k_test w v o p q (Unless l pay) line a = k_some w v (test_op o (shown_of p) (shown_of q) pay l) line a
k_test w v o p q (Into r) line a = k_lost w v true a
k_test w v o p q (Anywhere room) line a = k_lost w v true a

pub k_unary : (w v : Writer) (o : Unary) (x d : ℕ) (aim : Aim) (line : ℕ) → K w v → K w (unary_slot o x d aim line v)
k_unary w v unary.Not x d (Unless l pay) line a = k_paid w (put (op.TestNot x l) v) pay (k_put w v (op.TestNot x l) a)
k_unary w v unary.Not x d (Into r) line a = k_emit w v (op.Unary unary.Not r x) line a
k_unary w v unary.Not x d (Anywhere room) line a = k_emit w v (op.Unary unary.Not d x) line a
k_unary w v o x d aim line a = k_settled w (emit (op.Unary o (register aim d) x) line v) aim (register aim d) (k_emit w v (op.Unary o (register aim d) x) line a)

pub k_last : (w v : Writer) (os : Operands) (aim : Aim) (d r : ℕ) → K w v → K w (last_settled os aim d r v)
k_last w v NoOperand aim d r a = k_settled w (lost_if (differ (register aim d) r) v) aim r (k_lost w v (differ (register aim d) r) a)
k_last w v (MoreOperands o line e os) aim d r a = a

pub k_linked : (w v u : Writer) (l : Link) (go : Binary → Writer) → K w v → K w u → ((o : Binary) → K w (go o)) → K w (linked l v u go)
k_linked w v u Both go a b h = a
k_linked w v u Either go a b h = b
k_linked w v u (Strict o) go a b h = h o

pub k_called : (w v : Writer) (a : Want) (d k line : ℕ) → K w v → K w (called a d k line v)
k_called w v (want.Count n) d k line a = k_emit w v (op.Call d k n) line a
k_called w v want.AsList d k line a = k_emit w v (op.CallAll d k) line a
k_called w v want.AsResult d k line a = k_put w (emit (op.TailCall d k) line v) op.ReturnList (k_emit w v (op.TailCall d k) line a)

pub k_called_list : (w v : Writer) (a : Want) (d line : ℕ) → K w v → K w (called_list a d line v)
k_called_list w v (want.Count n) d line a = k_put w (emit (op.CallList d) line v) (op.Spread d n) (k_emit w v (op.CallList d) line a)
k_called_list w v want.AsList d line a = k_emit w v (op.CallList d) line a
k_called_list w v want.AsResult d line a = k_put w (emit (op.TailCallList d) line v) op.ReturnList (k_emit w v (op.TailCallList d) line a)

k_wanted : (w v : Writer) (a : Want) (d : ℕ) → K w v → K w (wanted_written a d v)
k_wanted w v (want.Count zero) d a = a
k_wanted w v (want.Count (suc n)) d a = k_nils w v (d + 1) n a
k_wanted w v want.AsList d a = k_put w (put op.Begin v) (op.Push d) (k_put w v op.Begin a)
k_wanted w v want.AsResult d a = k_put w v (op.Return d 1) a

pub k_none : (w v : Writer) (ss : Suffixes) (a : Want) (d : ℕ) → K w v → K w (where_none ss a d v)
k_none w v NoSuffix a d h = k_wanted w v a d h
k_none w v (MoreSuffixes x ss) a d h = h

pub k_ticked : (w v : Writer) (k : ℕ) → K w v → K w (ticked k v)
k_ticked w v zero a = k_put w v (op.Tick 1) a
k_ticked w v (suc zero) a = a
k_ticked w v (suc (suc k)) a = k_lost w v true a

pub k_ticked_more : (w v : Writer) (k m : ℕ) → K w v → K w (ticked_more k m v)
k_ticked_more w v zero m a = k_put w v (op.Tick (suc m)) a
k_ticked_more w v (suc k) m a = a

pub k_ticked_twice : (w v : Writer) (k m : ℕ) → K w v → K w (ticked_twice k m v)
k_ticked_twice w v zero m a = k_put w v (op.Tick (suc (suc m))) a
k_ticked_twice w v (suc zero) m a = k_put w v (op.Tick (suc m)) a
k_ticked_twice w v (suc (suc k)) m a = k_lost w v true a

pub k_targets : (w v : Writer) (o : Option (List Text)) (go : List Text → Writer) → K w v → ((xs : List Text) → K w (go xs)) → K w (with_targets o v go)
k_targets w v None go a h = k_lost w v true a
k_targets w v (Some xs) go a h = h xs

pub k_directly : (w v : Writer) (o : Option ℕ) (b : Bool) (go : ℕ → Writer) → K w v → ((s : ℕ) → K w (go s)) → K w (directly o b v go)
k_directly w v None b go a h = a
k_directly w v (Some s) b go a h = k_if w (go s) v b (h s) a

pub k_jumped : (w v : Writer) (o : Option ℕ) → K w v → K w (jumped o v)
k_jumped w v None a = k_lost w v true a
k_jumped w v (Some l) a = k_put w v (op.Jump l) a

pub k_where_else : (w v : Writer) (b : Branches) (l : ℕ) → K w v → K w (where_else b l v)
k_where_else w v NoElse l a = a
k_where_else w v (Else p) l a = k_put w v (op.Jump l) a
k_where_else w v (Elseif e p b) l a = k_put w v (op.Jump l) a

k_declare : (w v : Writer) (sc : Scope) (b : Bool) → K w v → K w (counted (if b then put (op.NewCell sc.cells sc.free) v else v))
k_declare w v sc b a = k_counted w _ (k_if w (put (op.NewCell sc.cells sc.free) v) v b (k_put w v (op.NewCell sc.cells sc.free) a) a)

pub k_declare_all : (w v : Writer) (xs : List Text) (sc : Scope) → K w v → K w (declare_all xs sc v)
k_declare_all w v [] sc a = a
k_declare_all w v (x ∷ xs) sc a = k_declare_all w (declare sc v) xs (known x sc v.flags v.locals) (k_declare w v sc (flag v.flags v.locals) a)
