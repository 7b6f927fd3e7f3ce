-- The turns of loops over the lists of a tree.
use Rattle.std.proofs.Common.{◌≡◌, ℕ, zero, suc, ◌+◌, ◌-◌, ◌<◌, ◌≤◌, ◌≢◌, refl, sym, ap, ◌∙◌, add-one, List, [], ◌∷◌, length, map, take, drop, slice_index_or, arith, length-drop}
use Rattle.std.proofs.lemmas.List.{take_all}
use Rattle.std.specs.Prelude.{OnOk, Option, Some, None}
use Rattle.std.specs.declared.result.Result.{Result}
use Rattle.std.specs.declared.result.Result.TheVariants as result
use Rattle.lua_tree.specs.Source.{MoreExps, NoExp}
use Rattle.lua_tree.specs.Source as source
use Rattle.lua_tree.specs.View.{Applied, exps_of, exp_of, operands_of, operand_of, stats_of, stat_of, block_of, body_of, generic_of, numeric_with}
use Rattle.lua_tree.proofs.Views.{function_seen, unary_seen, block_seen, generic_seen, local_function_seen, operand_seen}
use Rattle.lua_tree.specs.declared.tree.Expr.TheVariants as expr
use Rattle.lua_tree.specs.declared.tree.Stat.{Stat}
use Rattle.lua_tree.specs.declared.tree.Stat.TheVariants as stat
use Rattle.lua_tree.specs.declared.tree.Block.{Block}
use Rattle.lua_tree.specs.declared.tree.Body.{Body}
use Rattle.lua_tree.specs.declared.tree.GenericFor.{GenericFor}
use Rattle.lua_tree.specs.declared.tree.Expr.{Expr}
use Rattle.lua_tree.specs.declared.tree.UnaryOp.{UnaryOp}
use Rattle.lua_tree.specs.declared.tree.Operand.{Operand as Operation}
use Rattle.lua_model.specs.declared.operator.Unary.{Unary}
use Rattle.lua_meaning.specs.Values.{unary_of}
use Rattle.lua_steps.specs.Scope.{Scope}
use Rattle.lua_steps.specs.Serves.{following}
use Rattle.lua_code.specs.declared.op.Op.TheVariants as op
use Rattle.lua_compile.specs.declared.aim.Aim.TheVariants.{Into, Anywhere}
use Rattle.lua_compile.specs.declared.aim.Room.TheVariants.{Nothing}
use Rattle.lua_compile.specs.Writer.{Writer, put, resumed}
use Rattle.lua_compile.specs.declared.aim.Aim.{Aim}
use Rattle.lua_compile.specs.declared.aim.Operand.{Operand}
use Rattle.lua_compile.specs.Forms.{shown, and_aim, on_slot, unary_slot, settled, register, prepay, ticked, generic_written, numeric_written}
use Rattle.lua_compile.specs.Parts.{returned, step_written}
use Rattle.lua_compile.specs.Written.{exp_written, ands_written, operands_written, body_written, values_written, list_written, block_written, stats_written, stats_known, stat_written}

pub on_ok : {X Y P Q : Type 0} (r : Result X Y) → (P → Q) → OnOk r P → OnOk r Q
on_ok (result.Ok x) f p = f p
on_ok (result.Err y) f p = tt

-- ---- the items of a list from a place on
pub dropped : {A : Type 0} (xs : List A) (i m : ℕ) (x : A) → m ≡ suc i → i < length xs → x ≡ slice_index_or xs i x → drop i xs ≡ x ∷ drop m xs
dropped [] i m x s h e = absurd (omega (arith, h))
dropped (y ∷ ys) zero m x s h e = ap (λ z. z ∷ ys) (sym e) ∙ ap (λ n. x ∷ drop n (y ∷ ys)) (sym s)
dropped (y ∷ ys) (suc i) m x s h e = dropped ys i (suc i) x refl (omega (arith, h)) e ∙ ap (λ n. x ∷ drop n (y ∷ ys)) (sym s)

pub none_left : {A : Type 0} (xs : List A) (n : ℕ) → length xs ≤ n → drop n xs ≡ []
none_left [] zero h = refl
none_left [] (suc n) h = refl
none_left (x ∷ xs) zero h = absurd (omega (arith, h))
none_left (x ∷ xs) (suc n) h = none_left xs n (omega (arith, h))

pub one_left : {A : Type 0} (xs : List A) (i : ℕ) (x : A) → i + 1 ≡ length xs → x ≡ slice_index_or xs i x → drop i xs ≡ x ∷ []
one_left xs i x l e = dropped xs i (i + 1) x (add-one i) (omega (arith, l)) e ∙ ap (λ ys. x ∷ ys) (none_left xs (i + 1) (omega (arith, l)))

pub some_left : {A : Type 0} (xs : List A) (n : ℕ) → n < length xs → drop n xs ≢ []
some_left [] n h = absurd (omega (arith, h))
some_left (x ∷ xs) zero h = λ e. absurd (cc)
some_left (x ∷ xs) (suc n) h = some_left xs n (omega (arith, h))

-- ---- a value that is not the last one
list_more : (e : Expr) (es : List Expr) (sc : Scope) (d : ℕ) (w : Writer) → es ≢ []
    → list_written (exps_of (map exp_of (e ∷ es))) sc d w
    ≡ list_written (exps_of (map exp_of es)) sc d (on_slot (shown (exp_of e) sc.names d (Anywhere Nothing)) (exp_written (exp_of e) sc d (Anywhere Nothing) w) (λ x. put (op.Push x) (exp_written (exp_of e) sc d (Anywhere Nothing) w)))
list_more e [] sc d w h = absurd (h refl)
list_more e (g ∷ es) sc d w h = refl

pub list_next : (es : List Expr) (i : ℕ) (e : Expr) (sc : Scope) (d : ℕ) (w : Writer) → i < length es → i + 1 ≢ length es → e ≡ slice_index_or es i e
    → list_written (exps_of (map exp_of (drop i es))) sc d w
    ≡ list_written (exps_of (map exp_of (drop (i + 1) es))) sc d (on_slot (shown (exp_of e) sc.names d (Anywhere Nothing)) (exp_written (exp_of e) sc d (Anywhere Nothing) w) (λ x. put (op.Push x) (exp_written (exp_of e) sc d (Anywhere Nothing) w)))
list_next es i e sc d w h l is =
    ap (λ xs. list_written (exps_of (map exp_of xs)) sc d w) (dropped es i (i + 1) e (add-one i) h is)
    ∙ list_more e (drop (i + 1) es) sc d w (some_left es (i + 1) (omega (arith, h, l)))

values_rest : (e : Expr) (es : List Expr) (n : ℕ) (sc : Scope) (r : ℕ) (w : Writer) → es ≢ []
    → values_written (exps_of (map exp_of (e ∷ es))) n sc r w ≡ values_written (exps_of (map exp_of es)) (n - 1) sc (following n r) (exp_written (exp_of e) sc r (Into r) w)
values_rest e [] n sc r w h = absurd (h refl)
values_rest e (g ∷ es) n sc r w h = refl

pub values_next : (es : List Expr) (i : ℕ) (e : Expr) (n : ℕ) (sc : Scope) (r : ℕ) (w : Writer) → i < length es → i + 1 ≢ length es → e ≡ slice_index_or es i e
    → values_written (exps_of (map exp_of (drop i es))) n sc r w ≡ values_written (exps_of (map exp_of (drop (i + 1) es))) (n - 1) sc (following n r) (exp_written (exp_of e) sc r (Into r) w)
values_next es i e n sc r w h l is =
    ap (λ xs. values_written (exps_of (map exp_of xs)) n sc r w) (dropped es i (i + 1) e (add-one i) h is)
    ∙ values_rest e (drop (i + 1) es) n sc r w (some_left es (i + 1) (omega (arith, h, l)))

-- ---- an operator, and those after it
rest_is : {A : Type 0} (xs : List A) (n : ℕ) → take (length xs - n) (drop n xs) ≡ drop n xs
rest_is xs n = take_all (length xs - n) (drop n xs) (omega (arith, length-drop n xs))

pub operations_next : (os : List Operation) (i : ℕ) (o : Operation) (sc : Scope) (d : ℕ) (aim : Aim) (p q : Operand) (w v : Writer) → i < length os → o ≡ slice_index_or os i o
    → operands_written (operands_of (operand_of o ∷ map operand_of (take (length os - (i + 1)) (drop (i + 1) os)))) sc d aim p w
    ≡ operands_written (operands_of (map operand_of (take (length os - (i + 1)) (drop (i + 1) os)))) sc d aim q v
    → operands_written (operands_of (map operand_of (drop (i + 1) os))) sc d aim q v ≡ operands_written (operands_of (map operand_of (drop i os))) sc d aim p w
operations_next os i o sc d aim p q w v h is e =
    ap (λ (xs : List Operation). operands_written (operands_of (map operand_of xs)) sc d aim q v) (sym (rest_is os (i + 1)))
    ∙ sym e
    ∙ ap (λ (xs : List Operation). operands_written (operands_of (operand_of o ∷ map operand_of xs)) sc d aim p w) (rest_is os (i + 1))
    ∙ ap (λ (xs : List Operation). operands_written (operands_of (map operand_of xs)) sc d aim p w) (sym (dropped os i (i + 1) o (add-one i) h is))

pub ands_next : (os : List Operation) (i : ℕ) (o : Operation) (sc : Scope) (d : ℕ) (aim a : Aim) (w v : Writer) → i < length os → o ≡ slice_index_or os i o
    → a ≡ and_aim (operands_of (map operand_of (take (length os - (i + 1)) (drop (i + 1) os)))) aim → v ≡ exp_written (exp_of o.value) sc d a w
    → ands_written (operands_of (map operand_of (drop (i + 1) os))) sc d aim v ≡ ands_written (operands_of (map operand_of (drop i os))) sc d aim w
ands_next os i o sc d aim a w v h is ea ev =
    let rest = operands_of (map operand_of (drop (i + 1) os)) in
    let e : a ≡ and_aim rest aim = ea ∙ ap (λ (xs : List Operation). and_aim (operands_of (map operand_of xs)) aim) (rest_is os (i + 1)) in
    ap (λ (u : Writer). ands_written rest sc d aim u) (ev ∙ ap (λ b. exp_written (exp_of o.value) sc d b w) e)
    ∙ ap (λ (x : Applied). ands_written (operands_of (x ∷ map operand_of (drop (i + 1) os))) sc d aim w) (sym (operand_seen o.op o.line o.value))
    ∙ ap (λ (xs : List Operation). ands_written (operands_of (map operand_of xs)) sc d aim w) (sym (dropped os i (i + 1) o (add-one i) h is))

-- ---- one term
pub pushed : (s p : Operand) (v w : Writer) → s ≡ p → v ≡ w → on_slot s v (λ x. put (op.Push x) v) ≡ on_slot p w (λ x. put (op.Push x) w)
pushed s p v w e f = ap (λ q. on_slot q v (λ x. put (op.Push x) v)) e ∙ ap (λ u. on_slot p u (λ x. put (op.Push x) u)) f

pub made_there : (aim : Aim) (to r g h : ℕ) (u v w : Writer) → to ≡ r → g ≡ h → v ≡ w → u ≡ put (op.Close to g) v → settled aim to u ≡ settled aim r (put (op.Close r h) w)
made_there aim to r g h u v w e i f s =
    ap (λ n. settled aim n u) e ∙ ap (λ q. settled aim r q) (s ∙ ap (λ n. put (op.Close n g) v) e ∙ ap (λ n. put (op.Close r n) v) i ∙ ap (λ q. put (op.Close r h) q) f)

pub function_is : (b : Body) (aim : Aim) (to d g : ℕ) (sc : Scope) (u v w : Writer) → to ≡ register aim d → g ≡ length (body_written (body_of b) sc.names w).made
    → v ≡ resumed (body_written (body_of b) sc.names w) w → u ≡ put (op.Close to g) v → settled aim to u ≡ exp_written (exp_of (expr.Function b)) sc d aim w
function_is b aim to d g sc u v w e i f s =
    made_there aim to (register aim d) g (length (body_written (body_of b) sc.names w).made) u v (resumed (body_written (body_of b) sc.names w) w) e i f s
    ∙ ap (λ p. exp_written p sc d aim w) (sym (function_seen b))

pub unary_is : (o : UnaryOp) (p : Unary) (line d : ℕ) (a b c : Expr) (aim : Aim) (sc : Scope) (q : Operand) (v w : Writer) → p ≡ unary_of o → b ≡ a → c ≡ a
    → q ≡ shown (exp_of c) sc.names d (Anywhere Nothing) → v ≡ exp_written (exp_of b) sc d (Anywhere Nothing) w
    → on_slot q v (λ x. unary_slot p x d aim line v) ≡ exp_written (exp_of (expr.Unary o line a)) sc d aim w
unary_is o p line d a b c aim sc q v w ep eb ec eq ev =
    let hq : q ≡ shown (exp_of a) sc.names d (Anywhere Nothing) = eq ∙ ap (λ e. shown (exp_of e) sc.names d (Anywhere Nothing)) ec in
    let hv : v ≡ exp_written (exp_of a) sc d (Anywhere Nothing) w = ev ∙ ap (λ e. exp_written (exp_of e) sc d (Anywhere Nothing) w) eb in
    ap (λ m. on_slot q v (λ x. unary_slot m x d aim line v)) ep
    ∙ ap (λ r. on_slot r v (λ x. unary_slot (unary_of o) x d aim line v)) hq
    ∙ ap (λ (u : Writer). on_slot (shown (exp_of a) sc.names d (Anywhere Nothing)) u (λ x. unary_slot (unary_of o) x d aim line u)) hv
    ∙ ap (λ e. exp_written e sc d aim w) (sym (unary_seen o line a))

pub block_returns : (b : Block) (ss : List Stat) (es : List Expr) (sc inner : Scope) (k : ℕ) (exit : Option ℕ) (w v : Writer) → ss ≡ b.stats → b.result ≡ Some es
    → inner ≡ stats_known (stats_of (map stat_of ss)) sc k exit w → v ≡ stats_written (stats_of (map stat_of ss)) sc k exit w
    → returned (exps_of (map exp_of es)) inner v ≡ block_written (block_of b) sc k exit w
block_returns b ss es sc inner k exit w v a is s t =
    ap (λ i. returned (exps_of (map exp_of es)) i v) s
    ∙ ap (λ u. returned (exps_of (map exp_of es)) (stats_known (stats_of (map stat_of ss)) sc k exit w) u) t
    ∙ ap (λ p. block_written p sc k exit w) (sym (block_seen ss (Some es)))
    ∙ ap (λ r. block_written (block_of (record b { stats = ss; result = r })) sc k exit w) (sym is)
    ∙ ap (λ xs. block_written (block_of (record b { stats = xs })) sc k exit w) a

pub generic_is : (f : GenericFor) (xs : List source.Text) (es : List Expr) (sc : Scope) (k first : ℕ) (w t u : Writer) → xs ≡ f.names → es ≡ f.values → first ≡ sc.free → t ≡ ticked k w
    → u ≡ values_written (exps_of (map exp_of es)) 3 sc first t
    → generic_written xs sc f.line (prepay (block_of f.block)) (λ inner out t. block_written (block_of f.block) inner (prepay (block_of f.block)) out t) u ≡ stat_written (generic_of f) sc k None w
generic_is f xs es sc k first w t u n a e i s =
    ap (λ ns. generic_written ns sc f.line (prepay (block_of f.block)) (λ inner out t. block_written (block_of f.block) inner (prepay (block_of f.block)) out t) u) n ∙ ap (λ v. generic_written f.names sc f.line (prepay (block_of f.block)) (λ inner out t. block_written (block_of f.block) inner (prepay (block_of f.block)) out t) v)
    (s ∙ ap (λ xs. values_written (exps_of (map exp_of xs)) 3 sc first t) a ∙ ap (λ n. values_written (exps_of (map exp_of f.values)) 3 sc n t) e ∙ ap (λ v. values_written (exps_of (map exp_of f.values)) 3 sc sc.free v) i)
    ∙ ap (λ p. stat_written p sc k None w) (sym (generic_seen f.names f.values f.block f.line))

pub local_function_is : (x : source.Text) (b : Body) (sc : Scope) (k : ℕ) (exit : Option ℕ) (w : Writer) → stat_written (source.LocalFunction x (body_of b)) sc k None w ≡ stat_written (stat_of (stat.LocalFunction x b)) sc k exit w
local_function_is x b sc k exit w = ap (λ p. stat_written p sc k exit w) (sym (local_function_seen x b))

pub numeric_is : (x : source.Text) (first limit : source.Exp) (step : Option source.Exp) (b : source.Block) (line : ℕ) (sc : Scope) (k : ℕ) (w : Writer)
    → numeric_written x sc line (prepay b) (λ inner out t. block_written b inner (prepay b) out t)
    (step_written step sc (sc.free + 2) (exp_written limit sc (sc.free + 1) (Into (sc.free + 1)) (exp_written first sc sc.free (Into sc.free) (ticked k w))))
    ≡ stat_written (numeric_with x first limit step b line) sc k None w
numeric_is x first limit None b line sc k w = refl
numeric_is x first limit (Some step) b line sc k w = refl
