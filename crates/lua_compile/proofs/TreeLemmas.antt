-- Lists of a tree, and what is written for them one after another.
use Rattle.std.proofs.Common.{◌≡◌, ℕ, zero, suc, ◌+◌, ◌-◌, ◌<◌, ◌≢◌, refl, sym, ap, ◌∙◌, false, add-one, List, [], ◌∷◌, ◌++◌, length, map, take, drop, get_or, Option, Some, None, arith, length-append}
use Rattle.std.specs.Prelude.{slice_set, not}
use Rattle.lua_tree.specs.Source as source
use Rattle.lua_tree.specs.Source.{Text, Block, Stat, Branches, Elseif, Exp, Exps, NoExp, MoreExps}
use Rattle.lua_tree.specs.View.{exps_of, exp_of, stats_of, block_with}
use Rattle.lua_tree.specs.declared.tree.Expr.{Expr}
use Rattle.lua_steps.specs.declared.scope.Known.{Known}
use Rattle.lua_code.specs.declared.op.Op.{Op}
use Rattle.lua_code.specs.Routine.{Routine}
use Rattle.lua_steps.specs.Scope.{Scope}
use Rattle.lua_steps.specs.Serves.{following}
use Rattle.lua_compile.specs.declared.aim.Aim.{Aim}
use Rattle.lua_compile.specs.declared.aim.Aim.TheVariants.{Into, Unless}
use Rattle.lua_compile.specs.declared.aim.Operand.TheVariants.{Slot}
use Rattle.lua_compile.specs.Writer.{Writer, labelled, label_of, placed, placed_here}
use Rattle.lua_compile.specs.Forms.{register, count, last_is_one, is_many, is_only, is_tail, only_shown, prepay, ticked, where_else}
use Rattle.lua_compile.specs.declared.aim.Want.TheVariants.{AsResult}
use Rattle.lua_compile.specs.Parts.{suffixed_written}
use Rattle.lua_compile.specs.Written.{exp_written, values_written, tail_written, only_written, block_written, stat_written, else_written}

pub count_exps : (es : List Expr) → count (exps_of (map exp_of es)) ≡ length es
count_exps [] = refl
count_exps (e ∷ es) = ap (λ n. n + 1) (count_exps es) ∙ add-one (length es)

pub last_end : (front : List Expr) (e : Expr) → last_is_one (exps_of (map exp_of (front ++ e ∷ []))) ≡ not (is_many (exp_of e))
last_end [] e = refl
last_end (x ∷ []) e = refl
last_end (x ∷ (y ∷ xs)) e = last_end (y ∷ xs) e

-- ---- a list that has not exactly one expression
pub not_only : (es : List Expr) → length es ≢ 1 → is_only (exps_of (map exp_of es)) ≡ false
not_only [] h = refl
not_only (e ∷ []) h = absurd (h refl)
not_only (e ∷ (g ∷ es)) h = refl

more_no_tail : (e : Exp) (g : Exp) (es : Exps) → is_tail (MoreExps e (MoreExps g es)) ≡ false
more_no_tail source.Nil g es = refl
more_no_tail source.False g es = refl
more_no_tail source.True g es = refl
more_no_tail (source.Int n) g es = refl
more_no_tail (source.Str t) g es = refl
more_no_tail source.Dots g es = refl
more_no_tail (source.Function p) g es = refl
more_no_tail (source.Name x) g es = refl
more_no_tail (source.Paren e) g es = refl
more_no_tail (source.Table fs) g es = refl
more_no_tail (source.Suffixed e ss) g es = refl
more_no_tail (source.Unary o line e) g es = refl
more_no_tail (source.Chain e os) g es = refl

pub not_tail : (es : List Expr) → length es ≢ 1 → is_tail (exps_of (map exp_of es)) ≡ false
not_tail [] h = refl
not_tail (e ∷ []) h = absurd (h refl)
not_tail (e ∷ (g ∷ es)) h = more_no_tail (exp_of e) (exp_of g) (exps_of (map exp_of es))

pub none_shown : (es : List Expr) (names : List Known) (d : ℕ) (aim : Aim) → length es ≢ 1 → only_shown (exps_of (map exp_of es)) names d aim ≡ Slot (register aim d)
none_shown [] names d aim h = refl
none_shown (e ∷ []) names d aim h = absurd (h refl)
none_shown (e ∷ (g ∷ es)) names d aim h = refl

pub none_written : (es : List Expr) (sc : Scope) (d : ℕ) (aim : Aim) (w : Writer) → length es ≢ 1 → only_written (exps_of (map exp_of es)) sc d aim w ≡ w
none_written [] sc d aim w h = refl
none_written (e ∷ []) sc d aim w h = absurd (h refl)
none_written (e ∷ (g ∷ es)) sc d aim w h = refl

more_no_call : (e : Exp) (g : Exp) (es : Exps) (sc : Scope) (d : ℕ) (w : Writer) → tail_written (MoreExps e (MoreExps g es)) sc d w ≡ w
more_no_call source.Nil g es sc d w = refl
more_no_call source.False g es sc d w = refl
more_no_call source.True g es sc d w = refl
more_no_call (source.Int n) g es sc d w = refl
more_no_call (source.Str t) g es sc d w = refl
more_no_call source.Dots g es sc d w = refl
more_no_call (source.Function p) g es sc d w = refl
more_no_call (source.Name x) g es sc d w = refl
more_no_call (source.Paren e) g es sc d w = refl
more_no_call (source.Table fs) g es sc d w = refl
more_no_call (source.Suffixed e ss) g es sc d w = refl
more_no_call (source.Unary o line e) g es sc d w = refl
more_no_call (source.Chain e os) g es sc d w = refl

pub no_call : (es : List Expr) (sc : Scope) (d : ℕ) (w : Writer) → length es ≢ 1 → tail_written (exps_of (map exp_of es)) sc d w ≡ w
no_call [] sc d w h = refl
no_call (e ∷ []) sc d w h = absurd (h refl)
no_call (e ∷ (g ∷ es)) sc d w h = more_no_call (exp_of e) (exp_of g) (exps_of (map exp_of es)) sc d w

-- ---- what a block pays
pub pays_none : (r : Option (List Exp)) → prepay (block_with (stats_of []) r) ≡ 0
pays_none None = refl
pays_none (Some es) = refl

pub pays_one : (t : Stat) (ts : List Stat) (r : Option (List Exp)) → prepay (block_with (stats_of (t ∷ ts)) r) ≡ 1
pays_one t ts None = refl
pays_one t ts (Some es) = refl

-- ---- labels become places, one operation after another
set_next : (f : Op → Op) (xs : List Op) (i : ℕ) (d : Op) → i < length xs → slice_set (map f (take i xs) ++ drop i xs) i (f (get_or xs i d)) ≡ map f (take (suc i) xs) ++ drop (suc i) xs
set_next f [] i d h = absurd (omega arith)
set_next f (y ∷ xs) zero d h = refl
set_next f (y ∷ xs) (suc i) d h = ap (λ (zs : List Op). f y ∷ zs) (set_next f xs i d (omega arith))

get_next : (f : Op → Op) (xs : List Op) (i : ℕ) (d : Op) → get_or (map f (take i xs) ++ drop i xs) i d ≡ get_or xs i d
get_next f [] zero d = refl
get_next f [] (suc i) d = refl
get_next f (y ∷ xs) zero d = refl
get_next f (y ∷ xs) (suc i) d = get_next f xs i d

pub placed_next : (L : List ℕ) (g f : Routine) (i : ℕ) (o d : Op) → f ≡ record g { ops = map (placed L) (take i g.ops) ++ drop i g.ops } → i < length g.ops → o ≡ placed L (get_or f.ops i d) → record f { ops = slice_set f.ops i o } ≡ record g { ops = map (placed L) (take (i + 1) g.ops) ++ drop (i + 1) g.ops }
placed_next L g f i o d e lt is =
    let now = map (placed L) (take i g.ops) ++ drop i g.ops in
    let here : get_or f.ops i d ≡ get_or g.ops i d = ap (λ (h : Routine). get_or h.ops i d) e ∙ get_next (placed L) g.ops i d in
    ap (λ (h : Routine). record h { ops = slice_set h.ops i o }) e
    ∙ ap (λ (q : Op). record g { ops = slice_set now i q }) (is ∙ ap (placed L) here)
    ∙ ap (λ (os : List Op). record g { ops = os }) (set_next (placed L) g.ops i d lt)
    ∙ ap (λ n. record g { ops = map (placed L) (take n g.ops) ++ drop n g.ops }) (sym (add-one i))

pub values_more : (e : Exp) (es : List Exp) (n : ℕ) (sc : Scope) (r : ℕ) (w : Writer) → 0 < length es → values_written (MoreExps e (exps_of es)) n sc r w ≡ values_written (exps_of es) (n - 1) sc (following n r) (exp_written e sc r (Into r) w)
values_more e [] n sc r w h = absurd (omega arith)
values_more e (g ∷ es) n sc r w h = refl

pub label_next : (w : Writer) → label_of (labelled w) ≡ label_of w + 1
label_next w = length-append w.labels (0 ∷ [])

-- an `if` is its branches, with a label after them
pub if_branches : (e : Exp) (p : Block) (others : Branches) (sc : Scope) (k : ℕ) (exit : Option ℕ) (w : Writer) → stat_written (source.If e p others) sc k exit w ≡ placed_here (label_of (ticked k w)) (else_written (Elseif e p others) sc exit (label_of (ticked k w)) (labelled (ticked k w)))
if_branches e p others sc k exit w =
    let v = ticked k w in
    let l = label_of v in
    ap (λ n. placed_here l (else_written others sc exit l (placed_here n (where_else others l (block_written p sc (prepay p) exit (exp_written e sc sc.free (Unless n (prepay p)) (labelled (labelled v))))))))
    (sym (label_next v))

-- a tail call is a value with suffixes
pub tail_is : (e : Exp) (sc : Scope) (d : ℕ) (w : Writer) → tail_written (MoreExps e NoExp) sc d w ≡ suffixed_written e sc d AsResult w
tail_is source.Nil sc d w = refl
tail_is source.False sc d w = refl
tail_is source.True sc d w = refl
tail_is (source.Int n) sc d w = refl
tail_is (source.Str t) sc d w = refl
tail_is source.Dots sc d w = refl
tail_is (source.Function p) sc d w = refl
tail_is (source.Name x) sc d w = refl
tail_is (source.Paren e) sc d w = refl
tail_is (source.Table fs) sc d w = refl
tail_is (source.Suffixed e ss) sc d w = refl
tail_is (source.Unary o line e) sc d w = refl
tail_is (source.Chain e os) sc d w = refl
