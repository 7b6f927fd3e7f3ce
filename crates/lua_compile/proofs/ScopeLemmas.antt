-- Names in scope, the innermost first, where the code keeps them the innermost last.
use Rattle.std.proofs.Common.{◌≡◌, ℕ, ◌+◌, ◌-◌, refl, sym, ap, ◌∙◌, List, [], ◌∷◌, ◌++◌, length, take, drop, Option, Some, arith, Bool, true, false, append_assoc, length-append, length-drop}
use Rattle.std.specs.Prelude.{reverse, find, cond, if◌then◌else◌}
use Rattle.std.proofs.lemmas.List.{take-append-drop, reverse-append, length-reverse, drop_at}
use Rattle.lua_tree.specs.Source as source
use Rattle.lua_tree.specs.Source.{Text, Block, Plain, Returns, Stats, NoStat, MoreStats, Stat}
use Rattle.lua_model.specs.Texts.{same_bytes}
use Rattle.lua_steps.specs.declared.scope.Known.{Known}
use Rattle.lua_steps.specs.Scope.{Scope, place_of, in_slot, in_cell, past}
use Rattle.lua_compile.specs.Writer.{Writer, known, all_known, flag}
use Rattle.lua_compile.specs.Forms.{function_known, ticked}
use Rattle.lua_compile.specs.Parts.{is_known, place_in}
use Rattle.lua_compile.specs.Written.{stat_known, stats_known, block_known, stat_written, values_written}

pub place_found : (ns : List Known) (x : Text) → place_in (find (is_known x) ns) ≡ place_of ns x
place_found [] x = refl
place_found (n ∷ ns) x =
    elim (same_bytes n.name x) as (λ b. place_in (cond b (Some n) (find (is_known x) ns)) ≡ cond b (Some n.place) (place_of ns x))
    [ true ↦ refl | false ↦ place_found ns x ]

-- what is cut off at the end of the list is cut off at the beginning of the turned one
pub cut : (xs : List Known) (n : ℕ) → reverse (take n xs) ≡ drop (length (reverse xs) - n) (reverse xs)
cut xs n =
    let whole : reverse xs ≡ reverse (drop n xs) ++ reverse (take n xs) = ap reverse (sym (take-append-drop n xs)) ∙ reverse-append (take n xs) (drop n xs) in
    let count : length (reverse (drop n xs)) ≡ length (reverse xs) - n = length-reverse (drop n xs) ∙ length-drop n xs ∙ ap (λ m. m - n) (sym (length-reverse xs)) in
    sym (drop_at (reverse (drop n xs)) (reverse (take n xs)) (length (reverse xs) - n) count)
    ∙ ap (λ (ys : List Known). drop (length (reverse xs) - n) ys) (sym whole)

-- ---- a scope that another one has grown from
pub record Within (outer inner : Scope) : Type 0 where
  pub more : List Known
  pub names : inner.names ≡ more ++ outer.names

pub within_self : (sc : Scope) → Within sc sc
within_self sc = record { more = []; names = refl }

pub within_then : (a b c : Scope) → Within a b → Within b c → Within a c
within_then a b c p q =
    record { more = q.more ++ p.more; names = q.names ∙ ap (λ (ns : List Known). q.more ++ ns) p.names ∙ sym (append_assoc q.more p.more a.names) }

pub within_past : (n : ℕ) (sc : Scope) → Within sc (past n sc)
within_past n sc = record { more = []; names = refl }

pub within_slot : (x : Text) (sc : Scope) → Within sc (in_slot x sc)
within_slot x sc = record { more = _ ∷ []; names = refl }

pub within_cell : (x : Text) (sc : Scope) → Within sc (in_cell x sc)
within_cell x sc = record { more = _ ∷ []; names = refl }

pub within_known : (x : Text) (sc : Scope) (flags : List Bool) (k : ℕ) → Within sc (known x sc flags k)
within_known x sc flags k =
    elim (flag flags k) as (λ b. Within sc (if b then past 1 (in_cell x sc) else in_slot x sc))
    [ true ↦ record { more = _ ∷ []; names = refl } | false ↦ within_slot x sc ]

pub within_all_known : (xs : List Text) (sc : Scope) (flags : List Bool) (k : ℕ) → Within sc (all_known xs sc flags k)
within_all_known [] sc flags k = within_self sc
within_all_known (x ∷ xs) sc flags k =
    within_then sc (known x sc flags k) (all_known xs (known x sc flags k) flags (k + 1)) (within_known x sc flags k) (within_all_known xs (known x sc flags k) flags (k + 1))

pub within_function : (x : Text) (sc : Scope) (b : Bool) → Within sc (function_known x sc b)
within_function x sc true = within_cell x sc
within_function x sc false = within_slot x sc

pub within_stat : (t : Stat) (sc : Scope) (k : ℕ) (exit : Option ℕ) (w : Writer) → Within sc (stat_known t sc k exit w)
within_stat (source.Local xs es) sc k exit w =
    let v = values_written es (length xs) sc sc.free (ticked k w) in within_all_known xs sc v.flags v.locals
within_stat (source.LocalFunction x p) sc k exit w = let v = ticked k w in within_function x sc (flag v.flags v.locals)
within_stat (source.Assign ts es) sc k exit w = within_self sc
within_stat (source.Invoke e) sc k exit w = within_self sc
within_stat source.Break sc k exit w = within_self sc
within_stat (source.Do p) sc k exit w = within_self sc
within_stat (source.While e p) sc k exit w = within_self sc
within_stat (source.Repeat p e) sc k exit w = within_self sc
within_stat (source.If e p others) sc k exit w = within_self sc
within_stat (source.Numeric x a b p line) sc k exit w = within_self sc
within_stat (source.NumericBy x a b c p line) sc k exit w = within_self sc
within_stat (source.Generic xs es p line) sc k exit w = within_self sc

pub within_stats : (ts : Stats) (sc : Scope) (k : ℕ) (exit : Option ℕ) (w : Writer) → Within sc (stats_known ts sc k exit w)
within_stats NoStat sc k exit w = within_self sc
within_stats (MoreStats t ts) sc k exit w =
    within_then sc (stat_known t sc k exit w) (stats_known ts (stat_known t sc k exit w) 0 exit (stat_written t sc k exit w))
    (within_stat t sc k exit w) (within_stats ts (stat_known t sc k exit w) 0 exit (stat_written t sc k exit w))

pub within_block : (b : Block) (sc : Scope) (k : ℕ) (exit : Option ℕ) (w : Writer) → Within sc (block_known b sc k exit w)
within_block (Plain ts) sc k exit w = within_stats ts sc k exit w
within_block (Returns ts es) sc k exit w = within_stats ts sc k exit w

-- what came into scope since then goes out of it
pub closes : (sc inner : Scope) → Within sc inner → record { names = drop (length inner.names - length sc.names) inner.names; free = sc.free; cells = sc.cells } ≡ sc
closes sc inner h =
    let count : length inner.names ≡ length h.more + length sc.names = ap length h.names ∙ length-append h.more sc.names in
    let rest : length h.more ≡ length inner.names - length sc.names = omega (arith, count) in
    let names : drop (length inner.names - length sc.names) inner.names ≡ sc.names =
    ap (λ (ns : List Known). drop (length inner.names - length sc.names) ns) h.names ∙ drop_at h.more sc.names (length inner.names - length sc.names) rest in
    ap (λ (ns : List Known). let s : Scope = record { names = ns; free = sc.free; cells = sc.cells } in s) names

pub closes_block : (b : Block) (sc : Scope) (k : ℕ) (exit : Option ℕ) (w : Writer) → record { names = drop (length (block_known b sc k exit w).names - length sc.names) (block_known b sc k exit w).names; free = sc.free; cells = sc.cells } ≡ sc
closes_block b sc k exit w = closes sc (block_known b sc k exit w) (within_block b sc k exit w)

pub closes_numeric : (b : Block) (x : Text) (sc : Scope) (flags : List Bool) (j k : ℕ) (exit : Option ℕ) (w : Writer) → record { names = drop (length (block_known b (known x (past 3 sc) flags j) k exit w).names - length sc.names) (block_known b (known x (past 3 sc) flags j) k exit w).names; free = sc.free; cells = sc.cells } ≡ sc
closes_numeric b x sc flags j k exit w =
    let inner = known x (past 3 sc) flags j in
    closes sc (block_known b inner k exit w)
    (within_then sc inner (block_known b inner k exit w) (within_then sc (past 3 sc) inner (within_past 3 sc) (within_known x (past 3 sc) flags j)) (within_block b inner k exit w))

pub closes_generic : (b : Block) (xs : List Text) (sc : Scope) (flags : List Bool) (j k : ℕ) (exit : Option ℕ) (w : Writer) → record { names = drop (length (block_known b (all_known xs (past 3 sc) flags j) k exit w).names - length sc.names) (block_known b (all_known xs (past 3 sc) flags j) k exit w).names; free = sc.free; cells = sc.cells } ≡ sc
closes_generic b xs sc flags j k exit w =
    let inner = all_known xs (past 3 sc) flags j in
    closes sc (block_known b inner k exit w)
    (within_then sc inner (block_known b inner k exit w) (within_then sc (past 3 sc) inner (within_past 3 sc) (within_all_known xs (past 3 sc) flags j)) (within_block b inner k exit w))
