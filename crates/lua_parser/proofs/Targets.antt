-- The target that a prefix is, by its last suffix.
use Rattle.std.proofs.Common.{◌≡◌, List, [], ◌∷◌, ◌++◌, refl, ap, ◌∙◌}
use Rattle.std.proofs.lemmas.List.{reverse-append, reverse-reverse}
use Rattle.lua_tree.specs.declared.tree.Expr.{Expr, out-Expr}
use Rattle.lua_tree.specs.declared.tree.Suffix.{Suffix, out-Suffix}
use Rattle.lua_grammar.specs.Grammar.{suffixed}
use Rattle.lua_grammar.specs.Parts.{target_of, target_from, element_of, variable_of}

pub target_none : (a : Expr) → target_of a [] ≡ variable_of a (out-Expr a)
unfolding target_of
target_none a = refl

pub target_last : (a : Expr) (xs : List Suffix) (x : Suffix) → target_of a (xs ++ x ∷ []) ≡ element_of (suffixed a xs) (out-Suffix x)
unfolding target_of
target_last a xs x =
    ap (target_from a) (reverse-append xs (x ∷ []))
    ∙ ap (λ ys. element_of (suffixed a ys) (out-Suffix x)) (reverse-reverse xs)
