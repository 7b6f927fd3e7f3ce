-- The derived equality is `same`, and `same` is equality.
use Rattle.std.proofs.Common.{◌≡◌, refl, true, false}
use Rattle.lua_value.specs.Same.{same}
use Rattle.lua_value.specs.declared.value.Value.{Value}
use Rattle.lua_value.specs.declared.value.Value.TheVariants as value
use Rattle.lua_value.specs.contracts.value.ValuePartialEq.TheImpl as derived

-- the derived `==` is `same`
pub same-derived : (a b : Value) → derived.eq-value.it a b ≡ same a b
same-derived value.Nil value.Nil = refl
same-derived (value.Bool true) (value.Bool true) = refl
same-derived (value.Bool true) (value.Bool false) = refl
same-derived (value.Bool false) (value.Bool true) = refl
same-derived (value.Bool false) (value.Bool false) = refl
same-derived (value.Int x) (value.Int y) = refl
same-derived (value.Text x) (value.Text y) = refl
same-derived (value.Table x) (value.Table y) = refl
same-derived (value.Func x) (value.Func y) = refl
same-derived (value.Native x) (value.Native y) = refl
same-derived (value.Thread x) (value.Thread y) = refl
same-derived (value.Packed x) (value.Packed y) = refl
same-derived _ _ = refl

-- as functions
pub derived-is-same : derived.eq-value.it ≡ same
derived-is-same = λ i a b. same-derived a b i
