-- What holds of both sides of a choice.
use Rattle.std.proofs.Common.{◌≡◌, Bool, true, false, cond, Option, Some, None, refl}
use Rattle.session_table.specs.Table.{when_found}

pub of_found : {A B : Type 0} (P : B → Type 0) (o : Option A) (f : A → B) (b : B) → ((a : A) → o ≡ Some a → P (f a)) → (o ≡ None → P b) → P (when_found o f b)
of_found P None f b there absent = absent refl
of_found P (Some a) f b there absent = there a refl

pub of_test : {B : Type 0} (P : B → Type 0) (b : Bool) (x y : B) → P x → P y → P (cond b x y)
of_test P true x y left right = left
of_test P false x y left right = right
