-- Facts on what a sink has got.
use Rattle.std.proofs.Common.{◌≡◌, ◌++◌, ℕ, List, [], Option, Some, None, ap, refl, append_assoc, append-nil}
use Rattle.sk_ports.specs.Pieces.{appended}

pub appended-appended : (w : Option (List ℕ)) (a b : List ℕ) → appended (appended w a) b ≡ appended w (a ++ b)
appended-appended None a b = refl
appended-appended (Some w) a b = ap Some (append_assoc w a b)

pub appended-nil : (w : Option (List ℕ)) → appended w [] ≡ w
appended-nil None = refl
appended-nil (Some w) = ap Some (append-nil w)
