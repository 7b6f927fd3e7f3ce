-- What the format of an address writes.
use Rattle.std.proofs.Common.{◌≡◌, ◌∙◌, ◌++◌, ◌-◌, ◌^◌, ap, ℕ, List, [], false, length, replicate, append-nil, arith}
use Rattle.std.specs.Fmt.{format_spec, padded_integral, char_count}
use Rattle.runner.specs.Logger.{eight_digits}

-- a number with the flag `0` and the width 8
pub padded-eight : (text : List ℕ) → padded_integral (format_spec 32 0 4 8 (2 ^ 64 - 1)) false [] text ≡ eight_digits text
unfolding padded_integral char_count
padded-eight text =
    let same : 8 - length text - 0 - 0 ≡ 8 - length text = omega arith in
    ap (λ (n : ℕ). replicate n 48 ++ (text ++ [])) same ∙ ap (λ (t : List ℕ). replicate (8 - length text) 48 ++ t) (append-nil text)
