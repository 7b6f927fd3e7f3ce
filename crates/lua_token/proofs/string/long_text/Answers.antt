use Rattle.std.proofs.Common.{◌≡◌, ◌∙◌, ◌∷◌, ◌+◌, ◌-◌, ◌≤◌, [], ap, arith, drop, length, sym, List, ℕ}
use Rattle.lua_token.specs.Characters.{end_len}
use Rattle.lua_token.specs.Strings.{closes, long_from, with_front}
use Rattle.lua_token.proofs.Skips.{long-end, long-other, step_kept}
use Rattle.lua_token.proofs.Within.{end_one}
use Rattle.lua_token.proofs.string.long_text.Goals as goal

pub loop-b-preserved-then-is_end : goal.loop-b-preserved-then-is_end
loop-b-preserved-then-is_end c =
    let level = c.args.level in
    let bytes = c.args.bytes.now in
    let rest = c.loop-b.rest.now in
    let b = c.in-Some.b.now in
    let after = c.in-Some.after.now in
    let next = c.split_at.result.1.now in
    let is : rest ≡ b ∷ after = c.in-Some.ensures.cases.0 in
    let m = end_len b after in
    let back : next ≡ drop m (b ∷ after) = c.split_at.ensures.back ∙ ap (λ (n : ℕ). drop n rest) c.end_len.ensures ∙ ap (drop m) is in
    let shorter : length next + m ≡ length rest = ap (λ (n : ℕ). length next + n) (sym c.end_len.ensures) ∙ c.split_at.ensures.back_len in
    let some : 1 ≤ m = (end_one b after).0 in
    let inside : c.loop-b.lines + length rest ≤ length bytes = c.loop-b.invariant.within in
    record {
      whole = step_kept c.loop-b.text (10 ∷ []) c.push.new.self (length bytes - length rest) m (length bytes - length next) c.loop-b.lines 1 (c.loop-b.lines + 1)
          (long_from level 0 rest) (long_from level 0 next) (long_from level 0 bytes) c.loop-b.invariant.whole
          (ap (long_from level 0) is
          ∙ long-end level b after (ap (closes level) (sym is) ∙ sym c.closes.ensures ∙ c.if-closes.false) (sym c.is_end.ensures ∙ c.if-is_end.true)
          ∙ ap (λ (x : List ℕ). with_front (10 ∷ []) m 1 (long_from level 0 x)) (sym back))
          c.in_ok-push.ensures.ok (omega (arith, shorter, inside)) (omega arith);
      within = omega (arith, shorter, some, inside);
    }

pub loop-b-preserved : goal.loop-b-preserved
loop-b-preserved c =
    let level = c.args.level in
    let bytes = c.args.bytes.now in
    let rest = c.loop-b.rest.now in
    let b = c.in-Some.b.now in
    let after = c.in-Some.after.now in
    let is : rest ≡ b ∷ after = c.in-Some.ensures.cases.0 in
    let shorter : length after + 1 ≡ length rest = c.in-Some.ensures.cases.1 in
    let inside : c.loop-b.lines + length rest ≤ length bytes = c.loop-b.invariant.within in
    record {
      whole = step_kept c.loop-b.text (b ∷ []) c.push-else-is_end.new.self (length bytes - length rest) 1 (length bytes - length after) c.loop-b.lines 0 c.loop-b.lines
          (long_from level 0 rest) (long_from level 0 after) (long_from level 0 bytes) c.loop-b.invariant.whole
          (ap (long_from level 0) is
          ∙ long-other level b after (ap (closes level) (sym is) ∙ sym c.closes.ensures ∙ c.if-closes.false) (sym c.is_end.ensures ∙ c.if-is_end.false))
          c.in_ok-push-2.ensures.ok (omega (arith, shorter, inside)) (omega arith);
      within = omega (arith, shorter, inside);
    }
