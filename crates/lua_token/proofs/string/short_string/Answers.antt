use Rattle.std.proofs.Common.{◌≡◌, ◌∙◌, ◌∷◌, ◌+◌, ◌-◌, ◌≤◌, ◌==◌, [], ap, arith, length, sym, List, ℕ}
use Rattle.lua_token.specs.Escapes.{bytes_of}
use Rattle.lua_token.specs.Strings.{short_from, with_front}
use Rattle.lua_token.proofs.Skips.{differs, short-escape, short-other, step_kept}
use Rattle.lua_token.proofs.string.short_string.Goals as goal

pub loop-b-preserved-then-b-eq92 : goal.loop-b-preserved-then-b-eq92
loop-b-preserved-then-b-eq92 c =
    let quote = c.args.quote in
    let bytes = c.args.bytes.now in
    let rest = c.loop-b.rest.now in
    let b = c.in-Some.b.now in
    let after = c.in-Some.after.now in
    let e = c.in-Some-next_escape.found in
    let next = c.split_at.result.1.now in
    let is : rest ≡ b ∷ after = c.in-Some.ensures.cases.0 in
    let shorter : length after + 1 ≡ length rest = c.in-Some.ensures.cases.1 in
    let cut : length next + e.len ≡ length after = c.split_at.ensures.back_len in
    let inside : c.loop-b.lines + length rest ≤ length bytes = c.loop-b.invariant.within in
    let taken = c.in-Some-next_escape.ensures.within in
    let lines : e.lines ≤ e.len = taken.2 in
    record {
      whole = step_kept c.loop-b.text (bytes_of e.stands) c.push_stands.new.text (length bytes - length rest) (1 + e.len) (length bytes - length next) c.loop-b.lines e.lines
          (c.loop-b.lines + e.lines) (short_from quote 0 rest) (short_from quote 0 next) (short_from quote 0 bytes) c.loop-b.invariant.whole
          (ap (short_from quote 0) is
          ∙ short-escape quote b after e (differs b quote c.if-b-quote.false) (sym c.is_end.ensures ∙ c.if-is_end.false) (ap (λ (x : ℕ). x == 92) c.if-b-eq92.true)
          (sym c.in-Some-next_escape.ensures.value)
          ∙ ap (λ (x : List ℕ). with_front (bytes_of e.stands) (1 + e.len) e.lines (short_from quote 0 x)) (sym c.split_at.ensures.back))
          c.in_ok-push_stands.ensures (omega (arith, shorter, cut, inside)) (omega arith);
      within = omega (arith, shorter, cut, lines, inside);
    }

pub loop-b-preserved : goal.loop-b-preserved
loop-b-preserved c =
    let quote = c.args.quote in
    let bytes = c.args.bytes.now in
    let rest = c.loop-b.rest.now in
    let b = c.in-Some.b.now in
    let after = c.in-Some.after.now in
    let is : rest ≡ b ∷ after = c.in-Some.ensures.cases.0 in
    let shorter : length after + 1 ≡ length rest = c.in-Some.ensures.cases.1 in
    let inside : c.loop-b.lines + length rest ≤ length bytes = c.loop-b.invariant.within in
    record {
      whole = step_kept c.loop-b.text (b ∷ []) c.push.new.self (length bytes - length rest) 1 (length bytes - length after) c.loop-b.lines 0 c.loop-b.lines
          (short_from quote 0 rest) (short_from quote 0 after) (short_from quote 0 bytes) c.loop-b.invariant.whole
          (ap (short_from quote 0) is
          ∙ short-other quote b after (differs b quote c.if-b-quote.false) (sym c.is_end.ensures ∙ c.if-is_end.false) (differs b 92 c.if-b-eq92.false))
          c.in_ok-push.ensures.ok (omega (arith, shorter, inside)) (omega arith);
      within = omega (arith, shorter, inside);
    }
