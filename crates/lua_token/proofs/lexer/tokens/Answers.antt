use Rattle.std.proofs.Common.{◌+◌, ◌-◌, ◌++◌, [], ◌∷◌, ◌∙◌, length, drop, arith, sym, subst, ap, append_assoc, List, ℕ, length-drop}
use Rattle.lua_tree.specs.declared.token.Token.{Token}
use Rattle.lua_token.specs.Front.{Within}
use Rattle.lua_token.specs.Spells.{Spells, done, Faulty, here, too_long, faulty, hash_line}
use Rattle.lua_token.proofs.Steps.{all_spelled, gap_faulty, gap_spells, item_faulty, item_spells}
use Rattle.lua_token.proofs.lexer.tokens.Goals as goal

pub returns-then-source-gt-MAX_LEN : goal.returns-then-source-gt-MAX_LEN
returns-then-source-gt-MAX_LEN c = too_long c.if-source-gt-MAX_LEN.true

pub returns-in-End : goal.returns-in-End
returns-in-End c =
    let source = c.args.source.now in (
      c.loop-found.invariant.small,
      all_spelled (hash_line source) (drop (hash_line source) source) c.loop-found.found
          (c.loop-found.invariant.spells [] (done (sym c.in_ok-begin.ensures.front ∙ c.in-End.is))),
    )

pub loop-found-preserved-in-Gap : goal.loop-found-preserved-in-Gap
loop-found-preserved-in-Gap c =
    let rest = c.loop-found.rest.now in
    let len = length c.args.source.now in
    let n = c.in-Gap.n in
    let line = c.loop-found.line in
    let lines = c.in-Gap.lines in
    let e = sym c.in_ok-begin.ensures.front ∙ c.in-Gap.is in
    let w = subst (λ f. Within f (length rest)) c.in-Gap.is c.in_ok-begin.ensures.within in
    let back = c.split_at-in-Gap.ensures.back in
    let shorter = ap (λ (l : List ℕ). length l) back ∙ length-drop n rest in
    let before = c.loop-found.invariant in
    record {
      small = before.small;
      within = omega (arith, shorter, before.within);
      lines = omega (arith, shorter, before.lines, before.within, w.1, w.2);
      spells = λ ts d. before.spells ts (gap_spells len line n lines rest ts e w.1 before.within
          (subst (λ r. Spells (len - length r) (line + lines) r ts) back d));
      faulty = λ f d. before.faulty f (gap_faulty len line n lines rest f e w.1 before.within
          (subst (λ r. Faulty (len - length r) (line + lines) r f) back d));
    }

pub loop-found-preserved : goal.loop-found-preserved
loop-found-preserved c =
    let source = c.args.source.now in
    let rest = c.loop-found.rest.now in
    let len = length source in
    let n = c.in-Item.n in
    let line = c.loop-found.line in
    let lines = c.in-Item.lines in
    let e = sym c.in_ok-begin.ensures.front ∙ c.in-Item.is in
    let w = subst (λ f. Within f (length rest)) c.in-Item.is c.in_ok-begin.ensures.within in
    let back = c.split_at-in-Item.ensures.back in
    let shorter = ap (λ (l : List ℕ). length l) back ∙ length-drop n rest in
    let before = c.loop-found.invariant in
    let tok : Token = record { kind = c.in-Item.kind; line = line; from = len - length rest; to = len - length rest + n } in
    record {
      small = before.small;
      within = omega (arith, shorter, before.within);
      lines = omega (arith, shorter, before.lines, before.within, w.1, w.2);
      spells = λ ts d. subst (λ l. Spells (hash_line source) 1 (drop (hash_line source) source) l)
          (sym (ap (λ (l : List Token). l ++ ts) c.in_ok-push-in-Item.ensures.ok ∙ append_assoc c.loop-found.found (tok ∷ []) ts))
          (before.spells (tok ∷ ts) (item_spells len line n lines c.in-Item.kind rest ts e w.1 before.within
          (subst (λ r. Spells (len - length r) (line + lines) r ts) back d)));
      faulty = λ f d. before.faulty f (item_faulty len line n lines c.in-Item.kind rest f e w.1 before.within
          (subst (λ r. Faulty (len - length r) (line + lines) r f) back d));
    }

pub returns-in-Bad : goal.returns-in-Bad
returns-in-Bad c = faulty c.loop-found.invariant.small (c.loop-found.invariant.faulty _ (here (sym c.in_ok-begin.ensures.front ∙ c.in-Bad.is)))
