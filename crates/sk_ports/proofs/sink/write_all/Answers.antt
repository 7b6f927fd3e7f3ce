use Rattle.std.proofs.Common.{◌∙◌, ap, sym, take, drop, arith, length-drop, ℕ, List, Option}
use Rattle.std.proofs.lemmas.List.{take_rest}
use Rattle.std.proofs.Math.Seq.{take-add}
use Rattle.sk_ports.specs.Pieces.{appended}
use Rattle.sk_ports.proofs.PiecesLemmas.{appended-appended}
use Rattle.sk_ports.proofs.sink.write_all.Goals as goal

pub loop-done-preserved : goal.loop-done-preserved
loop-done-preserved g c =
    let done = c.loop-done.done in
    let n = c.in_ok-done.field-0 in
    let bytes = c.args.bytes.now in
    let old = g.S.Sink.written c.args.sink.now in
    record {
      within = omega (arith, c.in_ok-done.ensures.some, length-drop {A = ℕ});
      bytes = c.in_ok-done.ensures.bytes
          ∙ ap (λ (p : List ℕ). appended (g.S.Sink.written c.loop-done.sink) (take n p)) (take_rest bytes done)
          ∙ ap (λ (w : Option (List ℕ)). appended w (take n (drop done bytes))) c.loop-done.invariant.bytes
          ∙ appended-appended old (take done bytes) (take n (drop done bytes)) ∙ ap (appended old) (sym (take-add done n bytes));
      faults = c.in_ok-done.ensures.cause.kept ∙ c.loop-done.invariant.faults;
    }
