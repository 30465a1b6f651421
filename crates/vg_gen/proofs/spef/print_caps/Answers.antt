use Rattle.std.proofs.Common.{◌+◌, ◌++◌, ap, ◌∙◌, arith}
use Rattle.vg_gen.specs.declared.net.Segment.{Segment}
use Rattle.vg_gen.specs.Nets.{capacitance}
use Rattle.vg_gen.specs.Lines.{cap_line, ended}
use Rattle.vg_gen.proofs.LineLemmas.{lines_more}
use Rattle.vg_gen.proofs.NetLemmas.{length_of_line, segment_at}
use Rattle.vg_gen.proofs.spef.print_caps.Goals as goal

pub bounds-line-i : goal.bounds-line-i
bounds-line-i c = omega (arith, length_of_line c.args.size c.args.line.now c.requires)

pub cap-preserved : goal.cap-preserved
cap-preserved c =
    let size = c.args.size in
    let i = c.cap.i in
    c.in_ok-print_cap.ensures
    ∙ ap (λ (piece : Segment). c.cap.to.items ++ ended (cap_line (i + 1) piece.femtofarads))
    (segment_at size c.args.line.now i (record { ohms = 0; femtofarads = 0 }) c.requires c.cap-test.true)
    ∙ ap (λ xs. xs ++ ended (cap_line (i + 1) (capacitance size (i + 1)))) c.cap.invariant
    ∙ lines_more (λ k. cap_line k (capacitance size k)) c.args.to.now.items i
