use Rattle.std.proofs.Common.{◌+◌, ◌++◌, ap, ◌∙◌, arith}
use Rattle.vg_gen.specs.declared.net.Segment.{Segment}
use Rattle.vg_gen.specs.Nets.{line_resistor, resistance}
use Rattle.vg_gen.specs.Lines.{res_line, ended}
use Rattle.vg_gen.proofs.LineLemmas.{lines_more}
use Rattle.vg_gen.proofs.NetLemmas.{length_of_line, segment_at}
use Rattle.vg_gen.proofs.spef.print_line_ress.Goals as goal

pub bounds-line-i : goal.bounds-line-i
bounds-line-i c = omega (arith, length_of_line c.args.size c.args.line.now c.requires)

pub res-preserved : goal.res-preserved
res-preserved c =
    let size = c.args.size in
    let i = c.res.i in
    c.in_ok-print_res.ensures
    ∙ ap (λ resistor. c.res.to.items ++ ended (res_line (i + 1) resistor)) c.line_resistor-resistor.ensures
    ∙ ap (λ (piece : Segment). c.res.to.items ++ ended (res_line (i + 1) (line_resistor (i + 1) piece.ohms)))
    (segment_at size c.args.line.now i (record { ohms = 0; femtofarads = 0 }) c.requires c.res-test.true)
    ∙ ap (λ xs. xs ++ ended (res_line (i + 1) (line_resistor (i + 1) (resistance size (i + 1))))) c.res.invariant
    ∙ lines_more (λ k. res_line k (line_resistor k (resistance size k))) c.args.to.now.items i
