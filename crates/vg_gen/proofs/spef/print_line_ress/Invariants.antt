use Rattle.std.proofs.Common.{◌≡◌, ◌++◌, map}
use Rattle.vg_gen.specs.Nets.{up_to, line_resistor, resistance}
use Rattle.vg_gen.specs.Lines.{res_line, lined}
use Rattle.vg_gen.proofs.spef.print_line_ress.Given as goal

abbrev pub invariant-res : goal.invariant-res
invariant-res l = l.to.items ≡ l.initial.to.items ++ lined (map (λ i. res_line i (line_resistor i (resistance l.size i))) (up_to l.i))
