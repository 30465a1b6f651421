use Rattle.std.proofs.Common.{◌≡◌, ◌++◌, map}
use Rattle.vg_gen.specs.Nets.{up_to, capacitance}
use Rattle.vg_gen.specs.Lines.{cap_line, lined}
use Rattle.vg_gen.proofs.spef.print_caps.Given as goal

abbrev pub invariant-cap : goal.invariant-cap
invariant-cap l = l.to.items ≡ l.initial.to.items ++ lined (map (λ i. cap_line i (capacitance l.size i)) (up_to l.i))
