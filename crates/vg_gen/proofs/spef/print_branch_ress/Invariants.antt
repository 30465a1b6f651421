use Rattle.std.proofs.Common.{◌≡◌, ◌+◌, ◌++◌, map}
use Rattle.vg_gen.specs.Nets.{up_to, branch_resistor}
use Rattle.vg_gen.specs.Lines.{res_line, lined}
use Rattle.vg_gen.proofs.spef.print_branch_ress.Given as goal

abbrev pub invariant-branch : goal.invariant-branch
invariant-branch l = l.to.items ≡ l.initial.to.items ++ lined (map (λ j. res_line (l.size + 1 + j) (branch_resistor j)) (up_to l.at))
