use Rattle.std.proofs.Common.{◌≡◌, ◌++◌}
use Rattle.vg_gen.specs.Nets.{up_to}
use Rattle.vg_gen.specs.Lines.{lined}
use Rattle.vg_gen.specs.Texts.{wants}
use Rattle.vg_gen.proofs.constraints.print_wants.Given as goal

abbrev pub invariant-want : goal.invariant-want
invariant-want l = l.to.items ≡ l.initial.to.items ++ lined (wants (up_to l.at))
