use Rattle.std.proofs.Common.{◌≡◌, ◌++◌}
use Rattle.vg_gen.specs.Lines.{lined}
use Rattle.vg_gen.specs.Texts.{branch_sinks}
use Rattle.vg_gen.proofs.spef.print_branch_sinks.Given as goal

abbrev pub invariant-branch : goal.invariant-branch
invariant-branch l = l.to.items ≡ l.initial.to.items ++ lined (branch_sinks l.at)
