use Rattle.std.proofs.Common.{◌≡◌, ◌++◌}
use Rattle.mode_width.proofs.PrintLemmas.{rows_to}
use Rattle.mode_width.proofs.print.print_widths.Given as goal

abbrev pub invariant-wire : goal.invariant-wire
invariant-wire l = l.to.items ≡ l.initial.to.items ++ rows_to l.names l.chosen l.at
