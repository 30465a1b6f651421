use Rattle.std.proofs.Common.{◌≡◌, ◌++◌, take}
use Rattle.std.specs.List.{flat_map}
use Rattle.vg_report.specs.Reports.{sink_line}
use Rattle.vg_report.proofs.wire.print_sinks.Given as goal

abbrev pub invariant-sink : goal.invariant-sink
invariant-sink l = l.to.items ≡ l.initial.to.items ++ flat_map sink_line (take l.at l.sinks)
