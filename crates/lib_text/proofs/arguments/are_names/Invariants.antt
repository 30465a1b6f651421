use Rattle.std.proofs.Common.{◌≡◌, ◌-◌, ◌≤◌, length, drop}
use Rattle.lib_text.specs.Arguments.{are_names}
use Rattle.lib_text.proofs.arguments.are_names.Given as goal

abbrev pub invariant-argument : goal.invariant-argument
invariant-argument l = record {
  within : l.at ≤ length l.list;
  names : are_names l.list ≡ are_names (drop l.at l.list);
}

abbrev pub decreases-argument : goal.decreases-argument
decreases-argument l = length l.list - l.at
