use Rattle.std.proofs.Common.{◌≡◌, ◌+◌, ◌-◌, ◌≤◌, length, drop}
use Rattle.lib_text.specs.declared.quoting.Quoting.TheVariants.{Outside}
use Rattle.lib_text.specs.Arguments.{is_comma}
use Rattle.lib_text.specs.Strings.{until}
use Rattle.lib_text.proofs.arguments.argument_end.Given as goal

abbrev pub invariant-argument : goal.invariant-argument
invariant-argument l = record {
  within : l.end ≤ length l.list;
  place : l.at + until is_comma Outside (drop l.at l.list) ≡ l.end + until is_comma l.quoting (drop l.end l.list);
}

abbrev pub decreases-argument : goal.decreases-argument
decreases-argument l = length l.list - l.end
