use Rattle.std.proofs.Common.{◌≤◌, length}
use Rattle.lib_text.specs.Found.{left}
use Rattle.lib_text.specs.Reading.{HasRead}
use Rattle.lib_text.proofs.syntax.check_syntax.Given as goal

abbrev pub invariant-token : goal.invariant-token
invariant-token l = record {
  within : l.at ≤ length l.text;
  read : HasRead l.text l.content l.at l.state;
}

abbrev pub decreases-token : goal.decreases-token
decreases-token l = left l.text l.content l.at
