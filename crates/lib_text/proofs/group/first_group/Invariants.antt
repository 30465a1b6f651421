use Rattle.std.proofs.Common.{◌≡◌, length}
use Rattle.lib_text.specs.Groups.{groups_from}
use Rattle.lib_text.proofs.group.first_group.Given as goal

abbrev pub invariant-statement : goal.invariant-statement
invariant-statement l = record { left : groups_from l.owner l.name l.rest ≡ groups_from l.owner l.name l.left }

abbrev pub decreases-statement : goal.decreases-statement
decreases-statement l = length l.left
