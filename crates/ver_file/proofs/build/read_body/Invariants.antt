use Rattle.std.proofs.Common.{length}
use Rattle.ver_file.specs.Bodies.{HasScope, IsBodyWith}
use Rattle.ver_file.proofs.build.read_body.Given as goal

abbrev pub invariant-item : goal.invariant-item
invariant-item l = record {
  scope : HasScope l.scope l.body;
  read : IsBodyWith l.scope.text.now l.items l.seen.instances l.body;
}

abbrev pub decreases-item : goal.decreases-item
decreases-item l = length l.items
