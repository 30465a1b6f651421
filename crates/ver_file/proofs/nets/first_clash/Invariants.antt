use Rattle.ver_file.specs.Clashes.{AreFound}
use Rattle.ver_file.proofs.nets.first_clash.Given as goal

abbrev pub invariant-identifier : goal.invariant-identifier
invariant-identifier l = record { found : AreFound l.scope.text.now l.at l.first }
