use Rattle.std.proofs.Common.{◌≡◌}
use Rattle.ver_file.specs.Firsts.{first_of}
use Rattle.ver_file.proofs.PinLemmas.{flaws_among}
use Rattle.ver_file.proofs.check.many_pin_flaws.Given as goal

abbrev pub invariant-pin : goal.invariant-pin
invariant-pin g l = record {
  left : first_of l.first (flaws_among l.scope.text.now l.names l.pin-iterator) ≡ first_of l.initial.first (flaws_among l.scope.text.now l.initial.names l.initial.pin-iterator);
}
