use Rattle.std.proofs.Common.{◌≡◌, fold, map}
use Rattle.ver_module.specs.Netlists.{with_pin}
use Rattle.ver_file.specs.Netlists.{pin_of}
use Rattle.ver_file.proofs.build.push_pins.Given as goal

abbrev pub invariant-pin : goal.invariant-pin
invariant-pin g l = record {
  left : fold with_pin l.to (map (pin_of l.scope.text.now) l.pin-iterator) ≡ fold with_pin l.initial.to (map (pin_of l.scope.text.now) l.initial.pin-iterator);
}
