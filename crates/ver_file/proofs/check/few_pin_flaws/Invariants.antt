use Rattle.std.proofs.Common.{◌≡◌, map}
use Rattle.ver_file.specs.Firsts.{first_of}
use Rattle.ver_items.specs.Sections.{name_at}
use Rattle.ver_file.proofs.PinLemmas.{flaws_among}
use Rattle.ver_file.proofs.check.few_pin_flaws.Given as goal

abbrev pub invariant-pin : goal.invariant-pin
invariant-pin g l = record {
  left :
      first_of l.first (flaws_among l.scope.text.now (map (name_at l.scope.text.now) l.pins.items) l.pin-iterator)
      ≡ first_of l.initial.first (flaws_among l.scope.text.now (map (name_at l.scope.text.now) l.initial.pins.items) l.initial.pin-iterator);
}
