use Rattle.std.proofs.Common.{◌≡◌, take}
use Rattle.std.specs.List.{flat_map}
use Rattle.tests_pages.specs.Manual.{escaped}
use Rattle.tests_pages.proofs.manual.written_name.Given as goal

abbrev pub invariant-byte : goal.invariant-byte
invariant-byte l = l.text.items ≡ flat_map escaped (take l.at l.name)
