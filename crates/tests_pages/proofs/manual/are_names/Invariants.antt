use Rattle.std.proofs.Common.{◌≡◌, map, take}
use Rattle.tests_pages.specs.Manual.{written_name}
use Rattle.tests_pages.proofs.manual.are_names.Given as goal

abbrev pub invariant-option : goal.invariant-option
invariant-option l = map (λ option. option.now) (take l.at l.found) ≡ map written_name (take l.at l.options)
