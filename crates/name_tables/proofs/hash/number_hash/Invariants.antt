use Rattle.std.proofs.Common.{◌≡◌, take}
use Rattle.std.specs.List.{fold}
use Rattle.name_tables.specs.Hashes.{number_with}
use Rattle.name_tables.proofs.hash.number_hash.Given as goal

abbrev pub invariant-digit : goal.invariant-digit
invariant-digit l = l.hash ≡ fold number_with 0 (take l.digit-index l.digits)
