use Rattle.std.proofs.Common.{◌≡◌, take}
use Rattle.std.specs.List.{fold}
use Rattle.name_tables.specs.Hashes.{byte_with}
use Rattle.name_tables.proofs.hash.word_of.Given as goal

abbrev pub invariant-byte : goal.invariant-byte
invariant-byte l = l.word ≡ fold byte_with 0 (take l.byte-index l.bytes)
