use Rattle.std.proofs.Common.{◌≡◌, take}
use Rattle.name_tables.specs.Hashes.{words_hash}
use Rattle.name_tables.proofs.hash.mixed_hash.Given as goal

abbrev pub invariant-word : goal.invariant-word
invariant-word l = l.hash ≡ words_hash (take l.word-index l.words)
