use Rattle.std.proofs.Common.{◌≡◌, take}
use Rattle.name_tables.proofs.same.is_same.Given as goal

abbrev pub invariant-byte : goal.invariant-byte
invariant-byte l = take l.at l.one ≡ take l.at l.other
