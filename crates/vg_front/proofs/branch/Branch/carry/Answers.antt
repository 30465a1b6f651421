use Rattle.std.proofs.Common.{true, false}
use Rattle.vg_front.proofs.branch.Branch.carry.Goals as goal

pub carry-requires-clause-bounded : goal.carry-requires-clause-bounded
carry-requires-clause-bounded c = c.requires.bounded false

pub carry-requires-2-clause-bounded : goal.carry-requires-2-clause-bounded
carry-requires-2-clause-bounded c = c.requires.bounded true
