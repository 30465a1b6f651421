use Rattle.std.proofs.Common.{true, false}
use Rattle.vg_check.proofs.part.load.Goals as goal

pub raise-requires-clause-rise : goal.raise-requires-clause-rise
raise-requires-clause-rise c = rw c.deref_mut.ensures.value (c.requires.classes false).rising

pub raise-requires-clause-limits : goal.raise-requires-clause-limits
raise-requires-clause-limits c = rw c.deref_mut.ensures.value (c.requires.classes false).modest

pub raise-requires-2-clause-rise : goal.raise-requires-2-clause-rise
raise-requires-2-clause-rise c = rw c.deref_mut-2.ensures.value (c.requires.classes true).rising

pub raise-requires-2-clause-limits : goal.raise-requires-2-clause-limits
raise-requires-2-clause-limits c = rw c.deref_mut-2.ensures.value (c.requires.classes true).modest
