use Rattle.std.proofs.Common.{true, false}
use Rattle.vg_check.proofs.PartLemmas.{list_worked}
use Rattle.vg_check.proofs.part.above_wire.Goals as goal

pub through_wire-requires-clause-rise : goal.through_wire-requires-clause-rise
through_wire-requires-clause-rise c = rw c.deref.ensures.value (c.requires.lists false).rising

pub through_wire-requires-clause-limits : goal.through_wire-requires-clause-limits
through_wire-requires-clause-limits c = rw c.deref.ensures.value (list_worked c.args.lists.now.even.items (c.requires.lists false)).modest

pub through_wire-requires-2-clause-rise : goal.through_wire-requires-2-clause-rise
through_wire-requires-2-clause-rise c = rw c.deref-2.ensures.value (c.requires.lists true).rising

pub through_wire-requires-2-clause-limits : goal.through_wire-requires-2-clause-limits
through_wire-requires-2-clause-limits c = rw c.deref-2.ensures.value (list_worked c.args.lists.now.odd.items (c.requires.lists true)).modest
