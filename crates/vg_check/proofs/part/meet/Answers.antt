use Rattle.std.proofs.Common.{true, false}
use Rattle.vg_check.proofs.part.meet.Goals as goal

pub meet_all-requires-clause-xs_rise : goal.meet_all-requires-clause-xs_rise
meet_all-requires-clause-xs_rise c = rw c.deref.ensures.value (c.requires.xs false).rising

pub meet_all-requires-clause-ys_rise : goal.meet_all-requires-clause-ys_rise
meet_all-requires-clause-ys_rise c = rw c.deref-2.ensures.value (c.requires.ys false).rising

pub meet_all-requires-clause-xs_small : goal.meet_all-requires-clause-xs_small
meet_all-requires-clause-xs_small c = rw c.deref.ensures.value (c.requires.xs false).modest

pub meet_all-requires-clause-ys_small : goal.meet_all-requires-clause-ys_small
meet_all-requires-clause-ys_small c = rw c.deref-2.ensures.value (c.requires.ys false).modest

pub meet_all-requires-2-clause-xs_rise : goal.meet_all-requires-2-clause-xs_rise
meet_all-requires-2-clause-xs_rise c = rw c.deref-3.ensures.value (c.requires.xs true).rising

pub meet_all-requires-2-clause-ys_rise : goal.meet_all-requires-2-clause-ys_rise
meet_all-requires-2-clause-ys_rise c = rw c.deref-4.ensures.value (c.requires.ys true).rising

pub meet_all-requires-2-clause-xs_small : goal.meet_all-requires-2-clause-xs_small
meet_all-requires-2-clause-xs_small c = rw c.deref-3.ensures.value (c.requires.xs true).modest

pub meet_all-requires-2-clause-ys_small : goal.meet_all-requires-2-clause-ys_small
meet_all-requires-2-clause-ys_small c = rw c.deref-4.ensures.value (c.requires.ys true).modest
