use Rattle.std.proofs.Common.{refl}
use Rattle.lib_cells.specs.Reducing.{is_not}
use Rattle.lib_cells.proofs.ReduceLemmas.{count_ink, not_ink}
use Rattle.lib_cells.proofs.function.inverts.Goals as goal

pub returns : goal.returns
returns c = rw (c.count_nots.ensures.count, c.count_nots-2.ensures.count, count_ink is_not not_ink c.args.text.now) refl
