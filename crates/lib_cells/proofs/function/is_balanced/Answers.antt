use Rattle.std.proofs.Common.{refl}
use Rattle.lib_cells.specs.Reducing.{is_open, is_close}
use Rattle.lib_cells.proofs.ReduceLemmas.{count_ink, open_ink, close_ink}
use Rattle.lib_cells.proofs.function.is_balanced.Goals as goal

pub returns : goal.returns
returns c =
    rw (c.count.ensures.count, c.count-2.ensures.count, c.count-3.ensures.count, c.count-4.ensures.count, count_ink is_open open_ink c.args.text.now, count_ink is_close close_ink c.args.text.now) refl
