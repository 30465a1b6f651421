use Rattle.std.proofs.Common.{◌+◌, ◌-◌, ◌/◌, arith}
use Rattle.vg_check.proofs.CoverLemmas.{halving_down, halving_up}
use Rattle.vg_check.proofs.cover.count_within.Goals as goal

pub search-preserved-then-entries-middle : goal.search-preserved-then-entries-middle
search-preserved-then-entries-middle c =
    halving_up c.args.entries.now c.args.load c.search.low c.search.high (c.search.low + (c.search.high - c.search.low) / 2) c.requires (omega arith) (omega arith)
    c.search.invariant

pub search-preserved : goal.search-preserved
search-preserved c =
    halving_down c.args.entries.now c.args.load c.search.low c.search.high (c.search.low + (c.search.high - c.search.low) / 2) c.requires (omega arith) (omega arith)
    (omega arith) c.search.invariant
