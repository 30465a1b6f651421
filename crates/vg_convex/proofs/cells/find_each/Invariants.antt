use Rattle.cand_pool.specs.Pools.{items_of}
use Rattle.vg_convex.proofs.cells.find_each.Given as goal

abbrev pub ghost-find_all : goal.ghost-find_all
ghost-find_all g a = items_of a.pool.now a.from.now

abbrev pub ghost-scan_all : goal.ghost-scan_all
ghost-scan_all g a = items_of a.pool.now a.from.now
