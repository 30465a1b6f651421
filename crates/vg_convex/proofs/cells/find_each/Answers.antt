use Rattle.std.proofs.Common.{arith}
use Rattle.cand_pool.specs.Pools.{items_of}
use Rattle.vg_convex.proofs.Numbers.{rise_of}
use Rattle.vg_convex.proofs.cells.find_each.Goals as goal

pub find_all-requires : goal.find_all-requires
find_all-requires g c κs within = (
  within,
  (
    c.requires.from,
    (
      rise_of (items_of c.args.pool.now c.args.from.now) c.requires.rising,
      (
        c.requires.modest,
        (
          c.in_ok-clear.ensures.stack,
          (
            record { room = omega (arith, c.in_ok-clear.ensures.rows); none = c.in_ok-clear.ensures.none },
            (c.requires.shelf, c.requires.allowed),
          ),
        ),
      ),
    ),
  ),
)

pub scan_all-requires : goal.scan_all-requires
scan_all-requires g c κs within = (
  within,
  (
    c.requires.from,
    (
      rise_of (items_of c.args.pool.now c.args.from.now) c.requires.rising,
      (
        c.requires.modest,
        (
          record { room = omega (arith, c.in_ok-clear.ensures.rows); none = c.in_ok-clear.ensures.none },
          (c.requires.shelf.few, c.requires.allowed),
        ),
      ),
    ),
  ),
)
