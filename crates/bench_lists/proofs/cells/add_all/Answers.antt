use Rattle.std.proofs.Common.{[], ap, arith, length}
use Rattle.elmore.specs.declared.allowed.Allowed.TheVariants.{All as AllOf}
use Rattle.cand_pool.specs.Pools.{items_of}
use Rattle.bench_lists.proofs.Lengths.{small_modest}
use Rattle.bench_lists.proofs.BranchLaws.{stays_beside, all_live, all_uncut, made_held}
use Rattle.bench_lists.proofs.cells.add_all.Goals as goal

pub find_each-requires-clause-modest : goal.find_each-requires-clause-modest
find_each-requires-clause-modest g c = small_modest _ c.bent-from.ensures.ready.made.1

pub add_cells-requires-clause-found : goal.add_cells-requires-clause-found
add_cells-requires-clause-found g c = (
  AllOf,
  λ _. items_of c.bent-from.new.pool c.bent-from.result,
  record { by_buffers = c.in_ok-find_each.ensures.found; by_inverters = c.in_ok-find_each.ensures.found },
  λ _. record { live = all_live c.args.arena.now _ c.bent-from.ensures.ready.bare; bare = all_uncut c.args.arena.now 0 _ c.bent-from.ensures.ready.bare },
)

pub add_cells-requires-clause-room : goal.add_cells-requires-clause-room
add_cells-requires-clause-room g c =
    omega (arith, ap length c.as_slice-reps.ensures.value, c.requires.library.few, c.requires.room, c.bent-from.ensures.spare)

pub returns-clause-added : goal.returns-clause-added
returns-clause-added g c =
    let two = stays_beside c.bent-from.new.pool c.add_cells.new.pool c.bent-from.result c.in_ok-made.made c.bent-from.ensures.ready c.in_ok-made.ensures.list c.in_ok-made.ensures.others in
    record { ready = two.ready; live = c.in_ok-made.ensures.list; held = made_held _ _ [] _ tt c.in_ok-made.ensures.uses; differ = two.differ }

pub returns-clause-spare : goal.returns-clause-spare
returns-clause-spare g c =
    let two = stays_beside c.bent-from.new.pool c.add_cells.new.pool c.bent-from.result c.in_ok-made.made c.bent-from.ensures.ready c.in_ok-made.ensures.list c.in_ok-made.ensures.others in
    let same = ap length two.same in
    let size = c.bent-from.ensures.size in
    let one = c.bent-from.ensures.spare in
    let other = c.in_ok-made.ensures.spare in
    omega (arith, same, size, one, other)
