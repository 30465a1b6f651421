use Rattle.std.proofs.Common.{rules, Some, refl}
use Rattle.vg_convex.proofs.Finds.{driver_found}
use Rattle.vg_convex.proofs.Numbers.{modest_point}
use Rattle.vg_convex.proofs.search.put_free.Goals as goal

pub made_of-requires : goal.made_of-requires
made_of-requires g c =
    let (driver, (rise, (modest, ((i, at, best), (row, rising))))) = c.requires in
    modest_point g.xs c.args.point i modest at

pub returns-then-is_allowed : goal.returns-then-is_allowed
returns-then-is_allowed g c =
    let (driver, (rise, (modest, ((i, at, best), (row, rising))))) = c.requires in (
      Some c.made_of.result,
      (
        c.if-is_allowed.ensures.0 (search rules),
        driver_found g.xs c.args.reps.now c.args.driver i c.args.point c.made_of.result driver rise at best c.made_of.ensures.tag c.made_of.ensures.time,
      ),
      refl,
    )
