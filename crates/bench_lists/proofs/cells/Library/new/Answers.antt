use Rattle.std.proofs.Common.{List, length, ap, subst, arith}
use Rattle.elmore.specs.declared.rep.Rep.{Rep}
use Rattle.vg_convex.specs.Orders.{IsShelf}
use Rattle.bench_lists.proofs.cells.Library.new.Goals as goal

pub returns : goal.returns
returns c =
    let same = ap length c.deref.ensures.value in
    let all = c.in_ok-reps.ensures in
    let most = c.requires in
    record { shelf = subst (λ (reps : List Rep). IsShelf reps c.in_ok-shelf.shelf) c.deref.ensures.value c.in_ok-shelf.ensures; few = omega (arith, same, all, most) }
