use Rattle.std.proofs.Common.{rules}
use Rattle.vg_cons.proofs.BoxTreeLemmas.{covers_kept, below, above}
use Rattle.vg_cons.proofs.box_tree.around.Goals as goal

pub returns-clause-one : goal.returns-clause-one
returns-clause-one c =
    covers_kept {l = c.min.result} {b = c.min-2.result} {r = c.max.result} {t = c.max-2.result} {box = c.args.one} (search rules) (search rules) (search rules) (search rules)
    (below (search rules) c.min.ensures.self_bound c.of.ensures) (below (search rules) c.min-2.ensures.self_bound c.of-3.ensures)
    (above (search rules) c.max.ensures.self_bound c.of-5.ensures) (above (search rules) c.max-2.ensures.self_bound c.of-7.ensures)

pub returns-clause-other : goal.returns-clause-other
returns-clause-other c =
    covers_kept {l = c.min.result} {b = c.min-2.result} {r = c.max.result} {t = c.max-2.result} {box = c.args.other} (search rules) (search rules) (search rules) (search rules)
    (below (search rules) c.min.ensures.other_bound c.of-2.ensures) (below (search rules) c.min-2.ensures.other_bound c.of-4.ensures)
    (above (search rules) c.max.ensures.other_bound c.of-6.ensures) (above (search rules) c.max-2.ensures.other_bound c.of-8.ensures)
