use Rattle.vg_convex.proofs.search.find_next.Given as goal

abbrev pub ghost-grow : goal.ghost-grow
ghost-grow g a = g.xs

abbrev pub ghost-find : goal.ghost-find
ghost-find g a = g.xs
