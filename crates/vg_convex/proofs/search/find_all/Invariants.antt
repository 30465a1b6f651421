use Rattle.vg_convex.proofs.search.find_all.Given as goal

abbrev pub ghost-find_limited : goal.ghost-find_limited
ghost-find_limited g a = g.xs

abbrev pub ghost-grow : goal.ghost-grow
ghost-grow g a = g.xs

abbrev pub ghost-find_each_free : goal.ghost-find_each_free
ghost-find_each_free g a = g.xs
