use Rattle.vg_convex.proofs.search.find.Given as goal

abbrev pub ghost-greatest_on : goal.ghost-greatest_on
ghost-greatest_on g a = g.xs
