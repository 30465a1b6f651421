use Rattle.vg_repair.proofs.search.best_of.Given as goal

abbrev pub ghosts-counted_best : goal.ghosts-counted_best
ghosts-counted_best a = record { name = a.blank.name; parts = a.blank.parts }
