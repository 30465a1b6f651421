use Rattle.bench_lists.proofs.run.print_shown.Given as goal

abbrev pub ghosts-show_all : goal.ghosts-show_all
ghosts-show_all a = record { name = a.blank.name; parts = a.blank.parts }
