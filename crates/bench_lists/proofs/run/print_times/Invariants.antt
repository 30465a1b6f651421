use Rattle.bench_lists.proofs.run.print_times.Given as goal

abbrev pub ghosts-time_all : goal.ghosts-time_all
ghosts-time_all a = record { name = a.blank.name; parts = a.blank.parts }
