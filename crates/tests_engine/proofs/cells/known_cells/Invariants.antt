use Rattle.tests_engine.proofs.cells.known_cells.Given as goal

abbrev pub ghosts-known : goal.ghosts-known
ghosts-known g a = record { name = a.blank.name; parts = a.blank.parts }
