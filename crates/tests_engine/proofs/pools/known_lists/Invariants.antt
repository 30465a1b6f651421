use Rattle.tests_engine.proofs.pools.known_lists.Given as goal

abbrev pub ghosts-known : goal.ghosts-known
ghosts-known g a = record { name = a.blank.name; parts = a.blank.parts }
