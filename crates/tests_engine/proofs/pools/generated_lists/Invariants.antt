use Rattle.tests_engine.proofs.pools.generated_lists.Given as goal

abbrev pub ghosts-first_wrong : goal.ghosts-first_wrong
ghosts-first_wrong g a = record { name = a.blank.name; parts = a.blank.parts }
