use Rattle.cand_lists.proofs.ExactLemmas.{both_exact, both_take}
use Rattle.cand_lists.proofs.laws.both_are_exact.Goals as goal

pub returns : goal.returns
returns c = record { exact = both_exact; taken = both_take }
