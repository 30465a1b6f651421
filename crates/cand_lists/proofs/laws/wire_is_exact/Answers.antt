use Rattle.cand_lists.proofs.ExactLemmas.{wire_exact, wire_takes, wire_loads}
use Rattle.cand_lists.proofs.laws.wire_is_exact.Goals as goal

pub returns : goal.returns
returns c = record { exact = wire_exact; taken = wire_takes; loaded = wire_loads }
