use Rattle.cand_lists.proofs.ExactLemmas.{load_exact}
use Rattle.cand_lists.proofs.laws.load_is_exact.Goals as goal

pub returns : goal.returns
returns c = record { exact = load_exact }
