use Rattle.cand_pool.proofs.KeptLaws.{kept_covers, kept_rises, kept_taken}
use Rattle.cand_pool.proofs.laws.kept_covers.Goals as goal

pub returns : goal.returns
returns c = record { covers = kept_covers; rises = kept_rises; taken = kept_taken }
