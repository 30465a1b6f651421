use Rattle.spef_write.proofs.SpliceLemmas.{cuts_keep_comments as law}
use Rattle.spef_write.proofs.laws.cuts_keep_comments.Goals as goal

pub returns : goal.returns
returns c = law
