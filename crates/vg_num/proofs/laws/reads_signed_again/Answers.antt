use Rattle.vg_num.proofs.ReadingLemmas.{whole_reads}
use Rattle.vg_num.proofs.laws.reads_signed_again.Goals as goal

pub returns : goal.returns
returns c = whole_reads
