use Rattle.vg_gen.proofs.LawLemmas.{numbered}
use Rattle.vg_gen.proofs.laws.lines_are_numbered.Goals as goal

pub returns : goal.returns
returns c = numbered
