use Rattle.vg_total.proofs.LawLemmas.{empty_where_none}
use Rattle.vg_total.proofs.laws.empty_where_no_choice.Goals as goal

pub returns : goal.returns
returns c = empty_where_none
