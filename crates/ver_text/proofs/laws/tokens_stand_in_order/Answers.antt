use Rattle.ver_text.proofs.OrderLemmas.{stand_in_order}
use Rattle.ver_text.proofs.laws.tokens_stand_in_order.Goals as goal

pub returns : goal.returns
returns c = stand_in_order
