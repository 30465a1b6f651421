use Rattle.ver_patch.proofs.LawLemmas.{heads_end_first, spans_rise, spans_stand}
use Rattle.ver_patch.proofs.laws.spans_rise.Goals as goal

pub returns-clause-head : goal.returns-clause-head
returns-clause-head c = heads_end_first c.tokens_stand_in_order.ensures c.items_stand_at_their_start.ensures.items

pub returns-clause-stand : goal.returns-clause-stand
returns-clause-stand c = spans_stand c.tokens_stand_in_order.ensures c.items_stand_at_their_start.ensures.items

pub returns-clause-rise : goal.returns-clause-rise
returns-clause-rise c = spans_rise c.tokens_stand_in_order.ensures c.items_stand_at_their_start.ensures.items
