use Rattle.ver_items.proofs.KeptLemmas.{no_items_kept, nothing_kept}
use Rattle.ver_items.proofs.kept.KeptItems.with_room.Goals as goal

pub invariant_of-result : goal.invariant_of-result
invariant_of-result c = nothing_kept c.new.result.items c.in_ok-rows.rows.items c.new.ensures.items c.in_ok-rows.ensures.items

pub returns : goal.returns
returns c = no_items_kept c.new.result.items c.in_ok-rows.rows.items c.new.ensures.items
