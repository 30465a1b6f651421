use Rattle.ver_syntax.proofs.PlaceLemmas.{items_stand, rows_stand}
use Rattle.ver_syntax.proofs.laws.items_stand_at_their_start.Goals as goal

pub returns-clause-kinds : goal.returns-clause-kinds
returns-clause-kinds c = rows_stand

pub returns-clause-items : goal.returns-clause-items
returns-clause-items c = items_stand
