-- What stands on a desk.
use Rattle.std.specs.Prelude.{List, ◌++◌}
use Rattle.vg_front.specs.declared.offer.Proposal.{Proposal}
use Rattle.vg_front.specs.declared.propose.Desk.{Desk}

-- the proposals that were kept, and the fresh ones
abbrev pub all_in : Desk → List Proposal
all_in desk = desk.made.items ++ desk.fresh.items
