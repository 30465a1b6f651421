use Rattle.std.proofs.Common.{true, false}
use Rattle.cand_turns.proofs.branch.Branch.find.Goals as goal

pub find_at-requires-clause-live : goal.find_at-requires-clause-live
find_at-requires-clause-live g c = c.requires.live false

pub find_at-requires-clause-rising : goal.find_at-requires-clause-rising
find_at-requires-clause-rising g c = c.requires.rising false

pub find_at-requires-clause-modest : goal.find_at-requires-clause-modest
find_at-requires-clause-modest g c = c.requires.modest false

pub find_at-requires-2-clause-live : goal.find_at-requires-2-clause-live
find_at-requires-2-clause-live g c = c.requires.live true

pub find_at-requires-2-clause-rising : goal.find_at-requires-2-clause-rising
find_at-requires-2-clause-rising g c = c.requires.rising true

pub find_at-requires-2-clause-modest : goal.find_at-requires-2-clause-modest
find_at-requires-2-clause-modest g c = c.requires.modest true
