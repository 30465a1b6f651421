-- The lists of a branch.
use Rattle.std.specs.Prelude.{Bool, cond, List, ◌++◌}
use Rattle.vg_front.specs.declared.branch.Branch.{Branch}
use Rattle.vg_front.specs.declared.offer.Candidate.{Candidate}

-- the list of a class
abbrev pub list_of : Branch → Bool → List Candidate
list_of branch odd = cond odd branch.odd.items branch.even.items

-- the candidates of both
abbrev pub all_of : Branch → List Candidate
all_of branch = branch.even.items ++ branch.odd.items
