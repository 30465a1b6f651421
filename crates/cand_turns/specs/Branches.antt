-- The lists of a branch in a pool: one for a signal that is not inverted at its node, and one for a signal that is.
use Rattle.std.specs.Prelude.{Bool, cond, ◌∷◌, []}
use Rattle.cand_pool.specs.Candidates.{Candidates}
use Rattle.cand_pool.specs.Pools.{Block, items_of}
use Rattle.cand_pool.specs.declared.ends.List.{List as NamedList}
use Rattle.cand_turns.specs.declared.branch.Branch.{Branch}
use Rattle.cand_turns.specs.Swaps.{Lists}

-- the list of a class
abbrev pub list_of : Branch → Bool → NamedList
list_of branch odd = cond odd branch.odd branch.even

abbrev pub lists_of : Branch → Lists
lists_of branch = branch.even ∷ branch.odd ∷ []

-- the candidates of each class
abbrev pub classes_in : Block → Branch → Bool → Candidates
classes_in s branch odd = items_of s (list_of branch odd)
