-- Two branches meet: the first candidates of two lists make one at the end of a third.
use Rattle.std.specs.Prelude.{◌≡◌, ℕ, List, [], ◌∷◌, ◌++◌}
use Rattle.cand_pool.specs.Candidates.{Candidate, Candidates, formed}
use Rattle.cand_pool.specs.Pools.{Block, spare, KeepsOthers}
use Rattle.cand_pool.specs.Sequences.{left_of, spare_after}
use Rattle.cand_pool.specs.Sieves.{IsSieve}
use Rattle.cand_pool.specs.declared.join_pair.Branches.{Branches}

-- the three lists differ, and these are their sequences
abbrev pub AreBranches : Block → Branches → Candidates → Candidates → Candidates → Type 0
AreBranches s at zs xs ys = IsSieve s at.a at.list at.b xs zs ys

abbrev pub branch_names : Branches → List ℕ
branch_names at = at.list.first ∷ at.a.first ∷ at.b.first ∷ []

-- x and y, the first of the branches, are joined
pub record AreJoined (s s' : Block) (at at' : Branches) (x y : Candidate) (zs xs ys : Candidates)
    (tag : ℕ) : Type 0 where
  pub branches : AreBranches s' at' (zs ++ formed x y tag ∷ []) (left_of x y xs) (left_of y x ys)
  pub others : KeepsOthers s (branch_names at) s' (branch_names at')
  pub free : spare s' ≡ spare_after x y (spare s)
