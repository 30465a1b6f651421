-- What is known of the nodes of a net while they come in, each to its parent, from the last to the first.
use Rattle.std.specs.Prelude.{◌≡◌, ℕ, ◌<◌, List, [], ◌∷◌, ◌++◌, length, slice_index_or, Option}
use Rattle.elmore.specs.declared.problem.Problem.{Problem}
use Rattle.sol_arena.specs.declared.slot.Made.{Made}
use Rattle.cand_pairs.specs.Parts.{IsDeadPart}
use Rattle.vg_front.specs.Branches.{list_of, all_of}
use Rattle.vg_front.specs.Fronts.{IsOpenAt}
use Rattle.vg_front.specs.declared.offer.Candidate.{Candidate}
use Rattle.vg_front.specs.declared.part.Part.{Part}
use Rattle.vg_front.specs.declared.part.Part.TheVariants.{Dead, Live}

-- the candidates of a part
abbrev pub held_in : Part → List Candidate
held_in (Dead c) = []
held_in (Live branch) = all_of branch

-- the part of node v, with those of its children from number i on that came in
abbrev pub IsPart : Problem → Option ℕ → ℕ → ℕ → List Made → Part → Type 0
IsPart p cap i v ms (Dead c) = IsDeadPart p i v c
IsPart p cap i v ms (Live branch) = IsOpenAt p cap i v ms (list_of branch)

-- the candidates of all these parts
abbrev pub all_held : List Part → List Candidate
all_held [] = []
all_held (part ∷ parts) = held_in part ++ all_held parts

abbrev pub part_at : List Part → ℕ → Part
part_at parts v = slice_index_or parts v (Dead 0)

-- the parts of the nodes below number i, with those of their children from number i on
pub record AreParts (p : Problem) (cap : Option ℕ) (i : ℕ) (ms : List Made) (parts : List Part) : Type 0 where
  pub one_each : length parts ≡ i
  pub each : (v : ℕ) → v < i → IsPart p cap i v ms (part_at parts v)
