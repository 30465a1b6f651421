-- What is known of a node while the nodes below come in, from the last to the first.
use Rattle.std.specs.Prelude.{ℕ, ◌+◌, ◌*◌, ◌≤◌, Bool, List, [], length}
use Rattle.elmore.specs.declared.problem.Problem.{Problem}
use Rattle.wire_widths.specs.declared.width.Width.{Width}
use Rattle.sol_arena.specs.declared.slot.Made.{Made}
use Rattle.cand_pairs.specs.Parts.{IsDeadPart}
use Rattle.cand_pool.specs.Pools.{Block}
use Rattle.cand_turns.specs.declared.branch.Branch.{Branch}
use Rattle.cand_turns.specs.declared.part.Part.{Part}
use Rattle.cand_turns.specs.declared.part.Part.TheVariants.{Dead, Live}
use Rattle.cand_turns.specs.Swaps.{Lists}
use Rattle.cand_turns.specs.Branches.{lists_of, classes_in}
use Rattle.cand_turns.specs.Solved.{IsOpenAt}

-- the lists of a part
abbrev pub lists_in : Part → Lists
lists_in (Dead c) = []
lists_in (Live branch) = lists_of branch

-- how many candidates a part has in a class
abbrev pub size_in : Block → Part → Bool → ℕ
size_in s (Dead c) odd = 0
size_in s (Live branch) odd = length (classes_in s branch odd)

-- the load beside a branch that comes in: all that came in before, where no sink is there
abbrev pub load_beside : Part → ℕ
load_beside (Dead c) = c
load_beside (Live branch) = 0

-- with a branch that came in under so many widths, a part has in each class no more candidates than it had before, and
-- those of the branch under each width
abbrev pub HasNoMore : ℕ → Block → Part → Branch → Block → Part → Type 0
HasNoMore widths s before branch s' after =
    (odd : Bool) → size_in s' after odd ≤ size_in s before odd + widths * length (classes_in s branch odd)

-- the part of node v, with those of its children from number i on that came in
abbrev pub IsPart : Problem → List Width → ℕ → ℕ → List Made → Block → Part → Type 0
IsPart p widths i v ms s (Dead c) = IsDeadPart p i v c
IsPart p widths i v ms s (Live branch) = IsOpenAt p widths i v ms (classes_in s branch)

-- what the solutions of an arena were made of
abbrev pub Solutions : Type 0
Solutions = List Made
