-- What the moves of a pool make of lists whose candidates rise in time and load, in the words of the laws.
use Rattle.std.specs.Prelude.{◌≡◌, ◌⊎◌, ℕ, ◌<◌, ◌^◌, List, map}
use Rattle.std.specs.List.{Contains, AllPairs}
use Rattle.elmore.specs.Pairs.{IsUndominated, IsBelow}
use Rattle.elmore.specs.declared.pair.Pair.{Pair}
use Rattle.cand_pairs.specs.Merging.{Wires, Raises}
use Rattle.cand_pool.specs.Candidates.{Candidate, Candidates, AreModest, wired, loaded, wired_to}
use Rattle.cand_pool.specs.Sequences.{undominated, union}
use Rattle.cand_uses.specs.Pairs.{pairs_of}

-- time and load rise from each candidate to the next
abbrev pub AreRising : Candidates → Type 0
AreRising xs = AllPairs IsBelow (pairs_of xs)

-- what a wire leaves of a list
abbrev pub through_wire : ℕ → Candidates → Candidates
through_wire r xs = undominated (map (wired r) xs)

-- and with this load beside its upper end
abbrev pub above_wire : ℕ → ℕ → Candidates → Candidates
above_wire r c xs = undominated (map (wired_to r c) xs)

-- what two lists leave of one another
abbrev pub both : Candidates → Candidates → Candidates
both xs ys = undominated (union xs ys)

-- the pairs of either list
abbrev pub Either : List Pair → List Pair → Pair → Type 0
Either xs ys z = Contains xs z ⊎ Contains ys z

-- a wire leaves the undominated pairs as they are above it, each with the solution that it had
abbrev pub WireIsExact : Type 0
WireIsExact = (r : ℕ) (xs : Candidates) → r < 2 ^ 64 → AreRising xs → AreModest xs
    → IsUndominated (Wires r (pairs_of xs)) (pairs_of (through_wire r xs))

abbrev pub WireTakes : Type 0
WireTakes = (r : ℕ) (xs : Candidates) (z : Candidate) → Contains (through_wire r xs) z
    → (x : Candidate) × Contains xs x × (z ≡ wired r x)

-- a load beside the upper end of a wire is added to what the wire leaves
abbrev pub WireLoads : Type 0
WireLoads = (r c : ℕ) (xs : Candidates) → above_wire r c xs ≡ map (loaded c) (through_wire r xs)

-- two lists leave the undominated pairs of both, each with the solution that it had
abbrev pub BothAreExact : Type 0
BothAreExact = (xs ys : Candidates) → AreRising xs → AreRising ys → AreModest xs → AreModest ys
    → IsUndominated (Either (pairs_of xs) (pairs_of ys)) (pairs_of (both xs ys))

abbrev pub BothTake : Type 0
BothTake = (xs ys : Candidates) (z : Candidate) → Contains (both xs ys) z → Contains xs z ⊎ Contains ys z

-- a load beside a list leaves all of them
abbrev pub LoadIsExact : Type 0
LoadIsExact =
    (c : ℕ) (xs : Candidates) → AreRising xs → IsUndominated (Raises c (pairs_of xs)) (pairs_of (map (loaded c) xs))
