-- What is known of the nodes of a net while they come in, each to its parent, from the last to the first, where a node
-- that came in is seen by the lists of a certificate.
use Rattle.std.specs.Prelude.{ℕ, ◌<◌, ◌≤◌, Bool, cond, List, [], ◌∷◌, length, slice_index_or}
use Rattle.std.specs.Bool.{beq}
use Rattle.elmore.specs.declared.pair.Pair.{Pair}
use Rattle.elmore.specs.declared.parts.Sink.{Sink}
use Rattle.elmore.specs.declared.problem.Problem.{Problem}
use Rattle.cand_pairs.specs.Candidates.{NodeLists, IsLive, IsCoveredAt, of_lists}
use Rattle.cand_pairs.specs.Parts.{IsDeadPart, IsLivePart, list_of}
use Rattle.vg_cert.specs.Fits.{IsList}
use Rattle.vg_check.specs.declared.part.Part.{Part}
use Rattle.vg_check.specs.declared.part.Part.TheVariants.{Dead, Live}

-- the lists of a certificate
abbrev pub AreLists : NodeLists → Type 0
AreLists lists = (v : ℕ) (odd : Bool) → IsList (lists v odd)

-- a sink at a node of this capacitance, without children: one pair in the class that the sink wants, none in the other
abbrev pub alone : Sink → ℕ → Bool → List Pair
alone sink c odd = cond (beq odd sink.inverted) (record { q = sink.required; c = c } ∷ []) []

-- the part of node v, with those of its children from number i on
abbrev pub IsPart : Problem → NodeLists → ℕ → ℕ → Part → Type 0
IsPart p lists i v (Dead c) = IsDeadPart p i v c
IsPart p lists i v (Live joins) = IsLivePart p (of_lists lists) i v (list_of joins)

abbrev pub part_at : List Part → ℕ → Part
part_at parts v = slice_index_or parts v (Dead 0)

-- the parts of the first nodes, with those of their children from number i on
abbrev pub AreParts : Problem → NodeLists → ℕ → List Part → Type 0
AreParts p lists i parts = (v : ℕ) → v < length parts → IsPart p lists i v (part_at parts v)

-- the nodes from number i on are covered
abbrev pub AreCoveredFrom : Problem → NodeLists → ℕ → Type 0
AreCoveredFrom p lists i = (w : ℕ) → i ≤ w → IsLive p w → IsCoveredAt p (of_lists lists) w
