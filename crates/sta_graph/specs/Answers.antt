-- What is answered of a graph.
use Rattle.std.specs.Prelude.{◌≡◌, ℕ, ◌<◌, List, length, slice_index_or, ℤ, pos}
use Rattle.sta_graph.specs.declared.graph.Graph.{Graph}
use Rattle.sta_graph.specs.declared.slacks.SlackFault.{SlackFault}
use Rattle.sta_graph.specs.declared.slacks.SlackFault.TheVariants.{Cycle, NoPath, Memory}
use Rattle.sta_graph.specs.Paths.{net_count, IsAfterCycle, IsLeastThrough}

pub record AreSlacks (g : Graph) (slacks : List ℤ) : Type 0 where
  pub one_each : length slacks ≡ net_count g
  pub least : (v : ℕ) → v < net_count g → IsLeastThrough g v (slice_index_or slacks v (pos 0))

-- the first net that lies on a cycle or is reached from one
pub record IsFirstAfterCycle (g : Graph) (v : ℕ) : Type 0 where
  pub net : v < net_count g
  pub after : IsAfterCycle g v
  pub first : (u : ℕ) → u < v → IsAfterCycle g u → ⊥

abbrev pub IsFaultOf : Graph → SlackFault → Type 0
IsFaultOf g (Cycle v) = IsFirstAfterCycle g v
IsFaultOf g NoPath = net_count g ≡ 0
IsFaultOf g Memory = Unit {0}
