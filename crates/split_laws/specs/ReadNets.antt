-- A net that is read again, by the names of its nodes.
use Rattle.std.specs.Prelude.{◌≡◌, ℕ, ◌<◌, true, List, find, length, unwrap_or}
use Rattle.std.specs.List.{position}
use Rattle.spef_net.specs.declared.net.ParNet.{ParNet}
use Rattle.spef_nodes.specs.Nodes.{ParNode}
use Rattle.cut_laws.specs.PieceNets.{IsPieceNet, IsRenumbered}
use Rattle.vg_design.specs.Designs.{Design, Joined, name_of}
use Rattle.vg_scan.specs.Nodes.{same_node}
use Rattle.vg_scan.specs.declared.name.NodeName.{NodeName}
use Rattle.vg_split.specs.Splits.{Split, forest, head, name_in}
use Rattle.vg_split.specs.Stages.{members}
use Rattle.spef_write.specs.SectionLaws.{IsWrittenAgain, is_named}
use Rattle.split_laws.specs.StagePieces.{IsNetOfStage, by_numbers, load_in}

-- ---- two nets

-- the number of the first node of this name
abbrev pub number_named : List ParNode → NodeName → ℕ
number_named nodes name = unwrap_or (position (λ (node : ParNode). same_node node.name name) nodes) 0

-- the number in a net of the node that has the name of another net's node
abbrev pub number_in : ParNet → ParNet → ℕ → ℕ
number_in net other k = number_named net.nodes (name_of other k)

-- What is read has the connections of a net, and its nodes but for their numbers: `number_in` takes them there and
-- back, by the names.
pub record IsSameByNames (net read : ParNet) : Type 0 where
  pub conns : read.conns ≡ net.conns
  pub names : (j : ℕ) → j < length read.nodes → name_of net (number_in net read j) ≡ name_of read j
  pub ends : (i : ℕ) → i < length net.conns → number_in net read i ≡ i
  pub renumbered : (root : ℕ) → root < length net.conns
      → IsRenumbered (by_numbers net root) (by_numbers read root) (number_in read net) (number_in net read)

-- so it is where each node is a connection, or has a note, a capacitance or a resistor
abbrev pub ReadNetsAreTheSame : Type 0
ReadNetsAreTheSame = (net read : ParNet) → ((k : ℕ) → k < length net.nodes → is_named net k ≡ true)
    → IsWrittenAgain net read → IsSameByNames net read

-- ---- stages

-- this is what is read again of the net of the stage of a number
pub record IsReadOf (d : Design) (n : Joined) (x : Split) (k : ℕ) (read : ParNet) : Type 0 where
  pub net : ParNet
  pub stage : IsNetOfStage d n x k net
  pub again : IsWrittenAgain net read

-- it has the stage's connections and nodes
abbrev pub ReadStagesAreTheSame : Type 0
ReadStagesAreTheSame = (d : Design) (n : Joined) (x : Split) (k : ℕ) (read : ParNet) (is : IsReadOf d n x k read)
    → IsSameByNames is.net read

-- the node of a stage that has this name in the stage's net
abbrev pub node_named : Split → ℕ → NodeName → ℕ
node_named x k name = unwrap_or (find (λ w. same_node (name_in x k w) name) (members (forest x) (head x k))) 0

-- the node of a stage that a net's node stands for, by its name
abbrev pub stands_for : Split → ℕ → ParNet → ℕ → ℕ
stands_for x k net j = node_named x k (name_of net j)

-- so it is the piece of the node where the stage begins, whose number is 0
abbrev pub ReadStagesArePieces : Type 0
ReadStagesArePieces = (d : Design) (n : Joined) (x : Split) (k : ℕ) (read : ParNet) → IsReadOf d n x k read
    → IsPieceNet (forest x) (head x k) (by_numbers read 0)
    (λ j. load_in d n x k (stands_for x k read j)) (stands_for x k read)
