-- Why the resistors of a net are not cut: for the functions between.
use Rattle.std.specs.Prelude.{◌≡◌, ◌⊎◌, ℕ, ◌<◌, ◌≤◌, List}
use Rattle.elmore.specs.declared.tree.Node.{Node}
use Rattle.spef_net.specs.declared.net.ParNet.{ParNet}
use Rattle.spef_wire.specs.Refusals.{IsNetTree, IsWithinNetLimits, PassesUpTo, most_nodes}
use Rattle.spef_wire.specs.Steps.{IsRefusedFirst}
use Rattle.spef_wire.specs.declared.refusal.Refused.{Refused}
use Rattle.spef_wire.specs.declared.refusal.Refused.TheVariants.{Net, Memory}
use Rattle.spef_wire.specs.declared.refusal.Refusal.TheVariants.{TooLarge}
use Rattle.vg_segment.specs.Texts.{cut_count, IsSegmentRefusal}

-- why there is no answer for the net of a name: its refusal, or out of memory
abbrev pub IsUnfit : List ℕ → ℕ → List ℕ → Refused → Type 0
IsUnfit text parts name (Net refusal) = IsSegmentRefusal text parts name refusal
IsUnfit text parts name Memory = Unit {0}

-- nothing refuses the net, which has this tree, and its nodes are few enough
pub record MayBeCut (parts : ℕ) (net : ParNet) (tree : List Node) (order : List ℕ) : Type 0 where
  pub accepted : PassesUpTo 17 net
  pub a_tree : IsNetTree net tree order
  pub within : IsWithinNetLimits net tree
  pub few : cut_count parts net ≤ most_nodes

-- a reason against a net by its own lines, or that it has too many nodes
abbrev pub MayNotBeCut : ℕ → ParNet → Refused → Type 0
MayNotBeCut parts net (Net refusal) =
    IsRefusedFirst 17 net (Net refusal)
    ⊎ ((refusal ≡ TooLarge) × PassesUpTo 17 net × (most_nodes < cut_count parts net))
MayNotBeCut parts net Memory = Unit {0}
