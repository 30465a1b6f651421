-- The nodes of a net by their names.
use Rattle.std.proofs.Common.{◌≡◌, ℕ, ◌<◌, length, ap, ◌∙◌, Some}
use Rattle.std.specs.List.{slice_get}
use Rattle.std.specs.Option.{option_map}
use Rattle.std.proofs.lemmas.Option.{slice_get-get_or, slice_get-map}
use Rattle.vg_scan.specs.declared.name.NodeName.{NodeName}
use Rattle.vg_scan.specs.Nodes.{same_node}
use Rattle.spef_net.specs.declared.net.ParNet.{ParNet}
use Rattle.spef_nodes.specs.Nodes.{ParNode}
use Rattle.spef_nodes.proofs.NodeListLemmas.{same_is}
use Rattle.spef_nodes.proofs.NodeTableLemmas.{same_refl}
use Rattle.vg_design.specs.Designs.{NO_NODE, name_of}
use Rattle.spef_write.specs.SectionLaws.{names_of}
use Rattle.split_laws.specs.ReadNets.{number_named}
use Rattle.split_laws.proofs.ListLemmas.{IsFirstPlace, first_place}

pub name_at : (net : ParNet) (k : ℕ) → k < length net.nodes → slice_get (names_of net.nodes) k ≡ Some (name_of net k)
name_at net k low =
    slice_get-map (λ (node : ParNode). node.name) net.nodes k ∙ ap (option_map (λ (node : ParNode). node.name)) (slice_get-get_or net.nodes k NO_NODE low)

-- the number of a node's name is that of a node with this name
pub record IsNumberOf (net : ParNet) (name : NodeName) : Type 0 where
  pub low : number_named net.nodes name < length net.nodes
  pub is : name_of net (number_named net.nodes name) ≡ name

pub number_is : (net : ParNet) (name : NodeName) (i : ℕ) → i < length net.nodes → name_of net i ≡ name → IsNumberOf net name
number_is net name i low is =
    let p = λ (node : ParNode). same_node node.name name in
    let at : IsFirstPlace p net.nodes NO_NODE = first_place p net.nodes i NO_NODE low (ap (λ a. same_node a name) is ∙ same_refl name) in
    record { low = at.low; is = same_is (name_of net (number_named net.nodes name)) name at.passes }
