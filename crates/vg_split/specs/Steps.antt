-- The parts of a stage's net: for the functions between.
use Rattle.std.specs.Prelude.{◌≡◌, ℕ, ◌<◌, ◌==◌, ◌||◌, not, Bool, true, List, ◌++◌, length, drop, map, take, slice_index, slice_index_or}
use Rattle.std.specs.List.{filter}
use Rattle.spef_file.specs.declared.header.Header.{Header}
use Rattle.spef_net.specs.declared.net.ParConn.{ParConn}
use Rattle.spef_net.specs.declared.net.ParNet.{ParNet}
use Rattle.spef_nodes.specs.Nodes.{ParNode}
use Rattle.vg_scan.specs.declared.chars.Chars.{Chars}
use Rattle.vg_split.specs.Splits.{IsStageNet, NO_CONN, Split, cap_in, ends_in, forest, head, is_celled, is_end, kind_of, net_of, node_in, nodes_in, old_node, place_in, res_in, way_in}
use Rattle.vg_split.specs.Stages.{members}
use Rattle.spef_write.specs.Printed.{PrintedNode, printed_of}
use Rattle.spef_write.specs.Sections.{section_text, total_at}

-- the connection of a number at a node
abbrev pub conn_of : Split → ℕ → ℕ → ℕ → ParConn
conn_of x k w number = record { kind = kind_of x w; node = number; direction = way_in x k w }

-- connections at these nodes, by their numbers
pub record AreConns (x : Split) (k : ℕ) (ws : List ℕ) (conns : List ParConn) : Type 0 where
  pub even : length conns ≡ length ws
  pub each : (i : ℕ) → i < length ws → slice_index_or conns i NO_CONN ≡ conn_of x k (slice_index ws i) i

-- what is printed of a node
abbrev pub row_in : Chars → Split → ℕ → ℕ → PrintedNode
row_in chars x k w = printed_of chars (node_in chars x k w) (cap_in x k w)

-- an inner node, where the net has this name
abbrev pub inner_node : Split → List ℕ → ℕ → ParNode
inner_node x net w =
    record { name = record { owner = net; leaf = (old_node x w).name.leaf }; inner = true; note = (old_node x w).note }

abbrev pub inner_row : Chars → Split → List ℕ → ℕ → PrintedNode
inner_row chars x net w = printed_of chars (inner_node x net w) (total_at x.par.caps (slice_index x.order w))

-- the place of each of these nodes has its number among them
pub record AreNumbered (places ws : List ℕ) : Type 0 where
  pub at : (i : ℕ) → i < length ws → slice_index places (slice_index ws i) ≡ i

-- a node whose capacitance is the stage's
abbrev pub is_own : Split → ℕ → ℕ → Bool
is_own x k w = not (is_celled x w) || (w == head x k)

-- the node's number in the stage's net, and its capacitance there
abbrev pub cap_row : Split → ℕ → ℕ → ℕ × ℕ
cap_row x k w = (place_in x k w, cap_in x k w)

-- what stands among the first i nodes of a stage
abbrev pub kept_to : (ℕ → Bool) → Split → ℕ → ℕ → List ℕ
kept_to p x k i = filter p (take i (members (forest x) (head x k)))

abbrev pub ends_to : Split → ℕ → ℕ → List ℕ
ends_to x k i = kept_to (is_end x) x k i

abbrev pub inner_to : Split → ℕ → ℕ → List ℕ
inner_to x k i = kept_to (λ w. not (is_end x w)) x k i

-- the parts of which the net of a stage is put together; `places` has for each of its nodes the number
pub record AreParts (chars : Chars) (x : Split) (k : ℕ) (name : List ℕ) (nodes : List ParNode)
    (conns : List ParConn) (caps : List (ℕ × ℕ))
    (ress : List (ℕ × ℕ × ℕ)) : Type 0 where
  pub places : List ℕ
  pub numbered : AreNumbered places (nodes_in x k)
  pub name_is : name ≡ net_of x k
  pub nodes_are : nodes ≡ map (node_in chars x k) (nodes_in x k)
  pub conns_are : AreConns x k (ends_in x k) conns
  pub caps_are : caps ≡ map (cap_row x k) (members (forest x) (head x k))
  pub ress_are : ress ≡ map (res_in x k) (drop 1 (members (forest x) (head x k)))

-- the same parts, where nodes are printed and capacitances stand with their nodes
pub record ArePrintedParts (chars : Chars) (x : Split) (k : ℕ) (places name : List ℕ)
    (nodes : List PrintedNode) (conns : List ParConn)
    (cap_nodes : List ℕ) (ress : List (ℕ × ℕ × ℕ)) : Type 0 where
  pub numbered : AreNumbered places (nodes_in x k)
  pub name_is : name ≡ net_of x k
  pub nodes_are : nodes ≡ map (row_in chars x k) (nodes_in x k)
  pub conns_are : AreConns x k (ends_in x k) conns
  pub cap_nodes_are : cap_nodes ≡ map (place_in x k) (members (forest x) (head x k))
  pub ress_are : ress ≡ map (res_in x k) (drop 1 (members (forest x) (head x k)))

-- behind a text stands the section of the net of a stage
pub record SaysStage (header : Header) (x : Split) (k : ℕ) (old new : List ℕ) : Type 0 where
  pub net : ParNet
  pub is_stage : IsStageNet header.chars x k net
  pub is : new ≡ old ++ section_text header net
