-- A net that cells split into stages, each of which becomes a net of its own.
use Rattle.std.specs.Prelude.{◌≡◌, ℕ, ◌+◌, ◌-◌, ◌<◌, ◌==◌, ◌&&◌, ◌||◌, not, Bool, false, List, [], ◌++◌, length, map, filter, drop, codes, slice_index, slice_index_or, Option, None, unwrap_or, if◌then◌else◌}
use Rattle.std.specs.List.{position, range_with_len}
use Rattle.elmore.specs.Cells.{has_cell}
use Rattle.elmore.specs.Trees.{parent_of, resistance}
use Rattle.elmore.specs.declared.problem.Problem.{Problem}
use Rattle.lib_linear.specs.declared.repeater.Repeater.{Repeater}
use Rattle.spef_net.specs.declared.net.ConnKind.{ConnKind}
use Rattle.spef_net.specs.declared.net.ConnKind.TheVariants.{Pin}
use Rattle.spef_net.specs.declared.net.Direction.{Direction}
use Rattle.spef_net.specs.declared.net.Direction.TheVariants.{In, Out}
use Rattle.spef_net.specs.declared.net.ParConn.{ParConn}
use Rattle.spef_net.specs.declared.net.ParNet.{ParNet}
use Rattle.spef_nodes.specs.Nodes.{ParNode}
use Rattle.cut_laws.specs.CutNets.{forest_of}
use Rattle.cut_laws.specs.Pieces.{Forest}
use Rattle.vg_scan.specs.declared.chars.Chars.{Chars}
use Rattle.vg_scan.specs.declared.name.NodeName.{NodeName}
use Rattle.vg_scan.specs.Printed.{printed}
use Rattle.vg_split.specs.Stages.{heads, heads_to, members}
use Rattle.vg_split.specs.NewNames.{cell_name, net_name}
use Rattle.spef_write.specs.Sections.{node_at, total_at}

-- A net with cells at nodes of its tree, whose node i is node order[i] of the net. Its cells are numbered from `first`
-- on, in tree order; their names and those of the new nets begin with `prefix`. The stage `keeper` keeps the net's
-- name.
pub record Split : Type 0 where
  pub par : ParNet
  pub order : List ℕ
  pub problem : Problem
  pub cells : List (Option ℕ)
  pub repeaters : List Repeater
  pub prefix : List ℕ
  pub first : ℕ
  pub keeper : ℕ

abbrev pub forest : Split → Forest
forest x = forest_of x.problem x.cells

-- where the stage of a number begins
abbrev pub head : Split → ℕ → ℕ
head x k = slice_index (heads (forest x)) k

-- the stage that begins at a cell
abbrev pub stage_from : Split → ℕ → ℕ
stage_from x w = length (heads_to (forest x) w)

-- ---- names

-- the number of the cell at which a stage begins: the stages behind the root's are those of the cells
abbrev pub number_of : Split → ℕ → ℕ
number_of x k = x.first + (k - 1)

-- the net of a stage: one stage keeps the net's name, and each other has the new net of its cell; where that of a cell
-- keeps the net's name, the root's has the new net of that cell
abbrev pub net_of : Split → ℕ → List ℕ
net_of x k = if k == x.keeper then x.par.name else net_name x.prefix (number_of x (if k == 0 then x.keeper else k))

-- past the last repeater there is none
abbrev pub NO_REPEATER : Repeater
NO_REPEATER =
    record { cell = []; input = []; output = []; rep = record { inverts = false; cin = 0; k = 0; r = 0; cost = 0; limit = None } }

-- the cell at a node
abbrev pub repeater_at : Split → ℕ → Repeater
repeater_at x w = slice_index_or x.repeaters (unwrap_or (slice_index_or x.cells w None) 0) NO_REPEATER

-- its pin in a stage: the output where the stage begins there, else the input
abbrev pub pin_in : Split → ℕ → ℕ → List ℕ
pin_in x k w = if w == head x k then (repeater_at x w).output else (repeater_at x w).input

-- ---- nodes

abbrev pub is_celled : Split → ℕ → Bool
is_celled x w = has_cell (forest x).cell w

-- the net's node
abbrev pub old_node : Split → ℕ → ParNode
old_node x w = node_at x.par.nodes (slice_index x.order w)

-- a connection of a stage: one of the net's, or a cell's pin
abbrev pub is_end : Split → ℕ → Bool
is_end x w = is_celled x w || not (old_node x w).inner

-- a cell's pin has the cell's name as owner; an inner node that of the stage's net
abbrev pub name_in : Split → ℕ → ℕ → NodeName
name_in x k w =
    if is_celled x w then record { owner = cell_name x.prefix (number_of x (stage_from x w)); leaf = pin_in x k w }
    else
    (if (old_node x w).inner then
    record { owner = net_of x k; leaf = (old_node x w).name.leaf } else (old_node x w).name)

-- a note with the cell of a pin, as SPEF has it (IEEE Std 1481-1999)
abbrev pub with_cell : Chars → List ℕ → List ℕ → List ℕ
with_cell chars note cell = (if length note == 0 then [] else note ++ codes " ") ++ codes "*D " ++ printed chars cell

abbrev pub note_in : Chars → Split → ℕ → List ℕ
note_in chars x w =
    if is_celled x w then with_cell chars (old_node x w).note (repeater_at x w).cell else (old_node x w).note

abbrev pub node_in : Chars → Split → ℕ → ℕ → ParNode
node_in chars x k w = record { name = name_in x k w; inner = not (is_end x w); note = note_in chars x w }

-- the nodes of a stage's net: its connections first, then the others
abbrev pub ends_in : Split → ℕ → List ℕ
ends_in x k = filter (is_end x) (members (forest x) (head x k))

abbrev pub inner_in : Split → ℕ → List ℕ
inner_in x k = filter (λ w. not (is_end x w)) (members (forest x) (head x k))

abbrev pub nodes_in : Split → ℕ → List ℕ
nodes_in x k = ends_in x k ++ inner_in x k

-- ---- connections, capacitances, resistors

-- past the last connection there is none
abbrev pub NO_CONN : ParConn
NO_CONN = record { kind = Pin; node = 0; direction = In }

abbrev pub old_conn : Split → ℕ → ParConn
old_conn x w = slice_index_or x.par.conns (slice_index x.order w) NO_CONN

abbrev pub kind_of : Split → ℕ → ConnKind
kind_of x w = if is_celled x w then Pin else (old_conn x w).kind

abbrev pub way_in : Split → ℕ → ℕ → Direction
way_in x k w = if is_celled x w then (if w == head x k then Out else In) else (old_conn x w).direction

-- the connection of a number
abbrev pub conn_in : Split → ℕ → ℕ → ParConn
conn_in x k i =
    record { kind = kind_of x (slice_index (ends_in x k) i); node = i; direction = way_in x k (slice_index (ends_in x k) i) }

-- the capacitance at a node of a stage; that at a cell is behind it
abbrev pub cap_in : Split → ℕ → ℕ → ℕ
cap_in x k w = if is_celled x w && not (w == head x k) then 0 else total_at x.par.caps (slice_index x.order w)

-- the number of a node in the stage's net
abbrev pub place_in : Split → ℕ → ℕ → ℕ
place_in x k w = unwrap_or (position (λ u. u == w) (nodes_in x k)) 0

-- the resistor above a node
abbrev pub res_in : Split → ℕ → ℕ → ℕ × ℕ × ℕ
res_in x k w = (place_in x k (parent_of x.problem.tree.nodes w), place_in x k w, resistance x.problem.tree.nodes w)

-- this is the net of the stage of a number; its capacitors and resistors stand in tree order
pub record IsStageNet (chars : Chars) (x : Split) (k : ℕ) (net : ParNet) : Type 0 where
  pub name : net.name ≡ net_of x k
  pub nodes : net.nodes ≡ map (node_in chars x k) (nodes_in x k)
  pub conns : net.conns ≡ map (conn_in x k) (range_with_len 0 (length (ends_in x k)))
  pub caps : (i : ℕ) → i < length (nodes_in x k) → total_at net.caps i ≡ cap_in x k (slice_index (nodes_in x k) i)
  pub order : map (λ cap. cap.0) net.caps ≡ map (place_in x k) (members (forest x) (head x k))
  pub ress : net.ress ≡ map (res_in x k) (drop 1 (members (forest x) (head x k)))
  pub whole : net.reduced ≡ false
  pub plain : net.inductive ≡ false
