-- A net of a design in which cells are put, and what comes of its connections in the netlist.
use Rattle.std.specs.Prelude.{ℕ, ◌-◌, ◌==◌, ◌&&◌, not, Bool, List, [], ◌∷◌, length, map, find, slice_index, Option, Some, None, unwrap_or, if◌then◌else◌}
use Rattle.std.specs.List.{flat_map, position_or_len, range_with_len}
use Rattle.elmore.specs.Path.{nodes}
use Rattle.elmore.specs.Stage.{in_stage}
use Rattle.elmore.specs.Trees.{parent_of}
use Rattle.elmore.specs.declared.problem.Problem.{Problem}
use Rattle.ver_module.specs.Netlists.{Netlist}
use Rattle.ver_net.specs.Texts.{net_text}
use Rattle.ver_net.specs.declared.pin_ref.PinRef.{PinRef}
use Rattle.ver_patch.specs.NewCells.{NewCell}
use Rattle.ver_patch.specs.Rewires.{Rewire}
use Rattle.cut_laws.specs.CutNets.{forest_of}
use Rattle.cut_laws.specs.Pieces.{Forest}
use Rattle.vg_design.specs.Designs.{Design, Joined, is_port, name_of, pin_on}
use Rattle.vg_split.specs.NewNames.{cell_name, net_name}
use Rattle.vg_split.specs.Splits.{Split, forest, head, is_celled, is_end, net_of, number_of, repeater_at}
use Rattle.vg_split.specs.Stages.{heads, members}

-- A net in which cells are put: its parasitics and its number in the netlist, the order in which its tree has its
-- nodes, its problem, and for each node of the tree the number of the repeater that is put there, if one is.
pub record PlacedNet : Type 0 where
  pub net : Joined
  pub order : List ℕ
  pub problem : Problem
  pub cells : List (Option ℕ)

-- the name of the node of the net that is this node of its tree is that of a port
abbrev pub is_port_at : PlacedNet → ℕ → Bool
is_port_at p w = is_port (name_of p.net.par (slice_index p.order w))

-- the stage that a node is in, by its number
abbrev pub stage_at : Forest → ℕ → ℕ
stage_at f w = position_or_len (λ v. in_stage f.parent f.cell v w) (heads f)

-- the stage that keeps the net's name: the one with the port that the net is, else that of the root
abbrev pub keeper_of : PlacedNet → ℕ
keeper_of p = stage_at (forest_of p.problem p.cells) (unwrap_or (find (is_port_at p) (nodes (length p.order))) 0)

-- the net as its cells split it, which are numbered from `first` on
abbrev pub split_of : Design → List ℕ → ℕ → PlacedNet → Split
split_of d prefix first p = record {
  par = p.net.par;
  order = p.order;
  problem = p.problem;
  cells = p.cells;
  repeaters = d.library.repeaters;
  prefix = prefix;
  first = first;
  keeper = keeper_of p;
}

-- ---- the netlist

-- a pin or a port of the net
abbrev pub is_old_end : Split → ℕ → Bool
is_old_end x w = is_end x w && not (is_celled x w)

-- a pin, if there is one, is linked to this net
abbrev pub linked : List ℕ → Option PinRef → List Rewire
linked net None = []
linked net (Some at) = record { at = at; net = net } ∷ []

-- so is the net's pin at a node of a stage
abbrev pub rewires_at : Netlist → PlacedNet → Split → ℕ → ℕ → List Rewire
rewires_at netlist p x k w =
    if is_old_end x w then linked (net_of x k)
    (pin_on netlist p.net.id (name_of p.net.par (slice_index p.order w))) else []

-- and each of the net's pins in a stage that has a new net
abbrev pub rewires_in : Netlist → PlacedNet → Split → ℕ → List Rewire
rewires_in netlist p x k =
    if k == x.keeper then [] else flat_map (rewires_at netlist p x k) (members (forest x) (head x k))

abbrev pub rewires_of : Netlist → PlacedNet → Split → List Rewire
rewires_of netlist p x = flat_map (rewires_in netlist p x) (range_with_len 0 (length (heads (forest x))))

-- how the net of a stage is named in the text of the netlist: as the net was, or by the name of the new net
abbrev pub text_in : Netlist → ℕ → Split → ℕ → List ℕ
text_in netlist id x k = if k == x.keeper then net_text netlist id else net_of x k

-- the stage that the cell ends at which a stage begins
abbrev pub above : Split → ℕ → ℕ
above x k = stage_at (forest x) (parent_of x.problem.tree.nodes (head x k))

-- the cell at which a stage begins, from the net of the stage above to its own
abbrev pub new_cell : Netlist → ℕ → Split → ℕ → NewCell
new_cell netlist id x k = record {
  cell = (repeater_at x (head x k)).cell;
  name = cell_name x.prefix (number_of x k);
  input = (repeater_at x (head x k)).input;
  output = (repeater_at x (head x k)).output;
  from = text_in netlist id x (above x k);
  to = text_in netlist id x k;
}

-- the stages that begin at cells
abbrev pub cell_stages : Split → List ℕ
cell_stages x = range_with_len 1 (length (heads (forest x)) - 1)

abbrev pub cells_of : Netlist → ℕ → Split → List NewCell
cells_of netlist id x = map (new_cell netlist id x) (cell_stages x)

-- each cell brings a new net
abbrev pub wires_of : Split → List (List ℕ)
wires_of x = map (λ k. net_name x.prefix (number_of x k)) (cell_stages x)
