-- The problem of a net: what it is made of. Source: van Ginneken, ISCAS 1990; Lillis, Cheng and Lin, ICCAD 1995.
use Rattle.std.specs.Prelude.{◌≡◌, ℕ, ◌+◌, ◌≤◌, ◌&&◌, not, Bool, false, List, [], length, map, filter, slice_index, slice_index_or, ℤ, pos, Option, Some, None, unwrap_or, if◌then◌else◌}
use Rattle.std.specs.List.{list_any, range_with_len}
use Rattle.std.specs.Str.{bytes_eq}
use Rattle.elmore.specs.Problems.{IsProblemWithin, places as places_of}
use Rattle.elmore.specs.Trees.{node_at as tree_node}
use Rattle.elmore.specs.declared.allowed.Allowed.{Allowed}
use Rattle.elmore.specs.declared.allowed.Allowed.TheVariants.{All as AllOfThem, Only}
use Rattle.elmore.specs.declared.parts.Driver.{Driver}
use Rattle.elmore.specs.declared.parts.Sink.{Sink}
use Rattle.elmore.specs.declared.problem.Problem.{Problem}
use Rattle.elmore.specs.declared.rep.Rep.{Rep}
use Rattle.elmore.specs.declared.tree.Node.{Node}
use Rattle.lib_linear.specs.declared.repeater.Repeater.{Repeater}
use Rattle.spef_net.specs.Positions.{position_of}
use Rattle.spef_net.specs.declared.net.ParNet.{ParNet}
use Rattle.spef_nodes.specs.Nodes.{ParNode}
use Rattle.vg_cons.specs.Rows.{Rows, allowed_of, in_box_of, is_blocked_of, required_of, wants_inverted_of}
use Rattle.vg_scan.specs.declared.name.NodeName.{NodeName}
use Rattle.spef_wire.specs.Refusals.{most_capacitors}
use Rattle.spef_wire.specs.Wires.{is_sink_node}
use Rattle.vg_design.specs.Designs.{Design, Joined, NO_NODE, name_of, driver_at, sink_load}

-- ---- sinks

-- what the constraints say of a sink; one without a required time has 0 here, and its net is refused
abbrev pub sink_given : Rows → NodeName → Sink
sink_given rows at = record { required = unwrap_or (required_of rows at) (pos 0); inverted = wants_inverted_of rows at }

-- the sink at a node of a net, if it is one
abbrev pub sink_at : Rows → ParNet → ℕ → Option Sink
sink_at rows net v = if is_sink_node net v then Some (sink_given rows (name_of net v)) else None

-- for each node of the tree its sink, where tree node i is the net's node order[i]
abbrev pub sinks_of : Rows → ParNet → List ℕ → List (Option Sink)
sinks_of rows net order = map (sink_at rows net) order

-- the load of the sink at a node of a net (aF)
abbrev pub load_at : Design → Joined → ℕ → ℕ
load_at d n v = if is_sink_node n.par v then sink_load d n (name_of n.par v) else 0

-- a node of the tree with its load, where it is node v of the net
abbrev pub loaded : Design → Joined → Node → ℕ → Node
loaded d n node v = record node { c = node.c + load_at d n v }

-- the net's tree with the loads of its sinks
abbrev pub loaded_tree : Design → Joined → List Node → List ℕ → List Node
loaded_tree d n tree order =
    map (λ i. loaded d n (tree_node tree i) (slice_index order i)) (range_with_len 0 (length tree))

-- what drives it
abbrev pub driver_of : Design → Joined → List ℕ → Driver
driver_of d n order = driver_at d n (name_of n.par (slice_index order 0))

-- ---- places

-- a box holds the position that a node notes
abbrev pub is_boxed_at : Rows → Option (ℤ × ℤ) → Bool
is_boxed_at rows None = false
is_boxed_at rows (Some at) = in_box_of rows at

abbrev pub is_boxed : Rows → ParNode → Bool
is_boxed rows node = is_boxed_at rows (position_of node.note)

-- a node may have a cell: it is no connection, and is blocked neither by its name nor by a box
abbrev pub is_free : Rows → ParNode → Bool
is_free rows node = node.inner && (not (is_blocked_of rows node.name) && not (is_boxed rows node))

abbrev pub free_of : Rows → ParNet → List ℕ → List Bool
free_of rows net order = map (λ v. is_free rows (slice_index_or net.nodes v NO_NODE)) order

-- the places of a net: its free nodes with a sink strictly below
abbrev pub places_in : Design → Joined → List Node → List ℕ → List Bool
places_in d n tree order =
    places_of (loaded_tree d n tree order) (sinks_of d.rows n.par order) (free_of d.rows n.par order)

-- ---- repeaters

abbrev pub reps_of : List Repeater → List Rep
reps_of repeaters = map (λ r. r.rep) repeaters

-- their cells
abbrev pub cells_of : List Repeater → List (List ℕ)
cells_of repeaters = map (λ r. r.cell) repeaters

-- the numbers of the repeaters whose cells are among some
abbrev pub numbers_of : List (List ℕ) → List (List ℕ) → List ℕ
numbers_of names cells =
    filter (λ b. list_any (bytes_eq (slice_index_or names b [])) cells) (range_with_len 0 (length names))

-- the repeaters that a row of cells allows; without a row, all
abbrev pub allowed_by : List (List ℕ) → Option (List (List ℕ)) → Allowed
allowed_by names None = AllOfThem
allowed_by names (Some cells) = Only (numbers_of names cells)

-- what a node of a net allows
abbrev pub allowance_at : Design → ParNet → ℕ → Allowed
allowance_at d net v = allowed_by (cells_of d.library.repeaters) (allowed_of d.rows (name_of net v))

-- what each node of the tree allows
abbrev pub allowed_in : Design → ParNet → List ℕ → List Allowed
allowed_in d net order = map (allowance_at d net) order

-- ---- the whole

-- the limits on a net
pub record IsWithinLimits (d : Design) (n : Joined) (tree : List Node) (order : List ℕ) : Type 0 where
  pub cap_lines : length n.par.caps ≤ most_capacitors
  pub sums : IsProblemWithin (loaded_tree d n tree order) (driver_of d n order) (sinks_of d.rows n.par order)
      (places_in d n tree order) (reps_of d.library.repeaters)

-- this is the problem of a net with this tree
pub record IsProblemOf (d : Design) (n : Joined) (tree : List Node) (order : List ℕ) (p : Problem) : Type 0 where
  pub tree_is : p.tree.nodes ≡ loaded_tree d n tree order
  pub driver : p.driver ≡ driver_of d n order
  pub sinks : p.sinks ≡ sinks_of d.rows n.par order
  pub places : p.places ≡ places_in d n tree order
  pub reps : p.reps ≡ reps_of d.library.repeaters
  pub allowed : p.allowed ≡ allowed_in d n.par order
