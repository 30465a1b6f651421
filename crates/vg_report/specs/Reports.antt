-- The lines of reports.
use Rattle.std.specs.Prelude.{ℕ, ◌==◌, Bool, ℤ, pos, List, [], ◌∷◌, ◌++◌, length, filter, slice_index_or, codes, decimal, if◌then◌else◌, Option, Some, None, is_some}
use Rattle.std.specs.Fmt.{signed_decimal}
use Rattle.std.specs.List.{flat_map, range_with_len}
use Rattle.elmore.specs.Placements.{cost_of}
use Rattle.vg_scan.specs.declared.name.NodeName.{NodeName}
use Rattle.spef_wire.specs.declared.refusal.Refusal.{Refusal}
use Rattle.spef_wire.specs.declared.refusal.Refusal.TheVariants.{UnknownNet, Section, Reduced, Inductive, Bidirectional, NoDriver, ManyDrivers, Mismatch, Tied, NoDrive, NoLoad, Floating, Loop, NoSink, Unconstrained, TooLarge}
use Rattle.vg_design.specs.Nets.{name_at}
use Rattle.vg_design.specs.declared.net_problem.NetProblem.{NetProblem}
use Rattle.vg_design.specs.declared.time.Timed.{Timed}
use Rattle.vg_slack.specs.declared.answer.Best.{Best}
use Rattle.vg_front.specs.declared.root.Point.{Point}
use Rattle.spef_wire.specs.declared.wire.WireNet.{WireNet}
use Rattle.spef_wire.specs.Refusals.{number_of}
use Rattle.vg_report.specs.Faults.{net_fault}

-- a node: its owner, and after a colon its leaf, where it has one
abbrev pub printed_node : NodeName → List ℕ
printed_node node = if length node.leaf == 0 then node.owner else node.owner ++ 58 ∷ node.leaf

-- `net NAME total T`
abbrev pub total_line : List ℕ → ℕ → List ℕ
total_line name total = codes "net " ++ name ++ codes " total " ++ signed_decimal (pos total) ++ codes "\n"

-- `sink NODE D`
abbrev pub sink_line : NodeName × ℤ → List ℕ
sink_line row = codes "sink " ++ printed_node row.0 ++ codes " " ++ signed_decimal row.1 ++ codes "\n"

-- the total (aF), and then each sink's wire delay (zs)
abbrev pub wire_report : List ℕ → WireNet → List ℕ
wire_report name wire = total_line name wire.total ++ flat_map sink_line wire.sinks

-- `right`, or `wrong NODE`
abbrev pub polarity_text : Option NodeName → List ℕ
polarity_text None = codes "right"
polarity_text (Some node) = codes "wrong " ++ printed_node node

-- `net NAME slack S polarity `, with S in zs, before the rest of its line
abbrev pub slack_before : List ℕ → ℤ → List ℕ → List ℕ
slack_before name slack rest =
    codes "net " ++ (name ++ (codes " slack " ++ (signed_decimal slack ++ (codes " polarity " ++ rest))))

-- `net NAME slack S polarity right`, or `net NAME slack S polarity wrong NODE`
abbrev pub slack_line : List ℕ → Timed → List ℕ
slack_line name timed = slack_before name timed.slack (polarity_text timed.wrong ++ codes "\n")

-- `net NAME slack S cost K cells M`, with S in zs and K in thousandths
abbrev pub best_line : List ℕ → ℤ → ℕ → ℕ → List ℕ
best_line name slack cost count =
    codes "net " ++ (name
    ++ (codes " slack " ++ (signed_decimal slack
    ++ (codes " cost " ++ (decimal cost ++ (codes " cells " ++ (decimal count ++ codes "\n")))))))

-- `at NODE CELL`
abbrev pub at_line : NodeName → List ℕ → List ℕ
at_line node cell = codes "at " ++ (printed_node node ++ (codes " " ++ (cell ++ codes "\n")))

-- the line of a node that has a cell of these, by its number; of another node none
abbrev pub cell_line : List (List ℕ) → NodeName → Option ℕ → List ℕ
cell_line cells node None = []
cell_line cells node (Some b) = at_line node (slice_index_or cells b [])

-- that of the node v of a placement
abbrev pub node_line : List (List ℕ) → List NodeName → List (Option ℕ) → ℕ → List ℕ
node_line cells names placed v = cell_line cells (name_at names v) (slice_index_or placed v None)

-- those of all nodes, in tree order
abbrev pub cell_lines : List (List ℕ) → List NodeName → List (Option ℕ) → List ℕ
cell_lines cells names placed = flat_map (node_line cells names placed) (range_with_len 0 (length placed))

-- how many nodes have a cell
abbrev pub cell_count : List (Option ℕ) → ℕ
cell_count placed = length (filter is_some placed)

-- the slack (zs), the cost (thousandths) and the cells of a placement of repeaters with these cells
abbrev pub best_report : List ℕ → List (List ℕ) → NetProblem → Best → List ℕ
best_report name cells net best =
    best_line name best.slack (cost_of net.problem best.placement.cells) (cell_count best.placement.cells)
    ++ cell_lines cells net.names best.placement.cells

-- `net NAME points P`
abbrev pub points_line : List ℕ → ℕ → List ℕ
points_line name count = codes "net " ++ (name ++ (codes " points " ++ (decimal count ++ codes "\n")))

-- ` K S cells M` and the line's end, with K in thousandths and S in zs
abbrev pub point_values : ℕ → ℤ → ℕ → List ℕ
point_values cost slack count =
    codes " " ++ (decimal cost
    ++ (codes " " ++ (signed_decimal slack ++ (codes " cells " ++ (decimal count ++ codes "\n")))))

-- `point K S cells M`
abbrev pub point_line : ℕ → ℤ → ℕ → List ℕ
point_line cost slack count = codes "point" ++ point_values cost slack count

-- the cost (thousandths), the slack (zs) and the cells of a point of a frontier
abbrev pub point_report : List (List ℕ) → List NodeName → Point → List ℕ
point_report cells names point =
    point_line point.cost point.slack (cell_count point.placement.cells) ++ cell_lines cells names point.placement.cells

-- `pick NAME K S cells M`
abbrev pub pick_line : List ℕ → ℕ → ℤ → ℕ → List ℕ
pick_line name cost slack count = codes "pick " ++ (name ++ point_values cost slack count)

-- the same of a point of a net's frontier that is picked
abbrev pub pick_report : List ℕ → List (List ℕ) → List NodeName → Point → List ℕ
pick_report name cells names point =
    pick_line name point.cost point.slack (cell_count point.placement.cells)
    ++ cell_lines cells names point.placement.cells

-- how many points a frontier has, and then each
abbrev pub front_report : List ℕ → List (List ℕ) → NetProblem → List Point → List ℕ
front_report name cells net points = points_line name (length points) ++ flat_map (point_report cells net.names) points

-- `net NAME none`
abbrev pub none_line : List ℕ → List ℕ
none_line name = codes "net " ++ (name ++ codes " none\n")

-- how many nodes are places
abbrev pub place_count : List Bool → ℕ
place_count places = length (filter (λ is_place. is_place) places)

-- the slack of a best placement (zs) and how many cells it has, or that there is none
abbrev pub found_text : Option Best → List ℕ
found_text None = codes "none cells 0"
found_text (Some best) = signed_decimal best.slack ++ (codes " cells " ++ decimal (cell_count best.placement.cells))

-- `entries E certificate valid`, and the line's end
abbrev pub entries_text : ℕ → List ℕ
entries_text entries = codes " entries " ++ (decimal entries ++ codes " certificate valid\n")

-- `gen places N bare B best S cells M entries E certificate valid`, with B and S in zs
abbrev pub gen_line : ℕ → ℤ → Option Best → ℕ → List ℕ
gen_line places bare found entries =
    codes "gen places " ++ (decimal places
    ++ (codes " bare " ++ (signed_decimal bare ++ (codes " best " ++ (found_text found ++ entries_text entries)))))

-- the kind of a refusal, and what it tells
abbrev pub refusal_kind : Refusal → List ℕ
refusal_kind UnknownNet = codes "UnknownNet"
refusal_kind (Section fault) = codes "Section " ++ net_fault fault
refusal_kind Reduced = codes "Reduced"
refusal_kind Inductive = codes "Inductive"
refusal_kind Bidirectional = codes "Bidirectional"
refusal_kind NoDriver = codes "NoDriver"
refusal_kind ManyDrivers = codes "ManyDrivers"
refusal_kind Mismatch = codes "Mismatch"
refusal_kind Tied = codes "Tied"
refusal_kind NoDrive = codes "NoDrive"
refusal_kind (NoLoad node) = codes "NoLoad " ++ printed_node node
refusal_kind (Floating node) = codes "Floating " ++ printed_node node
refusal_kind Loop = codes "Loop"
refusal_kind NoSink = codes "NoSink"
refusal_kind (Unconstrained node) = codes "Unconstrained " ++ printed_node node
refusal_kind TooLarge = codes "TooLarge"

-- `net NAME refused NUMBER KIND`
abbrev pub refused_line : List ℕ → ℕ → List ℕ → List ℕ
refused_line name number kind =
    codes "net " ++ name ++ codes " refused " ++ decimal number ++ codes " " ++ kind ++ codes "\n"

abbrev pub refusal_line : List ℕ → Refusal → List ℕ
refusal_line name refusal = refused_line name (number_of refusal) (refusal_kind refusal)
