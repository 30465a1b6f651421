-- The lines of the report of a placement whose wires have widths.
use Rattle.std.specs.Prelude.{ℕ, ◌==◌, not, cond, ℤ, List, [], ◌++◌, length, filter, codes, decimal}
use Rattle.std.specs.Fmt.{signed_decimal}
use Rattle.std.specs.List.{flat_map, range_with_len}
use Rattle.elmore.specs.Placements.{cost_of}
use Rattle.vg_design.specs.Nets.{name_at}
use Rattle.vg_design.specs.declared.net_problem.NetProblem.{NetProblem}
use Rattle.vg_report.specs.Reports.{cell_count, cell_lines, printed_node}
use Rattle.vg_scan.specs.declared.name.NodeName.{NodeName}
use Rattle.vg_width.specs.declared.wide.WideBest.{WideBest}
use Rattle.wire_widths.specs.Widths.{chosen_at}

-- `net NAME slack S cost K cells M wide W`, with S in zs and K in thousandths
abbrev pub wide_line : List ℕ → ℤ → ℕ → ℕ → ℕ → List ℕ
wide_line name slack cost count wide =
    codes "net " ++ (name
    ++ (codes " slack " ++ (signed_decimal slack
    ++ (codes " cost " ++ (decimal cost
    ++ (codes " cells " ++ (decimal count
    ++ (codes " wide " ++ (decimal wide ++ codes "\n")))))))))

-- `width NODE I`, with the node at the wire's lower end
abbrev pub width_line : NodeName → ℕ → List ℕ
width_line node row = codes "width " ++ (printed_node node ++ (codes " " ++ (decimal row ++ codes "\n")))

-- the line of a wire with this width; of one that has the first none
abbrev pub row_line : NodeName → ℕ → List ℕ
row_line node row = cond (row == 0) [] (width_line node row)

-- that of the wire above u
abbrev pub wire_line : List NodeName → List ℕ → ℕ → List ℕ
wire_line names chosen u = row_line (name_at names u) (chosen_at chosen u)

-- those of all wires, in tree order
abbrev pub width_lines : List NodeName → List ℕ → List ℕ
width_lines names chosen = flat_map (wire_line names chosen) (range_with_len 0 (length chosen))

-- how many wires have another width than the first
abbrev pub wide_count : List ℕ → ℕ
wide_count chosen = length (filter (λ row. not (row == 0)) chosen)

-- the slack (zs), the cost (thousandths), the cells and the widths of a placement of repeaters with these cells
abbrev pub width_report : List ℕ → List (List ℕ) → NetProblem → WideBest → List ℕ
width_report name cells net best =
    wide_line name best.slack (cost_of net.problem best.placement.cells) (cell_count best.placement.cells)
    (wide_count best.chosen)
    ++ (cell_lines cells net.names best.placement.cells ++ width_lines net.names best.chosen)
