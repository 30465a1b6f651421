-- The texts of a generated design, line by line.
use Rattle.std.specs.Prelude.{ℕ, ◌+◌, ◌%◌, ◌==◌, Bool, List, [], ◌∷◌, ◌++◌, map, filter, codes}
use Rattle.vg_gen.specs.declared.net.Node.TheVariants.{Sink, Branch}
use Rattle.vg_gen.specs.Nets.{up_to, branch_count, resistance, capacitance, total, line_resistor, last_resistor, branch_resistor}
use Rattle.vg_gen.specs.Lines.{lined, head_line, sink_line, cap_line, res_line, cell_line, want_line}

-- the lines of the SPEF text before the net
unfoldable pub header_lines : List (List ℕ)
header_lines =
    codes "*SPEF \"IEEE 1481-1998\""
    ∷ codes "*DESIGN \"top\""
    ∷ codes "*DATE \"none\""
    ∷ codes "*VENDOR \"none\""
    ∷ codes "*PROGRAM \"none\""
    ∷ codes "*VERSION \"1\""
    ∷ codes "*DESIGN_FLOW \"none\""
    ∷ codes "*DIVIDER /"
    ∷ codes "*DELIMITER :"
    ∷ codes "*BUS_DELIMITER [ ]"
    ∷ codes "*T_UNIT 1 PS"
    ∷ codes "*C_UNIT 1 FF"
    ∷ codes "*R_UNIT 1 OHM"
    ∷ codes "*L_UNIT 1 HENRY"
    ∷ []

-- the sinks of so many branches
abbrev pub branch_sinks : ℕ → List (List ℕ)
branch_sinks count = map (λ j. sink_line (Branch j)) (up_to count)

-- the capacitors and the resistors of the line, and the resistors of the branches
abbrev pub line_caps : ℕ → List (List ℕ)
line_caps size = map (λ i. cap_line i (capacitance size i)) (up_to size)

abbrev pub line_ress : ℕ → List (List ℕ)
line_ress size = map (λ i. res_line i (line_resistor i (resistance size i))) (up_to size)

abbrev pub branch_ress : ℕ → List (List ℕ)
branch_ress size = map (λ j. res_line (size + 1 + j) (branch_resistor j)) (up_to (branch_count size))

-- the parts of the net: the connections, where there are so many branches, the capacitors, and the resistors
abbrev pub conn_lines : ℕ → List (List ℕ)
conn_lines count = codes "*CONN" ∷ codes "*I u1:Z O" ∷ sink_line Sink ∷ branch_sinks count

abbrev pub cap_lines : ℕ → List (List ℕ)
cap_lines size = codes "*CAP" ∷ line_caps size

abbrev pub res_lines : ℕ → List (List ℕ)
res_lines size = codes "*RES" ∷ (line_ress size ++ (res_line (size + 1) (last_resistor size) ∷ branch_ress size))

-- the SPEF text
abbrev pub spef_lines : ℕ → List (List ℕ)
spef_lines size =
    header_lines
    ++ (head_line (total size)
    ∷ (conn_lines (branch_count size) ++ (cap_lines size ++ (res_lines size ++ codes "*END" ∷ []))))

abbrev pub spef_text : ℕ → List ℕ
spef_text size = lined (spef_lines size)

-- the netlist, where there are so many branches
abbrev pub branch_cells : ℕ → List (List ℕ)
branch_cells count = map cell_line (up_to count)

abbrev pub netlist_lines : ℕ → List (List ℕ)
netlist_lines count =
    codes "module gen (i0);"
    ∷ codes "input i0;"
    ∷ codes "wire g;"
    ∷ codes "DRV u1 (.A(i0), .Z(g));"
    ∷ codes "BUF u2 (.A(g), .Z());"
    ∷ (branch_cells count ++ codes "endmodule" ∷ [])

abbrev pub netlist_text : ℕ → List ℕ
netlist_text count = lined (netlist_lines count)

-- the constraints, where there are so many branches: those with an odd number want something
abbrev pub is_odd : ℕ → Bool
is_odd j = j % 2 == 1

abbrev pub wants : List ℕ → List (List ℕ)
wants js = map want_line (filter is_odd js)

abbrev pub constraint_lines : ℕ → List (List ℕ)
constraint_lines count = codes "vgcons 1" ∷ codes "default required 1000000" ∷ wants (up_to count)

abbrev pub constraints_text : ℕ → List ℕ
constraints_text count = lined (constraint_lines count)

-- the library: a driver, a buffer and an inverter
unfoldable pub library_lines : List (List ℕ)
library_lines =
    codes "library (demo) {"
    ∷ codes "  delay_model : generic_cmos;"
    ∷ codes "  time_unit : \"1ps\";"
    ∷ codes "  capacitive_load_unit (1, ff);"
    ∷ codes "  cell (DRV) { area : 4; dont_use : true;"
    ∷ codes "    pin (A) { direction : input; capacitance : 2; }"
    ∷ codes "    pin (Z) { direction : output; function : \"A\";"
    ∷ codes "      timing () { related_pin : \"A\"; intrinsic_rise : 10; intrinsic_fall : 9;"
    ∷ codes "        rise_resistance : 1; fall_resistance : 0.9; } } }"
    ∷ codes "  cell (BUF) { area : 2;"
    ∷ codes "    pin (A) { direction : input; capacitance : 2; }"
    ∷ codes "    pin (Z) { direction : output; function : \"A\";"
    ∷ codes "      timing () { related_pin : \"A\"; intrinsic_rise : 20; intrinsic_fall : 18;"
    ∷ codes "        rise_resistance : 0.5; fall_resistance : 0.4; } } }"
    ∷ codes "  cell (INV) { area : 1;"
    ∷ codes "    pin (A) { direction : input; capacitance : 1; }"
    ∷ codes "    pin (ZN) { direction : output; function : \"!A\";"
    ∷ codes "      timing () { related_pin : \"A\"; intrinsic_rise : 10; intrinsic_fall : 10;"
    ∷ codes "        rise_resistance : 0.5; fall_resistance : 0.5; } } }"
    ∷ codes "}"
    ∷ []

abbrev pub library_text : List ℕ
library_text = lined library_lines
