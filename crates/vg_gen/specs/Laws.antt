-- What the texts of a generated design say of its net, and how long they are.
use Rattle.std.specs.Prelude.{◌≡◌, ℕ, ◌+◌, ◌*◌, ◌^◌, ◌<◌, ◌≤◌, List, [], length, slice_index_or}
use Rattle.vg_gen.specs.Nets.{branch_count, resistance, capacitance, total, line_resistor, last_resistor, branch_resistor}
use Rattle.vg_gen.specs.Lines.{cap_line, res_line}
use Rattle.vg_gen.specs.Texts.{cap_lines, res_lines, spef_text, library_text, netlist_text, constraints_text}

-- a line of a part of the net, counted from the part's title, which is line 0
abbrev pub line_at : List (List ℕ) → ℕ → List ℕ
line_at lines k = slice_index_or lines k []

-- line k of the capacitors is that of capacitor k, and line k of the resistors that of resistor k: first those of the
-- line, then the last one, then those of the branches
pub record LinesAreNumbered (size : ℕ) : Type 0 where
  pub caps : length (cap_lines size) ≡ size + 1
  pub cap : (k : ℕ) → 1 ≤ k → k ≤ size → line_at (cap_lines size) k ≡ cap_line k (capacitance size k)
  pub ress : length (res_lines size) ≡ size + 1 + branch_count size + 1
  pub res : (k : ℕ) → 1 ≤ k → k ≤ size → line_at (res_lines size) k ≡ res_line k (line_resistor k (resistance size k))
  pub last : line_at (res_lines size) (size + 1) ≡ res_line (size + 1) (last_resistor size)
  pub branch : (j : ℕ) → 1 ≤ j → j ≤ branch_count size
      → line_at (res_lines size) (size + 1 + j) ≡ res_line (size + 1 + j) (branch_resistor j)

-- a resistor of the line has 100 to 199 ohms, a capacitor 10 to 19 fF, and all capacitors are together so many times
-- that
pub record ValuesAreSmall (size : ℕ) : Type 0 where
  pub resistors : (i : ℕ) → (100 ≤ resistance size i) × (resistance size i < 200)
  pub capacitors : (i : ℕ) → (10 ≤ capacitance size i) × (capacitance size i < 20)
  pub sum : (10 * size ≤ total size) × (total size ≤ 19 * size)

-- no text has more than 2^28 bytes
pub record TextsAreShort (size : ℕ) : Type 0 where
  pub spef : length (spef_text size) ≤ 2 ^ 28
  pub lib : length library_text ≤ 2 ^ 28
  pub verilog : length (netlist_text (branch_count size)) ≤ 2 ^ 28
  pub cons : length (constraints_text (branch_count size)) ≤ 2 ^ 28
