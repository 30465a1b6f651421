-- The net of a generated design: resistors in a line from the driver to a sink, behind each of them a capacitor to the
-- ground, and at every hundredth node a branch to a sink of its own.
use Rattle.std.specs.Prelude.{ℕ, ◌+◌, ◌-◌, ◌*◌, ◌/◌, ◌%◌, ◌==◌, if◌then◌else◌, List, map, sum_by}
use Rattle.std.specs.List.{range_with_len}
use Rattle.vg_gen.specs.declared.net.Node.{Node}
use Rattle.vg_gen.specs.declared.net.Node.TheVariants.{Driver, Inner, Sink, Branch}
use Rattle.vg_gen.specs.declared.net.Resistor.{Resistor}
use Rattle.vg_gen.specs.declared.net.Segment.{Segment}
use Rattle.vg_gen.specs.Random.{random}

-- 1, 2, .., n
abbrev pub up_to : ℕ → List ℕ
up_to n = range_with_len 1 n

-- how many branches a line of so many nodes has
abbrev pub branch_count : ℕ → ℕ
branch_count size = size / 100

-- resistor i of the line (ohms), and capacitor i (fF)
abbrev pub resistance : ℕ → ℕ → ℕ
resistance size i = 100 + random size (2 * i - 1) % 100

abbrev pub capacitance : ℕ → ℕ → ℕ
capacitance size i = 10 + random size (2 * i) % 10

-- both of them
abbrev pub segment : ℕ → ℕ → Segment
segment size i = record { ohms = resistance size i; femtofarads = capacitance size i }

abbrev pub segments : ℕ → List Segment
segments size = map (segment size) (up_to size)

-- the capacitors of these segments together (fF)
abbrev pub charge : List Segment → ℕ
charge line = sum_by (λ (piece : Segment). piece.femtofarads) line

-- and those of a line of this size
abbrev pub total : ℕ → ℕ
total size = sum_by (capacitance size) (up_to size)

-- where resistor i of the line begins: at the driver, or at the node before
abbrev pub before : ℕ → Node
before i = if i == 1 then Driver else Inner (i - 1)

-- resistor i of the line, of so many ohms
abbrev pub line_resistor : ℕ → ℕ → Resistor
line_resistor i ohms = record { from = before i; to = Inner i; ohms = ohms }

-- the resistor from the line to its sink
abbrev pub last_resistor : ℕ → Resistor
last_resistor size = record { from = Inner size; to = Sink; ohms = 100 }

-- that of branch j
abbrev pub branch_resistor : ℕ → Resistor
branch_resistor j = record { from = Inner (100 * j); to = Branch j; ohms = 50 }
