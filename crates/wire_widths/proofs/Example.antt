-- The worked net: 1 kΩ to a node with 100 fF and a buffer of 20 ps, 0.5 kΩ and 2 fF there, and 1 kΩ on to a sink with 102 fF. Under
-- the row 1 2 20 the lower wire has 0.5 kΩ and adds 20 fF: 2 + 131 + 61 ps behind the driver's 10 + 2.
use Rattle.std.proofs.Common.{◌≡◌, ℕ, zero, suc, false, List, [], ◌∷◌, refl, Option, Some, None}
use Rattle.elmore.specs.Path.{climb, path, is_over, way}
use Rattle.elmore.specs.Stage.{in_stage, ends_stage, load}
use Rattle.elmore.specs.Trees.{parent_of, resistance, capacitance}
use Rattle.elmore.specs.declared.tree.Node.{Node}
use Rattle.elmore.specs.declared.rep.Rep.{Rep}
use Rattle.wire_widths.specs.Widths.{resistance_by, added_by, wide_load, wide_delay}
use Rattle.wire_widths.specs.declared.width.Width.{Width}

abbrev tree : List Node
tree = record { parent = 0; r = 0; c = 0 } ∷ record { parent = 0; r = 1000000; c = 100000 } ∷ record { parent = 1; r = 1000000; c = 102000 } ∷ []

abbrev cell : ℕ → Option Rep
cell (suc zero) = Some (record { inverts = false; cin = 2000; k = 20000000000; r = 500000; cost = 2000; limit = None })
cell v = None

abbrev half : Width
half = record { num = 1; den = 2; add = 20 }

abbrev r : ℕ → ℕ
r (suc (suc zero)) = resistance_by half 1000000
r v = resistance tree v

abbrev a : ℕ → ℕ
a (suc (suc zero)) = added_by half 1000000
a v = 0

narrowed : resistance_by half 1000000 ≡ 500000
narrowed = refl

added : added_by half 1000000 ≡ 20000
added = refl

loaded : wide_load (parent_of tree) (capacitance tree) a cell 3 0 ≡ 2000
unfolding wide_load load in_stage ends_stage climb path is_over way
loaded = refl

late : wide_delay (parent_of tree) r a (capacitance tree) cell 3 0 2 ≡ 194000000000
unfolding wide_delay wide_load load in_stage ends_stage climb path is_over way
late = refl
