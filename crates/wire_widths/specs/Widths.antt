-- Wires of several widths: a width makes a wire's resistance less and adds a capacitance at its lower end.
use Rattle.std.specs.Prelude.{◌≡◌, ℕ, ◌+◌, ◌*◌, ◌/◌, ◌<◌, ◌≤◌, ◌==◌, ◌&&◌, ◌||◌, Bool, true, false, not, cond, List, length, slice_index_or, ℤ, pos, ◌+ℤ◌, ◌-ℤ◌, ◌≤ℤ◌, Option, Some, None, ◌++◌, [], ◌∷◌}
use Rattle.std.specs.List.{All, filter, sum_by}
use Rattle.elmore.specs.Path.{is_over, way, nodes as numbers}
use Rattle.elmore.specs.Cells.{cell_at, cell_delay, has_cell}
use Rattle.elmore.specs.Stage.{in_stage, ends_stage, load, input_load, seen}
use Rattle.elmore.specs.Delay.{delay_from}
use Rattle.elmore.specs.Problems.{is_live}
use Rattle.elmore.specs.Legal.{IsLegalBy}
use Rattle.elmore.specs.Placed.{IsLeast}
use Rattle.elmore.specs.Placements.{IsPlacement, HasPolarity}
use Rattle.elmore.specs.Trees.{IsTree, parent_of, resistance, capacitance}
use Rattle.elmore.specs.declared.tree.Node.{Node}
use Rattle.elmore.specs.declared.rep.Rep.{Rep}
use Rattle.elmore.specs.declared.parts.Sink.{Sink}
use Rattle.elmore.specs.declared.problem.Problem.{Problem}
use Rattle.wire_widths.specs.declared.width.Width.{Width}

-- the numbers of a width are within their limits
pub record IsWidth (w : Width) : Type 0 where
  pub some : 1 ≤ w.num
  pub less : w.num ≤ w.den
  pub den : w.den ≤ 1000
  pub add : w.add ≤ 1000000

-- a wire as it is
abbrev pub plain : Width
plain = record { num = 1; den = 1; add = 0 }

abbrev pub width_at : List Width → ℕ → Width
width_at widths i = slice_index_or widths i plain

-- what a width makes of a wire's resistance, and the capacitance that it adds, to the nearest, a half upward
abbrev pub resistance_by : Width → ℕ → ℕ
resistance_by w r = (2 * (r * w.num) + w.den) / (2 * w.den)

abbrev pub added_by : Width → ℕ → ℕ
added_by w r = (2 * (r * w.add) + 1000) / 2000

-- the wire above w is strictly below v, and its lower end is in the stage of v or ends it
abbrev pub is_charged_wire : (ℕ → ℕ) → (ℕ → Option Rep) → ℕ → ℕ → Bool
is_charged_wire parent cell v w = not (w == v) && (in_stage parent cell v w || ends_stage parent cell v w)

-- the load with the capacitances `a` added at the lower ends of the wires
unfoldable pub wide_load : (ℕ → ℕ) → (ℕ → ℕ) → (ℕ → ℕ) → (ℕ → Option Rep) → ℕ → ℕ → ℕ
wide_load parent c a cell n v = load parent c cell n v + sum_by a (filter (is_charged_wire parent cell v) (numbers n))

abbrev pub wide_input_load : (ℕ → ℕ) → (ℕ → ℕ) → (ℕ → ℕ) → (ℕ → Option Rep) → ℕ → ℕ → ℕ
wide_input_load parent c a cell n v = seen (cell v) (wide_load parent c a cell n v)

-- the delay: each wire charges what is seen of its lower end, and what it adds there
unfoldable pub wide_delay : (ℕ → ℕ) → (ℕ → ℕ) → (ℕ → ℕ) → (ℕ → ℕ) → (ℕ → Option Rep) → ℕ → ℕ → ℕ → ℕ
wide_delay parent r a c cell n v w =
    sum_by (λ u. r u * (wide_input_load parent c a cell n u + a u)) (way parent v w)
    + sum_by (λ u. cell_delay (cell u) (wide_load parent c a cell n u)) (way parent v w ++ v ∷ [])

-- THE SAME BY OTHER FUNCTIONS: what is added stands at the input of a cell, and with the capacitance of a node without
-- one
abbrev pub with_input : ℕ → Option Rep → Option Rep
with_input a None = None
with_input a (Some rep) =
    Some (record { inverts = rep.inverts; cin = rep.cin + a; k = rep.k; r = rep.r; cost = rep.cost; limit = rep.limit })

abbrev pub wide_cell : (ℕ → ℕ) → (ℕ → Option Rep) → ℕ → Option Rep
wide_cell a cell u = with_input (a u) (cell u)

-- what is added at a node without a cell
abbrev pub added_open : (ℕ → ℕ) → (ℕ → Option Rep) → ℕ → ℕ
added_open a cell u = cond (has_cell cell u) 0 (a u)

abbrev pub wide_capacitance : (ℕ → ℕ) → (ℕ → ℕ) → (ℕ → Option Rep) → ℕ → ℕ
wide_capacitance c a cell u = c u + added_open a cell u

-- the load at a node without a cell is by its own wire's added capacitance more; what is seen is so at every node; the
-- delays are the same
pub record IsElmoreOf (parent r a c : ℕ → ℕ) (cell : ℕ → Option Rep) (n : ℕ) : Type 0 where
  pub loads : (v : ℕ) → v < n
      → load parent (wide_capacitance c a cell) (wide_cell a cell) n v
      ≡ wide_load parent c a cell n v + added_open a cell v
  pub input_loads : (v : ℕ) → v < n
      → input_load parent (wide_capacitance c a cell) (wide_cell a cell) n v ≡ wide_input_load parent c a cell n v + a v
  pub delays : (v w : ℕ) → v < n → is_over parent v w ≡ true
      → delay_from parent r (wide_capacitance c a cell) (wide_cell a cell) n v w ≡ wide_delay parent r a c cell n v w

-- for every tree, cells and widths
abbrev pub WidthsAreElmore : Type 0
WidthsAreElmore = (tree : List Node) (r a : ℕ → ℕ) (cell : ℕ → Option Rep) → IsTree tree
    → IsElmoreOf (parent_of tree) r a (capacitance tree) cell (length tree)

-- up to eight widths, of which the first leaves a wire as it is
pub record AreWidths (widths : List Width) : Type 0 where
  pub some : 0 < length widths
  pub few : length widths ≤ 8
  pub first : width_at widths 0 ≡ plain
  pub each : All IsWidth widths

abbrev pub chosen_at : List ℕ → ℕ → ℕ
chosen_at chosen u = slice_index_or chosen u 0

-- one row for each wire; the root and the nodes that are not live have the first
pub record IsLawful (p : Problem) (widths : List Width) (chosen : List ℕ) : Type 0 where
  pub one_each : length chosen ≡ length p.tree.nodes
  pub rows : (u : ℕ) → chosen_at chosen u < length widths
  pub root : chosen_at chosen 0 ≡ 0
  pub dead : (u : ℕ) → is_live p.tree.nodes p.sinks u ≡ false → chosen_at chosen u ≡ 0

-- the wire of u under row i
abbrev pub wire_r : Problem → List Width → ℕ → ℕ → ℕ
wire_r p widths i u = resistance_by (width_at widths i) (resistance p.tree.nodes u)

abbrev pub wire_a : Problem → List Width → ℕ → ℕ → ℕ
wire_a p widths i u = added_by (width_at widths i) (resistance p.tree.nodes u)

abbrev pub r_of : Problem → List Width → List ℕ → ℕ → ℕ
r_of p widths chosen u = wire_r p widths (chosen_at chosen u) u

abbrev pub a_of : Problem → List Width → List ℕ → ℕ → ℕ
a_of p widths chosen u = wire_a p widths (chosen_at chosen u) u

abbrev pub wide_load_of : Problem → List Width → List (Option ℕ) → List ℕ → ℕ → ℕ
wide_load_of p widths cells chosen v =
    wide_load (parent_of p.tree.nodes) (capacitance p.tree.nodes) (a_of p widths chosen) (cell_at p.reps cells)
    (length p.tree.nodes) v

abbrev pub wide_input_load_of : Problem → List Width → List (Option ℕ) → List ℕ → ℕ → ℕ
wide_input_load_of p widths cells chosen v =
    wide_input_load (parent_of p.tree.nodes) (capacitance p.tree.nodes) (a_of p widths chosen) (cell_at p.reps cells)
    (length p.tree.nodes) v

abbrev pub wide_delay_between : Problem → List Width → List (Option ℕ) → List ℕ → ℕ → ℕ → ℕ
wide_delay_between p widths cells chosen v w =
    wide_delay (parent_of p.tree.nodes) (r_of p widths chosen) (a_of p widths chosen) (capacitance p.tree.nodes)
    (cell_at p.reps cells) (length p.tree.nodes) v w

abbrev pub wide_slack_at : Problem → List Width → List (Option ℕ) → List ℕ → ℕ → Sink → ℤ
wide_slack_at p widths cells chosen w sink =
    sink.required -ℤ p.driver.arrival
    -ℤ (p.driver.k
    +ℤ pos (p.driver.r * wide_load_of p widths cells chosen 0 + wide_delay_between p widths cells chosen 0 w))

-- x is the least slack of all sinks
abbrev pub IsWideSlack : Problem → List Width → List (Option ℕ) → List ℕ → ℤ → Type 0
IsWideSlack p widths cells chosen x = IsLeast p.sinks (wide_slack_at p widths cells chosen) x

-- a placement is legal with widths where it is so by the loads with them
abbrev pub IsWideLegal : Problem → List Width → List (Option ℕ) → List ℕ → Type 0
IsWideLegal p widths cells chosen = IsLegalBy p cells (wide_load_of p widths cells chosen)

-- a legal placement and a lawful choice of widths, where every sink has its wanted polarity
pub record IsWideGood (p : Problem) (widths : List Width) (cells : List (Option ℕ)) (chosen : List ℕ) : Type 0 where
  pub placement : IsPlacement p cells
  pub lawful : IsLawful p widths chosen
  pub legal : IsWideLegal p widths cells chosen
  pub wanted : (w : ℕ) → HasPolarity p cells w

-- good with slack x, and no good placement and choice of widths have more
pub record IsWideBest (p : Problem) (widths : List Width) (cells : List (Option ℕ)) (chosen : List ℕ)
    (x : ℤ) : Type 0 where
  pub good : IsWideGood p widths cells chosen
  pub slack : IsWideSlack p widths cells chosen x
  pub most : (others : List (Option ℕ)) (rows : List ℕ) (y : ℤ) → IsWideGood p widths others rows
      → IsWideSlack p widths others rows y → y ≤ℤ x
