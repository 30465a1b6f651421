-- Loads with widths by the pass from the last node to the root, one wire at a time.
use Rattle.std.proofs.Common.{◌≡◌, ◌≢◌, ℕ, ◌+◌, ◌<◌, ◌≤◌, ◌^◌, List, sym, ap, ◌∙◌, cond, arith, inl, inr, Option, Some, None, is_some, length, get_or, set}
use Rattle.std.proofs.lemmas.Bool.{cases_eq}
use Rattle.std.proofs.lemmas.List.{get_or-set_same, get_or-set_other}
use Rattle.elmore.specs.Path.{Falls, nodes}
use Rattle.elmore.specs.Cells.{input_capacitance, rep_of, cell_at}
use Rattle.elmore.specs.Stage.{seen}
use Rattle.elmore.specs.Trees.{parent_of, capacitance}
use Rattle.elmore.specs.declared.problem.Problem.{Problem}
use Rattle.elmore.specs.declared.rep.Rep.{Rep}
use Rattle.elmore.specs.declared.tree.Node.{Node}
use Rattle.elmore.proofs.CutLemmas.{cut, cut_hung, cut_falls}
use Rattle.elmore.proofs.HungLoadLemmas.{load_hung, load_other}
use Rattle.elmore.proofs.LoadLemmas.{load_alone, load_bound}
use Rattle.elmore.proofs.SumLemmas.{sum_of_both, sum_of_same}
use Rattle.elmore.proofs.TreeLemmas.{tree_falls, resistance_read}
use Rattle.wire_widths.specs.Widths.{wide_load, wide_input_load, with_input, wide_cell, wide_capacitance, width_at, added_by, chosen_at, a_of}
use Rattle.wire_widths.specs.declared.width.Width.{Width}
use Rattle.wire_widths.proofs.WideBoundLemmas.{all_charge}
use Rattle.wire_widths.proofs.WideLoadLemmas.{loads_wide, input_loads_wide}
use Rattle.wire_widths.proofs.WideSmallLemmas.{charge_fits}
use Rattle.vg_width.specs.Nets.{IsWideNet}

-- without wires the load of a node is its own capacitance
pub wide_alone : (parent c a : ℕ → ℕ) (cell : ℕ → Option Rep) → ((u : ℕ) → parent u ≡ u) → (n v : ℕ) → v < n → wide_load parent c a cell n v ≡ c v
wide_alone parent c a cell alone n v v_n =
    omega (
      arith,
      loads_wide parent c a cell (λ u. omega (arith, alone u)) n v v_n,
      load_alone parent alone (wide_capacitance c a cell) (wide_cell a cell) n v v_n,
    )

-- in a forest too a load is at most all that can be one
charge_at : (o : Option Rep) (c a : ℕ) → (c + cond (is_some o) 0 a) + input_capacitance (with_input a o) ≡ (c + a) + input_capacitance o
charge_at None c a = omega arith
charge_at (Some rep) c a = omega arith

pub wide_most : (parent c a : ℕ → ℕ) (cell : ℕ → Option Rep) → Falls parent → (n v : ℕ) → v < n → wide_load parent c a cell n v ≤ all_charge c a cell n
wide_most parent c a cell falls n v v_n =
    omega (
      arith,
      loads_wide parent c a cell falls n v v_n,
      load_bound parent (wide_capacitance c a cell) (wide_cell a cell) n v,
      sum_of_both (wide_capacitance c a cell) (λ u. input_capacitance (wide_cell a cell u)) (nodes n),
      sum_of_same (λ u. wide_capacitance c a cell u + input_capacitance (wide_cell a cell u)) (λ u. (c u + a u) + input_capacitance (cell u)) (nodes n)
          (λ u. charge_at (cell u) (c u) (a u)),
      sum_of_both (λ u. c u + a u) (λ u. input_capacitance (cell u)) (nodes n),
      sum_of_both c a (nodes n),
    )

-- what the wire of node i adds to the load of its parent
wire_adds : (parent c a : ℕ → ℕ) (cell : ℕ → Option Rep) (n i j : ℕ) → i + 1 ≡ j → Falls parent → parent i < i → i < n
    → wide_load (cut i parent) c a cell n (parent i) ≡ wide_load (cut j parent) c a cell n (parent i) + (wide_input_load (cut j parent) c a cell n i + a i)
wire_adds parent c a cell n i j next falls above i_n =
    omega (
      arith,
      load_hung _ _ i (parent i) (cut_hung parent falls i j next above) (wide_capacitance c a cell) (wide_cell a cell) n i_n,
      loads_wide (cut i parent) c a cell (cut_falls i parent falls) n (parent i) (omega arith),
      loads_wide (cut j parent) c a cell (cut_falls j parent falls) n (parent i) (omega arith),
      input_loads_wide (cut j parent) c a cell (cut_falls j parent falls) n i i_n,
    )

-- and to no other
wire_leaves : (parent c a : ℕ → ℕ) (cell : ℕ → Option Rep) (n i j v : ℕ) → i + 1 ≡ j → Falls parent → parent i < i → v < n → v ≢ parent i
    → wide_load (cut i parent) c a cell n v ≡ wide_load (cut j parent) c a cell n v
wire_leaves parent c a cell n i j v next falls above v_n other =
    omega (
      arith,
      load_other _ _ i (parent i) (cut_hung parent falls i j next above) (wide_capacitance c a cell) (wide_cell a cell) n v other,
      loads_wide (cut i parent) c a cell (cut_falls i parent falls) n v v_n,
      loads_wide (cut j parent) c a cell (cut_falls j parent falls) n v v_n,
    )

pub record AreWideLoads (parent c a : ℕ → ℕ) (cell : ℕ → Option Rep) (n : ℕ) (loads : List ℕ) : Type 0 where
  pub each : (v : ℕ) → v < n → get_or loads v 0 ≡ wide_load parent c a cell n v

-- the new load of the parent
pub up_load : (parent c a : ℕ → ℕ) (cell : ℕ → Option Rep) (n i j up : ℕ) (loads : List ℕ) → i + 1 ≡ j → Falls parent → parent i < i → i < n
    → AreWideLoads (cut j parent) c a cell n loads → up ≡ seen (cell i) (get_or loads i 0) + a i
    → get_or loads (parent i) 0 + up ≡ wide_load (cut i parent) c a cell n (parent i)
up_load parent c a cell n i j up loads next falls above i_n before up_is =
    omega (
      arith,
      up_is,
      ap (seen (cell i)) (before.each i i_n),
      before.each (parent i) (omega arith),
      wire_adds parent c a cell n i j next falls above i_n,
    )

pub loads_more : (parent c a : ℕ → ℕ) (cell : ℕ → Option Rep) (n i j up : ℕ) (loads : List ℕ) → i + 1 ≡ j → Falls parent → parent i < i → i < n
    → n ≤ length loads → AreWideLoads (cut j parent) c a cell n loads → up ≡ seen (cell i) (get_or loads i 0) + a i
    → AreWideLoads (cut i parent) c a cell n (set loads (parent i) (get_or loads (parent i) 0 + up))
loads_more parent c a cell n i j up loads next falls above i_n room before up_is = record {
  each = λ v v_n.
      elim (cases_eq v (parent i)) [
        | inl e ↦
            rw e
            (get_or-set_same loads (parent i) (get_or loads (parent i) 0 + up) 0 (omega arith)
            ∙ up_load parent c a cell n i j up loads next falls above i_n before up_is)
        | inr e ↦
            get_or-set_other loads (parent i) v (get_or loads (parent i) 0 + up) 0 e
            ∙ before.each v v_n
            ∙ sym (wire_leaves parent c a cell n i j v next falls above v_n e)
      ];
}

-- the loads of a net with cells and widths, where it keeps only the wires of the nodes from i on
abbrev pub AreLoadsFrom : Problem → List Width → List (Option ℕ) → List ℕ → ℕ → List ℕ → Type 0
AreLoadsFrom p widths cells chosen i loads =
    AreWideLoads (cut i (parent_of p.tree.nodes)) (capacitance p.tree.nodes) (a_of p widths chosen) (cell_at p.reps cells) (length p.tree.nodes) loads

pub all_small : (p : Problem) (widths : List Width) (cells : List (Option ℕ)) (chosen : List ℕ) → IsWideNet p widths cells chosen
    → all_charge (capacitance p.tree.nodes) (a_of p widths chosen) (cell_at p.reps cells) (length p.tree.nodes) ≤ 10 ^ 11
all_small p widths cells chosen net = charge_fits p widths cells chosen net.are net.fits net.placement net.placed net.lawful

-- what the code adds for the wire of node i
pub charged_is : (p : Problem) (widths : List Width) (cells : List (Option ℕ)) (chosen : List ℕ) (i load added up : ℕ) (nodes : List Node) (reps : List Rep) (d : Node)
    (width : Width) → nodes ≡ p.tree.nodes → reps ≡ p.reps → i < length p.tree.nodes → width ≡ width_at widths (chosen_at chosen i)
    → added ≡ added_by width (get_or nodes i d).r → up ≡ seen (rep_of reps (get_or cells i None)) load + added
    → up ≡ seen (cell_at p.reps cells i) load + a_of p widths chosen i
charged_is p widths cells chosen i load added up nodes reps d width nodes_are reps_are i_n width_is added_is up_is =
    let wire : added ≡ a_of p widths chosen i =
    added_is ∙ ap (λ w. added_by w (get_or nodes i d).r) width_is
    ∙ ap (added_by (width_at widths (chosen_at chosen i))) (ap (λ ns. (get_or ns i d).r) nodes_are ∙ resistance_read p.tree.nodes i d i_n) in
    omega (arith, up_is, wire, ap (λ rs. seen (rep_of rs (get_or cells i None)) load) reps_are)

-- each load of the pass is small
pub load_from_small : (p : Problem) (widths : List Width) (cells : List (Option ℕ)) (chosen : List ℕ) (i v : ℕ) → IsWideNet p widths cells chosen → v < length p.tree.nodes
    → wide_load (cut i (parent_of p.tree.nodes)) (capacitance p.tree.nodes) (a_of p widths chosen) (cell_at p.reps cells) (length p.tree.nodes) v ≤ 10 ^ 11
load_from_small p widths cells chosen i v net v_n =
    omega (
      arith,
      wide_most (cut i (parent_of p.tree.nodes)) (capacitance p.tree.nodes) (a_of p widths chosen) (cell_at p.reps cells)
          (cut_falls i (parent_of p.tree.nodes) (tree_falls p.tree.nodes p.tree.a_tree)) (length p.tree.nodes) v v_n,
      all_small p widths cells chosen net,
    )
