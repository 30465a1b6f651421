-- The nets of the stages are what the placement cuts the net into.
use Rattle.std.proofs.Common.{◌≡◌, ℕ, ◌<◌, true, cond, List, length, get_or, slice_index, sym, ap, ◌∙◌, subst, arith, inl, inr, Some}
use Rattle.std.proofs.lemmas.List.{get_or-map, length-map}
use Rattle.std.proofs.lemmas.List.FromFn.{length-map-range_with_len}
use Rattle.elmore.specs.Cells.{cell_at}
use Rattle.elmore.specs.Problems.{sink_of}
use Rattle.elmore.specs.Trees.{node_at, parent_of}
use Rattle.elmore.specs.declared.tree.Node.{Node}
use Rattle.cut_laws.specs.CutNets.{AreCut, Begins, cell_end, end_of, is_end, sink_end}
use Rattle.cut_laws.specs.Pieces.{Forest, IsPieceOf, in_piece, piece_capacitance}
use Rattle.cut_laws.specs.Walks.{End, end_at, nothing, passes}
use Rattle.cut_laws.proofs.PieceLemmas.{piece_cases}
use Rattle.vg_design.specs.Designs.{Design, Joined, NO_NODE, name_of}
use Rattle.vg_design.specs.Parts.{loaded}
use Rattle.vg_scan.specs.declared.name.NodeName.{NodeName}
use Rattle.vg_split.proofs.StageNumberLemmas.{number_below, number_head}
use Rattle.vg_split.specs.Splits.{Split, forest, head, repeater_at, stage_from}
use Rattle.vg_split.specs.Stages.{heads}
use Rattle.split_laws.specs.Cuts.{AreTimedStages, IsTimedStage, StageNets, StagesAreCut, net_at, pieces_of, stage_end, tree_node}
use Rattle.split_laws.specs.ReadNets.{node_named, stands_for}
use Rattle.split_laws.specs.StagePieces.{IsSplitOf}
use Rattle.split_laws.proofs.KindLemmas.{end_kind, inside_kind}
use Rattle.split_laws.proofs.StageLemmas.{cell_is}

-- a piece, where its nodes stand for the same by another function
same_piece : (f : Forest) (v : ℕ) (piece : List Node) (at other : ℕ → ℕ) → IsPieceOf f v piece at → ((i : ℕ) → i < length piece → other i ≡ at i)
    → IsPieceOf f v piece other
same_piece f v piece at other p same = record {
  a_tree = p.a_tree;
  root = same 0 p.a_tree.some_node ∙ p.root;
  within = λ i low. omega (arith, same i low, p.within i low);
  inside = λ i low. ap (in_piece f v) (same i low) ∙ p.inside i low;
  once = λ i k i_low k_low e. p.once i k i_low k_low (sym (same i i_low) ∙ e ∙ same k k_low);
  each = λ w low inside. (let (i, i_low, is) = p.each w low inside in (i, i_low, same i i_low ∙ is));
  edges = λ i some low.
      same (parent_of piece i) (omega (arith, p.a_tree.smaller i some low, low)) ∙ p.edges i some low ∙ ap f.parent (sym (same i low));
  wires = λ i some low. p.wires i some low ∙ ap f.r (sym (same i low));
  capacitances = λ i low. p.capacitances i low ∙ ap (piece_capacitance f v) (sym (same i low));
}

module _ (d : Design) (n : Joined) (x : Split) (is : IsSplitOf d n x) (new : Design) (stages : StageNets) where
  -- ---- a stage

  -- what stands at a node is what the placement has there
  stage_end_is : (k w : ℕ) → in_piece (forest x) (head x k) w ≡ true → stage_end x stages k w ≡ end_of x.problem x.cells (pieces_of x stages) (head x k) w
  stage_end_is k w inside =
      let at : End = sink_end (sink_of x.problem.sinks w) in
      let cell : End = passes (repeater_at x w).rep (Some (stages.number (stage_from x w))) in
      let end : End = cell_end (cell_at x.problem.reps x.cells w) (stages.number (stage_from x w)) in
      elim (piece_cases (forest x) (head x k) w inside) [
        | inl stage ↦ ap (λ b. cond b cell at) (inside_kind x k w stage) ∙ ap (λ b. cond b at end) (sym stage)
        | inr ends ↦
            let kind = end_kind x k w ends in
            ap (λ b. cond b cell at) kind.kind ∙ ap (λ o. cell_end o (stages.number (stage_from x w))) (sym (cell_is d n x is w kind.celled))
            ∙ ap (λ b. cond b at end) (sym kind.outside)
      ]

  module _ (k : ℕ) (t : IsTimedStage x new stages k) where
    abbrev tree : List Node
    tree = (net_at stages k).tree

    count : length tree ≡ length t.order
    count =
        ap (λ (l : List Node). length l) t.tree_is
        ∙ length-map-range_with_len (λ i. loaded new t.net (node_at t.tree i) (slice_index t.order i)) 0 (length t.tree)
        ∙ t.piece.a_tree.a_tree.count ∙ sym t.piece.a_tree.a_tree.lists.count

    -- a node of the tree stands for what its net's node does
    at_is : (i : ℕ) → i < length t.order → tree_node x stages k i ≡ stands_for x k t.net.par (slice_index t.order i)
    at_is i low =
        ap (node_named x k)
        (ap (λ (l : List NodeName). get_or l i NO_NODE.name) t.names_are ∙ get_or-map (name_of t.net.par) t.order i 0 NO_NODE.name low)

    pub piece : IsPieceOf (forest x) (head x k) tree (tree_node x stages k)
    piece =
        same_piece (forest x) (head x k) tree (λ i. stands_for x k t.net.par (slice_index t.order i)) (tree_node x stages k)
        (subst (λ (nodes : List Node). IsPieceOf (forest x) (head x k) nodes (λ i. stands_for x k t.net.par (slice_index t.order i))) (sym t.tree_is)
        t.piece.piece)
        (λ i low. at_is i (omega (arith, low, count)))

    pub one_each : length (net_at stages k).ends ≡ length tree
    one_each = ap (λ (l : List End). length l) t.ends_are ∙ length-map t.order t.end ∙ sym count

    pub ends : (i : ℕ) → i < length tree → end_at (net_at stages k) i ≡ end_of x.problem x.cells (pieces_of x stages) (head x k) (tree_node x stages k i)
    ends i low =
        let o_low : i < length t.order = omega (arith, low, count) in
        let j_low = t.piece.a_tree.a_tree.lists.within i (omega (arith, o_low, t.piece.a_tree.a_tree.lists.count)) in
        ap (λ (l : List End). get_or l i nothing) t.ends_are ∙ get_or-map t.end t.order i 0 nothing o_low
        ∙ t.stands (slice_index t.order i) j_low ∙ ap (stage_end x stages k) (sym (at_is i o_low))
        ∙ stage_end_is k (tree_node x stages k i) (piece.inside i low)

  -- ---- all of them

  module _ (all : AreTimedStages x new stages) where
    low_at : (v : ℕ) → Begins x.problem x.cells v → stage_from x v < length (heads (forest x))
    low_at v begins = number_below (forest x) v begins.node begins.head

    -- a piece begins where its stage does
    here : (v : ℕ) → Begins x.problem x.cells v → head x (stage_from x v) ≡ v
    here v begins = number_head (forest x) v begins.node begins.head

    timed : (v : ℕ) → Begins x.problem x.cells v → IsTimedStage x new stages (stage_from x v)
    timed v begins = all.each (stage_from x v) (low_at v begins)

    pub are_cut : AreCut x.problem x.cells (pieces_of x stages)
    are_cut = record {
      once = λ v u v_begins u_begins same.
          sym (here v v_begins) ∙ ap (head x) (all.once (stage_from x v) (stage_from x u) (low_at v v_begins) (low_at u u_begins) same) ∙ here u u_begins;
      each = λ v begins. record {
        piece = subst (λ u. IsPieceOf (forest x) u (net_at stages (stage_from x v)).tree (tree_node x stages (stage_from x v))) (here v begins)
            (piece (stage_from x v) (timed v begins));
        one_each = one_each (stage_from x v) (timed v begins);
        ends = λ i low.
            ends (stage_from x v) (timed v begins) i low
            ∙ ap (λ u. end_of x.problem x.cells (pieces_of x stages) u (tree_node x stages (stage_from x v) i)) (here v begins);
        above = λ u u_begins ends.
            (timed v begins).above (stage_from x u) (low_at u u_begins) ((λ i. is_end x.problem x.cells (here u u_begins i) (here v begins i)) ∙ ends);
      };
      first = all.first;
    }

pub stages_are_cut : StagesAreCut
stages_are_cut d n x is new stages all = are_cut d n x is new stages all
