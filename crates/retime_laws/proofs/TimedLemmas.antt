-- The net of a stage, as a walk comes to it, is timed as the stage's piece.
use Rattle.std.proofs.Common.{◌≡◌, ◌≢◌, ◌⊎◌, ℕ, ◌<◌, ◌==◌, ◌&&◌, Bool, true, false, not, cond, length, slice_index, refl, sym, ap, ◌∙◌, subst, inl, inr, Option, Some, None}
use Rattle.std.proofs.lemmas.Bool.{cases_Bool, cases_eq, eq-eqb, ne_eqb}
use Rattle.elmore.specs.Problems.{sink_of}
use Rattle.elmore.specs.declared.parts.Sink.{Sink}
use Rattle.cut_laws.proofs.ProblemLemmas.{begins_root}
use Rattle.cut_laws.specs.CutNets.{is_end as is_cell_end, sink_end}
use Rattle.cut_laws.specs.Walks.{End, sink, passes}
use Rattle.vg_design.proofs.NameLemmas.{joined_once}
use Rattle.vg_design.specs.Designs.{Design, Joined, name_of}
use Rattle.vg_design.specs.Parts.{sink_given}
use Rattle.vg_design.specs.Refusals.{IsJoined}
use Rattle.split_laws.proofs.KindLemmas.{end_kind}
use Rattle.split_laws.proofs.MemberLemmas.{IsMember}
use Rattle.split_laws.proofs.ReadLemmas.{stands_in, stands_name}
use Rattle.split_laws.proofs.ReadPassLemmas.{own_tree}
use Rattle.split_laws.proofs.ReadPieceLemmas.{is_read_piece, sinks_are}
use Rattle.split_laws.proofs.StageLemmas.{bare_root, head_sink, old_sink}
use Rattle.split_laws.specs.Cuts.{AreTimedStages, IsTimedStage, StageNets, stage_end}
use Rattle.split_laws.specs.ReadNets.{stands_for}
use Rattle.split_laws.specs.ReadPieces.{is_sink_in}
use Rattle.vg_retime.specs.Passages.{above_at, above_by, above_from, end_by, end_in, from_at, into_at}
use Rattle.vg_retime.specs.WalkNets.{WalkNet, IsNetIn, IsWalkNet, net_above, net_name}
use Rattle.vg_retime.specs.Ways.{Nets}
use Rattle.vg_split.proofs.StageNumberLemmas.{number_below, number_head}
use Rattle.vg_split.specs.Splits.{Split, forest, head, is_celled, name_in, net_of, old_node, repeater_at, stage_from}
use Rattle.vg_split.specs.Stages.{heads}
use Rattle.spef_wire.specs.Wires.{is_sink_node}
use Rattle.retime_laws.specs.Laws.{AreNetsOf, StagesAreTimed, stages_of}
use Rattle.retime_laws.specs.NetlistStages.{stage_number}
use Rattle.retime_laws.specs.NewStages.{HasStages, IsPut, stage_net}
use Rattle.retime_laws.proofs.AcceptLemmas.{head_is_end, head_name, head_there, joined, read_is}
use Rattle.retime_laws.proofs.EndLemmas.{kept}
use Rattle.retime_laws.proofs.LoadLemmas.{celled_end, sink_kept, sink_name, stages_have_loads}
use Rattle.retime_laws.proofs.NameLemmas.{name_once, numbered_name}
use Rattle.retime_laws.proofs.PassageLemmas.{from_new, from_old, into_new, into_old}
use Rattle.retime_laws.proofs.PinLemmas.{cell}

module _ (d : Design) (n : Joined) (x : Split) (new : Design) (put : IsPut d n x) (has : HasStages d n x new) (nets : Nets) where
  abbrev stages : StageNets
  stages = stages_of x new nets

  module _ (k : ℕ) (low : k < length (heads (forest x))) where
    abbrev net : Joined
    net = stage_net has k low

    -- ---- what stands at a node

    -- by the node's name in the stage
    abbrev end_at : ℕ → End
    end_at w =
        end_by (into_at new x.prefix net (name_in x k w)) (cond (is_sink_in x k w) (Some (sink_given new.rows (name_in x k w))) None)

    module _ (w : ℕ) (w_in : IsMember x k w) where
      abbrev goal : Option Sink
      goal = Some (sink_given new.rows (name_in x k w))

      abbrev old_end : End
      old_end = sink_end (sink_of x.problem.sinks w)

      abbrev cell_end : End
      cell_end = passes (repeater_at x w).rep (Some (stage_number x new.netlist (stage_from x w)))

      -- where the stage begins nothing does
      at_head : is_celled x w ≡ true → w ≡ head x k → end_at w ≡ stage_end x stages k w
      at_head celled here =
          (λ i. end_by (into_at new x.prefix net (name_in x k w)) (cond (cond (celled i) (not (eq-eqb w (head x k) here i)) (is_sink_node x.par (slice_index x.order w))) goal None))
          ∙ ap sink_end (sym (ap (sink_of x.problem.sinks) here ∙ head_sink d n x put.split k low))
          ∙ sym (λ i. cond (celled i && not (eq-eqb w (head x k) here i)) cell_end old_end)

      -- where a cell ends it, the cell
      at_cell : is_celled x w ≡ true → w ≢ head x k → end_at w ≡ stage_end x stages k w
      at_cell celled other =
          let pin = cell d n x new put has k low w (celled_end d n x new put has k low w w_in celled) celled in
          (λ i. end_by (into_new d n x new put has k low w celled pin other i) (cond (cond (celled i) (not (ne_eqb w (head x k) other i)) (is_sink_node x.par (slice_index x.order w))) goal None))
          ∙ ap (passes (repeater_at x w).rep) pin.of_cell.output
          ∙ sym (λ i. cond (celled i && not (ne_eqb w (head x k) other i)) cell_end old_end)

      -- elsewhere the sink that stood there
      at_old : is_celled x w ≡ false → end_at w ≡ stage_end x stages k w
      at_old bare = by_sink (cases_Bool (is_sink_node x.par (slice_index x.order w))) ∙ sym (ap (λ b. cond (b && not (w == head x k)) cell_end old_end) bare)
        where
          own : is_sink_in x k w ≡ is_sink_node x.par (slice_index x.order w)
          own = ap (λ b. cond b (not (w == head x k)) (is_sink_node x.par (slice_index x.order w))) bare

          was : (b : Bool) → is_sink_node x.par (slice_index x.order w) ≡ b
              → sink_of x.problem.sinks w ≡ cond b (Some (sink_given d.rows (name_of n.par (slice_index x.order w)))) None
          was b e =
              old_sink d n x put.split w w_in.low
              ∙ ap (λ b. cond b (Some (sink_given d.rows (name_of n.par (slice_index x.order w)))) None)
              (ap (λ p. is_sink_node p (slice_index x.order w)) (sym put.split.par) ∙ e)

          by_sink : (is_sink_node x.par (slice_index x.order w) ≡ true) ⊎ (is_sink_node x.par (slice_index x.order w) ≡ false) → end_at w ≡ old_end
          by_sink (inl driven) =
              let owner = (sink_kept d n x new put has k low w w_in bare driven) in
              let name : name_of n.par (slice_index x.order w) ≡ name_in x k w = sink_name d n x new put has k low w w_in bare driven in
              ap (end_by (into_at new x.prefix net (name_in x k w))) (ap (λ b. cond b goal None) (own ∙ driven))
              ∙ ap (λ o. end_by o goal) (ap (into_at new x.prefix net) owner.name ∙ into_old new x.prefix net (old_node x w).name owner.owner)
              ∙ (λ i. sink (sink_given (has.rows i) (sym name i)))
              ∙ ap sink_end (sym (was true driven))
          by_sink (inr none) =
              ap (λ b. end_by (into_at new x.prefix net (name_in x k w)) (cond b goal None)) (own ∙ none)
              ∙ ap sink_end (sym (was false none))

      end_is : end_at w ≡ stage_end x stages k w
      end_is = elim (cases_Bool (is_celled x w)) [
        | inl celled ↦ elim (cases_eq w (head x k)) [
          | inl here ↦ at_head celled here
          | inr other ↦ at_cell celled other
        ]
        | inr bare ↦ at_old bare
      ]

    pub stands : (j : ℕ) → j < length net.par.nodes → end_in new x.prefix net j ≡ stage_end x stages k (stands_for x k net.par j)
    stands j j_low =
        let w = stands_for x k net.par j in
        let name : name_of net.par j ≡ name_in x k w = sym (stands_name d n x k net.par (read_is d n x new put has k low) j j_low) in
        let marked : is_sink_node net.par j ≡ is_sink_in x k w = sinks_are d n x k net.par (read_is d n x new put has k low) j j_low in
        (λ i. end_by (into_at new x.prefix net (name i)) (cond (marked i) (Some (sink_given new.rows (name i))) None))
        ∙ end_is w (stands_in d n x k net.par (read_is d n x new put has k low) j j_low)

    -- ---- the net

    abbrev walk_net : WalkNet
    walk_net = nets (stage_number x new.netlist k)

    module _ (is : IsNetIn 16 new x.prefix (stage_number x new.netlist k) walk_net) where
      same_net : is.joined ≡ net
      same_net =
          joined_once new (net_of x k) is.joined net
          (subst (λ name. IsJoined new name is.joined) (numbered_name new (net_of x k) (stage_number x new.netlist k) (has.netlist k low).named) is.is_joined)
          (joined d n x new put has k low)

      pub net_is : IsWalkNet new x.prefix net walk_net
      net_is = subst (λ (m : Joined). IsWalkNet new x.prefix m walk_net) same_net is.net_is

      pub begins : slice_index net_is.order 0 ≡ 0
      begins = (own_tree d n x k net.par (read_is d n x new put has k low) net_is.tree net_is.order net_is.a_tree).begins

      -- the driver's name is that of the node where the stage begins
      pub driver_name : name_of net.par (slice_index net_is.order 0) ≡ name_in x k (head x k)
      driver_name = ap (name_of net.par) begins ∙ head_name d n x new put has k low

      above_is : walk_net.above ≡ above_at new x.prefix net (name_in x k (head x k))
      above_is = net_is.above_is ∙ ap (above_at new x.prefix net) driver_name

      above_cell : (u : ℕ) → u < length (heads (forest x)) → is_cell_end x.problem x.cells (head x u) (head x k) ≡ true → walk_net.above ≡ above_by (Some (stage_number x new.netlist u))
      above_cell u u_low ends =
          let celled : is_celled x (head x k) ≡ true = (end_kind x u (head x k) ends).celled in
          let pin = cell d n x new put has k low (head x k) (head_there d n x new put has k low) celled in
          above_is ∙ ap above_from (from_new d n x new put has k low (head x k) celled pin refl) ∙ ap above_by (pin.of_cell.input u u_low ends)

      pub above_root : is_celled x (head x k) ≡ false → walk_net.above ≡ above_from None
      above_root bare =
          let was = kept d n x put.split k low (head x k) (head_is_end d n x new put has k low) bare in
          above_is ∙ ap above_from (ap (from_at new x.prefix net) was.name ∙ from_old new x.prefix net (old_node x (head x k)).name was.owner)

      timed_stage : IsTimedStage x new stages k
      timed_stage = record {
        net = net;
        tree = net_is.tree;
        order = net_is.order;
        piece =
            is_read_piece d n x k new net (read_is d n x new put has k low) (stages_have_loads d n x new put has k low) net_is.tree net_is.order net_is.a_tree;
        tree_is = net_is.tree_is;
        names_are = net_is.names_are;
        end = end_in new x.prefix net;
        ends_are = net_is.ends_are;
        stands = stands;
        above = λ u u_low ends. ap net_above (above_cell u u_low ends);
      }

  -- ---- all of them

  pub root_low : 0 < length (heads (forest x))
  root_low = number_below (forest x) 0 (begins_root x.problem x.cells).node (begins_root x.problem x.cells).head

  pub root_head : head x 0 ≡ 0
  root_head = number_head (forest x) 0 (begins_root x.problem x.cells).node (begins_root x.problem x.cells).head

  pub root_bare : is_celled x (head x 0) ≡ false
  root_bare = ap (is_celled x) root_head ∙ bare_root d n x put.split

  pub number_once : (k u : ℕ) → k < length (heads (forest x)) → u < length (heads (forest x)) → stage_number x new.netlist k ≡ stage_number x new.netlist u → k ≡ u
  number_once k u k_low u_low e =
      name_once x put.split.split k u k_low u_low
      (sym (numbered_name new (net_of x k) (stage_number x new.netlist k) (has.netlist k k_low).named)
      ∙ ap (net_name new) e ∙ numbered_name new (net_of x u) (stage_number x new.netlist u) (has.netlist u u_low).named)

  pub are_timed : AreNetsOf x new nets → AreTimedStages x new stages
  are_timed are = record {
    each = λ k low. timed_stage k low (are k low);
    once = number_once;
    first = ap net_above (above_root 0 root_low (are 0 root_low) root_bare);
  }

pub stages_are_timed : StagesAreTimed
stages_are_timed d n x new put has nets are = are_timed d n x new put has nets are
