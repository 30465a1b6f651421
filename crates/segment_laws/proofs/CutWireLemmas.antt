-- What is read of a cut net is refused by nothing, and has the same wire delays.
use Rattle.std.proofs.Common.{◌≡◌, ℕ, ◌<◌, ◌≤◌, true, List, length, filter, slice_index, refl, sym, ap, ◌∙◌, arith, ℤ, pos}
use Rattle.std.specs.List.{AllZip, list_any}
use Rattle.std.proofs.lemmas.Bool.{false≢true}
use Rattle.divided_laws.proofs.DividedDelayLemmas.{keeps_wire_delays}
use Rattle.divided_laws.proofs.DividedTotalLemmas.{keeps_totals}
use Rattle.divided_net_laws.specs.DividedNets.{IsTreeDivided}
use Rattle.divided_net_laws.proofs.ChainLemmas.{one_place}
use Rattle.divided_net_laws.proofs.DividedTreeLemmas.{divided_tree}
use Rattle.elmore.specs.declared.tree.Node.{Node}
use Rattle.elmore.specs.Wire.{delay_in}
use Rattle.rc_tree.specs.Answers.{IsTreeOf}
use Rattle.spef_net.specs.declared.net.ParConn.{ParConn}
use Rattle.spef_net.specs.declared.net.ParNet.{ParNet}
use Rattle.spef_nodes.specs.Nodes.{ParNode}
use Rattle.spef_wire.specs.Refusals.{IsDrivenAt, IsNetTree, PassesUpTo, drives, drivers_of, goes_both_ways, is_sink, most_nodes}
use Rattle.spef_wire.specs.declared.refusal.Refusal.TheVariants.{UnknownNet, Section, Reduced, Inductive, Bidirectional, NoDriver, ManyDrivers, Mismatch, Tied, NoDrive, NoLoad, Floating, Loop, NoSink, Unconstrained, TooLarge}
use Rattle.spef_wire.specs.Wires.{IsDelay, IsWire, is_sink_node, sinks_in}
use Rattle.spef_wire.specs.declared.wire.WireNet.{WireNet}
use Rattle.spef_wire.proofs.PassLemmas.{passes_limits, passes_loop, passes_sink}
use Rattle.spef_write.specs.Sections.{node_at, total}
use Rattle.vg_scan.specs.declared.name.NodeName.{NodeName}
use Rattle.segment_laws.specs.SegmentedTexts.{HasSameDelays}
use Rattle.segment_laws.proofs.AcceptedNetLemmas.{has_sink, within_limits}
use Rattle.segment_laws.proofs.CapLemmas.{total_by_tree}
use Rattle.segment_laws.proofs.CutNetLemmas.{caps_low}
use Rattle.segment_laws.proofs.ReadCutLemmas.{IsDividedRead, as_many_ends, sink_low, sink_same}
use Rattle.segment_laws.proofs.SinkRowLemmas.{IsSinkRow, from_rows, rows_are, rows_of, to_rows}

module _ (parts : ℕ) (net read : ParNet) (root : ℕ) (to : ℕ → ℕ) (fresh : ℕ → ℕ → ℕ)
    (d : IsDividedRead parts net read root to fresh) (driven : IsDrivenAt net root)
    (tree : List Node) (order : List ℕ) (t : IsTreeOf (length net.nodes) root net.caps net.ress tree order) where
  -- ---- its refusals

  drivers_same : drivers_of read ≡ drivers_of net
  drivers_same = ap (λ (conns : List ParConn). filter drives conns) d.conns

  pub read_driven : IsDrivenAt read root
  read_driven = record { driver = driven.driver; alone = drivers_same ∙ driven.alone; at = driven.at }

  pass_12 : PassesUpTo 17 net → PassesUpTo 12 read
  pass_12 passed UnknownNet few h = h
  pass_12 passed (Section fault) few h = h
  pass_12 passed Reduced few h = false≢true (sym d.whole ∙ h)
  pass_12 passed Inductive few h = false≢true (sym d.plain ∙ h)
  pass_12 passed Bidirectional few h =
      passed Bidirectional (omega arith)
      (ap (λ (conns : List ParConn). list_any goes_both_ways conns) (sym d.conns) ∙ h)
  pass_12 passed NoDriver few h = passed NoDriver (omega arith) (sym drivers_same ∙ h)
  pass_12 passed ManyDrivers few h =
      passed ManyDrivers (omega arith) (omega (arith, ap (λ (l : List ParConn). length l) drivers_same, h))
  pass_12 passed Mismatch few h = h
  pass_12 passed Tied few h = h
  pass_12 passed NoDrive few h = h
  pass_12 passed (NoLoad name) few h = h
  pass_12 passed (Floating name) few h = absurd (omega (arith, few))
  pass_12 passed Loop few h = absurd (omega (arith, few))
  pass_12 passed NoSink few h = absurd (omega (arith, few))
  pass_12 passed (Unconstrained name) few h = absurd (omega (arith, few))
  pass_12 passed TooLarge few h = absurd (omega (arith, few))

  module _ (new : List Node) (new_order : List ℕ)
      (n : IsTreeOf (length read.nodes) root read.caps read.ress new new_order) where
    pub read_tree : IsNetTree read new new_order
    read_tree = record { root = root; driven = read_driven; a_tree = n }

    pub is_cut : IsTreeDivided tree new order new_order to
    is_cut = divided_tree parts _ _ to fresh d.divided tree new order new_order t n

    -- it has the same capacitance
    pub total_same : total read.caps ≡ total net.caps
    total_same =
        sym (total_by_tree (length read.nodes) root read.caps read.ress new new_order n
        (caps_low read (length read.nodes) (omega arith)))
        ∙ (keeps_totals tree new is_cut.chains is_cut.divided).1
        ∙ total_by_tree (length net.nodes) root net.caps net.ress tree order t
        (caps_low net (length net.nodes) (omega arith))

    pub read_accepted : PassesUpTo 17 net → length read.nodes ≤ most_nodes → length read.caps ≤ length read.nodes
        → PassesUpTo 17 read
    read_accepted passed few caps_few =
        let within = within_limits net passed tree order (record { root = root; driven = driven; a_tree = t }) in
        let totals = keeps_totals tree new is_cut.chains is_cut.divided in
        passes_limits read new new_order
        (passes_sink read (passes_loop read root new new_order (pass_12 passed) read_driven n)
        (ap (λ (conns : List ParConn). list_any is_sink conns) d.conns ∙ has_sink net passed))
        read_tree
        (record {
          nodes = few;
          capacitors = omega (arith, few, caps_few);
          sums = record {
            resistances = omega (arith, totals.0, within.sums.resistances);
            capacitances = omega (arith, totals.1, within.sums.capacitances);
          };
        })

    -- ---- its sinks

    at : ℕ → ℕ
    at u = is_cut.chains.at u

    at_low : (u : ℕ) → u < length order → at u < length new_order
    unfolding at
    at_low u u_n =
        omega (arith, is_cut.divided.within u (omega (arith, u_n, t.count, t.lists.count)), n.count, n.lists.count)

    number : (u : ℕ) → u < length order → slice_index new_order (at u) ≡ to (slice_index order u)
    unfolding at
    number u u_n = is_cut.numbers u (omega (arith, u_n, t.count, t.lists.count))

    old_low : (u : ℕ) → u < length order → slice_index order u < length net.nodes
    old_low u u_n = t.lists.within u (omega (arith, u_n, t.lists.count))

    delay_same : (u : ℕ) → u < length order → delay_in new (at u) ≡ delay_in tree u
    unfolding at
    delay_same u u_n =
        keeps_wire_delays tree new is_cut.chains is_cut.divided u (omega (arith, u_n, t.count, t.lists.count))

    node_same : (u : ℕ) → u < length order
        → node_at read.nodes (slice_index new_order (at u)) ≡ node_at net.nodes (slice_index order u)
    node_same u u_n = ap (node_at read.nodes) (number u u_n) ∙ d.nodes (slice_index order u) (old_low u u_n)

    there : (row : NodeName × ℤ) → IsSinkRow net tree order row → IsSinkRow read new new_order row
    there row is = record {
      i = at is.i;
      low = at_low is.i is.low;
      sink =
          ap (is_sink_node read) (number is.i is.low)
          ∙ sink_same parts net read root to fresh d (slice_index order is.i) (old_low is.i is.low) ∙ is.sink;
      name = is.name ∙ ap (λ (node : ParNode). node.name) (sym (node_same is.i is.low));
      delay = is.delay ∙ ap pos (sym (delay_same is.i is.low));
    }

    -- a sink of the cut net's tree is one of the net's
    old_sink : (i : ℕ) → i < length new_order → is_sink_node read (slice_index new_order i) ≡ true
        → (u : ℕ) × (u < length order) × (at u ≡ i)
    old_sink i i_n sink =
        let v = slice_index new_order i in
        let v_low : v < length net.conns =
        omega (arith, sink_low read v sink, as_many_ends parts net read root to fresh d) in
        let (u, u_n, here) = t.lists.each v (omega (arith, v_low, net.sound.joined.few)) in
        let u_low : u < length order = omega (arith, u_n, t.lists.count) in
        let same : slice_index new_order (at u) ≡ v = number u u_low ∙ ap to here ∙ d.ends v v_low in (
          u,
          u_low,
          one_place (length read.nodes) new_order n.lists (at u) i
              (omega (arith, at_low u u_low, n.lists.count)) (omega (arith, i_n, n.lists.count)) same,
        )

    back : (row : NodeName × ℤ) → IsSinkRow read new new_order row → IsSinkRow net tree order row
    back row is =
        let (u, u_low, here) = old_sink is.i is.low is.sink in
        record {
          i = u;
          low = u_low;
          sink =
              sym (sink_same parts net read root to fresh d (slice_index order u) (old_low u u_low))
              ∙ ap (is_sink_node read) (sym (number u u_low) ∙ ap (slice_index new_order) here) ∙ is.sink;
          name = is.name ∙ ap (λ i. (node_at read.nodes (slice_index new_order i)).name) (sym here)
              ∙ ap (λ (node : ParNode). node.name) (node_same u u_low);
          delay = is.delay ∙ ap (λ i. pos (delay_in new i)) (sym here) ∙ ap pos (delay_same u u_low);
        }

    -- its wire
    pub read_wire : WireNet
    read_wire = record { total = total read.caps; sinks = rows_of read new new_order }

    pub wire_is : IsWire read read_wire
    unfolding read_wire
    wire_is = record {
      tree = new;
      order = new_order;
      a_tree = read_tree;
      total = refl;
      sinks = rows_are read new new_order n.lists;
    }

    pub same_delays : (wire : WireNet) → wire.total ≡ total net.caps
        → AllZip (IsDelay net tree order) (sinks_in net order) wire.sinks
        → HasSameDelays wire read_wire
    unfolding read_wire
    same_delays wire total_is rows = record {
      total = total_same ∙ sym total_is;
      sinks = λ row. (
        λ h. to_rows read new new_order (rows_of read new new_order) (rows_are read new new_order n.lists) row
            (there row (from_rows net tree order wire.sinks rows row h)),
        λ h. to_rows net tree order wire.sinks rows row
            (back row
            (from_rows read new new_order (rows_of read new new_order) (rows_are read new new_order n.lists) row h)),
      );
    }
