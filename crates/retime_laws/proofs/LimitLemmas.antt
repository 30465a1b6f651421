-- The net of a stage is too large by its capacitances alone.
use Rattle.std.proofs.Common.{◌≡◌, ℕ, zero, suc, ◌+◌, ◌^◌, ◌<◌, ◌≤◌, [], ◌∷◌, Bool, true, false, cond, List, length, map, get_or, slice_index, refl, sym, ap, ◌∙◌, subst, arith, inl, inr, Option, Some, None, ℤ, pos, All}
use Rattle.std.specs.Prelude.{unwrap_or}
use Rattle.std.specs.List.{sum_by}
use Rattle.std.proofs.Math.ListN.{get_or-map}
use Rattle.std.proofs.lemmas.Int.{ints}
use Rattle.std.proofs.lemmas.Bool.{cases_Bool}
use Rattle.std.proofs.lemmas.List.{length-map}
use Rattle.std.proofs.lemmas.List.FromFn.{length-range_with_len}
use Rattle.elmore.specs.Path.{nodes}
use Rattle.elmore.specs.Problems.{IsDriverWithin, IsRepWithin, IsSmall, sink_of}
use Rattle.elmore.specs.Trees.{resistance, total_resistance}
use Rattle.elmore.specs.declared.parts.Sink.{Sink}
use Rattle.elmore.specs.declared.problem.Problem.{Problem}
use Rattle.elmore.specs.declared.rep.Rep.{Rep}
use Rattle.elmore.specs.declared.tree.Node.{Node}
use Rattle.elmore.proofs.SumLemmas.{sum_of_filter, sum_of_filter_le, sum_of_more}
use Rattle.elmore.proofs.TreeLemmas.{sum_of_nodes}
use Rattle.cut_laws.specs.Pieces.{Forest, in_piece}
use Rattle.cut_laws.proofs.EmbeddingLemmas.{AreHits, sum_map}
use Rattle.lib_linear.specs.declared.repeater.Repeater.{Repeater}
use Rattle.spef_wire.specs.Refusals.{IsNetTree}
use Rattle.spef_wire.specs.Wires.{is_sink_node}
use Rattle.vg_cons.specs.Rows.{Rows, required_of}
use Rattle.vg_design.specs.Designs.{Design, Joined, driver_at, name_of}
use Rattle.vg_design.specs.Parts.{IsWithinLimits, driver_of, loaded_tree, reps_of, sink_at, sink_given, sinks_of}
use Rattle.spef_net.specs.Denoted.{cap_at}
use Rattle.spef_net.specs.declared.net.ParNet.{ParNet}
use Rattle.spef_write.specs.SectionLaws.{names_of}
use Rattle.spef_write.specs.Sections.{charged}
use Rattle.spef_write.proofs.NetLemmas.{charged_few}
use Rattle.vg_scan.specs.declared.name.NodeName.{NodeName}
use Rattle.split_laws.proofs.MemberLemmas.{as_many_nodes}
use Rattle.split_laws.proofs.ReadPassLemmas.{own_tree}
use Rattle.split_laws.proofs.ReadPieceLemmas.{is_read_piece}
use Rattle.split_laws.specs.ReadNets.{stands_for}
use Rattle.split_laws.specs.ReadPieces.{IsReadPiece}
use Rattle.vg_split.proofs.NumberedLemmas.{filter_few}
use Rattle.vg_split.specs.Splits.{Split, forest, head, is_celled, name_in, node_in, nodes_in, repeater_at}
use Rattle.vg_split.specs.Stages.{heads, members}
use Rattle.retime_laws.specs.Limits.{AreTimesSmall, StagesAreLargeByLoads, counted_sum}
use Rattle.retime_laws.specs.NewStages.{HasStages, IsPut, stage_net}
use Rattle.retime_laws.proofs.AcceptLemmas.{head_name, read_is}
use Rattle.retime_laws.proofs.DriverLemmas.{cell_driver, old_driver}
use Rattle.retime_laws.proofs.LoadLemmas.{stages_have_loads}
use Rattle.retime_laws.proofs.RepeaterLemmas.{own_repeater}

-- ---- sums over some nodes

ones : (m : ℕ) → sum_by (λ (v : ℕ). 1) (nodes m) ≡ m
ones zero = refl
ones (suc m) =
    let e : sum_by (λ (v : ℕ). 1) (nodes (suc m)) ≡ sum_by (λ (v : ℕ). 1) (nodes (m + 1))
    = ap (λ (j : ℕ). sum_by (λ (v : ℕ). 1) (nodes j)) (let f : suc m ≡ m + 1 = omega arith in f) in
    omega (arith, e, sum_of_more (λ (v : ℕ). 1) m, ones m)

sum_le : (f g : ℕ → ℕ) (m : ℕ) → ((k : ℕ) → k < m → f k ≤ g k) → sum_by f (nodes m) ≤ sum_by g (nodes m)
sum_le f g zero less = omega arith
sum_le f g (suc m) less =
    let e : suc m ≡ m + 1 = omega arith in
    let a = ap (λ (j : ℕ). sum_by f (nodes j)) e in
    let b = ap (λ (j : ℕ). sum_by g (nodes j)) e in
    omega (arith, a, b, sum_of_more f m, sum_of_more g m, less m (omega arith), sum_le f g m (λ k h. less k (omega (arith, h))))

-- ---- times

small_zero : IsSmall (pos 0)
small_zero = record { low = omega (arith, ints); high = omega (arith, ints) }

small_whole : (n : ℕ) → n ≤ 10 ^ 18 → IsSmall (pos n)
small_whole n low = record { low = omega (arith, ints, low); high = omega (arith, ints, low) }

small_or_zero : (o : Option ℤ) → ((time : ℤ) → o ≡ Some time → IsSmall time) → IsSmall (unwrap_or o (pos 0))
small_or_zero None small = small_zero
small_or_zero (Some time) small = small time refl

module _ (rows : Rows) (net : ParNet) (small : AreTimesSmall rows) where
  given_small : (at : NodeName) → IsSmall (sink_given rows at).required
  given_small at = small_or_zero (required_of rows at) (small.required at)

  sink_small : (o : Option Sink) (at : NodeName) (b : Bool) (sink : Sink) → o ≡ cond b (Some (sink_given rows at)) None → o ≡ Some sink → IsSmall sink.required
  sink_small o at true sink is some =
      let e : sink_given rows at ≡ sink = (let f : Some (sink_given rows at) ≡ Some sink = sym is ∙ some in cc) in
      subst (λ (s : Sink). IsSmall s.required) e (given_small at)
  sink_small o at false sink is some = absurd (let f : None ≡ Some sink = sym is ∙ some in cc)

  sinks_small : (order : List ℕ) (v : ℕ) (sink : Sink) → sink_of (sinks_of rows net order) v ≡ Some sink → IsSmall sink.required
  sinks_small [] v sink some = absurd cc
  sinks_small (w ∷ order) zero sink some = sink_small (sink_at rows net w) (name_of net w) (is_sink_node net w) sink refl some
  sinks_small (w ∷ order) (suc v) sink some = sinks_small order v sink some

-- ---- the net of a stage

module _ (d : Design) (n : Joined) (x : Split) (new : Design) (put : IsPut d n x) (has : HasStages d n x new) (small : AreTimesSmall d.rows)
    (k : ℕ) (low : k < length (heads (forest x))) (tree : List Node) (order : List ℕ) (a_tree : IsNetTree (stage_net has k low).par tree order) where
  abbrev net : Joined
  net = stage_net has k low

  abbrev p : Problem
  p = x.problem

  abbrev f : Forest
  f = forest x

  abbrev piece : List Node
  piece = loaded_tree new net tree order

  new_small : AreTimesSmall new.rows
  new_small = subst AreTimesSmall (sym has.rows) small

  read : IsReadPiece x k new net tree order
  read = is_read_piece d n x k new net (read_is d n x new put has k low) (stages_have_loads d n x new put has k low) tree order a_tree

  abbrev at : ℕ → ℕ
  at i = stands_for x k net.par (slice_index order i)

  hits : AreHits at (length piece) f.n (in_piece f (head x k))
  hits = record { within = read.piece.within; inside = read.piece.inside; once = read.piece.once; each = read.piece.each }

  -- a sum over its nodes is one over some nodes of the net
  part : (g : ℕ → ℕ) → sum_by (λ i. g (at i)) (nodes (length piece)) ≤ sum_by g (nodes f.n)
  part g =
      omega (
        arith,
        sum_map at (length piece) f.n (in_piece f (head x k)) hits g,
        sum_of_filter g (in_piece f (head x k)) (nodes f.n),
        sum_of_filter_le g (in_piece f (head x k)) (nodes f.n),
      )

  few_nodes : length piece ≤ 65536
  few_nodes =
      let most : f.n ≤ 65536 = p.within.nodes in
      omega (arith, part (λ (v : ℕ). 1), ones (length piece), ones f.n, most)

  -- the first node has no resistor, and each other that of the node that it stands for
  wire : (i : ℕ) → i < length piece → resistance piece i ≤ f.r (at i)
  wire zero i_low = omega (arith, read.piece.a_tree.bare_root)
  wire (suc i) i_low = omega (arith, read.piece.wires (suc i) (omega arith) i_low)

  resistances : total_resistance piece ≤ 10 ^ 12
  resistances =
      let own : sum_by (λ v. resistance piece v) (nodes (length piece)) ≡ total_resistance piece = sum_of_nodes (λ (node : Node). node.r) piece in
      let all : sum_by f.r (nodes f.n) ≡ total_resistance p.tree.nodes = sum_of_nodes (λ (node : Node). node.r) p.tree.nodes in
      omega (arith, own, all, sum_le (λ v. resistance piece v) (λ i. f.r (at i)) (length piece) wire, part f.r, p.within.resistances)

  -- ---- repeaters

  same_reps : reps_of new.library.repeaters ≡ p.reps
  same_reps = ap (λ library. reps_of library.repeaters) has.library ∙ sym put.split.problem.reps

  own_reps : All IsRepWithin (map (λ (r : Repeater). r.rep) x.repeaters)
  own_reps = subst (All IsRepWithin) (put.split.problem.reps ∙ ap (λ rs. reps_of rs) (sym put.split.repeaters)) p.within.each_repeater

  rep_within : (w : ℕ) → is_celled x w ≡ true → IsRepWithin (repeater_at x w).rep
  rep_within w celled =
      let (i, i_low, is) = own_repeater d n x put w celled in
      subst IsRepWithin (get_or-map (λ (r : Repeater). r.rep) x.repeaters i (repeater_at x w) ∙ ap (λ (r : Repeater). r.rep) is)
      (own_reps i (repeater_at x w).rep (omega (arith, i_low, length-map x.repeaters (λ (r : Repeater). r.rep))))

  -- ---- the driver

  driver_name : driver_of new net order ≡ driver_at new net (name_in x k (head x k))
  driver_name =
      let begins : slice_index order 0 ≡ 0 = (own_tree d n x k net.par (read_is d n x new put has k low) tree order a_tree).begins in
      ap (λ (v : ℕ). driver_at new net (name_of net.par v)) begins ∙ ap (driver_at new net) (head_name d n x new put has k low)

  drives : IsDriverWithin (driver_of new net order)
  drives =
      elim (cases_Bool (is_celled x (head x k))) [
        | inl celled ↦
            let rep = rep_within (head x k) celled in
            subst IsDriverWithin (sym (driver_name ∙ cell_driver d n x new put has k low celled)) (record {
              k = small_whole (repeater_at x (head x k)).rep.k rep.k;
              r = rep.r;
              arrival = new_small.arrivals (name_in x k (head x k));
            })
        | inr bare ↦ subst IsDriverWithin (sym (driver_name ∙ sym (old_driver d n x new put has k low bare))) p.within.drives
      ]

  -- ---- capacitors

  few_caps : length net.par.caps ≤ 2 ^ 20
  few_caps =
      let is = read_is d n x new put has k low in
      let stage = is.stage.of_stage in
      let lines : length net.par.caps ≡ length (charged is.net)
      = sym (length-map net.par.caps (cap_at (names_of net.par.nodes))) ∙ ap length is.again.caps ∙ length-map (charged is.net) (cap_at (names_of is.net.nodes)) in
      let nodes_are : length is.net.nodes ≡ length (nodes_in x k) = ap length stage.nodes ∙ length-map (nodes_in x k) (node_in is.stage.chars x k) in
      let few : length (members f (head x k)) ≤ length (nodes f.n) = filter_few (in_piece f (head x k)) (nodes f.n) in
      let most : f.n ≤ 65536 = p.within.nodes in
      omega (arith, lines, charged_few is.net, nodes_are, as_many_nodes x k, few, length-range_with_len 0 f.n, most)

  module _ (sum : counted_sum new net tree order ≤ 10 ^ 11) where
    within : IsWithinLimits new net tree order
    within = record {
      cap_lines = few_caps;
      sums = record {
        nodes = few_nodes;
        resistances = resistances;
        capacitances = sum;
        repeaters = subst (λ (reps : List Rep). length reps ≤ 256) (sym same_reps) p.within.repeaters;
        each_repeater = subst (All IsRepWithin) (sym same_reps) p.within.each_repeater;
        drives = drives;
        times = sinks_small new.rows net.par new_small order;
      };
    }

pub stages_are_large_by_loads : StagesAreLargeByLoads
stages_are_large_by_loads d n x new put has small k low tree order a_tree sum = within d n x new put has small k low tree order a_tree sum
