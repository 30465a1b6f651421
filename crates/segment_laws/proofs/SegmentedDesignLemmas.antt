-- A net that is cut is no worse, in any two designs of the same library, netlist and constraints.
use Rattle.std.proofs.Common.{◌≡◌, ℕ, ◌+◌, ◌-◌, ◌*◌, ◌<◌, List, length, map, slice_index, sym, ap, ◌∙◌, subst, arith, Some}
use Rattle.std.proofs.lemmas.List.{get_or-map}
use Rattle.divided_laws.specs.DividedProblems.{IsDividedProblem}
use Rattle.divided_net_laws.specs.DividedNets.{IsTreeDivided}
use Rattle.elmore.specs.declared.tree.Node.{Node}
use Rattle.lib_linear.proofs.RepeaterLaws.{one_library}
use Rattle.rc_tree.specs.Answers.{IsTreeOf}
use Rattle.spef_net.specs.declared.net.ParNet.{ParNet}
use Rattle.spef_nodes.specs.Nodes.{ParNode}
use Rattle.spef_wire.specs.Nets.{IsNetNamed}
use Rattle.spef_wire.proofs.AnswerLemmas.{nets_are}
use Rattle.spef_wire.proofs.PassLemmas.{root_once}
use Rattle.spef_write.specs.SectionLaws.{IsWrittenAgain}
use Rattle.vg_design.specs.Designs.{Design, NO_NODE, name_of, net_number}
use Rattle.vg_design.specs.Nets.{IsNetProblem, name_at}
use Rattle.vg_design.specs.declared.net_problem.NetProblem.{NetProblem}
use Rattle.vg_scan.specs.Comments.{without_comments}
use Rattle.vg_scan.specs.declared.comments.Comments.TheVariants.{Spef}
use Rattle.vg_scan.specs.declared.name.NodeName.{NodeName}
use Rattle.ver_module.specs.Netlists.{Netlist}
use Rattle.vg_segment.specs.Segments.{IsSegmented}
use Rattle.split_laws.specs.ReadNets.{number_in}
use Rattle.segment_laws.specs.SegmentedDesigns.{CutNetsAreNoWorse, IsNoWorse}
use Rattle.segment_laws.specs.SegmentedTexts.{IsCutIn}
use Rattle.segment_laws.proofs.AcceptedNetLemmas.{driven_low}
use Rattle.change_spef_laws.proofs.ClearLemmas.{net_stays}
use Rattle.vg_scan.proofs.AgainLemmas.{without_again}
use Rattle.segment_laws.proofs.CutProblemLemmas.{AreAlike, cut_problem, cut_tree, loaded_count}
use Rattle.segment_laws.proofs.CutWireLemmas.{read_driven}
use Rattle.segment_laws.proofs.NoWorseLemmas.{no_worse}
use Rattle.segment_laws.proofs.ReadCutLemmas.{IsDividedRead, divided_read}

-- the net of a name in a design is that of the text
same_net : (text clear name : List ℕ) (net par : ParNet) → clear ≡ without_comments Spef text → IsNetNamed text name net
    → IsNetNamed clear name par → net ≡ par
same_net text clear name net par e a b =
    nets_are clear name net par
    (net_stays text clear (sym (ap (without_comments Spef) e ∙ without_again Spef text)) name net a) b

same_id : (a b : ℕ) → Some a ≡ Some b → a ≡ b
same_id a b e = cc

-- the name of a tree's node
name_read : (par : ParNet) (order : List ℕ) (names : List NodeName) → names ≡ map (name_of par) order → (u : ℕ)
    → u < length order → name_at names u ≡ name_of par (slice_index order u)
name_read par order names e u u_n =
    ap (λ l. name_at l u) e ∙ get_or-map (name_of par) order u 0 NO_NODE.name u_n

module _ (d e : Design) (p q : NetProblem) (old new : List ℕ) (parts : ℕ) (name : List ℕ) (some : 0 < parts)
    (is : IsCutIn old new parts name) (was : d.spef ≡ without_comments Spef old)
    (becomes : e.spef ≡ without_comments Spef new)
    (is_p : IsNetProblem d name p) (is_q : IsNetProblem e name q) (alike : AreAlike d e is_p.net is_q.net) where
  abbrev n : ParNet
  n = is_p.net.par

  abbrev m : ParNet
  m = is_q.net.par

  abbrev root : ℕ
  root = is_p.a_tree.root

  abbrev to : ℕ → ℕ
  to = number_in m is.cut

  abbrev fresh : ℕ → ℕ → ℕ
  fresh j i = to (length n.nodes + j * (parts - 1) + (i - 1))

  -- its nets are those of the texts
  s : IsSegmented n parts is.cut
  s =
      subst (λ (par : ParNet). IsSegmented par parts is.cut)
      (same_net old d.spef name is.net n was is.was is_p.joined.named) is.cut_of

  again : IsWrittenAgain is.cut m
  again = subst (IsWrittenAgain is.cut) (same_net new e.spef name is.read m becomes is.is is_q.joined.named) is.again

  c : IsDividedRead parts n m root to fresh
  c =
      divided_read n parts is.cut s some root (driven_low n root is_p.a_tree.driven) is_p.tree is_p.order
      is_p.a_tree.a_tree m again

  -- its tree begins at the driver's node, as the net's does
  u : IsTreeOf (length m.nodes) root m.caps m.ress is_q.tree is_q.order
  u =
      subst (λ (r : ℕ). IsTreeOf (length m.nodes) r m.caps m.ress is_q.tree is_q.order)
      (root_once m is_q.a_tree.root root is_q.a_tree.driven
      (read_driven parts n m root to fresh c is_p.a_tree.driven is_p.tree is_p.order is_p.a_tree.a_tree))
      is_q.a_tree.a_tree

  abbrev cut : IsTreeDivided is_p.tree is_q.tree is_p.order is_q.order to
  cut =
      cut_tree d e is_p.net is_q.net alike parts root to fresh c is_p.a_tree.driven is_p.tree is_p.order
      is_p.a_tree.a_tree is_q.tree is_q.order u

  -- so its problem is the net's with its wires divided, by the names of the nodes
  is_divided : IsDividedProblem p.problem q.problem cut.chains
  is_divided =
      cut_problem d e is_p.net is_q.net alike parts root to fresh c is_p.a_tree.driven is_p.tree is_p.order
      is_p.a_tree.a_tree is_q.tree is_q.order u p.problem q.problem is_p.problem is_q.problem

  same_name : (v : ℕ) → v < length p.problem.tree.nodes → name_at q.names (cut.chains.at v) ≡ name_at p.names v
  same_name v v_n =
      let few : v < length is_p.tree =
      omega (
        arith,
        v_n,
        ap (λ (nodes : List Node). length nodes) is_p.problem.tree_is,
        loaded_count d is_p.net is_p.tree is_p.order,
      ) in
      let v_low : v < length is_p.order =
      omega (arith, few, is_p.a_tree.a_tree.count, is_p.a_tree.a_tree.lists.count) in
      let k_low : slice_index is_p.order v < length n.nodes =
      is_p.a_tree.a_tree.lists.within v (omega (arith, few, is_p.a_tree.a_tree.count)) in
      name_read m is_q.order q.names is_q.names (cut.chains.at v)
      (omega (arith, cut.divided.within v few, u.count, u.lists.count))
      ∙ ap (name_of m) (cut.numbers v few)
      ∙ ap (λ (node : ParNode). node.name) (c.nodes (slice_index is_p.order v) k_low)
      ∙ sym (name_read n is_p.order p.names is_p.names v v_low)

  pub cut_is_no_worse : IsNoWorse p q
  cut_is_no_worse = no_worse p q cut.chains is_divided same_name

pub cut_nets_are_no_worse : CutNetsAreNoWorse
cut_nets_are_no_worse old new parts name some is lib verilog cons d e of_d of_e p q is_p is_q =
    cut_is_no_worse d e p q old new parts name some is of_d.spef of_e.spef is_p is_q
    (record {
      library = one_library lib e.library d.library of_e.library of_d.library;
      netlist = netlist;
      rows = of_e.rows.rows_are ∙ sym of_d.rows.rows_are;
      id = same_id is_q.net.id is_p.net.id
          (sym is_q.joined.number ∙ ap (λ (netlist : Netlist). net_number netlist name) netlist ∙ is_p.joined.number);
    })
  where
    netlist : e.netlist ≡ d.netlist
    netlist = of_e.netlist.is ∙ sym of_d.netlist.is
