-- What is told of a problem, and of a net without its constraints.
use Rattle.std.proofs.Common.{◌≡◌, ◌∷◌, ℕ, zero, suc, ◌+◌, ◌<◌, ◌≤◌, Bool, true, false, cond, List, filter, length, get_or, refl, sym, ap, ◌∙◌, arith, Option, Some, None, is_some}
use Rattle.std.proofs.lemmas.List.{get_or-map, length-map}
use Rattle.std.proofs.lemmas.List.FromFn.{length-map-range_with_len}
use Rattle.elmore.specs.Problems.{is_sink}
use Rattle.elmore.specs.Trees.{node_at}
use Rattle.elmore.specs.declared.parts.Sink.{Sink}
use Rattle.spef_net.specs.declared.net.ParNet.{ParNet}
use Rattle.std.specs.List.{range_with_len}
use Rattle.vg_cons.specs.Rows.{Rows}
use Rattle.spef_wire.specs.Wires.{is_sink_node}
use Rattle.vg_design.specs.Designs.{Design, name_of}
use Rattle.vg_design.specs.Nets.{IsNetProblem, sink_nodes}
use Rattle.vg_design.specs.Parts.{loaded, sink_at, sink_given, sinks_of}
use Rattle.vg_design.specs.declared.net_problem.NetProblem.{NetProblem}

-- each node of a problem has a name
pub names_size : (d : Design) (name : List ℕ) (found : NetProblem) → IsNetProblem d name found → length found.names ≡ length found.problem.tree.nodes
names_size d name found is =
    ap length is.names
    ∙ length-map is.order (name_of is.net.par)
    ∙ is.a_tree.a_tree.lists.count
    ∙ sym is.a_tree.a_tree.count
    ∙ sym (ap length is.problem.tree_is ∙ length-map-range_with_len (λ i. loaded d is.net (node_at is.tree i) (get_or is.order i 0)) 0 (length is.tree))

-- whether a node of the tree is a sink
sink_is : (rows : Rows) (net : ParNet) (order : List ℕ) (i : ℕ) → i < length order → is_sink (sinks_of rows net order) i ≡ is_sink_node net (get_or order i 0)
sink_is rows net order i h = ap is_some (get_or-map (sink_at rows net) order i 0 None h) ∙ by_mark (is_sink_node net (get_or order i 0))
  where
    by_mark : (b : Bool) → is_some (cond b (Some (sink_given rows (name_of net (get_or order i 0)))) None) ≡ b
    by_mark true = refl
    by_mark false = refl

same_filter : (p q : ℕ → Bool) (a n : ℕ) → ((i : ℕ) → a ≤ i → i < a + n → p i ≡ q i) → filter p (range_with_len a n) ≡ filter q (range_with_len a n)
same_filter p q a zero same = refl
same_filter p q a (suc n) same =
    ap (λ b. cond b (a ∷ filter p (range_with_len (a + 1) n)) (filter p (range_with_len (a + 1) n))) (same a (omega arith) (omega arith))
    ∙ ap (λ (xs : List ℕ). cond (q a) (a ∷ xs) xs) (same_filter p q (a + 1) n (λ i low high. same i (omega (arith, low)) (omega (arith, high))))

-- the sinks as nodes of the tree
pub sinks_are : (rows : Rows) (net : ParNet) (order : List ℕ) (sinks : List (Option Sink)) → sinks ≡ sinks_of rows net order → filter (is_sink sinks) (range_with_len 0 (length sinks)) ≡ sink_nodes net order
sinks_are rows net order sinks is =
    ap (λ (s : List (Option Sink)). filter (is_sink s) (range_with_len 0 (length s))) is
    ∙ ap (λ n. filter (is_sink (sinks_of rows net order)) (range_with_len 0 n)) (length-map order (sink_at rows net))
    ∙ same_filter (is_sink (sinks_of rows net order)) (λ i. is_sink_node net (get_or order i 0)) 0 (length order) (λ i low high. sink_is rows net order i (omega (arith, high)))
