-- The problem of what is read of a cut net is the net's with its wires divided.
use Rattle.std.proofs.Common.{◌≡◌, ℕ, ◌<◌, ◌&&◌, Bool, true, false, cond, List, length, get_or, slice_index, refl, sym, ap, ◌∙◌, subst, arith, Option, Some, None, is_some}
use Rattle.std.specs.Prelude.{slice_index_or}
use Rattle.std.proofs.lemmas.Bool.{false≢true}
use Rattle.std.proofs.lemmas.List.{get_or-map}
use Rattle.std.proofs.lemmas.List.FromFn.{get_or-map-range_with_len, length-map-range_with_len}
use Rattle.divided_laws.specs.DividedTrees.{Chains, IsDivided, IsLoadedBy, is_old}
use Rattle.divided_laws.specs.DividedProblems.{IsDividedProblem}
use Rattle.divided_laws.proofs.ChainLemmas.{old_at}
use Rattle.divided_laws.proofs.DividedPathLemmas.{keeps_sinks_below}
use Rattle.divided_laws.proofs.LoadedLemmas.{loaded_divided}
use Rattle.divided_net_laws.specs.DividedNets.{IsTreeDivided}
use Rattle.divided_net_laws.proofs.ChainLemmas.{one_place}
use Rattle.elmore.specs.Allowances.{allowed_at}
use Rattle.elmore.specs.Problems.{is_above_sink, is_place, sink_of}
use Rattle.elmore.specs.Trees.{node_at as tree_node}
use Rattle.elmore.specs.declared.allowed.Allowed.TheVariants.{All as AllOfThem}
use Rattle.elmore.specs.declared.parts.Sink.{Sink}
use Rattle.elmore.specs.declared.problem.Problem.{Problem}
use Rattle.elmore.specs.declared.tree.Node.{Node}
use Rattle.lib_linear.specs.Libraries.{Cells}
use Rattle.rc_tree.specs.Answers.{IsTreeOf}
use Rattle.spef_nodes.specs.Nodes.{ParNode}
use Rattle.spef_wire.specs.Refusals.{IsDrivenAt}
use Rattle.spef_wire.specs.Wires.{is_sink_node}
use Rattle.vg_cons.specs.Rows.{Rows, allowed_of}
use Rattle.vg_design.specs.Designs.{Design, Joined, NO_NODE, driver_at, name_of, sink_load}
use Rattle.vg_design.specs.Parts.{IsProblemOf, allowance_at, allowed_by, allowed_in, cells_of, free_of, is_free, load_at, loaded, loaded_tree, places_in, reps_of, sink_at, sink_given, sinks_of}
use Rattle.vg_scan.specs.declared.name.NodeName.{NodeName}
use Rattle.segment_laws.proofs.CutWireLemmas.{is_cut}
use Rattle.segment_laws.proofs.ReadCutLemmas.{IsDividedRead, sink_none, sink_same}

-- ---- trees with loads

module _ (d : Design) (n : Joined) (tree : List Node) (order : List ℕ) where
  loaded_at : (i p : ℕ) → i < length tree
      → get_or (loaded_tree d n tree order) i (record { parent = p; r = 0; c = 0 })
      ≡ loaded d n (tree_node tree i) (slice_index order i)
  loaded_at i p i_n =
      get_or-map-range_with_len (λ i. loaded d n (tree_node tree i) (slice_index order i)) 0 (length tree) i i
      (record { parent = p; r = 0; c = 0 }) i_n (omega arith)

  pub loaded_count : length (loaded_tree d n tree order) ≡ length tree
  loaded_count = length-map-range_with_len (λ i. loaded d n (tree_node tree i) (slice_index order i)) 0 (length tree)

  pub has_loads : IsLoadedBy (λ i. load_at d n (slice_index order i)) tree (loaded_tree d n tree order)
  has_loads = record {
    count = loaded_count;
    parents = λ i i_n. ap (λ (node : Node). node.parent) (loaded_at i i i_n);
    resistances = λ i i_n. ap (λ (node : Node). node.r) (loaded_at i i i_n);
    capacitances = λ i i_n. ap (λ (node : Node). node.c) (loaded_at i i i_n);
  }

-- ---- two designs of the same library, netlist and constraints

pub record AreAlike (d e : Design) (n m : Joined) : Type 0 where
  pub library : e.library ≡ d.library
  pub netlist : e.netlist ≡ d.netlist
  pub rows : e.rows ≡ d.rows
  pub id : m.id ≡ n.id

module _ (d e : Design) (n m : Joined) (a : AreAlike d e n m) where
  -- what they say of an end of the net is the same
  load_alike : (at : NodeName) → sink_load e m at ≡ sink_load d n at
  load_alike at = λ i.
      sink_load (record { spef = d.spef; library = a.library i; netlist = a.netlist i; rows = a.rows i })
      (record { par = n.par; id = a.id i }) at

  driver_alike : (at : NodeName) → driver_at e m at ≡ driver_at d n at
  driver_alike at = λ i.
      driver_at (record { spef = d.spef; library = a.library i; netlist = a.netlist i; rows = a.rows i })
      (record { par = n.par; id = a.id i }) at

  module _ (parts root : ℕ) (to : ℕ → ℕ) (fresh : ℕ → ℕ → ℕ) (c : IsDividedRead parts n.par m.par root to fresh) where
    -- what they say of a node of the net is the same
    name_same : (k : ℕ) → k < length n.par.nodes → name_of m.par (to k) ≡ name_of n.par k
    name_same k k_n = ap (λ (node : ParNode). node.name) (c.nodes k k_n)

    load_same : (k : ℕ) → k < length n.par.nodes → load_at e m (to k) ≡ load_at d n k
    load_same k k_n =
        ap (λ b. cond b (sink_load e m (name_of m.par (to k))) 0) (sink_same parts n.par m.par root to fresh c k k_n)
        ∙ ap (λ at. cond (is_sink_node n.par k) (sink_load e m at) 0) (name_same k k_n)
        ∙ ap (λ load. cond (is_sink_node n.par k) load 0) (load_alike (name_of n.par k))

    sink_at_same : (k : ℕ) → k < length n.par.nodes → sink_at e.rows m.par (to k) ≡ sink_at d.rows n.par k
    sink_at_same k k_n =
        ap (λ b. cond {A = Option Sink} b (Some (sink_given e.rows (name_of m.par (to k)))) None)
        (sink_same parts n.par m.par root to fresh c k k_n)
        ∙ ap (λ at. cond {A = Option Sink} (is_sink_node n.par k) (Some (sink_given e.rows at)) None) (name_same k k_n)
        ∙ ap (λ (rows : Rows). sink_at rows n.par k) a.rows

    free_same : (k : ℕ) → k < length n.par.nodes
        → is_free e.rows (slice_index_or m.par.nodes (to k) NO_NODE)
        ≡ is_free d.rows (slice_index_or n.par.nodes k NO_NODE)
    free_same k k_n =
        ap (is_free e.rows) (c.nodes k k_n)
        ∙ ap (λ (rows : Rows). is_free rows (slice_index_or n.par.nodes k NO_NODE)) a.rows

    allowance_same : (k : ℕ) → k < length n.par.nodes → allowance_at e m.par (to k) ≡ allowance_at d n.par k
    allowance_same k k_n =
        ap (λ at. allowed_by (cells_of e.library.repeaters) (allowed_of e.rows at)) (name_same k k_n)
        ∙ ap (λ (library : Cells). allowed_by (cells_of library.repeaters) (allowed_of e.rows (name_of n.par k)))
        a.library
        ∙ ap (λ (rows : Rows). allowed_by (cells_of d.library.repeaters) (allowed_of rows (name_of n.par k))) a.rows

    module _ (driven : IsDrivenAt n.par root) (tree : List Node) (order : List ℕ)
        (t : IsTreeOf (length n.par.nodes) root n.par.caps n.par.ress tree order) (new : List Node) (new_order : List ℕ)
        (u : IsTreeOf (length m.par.nodes) root m.par.caps m.par.ress new new_order) where
      pub cut_tree : IsTreeDivided tree new order new_order to
      cut_tree = is_cut parts n.par m.par root to fresh c driven tree order t new new_order u

      abbrev chains : Chains
      chains = cut_tree.chains

      old_low : (v : ℕ) → v < length tree → slice_index order v < length n.par.nodes
      old_low v v_n = t.lists.within v (omega (arith, v_n, t.count))

      -- a new node is no sink
      new_none : (x : ℕ) → x < length new → is_old chains x ≡ false
          → is_sink_node m.par (slice_index new_order x) ≡ false
      new_none x x_m is =
          sink_none parts n.par m.par root to fresh c (slice_index new_order x) (λ k k_n here.
          let (v, v_n, at) = t.lists.each k k_n in
          let v_low : v < length tree = omega (arith, v_n, t.count) in
          let same : slice_index new_order (chains.at v) ≡ slice_index new_order x =
          cut_tree.numbers v v_low ∙ ap to at ∙ sym here in
          let one : chains.at v ≡ x =
          one_place (length m.par.nodes) new_order u.lists (chains.at v) x
          (omega (arith, cut_tree.divided.within v v_low, u.count)) (omega (arith, x_m, u.count)) same in
          false≢true (sym is ∙ ap (is_old chains) (sym one) ∙ old_at tree new chains cut_tree.divided v v_low))

      pub loaded_cut : IsDivided (loaded_tree d n tree order) (loaded_tree e m new new_order) chains
      loaded_cut =
          loaded_divided tree new (loaded_tree d n tree order) (loaded_tree e m new new_order) chains
          (λ i. load_at d n (slice_index order i)) (λ i. load_at e m (slice_index new_order i)) cut_tree.divided
          (has_loads d n tree order) (has_loads e m new new_order)
          (λ v v_n. ap (load_at e m) (cut_tree.numbers v v_n) ∙ load_same (slice_index order v) (old_low v v_n))
          (λ x x_m is.
          ap (λ b. cond b (sink_load e m (name_of m.par (slice_index new_order x))) 0) (new_none x x_m is))

      -- ---- what stands at the nodes

      many : (v : ℕ) → v < length tree → chains.at v < length new_order
      many v v_n = omega (arith, cut_tree.divided.within v v_n, u.count, u.lists.count)

      sinks_at : (v : ℕ) → v < length tree
          → sink_of (sinks_of e.rows m.par new_order) (chains.at v) ≡ sink_of (sinks_of d.rows n.par order) v
      sinks_at v v_n =
          get_or-map (sink_at e.rows m.par) new_order (chains.at v) 0 None (many v v_n)
          ∙ ap (sink_at e.rows m.par) (cut_tree.numbers v v_n)
          ∙ sink_at_same (slice_index order v) (old_low v v_n)
          ∙ sym (get_or-map (sink_at d.rows n.par) order v 0 None (omega (arith, v_n, t.count, t.lists.count)))

      free_at : (v : ℕ) → v < length tree
          → slice_index_or (free_of e.rows m.par new_order) (chains.at v) false
          ≡ slice_index_or (free_of d.rows n.par order) v false
      free_at v v_n =
          get_or-map (λ k. is_free e.rows (slice_index_or m.par.nodes k NO_NODE)) new_order (chains.at v) 0 false
          (many v v_n)
          ∙ ap (λ k. is_free e.rows (slice_index_or m.par.nodes k NO_NODE)) (cut_tree.numbers v v_n)
          ∙ free_same (slice_index order v) (old_low v v_n)
          ∙ sym (get_or-map (λ k. is_free d.rows (slice_index_or n.par.nodes k NO_NODE)) order v 0 false
          (omega (arith, v_n, t.count, t.lists.count)))

      allowed_same : (v : ℕ) → v < length tree
          → allowed_at (allowed_in e m.par new_order) (chains.at v) ≡ allowed_at (allowed_in d n.par order) v
      allowed_same v v_n =
          get_or-map (allowance_at e m.par) new_order (chains.at v) 0 AllOfThem (many v v_n)
          ∙ ap (allowance_at e m.par) (cut_tree.numbers v v_n)
          ∙ allowance_same (slice_index order v) (old_low v v_n)
          ∙ sym (get_or-map (allowance_at d n.par) order v 0 AllOfThem (omega (arith, v_n, t.count, t.lists.count)))

      abbrev old_place : ℕ → Bool
      old_place =
          is_place (loaded_tree d n tree order) (sinks_of d.rows n.par order) (free_of d.rows n.par order)

      abbrev new_place : ℕ → Bool
      new_place =
          is_place (loaded_tree e m new new_order) (sinks_of e.rows m.par new_order) (free_of e.rows m.par new_order)

      -- a place is one still
      place_same : (v : ℕ) → v < length tree → old_place v ≡ true → new_place (chains.at v) ≡ true
      place_same v v_n here =
          let (free, above) =
          both (slice_index_or (free_of d.rows n.par order) v false)
          (is_above_sink (loaded_tree d n tree order) (sinks_of d.rows n.par order) v) here in
          ap (λ b. b && is_above_sink (loaded_tree e m new new_order) (sinks_of e.rows m.par new_order) (chains.at v))
          (free_at v v_n ∙ free)
          ∙ keeps_sinks_below (loaded_tree d n tree order) (loaded_tree e m new new_order) chains
          (sinks_of d.rows n.par order) (sinks_of e.rows m.par new_order) loaded_cut
          (λ w w_n. ap is_some (sinks_at w (omega (arith, w_n, loaded_count d n tree order))))
          v (omega (arith, v_n, loaded_count d n tree order)) above
        where
          both : (x y : Bool) → (x && y) ≡ true → (x ≡ true) × (y ≡ true)
          both true y h = (refl, h)
          both false y h = absurd (false≢true h)

      place_at : (v : ℕ) → v < length tree → slice_index_or (places_in d n tree order) v false ≡ true
          → slice_index_or (places_in e m new new_order) (chains.at v) false ≡ true
      place_at v v_n here =
          let v_low : v < length (loaded_tree d n tree order) = omega (arith, v_n, loaded_count d n tree order) in
          let x_low : chains.at v < length (loaded_tree e m new new_order) =
          omega (arith, cut_tree.divided.within v v_n, loaded_count e m new new_order) in
          let was : old_place v ≡ true =
          sym (get_or-map-range_with_len old_place 0 (length (loaded_tree d n tree order)) v v false v_low
          (omega arith)) ∙ here in
          get_or-map-range_with_len new_place 0 (length (loaded_tree e m new new_order)) (chains.at v) (chains.at v)
          false x_low (omega arith)
          ∙ place_same v v_n was

      -- ---- the problems

      pub cut_problem : (p q : Problem) → IsProblemOf d n tree order p → IsProblemOf e m new new_order q
          → IsDividedProblem p q chains
      cut_problem p q is_p is_q = record {
        divided =
            subst (λ (nodes : List Node). IsDivided nodes q.tree.nodes chains) (sym is_p.tree_is)
            (subst (λ (nodes : List Node). IsDivided (loaded_tree d n tree order) nodes chains)
            (sym is_q.tree_is) loaded_cut);
        driver =
            is_q.driver
            ∙ ap (driver_at e m)
            (ap (name_of m.par) (ap (slice_index new_order) (sym cut_tree.divided.root) ∙ cut_tree.numbers 0 first)
            ∙ name_same (slice_index order 0) (old_low 0 first))
            ∙ driver_alike (name_of n.par (slice_index order 0)) ∙ sym is_p.driver;
        reps = is_q.reps ∙ ap (λ (library : Cells). reps_of library.repeaters) a.library ∙ sym is_p.reps;
        sinks = λ v v_n.
            ap (λ sinks. sink_of sinks (chains.at v)) is_q.sinks ∙ sinks_at v (few v v_n)
            ∙ ap (λ sinks. sink_of sinks v) (sym is_p.sinks);
        no_sinks = λ x x_m is.
            ap (λ sinks. sink_of sinks x) is_q.sinks
            ∙ get_or-map (sink_at e.rows m.par) new_order x 0 None (omega (arith, low x x_m, u.count, u.lists.count))
            ∙ ap
            (λ b. cond {A = Option Sink} b (Some (sink_given e.rows (name_of m.par (slice_index new_order x)))) None)
            (new_none x (low x x_m) is);
        places = λ v v_n here.
            ap (λ places. slice_index_or places (chains.at v) false) is_q.places
            ∙ place_at v (few v v_n) (ap (λ places. slice_index_or places v false) (sym is_p.places) ∙ here);
        allowed = λ v v_n.
            ap (λ allowed. allowed_at allowed (chains.at v)) is_q.allowed ∙ allowed_same v (few v v_n)
            ∙ ap (λ allowed. allowed_at allowed v) (sym is_p.allowed);
      }
        where
          first : 0 < length tree
          first = t.a_tree.some_node

          few : (v : ℕ) → v < length p.tree.nodes → v < length tree
          few v v_n =
              omega (arith, v_n, ap (λ (nodes : List Node). length nodes) is_p.tree_is, loaded_count d n tree order)

          low : (x : ℕ) → x < length q.tree.nodes → x < length new
          low x x_m =
              omega (arith, x_m, ap (λ (nodes : List Node). length nodes) is_q.tree_is, loaded_count e m new new_order)
