-- What the problem of a net is made of, node by node.
use Rattle.std.proofs.Common.{◌≡◌, ◌==◌, ℕ, ◌+◌, ◌*◌, ◌<◌, ◌≤◌, ◌^◌, ◌&&◌, not, Bool, true, false, cond, List, [], ◌∷◌, ◌++◌, map, length, get_or, slice_index, inl, inr, refl, sym, ap, ◌∙◌, subst, arith, Option, Some, None, is_some, IfSome, MatchOption}
use Rattle.std.specs.List.{All, AllPairs, list_any, range_with_len, sum_by}
use Rattle.std.specs.Str.{bytes_eq}
use Rattle.std.proofs.lemmas.Bool.{false≢true, cases_lt, cases_eq, eq-eqb, ne_eqb}
use Rattle.std.proofs.lemmas.List.{get_or_default, get_or_past, get_or-map, length-map}
use Rattle.std.proofs.lemmas.List.Elements.{All-filter, All-same}
use Rattle.std.proofs.lemmas.List.Kept.{AllPairs-filter}
use Rattle.std.proofs.lemmas.List.FromFn.{map-range_with_len_more, get_or-map-range_with_len, get_or-range_with_len, length-range_with_len, length-map-range_with_len}
use Rattle.std.proofs.lemmas.List.Folds.{Any-from_list_any, list_any_at}
use Rattle.std.proofs.lemmas.List.Sums.{sum_by-le}
use Rattle.elmore.specs.Allowances.{AreAllowances, allowed_at}
use Rattle.elmore.specs.Trees.{IsTree, node_at, capacitance}
use Rattle.elmore.specs.Problems.{IsProblemWithin, is_sink as is_sink_in, places as places_of}
use Rattle.elmore.specs.declared.allowed.Allowed.{Allowed}
use Rattle.elmore.specs.declared.allowed.Allowed.TheVariants.{All as AllOfThem, Only}
use Rattle.elmore.specs.declared.tree.Node.{Node}
use Rattle.elmore.specs.declared.parts.Driver.{Driver}
use Rattle.elmore.specs.declared.parts.Sink.{Sink}
use Rattle.elmore.specs.declared.rep.Rep.{Rep}
use Rattle.elmore.specs.declared.problem.Problem.{Problem}
use Rattle.spef_net.specs.declared.net.ParConn.{ParConn}
use Rattle.spef_net.specs.declared.net.ParNet.{ParNet}
use Rattle.spef_net.proofs.NetLemmas.{conns_within}
use Rattle.spef_nodes.specs.Nodes.{ParNode}
use Rattle.std.proofs.lemmas.Option.{slice_get-get_or}
use Rattle.ver_net.specs.declared.pin_ref.PinRef.{PinRef}
use Rattle.vg_cons.specs.Rows.{allowed_of, is_blocked_of}
use Rattle.spef_wire.specs.Refusals.{drives, drivers_of, is_sink, most_capacitors}
use Rattle.spef_wire.specs.Wires.{is_sink_node}
use Rattle.vg_design.specs.Designs.{Design, Joined, NO_NODE, name_of}
use Rattle.vg_design.proofs.EndLemmas.{NO_CONN, conn_node}
use Rattle.vg_design.specs.Parts.{allowance_at, allowed_by, allowed_in, cells_of, driver_of, free_of, loaded, loaded_tree, is_boxed, is_free, numbers_of, reps_of, sink_at, sink_given, sinks_of, IsWithinLimits}
use Rattle.vg_design.specs.Steps.{IsReady, MakesProblem}

-- within the tree the default does not count
pub node_read : (tree : List Node) (i : ℕ) (d : Node) → i < length tree → get_or tree i d ≡ node_at tree i
node_read tree i d h = get_or_default tree i d (record { parent = i; r = 0; c = 0 }) h

-- one more node with its load
pub loaded_more : (d : Design) (n : Joined) (tree : List Node) (order : List ℕ) (i : ℕ) (other node : Node) (nodes all : List Node) → i < length tree
    → nodes ≡ map (λ k. loaded d n (node_at tree k) (slice_index order k)) (range_with_len 0 i)
    → node ≡ loaded d n (get_or tree i other) (slice_index order i)
    → all ≡ nodes ++ node ∷ []
    → all ≡ map (λ k. loaded d n (node_at tree k) (slice_index order k)) (range_with_len 0 (i + 1))
loaded_more d n tree order i other node nodes all h before is more =
    more
    ∙ ap (λ (xs : List Node). xs ++ node ∷ []) before
    ∙ ap (λ (x : Node). map (λ k. loaded d n (node_at tree k) (slice_index order k)) (range_with_len 0 i) ++ x ∷ []) (is ∙ ap (λ (x : Node). loaded d n x (slice_index order i)) (node_read tree i other h))
    ∙ sym (map-range_with_len_more (λ k. loaded d n (node_at tree k) (slice_index order k)) 0 i i (omega arith))

module _ (d : Design) (n : Joined) (pins : List (Option PinRef)) (tree : List Node) (order : List ℕ) (ready : IsReady d n pins tree order) where
  pub order_size : length order ≡ length n.par.nodes
  order_size = ready.a_tree.a_tree.lists.count

  pub tree_size : length tree ≡ length n.par.nodes
  tree_size = ready.a_tree.a_tree.count

  -- the tree lists nodes of the net
  pub order_within : All (λ v. v < length n.par.nodes) order
  order_within k e h =
      let size = order_size in
      let low : k < length n.par.nodes = omega (arith, h, size) in
      subst (λ (v : ℕ). v < length n.par.nodes) (get_or_default order k 0 e h) (ready.a_tree.a_tree.lists.within k low)

  -- no node has much capacitance
  pub is_small : (i : ℕ) → capacitance tree i < 2 ^ 127
  is_small i =
      let few : sum_by (λ (cap : ℕ × ℕ). cond (cap.0 == slice_index order i) cap.1 0) n.par.caps < 2 ^ 127 = small_at (slice_index order i) in
      elim (cases_lt i (length tree)) [
        | inl low ↦
            let size = tree_size in
            let e = ready.a_tree.a_tree.capacitances i (omega (arith, low, size)) in
            subst (λ (c : ℕ). c < 2 ^ 127) (sym e) few
        | inr high ↦ subst (λ (x : Node). x.c < 2 ^ 127) (sym (get_or_past tree i (record { parent = i; r = 0; c = 0 }) high)) (omega arith)
      ]
    where
      cond_most : (b : Bool) (c m : ℕ) → c ≤ m → cond b c 0 ≤ m
      cond_most true c m h = h
      cond_most false c m h = omega arith

      small_at : (v : ℕ) → sum_by (λ (cap : ℕ × ℕ). cond (cap.0 == v) cap.1 0) n.par.caps < 2 ^ 127
      small_at v =
          let each : All (λ (cap : ℕ × ℕ). cond (cap.0 == v) cap.1 0 ≤ 10 ^ 15) n.par.caps = λ k e h. cond_most ((get_or n.par.caps k e).0 == v) (get_or n.par.caps k e).1 (10 ^ 15) (n.par.sound.caps_at k e h).1 in
          let most : sum_by (λ (cap : ℕ × ℕ). cond (cap.0 == v) cap.1 0) n.par.caps ≤ length n.par.caps * 10 ^ 15 = sum_by-le (λ (cap : ℕ × ℕ). cond (cap.0 == v) cap.1 0) (10 ^ 15) n.par.caps each in
          omega (arith, most, ready.sized.cap_count)

  loaded_at : (v : ℕ) → v < length tree → node_at (loaded_tree d n tree order) v ≡ loaded d n (node_at tree v) (slice_index order v)
  loaded_at v h = get_or-map-range_with_len (λ i. loaded d n (node_at tree i) (slice_index order i)) 0 (length tree) v v (record { parent = v; r = 0; c = 0 }) h (omega arith)

  loaded_size : length (loaded_tree d n tree order) ≡ length tree
  loaded_size = length-map-range_with_len (λ i. loaded d n (node_at tree i) (slice_index order i)) 0 (length tree)

  -- a tree stays one with its loads
  pub loaded_is_tree : IsTree (loaded_tree d n tree order)
  loaded_is_tree =
      let size = loaded_size in
      let is : IsTree tree = ready.a_tree.a_tree.a_tree in
      record {
        some_node = omega (arith, size, is.some_node);
        root = ap (λ (x : Node). x.parent) (loaded_at 0 is.some_node) ∙ is.root;
        bare_root = ap (λ (x : Node). x.r) (loaded_at 0 is.some_node) ∙ is.bare_root;
        smaller = λ v above h.
            let low : v < length tree = omega (arith, size, h) in
            subst (λ (u : ℕ). u < v) (sym (ap (λ (x : Node). x.parent) (loaded_at v low))) (is.smaller v above low);
      }

  -- each node of the loaded tree has one element of a list over the tree's nodes
  pub one_each : {X : Type 0} (f : ℕ → X) (xs : List X) (nodes : List Node) → xs ≡ map f order → nodes ≡ loaded_tree d n tree order → length xs ≡ length nodes
  one_each f xs nodes is loaded = ap length is ∙ length-map order f ∙ order_size ∙ sym (ap length loaded ∙ loaded_size ∙ tree_size)

  -- some node of the tree is a sink
  pub some_sink : list_any is_some (sinks_of d.rows n.par order) ≡ true
  some_sink =
      let (k, conn, low, is, sink) = Any-from_list_any is_sink n.par.conns ready.some_sink in
      let node = conn.node in
      let marked : is_sink_node n.par node ≡ true =
      list_any_at (λ (c : ParConn). is_sink c && (c.node == node)) n.par.conns k conn low
      (subst (λ (c : ParConn). (is_sink c && (c.node == node)) ≡ true) (sym is) (ap (λ b. b && (node == node)) sink ∙ eq-eqb node node refl)) in
      let within : node < length n.par.nodes = subst (λ (c : ParConn). c.node < length n.par.nodes) is (conns_within n.par k conn low) in
      let (i, below, at) = ready.a_tree.a_tree.lists.each node within in
      let size = order_size in
      let there : get_or (sinks_of d.rows n.par order) i None ≡ sink_at d.rows n.par node = get_or-map (sink_at d.rows n.par) order i 0 None (omega (arith, below, size)) ∙ ap (sink_at d.rows n.par) at in
      let given : sink_at d.rows n.par node ≡ Some (sink_given d.rows (name_of n.par node)) = ap (λ b. cond b (Some (sink_given d.rows (name_of n.par node))) None) marked in
      let count = length-map order (sink_at d.rows n.par) in
      list_any_at is_some (sinks_of d.rows n.par order) i None (omega (arith, below, size, count)) (ap is_some (there ∙ given))

  -- a sink of the tree is at a connection
  pub sink_conn : (v : ℕ) → is_sink_node n.par v ≡ true → v < length n.par.conns
  sink_conn v marked =
      let (k, conn, low, is, sink) = Any-from_list_any (λ (c : ParConn). is_sink c && (c.node == v)) n.par.conns marked in
      let same : conn.node ≡ v = eq_is conn.node v (second (is_sink conn) (conn.node == v) sink) in
      let number : conn.node ≡ k = ap (λ (c : ParConn). c.node) (sym is) ∙ conn_node n.par k conn low in
      omega (arith, low, same, number)
    where
      eq_is : (a b : ℕ) → (a == b) ≡ true → a ≡ b
      eq_is a b e = elim (cases_eq a b) [
        | inl same ↦ same
        | inr other ↦ absurd (false≢true (sym (ne_eqb a b other) ∙ e))
      ]

      second : (a b : Bool) → (a && b) ≡ true → b ≡ true
      second true b e = e
      second false b e = absurd (cc)

  -- and a connection is not free
  conn_inner : (v : ℕ) → v < length n.par.conns → (get_or n.par.nodes v NO_NODE).inner ≡ false
  conn_inner v h =
      let conn = get_or n.par.conns v NO_CONN in
      let few = n.par.sound.joined.few in
      (n.par.sound.joined.ends v conn (get_or n.par.nodes v NO_NODE) (slice_get-get_or n.par.conns v NO_CONN h) (slice_get-get_or n.par.nodes v NO_NODE (omega (arith, h, few)))).0

  pub conn_not_free : (i : ℕ) → slice_index order i < length n.par.conns → i < length order → get_or (free_of d.rows n.par order) i false ≡ false
  conn_not_free i h low =
      get_or-map (λ u. is_free d.rows (get_or n.par.nodes u NO_NODE)) order i 0 false low
      ∙ inner_not (get_or n.par.nodes (slice_index order i) NO_NODE) (conn_inner (slice_index order i) h)
    where
      inner_not : (node : ParNode) → node.inner ≡ false → is_free d.rows node ≡ false
      inner_not node e = ap (λ b. b && (not (is_blocked_of d.rows node.name) && not (is_boxed d.rows node))) e

  pub sink_not_free : (v : ℕ) → is_sink_in (sinks_of d.rows n.par order) v ≡ true → get_or (free_of d.rows n.par order) v false ≡ false
  sink_not_free v sink = elim (cases_lt v (length order)) [
    | inl low ↦ conn_not_free v (sink_conn (slice_index order v) (marked (is_sink_node n.par (slice_index order v)) refl (ap is_some (sym (get_or-map (sink_at d.rows n.par) order v 0 None low)) ∙ sink))) low
    | inr high ↦ get_or_past (free_of d.rows n.par order) v false (let size = length-map order (λ u. is_free d.rows (get_or n.par.nodes u NO_NODE)) in omega (arith, size, high))
  ]
    where
      marked : (b : Bool) → is_sink_node n.par (slice_index order v) ≡ b → is_some (cond b (Some (sink_given d.rows (name_of n.par (slice_index order v)))) None) ≡ true → is_sink_node n.par (slice_index order v) ≡ true
      marked true e s = e
      marked false e s = absurd (cc)

  -- the root is a connection
  pub root_conn : slice_index order 0 < length n.par.conns
  root_conn =
      let driven = ready.a_tree.driven in
      let all = All-filter drives (λ (conn : ParConn). conn.node < length n.par.conns) n.par.conns (λ k e h. let at = conn_node n.par k e h in omega (arith, at, h)) in
      let own = All-same (λ (conn : ParConn). conn.node < length n.par.conns) (driven.driver ∷ []) (drivers_of n.par) (sym driven.alone) all 0 driven.driver (omega arith) in
      subst (λ (v : ℕ). v < length n.par.conns) (driven.at ∙ sym ready.a_tree.a_tree.begins) own

-- ---- repeaters

-- the numbers that a row allows rise, and are those of repeaters
numbers_rise : (names cells : List (List ℕ)) → AllPairs (λ a b. a < b) (numbers_of names cells)
numbers_rise names cells =
    AllPairs-filter (λ a b. a < b) (λ b. list_any (bytes_eq (get_or names b [])) cells) (range_with_len 0 (length names))
    (λ i j e low high.
    let size = length-range_with_len 0 (length names) in
    let a = get_or-range_with_len 0 (length names) i e (omega (arith, low, high, size)) in
    let b = get_or-range_with_len 0 (length names) j e (omega (arith, high, size)) in
    omega (arith, a, b, low))

numbers_few : (names cells : List (List ℕ)) → All (λ b. b < length names) (numbers_of names cells)
numbers_few names cells =
    All-filter (λ b. list_any (bytes_eq (get_or names b [])) cells) (λ b. b < length names) (range_with_len 0 (length names))
    (λ i e low.
    let size = length-range_with_len 0 (length names) in
    let a = get_or-range_with_len 0 (length names) i e (omega (arith, low, size)) in
    omega (arith, a, low, size))

-- what some nodes allow is by the numbers of repeaters
allowed_only : (names : List (List ℕ)) (row : Option (List (List ℕ))) (numbers : List ℕ) → allowed_by names row ≡ Only numbers → (AllPairs (λ a b. a < b) numbers) × (All (λ b. b < length names) numbers)
allowed_only names None numbers e = absurd (cc)
allowed_only names (Some cells) numbers e =
    let same : numbers_of names cells ≡ numbers = cc in
    (subst (AllPairs (λ a b. a < b)) same (numbers_rise names cells), subst (λ (xs : List ℕ). All (λ b. b < length names) xs) same (numbers_few names cells))

module _ (d : Design) (par : ParNet) (order : List ℕ) where
  abbrev names : List (List ℕ)
  names = cells_of d.library.repeaters

  allowed_here : (v : ℕ) (numbers : List ℕ) → allowed_at (allowed_in d par order) v ≡ Only numbers → (AllPairs (λ a b. a < b) numbers) × (All (λ b. b < length names) numbers)
  allowed_here v numbers e = elim (cases_lt v (length order)) [
    | inl low ↦ allowed_only names (allowed_of d.rows (name_of par (slice_index order v))) numbers
        (sym (get_or-map (allowance_at d par) order v 0 AllOfThem low) ∙ e)
    | inr high ↦
        let size = length-map order (allowance_at d par) in
        let past : allowed_at (allowed_in d par order) v ≡ AllOfThem = get_or_past (allowed_in d par order) v AllOfThem (omega (arith, size, high)) in
        absurd (cc)
  ]

  pub allowances : (count reps : ℕ) → length (allowed_in d par order) ≡ count → reps ≡ length d.library.repeaters → AreAllowances count reps (allowed_in d par order)
  allowances count reps each is = record {
    one_each = each;
    rising = λ v numbers e. (allowed_here v numbers e).0;
    named = λ v numbers e b among.
        let (k, low, at) = among in
        let few = (allowed_here v numbers e).1 k b low in
        let size = length-map d.library.repeaters (λ r. r.cell) in
        omega (arith, few, at, size, is);
  }

module _ (d : Design) (n : Joined) (pins : List (Option PinRef)) (tree : List Node) (order : List ℕ) (ready : IsReady d n pins tree order) where
  pub sinks_each : (sinks : List (Option Sink)) (nodes : List Node) → sinks ≡ sinks_of d.rows n.par order → nodes ≡ loaded_tree d n tree order → length sinks ≡ length nodes
  sinks_each sinks nodes = one_each d n pins tree order ready (sink_at d.rows n.par) sinks nodes

  pub free_each : (free : List Bool) (nodes : List Node) → free ≡ free_of d.rows n.par order → nodes ≡ loaded_tree d n tree order → length free ≡ length nodes
  free_each free nodes = one_each d n pins tree order ready (λ v. is_free d.rows (get_or n.par.nodes v NO_NODE)) free nodes

  pub root_not_free : get_or (free_of d.rows n.par order) 0 false ≡ false
  root_not_free =
      let size = order_size d n pins tree order ready in
      let some = ready.a_tree.a_tree.a_tree.some_node in
      let count = tree_size d n pins tree order ready in
      conn_not_free d n pins tree order ready 0 (root_conn d n pins tree order ready) (omega (arith, size, some, count))

  pub allowed_each : (allowed : List Allowed) (nodes : List Node) (reps : List Rep) → allowed ≡ allowed_in d n.par order → nodes ≡ loaded_tree d n tree order → reps ≡ reps_of d.library.repeaters
      → AreAllowances (length nodes) (length reps) allowed
  allowed_each allowed nodes reps is loaded from =
      let each = one_each d n pins tree order ready (allowance_at d n.par) (allowed_in d n.par order) nodes refl loaded in
      subst (AreAllowances (length nodes) (length reps)) (sym is) (allowances d n.par order (length nodes) (length reps) each (ap length from ∙ length-map d.library.repeaters (λ r. r.rep)))

-- a problem that was made is that of the net
pub made_is : (d : Design) (n : Joined) (tree : List Node) (order : List ℕ) (made : Option Problem) (nodes : List Node) (driver : Driver) (sinks : List (Option Sink)) (free : List Bool) (reps : List Rep) (allowed : List Allowed)
    → nodes ≡ loaded_tree d n tree order → driver ≡ driver_of d n order → sinks ≡ sinks_of d.rows n.par order → free ≡ free_of d.rows n.par order → reps ≡ reps_of d.library.repeaters
    → allowed ≡ allowed_in d n.par order → length n.par.caps ≤ most_capacitors
    → MatchOption made (IsProblemWithin nodes driver sinks (places_of nodes sinks free) reps → ⊥) (λ _. IsProblemWithin nodes driver sinks (places_of nodes sinks free) reps)
    → IfSome made (λ p. p.tree.nodes ≡ nodes) → IfSome made (λ p. p.driver ≡ driver) → IfSome made (λ p. p.sinks ≡ sinks) → IfSome made (λ p. p.places ≡ places_of nodes sinks free)
    → IfSome made (λ p. p.reps ≡ reps) → IfSome made (λ p. p.allowed ≡ allowed)
    → MakesProblem d n tree order made
made_is d n tree order None nodes driver sinks free reps allowed t e s f r w caps past a b c g h k =
    λ within. past (moved within)
  where
    moved : IsWithinLimits d n tree order → IsProblemWithin nodes driver sinks (places_of nodes sinks free) reps
    moved within = rw (t, e, s, f, r) within.sums
made_is d n tree order (Some p) nodes driver sinks free reps allowed t e s f r w caps within a b c g h k = (
  record {
    tree_is = a ∙ t;
    driver = b ∙ e;
    sinks = c ∙ s;
    places = g ∙ (λ i. places_of (t i) (s i) (f i));
    reps = h ∙ r;
    allowed = k ∙ w;
  },
  record { cap_lines = caps; sums = rw (sym t, sym e, sym s, sym f, sym r) within },
)
