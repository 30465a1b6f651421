-- The sinks of a net without its constraints.
use Rattle.std.proofs.Common.{◌≡◌, ℕ, zero, suc, ◌<◌, Bool, true, false, cond, List, [], ◌∷◌, map, filter, length, get_or, inl, inr, refl, sym, ap, ◌∙◌, subst, arith, Option, Some, None, is_some, unwrap_or, ℤ, pos}
use Rattle.std.specs.List.{All, list_any, range_with_len}
use Rattle.std.proofs.lemmas.Bool.{cases_lt}
use Rattle.std.proofs.lemmas.List.{get_or_default, get_or-map, get_or_past, length-map}
use Rattle.std.proofs.lemmas.List.Elements.{All-filter, filter_passes}
use Rattle.std.proofs.lemmas.List.FromFn.{get_or-range_with_len, length-range_with_len}
use Rattle.std.proofs.lemmas.List.Folds.{Any-from_list_any}
use Rattle.elmore.specs.Problems.{is_sink as is_sink_in, IsSmall}
use Rattle.elmore.specs.Trees.{IsWithinLimits}
use Rattle.elmore.specs.declared.parts.Sink.{Sink}
use Rattle.elmore.specs.declared.problem.Problem.{Problem}
use Rattle.elmore.specs.declared.tree.Node.{Node}
use Rattle.spef_net.specs.declared.net.ParNet.{ParNet}
use Rattle.vg_cons.specs.Rows.{required_of}
use Rattle.ver_net.specs.declared.pin_ref.PinRef.{PinRef}
use Rattle.spef_wire.specs.Wires.{is_sink_node}
use Rattle.vg_design.specs.Designs.{Design, Joined, NO_NODE, ends_of, name_of, pin_on}
use Rattle.vg_design.specs.Nets.{name_at, names_of, sink_nodes}
use Rattle.vg_design.specs.Parts.{loaded_tree, sink_at, sink_given, sinks_of}
use Rattle.vg_design.specs.Steps.{IsReady}
use Rattle.vg_design.proofs.EndLemmas.{end_is, ends_size}
use Rattle.vg_design.proofs.PartLemmas.{one_each, sink_conn, some_sink}

-- functions that agree on each element
pub same_map : {X Y : Type 0} (f g : X → Y) (xs : List X) → All (λ x. f x ≡ g x) xs → map f xs ≡ map g xs
same_map f g [] same = refl
same_map f g (x ∷ xs) same = λ i. same 0 x (omega arith) i ∷ same_map f g xs (λ k e low. same (suc k) e (omega (arith, low))) i

-- what passes a filter of the first numbers is one of them
few_pass : (p : ℕ → Bool) (n : ℕ) → All (λ u. u < n) (filter p (range_with_len 0 n))
few_pass p n =
    All-filter p (λ u. u < n) (range_with_len 0 n)
    (λ i e low.
    let size = length-range_with_len 0 n in
    let is = get_or-range_with_len 0 n i e (omega (arith, low, size)) in
    omega (arith, is, low, size))

module _ (d : Design) (n : Joined) (pins : List (Option PinRef)) (tree : List Node) (order : List ℕ) (ready : IsReady d n pins tree order) where
  -- the sinks are nodes of the tree, and connections
  pub sinks_low : All (λ u. u < length order) (sink_nodes n.par order)
  sinks_low = few_pass (λ i. is_sink_node n.par (get_or order i 0)) (length order)

  pub sinks_conns : All (λ u. get_or order u 0 < length pins) (sink_nodes n.par order)
  sinks_conns k e low =
      let passes = filter_passes (λ i. is_sink_node n.par (get_or order i 0)) (range_with_len 0 (length order)) k e low in
      let conn = sink_conn d n pins tree order ready (get_or order (get_or (sink_nodes n.par order) k e) 0) passes in
      let size : length pins ≡ length n.par.conns = ap length ready.linked ∙ length-map (ends_of n.par) (pin_on d.netlist n.id) ∙ ends_size n.par in
      omega (arith, conn, size)

  -- each node of the tree has a name
  pub names_each : (nodes : List Node) → nodes ≡ loaded_tree d n tree order → length (names_of n.par order) ≡ length nodes
  names_each nodes loaded = one_each d n pins tree order ready (name_of n.par) (names_of n.par order) nodes refl loaded

  name_there : (u : ℕ) → u < length order → name_at (names_of n.par order) u ≡ name_of n.par (get_or order u 0)
  name_there u low = get_or-map (name_of n.par) order u 0 NO_NODE.name low

  pin_there : (v : ℕ) → v < length pins → get_or pins v None ≡ pin_on d.netlist n.id (name_of n.par v)
  pin_there v low =
      let size : length pins ≡ length n.par.conns = ap length ready.linked ∙ length-map (ends_of n.par) (pin_on d.netlist n.id) ∙ ends_size n.par in
      let conns = ends_size n.par in
      let few : v < length n.par.conns = omega (arith, low, size) in
      ap (λ (ps : List (Option PinRef)). get_or ps v None) ready.linked
      ∙ get_or-map (pin_on d.netlist n.id) (ends_of n.par) v NO_NODE.name None (omega (arith, few, conns))
      ∙ ap (pin_on d.netlist n.id) (end_is n.par v NO_NODE.name few)

  -- the pins of the sinks are those on the net of their names
  pub pins_are : map (λ u. get_or pins (get_or order u 0) None) (sink_nodes n.par order) ≡ map (λ u. pin_on d.netlist n.id (name_at (names_of n.par order) u)) (sink_nodes n.par order)
  pins_are =
      same_map (λ u. get_or pins (get_or order u 0) None) (λ u. pin_on d.netlist n.id (name_at (names_of n.par order) u)) (sink_nodes n.par order)
      (λ k e low.
      let u = get_or (sink_nodes n.par order) k e in
      pin_there (get_or order u 0) (sinks_conns k e low) ∙ ap (pin_on d.netlist n.id) (sym (name_there u (sinks_low k e low))))

  -- there is a sink
  pub sinks_some : (sinks : List (Option Sink)) → sinks ≡ sinks_of d.rows n.par order → 0 < length (filter (is_sink_in sinks) (range_with_len 0 (length sinks)))
  sinks_some sinks is = some_passes sinks (ap (list_any is_some) is ∙ some_sink d n pins tree order ready)
    where
      longer : {X : Type 0} (b : Bool) (x : X) (xs : List X) → 0 < length xs → 0 < length (cond b (x ∷ xs) xs)
      longer true x xs some = omega arith
      longer false x xs some = some

      filled : {X : Type 0} (p : X → Bool) (xs : List X) (k : ℕ) (e : X) → k < length xs → p (get_or xs k e) ≡ true → 0 < length (filter p xs)
      filled p [] k e low passes = omega (arith, low)
      filled p (x ∷ xs) zero e low passes = subst (λ b. 0 < length (cond b (x ∷ filter p xs) (filter p xs))) (sym passes) (omega arith)
      filled p (x ∷ xs) (suc k) e low passes = longer (p x) x (filter p xs) (filled p xs k e (omega (arith, low)) passes)

      some_passes : (xs : List (Option Sink)) → list_any is_some xs ≡ true → 0 < length (filter (is_sink_in xs) (range_with_len 0 (length xs)))
      some_passes xs any =
          let (k, x, low, is, some) = Any-from_list_any is_some xs any in
          let size = length-range_with_len 0 (length xs) in
          let at : get_or (range_with_len 0 (length xs)) k 0 ≡ k = get_or-range_with_len 0 (length xs) k 0 (omega (arith, low, size)) ∙ (omega arith) in
          filled (is_sink_in xs) (range_with_len 0 (length xs)) k 0 (omega (arith, low, size))
          (ap (is_sink_in xs) at ∙ ap is_some (get_or_default xs k None x low ∙ is) ∙ some)

-- the required times of sinks within the limits are small
pub times_small : (d : Design) (par : ParNet) (order : List ℕ) (p : Problem) → p.sinks ≡ sinks_of d.rows par order
    → (i : ℕ) (time : ℤ) → get_or (map (λ u. required_of d.rows (name_at (names_of par order) u)) (sink_nodes par order)) i None ≡ Some time → IsSmall time
times_small d par order p is i time at = elim (cases_lt i (length (sink_nodes par order))) [
  | inl low ↦
      (let u = get_or (sink_nodes par order) i 0 in
      let within = few_pass (λ k. is_sink_node par (get_or order k 0)) (length order) i 0 low in
      let passes = filter_passes (λ k. is_sink_node par (get_or order k 0)) (range_with_len 0 (length order)) i 0 low in
      let there : get_or p.sinks u None ≡ Some (sink_given d.rows (name_of par (get_or order u 0))) =
      ap (λ (sinks : List (Option Sink)). get_or sinks u None) is
      ∙ get_or-map (sink_at d.rows par) order u 0 None within
      ∙ ap (λ b. cond b (Some (sink_given d.rows (name_of par (get_or order u 0)))) None) passes in
      let named : required_of d.rows (name_of par (get_or order u 0)) ≡ Some time =
      ap (required_of d.rows) (sym (get_or-map (name_of par) order u 0 NO_NODE.name within))
      ∙ sym (get_or-map (λ v. required_of d.rows (name_at (names_of par order) v)) (sink_nodes par order) i 0 None low) ∙ at in
      subst IsSmall (ap (λ (o : Option ℤ). unwrap_or o (pos 0)) named) (p.within.times u (sink_given d.rows (name_of par (get_or order u 0))) there))
  | inr past ↦
      (let size = length-map (sink_nodes par order) (λ u. required_of d.rows (name_at (names_of par order) u)) in
      let none = get_or_past (map (λ u. required_of d.rows (name_at (names_of par order) u)) (sink_nodes par order)) i None (omega (arith, size, past)) in
      let clash : None ≡ Some time = sym none ∙ at in
      absurd (cc))
]

-- and no driver or load is too large
pub loads_small : (p : Problem) → IsWithinLimits p.tree.nodes
loads_small p =
    let most = p.within.capacitances in
    record { resistances = p.within.resistances; capacitances = omega (arith, most) }
