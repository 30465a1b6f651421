-- The net of a stage is that of no other stage, by its name; and each pin on a net that is split stands in one of its
-- stages.
use Rattle.std.proofs.Common.{◌≡◌, ◌≢◌, ℕ, suc, ◌<◌, ◌==◌, Bool, true, false, List, [], ◌∷◌, length, map, get_or, slice_index, refl, sym, ap, ◌∙◌, subst, arith, inl}
use Rattle.std.specs.Prelude.{if◌then◌else◌}
use Rattle.std.specs.List.{AllPairs}
use Rattle.std.proofs.lemmas.Bool.{eq-eqb, eqb-true}
use Rattle.std.proofs.lemmas.List.Folds.{Any-from_list_any}
use Rattle.std.proofs.lemmas.Option.{same_Some}
use Rattle.ver_patch_laws.specs.Links.{NetName}
use Rattle.ver_patch_laws.proofs.RelinkedLemmas.{In}
use Rattle.ver_module.specs.declared.link.Link.TheVariants.{One}
use Rattle.ver_net.specs.Laws.{HasLink}
use Rattle.ver_net.specs.declared.pin_ref.PinRef.{PinRef}
use Rattle.ver_patch_laws.specs.Consistent.{wire_name}
use Rattle.ver_patch_laws.specs.Names.{IsNumbered, name_at}
use Rattle.ver_patch_laws.proofs.AlikeLemmas.{wires_are_new}
use Rattle.ver_patch_laws.proofs.ApartLemmas.{Apart}
use Rattle.ver_patch_laws.proofs.NamedLemmas.{names_determine_nets}
use Rattle.ver_patch_laws.proofs.SetLemmas.{in_contains, in_mapped}
use Rattle.vg_change.specs.Changes.{Changes}
use Rattle.vg_change.specs.Placed.{PlacedNet, is_old_end, stage_at}
use Rattle.vg_design.specs.Designs.{Design, IsConnected, Joined, ends_of, name_of, pin_name, IsEnd}
use Rattle.vg_design.proofs.EndLemmas.{end_is, ends_size}
use Rattle.vg_scan.specs.Nodes.{same_node}
use Rattle.vg_scan.specs.declared.name.NodeName.{NodeName}
use Rattle.spef_net.specs.declared.net.ParNet.{ParNet}
use Rattle.spef_nodes.proofs.NodeListLemmas.{same_is}
use Rattle.vg_split.specs.NewNames.{net_name}
use Rattle.vg_split.specs.Splits.{forest, net_of, number_of, old_node}
use Rattle.vg_split.specs.Stages.{heads}
use Rattle.spef_write.specs.Sections.{NO_NODE}
use Rattle.change_netlist_laws.specs.Put.{IsWrittenAnew}
use Rattle.change_netlist_laws.proofs.ConsistentLemmas.{consistent, name_numbered, net_is, wire_there}
use Rattle.change_netlist_laws.proofs.EndLemmas.{connected}
use Rattle.change_netlist_laws.proofs.NewNameLemmas.{one_net}
use Rattle.change_netlist_laws.proofs.NodeLemmas.{IsNodeOf, node_of, own_stage}
use Rattle.change_netlist_laws.proofs.OldLemmas.{IsNetOf}
use Rattle.change_netlist_laws.proofs.OwnLemmas.{IsOwn, own}
use Rattle.change_netlist_laws.proofs.PinLemmas.{on_is}
use Rattle.change_netlist_laws.proofs.PutLemmas.{Placing, ids, one_id, one_number, placings}
use Rattle.change_netlist_laws.proofs.RewiredLemmas.{StandsIn}
use Rattle.change_netlist_laws.proofs.WireLemmas.{stage_name, wire_fits, wire_is, wire_stage, wire_within}
use Rattle.name_tables.specs.Distinct.{number_of as place_of}
use Rattle.ver_module.specs.Netlists.{Net, net_name as written_name}

abbrev Differ : PlacedNet → PlacedNet → Type 0
Differ p q = p.net.id ≢ q.net.id

apart_ids : (d : Design) (prefix : List ℕ) (nets : List PlacedNet) → AllPairs Differ nets → Apart (ids d prefix nets)
apart_ids d prefix [] pairs = tt
apart_ids d prefix (p ∷ nets) pairs = (
  λ i. (let (q, j, e) = in_mapped (λ (q : PlacedNet). q.net.id) nets p.net.id i in
      let (k, low, at) = in_contains nets q j in
      pairs 0 (suc k) q (omega arith) (omega (arith, low)) (first q ∙ e ∙ ap (λ (r : PlacedNet). r.net.id) (sym at))),
  apart_ids d prefix nets (λ i j q less low. pairs (suc i) (suc j) q (omega (arith, less)) (omega (arith, low))),
)
  where
    first : (q : PlacedNet) → (get_or (p ∷ nets) 0 q).net.id ≡ p.net.id
    first q = refl

module _ (verilog : List ℕ) (d : Design) (prefix : List ℕ) (nets : List PlacedNet) (c : Changes) (new : List ℕ) (w : IsWrittenAnew verilog d prefix nets c new) where
  abbrev pub puts : List Placing
  puts = placings d prefix 0 nets

  abbrev pub is_own : (s : Placing) → In s puts → IsOwn d prefix (length c.cells) s.p s.x
  is_own s i = own verilog d prefix nets c new w s i

  pub same_id : (s t : Placing) → In s puts → In t puts → s.p.net.id ≡ t.p.net.id → s ≡ t
  same_id s t i j e = one_id d prefix nets 0 s t (apart_ids d prefix nets w.differ) i j e

  -- no new wire is a net of the netlist
  pub not_old : (s : Placing) → In s puts → (k : ℕ) → k < length (heads (forest s.x)) → (k == s.x.keeper) ≡ false → (id : ℕ) → IsNumbered d.netlist id (wire_name (net_of s.x k)) → ⊥
  not_old s i k low other id e =
      wires_are_new d.netlist c.rewires c.cells c.wires (net_of s.x k) id (consistent verilog d prefix nets c new w)
      (in_contains c.wires (net_of s.x k) (wire_there verilog d prefix nets c new w s i k low other)) e

  -- ---- one name, one stage

  same_placing : (s t : Placing) → In s puts → In t puts → (k u : ℕ) → k < length (heads (forest s.x)) → u < length (heads (forest t.x))
      → stage_name d.netlist s.p.net.id s.x k ≡ stage_name d.netlist t.p.net.id t.x u → s ≡ t
  same_placing s t i j k u k_low u_low = by_keeper (k == s.x.keeper) (u == t.x.keeper) refl refl
    where
      a : IsOwn d prefix (length c.cells) s.p s.x
      a = is_own s i

      b : IsOwn d prefix (length c.cells) t.p t.x
      b = is_own t j

      by_keeper : (x y : Bool) → (k == s.x.keeper) ≡ x → (u == t.x.keeper) ≡ y
          → (if x then name_at d.netlist s.p.net.id else wire_name (net_of s.x k)) ≡ (if y then name_at d.netlist t.p.net.id else wire_name (net_of t.x u)) → s ≡ t
      by_keeper true true e f g =
          same_id s t i j
          (same_Some s.p.net.id t.p.net.id
          (sym (names_determine_nets verilog d.netlist s.p.net.id (name_at d.netlist s.p.net.id) w.denotes (name_numbered verilog d prefix nets c new w s i))
          ∙ ap (λ (n : NetName). place_of (map (λ (m : Net). m.name) d.netlist.nets) (written_name n.base n.bit)) g
          ∙ names_determine_nets verilog d.netlist t.p.net.id (name_at d.netlist t.p.net.id) w.denotes (name_numbered verilog d prefix nets c new w t j)))
      by_keeper true false e f g =
          absurd (not_old t j u u_low f s.p.net.id (subst (IsNumbered d.netlist s.p.net.id) g (name_numbered verilog d prefix nets c new w s i)))
      by_keeper false true e f g =
          absurd (not_old s i k k_low e t.p.net.id (subst (IsNumbered d.netlist t.p.net.id) (sym g) (name_numbered verilog d prefix nets c new w t j)))
      by_keeper false false e f g =
          let (k_some, k_high) = wire_within s.x a.split k k_low e in
          let (u_some, u_high) = wire_within t.x b.split u u_low f in
          let m = number_of s.x (wire_stage s.x k) in
          let n = number_of t.x (wire_stage t.x u) in
          let names : net_name prefix m ≡ net_name prefix n
          = ap (λ q. net_name q m) (sym a.prefix_is) ∙ sym (wire_is s.x a.split k k_low e) ∙ ap (λ (n : NetName). n.base) g ∙ wire_is t.x b.split u u_low f ∙ ap (λ q. net_name q n) b.prefix_is in
          let same : m ≡ n = one_net prefix m n (wire_fits s.x a.split k k_low e) (wire_fits t.x b.split u u_low f) names in
          one_number d prefix nets 0 m s t i j (omega arith) (omega (arith, k_some, k_high)) (omega (arith, same)) (omega (arith, same, u_some, u_high))

  same_in : (s : Placing) → In s puts → (k u : ℕ) → k < length (heads (forest s.x)) → u < length (heads (forest s.x))
      → stage_name d.netlist s.p.net.id s.x k ≡ stage_name d.netlist s.p.net.id s.x u → k ≡ u
  same_in s i k u k_low u_low = by_keeper (k == s.x.keeper) (u == s.x.keeper) refl refl
    where
      a : IsOwn d prefix (length c.cells) s.p s.x
      a = is_own s i

      by_keeper : (x y : Bool) → (k == s.x.keeper) ≡ x → (u == s.x.keeper) ≡ y
          → (if x then name_at d.netlist s.p.net.id else wire_name (net_of s.x k)) ≡ (if y then name_at d.netlist s.p.net.id else wire_name (net_of s.x u)) → k ≡ u
      by_keeper true true e f g = eqb-true k s.x.keeper e ∙ sym (eqb-true u s.x.keeper f)
      by_keeper true false e f g =
          absurd (not_old s i u u_low f s.p.net.id (subst (IsNumbered d.netlist s.p.net.id) g (name_numbered verilog d prefix nets c new w s i)))
      by_keeper false true e f g =
          absurd (not_old s i k k_low e s.p.net.id (subst (IsNumbered d.netlist s.p.net.id) (sym g) (name_numbered verilog d prefix nets c new w s i)))
      by_keeper false false e f g =
          let (k_some, k_high) = wire_within s.x a.split k k_low e in
          let (u_some, u_high) = wire_within s.x a.split u u_low f in
          let m = number_of s.x (wire_stage s.x k) in
          let n = number_of s.x (wire_stage s.x u) in
          let names : net_name s.x.prefix m ≡ net_name s.x.prefix n
          = sym (wire_is s.x a.split k k_low e) ∙ ap (λ (n : NetName). n.base) g ∙ wire_is s.x a.split u u_low f in
          let same : m ≡ n = one_net s.x.prefix m n (wire_fits s.x a.split k k_low e) (wire_fits s.x a.split u u_low f) names in
          let stages : wire_stage s.x k ≡ wire_stage s.x u = omega (arith, same, k_some, u_some) in
          by_root (k == 0) (u == 0) refl refl e f stages
        where
          by_root : (x y : Bool) → (k == 0) ≡ x → (u == 0) ≡ y → (k == s.x.keeper) ≡ false → (u == s.x.keeper) ≡ false
              → (if x then s.x.keeper else k) ≡ (if y then s.x.keeper else u) → k ≡ u
          by_root true true p q e f g = eqb-true k 0 p ∙ sym (eqb-true u 0 q)
          by_root true false p q e f g = absurd (let h : (u == s.x.keeper) ≡ true = eq-eqb u s.x.keeper (sym g) in cc)
          by_root false true p q e f g = absurd (let h : (k == s.x.keeper) ≡ true = eq-eqb k s.x.keeper g in cc)
          by_root false false p q e f g = g

  pub record IsSame (s t : Placing) (k u : ℕ) : Type 0 where
    pub placing : s ≡ t
    pub stage : k ≡ u

  pub same_stage : (s t : Placing) → In s puts → In t puts → (k u : ℕ) → k < length (heads (forest s.x)) → u < length (heads (forest t.x))
      → stage_name d.netlist s.p.net.id s.x k ≡ stage_name d.netlist t.p.net.id t.x u → IsSame s t k u
  same_stage s t i j k u k_low u_low e =
      let same = same_placing s t i j k u k_low u_low e in
      record {
        placing = same;
        stage = subst (λ (r : Placing). u < length (heads (forest r.x)) → stage_name d.netlist s.p.net.id s.x k ≡ stage_name d.netlist r.p.net.id r.x u → k ≡ u) same
            (λ low f. same_in s i k u k_low low f) u_low e;
      }

  -- ---- pins

  pub all_connected : (s : Placing) → In s puts → IsConnected d.netlist s.p.net.id s.p.net.par
  all_connected s i =
      let o = (is_own s i).net in
      let is : s.p.net ≡ o.posed.ready.pinned.net = ap (λ (q : PlacedNet). q.net) o.is in
      let of : IsNetOf d.netlist o.posed.ready.pinned.net = subst (IsNetOf d.netlist) is (net_is verilog d prefix nets c new w s i) in
      subst (λ (n : Joined). IsConnected d.netlist n.id n.par) (sym is)
      (connected d o.name o.posed.ready.pinned.net o.net.joined o.net.accepted o.posed.ready.pinned.pins o.net.ready.linked of)

  -- the name of the net's node
  pub old_name : (s : Placing) (i : In s puts) (v : ℕ) → name_of s.p.net.par (slice_index s.p.order v) ≡ (old_node s.x v).name
  old_name s i v =
      let o = is_own s i in
      (λ j. (get_or (sym o.par j).nodes (slice_index (ap (λ (q : PlacedNet). q.order) o.placed_is j) v) NO_NODE).name)

  -- a pin on the net stands in a stage
  pub record Stands (s : Placing) (at : PinRef) : Type 0 where
    pub k : ℕ
    pub low : k < length (heads (forest s.x))
    pub stands : StandsIn d.netlist s.p s.x k at

  -- an end of the net is at a node
  pub end_node : (s : Placing) (i : In s puts) (at : NodeName) → IsEnd d.netlist s.p.net.id at
      → (v : ℕ) × (v < length s.x.problem.tree.nodes) × (is_old_end s.x v ≡ true) × (at ≡ (old_node s.x v).name)
  end_node s i at end =
      let o = is_own s i in
      let has = ((all_connected s i).same at).1 end in
      let (v, q, low, is, same) = Any-from_list_any (same_node at) (ends_of s.p.net.par) has in
      let v_low : v < length s.p.net.par.conns = omega (arith, low, ends_size s.p.net.par) in
      let named : at ≡ name_of s.p.net.par v = same_is at q same ∙ sym is ∙ end_is s.p.net.par v q v_low in
      let n : IsNodeOf s.x o.split v = node_of s.x o.split v (omega (arith, v_low, ap (λ (p : ParNet). length p.conns) o.par)) in
      (n.w, n.low, n.end, named ∙ (λ j. name_of (sym o.par j) (sym n.at j)))

  pub pin_stands : (s : Placing) (i : In s puts) (at : PinRef) → HasLink d.netlist at (One s.p.net.id) → Stands s at
  pin_stands s i at h =
      let o = is_own s i in
      let (v, v_low, end, named) = end_node s i (pin_name d.netlist at) (inl (record { pin = at; link = h; named = refl })) in
      let (low, inside) = own_stage s.x o.split v v_low in
      record {
        k = stage_at (forest s.x) v;
        low = low;
        stands = record { w = v; end = end; inside = inside; pin = on_is d.netlist s.p.net.id verilog w.denotes _ at h (old_name s i v ∙ sym named) };
      }
