-- The nets of stages have numbers in the new netlist, and the pins on them.
use Rattle.std.proofs.Common.{◌≡◌, ℕ, ◌<◌, ◌==◌, Bool, true, false, List, length, map, slice_index, refl, sym, ap, ◌∙◌, subst, arith, inl, inr, Option, Some}
use Rattle.std.specs.Prelude.{if◌then◌else◌, slice_get, unwrap_or, option_and_then}
use Rattle.std.proofs.lemmas.Bool.{cases_eq, eq-eqb}
use Rattle.std.proofs.lemmas.Option.{same_Some}
use Rattle.spef_net.specs.declared.net.ParNet.{ParNet}
use Rattle.ver_file.specs.Modules.{Denotes}
use Rattle.ver_patch_laws.specs.Links.{NetName, name_of_net}
use Rattle.ver_patch_laws.proofs.RelinkedLemmas.{In}
use Rattle.ver_module.specs.Netlists.{Net, Netlist, net_name}
use Rattle.ver_module.specs.declared.link.Link.TheVariants.{One}
use Rattle.ver_net.specs.Laws.{HasLink}
use Rattle.ver_net.specs.declared.pin_ref.PinRef.{PinRef}
use Rattle.ver_patch_laws.specs.Consistent.{wire_name}
use Rattle.ver_patch_laws.specs.Names.{IsNumbered, name_at}
use Rattle.ver_patch_laws.specs.Renewed.{IsRenewed, new_pin}
use Rattle.ver_patch_laws.proofs.NamedLemmas.{linked_nets_are_there, links_go_by_names, names_determine_nets}
use Rattle.ver_patch_laws.proofs.SetLemmas.{in_flat, in_get}
use Rattle.vg_change.specs.Changes.{Changes}
use Rattle.vg_change.specs.Placed.{PlacedNet, is_old_end, new_cell}
use Rattle.vg_design.specs.Designs.{Design, IsEnd, net_number}
use Rattle.vg_design.proofs.PartLemmas.{root_conn}
use Rattle.vg_split.specs.Splits.{forest, head, net_of, old_node, number_of as cell_number}
use Rattle.vg_split.specs.Stages.{heads, members}
use Rattle.retime_laws.specs.NetlistStages.{stage_number}
use Rattle.change_netlist_laws.specs.Put.{IsWrittenAnew}
use Rattle.change_netlist_laws.proofs.ConsistentLemmas.{name_is, name_numbered, net_is}
use Rattle.change_netlist_laws.proofs.LinkLemmas.{IsPinIn, in_link, link_in}
use Rattle.change_netlist_laws.proofs.NodeLemmas.{conn_end, own_stage, root_stage}
use Rattle.change_netlist_laws.proofs.OwnLemmas.{all_come}
use Rattle.change_netlist_laws.proofs.PinLemmas.{on_is}
use Rattle.change_netlist_laws.proofs.PortLemmas.{node_end, port_stage}
use Rattle.change_netlist_laws.proofs.PutLemmas.{Placing, cells_by}
use Rattle.change_netlist_laws.proofs.RewiredLemmas.{StandsIn, put_there}
use Rattle.change_netlist_laws.proofs.SameLemmas.{IsSame, is_own, old_name, puts, same_stage}
use Rattle.change_netlist_laws.proofs.WireLemmas.{stage_name}
use Rattle.vg_split.specs.NewNames.{net_name as new_net_name}

module _ (verilog : List ℕ) (d : Design) (prefix : List ℕ) (nets : List PlacedNet) (c : Changes) (new : List ℕ) (w : IsWrittenAnew verilog d prefix nets c new) where
  abbrev pub among : Placing → Type 0
  among s = In s (puts verilog d prefix nets c new w)

  -- the cell at which a stage begins, by its number
  pub record PutCell (s : Placing) (j : ℕ) : Type 0 where
    pub m : ℕ
    pub get : slice_get c.cells m ≡ Some (new_cell d.netlist s.p.net.id s.x j)

  pub put_cell : (s : Placing) → among s → (j : ℕ) → 0 < j → j < length (heads (forest s.x)) → PutCell s j
  put_cell s i j some low =
      let cell = new_cell d.netlist s.p.net.id s.x j in
      let (m, e) = in_get c.cells cell
      (subst (In cell) (sym (all_come verilog d prefix nets c new w).cells) (in_flat (cells_by d prefix) (puts verilog d prefix nets c new w) s cell i (put_there d.netlist s.p s.x j some low))) in
      record { m = m; get = e }

  -- the driver is a pin or the port
  root_end : (s : Placing) → among s → is_old_end s.x 0 ≡ true
  root_end s i =
      let o = is_own verilog d prefix nets c new w s i in
      let conn = root_conn d o.net.posed.ready.pinned.net o.net.posed.ready.pinned.pins o.net.posed.ready.tree.nodes o.net.posed.ready.order o.net.net.ready in
      conn_end s.x o.split 0
      (omega (
        arith,
        conn,
        ap (λ (q : PlacedNet). slice_index q.order 0) o.placed_is,
        ap (λ (q : PlacedNet). slice_index q.order 0) o.net.is,
        ap (λ (q : PlacedNet). length q.net.par.conns) o.net.is,
        ap (λ (q : ParNet). length q.conns) o.par,
      ))

  -- the name of a stage's net, as it is written
  pub written : (s : Placing) → among s → (k : ℕ) → net_name (stage_name d.netlist s.p.net.id s.x k).base (stage_name d.netlist s.p.net.id s.x k).bit ≡ net_of s.x k
  written s i k = by_keeper (k == s.x.keeper) refl
    where
      by_keeper : (b : Bool) → (k == s.x.keeper) ≡ b
          → net_name (if b then name_at d.netlist s.p.net.id else wire_name (net_of s.x k)).base (if b then name_at d.netlist s.p.net.id else wire_name (net_of s.x k)).bit ≡ net_of s.x k
      by_keeper true e =
          let net = net_is verilog d prefix nets c new w s i in
          ap (λ (n : NetName). net_name n.base n.bit) (name_is verilog d prefix nets c new w s i) ∙ sym net.said ∙ net.named
          ∙ ap (λ (p : ParNet). p.name) (sym (is_own verilog d prefix nets c new w s i).par)
          ∙ sym (ap (λ (b : Bool). if b then s.x.par.name else new_net_name s.x.prefix
          (cell_number s.x (if k == 0 then s.x.keeper else k))) e)
      by_keeper false e = refl

  module _ (renewed : Netlist) (now : Denotes new renewed) (r : IsRenewed d.netlist c.rewires c.cells renewed) where
    record HasNumber (s : Placing) (k : ℕ) : Type 0 where
      id : ℕ
      number : IsNumbered renewed id (stage_name d.netlist s.p.net.id s.x k)

    from_pin : (s : Placing) → among s → (k : ℕ) (at : PinRef) → k < length (heads (forest s.x)) → IsPinIn verilog d prefix nets c new w s k at → HasNumber s k
    from_pin s i k at low is =
        let (id, e) = linked_nets_are_there new renewed at (stage_name d.netlist s.p.net.id s.x k) now (in_link verilog d prefix nets c new w renewed r s i k at low is) in
        record { id = id; number = e }

    root_number : (s : Placing) → among s → 0 < length (heads (forest s.x)) → IsEnd d.netlist s.p.net.id (old_node s.x 0).name → HasNumber s 0
    root_number s i low (inl l) =
        let o = is_own verilog d prefix nets c new w s i in
        let (s_low, inside) = own_stage s.x o.split 0 s.x.problem.tree.a_tree.some_node in
        let there = subst (λ k. In 0 (members (forest s.x) (head s.x k))) (root_stage s.x o.split) inside in
        let stands : StandsIn d.netlist s.p s.x 0 l.pin = record {
          w = 0;
          end = root_end s i;
          inside = there;
          pin = on_is d.netlist s.p.net.id verilog w.denotes _ l.pin l.link (old_name verilog d prefix nets c new w s i 0 ∙ l.named);
        } in
        from_pin s i 0 l.pin low (IsPinIn.stands stands)
    root_number s i low (inr p) =
        let o = is_own verilog d prefix nets c new w s i in
        let keeper : 0 ≡ s.x.keeper = sym (root_stage s.x o.split) ∙ port_stage verilog d prefix nets c new w s i 0 s.x.problem.tree.a_tree.some_node p in
        let same : (0 == s.x.keeper) ≡ true = eq-eqb 0 s.x.keeper keeper in
        let q = (r.ports (name_at d.netlist s.p.net.id) p.direction).0 (record {
          net = s.p.net.id;
          number = name_numbered verilog d prefix nets c new w s i;
          port = ap (option_and_then (λ (n : Net). n.port)) p.is ∙ p.port;
        }) in
        record { id = q.net; number = subst (λ (b : Bool). IsNumbered renewed q.net (if b then name_at d.netlist s.p.net.id else wire_name (net_of s.x 0))) (sym same) q.number }

    has_number : (s : Placing) → among s → (k : ℕ) → k < length (heads (forest s.x)) → HasNumber s k
    has_number s i k low = elim (cases_eq k 0) [
      | inl e ↦
          let root_low : 0 < length (heads (forest s.x)) = omega (arith, low) in
          subst (HasNumber s) (sym e) (root_number s i root_low (node_end verilog d prefix nets c new w s i 0 s.x.problem.tree.a_tree.some_node (root_end s i)))
      | inr other ↦
          let some : 0 < k = omega (arith, other) in
          let cell = put_cell s i k some low in
          from_pin s i k (new_pin d.netlist cell.m 1) low (IsPinIn.leaves cell.m some cell.get refl)
    ]

    pub record IsStageNumber (s : Placing) (k : ℕ) : Type 0 where
      pub named : net_number renewed (net_of s.x k) ≡ Some (stage_number s.x renewed k)
      pub number : IsNumbered renewed (stage_number s.x renewed k) (stage_name d.netlist s.p.net.id s.x k)

    pub numbered : (s : Placing) → among s → (k : ℕ) → k < length (heads (forest s.x)) → IsStageNumber s k
    numbered s i k low =
        let h = has_number s i k low in
        let at : net_number renewed (net_of s.x k) ≡ Some h.id
        = ap (net_number renewed) (sym (written s i k)) ∙ names_determine_nets new renewed h.id (stage_name d.netlist s.p.net.id s.x k) now h.number in
        let is : stage_number s.x renewed k ≡ h.id = ap (λ (o : Option ℕ). unwrap_or o 0) at in
        record { named = at ∙ ap Some (sym is); number = subst (λ id. IsNumbered renewed id (stage_name d.netlist s.p.net.id s.x k)) (sym is) h.number }

    -- ---- the pins on it

    pub pin_linked : (s : Placing) → among s → (k : ℕ) (at : PinRef) → k < length (heads (forest s.x)) → IsPinIn verilog d prefix nets c new w s k at → HasLink renewed at (One (stage_number s.x renewed k))
    pin_linked s i k at low is =
        (links_go_by_names new renewed at (stage_number s.x renewed k) (stage_name d.netlist s.p.net.id s.x k) now (numbered s i k low).number).1 (in_link verilog d prefix nets c new w renewed r s i k at low is)

    pub linked_pin : (s : Placing) → among s → (k : ℕ) (at : PinRef) → k < length (heads (forest s.x)) → HasLink renewed at (One (stage_number s.x renewed k)) → IsPinIn verilog d prefix nets c new w s k at
    linked_pin s i k at low h =
        link_in verilog d prefix nets c new w renewed r s i k at low
        ((links_go_by_names new renewed at (stage_number s.x renewed k) (stage_name d.netlist s.p.net.id s.x k) now (numbered s i k low).number).0 h)

    pub numbers_differ : (s t : Placing) → among s → among t → (k u : ℕ) → k < length (heads (forest s.x)) → u < length (heads (forest t.x)) → stage_number s.x renewed k ≡ stage_number t.x renewed u
        → IsSame verilog d prefix nets c new w s t k u
    numbers_differ s t i j k u k_low u_low e =
        same_stage verilog d prefix nets c new w s t i j k u k_low u_low
        (same_Some _ _ (sym (numbered s i k k_low).number ∙ ap (λ id. slice_get (map name_of_net renewed.nets) id) e ∙ (numbered t j u u_low).number))
