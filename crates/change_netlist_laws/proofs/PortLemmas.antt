-- The port of a net that is split stands in the stage that keeps the net's name.
use Rattle.std.proofs.Common.{◌≡◌, ℕ, ◌<◌, ◌==◌, true, List, [], ◌∷◌, length, find, slice_index, refl, sym, ap, ◌∙◌, subst, arith, inl, inr, Option, Some, None}
use Rattle.std.specs.Prelude.{unwrap_or, slice_get}
use Rattle.std.proofs.lemmas.Bool.{eqb-true}
use Rattle.std.proofs.lemmas.Option.{same_Some, slice_get-get_or}
use Rattle.elmore.specs.Path.{nodes}
use Rattle.ver_patch_laws.proofs.RelinkedLemmas.{In}
use Rattle.ver_module.specs.Netlists.{Net}
use Rattle.ver_patch_laws.proofs.SetLemmas.{contains_in}
use Rattle.vg_change.specs.Changes.{Changes}
use Rattle.vg_change.specs.Placed.{PlacedNet, is_old_end, is_port_at, stage_at}
use Rattle.vg_change.proofs.NameLemmas.{found_in}
use Rattle.vg_design.specs.Designs.{Design, IsEnd, IsLinked, IsPort, ends_of, name_of}
use Rattle.vg_design.proofs.EndLemmas.{end_is, ends_size}
use Rattle.vg_num.specs.Number.{are_digits}
use Rattle.vg_scan.specs.declared.name.NodeName.{NodeName}
use Rattle.spef_net.specs.declared.net.ParNet.{ParNet}
use Rattle.spef_nodes.proofs.ApartLemmas.{has_at}
use Rattle.vg_split.specs.Splits.{forest, old_node}
use Rattle.vg_split.proofs.KindLemmas.{Kind, kind, own as own_inner, same_name}
use Rattle.change_netlist_laws.specs.Put.{IsWrittenAnew}
use Rattle.change_netlist_laws.proofs.LinkLemmas.{old_name_in}
use Rattle.change_netlist_laws.proofs.NodeLemmas.{bare_end, conn_of, end_bare, own_stage}
use Rattle.change_netlist_laws.proofs.OwnLemmas.{IsOwn}
use Rattle.change_netlist_laws.proofs.PinLemmas.{find_some, has_pin, linked_name, pin_named}
use Rattle.change_netlist_laws.proofs.PutLemmas.{Placing}
use Rattle.change_netlist_laws.proofs.SameLemmas.{all_connected, is_own, old_name, puts}
use Rattle.change_netlist_laws.proofs.WireLemmas.{in_range, range_in}
use Rattle.change_netlist_laws.proofs.WritesLemmas.{pin_some}
use Rattle.cut_laws.specs.CutNets.{forest_of}

digits_some : (bs : List ℕ) → are_digits bs ≡ true → (length bs == 0) ≡ true → ⊥
digits_some [] e none = absurd (cc)
digits_some (b ∷ bs) e none = let zero = eqb-true (length (b ∷ bs)) 0 none in absurd (omega (arith, zero))

module _ (verilog : List ℕ) (d : Design) (prefix : List ℕ) (nets : List PlacedNet) (c : Changes) (new : List ℕ) (w : IsWrittenAnew verilog d prefix nets c new) where
  -- a pin or a port at a node is an end of the net
  pub node_end : (s : Placing) (i : In s (puts verilog d prefix nets c new w)) (v : ℕ) → v < length s.x.problem.tree.nodes → is_old_end s.x v ≡ true
      → IsEnd d.netlist s.p.net.id (old_node s.x v).name
  node_end s i v low end =
      let o = is_own verilog d prefix nets c new w s i in
      let at = slice_index s.x.order v in
      let conn : at < length s.p.net.par.conns = omega (arith, conn_of s.x o.split v low end, ap (λ (p : ParNet). length p.conns) o.par) in
      let here : slice_get (ends_of s.p.net.par) at ≡ Some (name_of s.p.net.par at)
      = slice_get-get_or (ends_of s.p.net.par) at (name_of s.p.net.par at) (omega (arith, conn, ends_size s.p.net.par))
      ∙ ap Some (end_is s.p.net.par at (name_of s.p.net.par at) conn) in
      subst (IsEnd d.netlist s.p.net.id) (λ j. name_of (sym o.par j) at)
      (((all_connected verilog d prefix nets c new w s i).same (name_of s.p.net.par at)).0 (has_at (ends_of s.p.net.par) at (name_of s.p.net.par at) here))

  -- a linked pin has a leaf
  pub linked_leaf : (id : ℕ) (at : NodeName) → IsLinked d.netlist id at → 0 < length at.leaf
  linked_leaf id at l =
      let h = l.link in
      let named = l.named ∙ pin_named d.netlist l.pin (linked_name d.netlist l.pin _ h) (has_pin d.netlist l.pin _ h) in
      subst (λ (n : NodeName). 0 < length n.leaf) (sym named) (pin_some verilog d.netlist l.pin.instance l.pin.pin h.instance h.pin w.denotes h.is_instance h.is_pin)

  -- a node without a leaf is the port
  bare_leaf : (s : Placing) (i : In s (puts verilog d prefix nets c new w)) (v : ℕ) → v < length s.x.problem.tree.nodes → (length (old_node s.x v).name.leaf == 0) ≡ true
      → is_old_end s.x v ≡ true
  bare_leaf s i v low none = by_kind (kind s.x 0 v)
    where
      o : IsOwn d prefix (length c.cells) s.p s.x
      o = is_own verilog d prefix nets c new w s i

      not_inner : (old_node s.x v).inner ≡ true → ⊥
      not_inner e = digits_some (old_node s.x v).name.leaf (own_inner s.x o.split v low e).digits none

      by_kind : Kind s.x 0 v → is_old_end s.x v ≡ true
      by_kind (Kind.pin p) = absurd (not_inner (o.split.inner v p.celled))
      by_kind (Kind.inner p) = absurd (not_inner p.inner)
      by_kind (Kind.kept p) = bare_end s.x o.split v p.bare p.end

  pub port_of_node : (s : Placing) (i : In s (puts verilog d prefix nets c new w)) (v : ℕ) → v < length s.x.problem.tree.nodes → (length (old_node s.x v).name.leaf == 0) ≡ true
      → IsPort d.netlist s.p.net.id (old_node s.x v).name
  port_of_node s i v low none =
      elim (node_end s i v low (bare_leaf s i v low none)) [
        | inl l ↦ (let zero = eqb-true (length (old_node s.x v).name.leaf) 0 none in absurd (omega (arith, zero, linked_leaf s.p.net.id (old_node s.x v).name l)))
        | inr p ↦ p
      ]

  port_once : (id : ℕ) (a b : NodeName) → IsPort d.netlist id a → IsPort d.netlist id b → a ≡ b
  port_once id a b p q =
      let net : p.net ≡ q.net = same_Some p.net q.net (sym p.is ∙ q.is) in
      p.named ∙ ap (λ (n : Net). record { owner = n.name; leaf = [] }) net ∙ sym q.named

  no_leaf : (id : ℕ) (at : NodeName) → IsPort d.netlist id at → (length at.leaf == 0) ≡ true
  no_leaf id at p = ap (λ (n : NodeName). length n.leaf == 0) p.named

  -- so its stage keeps the name
  pub port_stage : (s : Placing) (i : In s (puts verilog d prefix nets c new w)) (v : ℕ) → v < length s.x.problem.tree.nodes → IsPort d.netlist s.p.net.id (old_node s.x v).name
      → stage_at (forest s.x) v ≡ s.x.keeper
  port_stage s i v low port = by_find (find (is_port_at s.p) (nodes (length s.p.order))) refl
    where
      o : IsOwn d prefix (length c.cells) s.p s.x
      o = is_own verilog d prefix nets c new w s i

      size : length s.p.order ≡ length s.x.problem.tree.nodes
      size = ap (λ (q : PlacedNet). length q.order) o.placed_is ∙ o.split.order.count ∙ sym o.split.tree

      passes : (u : ℕ) → is_port_at s.p u ≡ (length (old_node s.x u).name.leaf == 0)
      passes u = ap (λ (n : NodeName). length n.leaf == 0) (old_name verilog d prefix nets c new w s i u)

      keeper : (u : ℕ) → find (is_port_at s.p) (nodes (length s.p.order)) ≡ Some u → s.x.keeper ≡ stage_at (forest s.x) u
      keeper u e = o.keeper ∙ ap (λ (o : Option ℕ). stage_at (forest_of s.p.problem s.p.cells) (unwrap_or o 0)) e
          ∙ ap (λ (q : PlacedNet). stage_at (forest_of q.problem q.cells) u) o.placed_is

      by_find : (r : Option ℕ) → find (is_port_at s.p) (nodes (length s.p.order)) ≡ r → stage_at (forest s.x) v ≡ s.x.keeper
      by_find None e =
          absurd (find_some (is_port_at s.p) (nodes (length s.p.order)) v (in_range 0 (length s.p.order) v (omega arith) (omega (arith, low, size)))
          (passes v ∙ no_leaf s.p.net.id (old_node s.x v).name port) e)
      by_find (Some u) e =
          let (there, pass) = found_in (is_port_at s.p) (nodes (length s.p.order)) u e in
          let (zero_low, u_high) = range_in 0 (length s.p.order) u (contains_in (nodes (length s.p.order)) u there) in
          let u_low : u < length s.x.problem.tree.nodes = omega (arith, u_high, size) in
          let none = sym (passes u) ∙ pass in
          let names = port_once s.p.net.id (old_node s.x v).name (old_node s.x u).name port (port_of_node s i u u_low none) in
          let (k_low, inside) = own_stage s.x o.split v low in
          let k = stage_at (forest s.x) v in
          let (v_bare, v_end) = end_bare s.x o.split v (bare_leaf s i v low (no_leaf s.p.net.id (old_node s.x v).name port)) in
          let (u_bare, u_end) = end_bare s.x o.split u (bare_leaf s i u u_low none) in
          let one : v ≡ u = same_name s.x o.split k k_low v u low u_low (old_name_in s.x k v v_bare v_end ∙ names ∙ sym (old_name_in s.x k u u_bare u_end)) in
          ap (stage_at (forest s.x)) one ∙ sym (keeper u e)
