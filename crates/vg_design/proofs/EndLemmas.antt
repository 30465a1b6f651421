-- The ends of a net by its parasitics.
use Rattle.std.proofs.Common.{◌≡◌, ◌≢◌, ℕ, zero, suc, ◌+◌, ◌<◌, ◌≤◌, Bool, true, false, List, [], ◌∷◌, ◌++◌, length, take, get_or, refl, sym, ap, ◌∙◌, subst, arith, Some, add-one}
use Rattle.std.proofs.lemmas.List.{take_more, get_or-map, length-map, get_or-take, length-take, get_or_default, take_all}
use Rattle.std.proofs.lemmas.Int.{clamps}
use Rattle.std.proofs.lemmas.Option.{slice_get-get_or, slice_get_within, get_or_from_slice_get}
use Rattle.std.specs.List.{slice_get}
use Rattle.spef_net.specs.declared.net.ConnKind.TheVariants.{Pin}
use Rattle.spef_net.specs.declared.net.Direction.TheVariants.{In}
use Rattle.spef_net.specs.declared.net.ParConn.{ParConn}
use Rattle.spef_net.specs.declared.net.ParNet.{ParNet}
use Rattle.spef_nodes.proofs.NodeListLemmas.{same_is}
use Rattle.spef_nodes.proofs.NodeTableLemmas.{none_has, with_new}
use Rattle.spef_nodes.proofs.ApartLemmas.{apart_if}
use Rattle.spef_nodes.specs.Members.{node_named, with_node, AreApart}
use Rattle.spef_nodes.specs.Nodes.{ParNode}
use Rattle.vg_scan.specs.Nodes.{has_node, same_node}
use Rattle.vg_scan.specs.declared.name.NodeName.{NodeName}
use Rattle.vg_design.specs.Designs.{NO_NODE, ends_of, name_of}

pub NO_CONN : ParConn
NO_CONN = record { kind = Pin; node = 0; direction = In }

-- the node of a connection has its number
pub conn_node : (net : ParNet) (i : ℕ) (conn : ParConn) → i < length net.conns → (get_or net.conns i conn).node ≡ i
conn_node net i conn h = net.sound.joined.numbers i (get_or net.conns i conn) (slice_get-get_or net.conns i conn h)

pub ends_size : (net : ParNet) → length (ends_of net) ≡ length net.conns
ends_size net = length-map net.conns (λ conn. name_of net conn.node)

-- so its name is that of the node of its number
pub end_is : (net : ParNet) (i : ℕ) (d : NodeName) → i < length net.conns → get_or (ends_of net) i d ≡ name_of net i
end_is net i d h =
    get_or-map (λ (conn : ParConn). name_of net conn.node) net.conns i NO_CONN d h ∙ ap (name_of net) (conn_node net i NO_CONN h)

-- no two nodes of a net have one name
pub names_differ : (net : ParNet) (i j : ℕ) → i < j → j < length net.nodes → name_of net i ≢ name_of net j
names_differ net i j h k = net.sound.distinct i j NO_NODE h k

module _ (net : ParNet) (at : ℕ) (h : at < length net.conns) where
  within : at < length net.nodes
  within = omega (arith, h, net.sound.joined.few)

  -- an end before this one
  before : (i : ℕ) (q : NodeName) → slice_get (take at (ends_of net)) i ≡ Some q → (i < at) × (name_of net i ≡ q)
  before i q e =
      let inside = slice_get_within (take at (ends_of net)) i q e in
      let size = length-take at (ends_of net) in
      let low : i < at = omega (arith, clamps, inside, size) in
      (low, sym (end_is net i q (omega (arith, low, h))) ∙ sym (get_or-take at (ends_of net) i q low) ∙ get_or_from_slice_get (take at (ends_of net)) i q q e)

  other : (i : ℕ) (q : NodeName) → slice_get (take at (ends_of net)) i ≡ Some q → (b : Bool) → same_node (name_of net at) q ≡ b → b ≡ false
  other i q e false s = refl
  other i q e true s =
      let is = before i q e in
      absurd (names_differ net i at is.0 within (is.1 ∙ sym (same_is (name_of net at) q s)))

  fresh : has_node (take at (ends_of net)) (name_of net at) ≡ false
  fresh = none_has (take at (ends_of net)) (name_of net at) (λ i q e. other i q e (same_node (name_of net at) q) refl)

  -- one end more in the table
  pub table_more : (table : List NodeName) (owner leaf : List ℕ) → table ≡ take at (ends_of net)
      → ((d : ParNode) → owner ≡ (get_or net.nodes at d).name.owner) → ((d : ParNode) → leaf ≡ (get_or net.nodes at d).name.leaf)
      → with_node table (node_named owner leaf) ≡ take (at + 1) (ends_of net)
  table_more table owner leaf is own_owner own_leaf =
      let name : node_named owner leaf ≡ name_of net at = λ i. record { owner = own_owner NO_NODE i; leaf = own_leaf NO_NODE i } in
      let size = ends_size net in
      (λ i. with_node (is i) (name i))
      ∙ with_new (take at (ends_of net)) (name_of net at) fresh
      ∙ ap (λ (end : NodeName). take at (ends_of net) ++ end ∷ []) (sym (end_is net at (name_of net at) h))
      ∙ sym (take_more (ends_of net) at (name_of net at) (omega (arith, h, size)))

-- the ends of a net are apart
pub ends_apart : (net : ParNet) (n : ℕ) → n ≤ length net.conns → AreApart (take n (ends_of net))
ends_apart net zero h = tt
ends_apart net (suc n) h =
    let low : n < length net.conns = omega (arith, h) in
    let more = table_more net n low (take n (ends_of net)) (name_of net n).owner (name_of net n).leaf refl (λ d. own_owner d low) (λ d. own_leaf d low) in
    subst AreApart (more ∙ ap (λ k. take k (ends_of net)) (add-one n))
    (apart_if (has_node (take n (ends_of net)) (name_of net n)) (take n (ends_of net)) (name_of net n) refl (ends_apart net n (omega (arith, h))))
  where
    own_owner : (d : ParNode) → n < length net.conns → (name_of net n).owner ≡ (get_or net.nodes n d).name.owner
    own_owner d low = ap (λ (x : ParNode). x.name.owner) (get_or_default net.nodes n NO_NODE d (omega (arith, low, net.sound.joined.few)))

    own_leaf : (d : ParNode) → n < length net.conns → (name_of net n).leaf ≡ (get_or net.nodes n d).name.leaf
    own_leaf d low = ap (λ (x : ParNode). x.name.leaf) (get_or_default net.nodes n NO_NODE d (omega (arith, low, net.sound.joined.few)))

pub all_apart : (net : ParNet) → AreApart (ends_of net)
all_apart net = subst AreApart (take_all (length net.conns) (ends_of net) (let size = ends_size net in omega (arith, size))) (ends_apart net (length net.conns) (omega arith))
