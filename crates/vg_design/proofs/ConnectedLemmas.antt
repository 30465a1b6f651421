-- The connections of a net are its ends in the netlist.
use Rattle.std.proofs.Common.{◌≡◌, ◌⊎◌, inl, inr, ℕ, zero, suc, ◌<◌, Bool, true, false, ◌||◌, ◌&&◌, ◌==◌, if◌then◌else◌, List, [], ◌∷◌, length, get_or, refl, sym, ap, ◌∙◌, subst, arith, Option, Some, None, is_some, is_none, option_and_then}
use Rattle.std.proofs.lemmas.Bool.{eqb-true, false≢true}
use Rattle.std.proofs.lemmas.List.{length-map, get_or-map}
use Rattle.std.proofs.lemmas.List.Folds.{Any-from_list_any, list_any_at}
use Rattle.std.proofs.lemmas.Slice.Eq.{bytes_eq-Decides}
use Rattle.std.specs.List.{All, find, list_any, slice_get}
use Rattle.std.specs.Str.{bytes_eq}
use Rattle.spef_net.specs.declared.net.ParConn.{ParConn}
use Rattle.spef_net.specs.declared.net.ParNet.{ParNet}
use Rattle.spef_nodes.proofs.NodeListLemmas.{same_is}
use Rattle.spef_nodes.proofs.NodeTableLemmas.{same_refl}
use Rattle.ver_module.specs.Netlists.{Net}
use Rattle.ver_module.specs.declared.direction.PortDir.{PortDir}
use Rattle.ver_net.proofs.LawLemmas.{pins_are_linked}
use Rattle.ver_net.specs.Connections.{pins_on}
use Rattle.ver_net.specs.declared.pin_ref.PinRef.{PinRef}
use Rattle.vg_scan.specs.Nodes.{has_node, same_node}
use Rattle.vg_scan.specs.declared.name.NodeName.{NodeName}
use Rattle.vg_design.proofs.EndLemmas.{NO_CONN, conn_node, end_is, ends_size}
use Rattle.vg_design.specs.Designs.{Design, Joined, agrees, ends_of, is_port, name_of, pin_name, pin_on, port_of, IsConnected, IsEnd, IsLinked, IsPort}
use Rattle.vg_design.specs.Steps.{AreEnds, AreSame, FindsPins, has_port_end, is_port_end, pin_at, pin_names}

-- what is found passes the test, and is an element
pub record IsFound {X : Type 0} (p : X → Bool) (xs : List X) (x : X) : Type 0 where
  pub place : ℕ
  pub low : place < length xs
  pub is : get_or xs place x ≡ x
  pub passes : p x ≡ true

found_first : {X : Type 0} (p : X → Bool) (x : X) (xs : List X) (y : X) (b : Bool) → p x ≡ b → (find p xs ≡ Some y → IsFound p xs y) → (if b then Some x else find p xs) ≡ Some y → IsFound p (x ∷ xs) y
found_first p x xs y true e more f = (let same : x ≡ y = cc in record { place = 0; low = omega arith; is = same; passes = ap p (sym same) ∙ e })
found_first p x xs y false e more f = (let m = more f in record { place = suc m.place; low = omega (arith, m.low); is = m.is; passes = m.passes })

pub found_is : {X : Type 0} (p : X → Bool) (xs : List X) (y : X) → find p xs ≡ Some y → IsFound p xs y
found_is p [] y e = absurd (cc)
found_is p (x ∷ xs) y e = found_first p x xs y (p x) refl (found_is p xs y) e

-- where an element passes, one is found
find_if : {X : Type 0} (p : X → Bool) (x : X) (xs : List X) (b : Bool) → (b ≡ false → is_some (find p xs) ≡ true) → is_some (if b then Some x else find p xs) ≡ true
find_if p x xs true more = refl
find_if p x xs false more = more refl

some_found : {X : Type 0} (p : X → Bool) (xs : List X) (i : ℕ) (d : X) → i < length xs → p (get_or xs i d) ≡ true → is_some (find p xs) ≡ true
some_found p [] i d h e = absurd (omega arith)
some_found p (x ∷ xs) zero d h e = find_if p x xs (p x) (λ f. absurd (false≢true (sym f ∙ e)))
some_found p (x ∷ xs) (suc i) d h e = find_if p x xs (p x) (λ _. some_found p xs i d (omega (arith, h)) e)

is_some_at : {X : Type 0} (o : Option X) → is_some o ≡ true → (x : X) × (o ≡ Some x)
is_some_at None e = absurd (cc)
is_some_at (Some x) e = (x, refl)

some_is : {X : Type 0} (a b : X) → Some a ≡ Some b → a ≡ b
some_is a b e = cc

and_parts : (a b : Bool) → (a && b) ≡ true → (a ≡ true) × (b ≡ true)
and_parts true b e = (refl, e)
and_parts false b e = absurd (cc)

or_parts : (a b : Bool) → (a || b) ≡ true → (a ≡ true) ⊎ (b ≡ true)
or_parts true b e = inl refl
or_parts false b e = inr e

or_left : (a b : Bool) → a ≡ true → (a || b) ≡ true
or_left true b e = refl
or_left false b e = absurd (cc)

or_right : (a b : Bool) → b ≡ true → (a || b) ≡ true
or_right true b e = refl
or_right false b e = e

no_leaf : (leaf : List ℕ) → (length leaf == 0) ≡ true → leaf ≡ []
no_leaf [] e = refl
no_leaf (x ∷ xs) e = absurd (let zero_is = eqb-true (length (x ∷ xs)) 0 e in omega (arith, zero_is))

-- the name of a port
module _ (port : Net) where
  abbrev port_name : NodeName
  port_name = record { owner = port.name; leaf = [] }

  port_end_is : (at : NodeName) → is_port_end port at ≡ true → ((direction : PortDir) × (port.port ≡ Some direction)) × (at ≡ port_name)
  port_end_is at e =
      let parts = and_parts (is_some port.port) (bytes_eq port.name at.owner && is_port at) e in
      let rest = and_parts (bytes_eq port.name at.owner) (is_port at) parts.1 in
      let owner = sym ((bytes_eq-Decides port.name at.owner).0 rest.0) in
      let leaf = no_leaf at.leaf rest.1 in
      (is_some_at port.port parts.0, λ i. record { owner = owner i; leaf = leaf i })

  end_is_port : (direction : PortDir) → port.port ≡ Some direction → is_port_end port port_name ≡ true
  end_is_port direction e = rw (e, (bytes_eq-Decides port.name port.name).1 refl) refl

module _ (d : Design) (n : Joined) (pins : List (Option PinRef)) (found : FindsPins d n (Some pins)) (port : Net) (here : slice_get d.netlist.nets n.id ≡ Some port) where
  abbrev net : ParNet
  net = n.par

  -- an end of this name
  end_at : (at : NodeName) → has_node (ends_of net) at ≡ true → (i : ℕ) × (i < length net.conns) × (at ≡ name_of net i)
  end_at at e =
      let (k, q, low, is, same) = Any-from_list_any (same_node at) (ends_of net) e in
      let size = ends_size net in
      let within : k < length net.conns = omega (arith, low, size) in
      (k, within, same_is at q same ∙ sym is ∙ end_is net k q within)

  has_end : (i : ℕ) → i < length net.conns → has_node (ends_of net) (name_of net i) ≡ true
  has_end i h =
      let size = ends_size net in
      list_any_at (same_node (name_of net i)) (ends_of net) i (name_of net i) (omega (arith, h, size)) (ap (same_node (name_of net i)) (end_is net i (name_of net i) h) ∙ same_refl (name_of net i))

  -- the pin of a connection
  pin_is : (i : ℕ) → i < length net.conns → pin_at pins i ≡ pin_on d.netlist n.id (name_of net i)
  pin_is i h =
      let size = ends_size net in
      ap (λ (xs : List (Option PinRef)). pin_at xs i) found.0
      ∙ get_or-map (pin_on d.netlist n.id) (ends_of net) i (name_of net i) None (omega (arith, h, size))
      ∙ ap (pin_on d.netlist n.id) (end_is net i (name_of net i) h)

  linked : (at : NodeName) → is_some (pin_on d.netlist n.id at) ≡ true → IsLinked d.netlist n.id at
  linked at e =
      let (pin, is) = is_some_at (pin_on d.netlist n.id at) e in
      let f = found_is (λ p. same_node at (pin_name d.netlist p)) (pins_on d.netlist n.id) pin is in
      record { pin = pin; link = (pins_are_linked d.netlist n.id pin).0 (f.place, f.low, f.is); named = same_is at (pin_name d.netlist pin) f.passes }

  pin_there : (at : NodeName) → IsLinked d.netlist n.id at → is_some (pin_on d.netlist n.id at) ≡ true
  pin_there at l =
      let (k, low, is) = (pins_are_linked d.netlist n.id l.pin).1 l.link in
      some_found (λ p. same_node at (pin_name d.netlist p)) (pins_on d.netlist n.id) k l.pin low
      (ap (λ p. same_node at (pin_name d.netlist p)) is ∙ ap (λ x. same_node x (pin_name d.netlist l.pin)) l.named ∙ same_refl (pin_name d.netlist l.pin))

  linked_end : (at : NodeName) → IsLinked d.netlist n.id at → has_node (ends_of net) at ≡ true
  linked_end at l =
      let (k, low, is) = (pins_are_linked d.netlist n.id l.pin).1 l.link in
      let size = length-map (pins_on d.netlist n.id) (pin_name d.netlist) in
      found.1 at
      (list_any_at (same_node at) (pin_names d n) k at (omega (arith, low, size))
      (ap (same_node at) (get_or-map (pin_name d.netlist) (pins_on d.netlist n.id) k l.pin at low ∙ ap (pin_name d.netlist) is)
      ∙ ap (λ x. same_node x (pin_name d.netlist l.pin)) l.named ∙ same_refl (pin_name d.netlist l.pin)))

  the_port : (at : NodeName) → IsPort d.netlist n.id at → ((direction : PortDir) × (port.port ≡ Some direction)) × (at ≡ port_name port)
  the_port at p =
      let same : p.net ≡ port = some_is p.net port (sym p.is ∙ here) in
      ((p.direction, ap (λ (x : Net). x.port) (sym same) ∙ p.port), p.named ∙ ap (λ (x : Net). port_name x) same)

  -- they are the same ends
  pub same_ends : AreEnds port net pins → has_port_end port net ≡ true → (at : NodeName) → (has_node (ends_of net) at ≡ true → IsEnd d.netlist n.id at) × (IsEnd d.netlist n.id at → has_node (ends_of net) at ≡ true)
  same_ends each some at = (
    λ e.
        let (i, low, is) = end_at at e in
        elim (or_parts (is_some (pin_at pins i)) (is_port_end port (name_of net i)) (each.each i low)) [
          | inl pin ↦ inl (linked at (ap is_some (ap (pin_on d.netlist n.id) is ∙ sym (pin_is i low)) ∙ pin))
          | inr own ↦ (let p = port_end_is port (name_of net i) own in inr (record { net = port; is = here; direction = p.0.0; port = p.0.1; named = is ∙ p.1 }))
        ],
    λ end. elim end [
      | inl l ↦ linked_end at l
      | inr p ↦ (let q = the_port at p in port_there q.0.0 q.0.1 at q.1)
    ],
  )
    where
      port_there : (direction : PortDir) → port.port ≡ Some direction → (at : NodeName) → at ≡ port_name port → has_node (ends_of net) at ≡ true
      port_there direction e at named =
          let any : list_any (λ (conn : ParConn). is_port_end port (name_of net conn.node)) net.conns ≡ true = ap (λ o. is_none o || list_any (λ (conn : ParConn). is_port_end port (name_of net conn.node)) net.conns) (sym e) ∙ some in
          let (k, conn, low, is, own) = Any-from_list_any (λ (conn : ParConn). is_port_end port (name_of net conn.node)) net.conns any in
          let number : conn.node ≡ k = ap (λ (x : ParConn). x.node) (sym is) ∙ conn_node net k conn low in
          let name = (port_end_is port (name_of net conn.node) own).1 in
          ap (has_node (ends_of net)) (named ∙ sym name ∙ ap (name_of net) number) ∙ has_end k low

  pub ends_same : ((at : NodeName) → (has_node (ends_of net) at ≡ true → IsEnd d.netlist n.id at) × (IsEnd d.netlist n.id at → has_node (ends_of net) at ≡ true)) → AreEnds port net pins
  ends_same same = record {
    each = λ i low. elim ((same (name_of net i)).0 (has_end i low)) [
      | inl l ↦ or_left (is_some (pin_at pins i)) (is_port_end port (name_of net i)) (ap is_some (pin_is i low) ∙ pin_there (name_of net i) l)
      | inr p ↦ or_right (is_some (pin_at pins i)) (is_port_end port (name_of net i)) (let q = the_port (name_of net i) p in ap (is_port_end port) q.1 ∙ end_is_port port q.0.0 q.0.1)
    ];
  }

  pub port_same : ((at : NodeName) → (has_node (ends_of net) at ≡ true → IsEnd d.netlist n.id at) × (IsEnd d.netlist n.id at → has_node (ends_of net) at ≡ true)) → has_port_end port net ≡ true
  port_same same = by_port port.port refl
    where
      by_port : (o : Option PortDir) → port.port ≡ o → has_port_end port net ≡ true
      by_port None e = ap (λ o. is_none o || list_any (λ (conn : ParConn). is_port_end port (name_of net conn.node)) net.conns) e
      by_port (Some direction) e =
          let (i, low, is) = end_at (port_name port) ((same (port_name port)).1 (inr (record { net = port; is = here; direction = direction; port = e; named = refl }))) in
          let own : is_port_end port (name_of net (get_or net.conns i NO_CONN).node) ≡ true =
          ap (λ v. is_port_end port (name_of net v)) (conn_node net i NO_CONN low) ∙ ap (is_port_end port) (sym is) ∙ end_is_port port direction e in
          or_right (is_none port.port) (list_any (λ (conn : ParConn). is_port_end port (name_of net conn.node)) net.conns)
          (list_any_at (λ (conn : ParConn). is_port_end port (name_of net conn.node)) net.conns i NO_CONN low own)

  pub connected_is : (AreSame port net pins → IsConnected d.netlist n.id net) × (IsConnected d.netlist n.id net → AreSame port net pins)
  connected_is = (
    λ same. record {
      same = same_ends same.ends same.port_end;
      direction = subst (λ (o : Option PortDir). All (λ (conn : ParConn). agrees o conn.kind conn.direction ≡ true) net.conns) (sym port_is) same.direction;
    },
    λ connected. record {
      direction = subst (λ (o : Option PortDir). All (λ (conn : ParConn). agrees o conn.kind conn.direction ≡ true) net.conns) port_is connected.direction;
      ends = ends_same connected.same;
      port_end = port_same connected.same;
    },
  )
    where
      port_is : port_of d.netlist n.id ≡ port.port
      port_is = ap (option_and_then (λ (x : Net). x.port)) here
