-- The nodes of a builder: each stands once, and those of the connections stand first.
use Rattle.std.proofs.Common.{◌≡◌, ◌≢◌, ℕ, zero, suc, ◌<◌, ◌≤◌, ◌||◌, not, take, drop, Bool, true, false, cond, List, [], ◌∷◌, ◌++◌, map, length, get_or, refl, sym, ap, ◌∙◌, arith, subst, append_assoc, length-append, Option, Some, None, Ok, Err, is_some}
use Rattle.std.proofs.lemmas.List.{length-map, map-append, append-nil}
use Rattle.std.proofs.lemmas.List.Elements.{filter_map-append}
use Rattle.std.proofs.lemmas.List.Sums.{fold-append}
use Rattle.std.proofs.lemmas.Option.{slice_get-get_or, slice_get_within, same_Some}
use Rattle.std.specs.List.{All, AllPairs, slice_get, fold, flat_map, cons_option}
use Rattle.vg_scan.specs.declared.name.NodeName.{NodeName}
use Rattle.vg_scan.specs.Nodes.{same_node, has_node, node_value}
use Rattle.spef_nodes.specs.Members.{with_node, distinct, AreApart, is_inner}
use Rattle.spef_nodes.specs.Nodes.{ParNode, Note, note_at, noted, noted_all, is_joined}
use Rattle.spef_nodes.proofs.NodeListLemmas.{same_is, slice_get-with_node}
use Rattle.spef_nodes.proofs.ApartLemmas.{one_number, apart_fold, has_at}
use Rattle.spef_net.specs.declared.net.ConnKind.{ConnKind}
use Rattle.spef_net.specs.declared.net.Direction.{Direction}
use Rattle.spef_net.specs.declared.net.ParConn.{ParConn}
use Rattle.spef_net.specs.declared.fault.NetKind.{NetKind}
use Rattle.spef_net.specs.declared.fault.NetKind.TheVariants.{Conn}
use Rattle.spef_nodes.specs.Names.{is_own}
use Rattle.spef_net.specs.Statements.{Stated, Opens, Nothing, Connects, Star, Ground, Coupling, Resistor, is_at}
use Rattle.spef_net.specs.Rows.{joined_in, joined_of, connected_of, conns_of, named_in}
use Rattle.spef_net.specs.Faults.{fault_of, IsFaultless}
use Rattle.spef_net.specs.Denoted.{conn_at, AreConns}
use Rattle.spef_net.specs.Builders.{PartialNet, IsPartialNet}
use Rattle.spef_net.specs.Nets.{AreJoined, IsInside}
use Rattle.spef_net.proofs.FinishLemmas.{note_later}
use Rattle.spef_net.proofs.NotedLemmas.{joined_is}
use Rattle.spef_net.proofs.SizeLemmas.{list_eq}

-- as many nodes as names
pub length-noted : (names : List NodeName) (notes : List Note) → length (noted_all names notes) ≡ length names
unfolding noted_all
length-noted [] notes = refl
length-noted (name ∷ names) notes = ap suc (length-noted names (drop 1 notes))

-- the node at a place, with what is noted of it
pub record IsNotedAt (names : List NodeName) (notes : List Note) (i : ℕ) (node : ParNode) : Type 0 where
  pub name : NodeName
  pub at : slice_get names i ≡ Some name
  pub is : node ≡ noted name (note_at notes i)

pub noted_at : (names : List NodeName) (notes : List Note) (i : ℕ) (node : ParNode) → slice_get (noted_all names notes) i ≡ Some node → IsNotedAt names notes i node
unfolding noted_all
noted_at [] notes i node e = absurd (cc)
noted_at (name ∷ names) notes zero node e = record { name = name; at = refl; is = sym (same_Some _ _ e) }
noted_at (name ∷ names) notes (suc i) node e =
    let h = noted_at names (drop 1 notes) i node e in
    record { name = h.name; at = h.at; is = h.is ∙ ap (noted h.name) (note_later notes i) }

pub all_from : {X : Type 0} (P : X → Type 0) (xs : List X) → ((i : ℕ) (x : X) → slice_get xs i ≡ Some x → P x) → All P xs
all_from P xs h = λ k d l. h k (get_or xs k d) (slice_get-get_or xs k d l)

-- a node is among the connections where it has their note
has_joined : (js : List (NodeName × List ℕ)) (node : NodeName) → has_node (map (λ row. row.0) js) node ≡ is_some (node_value js node)
has_joined [] node = refl
has_joined (row ∷ js) node = step (same_node node row.0) (has_joined js node)
  where
    step : (b : Bool) → has_node (map (λ row. row.0) js) node ≡ is_some (node_value js node) → (b || has_node (map (λ row. row.0) js) node) ≡ is_some (cond b (Some row.1) (node_value js node))
    step true e = refl
    step false e = e

-- a node of a list has a place there
record HasPlace (xs : List NodeName) (node : NodeName) : Type 0 where
  at : ℕ
  is : slice_get xs at ≡ Some node

place_more : (x : NodeName) (xs : List NodeName) (node : NodeName) (b : Bool) → same_node node x ≡ b → (has_node xs node ≡ true → HasPlace xs node) → (b || has_node xs node) ≡ true → HasPlace (x ∷ xs) node
place_more x xs node true s later f = record { at = 0; is = ap Some (sym (same_is node x s)) }
place_more x xs node false s later f = (let p = later f in record { at = suc p.at; is = p.is })

place_of : (xs : List NodeName) (node : NodeName) → has_node xs node ≡ true → HasPlace xs node
place_of [] node e = absurd (cc)
place_of (x ∷ xs) node e = place_more x xs node (same_node node x) refl (place_of xs node) e

-- places stay where nodes are added
kept : (ys xs : List NodeName) (i : ℕ) (x : NodeName) → slice_get xs i ≡ Some x → slice_get (fold with_node xs ys) i ≡ Some x
kept [] xs i x e = e
kept (y ∷ ys) xs i x e = kept ys (with_node xs y) i x (slice_get-with_node xs y i x e)

with_if : (t : Bool) (nodes : List NodeName) (node : NodeName) → length nodes ≤ length (cond t nodes (nodes ++ node ∷ []))
with_if true nodes node = omega arith
with_if false nodes node = omega (arith, length-append nodes (node ∷ []))

fold_more : (ys xs : List NodeName) → length xs ≤ length (fold with_node xs ys)
fold_more [] xs = omega arith
fold_more (y ∷ ys) xs = omega (arith, with_if (has_node xs y) xs y, fold_more ys (with_node xs y))

-- the connections of faultless lines are at nodes of their own
new_if : (t : Bool) (nodes : List NodeName) (node : NodeName) → t ≡ false → cond t nodes (nodes ++ node ∷ []) ≡ nodes ++ node ∷ []
new_if t nodes node e = ap (λ b. cond b nodes (nodes ++ node ∷ [])) e

taken_if : (a b : Bool) → ◌≡◌ {A = Option NetKind} (cond (a || b) (Some Conn) None) None → a ≡ false
taken_if true b e = absurd (cc)
taken_if false b e = refl

-- one line more
once_more : (connected : List NodeName) (net : List ℕ) (before : List Stated) (line : Stated) → fault_of connected net before line ≡ None
    → fold with_node (connected_of before) (map (λ row. row.0) (cons_option (joined_in line) [])) ≡ connected_of before ++ map (λ row. row.0) (cons_option (joined_in line) [])
unfolding fault_of
once_more connected net before (Err kind) e = absurd (cc)
once_more connected net before (Ok (Opens part)) e = sym (append-nil (connected_of before))
once_more connected net before (Ok Nothing) e = sym (append-nil (connected_of before))
once_more connected net before (Ok (Connects kind way node note)) e =
    new_if (has_node (connected_of before) node) (connected_of before) node (has_joined (joined_of before) node ∙ taken_if (is_some (node_value (joined_of before) node)) _ e)
once_more connected net before (Ok (Star node note)) e = sym (append-nil (connected_of before))
once_more connected net before (Ok (Ground node value)) e = sym (append-nil (connected_of before))
once_more connected net before (Ok (Coupling a b value)) e = sym (append-nil (connected_of before))
once_more connected net before (Ok (Resistor a b value)) e = sym (append-nil (connected_of before))

connected-last : (before : List Stated) (line : Stated) → connected_of (before ++ line ∷ []) ≡ connected_of before ++ map (λ row. row.0) (cons_option (joined_in line) [])
connected-last before line = ap (map (λ row. row.0)) (filter_map-append joined_in before (line ∷ [])) ∙ map-append (λ row. row.0) (joined_of before) (cons_option (joined_in line) [])

-- the lines after others
connected_once : (connected : List NodeName) (net : List ℕ) (before later : List Stated) → ((i : ℕ) → i < length later → fault_of connected net (before ++ take i later) (get_or later i (Ok Nothing)) ≡ None)
    → distinct (connected_of before) ≡ connected_of before → distinct (connected_of (before ++ later)) ≡ connected_of (before ++ later)
connected_once connected net before [] clear e = ap (λ ls. distinct (connected_of ls)) (append-nil before) ∙ e ∙ ap connected_of (sym (append-nil before))
connected_once connected net before (line ∷ later) clear e =
    let here : fault_of connected net before line ≡ None = ap (λ ls. fault_of connected net ls line) (sym (append-nil before)) ∙ clear 0 (omega arith) in
    let more : List NodeName = map (λ row. row.0) (cons_option (joined_in line) []) in
    let next : distinct (connected_of (before ++ line ∷ [])) ≡ connected_of (before ++ line ∷ []) =
    ap distinct (connected-last before line) ∙ fold-append with_node [] (connected_of before) more ∙ ap (λ xs. fold with_node xs more) e ∙ once_more connected net before line here ∙ sym (connected-last before line) in
    let rest = connected_once connected net (before ++ line ∷ []) later
    (λ i l. ap (λ ls. fault_of connected net ls (get_or later i (Ok Nothing))) (append_assoc before (line ∷ []) (take i later)) ∙ clear (suc i) (omega arith)) next in
    let same : (before ++ line ∷ []) ++ later ≡ before ++ line ∷ later = append_assoc before (line ∷ []) later in
    ap (λ ls. distinct (connected_of ls)) (sym same) ∙ rest ∙ ap connected_of same

-- the nodes of connections are those of their rows
connected_rows : (all : List Stated) → connected_of all ≡ map (λ row. row.1) (conns_of all)
connected_rows [] = refl
connected_rows (Err kind ∷ all) = connected_rows all
connected_rows (Ok (Opens part) ∷ all) = connected_rows all
connected_rows (Ok Nothing ∷ all) = connected_rows all
connected_rows (Ok (Connects kind way node note) ∷ all) = ap (λ nodes. node ∷ nodes) (connected_rows all)
connected_rows (Ok (Star node note) ∷ all) = connected_rows all
connected_rows (Ok (Ground node value) ∷ all) = connected_rows all
connected_rows (Ok (Coupling a b value) ∷ all) = connected_rows all
connected_rows (Ok (Resistor a b value) ∷ all) = connected_rows all

-- a connection stands for the row of its place
record IsRowAt (nodes : List NodeName) (rows : List (ConnKind × NodeName × Direction)) (i : ℕ) (conn : ParConn) : Type 0 where
  row : ConnKind × NodeName × Direction
  at : slice_get rows i ≡ Some row
  kind : conn.kind ≡ row.0
  node : slice_get nodes conn.node ≡ Some row.1

row_at : (nodes : List NodeName) (conns : List ParConn) (rows : List (ConnKind × NodeName × Direction)) → AreConns nodes conns rows → (i : ℕ) (conn : ParConn) → slice_get conns i ≡ Some conn → IsRowAt nodes rows i conn
row_at nodes [] rows e i conn f = absurd (cc)
row_at nodes (c ∷ conns) [] e i conn f = absurd (cc)
row_at nodes (c ∷ conns) (row ∷ rows) e zero conn f =
    let p = (list_eq _ _ _ _ e).0 in
    let s : c ≡ conn = same_Some _ _ f in
    record { row = row; at = refl; kind = ap (λ (x : ParConn). x.kind) (sym s) ∙ ap (λ x. x.0) p; node = ap (λ (x : ParConn). slice_get nodes x.node) (sym s) ∙ ap (λ x. x.1) p }
row_at nodes (c ∷ conns) (row ∷ rows) e (suc i) conn f =
    let h = row_at nodes conns rows (list_eq _ _ _ _ e).1 i conn f in
    record { row = h.row; at = h.at; kind = h.kind; node = h.node }

got_map : {X Y : Type 0} (f : X → Y) (xs : List X) (i : ℕ) (x : X) → slice_get xs i ≡ Some x → slice_get (map f xs) i ≡ Some (f x)
got_map f [] i x e = absurd (cc)
got_map f (y ∷ xs) zero x e = ap (λ t. Some (f t)) (same_Some _ _ e)
got_map f (y ∷ xs) (suc i) x e = got_map f xs i x e

module _ (net : List ℕ) (all : List Stated) (builder : PartialNet) (s : IsPartialNet (connected_of all) net all builder) where
  pub apart : AreApart builder.nodes
  apart = subst AreApart (sym s.nodes) (apart_fold (connected_of all ++ flat_map (named_in (connected_of all) net) all) [] tt)

  -- a node is inner where it is no connection's
  inner_is : (i : ℕ) (node : ParNode) (h : IsNotedAt builder.nodes builder.notes i node) → node.inner ≡ not (has_node (connected_of all) h.name)
  inner_is i node h =
      ap (λ (n : ParNode). n.inner) h.is ∙ ap (λ n. not (is_joined n)) (s.noted.here i h.name h.at) ∙ ap not (joined_is (node_value (joined_of all) h.name) _) ∙ ap not (sym (has_joined (joined_of all) h.name))

  pub nodes_distinct : AllPairs (λ node other. node.name ≢ other.name) (noted_all builder.nodes builder.notes)
  nodes_distinct = λ i j d l m e.
      let all_nodes = noted_all builder.nodes builder.notes in
      let a = noted_at builder.nodes builder.notes i (get_or all_nodes i d) (slice_get-get_or all_nodes i d (omega arith)) in
      let b = noted_at builder.nodes builder.notes j (get_or all_nodes j d) (slice_get-get_or all_nodes j d m) in
      let same : b.name ≡ a.name = sym (ap (λ (n : ParNode). n.name) b.is) ∙ sym e ∙ ap (λ (n : ParNode). n.name) a.is in
      let k : i ≡ j = one_number builder.nodes i j a.name apart a.at (b.at ∙ ap Some same) in
      omega (arith, k, l)

  or_inner : (a b : Bool) → (a || b) ≡ true → not a ≡ true → b ≡ true
  or_inner true b e f = absurd (cc)
  or_inner false b e f = e

  or_known : (a b : Bool) → a ≡ true → (a || b) ≡ true
  or_known true b e = refl
  or_known false b e = absurd (cc)

  pub nodes_inside : All (IsInside net) (noted_all builder.nodes builder.notes)
  nodes_inside = all_from (IsInside net) (noted_all builder.nodes builder.notes) (λ i node at inner.
      let h = noted_at builder.nodes builder.notes i node at in
      let own : is_own (connected_of all) net h.name ≡ true = sym (s.own h.name) ∙ or_known (has_node builder.nodes h.name) _ (has_at builder.nodes i h.name h.at) in
      let is : is_inner net h.name ≡ true = or_inner (has_node (connected_of all) h.name) _ own (sym (inner_is i node h) ∙ inner) in
      subst (λ n. is_inner net n ≡ true) (sym (ap (λ (n : ParNode). n.name) h.is)) is)

  module _ (clear : IsFaultless net all) (placed : All (λ row. is_at row.0 row.1 ≡ true) (conns_of all)) where
    -- the nodes of the connections stand first
    once : distinct (connected_of all) ≡ connected_of all
    once = connected_once (connected_of all) net [] all clear refl

    nodes_are : builder.nodes ≡ fold with_node (connected_of all) (flat_map (named_in (connected_of all) net) all)
    nodes_are = s.nodes ∙ fold-append with_node [] (connected_of all) (flat_map (named_in (connected_of all) net) all) ∙ ap (λ xs. fold with_node xs (flat_map (named_in (connected_of all) net) all)) once

    front : (i : ℕ) (x : NodeName) → slice_get (connected_of all) i ≡ Some x → slice_get builder.nodes i ≡ Some x
    front i x e = ap (λ xs. slice_get xs i) nodes_are ∙ kept (flat_map (named_in (connected_of all) net) all) (connected_of all) i x e

    count : length builder.conns ≡ length (connected_of all)
    count =
        sym (length-map builder.conns (conn_at builder.nodes)) ∙ ap length s.conns ∙ length-map (conns_of all) _ ∙ sym (length-map (conns_of all) (λ row. row.1)) ∙ ap length (sym (connected_rows all))

    first_at : (i : ℕ) (conn : ParConn) (h : IsRowAt builder.nodes (conns_of all) i conn) → slice_get (connected_of all) i ≡ Some h.row.1
    first_at i conn h = ap (λ xs. slice_get xs i) (connected_rows all) ∙ got_map (λ row. row.1) (conns_of all) i h.row h.at

    pub nodes_joined : AreJoined builder.conns (noted_all builder.nodes builder.notes)
    nodes_joined = record {
      few = omega (arith, count, ap length nodes_are, fold_more (flat_map (named_in (connected_of all) net) all) (connected_of all), length-noted builder.nodes builder.notes);
      numbers = λ i conn e.
          let h = row_at builder.nodes builder.conns (conns_of all) s.conns i conn e in
          one_number builder.nodes conn.node i h.row.1 apart h.node (front i h.row.1 (first_at i conn h));
      ends = λ i conn node e f.
          let h = row_at builder.nodes builder.conns (conns_of all) s.conns i conn e in
          let n = noted_at builder.nodes builder.notes i node f in
          let same : n.name ≡ h.row.1 = same_Some _ _ (sym n.at ∙ front i h.row.1 (first_at i conn h)) in
          let there : has_node (connected_of all) n.name ≡ true = ap (has_node (connected_of all)) same ∙ has_at (connected_of all) i h.row.1 (first_at i conn h) in
          let low = slice_get_within (conns_of all) i h.row h.at in
          let at : is_at (get_or (conns_of all) i h.row).0 (get_or (conns_of all) i h.row).1 ≡ true = placed i h.row low in
          let row : get_or (conns_of all) i h.row ≡ h.row = same_Some _ _ (sym (slice_get-get_or (conns_of all) i h.row low) ∙ h.at) in (
            inner_is i node n ∙ ap not there,
            (λ j. is_at (h.kind j) ((ap (λ (m : ParNode). m.name) n.is ∙ same) j)) ∙ ap (λ r. is_at r.0 r.1) (sym row) ∙ at,
          );
      inner = λ i node l f.
          let n = noted_at builder.nodes builder.notes i node f in
          inner_is i node n ∙ ap not (other i n.name l n.at (has_node (connected_of all) n.name) refl);
    }
      where
        other : (i : ℕ) (name : NodeName) → length builder.conns ≤ i → slice_get builder.nodes i ≡ Some name → (b : Bool) → has_node (connected_of all) name ≡ b → b ≡ false
        other i name l at false e = refl
        other i name l at true e = absurd (
            let p = place_of (connected_of all) name e in
            let k : p.at ≡ i = one_number builder.nodes p.at i name apart (front p.at name p.is) at in
            let m = slice_get_within (connected_of all) p.at name p.is in
            let x : ⊥ = omega (arith, k, m, l, count) in
            x)
