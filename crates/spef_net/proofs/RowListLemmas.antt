-- Rows whose nodes are numbers, and look-ups.
use Rattle.std.proofs.Common.{◌≡◌, ℕ, Bool, true, false, cond, List, [], ◌∷◌, ◌++◌, map, refl, sym, ap, ◌∙◌, Option, Some, None, is_some}
use Rattle.std.proofs.lemmas.List.{map-append}
use Rattle.std.specs.List.{slice_get}
use Rattle.std.specs.Option.{option_or}
use Rattle.vg_scan.specs.declared.name.NodeName.{NodeName}
use Rattle.spef_net.specs.declared.net.ConnKind.{ConnKind}
use Rattle.spef_net.specs.declared.net.Direction.{Direction}
use Rattle.spef_net.specs.declared.net.ParConn.{ParConn}
use Rattle.vg_scan.specs.Nodes.{same_node, node_value}
use Rattle.spef_nodes.specs.Members.{with_node}
use Rattle.spef_net.specs.Denoted.{conn_at, cap_at, res_at, AreConns, AreCaps, AreRess}
use Rattle.spef_nodes.proofs.NodeListLemmas.{same_is, slice_get-with_node}

-- rows stay what they are where what they are seen as stays
map-grows : {A R B : Type 0} (f g : A → B) (h : R → B) → ((a : A) (r : R) → f a ≡ h r → g a ≡ h r) → (xs : List A) (rs : List R) → map f xs ≡ map h rs → map g xs ≡ map h rs
map-grows f g h k [] [] e = refl
map-grows f g h k [] (r ∷ rs) e = absurd (cc)
map-grows f g h k (x ∷ xs) [] e = absurd (cc)
map-grows f g h k (x ∷ xs) (r ∷ rs) e =
    let a : f x ≡ h r = cc in
    let b : map f xs ≡ map h rs = cc in
    let c : g x ≡ h r = k x r a in
    let d : map g xs ≡ map h rs = map-grows f g h k xs rs b in
    cc

map-more : {A R B : Type 0} (f : A → B) (h : R → B) (xs : List A) (rs : List R) (x : A) (r : R) → map f xs ≡ map h rs → f x ≡ h r → map f (xs ++ x ∷ []) ≡ map h (rs ++ r ∷ [])
map-more f h xs rs x r e k = map-append f xs (x ∷ []) ∙ ap (λ ys. ys ++ f x ∷ []) e ∙ ap (λ y. map h rs ++ y ∷ []) k ∙ sym (map-append h rs (r ∷ []))

-- the rows with one node more
pub conns_grow : (nodes : List NodeName) (node : NodeName) (conns : List ParConn) (rows : List (ConnKind × NodeName × Direction)) → AreConns nodes conns rows → AreConns (with_node nodes node) conns rows
conns_grow nodes node conns rows e = map-grows (conn_at nodes) (conn_at (with_node nodes node)) (λ row. (row.0, Some row.1, row.2))
    (λ a r k. let g = slice_get-with_node nodes node a.node r.1 (ap (λ t. t.1) k) in λ i. ((k i).0, g i, (k i).2)) conns rows e

pub caps_grow : (nodes : List NodeName) (node : NodeName) (caps : List (ℕ × ℕ)) (rows : List (NodeName × ℕ)) → AreCaps nodes caps rows → AreCaps (with_node nodes node) caps rows
caps_grow nodes node caps rows e = map-grows (cap_at nodes) (cap_at (with_node nodes node)) (λ row. (Some row.0, row.1))
    (λ a r k. let g = slice_get-with_node nodes node a.0 r.0 (ap (λ t. t.0) k) in λ i. (g i, (k i).1)) caps rows e

pub ress_grow : (nodes : List NodeName) (node : NodeName) (ress : List (ℕ × ℕ × ℕ)) (rows : List (NodeName × NodeName × ℕ)) → AreRess nodes ress rows → AreRess (with_node nodes node) ress rows
ress_grow nodes node ress rows e = map-grows (res_at nodes) (res_at (with_node nodes node)) (λ row. (Some row.0, Some row.1, row.2))
    (λ a r k. let g = slice_get-with_node nodes node a.0 r.0 (ap (λ t. t.0) k) in let h = slice_get-with_node nodes node a.1 r.1 (ap (λ t. t.1) k) in λ i. (g i, h i, (k i).2)) ress rows e

-- one row more
pub conns_more : (nodes : List NodeName) (conns : List ParConn) (rows : List (ConnKind × NodeName × Direction)) (kind : ConnKind) (id : ℕ) (node : NodeName) (direction : Direction)
    → AreConns nodes conns rows → slice_get nodes id ≡ Some node → AreConns nodes (conns ++ record { kind = kind; node = id; direction = direction } ∷ []) (rows ++ (kind, node, direction) ∷ [])
conns_more nodes conns rows kind id node direction e k =
    map-more (conn_at nodes) (λ row. (row.0, Some row.1, row.2)) conns rows (record { kind = kind; node = id; direction = direction }) (kind, node, direction) e (λ i. (kind, k i, direction))

pub caps_more : (nodes : List NodeName) (caps : List (ℕ × ℕ)) (rows : List (NodeName × ℕ)) (id : ℕ) (node : NodeName) (value : ℕ)
    → AreCaps nodes caps rows → slice_get nodes id ≡ Some node → AreCaps nodes (caps ++ (id, value) ∷ []) (rows ++ (node, value) ∷ [])
caps_more nodes caps rows id node value e k = map-more (cap_at nodes) (λ row. (Some row.0, row.1)) caps rows (id, value) (node, value) e (λ i. (k i, value))

pub ress_more : (nodes : List NodeName) (ress : List (ℕ × ℕ × ℕ)) (rows : List (NodeName × NodeName × ℕ)) (i j : ℕ) (a b : NodeName) (value : ℕ)
    → AreRess nodes ress rows → slice_get nodes i ≡ Some a → slice_get nodes j ≡ Some b → AreRess nodes (ress ++ (i, j, value) ∷ []) (rows ++ (a, b, value) ∷ [])
ress_more nodes ress rows i j a b value e k l = map-more (res_at nodes) (λ row. (Some row.0, Some row.1, row.2)) ress rows (i, j, value) (a, b, value) e (λ t. (k t, l t, value))

-- the value of a node, with one row more
or_none : {A : Type 0} (o : Option A) → option_or o None ≡ o
or_none None = refl
or_none (Some x) = refl

pub value-last : {V : Type 0} (rows : List (NodeName × V)) (node q : NodeName) (v : V) → node_value (rows ++ (node, v) ∷ []) q ≡ option_or (node_value rows q) (cond (same_node q node) (Some v) None)
value-last [] node q v = refl
value-last (row ∷ rows) node q v = step (same_node q row.0) (value-last rows node q v)
  where
    step : (b : Bool) → node_value (rows ++ (node, v) ∷ []) q ≡ option_or (node_value rows q) (cond (same_node q node) (Some v) None)
        → cond b (Some row.1) (node_value (rows ++ (node, v) ∷ []) q) ≡ option_or (cond b (Some row.1) (node_value rows q)) (cond (same_node q node) (Some v) None)
    step true e = refl
    step false e = e

some_stays : {V : Type 0} (o p : Option V) → is_some o ≡ true → option_or o p ≡ o
some_stays None p e = absurd (cc)
some_stays (Some x) p e = refl

-- a node that has a value keeps it
pub value-again : {V : Type 0} (rows : List (NodeName × V)) (node q : NodeName) (v : V) → is_some (node_value rows node) ≡ true → node_value (rows ++ (node, v) ∷ []) q ≡ node_value rows q
value-again rows node q v e = value-last rows node q v ∙ by_test (same_node q node) refl
  where
    by_test : (b : Bool) → same_node q node ≡ b → option_or (node_value rows q) (cond b (Some v) None) ≡ node_value rows q
    by_test false s = or_none (node_value rows q)
    by_test true s = some_stays (node_value rows q) (Some v) (ap (λ n. is_some (node_value rows n)) (same_is q node s) ∙ e)

pub value-more : {V : Type 0} (xs ys : List (NodeName × V)) (node q : NodeName) (v : V) → node_value xs q ≡ node_value ys q → node_value (xs ++ (node, v) ∷ []) q ≡ node_value (ys ++ (node, v) ∷ []) q
value-more xs ys node q v e = value-last xs node q v ∙ ap (λ o. option_or o (cond (same_node q node) (Some v) None)) e ∙ sym (value-last ys node q v)
