-- The net that a section denotes is the net that was written.
use Rattle.std.proofs.Common.{◌≡◌, ◌≢◌, ℕ, zero, suc, ◌<◌, ◌≤◌, ◌==◌, ◌||◌, ◌&&◌, ◌⊎◌, not, Bool, true, false, cond, List, [], ◌∷◌, ◌++◌, map, filter, refl, sym, ap, ◌∙◌, arith, length, get_or, subst, inl, inr, Option, Some, None, is_some, unwrap_or}
use Rattle.std.specs.Prelude.{codes}
use Rattle.std.specs.List.{All, Contains, flat_map, fold, list_any, slice_get}
use Rattle.std.specs.Option.{option_or, option_map}
use Rattle.std.proofs.lemmas.Bool.{cases_lt, cases_Bool}
use Rattle.std.proofs.lemmas.Bool.Decides.{nat_tests}
use Rattle.std.proofs.lemmas.List.{length-map, get_or-map}
use Rattle.std.proofs.lemmas.List.Elements.{All-nil, All-cons, All-head, All-tail, All-weaker, All-append, All-map, All-push, Contains-get_or, Contains-append_left, Contains-append_right}
use Rattle.std.proofs.lemmas.Option.{slice_get-get_or, slice_get-map}
use Rattle.vg_scan.specs.declared.name.NodeName.{NodeName}
use Rattle.vg_scan.specs.Nodes.{same_node, has_node, node_value}
use Rattle.spef_nodes.specs.Members.{with_node}
use Rattle.spef_nodes.specs.Nodes.{ParNode}
use Rattle.spef_nodes.proofs.NodeListLemmas.{same_is, has-distinct}
use Rattle.spef_nodes.proofs.ApartLemmas.{has_at}
use Rattle.spef_net.specs.declared.net.ConnKind.{ConnKind}
use Rattle.spef_net.specs.declared.net.ConnKind.TheVariants.{Pin}
use Rattle.spef_net.specs.declared.net.Direction.{Direction}
use Rattle.spef_net.specs.declared.net.Direction.TheVariants.{In}
use Rattle.spef_net.specs.declared.net.ParConn.{ParConn}
use Rattle.spef_net.specs.declared.net.ParNet.{ParNet}
use Rattle.spef_net.specs.Nets.{IsResOf}
use Rattle.spef_net.specs.Statements.{Stated}
use Rattle.spef_net.specs.Rows.{joined_of, starred_of, connected_of, named_in}
use Rattle.spef_net.specs.Denoted.{IsNet, described, all_nodes, conn_at, cap_at, res_at}
use Rattle.spef_write.specs.Sections.{NO_NODE, node_at, total_at, cap_nodes, sums, is_charged, charged, has_star}
use Rattle.spef_write.specs.SectionLaws.{WrittenNetsAgain, names_of, is_named, said_conn, said_star, said_cap, said_res, said_by, opens, opened}
use Rattle.spef_write.proofs.ChargeLemmas.{IsRowOf, rows_are}
use Rattle.spef_write.proofs.NetLemmas.{conns_are, IsConnOf}
use Rattle.spef_write.proofs.OnceLemmas.{cap_nodes_have, contains_filter, contains_later}
use Rattle.spef_write.proofs.SaidLemmas.{row_name, conn_note, star_note, conn_row, cap_row, res_row, joined_said, starred_said, conns_said, caps_said, ress_said, connected_said, plain_said}
use Rattle.spef_write.proofs.ClearLemmas.{one_node, conn_number, value_absent, StarAt, stars_at}

-- ---- lists

map_agree : {X Y : Type 0} (f g : X → Y) (xs : List X) → All (λ x. f x ≡ g x) xs → map f xs ≡ map g xs
map_agree f g [] all = refl
map_agree f g (x ∷ xs) all =
    ap (λ y. y ∷ map f xs) (All-head (λ x. f x ≡ g x) x xs all) ∙ ap (λ ys. g x ∷ ys) (map_agree f g xs (All-tail (λ x. f x ≡ g x) x xs all))

map_twice : {X Y Z : Type 0} (f : Y → Z) (g : X → Y) (xs : List X) → map f (map g xs) ≡ map (λ x. f (g x)) xs
map_twice f g [] = refl
map_twice f g (x ∷ xs) = ap (λ ys. f (g x) ∷ ys) (map_twice f g xs)

contains_map : {X Y : Type 0} (f : X → Y) (xs : List X) (x : X) → Contains xs x → Contains (map f xs) (f x)
contains_map f xs x (k, l, e) = (k, omega (arith, l, length-map xs f), get_or-map f xs k x (f x) l ∙ ap f e)

contains_flat : {X Y : Type 0} (f : X → List Y) (xs : List X) (x : X) (y : Y) → Contains xs x → Contains (f x) y → Contains (flat_map f xs) y
contains_flat f [] x y (k, l, e) h = absurd (omega (arith, l))
contains_flat f (z ∷ zs) x y (zero, l, e) h = Contains-append_left (f z) (flat_map f zs) y (subst (λ v. Contains (f v) y) (sym e) h)
contains_flat f (z ∷ zs) x y (suc k, l, e) h = Contains-append_right (f z) (flat_map f zs) y (contains_flat f zs x y (k, omega (arith, l), e) h)

has_from : (xs : List NodeName) (x : NodeName) → Contains xs x → has_node xs x ≡ true
has_from xs x (k, l, e) = has_at xs k x (slice_get-get_or xs k x l ∙ ap Some e)

contains_from : (xs : List NodeName) (x : NodeName) → has_node xs x ≡ true → Contains xs x
contains_from [] x e = absurd (cc)
contains_from (y ∷ ys) x e = step (same_node x y) refl (contains_from ys x) e
  where
    step : (b : Bool) → same_node x y ≡ b → (has_node ys x ≡ true → Contains ys x) → (b || has_node ys x) ≡ true → Contains (y ∷ ys) x
    step true s later h = (0, omega arith, sym (same_is x y s))
    step false s later h = contains_later y ys x (later h)

any_contains : {X : Type 0} (p : X → Bool) (xs : List X) → list_any p xs ≡ true → (x : X) × Contains xs x × (p x ≡ true)
any_contains p [] e = absurd (cc)
any_contains p (y ∷ ys) e = step (p y) refl (any_contains p ys) e
  where
    step : (b : Bool) → p y ≡ b → (list_any p ys ≡ true → (x : _) × Contains ys x × (p x ≡ true)) → (b || list_any p ys) ≡ true → (x : _) × Contains (y ∷ ys) x × (p x ≡ true)
    step true s later h = (y, (0, omega arith, refl), s)
    step false s later h = (let (x, has, t) = later h in (x, contains_later y ys x has, t))

all_flat : {X Y : Type 0} (P : Y → Type 0) (f : X → List Y) (xs : List X) → All (λ x. All P (f x)) xs → All P (flat_map f xs)
all_flat P f [] all = All-nil P
all_flat P f (x ∷ xs) all =
    All-append P (f x) (flat_map f xs) (All-head (λ x. All P (f x)) x xs all) (all_flat P f xs (All-tail (λ x. All P (f x)) x xs all))

all_fold : (P : NodeName → Type 0) (ys xs : List NodeName) → All P xs → All P ys → All P (fold with_node xs ys)
all_fold P [] xs a b = a
all_fold P (y ∷ ys) xs a b = all_fold P ys (with_node xs y) (either (has_node xs y)) (All-tail P y ys b)
  where
    either : (t : Bool) → All P (cond t xs (xs ++ y ∷ []))
    either true = a
    either false = All-push P xs y a (All-head P y ys b)

-- what rows have for a node, where each of its rows has the same
value_present : {V : Type 0} (rows : List (NodeName × V)) (node : NodeName) (v : V) → has_node (map (λ row. row.0) rows) node ≡ true
    → All (λ (row : NodeName × V). row.0 ≡ node → row.1 ≡ v) rows → node_value rows node ≡ Some v
value_present [] node v has all = absurd (cc)
value_present (row ∷ rows) node v has all =
    step (same_node node row.0) refl (λ h. value_present rows node v h (All-tail (λ (r : NodeName × _). r.0 ≡ node → r.1 ≡ v) row rows all)) has
  where
    step : (t : Bool) → same_node node row.0 ≡ t → (has_node (map (λ r. r.0) rows) node ≡ true → node_value rows node ≡ Some v)
        → (t || has_node (map (λ r. r.0) rows) node) ≡ true → cond t (Some row.1) (node_value rows node) ≡ Some v
    step true e later h = ap Some (All-head (λ (r : NodeName × _). r.0 ≡ node → r.1 ≡ v) row rows all (sym (same_is node row.0 e)))
    step false e later h = later h

-- ---- names

names_back : (joined starred : List (NodeName × List ℕ)) (names : List NodeName) → names_of (map (described joined starred) names) ≡ names
names_back joined starred [] = refl
names_back joined starred (name ∷ names) = ap (λ ns. name ∷ ns) (names_back joined starred names)

name_at : (net : ParNet) (k : ℕ) → k < length net.nodes → slice_get (names_of net.nodes) k ≡ Some (node_at net.nodes k).name
name_at net k l =
    slice_get-map (λ (node : ParNode). node.name) net.nodes k ∙ ap (option_map (λ (node : ParNode). node.name)) (slice_get-get_or net.nodes k NO_NODE l)

-- a name of one of the net's nodes
record NameIn (net : ParNet) (name : NodeName) : Type 0 where
  pub at : ℕ
  pub within : at < length net.nodes
  pub is : (node_at net.nodes at).name ≡ name

-- what holds of all that a section says
all_said : (Q : Stated → Type 0) (net : ParNet) → Q (opens (codes "*CONN")) → Q (opens (codes "*CAP")) → Q (opens (codes "*RES"))
    → All (λ conn. Q (said_conn net.nodes conn)) net.conns → All (λ node. Q (said_star node)) (filter has_star net.nodes)
    → All (λ cap. Q (said_cap net.nodes cap)) (charged net) → All (λ res. Q (said_res net.nodes res)) net.ress → All Q (said_by net)
all_said Q net conn_head cap_head res_head conns stars caps ress =
    let a = map (said_conn net.nodes) net.conns in
    let b = map said_star (filter has_star net.nodes) in
    let c = map (said_cap net.nodes) (charged net) in
    let d = map (said_res net.nodes) net.ress in
    All-cons Q (opens (codes "*CONN")) (a ++ (b ++ (opened (codes "*CAP") c ++ opened (codes "*RES") d))) conn_head
    (All-append Q a (b ++ (opened (codes "*CAP") c ++ opened (codes "*RES") d)) (All-map Q (said_conn net.nodes) net.conns conns)
    (All-append Q b (opened (codes "*CAP") c ++ opened (codes "*RES") d) (All-map Q said_star (filter has_star net.nodes) stars)
    (All-append Q (opened (codes "*CAP") c) (opened (codes "*RES") d)
    (with_head (codes "*CAP") c cap_head (All-map Q (said_cap net.nodes) (charged net) caps))
    (with_head (codes "*RES") d res_head (All-map Q (said_res net.nodes) net.ress ress)))))
  where
    with_head : (head : List ℕ) (ls : List Stated) → Q (opens head) → All Q ls → All Q (opened head ls)
    with_head head [] q all = All-nil Q
    with_head head (l ∷ ls) q all = All-cons Q (opens head) (l ∷ ls) q all

module _ (net : ParNet) where
  -- every name is one of the net's
  names_in : All (NameIn net) (all_nodes net.name (said_by net))
  names_in =
      all_fold (NameIn net) (connected_of (said_by net) ++ flat_map (named_in (connected_of (said_by net)) net.name) (said_by net)) [] (All-nil (NameIn net))
      (All-append (NameIn net) (connected_of (said_by net)) (flat_map (named_in (connected_of (said_by net)) net.name) (said_by net))
      (subst (All (NameIn net)) (sym (connected_said net))
      (All-map (NameIn net) (row_name net.nodes) net.conns
      (All-weaker (IsConnOf net.nodes) (λ conn. NameIn net (row_name net.nodes conn)) (λ conn is. record { at = conn.node; within = is.within; is = refl }) net.conns (conns_are net))))
      (all_flat (NameIn net) (named_in (connected_of (said_by net)) net.name) (said_by net)
      (all_said (λ line. All (NameIn net) (named_in (connected_of (said_by net)) net.name line)) net (All-nil (NameIn net)) (All-nil (NameIn net)) (All-nil (NameIn net))
      (All-weaker (IsConnOf net.nodes) (λ conn. All (NameIn net) (row_name net.nodes conn ∷ [])) (λ conn is. one conn.node is.within) net.conns (conns_are net))
      (All-weaker (StarAt net) (λ node. All (NameIn net) (node.name ∷ []))
      (λ node star. subst (λ (n : ParNode). All (NameIn net) (n.name ∷ [])) star.is (one star.at star.within)) (filter has_star net.nodes) (stars_at net))
      (λ k d l. one (get_or (charged net) k d).0 (rows_within k d l))
      (All-weaker (IsResOf (length net.nodes)) (λ res. All (NameIn net) ((node_at net.nodes res.0).name ∷ (node_at net.nodes res.1).name ∷ []))
      (λ res is. All-cons (NameIn net) (node_at net.nodes res.0).name ((node_at net.nodes res.1).name ∷ []) (record { at = res.0; within = is.0; is = refl }) (one res.1 is.1))
      net.ress net.sound.ress_at))))
    where
      one : (k : ℕ) → k < length net.nodes → All (NameIn net) ((node_at net.nodes k).name ∷ [])
      one k l = All-cons (NameIn net) (node_at net.nodes k).name [] (record { at = k; within = l; is = refl }) (All-nil (NameIn net))

      rows_within : (k : ℕ) (d : ℕ × ℕ) → k < length (charged net) → (get_or (charged net) k d).0 < length net.nodes
      rows_within k d l = (rows_are net k d l).within

-- ---- a node keeps its name and its note

no_note : (note : List ℕ) → not (length note == 0) ≡ false → note ≡ []
no_note [] e = refl
no_note (b ∷ bs) e = absurd (let none : length (b ∷ bs) ≡ 0 = grind (arith, nat_tests) in omega (arith, none))

star_has : (inner : Bool) (note : List ℕ) → inner ≡ true → not (length note == 0) ≡ true → (inner && not (length note == 0)) ≡ true
star_has inner note e f = rw (e, f) refl

abbrev NO_CONN : ParConn
NO_CONN = record { kind = Pin; node = 0; direction = In }

module _ (net : ParNet) where
  -- a node before the last connection's is one of a connection, and the others are inside
  joined_first : (k : ℕ) → k < length net.conns → (node_at net.nodes k).inner ≡ false
  joined_first k l = ap (λ j. (node_at net.nodes j).inner) (sym (conn_number net k NO_CONN l)) ∙ (conns_are net k NO_CONN l).joined

  inner_later : (k : ℕ) → k < length net.nodes → length net.conns ≤ k → (node_at net.nodes k).inner ≡ true
  inner_later k l later = net.sound.joined.inner k (node_at net.nodes k) later (slice_get-get_or net.nodes k NO_NODE l)

  conn_has : (k : ℕ) → k < length net.conns → Contains (map (row_name net.nodes) net.conns) (node_at net.nodes k).name
  conn_has k l =
      subst (Contains (map (row_name net.nodes) net.conns)) (ap (λ j. (node_at net.nodes j).name) (conn_number net k NO_CONN l))
      (contains_map (row_name net.nodes) net.conns (get_or net.conns k NO_CONN) (Contains-get_or net.conns k NO_CONN l))

  star_in : (k : ℕ) → k < length net.nodes → (node_at net.nodes k).inner ≡ true → not (length (node_at net.nodes k).note == 0) ≡ true
      → Contains (filter has_star net.nodes) (node_at net.nodes k)
  star_in k l inner some =
      contains_filter has_star net.nodes (node_at net.nodes k) (Contains-get_or net.nodes k NO_NODE l) (star_has (node_at net.nodes k).inner (node_at net.nodes k).note inner some)

  -- what the connections say of a node of theirs, and of another
  joined_here : (k : ℕ) → k < length net.nodes → k < length net.conns → node_value (map (conn_note net.nodes) net.conns) (node_at net.nodes k).name ≡ Some (node_at net.nodes k).note
  joined_here k l joined =
      value_present (map (conn_note net.nodes) net.conns) (node_at net.nodes k).name (node_at net.nodes k).note
      (ap (λ names. has_node names (node_at net.nodes k).name) (map_twice (λ (row : NodeName × List ℕ). row.0) (conn_note net.nodes) net.conns)
      ∙ has_from (map (row_name net.nodes) net.conns) (node_at net.nodes k).name (conn_has k joined))
      (All-map (λ (row : NodeName × List ℕ). row.0 ≡ (node_at net.nodes k).name → row.1 ≡ (node_at net.nodes k).note) (conn_note net.nodes) net.conns
      (All-weaker (IsConnOf net.nodes) (λ conn. row_name net.nodes conn ≡ (node_at net.nodes k).name → (node_at net.nodes conn.node).note ≡ (node_at net.nodes k).note)
      (λ conn is same. ap (λ j. (node_at net.nodes j).note) (one_node net conn.node k is.within l same))
      net.conns (conns_are net)))

  joined_none : (k : ℕ) → k < length net.nodes → (node_at net.nodes k).inner ≡ true → node_value (map (conn_note net.nodes) net.conns) (node_at net.nodes k).name ≡ None
  joined_none k l inner =
      value_absent (map (conn_note net.nodes) net.conns) (node_at net.nodes k).name
      (All-map (λ (row : NodeName × List ℕ). row.0 ≢ (node_at net.nodes k).name) (conn_note net.nodes) net.conns
      (All-weaker (IsConnOf net.nodes) (λ conn. row_name net.nodes conn ≢ (node_at net.nodes k).name)
      (λ conn is same. differ conn is (one_node net conn.node k is.within l same))
      net.conns (conns_are net)))
    where
      differ : (conn : ParConn) → IsConnOf net.nodes conn → conn.node ≡ k → ⊥
      differ conn is e =
          let clash : false ≡ true = sym is.joined ∙ ap (λ j. (node_at net.nodes j).inner) e ∙ inner in
          absurd (cc)

  -- what the inner nodes with a note say of a node
  starred_here : (k : ℕ) → k < length net.nodes → (node_at net.nodes k).inner ≡ true → not (length (node_at net.nodes k).note == 0) ≡ true
      → node_value (map star_note (filter has_star net.nodes)) (node_at net.nodes k).name ≡ Some (node_at net.nodes k).note
  starred_here k l inner some =
      value_present (map star_note (filter has_star net.nodes)) (node_at net.nodes k).name (node_at net.nodes k).note
      (ap (λ names. has_node names (node_at net.nodes k).name) (map_twice (λ (row : NodeName × List ℕ). row.0) star_note (filter has_star net.nodes))
      ∙ has_from (map (λ (node : ParNode). node.name) (filter has_star net.nodes)) (node_at net.nodes k).name
      (contains_map (λ (node : ParNode). node.name) (filter has_star net.nodes) (node_at net.nodes k) (star_in k l inner some)))
      (All-map (λ (row : NodeName × List ℕ). row.0 ≡ (node_at net.nodes k).name → row.1 ≡ (node_at net.nodes k).note) star_note (filter has_star net.nodes)
      (All-weaker (StarAt net) (λ node. node.name ≡ (node_at net.nodes k).name → node.note ≡ (node_at net.nodes k).note)
      (λ node star same. ap (λ (n : ParNode). n.note) (sym star.is)
      ∙ ap (λ j. (node_at net.nodes j).note) (one_node net star.at k star.within l (ap (λ (n : ParNode). n.name) star.is ∙ same)))
      (filter has_star net.nodes) (stars_at net)))

  starred_none : (k : ℕ) → k < length net.nodes → not (length (node_at net.nodes k).note == 0) ≡ false
      → node_value (map star_note (filter has_star net.nodes)) (node_at net.nodes k).name ≡ None
  starred_none k l none =
      value_absent (map star_note (filter has_star net.nodes)) (node_at net.nodes k).name
      (All-map (λ (row : NodeName × List ℕ). row.0 ≢ (node_at net.nodes k).name) star_note (filter has_star net.nodes)
      (All-weaker (StarAt net) (λ node. node.name ≢ (node_at net.nodes k).name)
      (λ node star same. differ node star (one_node net star.at k star.within l (ap (λ (n : ParNode). n.name) star.is ∙ same)))
      (filter has_star net.nodes) (stars_at net)))
    where
      differ : (node : ParNode) (star : StarAt net node) → star.at ≡ k → ⊥
      differ node star e =
          let clash : true ≡ false = sym star.some ∙ ap (λ (n : ParNode). not (length n.note == 0)) (sym star.is) ∙ ap (λ j. not (length (node_at net.nodes j).note == 0)) e ∙ none in
          absurd (cc)

same_parts : (node : ParNode) (name : NodeName) (inner : Bool) (note : List ℕ) → name ≡ node.name → inner ≡ node.inner → note ≡ node.note
    → record { name = name; inner = inner; note = note } ≡ node
same_parts node name inner note p q r = λ i. record { name = p i; inner = q i; note = r i }

-- a node with what is said of it is the net's
described_is : (net : ParNet) (k : ℕ) → k < length net.nodes
    → described (joined_of (said_by net)) (starred_of (said_by net)) (node_at net.nodes k).name ≡ node_at net.nodes k
described_is net k l =
    let node = node_at net.nodes k in
    let joined = map (conn_note net.nodes) net.conns in
    let starred = map star_note (filter has_star net.nodes) in
    ap (λ js. described js (starred_of (said_by net)) node.name) (joined_said net)
    ∙ ap (λ ss. described (map (conn_note net.nodes) net.conns) ss node.name) (starred_said net)
    ∙ elim (cases_lt k (length net.conns)) as (λ _. described joined starred node.name ≡ node) [
      | inl here ↦
          same_parts node node.name (not (is_some (node_value joined node.name))) (unwrap_or (option_or (node_value joined node.name) (node_value starred node.name)) []) refl
          (ap (λ o. not (is_some o)) (joined_here net k l here) ∙ sym (joined_first net k here))
          (ap (λ o. unwrap_or (option_or o (node_value starred node.name)) []) (joined_here net k l here))
      | inr later ↦ inside (inner_later net k l later)
    ]
  where
    inside : (node_at net.nodes k).inner ≡ true
        → described (map (conn_note net.nodes) net.conns) (map star_note (filter has_star net.nodes)) (node_at net.nodes k).name ≡ node_at net.nodes k
    inside inner =
        same_parts (node_at net.nodes k) (node_at net.nodes k).name
        (not (is_some (node_value (map (conn_note net.nodes) net.conns) (node_at net.nodes k).name)))
        (unwrap_or (option_or (node_value (map (conn_note net.nodes) net.conns) (node_at net.nodes k).name) (node_value (map star_note (filter has_star net.nodes)) (node_at net.nodes k).name)) []) refl
        (ap (λ o. not (is_some o)) (joined_none net k l inner) ∙ sym inner)
        (ap (λ o. unwrap_or (option_or o (node_value (map star_note (filter has_star net.nodes)) (node_at net.nodes k).name)) []) (joined_none net k l inner)
        ∙ elim (cases_Bool (not (length (node_at net.nodes k).note == 0))) as (λ _. unwrap_or (node_value (map star_note (filter has_star net.nodes)) (node_at net.nodes k).name) [] ≡ (node_at net.nodes k).note) [
          | inl some ↦ ap (λ o. unwrap_or o []) (starred_here net k l inner some)
          | inr none ↦ ap (λ o. unwrap_or o []) (starred_none net k l none) ∙ sym (no_note (node_at net.nodes k).note none)
        ])

-- ---- a node that is named is among the names

either_true : (a b : Bool) → (a || b) ≡ true → (a ≡ true) ⊎ (b ≡ true)
either_true true b e = inl refl
either_true false b e = inr e

not_true : (a : Bool) → not a ≡ true → a ≡ false
not_true true e = absurd (cc)
not_true false e = refl

contains_opened : (head : List ℕ) (ls : List Stated) (l : Stated) → Contains ls l → Contains (opened head ls) l
contains_opened head [] l has = has
contains_opened head (x ∷ xs) l has = contains_later (opens head) (x ∷ xs) l has

module _ (net : ParNet) where
  said_star_in : (node : ParNode) → Contains (filter has_star net.nodes) node → Contains (said_by net) (said_star node)
  said_star_in node has =
      let b = map said_star (filter has_star net.nodes) in
      let rest = opened (codes "*CAP") (map (said_cap net.nodes) (charged net)) ++ opened (codes "*RES") (map (said_res net.nodes) net.ress) in
      contains_later (opens (codes "*CONN")) (map (said_conn net.nodes) net.conns ++ (b ++ rest)) (said_star node)
      (Contains-append_right (map (said_conn net.nodes) net.conns) (b ++ rest) (said_star node)
      (Contains-append_left b rest (said_star node) (contains_map said_star (filter has_star net.nodes) node has)))

  said_cap_in : (cap : ℕ × ℕ) → Contains (charged net) cap → Contains (said_by net) (said_cap net.nodes cap)
  said_cap_in cap has =
      let b = map said_star (filter has_star net.nodes) in
      let c = opened (codes "*CAP") (map (said_cap net.nodes) (charged net)) in
      let d = opened (codes "*RES") (map (said_res net.nodes) net.ress) in
      contains_later (opens (codes "*CONN")) (map (said_conn net.nodes) net.conns ++ (b ++ (c ++ d))) (said_cap net.nodes cap)
      (Contains-append_right (map (said_conn net.nodes) net.conns) (b ++ (c ++ d)) (said_cap net.nodes cap)
      (Contains-append_right b (c ++ d) (said_cap net.nodes cap)
      (Contains-append_left c d (said_cap net.nodes cap)
      (contains_opened (codes "*CAP") (map (said_cap net.nodes) (charged net)) (said_cap net.nodes cap) (contains_map (said_cap net.nodes) (charged net) cap has)))))

  said_res_in : (res : ℕ × ℕ × ℕ) → Contains net.ress res → Contains (said_by net) (said_res net.nodes res)
  said_res_in res has =
      let b = map said_star (filter has_star net.nodes) in
      let c = opened (codes "*CAP") (map (said_cap net.nodes) (charged net)) in
      let d = opened (codes "*RES") (map (said_res net.nodes) net.ress) in
      contains_later (opens (codes "*CONN")) (map (said_conn net.nodes) net.conns ++ (b ++ (c ++ d))) (said_res net.nodes res)
      (Contains-append_right (map (said_conn net.nodes) net.conns) (b ++ (c ++ d)) (said_res net.nodes res)
      (Contains-append_right b (c ++ d) (said_res net.nodes res)
      (Contains-append_right c d (said_res net.nodes res)
      (contains_opened (codes "*RES") (map (said_res net.nodes) net.ress) (said_res net.nodes res) (contains_map (said_res net.nodes) net.ress res has)))))

  -- a name that a line names is among the names
  named_by : (line : Stated) (name : NodeName) → Contains (said_by net) line → Contains (named_in (connected_of (said_by net)) net.name line) name
      → has_node (all_nodes net.name (said_by net)) name ≡ true
  named_by line name has names =
      let connected = connected_of (said_by net) in
      let others = flat_map (named_in connected net.name) (said_by net) in
      has-distinct (connected ++ others) name
      ∙ has_from (connected ++ others) name (Contains-append_right connected others name (contains_flat (named_in connected net.name) (said_by net) line name has names))

  by_conn : (k : ℕ) → k < length net.conns → has_node (all_nodes net.name (said_by net)) (node_at net.nodes k).name ≡ true
  by_conn k l =
      let connected = connected_of (said_by net) in
      let others = flat_map (named_in connected net.name) (said_by net) in
      let name = (node_at net.nodes k).name in
      has-distinct (connected ++ others) name
      ∙ has_from (connected ++ others) name
      (Contains-append_left connected others name (subst (λ (names : List NodeName). Contains names name) (sym (connected_said net)) (conn_has net k l)))

  by_charge : (k : ℕ) → k < length net.nodes → not (total_at net.caps k == 0) ≡ true → has_node (all_nodes net.name (said_by net)) (node_at net.nodes k).name ≡ true
  by_charge k l some =
      let row : ℕ → ℕ × ℕ = λ j. (j, total_at net.caps j) in
      let here : Contains (sums net.caps) (row k) = contains_map row (cap_nodes net.caps) k (cap_nodes_have net.caps k some) in
      named_by (said_cap net.nodes (row k)) (node_at net.nodes k).name
      (said_cap_in (row k) (contains_filter is_charged (sums net.caps) (row k) here some)) (0, omega arith, refl)

  by_resistor : (k : ℕ) → list_any (λ (res : ℕ × ℕ × ℕ). (res.0 == k) || (res.1 == k)) net.ress ≡ true → has_node (all_nodes net.name (said_by net)) (node_at net.nodes k).name ≡ true
  by_resistor k e =
      let (res, has, at) = any_contains (λ (res : ℕ × ℕ × ℕ). (res.0 == k) || (res.1 == k)) net.ress e in
      ends res has (either_true (res.0 == k) (res.1 == k) at)
    where
      ends : (res : ℕ × ℕ × ℕ) → Contains net.ress res → ((res.0 == k) ≡ true) ⊎ ((res.1 == k) ≡ true)
          → has_node (all_nodes net.name (said_by net)) (node_at net.nodes k).name ≡ true
      ends res has (inl first) =
          let same : res.0 ≡ k = grind (arith, nat_tests) in
          named_by (said_res net.nodes res) (node_at net.nodes k).name (said_res_in res has) (0, omega arith, ap (λ j. (node_at net.nodes j).name) same)
      ends res has (inr second) =
          let same : res.1 ≡ k = grind (arith, nat_tests) in
          named_by (said_res net.nodes res) (node_at net.nodes k).name (said_res_in res has) (1, omega arith, ap (λ j. (node_at net.nodes j).name) same)

  by_star : (k : ℕ) → k < length net.nodes → (node_at net.nodes k).inner ≡ true → not (length (node_at net.nodes k).note == 0) ≡ true
      → has_node (all_nodes net.name (said_by net)) (node_at net.nodes k).name ≡ true
  by_star k l inner some =
      named_by (said_star (node_at net.nodes k)) (node_at net.nodes k).name (said_star_in (node_at net.nodes k) (star_in net k l inner some)) (0, omega arith, refl)

  named_has : (k : ℕ) → k < length net.nodes → is_named net k ≡ true → has_node (all_nodes net.name (said_by net)) (node_at net.nodes k).name ≡ true
  named_has k l named =
      elim (cases_lt k (length net.conns)) as (λ _. has_node (all_nodes net.name (said_by net)) (node_at net.nodes k).name ≡ true) [
        | inl joined ↦ by_conn k joined
        | inr later ↦
            let inner = inner_later net k l later in
            inside inner
            (ap (λ t. not t || (not (length (node_at net.nodes k).note == 0) || (not (total_at net.caps k == 0) || list_any (λ (res : ℕ × ℕ × ℕ). (res.0 == k) || (res.1 == k)) net.ress))) (sym inner) ∙ named)
      ]
    where
      inside : (node_at net.nodes k).inner ≡ true
          → (not (length (node_at net.nodes k).note == 0) || (not (total_at net.caps k == 0) || list_any (λ (res : ℕ × ℕ × ℕ). (res.0 == k) || (res.1 == k)) net.ress)) ≡ true
          → has_node (all_nodes net.name (said_by net)) (node_at net.nodes k).name ≡ true
      inside inner e =
          elim (either_true (not (length (node_at net.nodes k).note == 0)) (not (total_at net.caps k == 0) || list_any (λ (res : ℕ × ℕ × ℕ). (res.0 == k) || (res.1 == k)) net.ress) e)
          as (λ _. has_node (all_nodes net.name (said_by net)) (node_at net.nodes k).name ≡ true) [
            | inl some ↦ by_star k l inner some
            | inr more ↦ elim (either_true (not (total_at net.caps k == 0)) (list_any (λ (res : ℕ × ℕ × ℕ). (res.0 == k) || (res.1 == k)) net.ress) more)
                as (λ _. has_node (all_nodes net.name (said_by net)) (node_at net.nodes k).name ≡ true) [
                  | inl charge ↦ by_charge k l charge
                  | inr res ↦ by_resistor k res
                ]
          ]

-- ---- the net again

module _ (net other : ParNet) (is : IsNet net.name false (said_by net) other) where
  other_names : names_of other.nodes ≡ all_nodes net.name (said_by net)
  other_names = ap names_of is.nodes ∙ names_back (joined_of (said_by net)) (starred_of (said_by net)) (all_nodes net.name (said_by net))

  again_conns : map (conn_at (names_of other.nodes)) other.conns ≡ map (conn_at (names_of net.nodes)) net.conns
  again_conns =
      let row : ConnKind × NodeName × Direction → ConnKind × Option NodeName × Direction = λ r. (r.0, Some r.1, r.2) in
      ap (λ names. map (conn_at names) other.conns) other_names
      ∙ is.conns
      ∙ ap (map row) (conns_said net)
      ∙ map_twice row (conn_row net.nodes) net.conns
      ∙ map_agree (λ conn. row (conn_row net.nodes conn)) (conn_at (names_of net.nodes)) net.conns
      (All-weaker (IsConnOf net.nodes) (λ conn. row (conn_row net.nodes conn) ≡ conn_at (names_of net.nodes) conn)
      (λ conn at. ap (λ o. (conn.kind, o, conn.direction)) (sym (name_at net conn.node at.within)))
      net.conns (conns_are net))

  again_caps : map (cap_at (names_of other.nodes)) other.caps ≡ map (cap_at (names_of net.nodes)) (charged net)
  again_caps =
      let row : NodeName × ℕ → Option NodeName × ℕ = λ r. (Some r.0, r.1) in
      ap (λ names. map (cap_at names) other.caps) other_names
      ∙ is.caps
      ∙ ap (map row) (caps_said net (connected_of (said_by net)) net.name)
      ∙ map_twice row (cap_row net.nodes) (charged net)
      ∙ map_agree (λ cap. row (cap_row net.nodes cap)) (cap_at (names_of net.nodes)) (charged net)
      (All-weaker (IsRowOf net.caps (length net.nodes)) (λ cap. row (cap_row net.nodes cap) ≡ cap_at (names_of net.nodes) cap)
      (λ cap at. ap (λ o. (o, cap.1)) (sym (name_at net cap.0 at.within)))
      (charged net) (rows_are net))

  again_ress : map (res_at (names_of other.nodes)) other.ress ≡ map (res_at (names_of net.nodes)) net.ress
  again_ress =
      let row : NodeName × NodeName × ℕ → Option NodeName × Option NodeName × ℕ = λ r. (Some r.0, Some r.1, r.2) in
      ap (λ names. map (res_at names) other.ress) other_names
      ∙ is.ress
      ∙ ap (map row) (ress_said net)
      ∙ map_twice row (res_row net.nodes) net.ress
      ∙ map_agree (λ res. row (res_row net.nodes res)) (res_at (names_of net.nodes)) net.ress
      (All-weaker (IsResOf (length net.nodes)) (λ res. row (res_row net.nodes res) ≡ res_at (names_of net.nodes) res)
      (λ res at. ap (λ o. (o, Some (node_at net.nodes res.1).name, res.2)) (sym (name_at net res.0 at.0)) ∙ ap (λ o. (slice_get (names_of net.nodes) res.0, o, res.2)) (sym (name_at net res.1 at.1)))
      net.ress net.sound.ress_at)

  again_nodes : All (Contains net.nodes) other.nodes
  again_nodes =
      subst (All (Contains net.nodes)) (sym is.nodes)
      (All-map (Contains net.nodes) (described (joined_of (said_by net)) (starred_of (said_by net))) (all_nodes net.name (said_by net))
      (All-weaker (NameIn net) (λ name. Contains net.nodes (described (joined_of (said_by net)) (starred_of (said_by net)) name))
      (λ name at. subst (Contains net.nodes)
      (sym (ap (described (joined_of (said_by net)) (starred_of (said_by net))) (sym at.is) ∙ described_is net at.at at.within))
      (Contains-get_or net.nodes at.at NO_NODE at.within))
      (all_nodes net.name (said_by net)) (names_in net)))

  again_kept : (k : ℕ) → k < length net.nodes → is_named net k ≡ true → Contains other.nodes (node_at net.nodes k)
  again_kept k l named =
      let describe = described (joined_of (said_by net)) (starred_of (said_by net)) in
      let all = all_nodes net.name (said_by net) in
      subst (λ nodes. Contains nodes (node_at net.nodes k)) (sym is.nodes)
      (subst (Contains (map describe all)) (described_is net k l)
      (contains_map describe all (node_at net.nodes k).name (contains_from all (node_at net.nodes k).name (named_has net k l named))))

pub written_nets_again : WrittenNetsAgain
written_nets_again net other writable is = record {
  named = is.named;
  conns = again_conns net other is;
  nodes = again_nodes net other is;
  kept = again_kept net other is;
  caps = again_caps net other is;
  ress = again_ress net other is;
  whole = is.is_reduced;
  plain = is.is_inductive ∙ plain_said net;
}
