-- No line of a section has a fault.
use Rattle.std.proofs.Common.{◌≡◌, ◌≢◌, ℕ, zero, suc, ◌<◌, ◌≤◌, ◌^◌, ◌==◌, ◌||◌, not, Bool, true, false, cond, List, [], ◌∷◌, ◌++◌, map, filter, refl, sym, ap, ◌∙◌, arith, length, take, get_or, subst, inl, inr, Some, None, Ok}
use Rattle.std.specs.Prelude.{codes}
use Rattle.std.specs.List.{All, Contains, slice_get}
use Rattle.std.proofs.lemmas.Bool.{cases_lt, cases_eq}
use Rattle.std.proofs.lemmas.List.{get_or_default, append-nil, append_assoc, length-map, length-take, get_or-take, get_or-map}
use Rattle.std.proofs.lemmas.List.Elements.{All-nil, All-cons, All-head, All-tail, All-weaker, All-get_or, All-filter, All-map, All-contains_itself, filter_passes, filter_map-append}
use Rattle.std.proofs.lemmas.Option.{slice_get-get_or}
use Rattle.vg_scan.specs.declared.name.NodeName.{NodeName}
use Rattle.vg_scan.specs.Nodes.{same_node, has_node, node_value}
use Rattle.spef_nodes.specs.Names.{is_own}
use Rattle.spef_nodes.specs.Members.{is_inner}
use Rattle.spef_nodes.specs.Nodes.{ParNode}
use Rattle.spef_nodes.proofs.NodeListLemmas.{same_is}
use Rattle.spef_nodes.proofs.ApartLemmas.{has_at}
use Rattle.spef_net.specs.declared.net.ConnKind.TheVariants.{Pin}
use Rattle.spef_net.specs.declared.net.Direction.TheVariants.{In}
use Rattle.spef_net.specs.declared.net.ParConn.{ParConn}
use Rattle.spef_net.specs.declared.net.ParNet.{ParNet}
use Rattle.spef_net.specs.Nets.{IsInside, IsResOf}
use Rattle.spef_net.specs.Statements.{Stated, Nothing, Ground, Resistor}
use Rattle.spef_net.specs.Rows.{joined_in, starred_in, joined_of, starred_of, connected_of}
use Rattle.spef_net.specs.Faults.{fault_of}
use Rattle.spef_write.specs.Sections.{NO_NODE, node_at, total, charged, has_star}
use Rattle.spef_write.specs.SectionLaws.{SaidNetsAreFaultless, said_conn, said_star, said_cap, said_res, said_by, opens, opened}
use Rattle.spef_write.proofs.WordLemmas.{both_true}
use Rattle.spef_write.proofs.NetLemmas.{conns_are, charges_are, IsConnOf, IsChargeOf}
use Rattle.spef_write.proofs.SaidLemmas.{row_name, conn_note, connected_said, none_mapped, some_mapped}

-- ---- the nodes of a net, by their names

-- nodes of one name are one node
pub one_node : (net : ParNet) (j k : ℕ) → j < length net.nodes → k < length net.nodes → (node_at net.nodes j).name ≡ (node_at net.nodes k).name → j ≡ k
one_node net j k l m same =
    elim (cases_eq j k) as (λ _. j ≡ k) [
      | inl e ↦ e
      | inr other ↦ elim (cases_lt j k) as (λ _. j ≡ k) [
        | inl before ↦ absurd (net.sound.distinct j k NO_NODE before m same)
        | inr after ↦ absurd (net.sound.distinct k j NO_NODE (omega (arith, other, after)) l (sym same))
      ]
    ]

-- the connection of a number is at the node of this number
pub conn_number : (net : ParNet) (i : ℕ) (d : ParConn) → i < length net.conns → (get_or net.conns i d).node ≡ i
conn_number net i d l = net.sound.joined.numbers i (get_or net.conns i d) (slice_get-get_or net.conns i d l)

-- rows have nothing for a node that is none of theirs
pub value_absent : {V : Type 0} (rows : List (NodeName × V)) (node : NodeName) → All (λ (row : NodeName × V). row.0 ≢ node) rows → node_value rows node ≡ None
value_absent [] node all = refl
value_absent (row ∷ rows) node all =
    step (same_node node row.0) refl (value_absent rows node (All-tail (λ (r : NodeName × _). r.0 ≢ node) row rows all))
  where
    step : (t : Bool) → same_node node row.0 ≡ t → node_value rows node ≡ None → cond t (Some row.1) (node_value rows node) ≡ None
    step true e later = absurd (All-head (λ (r : NodeName × _). r.0 ≢ node) row rows all (sym (same_is node row.0 e)))
    step false e later = later

-- ---- no fault in lines, where others stand before them

abbrev ClearFrom : List NodeName → List ℕ → List Stated → List Stated → Type 0
ClearFrom connected net before [] = Unit {0}
ClearFrom connected net before (line ∷ lines) = (fault_of connected net before line ≡ None) × ClearFrom connected net (before ++ line ∷ []) lines

clear_at : (connected : List NodeName) (net : List ℕ) (before lines : List Stated) → ClearFrom connected net before lines → (i : ℕ) → i < length lines
    → fault_of connected net (before ++ take i lines) (get_or lines i (Ok Nothing)) ≡ None
clear_at connected net before [] clear i l = absurd (omega (arith, l))
clear_at connected net before (line ∷ lines) clear zero l = ap (λ ls. fault_of connected net ls line) (append-nil before) ∙ clear.0
clear_at connected net before (line ∷ lines) clear (suc i) l =
    ap (λ ls. fault_of connected net ls (get_or lines i (Ok Nothing))) (sym (append_assoc before (line ∷ []) (take i lines)))
    ∙ clear_at connected net (before ++ line ∷ []) lines clear.1 i (omega (arith, l))

clear_both : (connected : List NodeName) (net : List ℕ) (before xs ys : List Stated) → ClearFrom connected net before xs → ClearFrom connected net (before ++ xs) ys
    → ClearFrom connected net before (xs ++ ys)
clear_both connected net before [] ys a b = subst (λ ls. ClearFrom connected net ls ys) (append-nil before) b
clear_both connected net before (x ∷ xs) ys a b =
    (a.0, clear_both connected net (before ++ x ∷ []) xs ys a.1 (subst (λ ls. ClearFrom connected net ls ys) (sym (append_assoc before (x ∷ []) xs)) b))

-- lines that have no fault whatever stands before them
clear_always : (connected : List NodeName) (net : List ℕ) (lines : List Stated) → All (λ line. (b : List Stated) → fault_of connected net b line ≡ None) lines
    → (before : List Stated) → ClearFrom connected net before lines
clear_always connected net [] all before = tt
clear_always connected net (line ∷ lines) all before = (
  All-head (λ l. (b : List Stated) → fault_of connected net b l ≡ None) line lines all before,
  clear_always connected net lines (All-tail (λ l. (b : List Stated) → fault_of connected net b l ≡ None) line lines all) (before ++ line ∷ []),
)

-- lines that have none behind those of their own kind
clear_map : {X : Type 0} (connected : List NodeName) (net : List ℕ) (say : X → Stated) (xs : List X) (before : List Stated)
    → ((i : ℕ) (d : X) → i < length xs → fault_of connected net (before ++ map say (take i xs)) (say (get_or xs i d)) ≡ None)
    → ClearFrom connected net before (map say xs)
clear_map connected net say [] before clear = tt
clear_map connected net say (x ∷ xs) before clear = (
  ap (λ ls. fault_of connected net ls (say x)) (sym (append-nil before)) ∙ clear 0 x (omega arith),
  clear_map connected net say xs (before ++ say x ∷ []) (λ i d l.
      ap (λ ls. fault_of connected net ls (say (get_or xs i d))) (append_assoc before (say x ∷ []) (map say (take i xs))) ∙ clear (suc i) d (omega (arith, l))),
)

-- ---- what has no fault by itself

opens_clear : (connected : List NodeName) (net : List ℕ) (before : List Stated)
    → (fault_of connected net before (opens (codes "*CONN")) ≡ None) × (fault_of connected net before (opens (codes "*CAP")) ≡ None) × (fault_of connected net before (opens (codes "*RES")) ≡ None)
unfolding fault_of
opens_clear connected net before = (refl, refl, refl)

cap_clear : (connected : List NodeName) (net : List ℕ) (before : List Stated) (node : NodeName) (v : ℕ) → is_own connected net node ≡ true
    → fault_of connected net before (Ok (Ground node (Ok v))) ≡ None
unfolding fault_of
cap_clear connected net before node v own = rw own refl

res_clear : (connected : List NodeName) (net : List ℕ) (before : List Stated) (a b : NodeName) (v : ℕ) → is_own connected net a ≡ true → is_own connected net b ≡ true
    → fault_of connected net before (Ok (Resistor a b (Ok v))) ≡ None
unfolding fault_of
res_clear connected net before a b v first second = rw (first, second) refl

conn_clear : (connected : List NodeName) (net : List ℕ) (before : List Stated) (nodes : List ParNode) (conn : ParConn)
    → node_value (joined_of before) (row_name nodes conn) ≡ None → node_value (starred_of before) (row_name nodes conn) ≡ None
    → fault_of connected net before (said_conn nodes conn) ≡ None
unfolding fault_of
conn_clear connected net before nodes conn joined starred = rw (joined, starred) refl

star_clear : (connected : List NodeName) (net : List ℕ) (before : List Stated) (node : ParNode) → is_inner net node.name ≡ true → node_value (joined_of before) node.name ≡ None
    → fault_of connected net before (said_star node) ≡ None
unfolding fault_of
star_clear connected net before node inner joined = rw (inner, joined) refl

opened_clear : (connected : List NodeName) (net : List ℕ) (head : List ℕ) (lines : List Stated) → ((b : List Stated) → fault_of connected net b (opens head) ≡ None)
    → All (λ line. (b : List Stated) → fault_of connected net b line ≡ None) lines → All (λ line. (b : List Stated) → fault_of connected net b line ≡ None) (opened head lines)
opened_clear connected net head [] first all = All-nil (λ line. (b : List Stated) → fault_of connected net b line ≡ None)
opened_clear connected net head (line ∷ lines) first all = All-cons (λ l. (b : List Stated) → fault_of connected net b l ≡ None) (opens head) (line ∷ lines) first all

-- ---- the nodes of a section are the net's

module _ (net : ParNet) where
  -- a node is a connection's, or inside the net
  pub own_node : (k : ℕ) → k < length net.nodes → is_own (connected_of (said_by net)) net.name (node_at net.nodes k).name ≡ true
  own_node k l = ap (λ names. is_own names net.name (node_at net.nodes k).name) (connected_said net) ∙ own
    where
      name : NodeName
      name = (node_at net.nodes k).name

      or_left : (a b : Bool) → a ≡ true → (a || b) ≡ true
      or_left a b e = rw e refl

      or_right : (a b : Bool) → b ≡ true → (a || b) ≡ true
      or_right true b e = refl
      or_right false b e = e

      own : is_own (map (row_name net.nodes) net.conns) net.name name ≡ true
      own =
          elim (cases_lt k (length net.conns)) as (λ _. is_own (map (row_name net.nodes) net.conns) net.name name ≡ true) [
            | inl joined ↦
                let conn = get_or net.conns k (record { kind = Pin; node = 0; direction = In }) in
                let at : slice_get (map (row_name net.nodes) net.conns) k ≡ Some name =
                slice_get-get_or (map (row_name net.nodes) net.conns) k name (omega (arith, joined, length-map net.conns (row_name net.nodes)))
                ∙ ap Some (get_or-map (row_name net.nodes) net.conns k (record { kind = Pin; node = 0; direction = In }) name joined
                ∙ ap (λ j. (node_at net.nodes j).name) (conn_number net k (record { kind = Pin; node = 0; direction = In }) joined)) in
                or_left (has_node (map (row_name net.nodes) net.conns) name) (is_inner net.name name) (has_at (map (row_name net.nodes) net.conns) k name at)
            | inr later ↦
                let inner : (node_at net.nodes k).inner ≡ true = net.sound.joined.inner k (node_at net.nodes k) later (slice_get-get_or net.nodes k NO_NODE l) in
                or_right (has_node (map (row_name net.nodes) net.conns) name) (is_inner net.name name)
                (All-get_or (IsInside net.name) net.nodes k NO_NODE l net.sound.inside inner)
          ]

-- an inner node with a note, by its number
pub record StarAt (net : ParNet) (node : ParNode) : Type 0 where
  pub at : ℕ
  pub within : at < length net.nodes
  pub is : node_at net.nodes at ≡ node
  pub inner : node.inner ≡ true
  pub some : not (length node.note == 0) ≡ true

pub stars_at : (net : ParNet) → All (StarAt net) (filter has_star net.nodes)
stars_at net = λ i d l.
    let node = get_or (filter has_star net.nodes) i d in
    let (k, m, e) : Contains net.nodes node = All-filter has_star (Contains net.nodes) net.nodes (All-contains_itself net.nodes) i d l in
    let star = both_true node.inner (not (length node.note == 0)) (filter_passes has_star net.nodes i d l) in
    record { at = k; within = m; is = get_or_default net.nodes k NO_NODE node m ∙ e; inner = star.0; some = star.1 }

-- no inner node has the name of a connection's
pub star_apart : (net : ParNet) (node : ParNode) → StarAt net node → All (λ conn. row_name net.nodes conn ≢ node.name) net.conns
star_apart net node star =
    All-weaker (IsConnOf net.nodes) (λ conn. row_name net.nodes conn ≢ node.name)
    (λ conn is same. differ conn is (one_node net conn.node star.at is.within star.within (same ∙ sym (ap (λ (n : ParNode). n.name) star.is))))
    net.conns (conns_are net)
  where
    differ : (conn : ParConn) → IsConnOf net.nodes conn → conn.node ≡ star.at → ⊥
    differ conn is e =
        let clash : false ≡ true = sym is.joined ∙ ap (λ k. (node_at net.nodes k).inner) e ∙ ap (λ (n : ParNode). n.inner) star.is ∙ star.inner in
        absurd (cc)

-- the connections before one have other names
conn_apart : (net : ParNet) (i : ℕ) (d : ParConn) → i < length net.conns → All (λ conn. row_name net.nodes conn ≢ row_name net.nodes (get_or net.conns i d)) (take i net.conns)
conn_apart net i d l = λ k e m same.
    let before : k < i = omega (arith, m, length-take i net.conns) in
    let at : (get_or (take i net.conns) k e).node ≡ k = ap (λ (c : ParConn). c.node) (get_or-take i net.conns k e before) ∙ conn_number net k e (omega (arith, before, l)) in
    let names : (node_at net.nodes k).name ≡ (node_at net.nodes i).name =
    ap (λ j. (node_at net.nodes j).name) (sym at) ∙ same ∙ ap (λ j. (node_at net.nodes j).name) (conn_number net i d l) in
    absurd (let e : k ≡ i = one_node net k i (omega (arith, before, l, net.sound.joined.few)) (omega (arith, l, net.sound.joined.few)) names in omega (arith, e, before))

module _ (net : ParNet) where
  conns_clear : (before : List Stated) → joined_of before ≡ [] → starred_of before ≡ [] → ClearFrom (connected_of (said_by net)) net.name before (map (said_conn net.nodes) net.conns)
  conns_clear before no_joined no_starred =
      clear_map (connected_of (said_by net)) net.name (said_conn net.nodes) net.conns before (λ i d l.
      let here = map (said_conn net.nodes) (take i net.conns) in
      let name = row_name net.nodes (get_or net.conns i d) in
      conn_clear (connected_of (said_by net)) net.name (before ++ here) net.nodes (get_or net.conns i d)
      (ap (λ rows. node_value rows name)
      (filter_map-append joined_in before here ∙ ap (λ rows. rows ++ joined_of here) no_joined ∙ some_mapped joined_in (said_conn net.nodes) (conn_note net.nodes) (λ _. refl) (take i net.conns))
      ∙ value_absent (map (conn_note net.nodes) (take i net.conns)) name
      (All-map (λ (row : NodeName × List ℕ). row.0 ≢ name) (conn_note net.nodes) (take i net.conns) (conn_apart net i d l)))
      (ap (λ rows. node_value rows name)
      (filter_map-append starred_in before here ∙ ap (λ rows. rows ++ starred_of here) no_starred ∙ none_mapped starred_in (said_conn net.nodes) (λ _. refl) (take i net.conns))))

  stars_clear : (before : List Stated) → joined_of before ≡ map (conn_note net.nodes) net.conns
      → ClearFrom (connected_of (said_by net)) net.name before (map said_star (filter has_star net.nodes))
  stars_clear before joined =
      clear_map (connected_of (said_by net)) net.name said_star (filter has_star net.nodes) before (λ i d l.
      let here = map said_star (take i (filter has_star net.nodes)) in
      let node = get_or (filter has_star net.nodes) i d in
      let star : StarAt net node = stars_at net i d l in
      star_clear (connected_of (said_by net)) net.name (before ++ here) node
      (All-filter has_star (IsInside net.name) net.nodes net.sound.inside i d l star.inner)
      (ap (λ rows. node_value rows node.name)
      (filter_map-append joined_in before here
      ∙ ap (λ rows. rows ++ joined_of here) joined
      ∙ ap (λ rows. map (conn_note net.nodes) net.conns ++ rows) (none_mapped joined_in said_star (λ _. refl) (take i (filter has_star net.nodes)))
      ∙ append-nil (map (conn_note net.nodes) net.conns))
      ∙ value_absent (map (conn_note net.nodes) net.conns) node.name
      (All-map (λ (row : NodeName × List ℕ). row.0 ≢ node.name) (conn_note net.nodes) net.conns (star_apart net node star))))

  caps_clear : total net.caps ≤ 10 ^ 15 → (before : List Stated) → ClearFrom (connected_of (said_by net)) net.name before (opened (codes "*CAP") (map (said_cap net.nodes) (charged net)))
  caps_clear few =
      clear_always (connected_of (said_by net)) net.name (opened (codes "*CAP") (map (said_cap net.nodes) (charged net)))
      (opened_clear (connected_of (said_by net)) net.name (codes "*CAP") (map (said_cap net.nodes) (charged net)) (λ b. (opens_clear (connected_of (said_by net)) net.name b).1)
      (All-map (λ line. (b : List Stated) → fault_of (connected_of (said_by net)) net.name b line ≡ None) (said_cap net.nodes) (charged net)
      (All-weaker (IsChargeOf net.nodes) (λ cap. (b : List Stated) → fault_of (connected_of (said_by net)) net.name b (said_cap net.nodes cap) ≡ None)
      (λ cap is b. cap_clear (connected_of (said_by net)) net.name b (node_at net.nodes cap.0).name cap.1 (own_node net cap.0 is.within))
      (charged net) (charges_are net few))))

  ress_clear : (before : List Stated) → ClearFrom (connected_of (said_by net)) net.name before (opened (codes "*RES") (map (said_res net.nodes) net.ress))
  ress_clear =
      clear_always (connected_of (said_by net)) net.name (opened (codes "*RES") (map (said_res net.nodes) net.ress))
      (opened_clear (connected_of (said_by net)) net.name (codes "*RES") (map (said_res net.nodes) net.ress) (λ b. (opens_clear (connected_of (said_by net)) net.name b).2)
      (All-map (λ line. (b : List Stated) → fault_of (connected_of (said_by net)) net.name b line ≡ None) (said_res net.nodes) net.ress
      (All-weaker (IsResOf (length net.nodes)) (λ res. (b : List Stated) → fault_of (connected_of (said_by net)) net.name b (said_res net.nodes res) ≡ None)
      (λ res is b. res_clear (connected_of (said_by net)) net.name b (node_at net.nodes res.0).name (node_at net.nodes res.1).name res.2 (own_node net res.0 is.0) (own_node net res.1 is.1))
      net.ress net.sound.ress_at)))

pub said_nets_are_faultless : SaidNetsAreFaultless
said_nets_are_faultless net writable = clear_at (connected_of (said_by net)) net.name [] (said_by net) clear
  where
    clear : ClearFrom (connected_of (said_by net)) net.name [] (said_by net)
    clear =
        let conns = map (said_conn net.nodes) net.conns in
        let stars = map said_star (filter has_star net.nodes) in
        let caps = opened (codes "*CAP") (map (said_cap net.nodes) (charged net)) in
        let ress = opened (codes "*RES") (map (said_res net.nodes) net.ress) in
        let first = opens (codes "*CONN") ∷ [] in
        let own = connected_of (said_by net) in (
          (opens_clear own net.name []).0,
          clear_both own net.name first conns (stars ++ (caps ++ ress)) (conns_clear net first refl refl)
              (clear_both own net.name (first ++ conns) stars (caps ++ ress)
              (stars_clear net (first ++ conns) (some_mapped joined_in (said_conn net.nodes) (conn_note net.nodes) (λ _. refl) net.conns))
              (clear_both own net.name ((first ++ conns) ++ stars) caps ress (caps_clear net writable.charge ((first ++ conns) ++ stars)) (ress_clear net (((first ++ conns) ++ stars) ++ caps)))),
        )
