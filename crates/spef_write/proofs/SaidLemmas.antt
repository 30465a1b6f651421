-- What a section says, by kind.
use Rattle.std.proofs.Common.{◌≡◌, ℕ, false, ◌||◌, Bool, List, [], ◌∷◌, ◌++◌, map, filter, refl, sym, ap, ◌∙◌, Option, Some, None}
use Rattle.std.specs.List.{filter_map, list_any, cons_option}
use Rattle.std.proofs.lemmas.List.{append-nil}
use Rattle.std.proofs.lemmas.List.Elements.{filter_map-append}
use Rattle.vg_scan.specs.declared.name.NodeName.{NodeName}
use Rattle.spef_nodes.specs.Nodes.{ParNode}
use Rattle.spef_net.specs.declared.net.ConnKind.{ConnKind}
use Rattle.spef_net.specs.declared.net.Direction.{Direction}
use Rattle.spef_net.specs.declared.net.ParConn.{ParConn}
use Rattle.spef_net.specs.declared.net.ParNet.{ParNet}
use Rattle.spef_net.specs.Statements.{Stated}
use Rattle.std.specs.Prelude.{codes}
use Rattle.spef_net.specs.Rows.{conn_in, joined_in, starred_in, cap_in, res_in, joined_of, starred_of, connected_of, conns_of, caps_of, ress_of, is_inductance, is_inductive}
use Rattle.spef_write.specs.Sections.{node_at, charged, has_star}
use Rattle.spef_write.specs.SectionLaws.{said_conn, said_star, said_cap, said_res, said_by, opens, opened}

abbrev pub row_name : List ParNode → ParConn → NodeName
row_name nodes conn = (node_at nodes conn.node).name

-- a connection's node and note, and those of an inner node
abbrev pub conn_note : List ParNode → ParConn → NodeName × List ℕ
conn_note nodes conn = (row_name nodes conn, (node_at nodes conn.node).note)

abbrev pub star_note : ParNode → NodeName × List ℕ
star_note node = (node.name, node.note)

abbrev pub conn_row : List ParNode → ParConn → ConnKind × NodeName × Direction
conn_row nodes conn = (conn.kind, row_name nodes conn, conn.direction)

abbrev pub cap_row : List ParNode → ℕ × ℕ → NodeName × ℕ
cap_row nodes cap = ((node_at nodes cap.0).name, cap.1)

abbrev pub res_row : List ParNode → ℕ × ℕ × ℕ → NodeName × NodeName × ℕ
res_row nodes res = ((node_at nodes res.0).name, (node_at nodes res.1).name, res.2)

-- ---- one kind of what is said

pub none_mapped : {X Y : Type 0} (h : Stated → Option Y) (say : X → Stated) → ((x : X) → h (say x) ≡ None) → (xs : List X) → filter_map h (map say xs) ≡ []
none_mapped h say none [] = refl
none_mapped h say none (x ∷ xs) = ap (λ o. cons_option o (filter_map h (map say xs))) (none x) ∙ none_mapped h say none xs

pub some_mapped : {X Y : Type 0} (h : Stated → Option Y) (say : X → Stated) (g : X → Y) → ((x : X) → h (say x) ≡ Some (g x)) → (xs : List X) → filter_map h (map say xs) ≡ map g xs
some_mapped h say g some [] = refl
some_mapped h say g some (x ∷ xs) = ap (λ o. cons_option o (filter_map h (map say xs))) (some x) ∙ ap (λ ys. g x ∷ ys) (some_mapped h say g some xs)

opened_same : {Y : Type 0} (h : Stated → Option Y) (head : List ℕ) → h (opens head) ≡ None → (ls : List Stated) → filter_map h (opened head ls) ≡ filter_map h ls
opened_same h head none [] = refl
opened_same h head none (l ∷ ls) = ap (λ o. cons_option o (filter_map h (l ∷ ls))) none

-- what of one kind a section says, by what of it each part says
pub by_parts : {Y : Type 0} (h : Stated → Option Y) (net : ParNet) (a b c d : List Y) → h (opens (codes "*CONN")) ≡ None → h (opens (codes "*CAP")) ≡ None → h (opens (codes "*RES")) ≡ None
    → filter_map h (map (said_conn net.nodes) net.conns) ≡ a → filter_map h (map said_star (filter has_star net.nodes)) ≡ b
    → filter_map h (map (said_cap net.nodes) (charged net)) ≡ c → filter_map h (map (said_res net.nodes) net.ress) ≡ d
    → filter_map h (said_by net) ≡ a ++ (b ++ (c ++ d))
by_parts h net a b c d no_conn no_cap no_res e f g k =
    let conns = map (said_conn net.nodes) net.conns in
    let stars = map said_star (filter has_star net.nodes) in
    let caps = map (said_cap net.nodes) (charged net) in
    let ress = map (said_res net.nodes) net.ress in
    ap (λ o. cons_option o (filter_map h (conns ++ (stars ++ (opened (codes "*CAP") caps ++ opened (codes "*RES") ress))))) no_conn
    ∙ filter_map-append h conns (stars ++ (opened (codes "*CAP") caps ++ opened (codes "*RES") ress))
    ∙ ap (λ ys. ys ++ filter_map h (stars ++ (opened (codes "*CAP") caps ++ opened (codes "*RES") ress))) e
    ∙ ap (λ ys. a ++ ys)
    (filter_map-append h stars (opened (codes "*CAP") caps ++ opened (codes "*RES") ress)
    ∙ ap (λ ys. ys ++ filter_map h (opened (codes "*CAP") caps ++ opened (codes "*RES") ress)) f
    ∙ ap (λ ys. b ++ ys)
    (filter_map-append h (opened (codes "*CAP") caps) (opened (codes "*RES") ress)
    ∙ ap (λ ys. ys ++ filter_map h (opened (codes "*RES") ress)) (opened_same h (codes "*CAP") no_cap caps ∙ g)
    ∙ ap (λ ys. c ++ ys) (opened_same h (codes "*RES") no_res ress ∙ k)))

module _ (net : ParNet) where
  pub joined_said : joined_of (said_by net) ≡ map (conn_note net.nodes) net.conns
  joined_said =
      by_parts joined_in net (map (conn_note net.nodes) net.conns) [] [] [] refl refl refl
      (some_mapped joined_in (said_conn net.nodes) (conn_note net.nodes) (λ _. refl) net.conns) (none_mapped joined_in said_star (λ _. refl) (filter has_star net.nodes))
      (none_mapped joined_in (said_cap net.nodes) (λ _. refl) (charged net)) (none_mapped joined_in (said_res net.nodes) (λ _. refl) net.ress)
      ∙ append-nil (map (conn_note net.nodes) net.conns)

  pub starred_said : starred_of (said_by net) ≡ map star_note (filter has_star net.nodes)
  starred_said =
      by_parts starred_in net [] (map star_note (filter has_star net.nodes)) [] [] refl refl refl
      (none_mapped starred_in (said_conn net.nodes) (λ _. refl) net.conns) (some_mapped starred_in said_star star_note (λ _. refl) (filter has_star net.nodes))
      (none_mapped starred_in (said_cap net.nodes) (λ _. refl) (charged net)) (none_mapped starred_in (said_res net.nodes) (λ _. refl) net.ress)
      ∙ append-nil (map star_note (filter has_star net.nodes))

  pub conns_said : conns_of (said_by net) ≡ map (conn_row net.nodes) net.conns
  conns_said =
      by_parts conn_in net (map (conn_row net.nodes) net.conns) [] [] [] refl refl refl
      (some_mapped conn_in (said_conn net.nodes) (conn_row net.nodes) (λ _. refl) net.conns) (none_mapped conn_in said_star (λ _. refl) (filter has_star net.nodes))
      (none_mapped conn_in (said_cap net.nodes) (λ _. refl) (charged net)) (none_mapped conn_in (said_res net.nodes) (λ _. refl) net.ress)
      ∙ append-nil (map (conn_row net.nodes) net.conns)

  pub caps_said : (connected : List NodeName) (name : List ℕ) → caps_of connected name (said_by net) ≡ map (cap_row net.nodes) (charged net)
  caps_said connected name =
      by_parts (cap_in connected name) net [] [] (map (cap_row net.nodes) (charged net)) [] refl refl refl
      (none_mapped (cap_in connected name) (said_conn net.nodes) (λ _. refl) net.conns) (none_mapped (cap_in connected name) said_star (λ _. refl) (filter has_star net.nodes))
      (some_mapped (cap_in connected name) (said_cap net.nodes) (cap_row net.nodes) (λ _. refl) (charged net)) (none_mapped (cap_in connected name) (said_res net.nodes) (λ _. refl) net.ress)
      ∙ append-nil (map (cap_row net.nodes) (charged net))

  pub ress_said : ress_of (said_by net) ≡ map (res_row net.nodes) net.ress
  ress_said =
      by_parts res_in net [] [] [] (map (res_row net.nodes) net.ress) refl refl refl
      (none_mapped res_in (said_conn net.nodes) (λ _. refl) net.conns) (none_mapped res_in said_star (λ _. refl) (filter has_star net.nodes))
      (none_mapped res_in (said_cap net.nodes) (λ _. refl) (charged net)) (some_mapped res_in (said_res net.nodes) (res_row net.nodes) (λ _. refl) net.ress)

  pub connected_said : connected_of (said_by net) ≡ map (row_name net.nodes) net.conns
  connected_said = ap (map (λ row. row.0)) joined_said ∙ map_twice net.conns
    where
      map_twice : (conns : List ParConn) → map (λ (row : NodeName × List ℕ). row.0) (map (conn_note net.nodes) conns) ≡ map (row_name net.nodes) conns
      map_twice [] = refl
      map_twice (conn ∷ conns) = ap (λ xs. row_name net.nodes conn ∷ xs) (map_twice conns)

-- no part of a section is one of inductances
any_none : {X : Type 0} (test : Stated → Bool) (say : X → Stated) → ((x : X) → test (say x) ≡ false) → (xs : List X) (rest : List Stated) → list_any test (map say xs ++ rest) ≡ list_any test rest
any_none test say none [] rest = refl
any_none test say none (x ∷ xs) rest = ap (λ b. b || list_any test (map say xs ++ rest)) (none x) ∙ any_none test say none xs rest

any_opened : {X : Type 0} (test : Stated → Bool) (head : List ℕ) (say : X → Stated) → test (opens head) ≡ false → ((x : X) → test (say x) ≡ false) → (xs : List X) (rest : List Stated)
    → list_any test (opened head (map say xs) ++ rest) ≡ list_any test rest
any_opened test head say opening none [] rest = refl
any_opened test head say opening none (x ∷ xs) rest = ap (λ b. b || list_any test (map say (x ∷ xs) ++ rest)) opening ∙ any_none test say none (x ∷ xs) rest

pub plain_said : (net : ParNet) → is_inductive (said_by net) ≡ false
plain_said net =
    let ress = opened (codes "*RES") (map (said_res net.nodes) net.ress) in
    let caps = opened (codes "*CAP") (map (said_cap net.nodes) (charged net)) in
    any_none is_inductance (said_conn net.nodes) (λ _. refl) net.conns (map said_star (filter has_star net.nodes) ++ (caps ++ ress))
    ∙ any_none is_inductance said_star (λ _. refl) (filter has_star net.nodes) (caps ++ ress)
    ∙ any_opened is_inductance (codes "*CAP") (said_cap net.nodes) refl (λ _. refl) (charged net) ress
    ∙ ap (list_any is_inductance) (sym (append-nil ress))
    ∙ any_opened is_inductance (codes "*RES") (said_res net.nodes) refl (λ _. refl) net.ress []
