-- What the type of a net keeps, as its section needs it.
use Rattle.std.proofs.Common.{◌≡◌, ℕ, ◌<◌, ◌≤◌, ◌^◌, true, false, List, length, map, ap, ◌∙◌, arith}
use Rattle.std.proofs.lemmas.List.{length-map}
use Rattle.std.proofs.lemmas.List.Elements.{All-get_or, All-map, All-weaker}
use Rattle.std.proofs.lemmas.List.Sums.{length-filter, count_by-le-length}
use Rattle.std.proofs.lemmas.Option.{slice_get-get_or, slice_get_within}
use Rattle.std.specs.List.{All}
use Rattle.spef_nodes.specs.Nodes.{ParNode}
use Rattle.spef_net.specs.declared.net.ParConn.{ParConn}
use Rattle.spef_net.specs.declared.net.ParNet.{ParNet}
use Rattle.spef_net.specs.Nets.{IsCapOf, IsNamed, IsNote, IsEnd}
use Rattle.spef_net.specs.Statements.{is_at}
use Rattle.spef_net.proofs.JoinedLemmas.{all_from}
use Rattle.spef_write.specs.Sections.{NO_NODE, node_at, total, total_at, is_charged, cap_nodes, sums, charged}
use Rattle.spef_write.specs.Texts.{IsNodePrintable}
use Rattle.spef_write.proofs.ChargeLemmas.{IsRowOf, rows_are, total_at-le}
use Rattle.spef_write.proofs.OnceLemmas.{once_few}

pub node_printable : (net : ParNet) (k : ℕ) → k < length net.nodes → IsNodePrintable (node_at net.nodes k).name
node_printable net k l =
    let is : IsNamed (node_at net.nodes k) = All-get_or IsNamed net.nodes k NO_NODE l net.sound.nodes_named in
    record { owner = is.0; leaf = is.1 }

pub note_is : (net : ParNet) (k : ℕ) → k < length net.nodes → IsNote (node_at net.nodes k).note
note_is net k l = All-get_or (λ (node : ParNode). IsNote node.note) net.nodes k NO_NODE l net.sound.notes

-- a connection at one of these nodes, which is no inner one
pub record IsConnOf (nodes : List ParNode) (conn : ParConn) : Type 0 where
  pub within : conn.node < length nodes
  pub joined : (node_at nodes conn.node).inner ≡ false
  pub at : is_at conn.kind (node_at nodes conn.node).name ≡ true

pub conns_are : (net : ParNet) → All (IsConnOf net.nodes) net.conns
conns_are net = all_from (IsConnOf net.nodes) net.conns (λ i conn e. conn_is i conn (net.sound.joined.numbers i conn e) (omega (arith, slice_get_within net.conns i conn e, net.sound.joined.few))
    (λ l. net.sound.joined.ends i conn (node_at net.nodes i) e (slice_get-get_or net.nodes i NO_NODE l)))
  where
    conn_is : (i : ℕ) (conn : ParConn) → conn.node ≡ i → i < length net.nodes → (i < length net.nodes → IsEnd conn (node_at net.nodes i)) → IsConnOf net.nodes conn
    conn_is i conn same l end = record {
      within = omega (arith, same, l);
      joined = ap (λ k. (node_at net.nodes k).inner) same ∙ (end l).0;
      at = ap (λ k. is_at conn.kind (node_at net.nodes k).name) same ∙ (end l).1;
    }

-- a node with what it has of the capacitances
pub record IsChargeOf (nodes : List ParNode) (row : ℕ × ℕ) : Type 0 where
  pub within : row.0 < length nodes
  pub small : row.1 ≤ 10 ^ 15

pub charges_are : (net : ParNet) → total net.caps ≤ 10 ^ 15 → All (IsChargeOf net.nodes) (charged net)
charges_are net few =
    All-weaker (IsRowOf net.caps (length net.nodes)) (IsChargeOf net.nodes)
    (λ row is. record { within = is.within; small = omega (arith, is.sum, total_at-le net.caps row.0, few) })
    (charged net) (rows_are net)

-- at most one charge for each node
pub charged_few : (net : ParNet) → length (charged net) ≤ length net.nodes
charged_few net =
    omega (
      arith,
      length-filter is_charged (sums net.caps),
      count_by-le-length is_charged (sums net.caps),
      length-map {B = ℕ × ℕ} (cap_nodes net.caps) (λ k. (k, total_at net.caps k)),
      once_few (length net.nodes) (map (λ (cap : ℕ × ℕ). cap.0) net.caps)
          (All-map (λ k. k < length net.nodes) (λ (cap : ℕ × ℕ). cap.0) net.caps
          (All-weaker (IsCapOf (length net.nodes)) (λ cap. cap.0 < length net.nodes) (λ cap is. is.0) net.caps net.sound.caps_at)),
    )
