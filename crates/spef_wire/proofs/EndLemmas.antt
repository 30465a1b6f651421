-- The drivers among connections.
use Rattle.std.proofs.Common.{◌≡◌, ℕ, ◌+◌, ◌<◌, List, [], ◌∷◌, ◌++◌, length, get_or, take, cond, filter, sym, subst, arith}
use Rattle.std.proofs.lemmas.List.Elements.{filter_more, All-filter, All-same, All-head}
use Rattle.elmore.specs.declared.tree.Node.{Node}
use Rattle.rc_tree.specs.Answers.{IsTreeOf}
use Rattle.rc_tree.specs.Nets.{IsNet}
use Rattle.spef_net.specs.Sections.{IsSized}
use Rattle.spef_net.proofs.NetLemmas.{conns_within}
use Rattle.spef_net.specs.declared.net.ParConn.{ParConn}
use Rattle.spef_net.specs.declared.net.ParNet.{ParNet}
use Rattle.spef_wire.specs.declared.ends.Drivers.{Drivers}
use Rattle.spef_wire.specs.Refusals.{drives, IsDrivenAt}
use Rattle.spef_wire.specs.Steps.{AreDrivers}

-- with one connection more
pub drivers_more : (conns : List ParConn) (i : ℕ) (d : ParConn) (before after : Drivers) → i < length conns
    → AreDrivers (filter drives (take i conns)) before
    → ((list : List ParConn) → AreDrivers list before → AreDrivers (list ++ cond (drives (get_or conns i d)) (get_or conns i d ∷ []) []) after)
    → AreDrivers (filter drives (take (i + 1) conns)) after
drivers_more conns i d before after h are step =
    subst (λ (list : List ParConn). AreDrivers list after) (sym (filter_more drives conns i d h)) (step (filter drives (take i conns)) are)

-- the driver's node is a node
root_within : (net : ParNet) (root : ℕ) → IsDrivenAt net root → root < length net.nodes
root_within net root driven =
    subst (λ (v : ℕ). v < length net.nodes) driven.at
    (All-head (λ (conn : ParConn). conn.node < length net.nodes) driven.driver []
    (All-same (λ (conn : ParConn). conn.node < length net.nodes) (driven.driver ∷ []) (filter drives net.conns) (sym driven.alone)
    (All-filter drives (λ (conn : ParConn). conn.node < length net.nodes) net.conns (conns_within net))))

own_net : (net : ParNet) (root : ℕ) → IsSized net → IsDrivenAt net root → IsNet (length net.nodes) root net.caps net.ress
own_net net root sized driven =
    let within = root_within net root driven in
    record {
      some = omega arith;
      most = sized.node_count;
      root_node = within;
      cap_count = sized.cap_count;
      cap_nodes = λ k h. (net.sound.caps_at k (0, 0) h).0;
      cap_values = λ k h. (net.sound.caps_at k (0, 0) h).1;
      edge_count = sized.res_count;
      from_nodes = λ j h. (net.sound.ress_at j (0, 0, 0) h).0;
      to_nodes = λ j h. (net.sound.ress_at j (0, 0, 0) h).1;
    }

pub net_is : (net : ParNet) (root n : ℕ) (caps : List (ℕ × ℕ)) (ress : List (ℕ × ℕ × ℕ)) → IsSized net → IsDrivenAt net root
    → n ≡ length net.nodes → caps ≡ net.caps → ress ≡ net.ress → IsNet n root caps ress
net_is net root n caps ress sized driven e f g =
    subst (λ (m : ℕ). IsNet m root caps ress) (sym e)
    (subst (λ (cs : List (ℕ × ℕ)). IsNet (length net.nodes) root cs ress) (sym f)
    (subst (λ (rs : List (ℕ × ℕ × ℕ)). IsNet (length net.nodes) root net.caps rs) (sym g) (own_net net root sized driven)))

pub tree_is : (net : ParNet) (root n : ℕ) (caps : List (ℕ × ℕ)) (ress : List (ℕ × ℕ × ℕ)) (tree : List Node) (order : List ℕ)
    → n ≡ length net.nodes → caps ≡ net.caps → ress ≡ net.ress → IsTreeOf n root caps ress tree order
    → IsTreeOf (length net.nodes) root net.caps net.ress tree order
tree_is net root n caps ress tree order e f g is =
    subst (λ (m : ℕ). IsTreeOf m root net.caps net.ress tree order) e
    (subst (λ (cs : List (ℕ × ℕ)). IsTreeOf n root cs net.ress tree order) f
    (subst (λ (rs : List (ℕ × ℕ × ℕ)). IsTreeOf n root caps rs tree order) g is))
