-- A net that nothing refuses by its parasitics: its driver, and what is decided by its tree.
use Rattle.std.proofs.Common.{◌≡◌, ◌⊎◌, ℕ, zero, suc, ◌+◌, ◌^◌, ◌<◌, ◌≤◌, true, false, List, [], ◌∷◌, length, refl, sym, ap, ◌∙◌, subst, arith, inl, inr}
use Rattle.std.specs.List.{All, Contains, list_any}
use Rattle.std.proofs.lemmas.Bool.{cases_Bool, cases_eq, cases_lt}
use Rattle.std.proofs.lemmas.List.Elements.{All-head, All-filter, All-contains_itself}
use Rattle.std.proofs.lemmas.Option.{slice_get-get_or}
use Rattle.cut_laws.proofs.SomeTreeLemmas.{some_tree}
use Rattle.elmore.specs.declared.tree.Node.{Node}
use Rattle.elmore.specs.Trees.{total_resistance, total_capacitance}
use Rattle.rc_tree.specs.Answers.{IsTreeOf}
use Rattle.rc_tree.specs.Chains.{AreJoined}
use Rattle.spef_net.specs.declared.net.ParConn.{ParConn}
use Rattle.spef_net.specs.declared.net.ParNet.{ParNet}
use Rattle.spef_wire.specs.Refusals.{IsDrivenAt, IsNetTree, IsWithinNetLimits, PassesUpTo, drives, drivers_of, is_sink, most_capacitors, most_nodes}
use Rattle.spef_wire.specs.declared.refusal.Refusal.TheVariants.{Reduced, Inductive, NoDriver, ManyDrivers, Floating, Loop, NoSink, TooLarge}
use Rattle.spef_write.specs.Sections.{NO_NODE, node_at}
use Rattle.spef_write.proofs.ClearLemmas.{conn_number}

-- it has a driver
pub driven : (net : ParNet) → PassesUpTo 17 net → (root : ℕ) × IsDrivenAt net root
driven net passed = by (drivers_of net) refl
  where
    by : (l : List ParConn) → drivers_of net ≡ l → (root : ℕ) × IsDrivenAt net root
    by [] e = absurd (passed NoDriver (omega arith) e)
    by (driver ∷ []) e = (driver.node, record { driver = driver; alone = e; at = refl })
    by (driver ∷ other ∷ more) e =
        absurd (passed ManyDrivers (omega arith) (omega (arith, ap (λ (l : List ParConn). length l) e)))

-- whose node is that of a connection
pub driven_low : (net : ParNet) (root : ℕ) → IsDrivenAt net root → root < length net.conns
driven_low net root d =
    let (i, low, at) = All-head (Contains net.conns) d.driver []
    (subst (All (Contains net.conns)) d.alone
    (All-filter drives (Contains net.conns) net.conns (All-contains_itself net.conns))) in
    let node : d.driver.node ≡ i = ap (λ (c : ParConn). c.node) (sym at) ∙ conn_number net i d.driver low in
    omega (arith, node, d.at, low)

pub is_whole : (net : ParNet) → PassesUpTo 17 net → net.reduced ≡ false
is_whole net passed = elim (cases_Bool net.reduced) [
  | inl is ↦ absurd (passed Reduced (omega arith) is)
  | inr never ↦ never
]

pub is_plain : (net : ParNet) → PassesUpTo 17 net → net.inductive ≡ false
is_plain net passed = elim (cases_Bool net.inductive) [
  | inl is ↦ absurd (passed Inductive (omega arith) is)
  | inr never ↦ never
]

pub has_sink : (net : ParNet) → PassesUpTo 17 net → list_any is_sink net.conns ≡ true
has_sink net passed = elim (cases_Bool (list_any is_sink net.conns)) [
  | inl is ↦ is
  | inr never ↦ absurd (passed NoSink (omega arith) never)
]

-- ---- its tree

-- it cannot be that not all nodes are joined to the root
joined_below : (net : ParNet) → PassesUpTo 17 net → (root : ℕ) → IsDrivenAt net root → (k : ℕ) → k ≤ length net.nodes
    → (((v : ℕ) → v < k → AreJoined net.ress root v) → ⊥) → ⊥
joined_below net passed root d zero k_n never = never (λ v v_0. absurd (omega arith))
joined_below net passed root d (suc k) k_n never =
    joined_below net passed root d k (omega arith) (λ before.
    passed (Floating (node_at net.nodes k).name) (omega arith) (record {
      root = root;
      driven = d;
      v = k;
      floating = record {
        node = omega arith;
        floats = λ joined. never (λ v v_k. elim (cases_eq v k) [
          | inl e ↦ subst (AreJoined net.ress root) (sym e) joined
          | inr e ↦ before v (omega (arith, v_k, e))
        ]);
        before = before;
      };
      named = record {
        node = node_at net.nodes k;
        at = slice_get-get_or net.nodes k NO_NODE (omega arith);
        name_is = refl;
      };
    }))

-- what can be decided is so where it is so by the net's tree
pub by_tree : (net : ParNet) → PassesUpTo 17 net → (root : ℕ) → IsDrivenAt net root → (P : Type 0) → P ⊎ (P → ⊥)
    → ((tree : List Node) (order : List ℕ) → IsTreeOf (length net.nodes) root net.caps net.ress tree order
    → IsWithinNetLimits net tree → P)
    → P
by_tree net passed root d P (inl is) f = is
by_tree net passed root d P (inr never) f =
    absurd (joined_below net passed root d (length net.nodes) (omega arith) (λ joined.
    elim (cases_eq (length net.ress + 1) (length net.nodes)) [
      | inl count ↦
          let (tree, order, a_tree) =
          some_tree (length net.nodes) root net.caps net.ress
          (omega (arith, driven_low net root d, net.sound.joined.few))
          (λ j j_n. let at = net.sound.ress_at j (0, 0, 0) j_n in (at.0, at.1)) joined count in
          passed TooLarge (omega arith) (record {
            tree = tree;
            order = order;
            a_tree = record { root = root; driven = d; a_tree = a_tree };
            past = λ within. never (f tree order a_tree within);
          })
      | inr other ↦ passed Loop (omega arith)
          (record { root = root; driven = d; loop = record { joined = joined; count = other } })
    ]))

-- a tree has one resistor fewer than nodes
pub one_fewer : (net : ParNet) → PassesUpTo 17 net → length net.ress + 1 ≡ length net.nodes
one_fewer net passed =
    let (root, d) = driven net passed in
    by_tree net passed root d (length net.ress + 1 ≡ length net.nodes)
    (cases_eq (length net.ress + 1) (length net.nodes))
    (λ tree order a_tree within. a_tree.no_loop)

-- at most so much, as it is not more
at_most : (a b : ℕ) → (b < a → ⊥) → a ≤ b
at_most a b never = elim (cases_lt b a) [ inl more ↦ absurd (never more) | inr few ↦ few ]

-- its tree is within the limits
pub within_limits : (net : ParNet) → PassesUpTo 17 net → (tree : List Node) (order : List ℕ) → IsNetTree net tree order
    → IsWithinNetLimits net tree
within_limits net passed tree order a_tree = record {
  nodes = at_most (length net.nodes) most_nodes (λ more. past (λ w. omega (arith, w.nodes, more)));
  capacitors = at_most (length net.caps) most_capacitors (λ more. past (λ w. omega (arith, w.capacitors, more)));
  sums = record {
    resistances =
        at_most (total_resistance tree) (10 ^ 12) (λ more. past (λ w. omega (arith, w.sums.resistances, more)));
    capacitances =
        at_most (total_capacitance tree) (10 ^ 11) (λ more. past (λ w. omega (arith, w.sums.capacitances, more)));
  };
}
  where
    past : (IsWithinNetLimits net tree → ⊥) → ⊥
    past never = passed TooLarge (omega arith) (record { tree = tree; order = order; a_tree = a_tree; past = never })
