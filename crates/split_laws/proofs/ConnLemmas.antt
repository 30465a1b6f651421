-- The connections of a net, by their numbers.
use Rattle.std.proofs.Common.{◌≡◌, ◌≢◌, ℕ, zero, suc, ◌<◌, ◌≤◌, ◌==◌, ◌&&◌, Bool, true, false, cond, List, [], ◌∷◌, length, get_or, refl, sym, ap, ◌∙◌, subst, arith, inl, inr}
use Rattle.std.specs.List.{filter, list_any, All, Contains}
use Rattle.std.proofs.lemmas.Bool.{and_from, and_left, and_right, cases_Bool, cases_eq, cases_lt, eq-eqb, false≢true, ne_eqb}
use Rattle.std.proofs.lemmas.List.{get_or_default}
use Rattle.std.proofs.lemmas.List.Elements.{All-contains, All-contains_itself, All-filter, All-from_get_or, Contains-get_or, filter_passes}
use Rattle.std.proofs.lemmas.List.Folds.{list_any_at, list_any_none}
use Rattle.std.proofs.lemmas.Option.{slice_get-get_or}
use Rattle.spef_net.specs.declared.net.ParConn.{ParConn}
use Rattle.spef_net.specs.declared.net.ParNet.{ParNet}
use Rattle.vg_split.specs.Splits.{NO_CONN}
use Rattle.spef_wire.specs.Refusals.{IsDrivenAt, drives, goes_both_ways, is_sink}
use Rattle.spef_wire.specs.Wires.{is_sink_node}
use Rattle.spef_write.specs.Sections.{NO_NODE, node_at}
use Rattle.spef_write.proofs.ClearLemmas.{conn_number}
use Rattle.spef_write.proofs.NetLemmas.{conns_are}
use Rattle.split_laws.proofs.ListLemmas.{contains_filter}

-- ---- their nodes

pub end_node : (net : ParNet) (i : ℕ) → i < length net.conns → (node_at net.nodes i).inner ≡ false
end_node net i low = ap (λ j. (node_at net.nodes j).inner) (sym (conn_number net i NO_CONN low)) ∙ (conns_are net i NO_CONN low).joined

pub inner_node : (net : ParNet) (i : ℕ) → i < length net.nodes → length net.conns ≤ i → (node_at net.nodes i).inner ≡ true
inner_node net i low later = net.sound.joined.inner i (node_at net.nodes i) later (slice_get-get_or net.nodes i NO_NODE low)

pub conn_low : (net : ParNet) (i : ℕ) → i < length net.nodes → (node_at net.nodes i).inner ≡ false → i < length net.conns
conn_low net i low outer = elim (cases_lt i (length net.conns)) [
  | inl less ↦ less
  | inr later ↦ absurd (false≢true (sym outer ∙ inner_node net i low later))
]

-- ---- sinks

-- the node of a connection is a sink's where the connection is a sink
pub sink_here : (net : ParNet) (i : ℕ) → i < length net.conns → is_sink_node net i ≡ is_sink (get_or net.conns i NO_CONN)
sink_here net i low = elim (cases_Bool (is_sink (get_or net.conns i NO_CONN))) [
  | inl does ↦
      list_any_at (λ (conn : ParConn). is_sink conn && (conn.node == i)) net.conns i NO_CONN low
      (and_from (is_sink (get_or net.conns i NO_CONN)) ((get_or net.conns i NO_CONN).node == i) does
      (eq-eqb (get_or net.conns i NO_CONN).node i (conn_number net i NO_CONN low)))
      ∙ sym does
  | inr none ↦
      list_any_none (λ (conn : ParConn). is_sink conn && (conn.node == i)) net.conns
      (All-from_get_or (λ (conn : ParConn). (is_sink conn && (conn.node == i)) ≡ false) net.conns NO_CONN (other none))
      ∙ sym none
]
  where
    other : is_sink (get_or net.conns i NO_CONN) ≡ false → (j : ℕ) → j < length net.conns
        → (is_sink (get_or net.conns j NO_CONN) && ((get_or net.conns j NO_CONN).node == i)) ≡ false
    other none j j_low = elim (cases_eq j i) [
      | inl same ↦
          and_left (is_sink (get_or net.conns j NO_CONN)) ((get_or net.conns j NO_CONN).node == i) (ap (λ m. is_sink (get_or net.conns m NO_CONN)) same ∙ none)
      | inr differ ↦
          and_right (is_sink (get_or net.conns j NO_CONN)) ((get_or net.conns j NO_CONN).node == i)
          (ne_eqb (get_or net.conns j NO_CONN).node i (λ e. differ (sym (conn_number net j NO_CONN j_low) ∙ e)))
    ]

-- and another node is none
pub no_sink : (net : ParNet) (i : ℕ) → length net.conns ≤ i → is_sink_node net i ≡ false
no_sink net i later =
    list_any_none (λ (conn : ParConn). is_sink conn && (conn.node == i)) net.conns
    (All-from_get_or (λ (conn : ParConn). (is_sink conn && (conn.node == i)) ≡ false) net.conns NO_CONN (λ j low.
    and_right (is_sink (get_or net.conns j NO_CONN)) ((get_or net.conns j NO_CONN).node == i)
    (ne_eqb (get_or net.conns j NO_CONN).node i (λ e. omega (arith, conn_number net j NO_CONN low, e, later, low)))))

-- ---- drivers

-- the connection of this number alone drives the net
pub record IsDriver (net : ParNet) (root : ℕ) : Type 0 where
  pub low : root < length net.conns
  pub here : drives (get_or net.conns root NO_CONN) ≡ true
  pub others : (i : ℕ) → i < length net.conns → i ≢ root → drives (get_or net.conns i NO_CONN) ≡ false

one_of : {X : Type 0} (x y : X) → Contains (x ∷ []) y → y ≡ x
one_of x y (zero, low, is) = sym is
one_of x y (suc i, low, is) = absurd (omega (arith, low))

-- a connection that drives is the driver, and so has its number
driver_number : (net : ParNet) (root : ℕ) → IsDrivenAt net root → (i : ℕ) → i < length net.conns
    → drives (get_or net.conns i NO_CONN) ≡ true → i ≡ root
driver_number net root driven i low does =
    let there = contains_filter drives net.conns (get_or net.conns i NO_CONN) (Contains-get_or net.conns i NO_CONN low) does in
    let same : get_or net.conns i NO_CONN ≡ driven.driver
    = one_of driven.driver (get_or net.conns i NO_CONN) (subst (λ (l : List ParConn). Contains l (get_or net.conns i NO_CONN)) driven.alone there) in
    sym (conn_number net i NO_CONN low) ∙ ap (λ (c : ParConn). c.node) same ∙ driven.at

pub driver_is : (net : ParNet) (root : ℕ) → IsDrivenAt net root → IsDriver net root
driver_is net root driven =
    let kept : All (Contains net.conns) (filter drives net.conns) = All-filter drives (Contains net.conns) net.conns (All-contains_itself net.conns) in
    let passes : All (λ conn. drives conn ≡ true) (filter drives net.conns) = filter_passes drives net.conns in
    let there : Contains (filter drives net.conns) driven.driver
    = subst (λ (l : List ParConn). Contains l driven.driver) (sym driven.alone) (0, omega arith, refl) in
    let does : drives driven.driver ≡ true = All-contains (λ conn. drives conn ≡ true) (filter drives net.conns) driven.driver passes there in
    let (i, low, is) = All-contains (Contains net.conns) (filter drives net.conns) driven.driver kept there in
    let at : i ≡ root = sym (conn_number net i driven.driver low) ∙ ap (λ (c : ParConn). c.node) is ∙ driven.at in
    let conn : get_or net.conns root NO_CONN ≡ driven.driver
    = ap (λ j. get_or net.conns j NO_CONN) (sym at) ∙ get_or_default net.conns i NO_CONN driven.driver low ∙ is in
    record {
      low = omega (arith, low, at);
      here = ap drives conn ∙ does;
      others = λ j j_low other. elim (cases_Bool (drives (get_or net.conns j NO_CONN))) [
        | inl both ↦ absurd (other (driver_number net root driven j j_low both))
        | inr none ↦ none
      ];
    }

-- where the first alone passes, nothing else is kept
pub one_first : {X : Type 0} (p : X → Bool) (xs : List X) (d : X) → 0 < length xs → p (get_or xs 0 d) ≡ true
    → ((i : ℕ) → 0 < i → i < length xs → p (get_or xs i d) ≡ false) → filter p xs ≡ get_or xs 0 d ∷ []
one_first p [] d some does none = absurd (omega (arith, some))
one_first p (x ∷ xs) d some does none =
    ap (λ b. cond b (x ∷ filter p xs) (filter p xs)) does
    ∙ ap (λ (l : List _). x ∷ l) (nothing xs (λ i low. none (suc i) (omega arith) (omega (arith, low))))
  where
    nothing : (ys : List _) → ((i : ℕ) → i < length ys → p (get_or ys i d) ≡ false) → filter p ys ≡ []
    nothing [] all = refl
    nothing (y ∷ ys) all = ap (λ b. cond b (y ∷ filter p ys) (filter p ys)) (all 0 (omega arith)) ∙ nothing ys (λ i low. all (suc i) (omega (arith, low)))

-- ---- directions

pub each_one_way : (conns : List ParConn) → list_any goes_both_ways conns ≡ false → (i : ℕ) → i < length conns
    → goes_both_ways (get_or conns i NO_CONN) ≡ false
each_one_way conns none i low = elim (cases_Bool (goes_both_ways (get_or conns i NO_CONN))) [
  | inl both ↦ absurd (false≢true (sym none ∙ list_any_at goes_both_ways conns i NO_CONN low both))
  | inr one ↦ one
]
