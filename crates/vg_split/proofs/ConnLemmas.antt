-- The connections of a stage, one more.
use Rattle.std.proofs.Common.{◌≡◌, ℕ, ◌+◌, ◌-◌, ◌<◌, ◌==◌, true, false, not, cond, List, [], ◌∷◌, ◌++◌, length, get_or, slice_index, map, refl, sym, ap, ◌∙◌, subst, arith, inl, inr, Some}
use Rattle.std.specs.List.{range_with_len, slice_get}
use Rattle.std.proofs.lemmas.Bool.{cases_lt, false≢true, ne_eqb}
use Rattle.std.proofs.lemmas.List.{get_or_append_left, get_or-append_right, get_or-map, get_or_push, length-append, length-map, length_push}
use Rattle.std.proofs.lemmas.List.Elements.{All-filter, filter_passes}
use Rattle.std.proofs.lemmas.List.FromFn.{fill_by_all}
use Rattle.std.proofs.lemmas.Option.{get_or_from_slice_get, slice_get-get_or, slice_get_within}
use Rattle.vg_scan.specs.declared.chars.Chars.{Chars}
use Rattle.spef_net.specs.declared.net.ConnKind.TheVariants.{Pin}
use Rattle.spef_net.specs.declared.net.ParConn.{ParConn}
use Rattle.spef_net.specs.Nets.{AreJoined, IsEnd}
use Rattle.spef_net.specs.Statements.{is_at}
use Rattle.spef_nodes.specs.Nodes.{ParNode}
use Rattle.vg_split.specs.Stages.{members}
use Rattle.spef_write.specs.Sections.{NO_NODE}
use Rattle.vg_split.specs.Conditions.{IsSplit}
use Rattle.vg_split.specs.Splits.{NO_CONN, Split, conn_in, ends_in, forest, head, inner_in, is_end, kind_of, name_in, node_in, nodes_in, old_conn, old_node, pin_in}
use Rattle.vg_split.specs.Steps.{AreConns, conn_of}
use Rattle.vg_split.proofs.KindLemmas.{Kind, inner, kept, pin, kind, old_low}
use Rattle.vg_split.proofs.MemberLemmas.{members_low}
use Rattle.vg_split.proofs.SoundLemmas.{named_pin}

pub conns_more : (x : Split) (k : ℕ) (ws : List ℕ) (conns new : List ParConn) (w number : ℕ) → AreConns x k ws conns → number ≡ length ws
    → new ≡ conns ++ conn_of x k w number ∷ [] → AreConns x k (ws ++ w ∷ []) new
conns_more x k ws conns new w number are last new_is = record {
  even = ap (λ (l : List ParConn). length l) new_is ∙ length_push conns (conn_of x k w number) ∙ ap (λ n. n + 1) are.even ∙ sym (length_push ws w);
  each = λ i low. elim (cases_lt i (length ws)) [
    | inl less ↦
        ap (λ (l : List ParConn). get_or l i NO_CONN) new_is ∙ get_or_append_left conns (conn_of x k w number ∷ []) NO_CONN i (omega (arith, less, are.even))
        ∙ are.each i less ∙ ap (λ u. conn_of x k u i) (sym (get_or_append_left ws (w ∷ []) 0 i less))
    | inr past ↦
        let i_is : i ≡ length ws = omega (arith, past, low, length_push ws w) in
        ap (λ (l : List ParConn). get_or l i NO_CONN) new_is ∙ get_or_push conns (conn_of x k w number) NO_CONN i (omega (arith, i_is, are.even))
        ∙ ap (conn_of x k w) (last ∙ sym i_is) ∙ ap (λ u. conn_of x k u i) (sym (get_or_push ws w 0 i (sym i_is)))
  ];
}

pub all_conns : (x : Split) (k : ℕ) (conns : List ParConn) → AreConns x k (ends_in x k) conns
    → conns ≡ map (conn_in x k) (range_with_len 0 (length (ends_in x k)))
all_conns x k conns are = fill_by_all (conn_in x k) conns (length (ends_in x k)) NO_CONN are.even are.each

-- ---- connections stand at their nodes

-- what is read of the connection of a number, and of its node
conn_at : (x : Split) (k : ℕ) (conns : List ParConn) → AreConns x k (ends_in x k) conns → (i : ℕ) (conn : ParConn) → slice_get conns i ≡ Some conn
    → conn ≡ conn_of x k (slice_index (ends_in x k) i) i
conn_at x k conns are i conn e =
    sym (get_or_from_slice_get conns i conn NO_CONN e) ∙ are.each i (omega (arith, slice_get_within conns i conn e, are.even))

node_at : (chars : Chars) (x : Split) (k i : ℕ) (node : ParNode) → slice_get (map (node_in chars x k) (nodes_in x k)) i ≡ Some node
    → node ≡ node_in chars x k (slice_index (nodes_in x k) i)
node_at chars x k i node e =
    let f = node_in chars x k in
    let low : i < length (nodes_in x k) = omega (arith, slice_get_within (map f (nodes_in x k)) i node e, length-map (nodes_in x k) f) in
    sym (get_or_from_slice_get (map f (nodes_in x k)) i node node e) ∙ get_or-map f (nodes_in x k) i 0 node low

-- a pin or port of the net, as the net has it
old_end : (x : Split) → IsSplit x → (w : ℕ) → w < length x.problem.tree.nodes → (old_node x w).inner ≡ false
    → is_at (old_conn x w).kind (old_node x w).name ≡ true
old_end x is w low outside =
    let joined = x.par.sound.joined in
    let at = slice_index x.order w in
    let node_is : slice_get x.par.nodes at ≡ Some (old_node x w) = slice_get-get_or x.par.nodes at NO_NODE (old_low x is w low) in
    elim (cases_lt at (length x.par.conns)) [
      | inl less ↦ (joined.ends at (old_conn x w) (old_node x w) (slice_get-get_or x.par.conns at NO_CONN less) node_is).1
      | inr more ↦ absurd (false≢true (sym outside ∙ joined.inner at (old_node x w) more node_is))
    ]

some_leaf : (leaf : List ℕ) → 0 < length leaf → not (length leaf == 0) ≡ true
some_leaf leaf some = ap not (ne_eqb (length leaf) 0 (λ e. omega (arith, some, e)))

end_is : (chars : Chars) (x : Split) → IsSplit x → (k w number : ℕ) → w < length x.problem.tree.nodes → is_end x w ≡ true
    → IsEnd (conn_of x k w number) (node_in chars x k w)
end_is chars x is k w number low end = (ap not end, by (kind x k w))
  where
    by : Kind x k w → is_at (kind_of x w) (name_in x k w) ≡ true
    by (pin a) =
        ap (λ b. is_at (cond b Pin (old_conn x w).kind) (name_in x k w)) a.celled ∙ ap (is_at Pin) a.name
        ∙ some_leaf (pin_in x k w) (named_pin x is k w a.celled).some
    by (inner a) = absurd (false≢true (sym a.end ∙ end))
    by (kept a) =
        ap (λ b. is_at (cond b Pin (old_conn x w).kind) (name_in x k w)) a.bare ∙ ap (is_at (old_conn x w).kind) a.name ∙ old_end x is w low a.inner

pub joined : (chars : Chars) (x : Split) → IsSplit x → (k : ℕ) (conns : List ParConn) → AreConns x k (ends_in x k) conns
    → AreJoined conns (map (node_in chars x k) (nodes_in x k))
joined chars x is k conns are = record {
  few = omega (arith, are.even, length-map (nodes_in x k) (node_in chars x k), length-append (ends_in x k) (inner_in x k));
  numbers = λ i conn e. ap (λ (c : ParConn). c.node) (conn_at x k conns are i conn e);
  ends = λ i conn node e f.
      let low : i < length (ends_in x k) = omega (arith, slice_get_within conns i conn e, are.even) in
      let w = slice_index (ends_in x k) i in
      let w_at : slice_index (nodes_in x k) i ≡ w = get_or_append_left (ends_in x k) (inner_in x k) 0 i low in
      let node_is : node ≡ node_in chars x k w = node_at chars x k i node f ∙ ap (node_in chars x k) w_at in
      subst (λ (c : ParConn). IsEnd c node) (sym (conn_at x k conns are i conn e))
      (subst (IsEnd (conn_of x k w i)) (sym node_is)
      (end_is chars x is k w i (All-filter (is_end x) (λ u. u < length x.problem.tree.nodes) (members (forest x) (head x k)) (members_low x k) i 0 low)
      (filter_passes (is_end x) (members (forest x) (head x k)) i 0 low)));
  inner = λ i node high e.
      let within = slice_get_within (map (node_in chars x k) (nodes_in x k)) i node e in
      let count = length-map (nodes_in x k) (node_in chars x k) in
      let j = i - length (ends_in x k) in
      let j_low : j < length (inner_in x k) = omega (arith, within, count, length-append (ends_in x k) (inner_in x k), high, are.even) in
      let w_at : slice_index (nodes_in x k) i ≡ slice_index (inner_in x k) j
      = get_or-append_right (ends_in x k) (inner_in x k) (length (ends_in x k)) i 0 refl (omega (arith, high, are.even)) in
      ap (λ (n : ParNode). n.inner) (node_at chars x k i node e) ∙ ap (λ w. not (is_end x w)) w_at
      ∙ filter_passes (λ w. not (is_end x w)) (members (forest x) (head x k)) j 0 j_low;
}
