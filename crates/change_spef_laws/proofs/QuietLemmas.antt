-- The nets of stages can be written, with notes that stay where comments are made blank.
use Rattle.std.proofs.Common.{◌≡◌, ℕ, suc, ◌+◌, ◌<◌, ◌≤◌, ◌^◌, ◌==◌, not, Bool, true, false, cond, List, [], ◌∷◌, length, drop, slice_index, refl, sym, ap, ◌∙◌, subst, arith, inl, inr, All}
use Rattle.std.specs.List.{filter, sum_by}
use Rattle.std.proofs.lemmas.Bool.{cases_eq, eq-eqb}
use Rattle.std.proofs.lemmas.List.{length-append, length-drop, length-map}
use Rattle.std.proofs.lemmas.List.Elements.{All-append, All-filter, All-map, All-weaker}
use Rattle.std.proofs.lemmas.List.Sums.{sum_by-append, sum_by-cons}
use Rattle.spef_net.specs.declared.net.ParNet.{ParNet}
use Rattle.spef_net.specs.Nets.{IsCapOf}
use Rattle.spef_nodes.specs.Nodes.{ParNode}
use Rattle.vg_scan.specs.declared.chars.Chars.{Chars}
use Rattle.vg_split.specs.Conditions.{IsSplit}
use Rattle.vg_split.specs.Splits.{Split, IsStageNet, cap_in, ends_in, forest, head, inner_in, is_celled, is_end, node_in, nodes_in, note_in, old_node, repeater_at, res_in, with_cell}
use Rattle.vg_split.proofs.ChargeLemmas.{own_sum, small_charge}
use Rattle.vg_split.proofs.MemberLemmas.{few_members, members_low}
use Rattle.vg_split.proofs.NumberedLemmas.{filter_few}
use Rattle.spef_patch_laws.specs.Replacements.{HasQuietNotes, IsQuietNet}
use Rattle.spef_patch_laws.proofs.CellLemmas.{with_cells}
use Rattle.vg_split.specs.Stages.{members}
use Rattle.spef_write.specs.Sections.{NO_NODE, total, total_at}
use Rattle.spef_write.specs.Texts.{IsQuietLine}

-- ---- capacitors at the nodes of a list

-- the sum over a list, of each item and its number
sum_from : (ℕ → ℕ → ℕ) → ℕ → List ℕ → ℕ
sum_from f i [] = 0
sum_from f i (w ∷ ws) = f i w + sum_from f (suc i) ws

sum_both : (f g h : ℕ → ℕ → ℕ) → ((i w : ℕ) → f i w ≡ g i w + h i w) → (i : ℕ) (ws : List ℕ) → sum_from f i ws ≡ sum_from g i ws + sum_from h i ws
unfolding sum_from
sum_both f g h e i [] = refl
sum_both f g h e i (w ∷ ws) = omega (arith, e i w, sum_both f g h e (suc i) ws)

one_of : (v k : ℕ) (i : ℕ) (ws : List ℕ) → i ≤ k → k < i + length ws → v ≤ sum_from (λ j w. cond (k == j) v 0) i ws
unfolding sum_from
one_of v k i [] low high = absurd (omega (arith, low, high))
one_of v k i (w ∷ ws) low high = elim (cases_eq k i) [
  | inl e ↦ (let here : cond (k == i) v 0 ≡ v = ap (λ t. cond t v 0) (eq-eqb k i e) in omega (arith, here))
  | inr other ↦ (let rest = one_of v k (suc i) ws (omega (arith, low, other)) (omega (arith, high)) in omega (arith, rest))
]

one_more : (cap : ℕ × ℕ) (caps : List (ℕ × ℕ)) (k : ℕ) → total_at (cap ∷ caps) k ≡ cond (cap.0 == k) cap.1 0 + total_at caps k
one_more cap caps k = either (cap.0 == k)
  where
    either : (t : Bool) → total (cond t (cap ∷ filter (λ c. c.0 == k) caps) (filter (λ c. c.0 == k) caps)) ≡ cond t cap.1 0 + total_at caps k
    either true = sum_by-cons (λ (c : ℕ × ℕ). c.1) cap (filter (λ c. c.0 == k) caps)
    either false = omega arith

-- all capacitors are at some of the nodes
all_at : (ws : List ℕ) (caps : List (ℕ × ℕ)) → All (IsCapOf (length ws)) caps → total caps ≤ sum_from (λ i w. total_at caps i) 0 ws
all_at ws [] within = omega arith
all_at ws (cap ∷ caps) within =
    omega (
      arith,
      one_of cap.1 cap.0 0 ws (omega arith) (let h = within 0 cap (omega arith) in omega (arith, h.0)),
      sum_by-cons (λ (c : ℕ × ℕ). c.1) cap caps,
      all_at ws caps (λ k d h. within (suc k) d (omega (arith, h))),
      sum_both (λ i w. total_at (cap ∷ caps) i) (λ i w. cond (cap.0 == i) cap.1 0) (λ i w. total_at caps i) (λ i w. one_more cap caps i) 0 ws,
    )

-- sums of what is the same at each node
sum_same : (f : ℕ → ℕ) (g : ℕ → ℕ) (i : ℕ) (ws : List ℕ) → ((j : ℕ) → j < length ws → f (i + j) ≡ g (slice_index ws j)) → sum_from (λ j w. f j) i ws ≡ sum_by g ws
unfolding sum_from
sum_same f g i [] e = refl
sum_same f g i (w ∷ ws) e =
    omega (
      arith,
      ap f (let x : i ≡ i + 0 = omega arith in x),
      e 0 (omega arith),
      sum_same f g (suc i) ws (λ j l. ap f (let x : suc i + j ≡ i + suc j = omega arith in x) ∙ e (suc j) (omega (arith, l))),
      sum_by-cons g w ws,
    )

-- ---- a list in two parts

parts_sum : (p : ℕ → Bool) (g : ℕ → ℕ) (ws : List ℕ) → sum_by g (filter p ws) + sum_by g (filter (λ w. not (p w)) ws) ≡ sum_by g ws
parts_sum p g [] = refl
parts_sum p g (w ∷ ws) = either (p w) (parts_sum p g ws)
  where
    either : (t : Bool) → sum_by g (filter p ws) + sum_by g (filter (λ v. not (p v)) ws) ≡ sum_by g ws
        → sum_by g (cond t (w ∷ filter p ws) (filter p ws)) + sum_by g (cond (not t) (w ∷ filter (λ v. not (p v)) ws) (filter (λ v. not (p v)) ws)) ≡ sum_by g (w ∷ ws)
    either true e = omega (arith, e, sum_by-cons g w (filter p ws), sum_by-cons g w ws)
    either false e = omega (arith, e, sum_by-cons g w (filter (λ v. not (p v)) ws), sum_by-cons g w ws)

module _ (x : Split) (k : ℕ) where
  abbrev ws : List ℕ
  ws = members (forest x) (head x k)

  few_nodes : length (nodes_in x k) ≤ length x.problem.tree.nodes + length x.problem.tree.nodes
  few_nodes =
      omega (
        arith,
        length-append (ends_in x k) (inner_in x k),
        filter_few (is_end x) ws,
        filter_few (λ w. not (is_end x w)) ws,
        few_members x k,
      )

  nodes_low : All (λ w. w < length x.problem.tree.nodes) (nodes_in x k)
  nodes_low =
      All-append (λ w. w < length x.problem.tree.nodes) (ends_in x k) (inner_in x k)
      (All-filter (is_end x) (λ w. w < length x.problem.tree.nodes) ws (members_low x k))
      (All-filter (λ w. not (is_end x w)) (λ w. w < length x.problem.tree.nodes) ws (members_low x k))

  module _ (is : IsSplit x) (chars : Chars) (net : ParNet) (stage : IsStageNet chars x k net) where
    node_count : length net.nodes ≡ length (nodes_in x k)
    node_count = ap (λ (ns : List ParNode). length ns) stage.nodes ∙ length-map (nodes_in x k) (node_in chars x k)

    charge : total net.caps ≤ 10 ^ 15
    charge =
        let ns = nodes_in x k in
        let all = all_at ns net.caps (subst (λ n. All (IsCapOf n) net.caps) node_count net.sound.caps_at) in
        let same = sum_same (λ i. total_at net.caps i) (cap_in x k) 0 ns (λ j l. ap (total_at net.caps) (let z : 0 + j ≡ j = omega arith in z) ∙ stage.caps j l) in
        omega (
          arith,
          all,
          same,
          sum_by-append (cap_in x k) (ends_in x k) (inner_in x k),
          parts_sum (is_end x) (cap_in x k) ws,
          own_sum x k ws,
          small_charge x k is,
          is.charge,
        )

    resistors : length net.ress < 2 ^ 64
    resistors =
        omega (
          arith,
          ap (λ (rs : List (ℕ × ℕ × ℕ)). length rs) stage.ress,
          length-map (drop 1 ws) (res_in x k),
          length-drop 1 ws,
          few_members x k,
          x.problem.within.nodes,
        )

    module _ (notes : HasQuietNotes x.par) where
      old_quiet : (w : ℕ) → w < length x.problem.tree.nodes → IsQuietLine (old_node x w).note
      old_quiet w low = notes (slice_index x.order w) NO_NODE (is.order.within w (omega (arith, low, is.tree)))

      note_quiet : (w : ℕ) → w < length x.problem.tree.nodes → IsQuietLine (note_in chars x w)
      note_quiet w low = either (is_celled x w)
        where
          either : (t : Bool) → IsQuietLine (cond t (with_cell chars (old_node x w).note (repeater_at x w).cell) (old_node x w).note)
          either true = with_cells chars (old_node x w).note (repeater_at x w).cell (old_quiet w low)
          either false = old_quiet w low

      pub quiet_net : IsQuietNet net
      quiet_net = record {
        writable = record { whole = stage.whole; plain = stage.plain; charge = charge; nodes = omega (arith, node_count, few_nodes, x.problem.within.nodes); resistors = resistors };
        notes =
            subst (All (λ (node : ParNode). IsQuietLine node.note)) (sym stage.nodes)
            (All-map (λ (node : ParNode). IsQuietLine node.note) (node_in chars x k) (nodes_in x k)
            (All-weaker (λ w. w < length x.problem.tree.nodes) (λ w. IsQuietLine (note_in chars x w)) note_quiet (nodes_in x k) nodes_low));
      }
