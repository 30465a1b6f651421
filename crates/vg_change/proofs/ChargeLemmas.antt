-- All capacitors of a net are at nodes of its tree.
use Rattle.std.proofs.Common.{◌≡◌, ℕ, zero, suc, ◌+◌, ◌<◌, ◌≤◌, ◌==◌, cond, List, [], ◌∷◌, length, map, slice_index, refl, sym, ap, ◌∙◌, arith, inl, inr}
use Rattle.std.specs.List.{All, range_with_len, sum_by}
use Rattle.std.proofs.lemmas.Bool.{cases_eq, eq-eqb}
use Rattle.std.proofs.lemmas.List.FromFn.{sum_by-map-range_with_len_more}
use Rattle.std.proofs.lemmas.List.Sums.{sum_by-cons}
use Rattle.elmore.specs.Trees.{capacitance, node_at, total_capacitance}
use Rattle.elmore.specs.declared.tree.Node.{Node}
use Rattle.rc_tree.specs.Answers.{ListsAll}
use Rattle.rc_tree.specs.Nets.{capacitance_at}
use Rattle.spef_net.specs.Nets.{IsCapOf}
use Rattle.vg_design.specs.Designs.{Design, Joined}
use Rattle.vg_design.specs.Parts.{loaded, loaded_tree}
use Rattle.spef_write.specs.Sections.{total}

-- the sum of the first n
sum_to : (ℕ → ℕ) → ℕ → ℕ
sum_to f zero = 0
sum_to f (suc n) = sum_to f n + f n

sum_both : (f g h : ℕ → ℕ) → ((i : ℕ) → f i ≡ g i + h i) → (n : ℕ) → sum_to f n ≡ sum_to g n + sum_to h n
unfolding sum_to
sum_both f g h e zero = refl
sum_both f g h e (suc n) = omega (arith, sum_both f g h e n, e n)

sum_less : (f g : ℕ → ℕ) (n : ℕ) → ((i : ℕ) → i < n → f i ≤ g i) → sum_to f n ≤ sum_to g n
unfolding sum_to
sum_less f g zero le = omega arith
sum_less f g (suc n) le = omega (arith, sum_less f g n (λ i low. le i (omega (arith, low))), le n (omega arith))

one_of : (f : ℕ → ℕ) (n i : ℕ) → i < n → f i ≤ sum_to f n
unfolding sum_to
one_of f zero i low = absurd (omega (arith, low))
one_of f (suc n) i low = elim (cases_eq i n) [
  | inl e ↦ omega (arith, ap f e)
  | inr other ↦ omega (arith, one_of f n i (omega (arith, low, other)))
]

sum_map : (w : Node → ℕ) (f : ℕ → Node) (n : ℕ) → sum_by w (map f (range_with_len 0 n)) ≡ sum_to (λ i. w (f i)) n
unfolding sum_to
sum_map w f zero = refl
sum_map w f (suc n) = ap (λ k. sum_by w (map f (range_with_len 0 k))) (let e : suc n ≡ n + 1 = omega arith in e) ∙ sum_by-map-range_with_len_more w f 0 n n (omega arith) ∙ ap (λ s. s + w (f n)) (sum_map w f n)

one_more : (cap : ℕ × ℕ) (caps : List (ℕ × ℕ)) (v : ℕ) → capacitance_at (cap ∷ caps) v ≡ cond (cap.0 == v) cap.1 0 + capacitance_at caps v
one_more cap caps v = sum_by-cons (λ (c : ℕ × ℕ). cond (c.0 == v) c.1 0) cap caps

-- each is at some node of the order
all_reached : (n : ℕ) (order : List ℕ) → ListsAll n order → (caps : List (ℕ × ℕ)) → All (IsCapOf n) caps → total caps ≤ sum_to (λ i. capacitance_at caps (slice_index order i)) n
all_reached n order lists [] within = omega arith
all_reached n order lists (cap ∷ caps) within =
    let (i, low, at) = lists.each cap.0 (within 0 cap (omega arith)).0 in
    let here = one_of (λ i. cond (cap.0 == slice_index order i) cap.1 0) n i low in
    let is : cond (cap.0 == slice_index order i) cap.1 0 ≡ cap.1 = ap (λ b. cond b cap.1 0) (eq-eqb cap.0 (slice_index order i) (sym at)) in
    omega (
      arith,
      here,
      is,
      sum_by-cons (λ (c : ℕ × ℕ). c.1) cap caps,
      all_reached n order lists caps (λ k d h. within (suc k) d (omega (arith, h))),
      sum_both (λ i. capacitance_at (cap ∷ caps) (slice_index order i)) (λ i. cond (cap.0 == slice_index order i) cap.1 0)
          (λ i. capacitance_at caps (slice_index order i)) (λ i. one_more cap caps (slice_index order i)) n,
    )

pub charge_within : (d : Design) (n : Joined) (tree : List Node) (order : List ℕ) → length tree ≡ length n.par.nodes → ListsAll (length n.par.nodes) order
    → ((i : ℕ) → i < length n.par.nodes → capacitance tree i ≡ capacitance_at n.par.caps (slice_index order i))
    → total n.par.caps ≤ total_capacitance (loaded_tree d n tree order)
charge_within d n tree order size lists caps_are =
    let count = length n.par.nodes in
    omega (
      arith,
      all_reached count order lists n.par.caps n.par.sound.caps_at,
      sum_less (λ i. capacitance_at n.par.caps (slice_index order i)) (λ i. (loaded d n (node_at tree i) (slice_index order i)).c) count
          (λ i low. omega (arith, caps_are i low)),
      sum_map (λ node. node.c) (λ i. loaded d n (node_at tree i) (slice_index order i)) count,
      ap (λ k. sum_by (λ (node : Node). node.c) (map (λ i. loaded d n (node_at tree i) (slice_index order i)) (range_with_len 0 k))) size,
    )
