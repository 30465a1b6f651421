-- A net of which each resistor is cut into parts is, by its numbers, the net with its resistors divided.
use Rattle.std.proofs.Common.{◌≡◌, ◌⊎◌, ℕ, zero, suc, ◌+◌, ◌-◌, ◌*◌, ◌/◌, ◌%◌, ◌<◌, ◌≤◌, ◌==◌, List, [], ◌∷◌, length, map, refl, sym, ap, ◌∙◌, cond, arith, inl, inr}
use Rattle.std.proofs.Math.Nat.{mul-le-mul_left}
use Rattle.std.proofs.lemmas.Bool.{cases_lt, cases_eq, ne_eqb}
use Rattle.std.proofs.lemmas.List.{length-append, length-map, get_or_append_left, get_or-append-add}
use Rattle.std.proofs.lemmas.List.Elements.{All-head, All-tail}
use Rattle.std.proofs.lemmas.List.FromFn.{get_or-map-range_with_len, length-map-range_with_len}
use Rattle.std.proofs.lemmas.Nat.{div-mul-add, mod-mul-add, div_below, mod_below, div-add-mod'}
use Rattle.std.specs.List.{All, sum_by}
use Rattle.std.proofs.lemmas.List.Sums.{sum_by-cons}
use Rattle.elmore.proofs.SumLemmas.{sum_of_filter}
use Rattle.rc_tree.specs.Chains.{edge_at}
use Rattle.rc_tree.specs.Nets.{capacitance_at}
use Rattle.divided_net_laws.specs.DividedNets.{IsDividedNet, part_of}
use Rattle.spef_net.specs.declared.net.ParNet.{ParNet}
use Rattle.spef_net.specs.Nets.{IsCapOf}
use Rattle.split_laws.specs.StagePieces.{by_numbers}
use Rattle.vg_segment.specs.Segments.{IsSegmented, AreByNode, chain, chains, link, new_node}

-- ---- products

-- a place in a row of q, behind j rows, is before the end of n rows
pub in_row : (q n j a : ℕ) → j < n → a < q → j * q + a < n * q
in_row q n j a j_n a_q =
    let row : q * (j + 1) ≤ q * n = mul-le-mul_left q (omega arith) in
    omega (arith, row)

-- it is in one row, at one place
one_row : (q j h a b : ℕ) → a < q → b < q → j * q + a ≡ h * q + b → (j ≡ h) × (a ≡ b)
one_row q j h a b a_q b_q same = (
  sym (div-mul-add j q a a_q) ∙ ap (λ x. x / q) same ∙ div-mul-add h q b b_q,
  sym (mod-mul-add j q a a_q) ∙ ap (λ x. x % q) same ∙ mod-mul-add h q b b_q,
)

-- ---- resistors

-- part i of a resistor, whose new nodes are numbered from `first` on
abbrev piece : ℕ → ℕ → ℕ × ℕ × ℕ → ℕ → ℕ × ℕ × ℕ
piece parts first res i = (link parts first res i, link parts first res (i + 1), part_of parts res.2 i)

length_chain : (parts first : ℕ) (res : ℕ × ℕ × ℕ) → length (chain parts first res) ≡ parts
length_chain parts first res = length-map-range_with_len (piece parts first res) 0 parts

length_chains : (parts first : ℕ) (ress : List (ℕ × ℕ × ℕ)) → length (chains parts first ress) ≡ parts * length ress
length_chains parts first [] = omega arith
length_chains parts first (res ∷ ress) =
    length-append (chain parts first res) (chains parts (first + (parts - 1)) ress)
    ∙ omega (arith, length_chain parts first res, length_chains parts (first + (parts - 1)) ress)

chains_at : (parts first : ℕ) (ress : List (ℕ × ℕ × ℕ)) (j i : ℕ) → j < length ress → i < parts
    → edge_at (chains parts first ress) (parts * j + i) ≡ piece parts (first + j * (parts - 1)) (edge_at ress j) i
chains_at parts first [] j i j_n i_p = absurd (omega arith)
chains_at parts first (res ∷ ress) zero i j_n i_p =
    let at : parts * 0 + i ≡ i = omega arith in
    let here : first ≡ first + 0 * (parts - 1) = omega arith in
    ap (edge_at (chains parts first (res ∷ ress))) at
    ∙ get_or_append_left (chain parts first res) (chains parts (first + (parts - 1)) ress) (0, 0, 0) i
    (omega (arith, length_chain parts first res))
    ∙ get_or-map-range_with_len (piece parts first res) 0 parts i i (0, 0, 0) i_p (omega arith)
    ∙ ap (λ f. piece parts f res i) here
chains_at parts first (res ∷ ress) (suc j) i j_n i_p =
    let at : parts * suc j + i ≡ length (chain parts first res) + (parts * j + i) =
    omega (arith, length_chain parts first res) in
    let here : first + (parts - 1) + j * (parts - 1) ≡ first + suc j * (parts - 1) = omega arith in
    ap (edge_at (chains parts first (res ∷ ress))) at
    ∙ get_or-append-add (chain parts first res) (chains parts (first + (parts - 1)) ress) (parts * j + i) (0, 0, 0)
    ∙ chains_at parts (first + (parts - 1)) ress j i (omega arith) i_p
    ∙ ap (λ f. piece parts f (edge_at ress j) i) here

-- ---- capacitors

-- each node has the same capacitance
same_sums : (caps sorted : List (ℕ × ℕ)) → AreByNode caps sorted → (k : ℕ)
    → capacitance_at sorted k ≡ capacitance_at caps k
same_sums caps sorted by k =
    sym (sum_of_filter (λ (cap : ℕ × ℕ). cap.1) (λ cap. cap.0 == k) sorted)
    ∙ ap (sum_by (λ (cap : ℕ × ℕ). cap.1)) (by.same k)
    ∙ sum_of_filter (λ (cap : ℕ × ℕ). cap.1) (λ cap. cap.0 == k) caps

-- no capacitor is past the nodes
no_sum : (n : ℕ) (caps : List (ℕ × ℕ)) → All (IsCapOf n) caps → (x : ℕ) → n ≤ x → capacitance_at caps x ≡ 0
no_sum n [] at x x_n = refl
no_sum n (cap ∷ caps) at x x_n =
    let low : cap.0 < n = (All-head (IsCapOf n) cap caps at).0 in
    omega (
      arith,
      sum_by-cons (λ (c : ℕ × ℕ). cond (c.0 == x) c.1 0) cap caps,
      ap (λ b. cond b cap.1 0) (ne_eqb cap.0 x (λ e. omega (arith, e))),
      no_sum n caps (All-tail (IsCapOf n) cap caps at) x x_n,
    )

-- ---- the net

-- its new nodes stand behind the old ones, those of each resistor behind those of the one before
pub segmented : (net : ParNet) (parts : ℕ) (cut : ParNet) (root : ℕ) → IsSegmented net parts cut → 0 < parts
    → IsDividedNet parts (by_numbers net root) (by_numbers cut root) (λ k. k)
    (λ j i. length net.nodes + j * (parts - 1) + (i - 1))
segmented net parts cut root s some = record {
  some = some;
  root = refl;
  nodes = count;
  within = λ k k_n. omega (arith, count);
  fresh_within = λ j i j_n i_0 i_p. omega (arith, count, in_row q m j (i - 1) j_n (omega arith));
  each = λ x x_n. each x x_n (cases_lt x (length net.nodes));
  to_once = λ k l k_n l_n same. same;
  fresh_once = λ j i h g j_n h_n i_0 i_p g_0 g_p same.
      let (j_h, i_g) = one_row q j h (i - 1) (g - 1) (omega arith) (omega arith) (omega (arith, same)) in
      (j_h, omega (arith, i_g));
  apart = λ k j i k_n j_n i_0 i_p same. absurd (omega (arith, same));
  count = ap length s.ress ∙ length_chains parts (length net.nodes) net.ress;
  resistors = λ j i j_n i_p.
      ap (λ (es : List (ℕ × ℕ × ℕ)). edge_at es (parts * j + i)) s.ress
      ∙ chains_at parts (length net.nodes) net.ress j i j_n i_p;
  sums = λ k k_n. same_sums net.caps cut.caps s.caps k;
  bare = λ j i j_n i_0 i_p.
      same_sums net.caps cut.caps s.caps (length net.nodes + j * q + (i - 1))
      ∙ no_sum (length net.nodes) net.caps net.sound.caps_at (length net.nodes + j * q + (i - 1)) (omega arith);
}
  where
    q : ℕ
    q = parts - 1

    m : ℕ
    m = length net.ress

    count : length cut.nodes ≡ length net.nodes + length net.ress * (parts - 1)
    count =
        ap length s.nodes ∙ length-append net.nodes (map (new_node net.name) s.leaves)
        ∙ omega (arith, length-map s.leaves (new_node net.name), s.count)

    each : (x : ℕ) → x < length cut.nodes → (x < length net.nodes) ⊎ (length net.nodes ≤ x)
        → ((k : ℕ) × (k < length net.nodes) × (x ≡ k))
        ⊎ ((j : ℕ) × (i : ℕ) × (j < length net.ress) × (0 < i) × (i < parts)
        × (x ≡ length net.nodes + j * (parts - 1) + (i - 1)))
    each x x_n (inl low) = inl (x, low, refl)
    each x x_n (inr high) =
        let some_new : 0 < parts - 1 = elim (cases_eq (parts - 1) 0) [
          | inl none ↦ absurd (omega (arith, count, ap (λ p. m * p) none))
          | inr more ↦ omega (arith, more)
        ] in
        let below : x - length net.nodes < m * (parts - 1) = omega (arith, count) in
        let part : (x - length net.nodes) % (parts - 1) < parts - 1 =
        mod_below (x - length net.nodes) (parts - 1) some_new in
        inr (
          (x - length net.nodes) / (parts - 1),
          (x - length net.nodes) % (parts - 1) + 1,
          div_below (x - length net.nodes) (parts - 1) m some_new below,
          omega arith,
          omega (arith, part),
          omega (arith, div-add-mod' (x - length net.nodes) (parts - 1)),
        )
