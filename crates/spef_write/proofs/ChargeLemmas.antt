-- The capacitances of nodes, summed up one after another.
use Rattle.std.proofs.Common.{◌≡◌, ◌≢◌, ℕ, ◌+◌, ◌<◌, ◌≤◌, ◌^◌, ◌==◌, Bool, true, false, cond, List, [], ◌∷◌, filter, refl, sym, ap, ◌∙◌, arith, length, take, set, replicate, get_or, inl, inr}
use Rattle.std.proofs.lemmas.Bool.{cases_eq, eq-eqb}
use Rattle.std.proofs.lemmas.Bool.Decides.{nat_tests}
use Rattle.std.proofs.lemmas.List.{length-set, length-replicate, get_or-replicate, get_or-set_same, get_or-set_other}
use Rattle.std.proofs.lemmas.List.Elements.{All-filter, All-map, All-weaker, filter_more}
use Rattle.std.proofs.lemmas.List.Sums.{sum_by-cons, sum_by-append, sum_by_more_le}
use Rattle.std.specs.List.{All, sum_by}
use Rattle.spef_net.specs.Nets.{IsCapOf}
use Rattle.spef_net.specs.declared.net.ParNet.{ParNet}
use Rattle.spef_write.specs.Sections.{cap_nodes, charged, total, total_at, is_charged, sums}
use Rattle.spef_write.specs.Charges.{AreSums}
use Rattle.spef_write.proofs.OnceLemmas.{cap_nodes_all}

-- no capacitors
pub none_summed : (count : ℕ) (sums : List ℕ) → sums ≡ replicate count 0 → AreSums count [] sums
none_summed count sums e = record {
  even = ap length e ∙ length-replicate count 0;
  each = λ k l. ap (λ xs. get_or xs k 0) e ∙ get_or-replicate count k 0 0 l;
}

one_at : (cap : ℕ × ℕ) (k : ℕ) → sum_by (λ (c : ℕ × ℕ). c.1) (cond (cap.0 == k) (cap ∷ []) []) ≡ cond (cap.0 == k) cap.1 0
one_at cap k = either (cap.0 == k)
  where
    either : (t : Bool) → sum_by (λ (c : ℕ × ℕ). c.1) (cond t (cap ∷ []) []) ≡ cond t cap.1 0
    either true = let e : 0 + cap.1 ≡ cap.1 = omega arith in e
    either false = refl

total_at_more : (caps : List (ℕ × ℕ)) (i k : ℕ) (d : ℕ × ℕ) → i < length caps
    → total_at (take (i + 1) caps) k ≡ total_at (take i caps) k + cond ((get_or caps i d).0 == k) (get_or caps i d).1 0
total_at_more caps i k d l =
    let at : ℕ × ℕ → Bool = λ cap. cap.0 == k in
    ap (sum_by (λ (c : ℕ × ℕ). c.1)) (filter_more at caps i d l)
    ∙ sum_by-append (λ (c : ℕ × ℕ). c.1) (filter at (take i caps)) (cond (at (get_or caps i d)) (get_or caps i d ∷ []) [])
    ∙ ap (λ n. total_at (take i caps) k + n) (one_at (get_or caps i d) k)

pub total_at-le : (caps : List (ℕ × ℕ)) (k : ℕ) → total_at caps k ≤ total caps
total_at-le [] k = omega arith
total_at-le (cap ∷ caps) k = step (cap.0 == k) (total_at-le caps k)
  where
    step : (t : Bool) → total_at caps k ≤ total caps
        → sum_by (λ (c : ℕ × ℕ). c.1) (cond t (cap ∷ filter (λ c. c.0 == k) caps) (filter (λ c. c.0 == k) caps)) ≤ total (cap ∷ caps)
    step true h = omega (arith, h, sum_by-cons (λ (c : ℕ × ℕ). c.1) cap (filter (λ c. c.0 == k) caps), sum_by-cons (λ (c : ℕ × ℕ). c.1) cap caps)
    step false h = omega (arith, h, sum_by-cons (λ (c : ℕ × ℕ). c.1) cap caps)

-- a node's sum has room for one capacitor more
pub sum_fits : (count : ℕ) (caps : List (ℕ × ℕ)) (sums : List ℕ) (i k : ℕ) (d : ℕ × ℕ) → i < length caps → total caps ≤ 10 ^ 15
    → k < count → AreSums count (take i caps) sums → get_or sums k 0 + (get_or caps i d).1 ≤ 10 ^ 15
sum_fits count caps sums i k d l few in_range is =
    omega (arith, is.each k in_range, total_at-le (take i caps) k, sum_by_more_le (λ (c : ℕ × ℕ). c.1) caps i d l, few)

-- one capacitor more
pub one_summed : (count : ℕ) (caps : List (ℕ × ℕ)) (sums : List ℕ) (i : ℕ) (d : ℕ × ℕ) → i < length caps → (get_or caps i d).0 < count
    → AreSums count (take i caps) sums
    → AreSums count (take (i + 1) caps) (set sums (get_or caps i d).0 (get_or sums (get_or caps i d).0 0 + (get_or caps i d).1))
one_summed count caps sums i d l in_range is = record {
  even = length-set sums cap.0 (get_or sums cap.0 0 + cap.1) ∙ is.even;
  each = λ k h. elim (cases_eq k cap.0) [
    | inl same ↦ at_node k h same
    | inr other ↦ elsewhere k h other
  ];
}
  where
    cap : ℕ × ℕ
    cap = get_or caps i d

    at_node : (k : ℕ) → k < count → k ≡ cap.0 → get_or (set sums cap.0 (get_or sums cap.0 0 + cap.1)) k 0 ≡ total_at (take (i + 1) caps) k
    at_node k h same =
        ap (λ j. get_or (set sums cap.0 (get_or sums cap.0 0 + cap.1)) j 0) same
        ∙ get_or-set_same sums cap.0 (get_or sums cap.0 0 + cap.1) 0 (omega (arith, is.even, in_range))
        ∙ ap (λ n. n + cap.1) (ap (λ j. get_or sums j 0) (sym same) ∙ is.each k h)
        ∙ sym (total_at_more caps i k d l ∙ ap (λ t. total_at (take i caps) k + cond t cap.1 0) (eq-eqb cap.0 k (sym same)))

    elsewhere : (k : ℕ) → k < count → k ≢ cap.0 → get_or (set sums cap.0 (get_or sums cap.0 0 + cap.1)) k 0 ≡ total_at (take (i + 1) caps) k
    elsewhere k h other =
        let none : (cap.0 == k) ≡ false = grind (arith, nat_tests) in
        get_or-set_other sums cap.0 k (get_or sums cap.0 0 + cap.1) 0 other
        ∙ is.each k h
        ∙ sym (total_at_more caps i k d l ∙ ap (λ t. total_at (take i caps) k + cond t cap.1 0) none ∙ (let z : total_at (take i caps) k + 0 ≡ total_at (take i caps) k = omega arith in z))

-- the nodes of a net's capacitors are nodes of the net
pub cap_nodes_low : (net : ParNet) → All (λ k. k < length net.nodes) (cap_nodes net.caps)
cap_nodes_low net =
    cap_nodes_all (λ k. k < length net.nodes) net.caps
    (All-weaker (IsCapOf (length net.nodes)) (λ cap. cap.0 < length net.nodes) (λ cap is. is.0) net.caps net.sound.caps_at)

-- each row is of a node, and has what is there
pub record IsRowOf (caps : List (ℕ × ℕ)) (count : ℕ) (row : ℕ × ℕ) : Type 0 where
  pub within : row.0 < count
  pub sum : row.1 ≡ total_at caps row.0

pub rows_are : (net : ParNet) → All (IsRowOf net.caps (length net.nodes)) (charged net)
rows_are net =
    All-filter is_charged (IsRowOf net.caps (length net.nodes)) (sums net.caps)
    (All-map (IsRowOf net.caps (length net.nodes)) (λ k. (k, total_at net.caps k)) (cap_nodes net.caps)
    (All-weaker (λ k. k < length net.nodes) (λ k. IsRowOf net.caps (length net.nodes) (k, total_at net.caps k)) (λ k l. record { within = l; sum = refl })
    (cap_nodes net.caps) (cap_nodes_low net)))
