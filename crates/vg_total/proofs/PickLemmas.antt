-- Picks as numbers.
use Rattle.std.proofs.Common.{◌≡◌, ℕ, ◌+◌, ◌-◌, ◌*◌, ◌^◌, ◌<◌, ◌≤◌, List, [], ◌∷◌, ◌++◌, ℤ, refl, sym, ap, ◌∙◌, subst, arith, inl, inr, length, length-append, get_or}
use Rattle.std.proofs.lemmas.Bool.{cases_eq}
use Rattle.std.proofs.lemmas.Int.{ints, by_lt_z}
use Rattle.std.proofs.lemmas.List.{get_or-map, length-map, get_or_append_left, get_or-append_right}
use Rattle.std.specs.List.{AllPairs, sum_by}
use Rattle.std.specs.declared.vec.Vec.{Vec}
use Rattle.std.specs.declared.alloc.Global.{Global}
use Rattle.elmore.specs.Path.{nodes as numbers}
use Rattle.elmore.specs.Frontier.{Point}
use Rattle.elmore.specs.FrontierLaws.{Exceeds}
use Rattle.elmore.proofs.SumLemmas.{sum_of_more}
use Rattle.vg_front.specs.Points.{point_in}
use Rattle.vg_front.specs.declared.root.Point.{Point as Found}
use Rattle.vg_total.specs.Totals.{IsLeastOf}
use Rattle.vg_total.specs.Sweeps.{AreRising, IsMovedAt}
use Rattle.vg_total.specs.Picks.{points_in, front_at, at_of, picked_by, ArePicks, AreFronts}
use Rattle.vg_total.specs.Turns.{AreMovedPicks, left_of}
use Rattle.vg_total.proofs.TotalLemmas.{sums_less}
use Rattle.vg_total.proofs.SweepLemmas.{zero_point}

-- net k's list has the points of its frontier
pub front_is : (fronts : List (Vec Found Global)) (k : ℕ) (d : Vec Found Global) → k < length fronts
    → front_at fronts k ≡ points_in (get_or fronts k d)
front_is fronts k d k_n = get_or-map points_in fronts k d [] k_n

pub front_length : (fronts : List (Vec Found Global)) (k : ℕ) (d : Vec Found Global) → k < length fronts
    → length (front_at fronts k) ≡ length (get_or fronts k d).items
front_length fronts k d k_n =
    ap (λ (xs : List Point). length xs) (front_is fronts k d k_n) ∙ length-map (get_or fronts k d).items point_in

pub are_rising : (fronts : List (Vec Found Global)) → AreFronts fronts → AreRising (length fronts) (front_at fronts)
are_rising [] f k k_n = absurd (omega arith)
are_rising (front ∷ fronts) f k k_n =
    subst (AllPairs Exceeds) (sym (front_is (front ∷ fronts) k front k_n)) (f.rising k front k_n)

-- the point that is picked
pub picked_is : (fronts : List (Vec Found Global)) (picks : List ℕ) (k : ℕ) (front : Vec Found Global) (d : Found)
    → k < length fronts → get_or fronts k front ≡ front → ArePicks fronts picks
    → point_in (get_or front.items (at_of picks k) d) ≡ picked_by fronts picks k
picked_is fronts picks k front d k_n is p =
    let same : front_at fronts k ≡ points_in front = front_is fronts k front k_n ∙ ap points_in is in
    let inside : at_of picks k < length front.items =
    omega (arith, p.inside k k_n, ap (λ (xs : List Point). length xs) same, length-map front.items point_in) in
    sym (get_or-map point_in front.items (at_of picks k) d zero_point inside) ∙ ap (λ (xs : List Point). get_or xs (at_of picks k) zero_point) (sym same)

-- one net's cost more
pub cost_one : (fronts : List (Vec Found Global)) (picks : List ℕ) (k cost one : ℕ) (x : Found)
    → cost ≡ sum_by (λ j. (picked_by fronts picks j).cost) (numbers k) → point_in x ≡ picked_by fronts picks k → one ≡ x.cost
    → cost + one ≡ sum_by (λ j. (picked_by fronts picks j).cost) (numbers (k + 1))
cost_one fronts picks k cost one x sum is costs =
    omega (arith, sum, costs, ap (λ (p : Point). p.cost) is, sum_of_more (λ j. (picked_by fronts picks j).cost) k)

pub cost_small : (k cost one : ℕ) → cost ≤ k * 2 ^ 64 → one < 2 ^ 64 → cost + one ≤ (k + 1) * 2 ^ 64
cost_small k cost one small fits = omega arith

-- the picks of the first n nets after a move
pub record AreMovedFirst (fronts : ℕ → List Point) (x : ℤ) (at : ℕ → ℕ) (n : ℕ) (after : List ℕ) : Type 0 where
  pub count : length after ≡ n
  pub moved : (k : ℕ) → k < n → IsMovedAt fronts x at k (at_of after k)

pub moved_none : (fronts : ℕ → List Point) (x : ℤ) (at : ℕ → ℕ) → AreMovedFirst fronts x at 0 []
moved_none fronts x at = record { count = refl; moved = λ k k_n. absurd (omega arith) }

pub moved_one : (fronts : ℕ → List Point) (x : ℤ) (at : ℕ → ℕ) (n : ℕ) (after : List ℕ) (pick : ℕ) → AreMovedFirst fronts x at n after
    → IsMovedAt fronts x at n pick → AreMovedFirst fronts x at (n + 1) (after ++ pick ∷ [])
moved_one fronts x at n after pick m one = record {
  count = omega (arith, length-append after (pick ∷ []), m.count);
  moved = λ k k_n.
      elim (cases_eq k n) [
        | inl e ↦
            let last : at_of (after ++ pick ∷ []) k ≡ pick = get_or-append_right after (pick ∷ []) n k 0 m.count (omega arith) ∙ ap (λ i. get_or (pick ∷ []) i 0) (none e) in
            subst (λ i. IsMovedAt fronts x at i (at_of (after ++ pick ∷ []) k)) (sym e) (subst (IsMovedAt fronts x at n) (sym last) one)
        | inr ne ↦
            subst (IsMovedAt fronts x at k) (sym (get_or_append_left after (pick ∷ []) 0 k (omega (arith, m.count)))) (m.moved k (omega arith))
      ];
}
  where
    none : {k : ℕ} → k ≡ n → k - n ≡ 0
    none e = omega arith

pub moved_all : (fronts : List (Vec Found Global)) (x : ℤ) (picks after : List ℕ)
    → AreMovedFirst (front_at fronts) x (at_of picks) (length fronts) after → AreMovedPicks fronts x picks after
moved_all fronts x picks after m = record {
  inside = record { one_each = m.count; inside = λ k k_n. (m.moved k k_n).inside };
  moved = m.moved;
}

pub left_less : (fronts : List (Vec Found Global)) (picks after : List ℕ) (x : ℤ) → ArePicks fronts picks
    → IsLeastOf (length fronts) (picked_by fronts picks) x → AreMovedPicks fronts x picks after
    → left_of fronts after < left_of fronts picks
left_less fronts picks after x p least m =
    let (i, i_n, met) = least.met in
    sums_less (λ k. length (front_at fronts k) - at_of after k) (λ k. length (front_at fronts k) - at_of picks k) (length fronts) i i_n
    (omega (arith, (m.moved i i_n).moves (omega (arith, ints, met)), p.inside i i_n))
    (λ k k_n. by_lt_z x (picked_by fronts picks k).slack (λ above. omega (arith, (m.moved k k_n).stays above)) (λ low. omega (arith, (m.moved k k_n).moves low)))
