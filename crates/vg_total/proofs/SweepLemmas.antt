-- One more step of the sweep over several frontiers.
use Rattle.std.proofs.Common.{◌≡◌, ℕ, ◌+◌, ◌<◌, ◌≤◌, List, [], ◌∷◌, ◌++◌, ℤ, pos, ◌≤ℤ◌, ◌<ℤ◌, Option, Some, sym, ap, ◌∙◌, arith, inl, inr, length, get_or}
use Rattle.std.proofs.lemmas.Bool.{cases_lt, cases_order}
use Rattle.std.proofs.lemmas.Int.{ints, by_lt_z}
use Rattle.std.proofs.lemmas.List.{get_or_default}
use Rattle.std.proofs.lemmas.List.Elements.{Contains-push, Contains-append_left, All-push, Contains-get_or}
use Rattle.std.proofs.lemmas.List.Quantifiers.{all_pairs_push}
use Rattle.std.specs.List.{Contains, All, AllPairs}
use Rattle.elmore.specs.Frontier.{Point, IsFrontier}
use Rattle.elmore.specs.Legal.{IsWithin}
use Rattle.elmore.specs.FrontierLaws.{Exceeds}
use Rattle.vg_total.specs.Totals.{IsTotalOf, IsTotal, IsListed, picked}
use Rattle.vg_total.specs.Sweeps.{AreRising, IsOutdone, AreReached, IsSwept, AreMoved, IsAtEnd}
use Rattle.vg_total.proofs.TotalLemmas.{sums_le, sums_less, one_point}

abbrev pub zero_point : Point
zero_point = record { cost = 0; slack = pos 0 }

-- along a rising list
order : (xs : List Point) (i j : ℕ) (d : Point) → AllPairs Exceeds xs → i ≤ j → j < length xs
    → ((get_or xs i d).cost ≤ (get_or xs j d).cost) × ((get_or xs i d).slack ≤ℤ (get_or xs j d).slack)
order xs i j d rise i_j j_n =
    elim (cases_lt i j) [
      | inl low ↦ let e : Exceeds (get_or xs i d) (get_or xs j d) = rise i j d low j_n in (omega (arith, e.costs), omega (arith, ints, e.slacks))
      | inr high ↦ let e : i ≡ j = omega arith in (omega (arith, ap (λ k. (get_or xs k d).cost) e), omega (arith, ints, ap (λ k. (get_or xs k d).slack) e))
    ]

-- an element stands somewhere, and is what stands there
place : (xs : List Point) (x d : Point) → Contains xs x → (i : ℕ) × (i < length xs) × (get_or xs i d ≡ x)
place xs x d (i, i_n, is) = (i, i_n, get_or_default xs i d x i_n ∙ is)

-- what is no earlier than i is no less than what stands at i
reach : (xs : List Point) (x d : Point) (i j : ℕ) → AllPairs Exceeds xs → i ≤ j → j < length xs → get_or xs j d ≡ x
    → ((get_or xs i d).cost ≤ x.cost) × ((get_or xs i d).slack ≤ℤ x.slack)
reach xs x d i j rise i_j j_n is =
    let (costs, slacks) = order xs i j d rise i_j j_n in
    (omega (arith, costs, ap (λ (t : Point). t.cost) is), omega (arith, ints, slacks, ap (λ (t : Point). t.slack) is))

-- an element of more slack than what stands at i stands after it
later : (xs : List Point) (x d : Point) (i : ℕ) → AllPairs Exceeds xs → i < length xs → Contains xs x → (get_or xs i d).slack <ℤ x.slack
    → (j : ℕ) × (i + 1 ≤ j) × (j < length xs) × (get_or xs j d ≡ x)
later xs x d i rise i_n x_in more =
    let (j, j_n, is) = place xs x d x_in in
    elim (cases_lt i j) [
      | inl low ↦ (j, omega arith, j_n, is)
      | inr high ↦
          let (costs, slacks) = order xs j i d rise high i_n in
          absurd (omega (arith, ints, slacks, more, ap (λ (t : Point). t.slack) is))
    ]

-- THE START: all picks at the cheapest points
pub sweep_start : (n : ℕ) (fronts : ℕ → List Point) (cap : Option ℕ) → AreRising n fronts → ((k : ℕ) → k < n → 0 < length (fronts k))
    → IsSwept n fronts cap (λ k. 0) []
sweep_start n fronts cap rise some = record {
  inside = some;
  rising = λ i j d i_j j_n. absurd (omega arith);
  taken = λ k d k_n. absurd (omega arith);
  above = λ x of_x. λ k d k_n. absurd (omega arith);
  covers = λ choice y by. inr (λ k k_n.
      let (i, i_n, is) = place (fronts k) (choice k) zero_point (by.chosen k k_n) in
      reach (fronts k) (choice k) zero_point 0 i (rise k k_n) (omega arith) i_n is);
}

-- what a move does to one choice
record IsOnward (a b : Point) (x : ℤ) : Type 0 where
  costs : a.cost ≤ b.cost
  more : a.slack ≤ℤ x → a.cost < b.cost
  slacks : x <ℤ b.slack

onward : (n : ℕ) (fronts : ℕ → List Point) (x : ℤ) (at after : ℕ → ℕ) → AreRising n fronts → AreMoved n fronts x at after
    → ((k : ℕ) → k < n → x ≤ℤ (picked fronts at k).slack) → (k : ℕ) → k < n → IsOnward (picked fronts at k) (picked fronts after k) x
onward n fronts x at after rise moved least k k_n =
    by_lt_z x (picked fronts at k).slack
    (λ above.
    let e : picked fronts after k ≡ picked fronts at k = ap (λ j. get_or (fronts k) j zero_point) ((moved k k_n).stays above) in
    record {
      costs = omega (arith, ap (λ (t : Point). t.cost) e);
      more = λ low. absurd (omega (arith, ints, above, low));
      slacks = omega (arith, ints, above, ap (λ (t : Point). t.slack) e);
    })
    (λ low.
    let e : after k ≡ at k + 1 = (moved k k_n).moves low in
    let up : Exceeds (picked fronts at k) (picked fronts after k) = rise k k_n (at k) (after k) zero_point (omega (arith, e)) ((moved k k_n).inside) in
    record {
      costs = omega (arith, up.costs);
      more = λ _. up.costs;
      slacks = omega (arith, ints, up.slacks, least k k_n);
    })

-- a choice of more slack than x reaches the picks after the move
reached_more : (n : ℕ) (fronts : ℕ → List Point) (x : ℤ) (at after : ℕ → ℕ) (choice : ℕ → Point) (y : Point) → AreRising n fronts
    → ((k : ℕ) → k < n → at k < length (fronts k)) → AreMoved n fronts x at after
    → ((k : ℕ) → k < n → Contains (fronts k) (choice k)) → IsTotalOf n choice y → x <ℤ y.slack
    → AreReached n (picked fronts at) choice → AreReached n (picked fronts after) choice
reached_more n fronts x at after choice y rise inside moved chosen of_y more reached k k_n =
    by_lt_z x (picked fronts at k).slack
    (λ above.
    let e : picked fronts after k ≡ picked fronts at k = ap (λ j. get_or (fronts k) j zero_point) ((moved k k_n).stays above) in
    let (costs, slacks) = reached k k_n in
    (omega (arith, costs, ap (λ (t : Point). t.cost) e), omega (arith, ints, slacks, ap (λ (t : Point). t.slack) e)))
    (λ low.
    let (j, i_j, j_n, is) = later (fronts k) (choice k) zero_point (at k) (rise k k_n) (inside k k_n) (chosen k k_n) (omega (arith, ints, low, more, of_y.least.below k k_n)) in
    reach (fronts k) (choice k) zero_point (after k) j (rise k k_n) (omega (arith, i_j, (moved k k_n).moves low)) j_n is)

costs_reached : (n : ℕ) (a b : ℕ → Point) (x y : Point) → AreReached n a b → IsTotalOf n a x → IsTotalOf n b y → x.cost ≤ y.cost
costs_reached n a b x y reached of_x of_y = omega (arith, of_x.cost, of_y.cost, sums_le (λ k. (a k).cost) (λ k. (b k).cost) n (λ k k_n. (reached k k_n).0))

-- ONE TURN: the total of the picks is a point of the answer, and those of least slack move on
pub sweep_more : (n : ℕ) (fronts : ℕ → List Point) (cap : Option ℕ) (at after : ℕ → ℕ) (points : List Point) (x : Point) → AreRising n fronts
    → IsSwept n fronts cap at points → IsTotalOf n (picked fronts at) x → IsWithin cap x.cost → AreMoved n fronts x.slack at after
    → IsSwept n fronts cap after (points ++ x ∷ [])
sweep_more n fronts cap at after points x rise s of_x within moved = record {
  inside = λ k k_n. (moved k k_n).inside;
  rising = all_pairs_push Exceeds points x s.rising (s.above x of_x);
  taken = All-push (IsTotal n (IsListed fronts) cap) points x s.taken (
    picked fronts at,
    record {
      chosen = λ k k_n. Contains-get_or (fronts k) (at k) zero_point (s.inside k k_n);
      total = of_x;
      within = within;
    },
  );
  above = λ z of_z.
      let (i, i_n, met) = of_x.least.met in
      let (j, j_n, z_met) = of_z.least.met in
      let x_z : Exceeds x z = record {
        costs = omega (
          arith,
          of_x.cost,
          of_z.cost,
          sums_less (λ k. (picked fronts at k).cost) (λ k. (picked fronts after k).cost) n i i_n
              ((step i i_n).more (omega (arith, ints, met))) (λ k k_n. (step k k_n).costs),
        );
        slacks = omega (arith, ints, z_met, (step j j_n).slacks);
      } in
      All-push (λ y. Exceeds y z) points x
      (λ k d k_n.
      let below : Exceeds (get_or points k d) x = s.above x of_x k d k_n in
      record { costs = omega (arith, below.costs, x_z.costs); slacks = omega (arith, ints, below.slacks, x_z.slacks) })
      x_z;
  covers = λ choice y by.
      elim (s.covers choice y by) [
        | inl old ↦ let (z, z_in, z_y) = old in inl (z, Contains-append_left points (x ∷ []) z z_in, z_y)
        | inr reached ↦
            by_lt_z x.slack y.slack
            (λ more. inr (reached_more n fronts x.slack at after choice y rise s.inside moved by.chosen by.total more reached))
            (λ low. inl (x, Contains-push points x, record { costs = costs_reached n (picked fronts at) choice x y reached of_x by.total; slacks = low }))
      ];
}
  where
    step : (k : ℕ) → k < n → IsOnward (picked fronts at k) (picked fronts after k) x.slack
    step = onward n fronts x.slack at after rise moved of_x.least.below

-- points that rise, are totals and outdo all totals are the frontier
finished : (In : Point → Type 0) (points : List Point) → AllPairs Exceeds points → All In points → ((y : Point) → In y → IsOutdone points y)
    → IsFrontier In points
finished In points rise taken covers = record {
  rising = λ i j d i_j j_n. (rise i j d i_j j_n).costs;
  taken = λ k d k_n. record {
    attained = taken k d k_n;
    alone = λ other other_in outdoes.
        let (z, z_in, z_other) = covers other other_in in
        let (i, i_n, is) = place points z d z_in in
        elim (cases_order i k) [
          | inr (inl low) ↦
              let up : Exceeds (get_or points i d) (get_or points k d) = rise i k d low k_n in
              absurd (omega (arith, ints, up.slacks, ap (λ (t : Point). t.slack) is, z_other.slacks, outdoes.slacks))
          | inl e ↦
              let same : z ≡ get_or points k d = sym is ∙ ap (λ m. get_or points m d) e in
              one_point other (get_or points k d)
              (omega (arith, z_other.costs, outdoes.costs, ap (λ (t : Point). t.cost) same))
              (omega (arith, ints, z_other.slacks, outdoes.slacks, ap (λ (t : Point). t.slack) same))
          | inr (inr high) ↦
              let up : Exceeds (get_or points k d) (get_or points i d) = rise k i d high i_n in
              absurd (omega (arith, up.costs, ap (λ (t : Point). t.cost) is, z_other.costs, outdoes.costs))
        ];
  };
  covers = covers;
}

-- THE END: a list whose choice has the least slack has no further point
pub sweep_full : (n : ℕ) (fronts : ℕ → List Point) (cap : Option ℕ) (at : ℕ → ℕ) (points : List Point) (x : Point) → AreRising n fronts
    → IsSwept n fronts cap at points → IsTotalOf n (picked fronts at) x → IsWithin cap x.cost → IsAtEnd n fronts x.slack at
    → IsFrontier (IsTotal n (IsListed fronts) cap) (points ++ x ∷ [])
sweep_full n fronts cap at points x rise s of_x within (k, k_n, last) =
    finished (IsTotal n (IsListed fronts) cap) (points ++ x ∷ [])
    (all_pairs_push Exceeds points x s.rising (s.above x of_x))
    (All-push (IsTotal n (IsListed fronts) cap) points x s.taken (
      picked fronts at,
      record {
        chosen = λ k k_n. Contains-get_or (fronts k) (at k) zero_point (s.inside k k_n);
        total = of_x;
        within = within;
      },
    ))
    (λ y (choice, by).
    elim (s.covers choice y by) [
      | inl old ↦ let (z, z_in, z_y) = old in (z, Contains-append_left points (x ∷ []) z z_in, z_y)
      | inr reached ↦
          by_lt_z x.slack y.slack
          (λ more.
          let (j, i_j, j_n, is) = later (fronts k) (choice k) zero_point (at k) (rise k k_n) (s.inside k k_n) (by.chosen k k_n) (omega (arith, ints, last.low, more, by.total.least.below k k_n)) in
          absurd (omega (arith, last.end, i_j, j_n)))
          (λ low. (x, Contains-push points x, record { costs = costs_reached n (picked fronts at) choice x y reached of_x by.total; slacks = low }))
    ])

-- or the picks cost more than the cap
pub sweep_over : (n : ℕ) (fronts : ℕ → List Point) (most : ℕ) (at : ℕ → ℕ) (points : List Point) (x : Point)
    → IsSwept n fronts (Some most) at points → IsTotalOf n (picked fronts at) x → most < x.cost
    → IsFrontier (IsTotal n (IsListed fronts) (Some most)) points
sweep_over n fronts most at points x s of_x over =
    finished (IsTotal n (IsListed fronts) (Some most)) points s.rising s.taken
    (λ y (choice, by).
    elim (s.covers choice y by) [
      | inl old ↦ old
      | inr reached ↦ absurd (omega (arith, over, by.within, costs_reached n (picked fronts at) choice x y reached of_x by.total))
    ])

-- where a list is empty there is no choice
pub sweep_none : (n : ℕ) (fronts : ℕ → List Point) (cap : Option ℕ) (k : ℕ) → k < n → length (fronts k) ≡ 0
    → IsFrontier (IsTotal n (IsListed fronts) cap) []
sweep_none n fronts cap k k_n none =
    finished (IsTotal n (IsListed fronts) cap) [] (λ i j d i_j j_n. absurd (omega arith)) (λ k d k_n. absurd (omega arith))
    (λ y (choice, by). let (i, i_n, is) = by.chosen k k_n in absurd (omega (arith, i_n, none)))
