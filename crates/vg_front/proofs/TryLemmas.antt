-- Repeaters that are tried before candidates.
use Rattle.std.proofs.Common.{◌≡◌, ◌⊎◌, ℕ, ◌+◌, ◌-◌, ◌*◌, ◌<◌, ◌≤◌, List, [], ◌∷◌, length, take, get_or, set, refl, sym, ap, ◌∙◌, subst, arith, inl, inr, Option, Some, None, ℤ, ◌≤ℤ◌}
use Rattle.std.proofs.lemmas.Bool.{cases_lt, cases_eq}
use Rattle.std.proofs.Math.Nat.{add-mul, mul-le-mul_left}
use Rattle.std.proofs.lemmas.Int.{ints}
use Rattle.std.proofs.lemmas.List.{length-set, get_or_default}
use Rattle.std.proofs.lemmas.List.Edits.{length-between, get_or-between}
use Rattle.std.proofs.lemmas.List.Elements.{Contains-get_or}
use Rattle.std.specs.List.{Contains, between}
use Rattle.elmore.specs.Cells.{rep_at}
use Rattle.elmore.specs.Legal.{IsWithin}
use Rattle.elmore.specs.declared.rep.Rep.{Rep}
use Rattle.cand_pairs.specs.Priced.{Beats}
use Rattle.vg_front.specs.declared.offer.Candidate.{Candidate}
use Rattle.vg_front.specs.declared.offer.Offer.{Offer}
use Rattle.vg_front.specs.declared.offer.Proposal.{Proposal}
use Rattle.vg_front.specs.declared.tries.Site.{Site}
use Rattle.vg_front.specs.Offers.{priced, proposed_by, Adds, OfSome}
use Rattle.vg_front.specs.Driving.{Stand, driven_at, driven_offer, IsReached, IsDrivable, IsDriven, IsTried}
use Rattle.vg_front.specs.Meeting.{IsRunAt}
use Rattle.vg_front.specs.Tries.{before, stand_at, IsLatest, IsTriedBy, AreNumbers, AreBests, DriveAll}
use Rattle.vg_front.proofs.SeenLemmas.{beaten_over, set_cases, left_in}
use Rattle.vg_front.proofs.TakenLemmas.{of_between, in_between, between_in, more_taken, between_taken, taken_cases}
use Rattle.vg_front.proofs.OfferLemmas.{beaten_parts, adds_then}
use Rattle.vg_front.proofs.CellLemmas.{drive_begins, drive_next}
use Rattle.vg_front.proofs.ListLemmas.{any_default}
use Rattle.vg_front.proofs.RunLemmas.{run_alone}

-- what beats all of a set is enough of it
pub adds_narrowed : (A B : Proposal → Type 0) (old new : List Proposal) → Adds A old new → ((q : Proposal) → A q → B q)
    → ((q : Proposal) → B q → (z : Proposal) × A z × Beats (priced z.offer) (priced q.offer)) → Adds B old new
adds_narrowed A B old new is a_b beaten = record {
  part = λ q found. elim (is.part q found) [
    | inl there ↦ inl there
    | inr a ↦ inr (a_b q a)
  ];
  covers = λ q among. elim among [
    | inl there ↦ is.covers q (inl there)
    | inr b ↦
        let (z, a, z_q) = beaten q b in
        beaten_over (proposed_by new) (priced z.offer) (priced q.offer) (is.covers z (inr a)) z_q
  ];
}

-- EXCHANGE
-- the greater resistance with the greater load is more than crosswise
pub crosswise : (r R c C : ℕ) → r ≤ R → c ≤ C → R * c + r * C ≤ R * C + r * c
crosswise r R c C low less = let e : r + (R - r) ≡ R = omega arith in subst (λ (n : ℕ). n * c + r * C ≤ n * C + r * c) e (cross r (R - r) c C less)
  where
    cross : (r d c C : ℕ) → c ≤ C → (r + d) * c + r * C ≤ (r + d) * C + r * c
    cross r d c C less = omega (arith, add-mul r d c, add-mul r d C, mul-le-mul_left {m = c} {n = C} d less)

-- one with more load that is no better before a resistor is no better before a greater one
pub worse_on : (r R : ℕ) (x y : Offer) → r ≤ R → x.c ≤ y.c → before r y ≤ℤ before r x → before R y ≤ℤ before R x
worse_on r R x y more load worse = let cross = crosswise r R x.c y.c more load in omega (arith, ints, cross, worse)

-- and with less load before a lesser one
pub worse_back : (r R : ℕ) (x y : Offer) → r ≤ R → y.c ≤ x.c → before R y ≤ℤ before R x → before r y ≤ℤ before r x
worse_back r R x y less load worse = let cross = crosswise r R y.c x.c less load in omega (arith, ints, cross, worse)

-- ONE REPEATER
module _ (at : Stand) (cap : Option ℕ) where
  -- one of the same cost that is no worse is as good
  pub drives_better : (x y : Candidate) → x.offer.cost ≡ y.offer.cost → IsWithin at.rep.limit x.offer.c → before at.rep.r y.offer ≤ℤ before at.rep.r x.offer
      → IsDrivable at.rep cap y → IsDrivable at.rep cap x × Beats (priced (driven_offer at.rep x.offer)) (priced (driven_offer at.rep y.offer))
  drives_better x y same limit better may = (
    record { limit = limit; costs = subst (λ (n : ℕ). IsWithin cap (n + at.rep.cost)) (sym same) may.costs },
    record { cost = omega (arith, same); pair = record { time = omega (arith, ints, better); room = omega arith } },
  )

  -- of these candidates some are as good as each
  pub best_beats : (xs zs : List Candidate)
      → ((y : Candidate) → Contains xs y → (x : Candidate) × Contains zs x × (x.offer.cost ≡ y.offer.cost) × IsWithin at.rep.limit x.offer.c
      × (before at.rep.r y.offer ≤ℤ before at.rep.r x.offer))
      → (q : Proposal) → IsDriven at cap xs q → (z : Proposal) × IsDriven at cap zs z × Beats (priced z.offer) (priced q.offer)
  best_beats xs zs best q (y, y_in, may, q_is) =
      let (x, x_in, same, limit, better) = best y y_in in
      let (x_may, beats) = drives_better x y same limit better may in (
        driven_at at x,
        (x, x_in, x_may, refl),
        subst (λ (t : Proposal). Beats (priced (driven_offer at.rep x.offer)) (priced t.offer)) (sym q_is) beats,
      )

  pub tried_alone : (x : Candidate) (old new : List Proposal) → IsTried at cap x old new → Adds (IsDriven at cap (x ∷ [])) old new
  tried_alone x old new tried = drive_next at cap (x ∷ []) 0 x old old new (omega arith) (drive_begins at cap (x ∷ []) old) tried

-- RUNS
module _ (xs : List Candidate) (run : IsRunAt xs 0 (length xs)) where
  pub same_cost : (x y : Candidate) → Contains xs x → Contains xs y → x.offer.cost ≡ y.offer.cost
  same_cost x y (k, k_n, x_is) (m, m_n, y_is) =
      let first : length xs ≡ length xs = refl in
      sym (ap (λ (t : Candidate). t.offer.cost) x_is) ∙ run.costs k x (omega arith) k_n
      ∙ ap (λ (t : Candidate). t.offer.cost) (any_default xs 0 x y (omega (arith, k_n))) ∙ sym (run.costs m y (omega arith) m_n)
      ∙ ap (λ (t : Candidate). t.offer.cost) y_is

  -- a part of it
  pub run_part : (from end : ℕ) → from < end → end ≤ length xs → IsRunAt xs from end
  run_part from end some within = record {
    some = some;
    within = within;
    costs = λ k d low high. run.costs k d (omega arith) (omega (arith, high, within)) ∙ sym (run.costs from d (omega arith) (omega (arith, some, within)));
    rises = λ k m d low order high. run.rises k m d (omega arith) order (omega (arith, high, within));
  }

  -- none has more load than the last one
  pub last_most : (x d : Candidate) → Contains xs x → x.offer.c ≤ (get_or xs (length xs - 1) d).offer.c
  last_most x d (k, k_n, x_is) =
      omega (
        arith,
        run.rises k (length xs - 1) d (omega arith) (omega (arith, k_n)) (omega (arith, k_n)),
        ap (λ (t : Candidate). t.offer.c) (any_default xs k d x k_n ∙ x_is),
      )

-- the best candidate of a run before a resistor
module _ (site : Site) (reps : List Rep) (b : ℕ) (xs : List Candidate) (run : IsRunAt xs 0 (length xs)) (r i : ℕ) (best : IsLatest xs (length xs) r i)
    (charges : (x : Candidate) → Contains xs x → IsWithin (rep_at reps b).limit x.offer.c) where
  here : Candidate → Candidate
  here d = get_or xs i d

  here_in : (d : Candidate) → Contains xs (get_or xs i d)
  here_in d = Contains-get_or xs i d best.inside

  -- is enough for a repeater of this resistance
  pub alone_beats : (d : Candidate) → r ≡ (rep_at reps b).r → (q : Proposal) → IsTriedBy site reps xs b q
      → (z : Proposal) × IsTriedBy site reps (get_or xs i d ∷ []) b z × Beats (priced z.offer) (priced q.offer)
  alone_beats d same =
      best_beats (stand_at site b (rep_at reps b)) site.cap xs (get_or xs i d ∷ [])
      (λ y y_in. (
        get_or xs i d,
        (0, omega arith, refl),
        same_cost xs run (get_or xs i d) y (here_in d) y_in,
        charges (get_or xs i d) (here_in d),
        subst (λ (n : ℕ). before n y.offer ≤ℤ before n (get_or xs i d).offer) same (no_later d y y_in),
      ))
    where
      no_later : (d y : Candidate) → Contains xs y → before r y.offer ≤ℤ before r (get_or xs i d).offer
      no_later d y (k, k_n, y_is) =
          subst (λ (t : Candidate). before r t.offer ≤ℤ before r (get_or xs i d).offer) (any_default xs k d y k_n ∙ y_is) (best.latest k d k_n)

  pub one_tried : (d : Candidate) (old new : List Proposal) → r ≡ (rep_at reps b).r
      → IsTried (stand_at site b (rep_at reps b)) site.cap (get_or xs i d) old new → Adds (IsTriedBy site reps xs b) old new
  one_tried d old new same tried =
      adds_narrowed (IsTriedBy site reps (get_or xs i d ∷ []) b) (IsTriedBy site reps xs b) old new
      (tried_alone (stand_at site b (rep_at reps b)) site.cap (get_or xs i d) old new tried)
      (λ q (x, (k, k_n, x_is), may, q_is).
      let first : k ≡ 0 = omega (arith, k_n) in
      let is : get_or xs i d ≡ x = sym (ap (λ (n : ℕ). get_or (get_or xs i d ∷ []) n x) first) ∙ x_is in
      (x, subst (Contains xs) is (here_in d), may, q_is))
      (alone_beats d same)

  -- those of less load are not wanted where the resistance is less
  pub later_beats : (rep_at reps b).r ≤ r → (q : Proposal) → IsTriedBy site reps xs b q
      → (z : Proposal) × IsTriedBy site reps (between i (length xs) xs) b z × Beats (priced z.offer) (priced q.offer)
  later_beats low =
      best_beats (stand_at site b (rep_at reps b)) site.cap xs (between i (length xs) xs)
      (λ y (k, k_n, y_is). elim (cases_lt k i) [
        | inr late ↦ (
          y,
          in_between xs i (length xs) k y (omega arith) late k_n y_is,
          refl,
          charges y (k, k_n, y_is),
          omega (arith, ints),
        )
        | inl early ↦ (
          get_or xs i y,
          in_between xs i (length xs) i (get_or xs i y) (omega arith) (omega arith) best.inside (any_default xs i (get_or xs i y) y best.inside),
          same_cost xs run (get_or xs i y) y (here_in y) (k, k_n, y_is),
          charges (get_or xs i y) (here_in y),
          worse_back (rep_at reps b).r r (get_or xs i y).offer y.offer low
              (omega (arith, run.rises k i y (omega arith) (omega (arith, early)) best.inside, ap (λ (t : Candidate). t.offer.c) y_is))
              (subst (λ (t : Candidate). before r t.offer ≤ℤ before r (get_or xs i y).offer) y_is (best.latest k y k_n)),
        )
      ])

  -- those of more load are not wanted where it is more
  pub earlier_beats : r ≤ (rep_at reps b).r → (q : Proposal) → IsTriedBy site reps xs b q
      → (z : Proposal) × IsTriedBy site reps (between 0 (i + 1) xs) b z × Beats (priced z.offer) (priced q.offer)
  earlier_beats high =
      best_beats (stand_at site b (rep_at reps b)) site.cap xs (between 0 (i + 1) xs)
      (λ y (k, k_n, y_is). elim (cases_lt i k) [
        | inr early ↦ (
          y,
          in_between xs 0 (i + 1) k y (omega (arith, best.inside)) (omega arith) (omega (arith, early)) y_is,
          refl,
          charges y (k, k_n, y_is),
          omega (arith, ints),
        )
        | inl late ↦ (
          get_or xs i y,
          in_between xs 0 (i + 1) i (get_or xs i y) (omega (arith, best.inside)) (omega arith) (omega arith)
              (any_default xs i (get_or xs i y) y best.inside),
          same_cost xs run (get_or xs i y) y (here_in y) (k, k_n, y_is),
          charges (get_or xs i y) (here_in y),
          worse_on r (rep_at reps b).r (get_or xs i y).offer y.offer high
              (omega (arith, run.rises i k y (omega arith) (omega (arith, late)) k_n, ap (λ (t : Candidate). t.offer.c) y_is))
              (subst (λ (t : Candidate). before r t.offer ≤ℤ before r (get_or xs i y).offer) y_is (best.latest k y k_n)),
        )
      ])

-- FINDING IT
pub latest_begins : (xs : List Candidate) (r : ℕ) → IsLatest xs 1 r 0
latest_begins xs r = record {
  inside = omega arith;
  latest = λ k d low. let e : k ≡ 0 = omega (arith, low) in
      subst (λ (n : ℕ). before r (get_or xs n d).offer ≤ℤ before r (get_or xs 0 d).offer) (sym e) (omega (arith, ints));
}

module _ (xs : List Candidate) (i r at : ℕ) (q best : ℤ) (e : Candidate) (inside : i < length xs) (so_far : IsLatest xs i r at)
    (best_is : (d : Candidate) → best ≡ before r (get_or xs at d).offer) (q_is : q ≡ before r (get_or xs i e).offer) where
  q_at : (d : Candidate) → q ≡ before r (get_or xs i d).offer
  q_at d = q_is ∙ ap (λ (x : Candidate). before r x.offer) (any_default xs i e d inside)

  pub latest_stays : q ≤ℤ best → IsLatest xs (i + 1) r at
  latest_stays less = record {
    inside = omega (arith, so_far.inside);
    latest = λ k d low. elim (cases_lt k i) [
      | inl early ↦ so_far.latest k d early
      | inr late ↦
          let e : k ≡ i = omega (arith, low, late) in
          subst (λ (n : ℕ). before r (get_or xs n d).offer ≤ℤ before r (get_or xs at d).offer) (sym e) (omega (arith, ints, less, q_at d, best_is d))
    ];
  }

  pub latest_moves : best ≤ℤ q → IsLatest xs (i + 1) r i
  latest_moves more = record {
    inside = omega arith;
    latest = λ k d low. elim (cases_lt k i) [
      | inl early ↦ omega (arith, ints, more, so_far.latest k d early, q_at d, best_is d)
      | inr late ↦
          let e : k ≡ i = omega (arith, low, late) in
          subst (λ (n : ℕ). before r (get_or xs n d).offer ≤ℤ before r (get_or xs i d).offer) (sym e) (omega (arith, ints))
    ];
  }

-- ALL THESE REPEATERS
-- what some candidates of a list beat of each repeater
pub some_narrowed : (site : Site) (reps : List Rep) (numbers : List ℕ) (xs zs : List Candidate) (old new : List Proposal)
    → ((x : Candidate) → Contains zs x → Contains xs x)
    → ((b : ℕ) → Contains numbers b → (q : Proposal) → IsTriedBy site reps xs b q
    → (z : Proposal) × IsTriedBy site reps zs b z × Beats (priced z.offer) (priced q.offer))
    → Adds (OfSome numbers (IsTriedBy site reps zs)) old new → Adds (OfSome numbers (IsTriedBy site reps xs)) old new
some_narrowed site reps numbers xs zs old new among beaten is =
    adds_narrowed (OfSome numbers (IsTriedBy site reps zs)) (OfSome numbers (IsTriedBy site reps xs)) old new is
    (λ q (b, b_in, (x, x_in, may, q_is)). (b, b_in, (x, among x x_in, may, q_is)))
    (λ q (b, b_in, driven). let (z, z_is, z_q) = beaten b b_in q driven in (z, (b, b_in, z_is), z_q))

-- the middle one, those before it and those behind it
pub halves_all : (In : ℕ → Proposal → Type 0) (numbers : List ℕ) (mid b : ℕ) (old one low new : List Proposal) → mid < length numbers
    → b ≡ get_or numbers mid b → Adds (In b) old one → Adds (OfSome (between 0 mid numbers) In) one low
    → Adds (OfSome (between (mid + 1) (length numbers) numbers) In) low new → Adds (OfSome numbers In) old new
halves_all In numbers mid b old one low new inside b_is of_mid of_low of_high =
    adds_then Below (OfSome (between (mid + 1) (length numbers) numbers) In) (OfSome numbers In) old low new
    (adds_then (In b) (OfSome (between 0 mid numbers) In) Below old one low of_mid of_low (λ q is. inl is) (λ q is. inr is) (λ q is. is))
    of_high
    (λ q is. elim is [
      | inl here ↦ (b, (mid, inside, sym b_is), here)
      | inr (a, a_in, is_a) ↦ (a, between_in numbers 0 mid a (omega (arith, inside)) a_in, is_a)
    ])
    (λ q (a, a_in, is_a). (a, between_in numbers (mid + 1) (length numbers) a (omega arith) a_in, is_a))
    (λ q (a, (k, k_n, a_is), is_a). elim (cases_lt k mid) [
      | inl early ↦ inl (inr (a, in_between numbers 0 mid k a (omega (arith, inside)) (omega arith) early a_is, is_a))
      | inr late ↦ elim (cases_eq k mid) [
        | inl same ↦
            let a_b : a ≡ b = sym a_is ∙ ap (λ (n : ℕ). get_or numbers n a) same ∙ any_number numbers mid a b inside ∙ sym b_is in
            inl (inl (subst (λ (n : ℕ). In n q) a_b is_a))
        | inr other ↦
            inr (a, in_between numbers (mid + 1) (length numbers) k a (omega arith) (omega (arith, late, other)) k_n a_is, is_a)
      ]
    ])
  where
    Below : Proposal → Type 0
    Below q = In b q ⊎ OfSome (between 0 mid numbers) In q

    any_number : (ns : List ℕ) (k d e : ℕ) → k < length ns → get_or ns k d ≡ get_or ns k e
    any_number ns k d e k_n = get_or_default ns k d e k_n

-- rising numbers
module _ (reps : List Rep) (numbers : List ℕ) (are : AreNumbers reps numbers) where
  pub numbers_part : (from end : ℕ) → end ≤ length numbers → AreNumbers reps (between from end numbers)
  numbers_part from end within = record {
    named = λ b found. are.named b (between_in numbers from end b within found);
    rising = λ i j d less j_n.
        let j_end : from + j < end = omega (arith, j_n, length-between numbers from end within) in
        let i_end : from + i < end = omega (arith, less, j_end) in
        subst (λ (n : ℕ). (rep_at reps n).r ≤ (rep_at reps (get_or (between from end numbers) j d)).r) (sym (get_or-between numbers from end i d i_end))
        (subst (λ (n : ℕ). (rep_at reps (get_or numbers (from + i) d)).r ≤ (rep_at reps n).r) (sym (get_or-between numbers from end j d j_end))
        (are.rising (from + i) (from + j) d (omega (arith, less)) (omega (arith, j_end, within))));
  }

  -- those before one have no more resistance, those behind it no less
  pub low_r : (mid b a : ℕ) → mid < length numbers → b ≡ get_or numbers mid b → Contains (between 0 mid numbers) a → (rep_at reps a).r ≤ (rep_at reps b).r
  low_r mid b a inside b_is a_in =
      let (k, low, high, a_is) = of_between numbers 0 mid a (omega (arith, inside)) a_in in
      subst (λ (n : ℕ). (rep_at reps a).r ≤ (rep_at reps n).r) (get_or_default numbers mid a b inside ∙ sym b_is)
      (subst (λ (n : ℕ). (rep_at reps n).r ≤ (rep_at reps (get_or numbers mid a)).r) a_is (are.rising k mid a high inside))

  pub high_r : (mid b a : ℕ) → mid < length numbers → b ≡ get_or numbers mid b → Contains (between (mid + 1) (length numbers) numbers) a
      → (rep_at reps b).r ≤ (rep_at reps a).r
  high_r mid b a inside b_is a_in =
      let (k, low, high, a_is) = of_between numbers (mid + 1) (length numbers) a (omega arith) a_in in
      subst (λ (n : ℕ). (rep_at reps n).r ≤ (rep_at reps a).r) (get_or_default numbers mid a b inside ∙ sym b_is)
      (subst (λ (n : ℕ). (rep_at reps (get_or numbers mid a)).r ≤ (rep_at reps n).r) a_is (are.rising mid k a (omega (arith, low)) high))

-- by halves, of a run all of which they may charge
pub first_part : {X : Type 0} (n : ℕ) (xs : List X) → between 0 n xs ≡ take n xs
first_part n xs = let e : n - 0 ≡ n = omega arith in ap (λ (k : ℕ). take k xs) e

module _ (site : Site) (reps : List Rep) (numbers : List ℕ) (xs : List Candidate) (are : AreNumbers reps numbers) (run : IsRunAt xs 0 (length xs))
    (charge : (x : Candidate) → Contains xs x → DriveAll reps numbers x.offer.c) (mid at : ℕ) (inside : mid < length numbers)
    (best : IsLatest xs (length xs) (rep_at reps (get_or numbers mid 0)).r at) where
  b_is : get_or numbers mid 0 ≡ get_or numbers mid (get_or numbers mid 0)
  b_is = get_or_default numbers mid 0 (get_or numbers mid 0) inside

  pub low_numbers : AreNumbers reps (take mid numbers)
  low_numbers = subst (AreNumbers reps) (first_part mid numbers) (numbers_part reps numbers are 0 mid (omega (arith, inside)))

  pub high_numbers : AreNumbers reps (between (mid + 1) (length numbers) numbers)
  high_numbers = numbers_part reps numbers are (mid + 1) (length numbers) (omega arith)

  pub later_in : (x : Candidate) → Contains (between at (length xs) xs) x → Contains xs x
  later_in x found = between_in xs at (length xs) x (omega arith) found

  pub earlier_run : IsRunAt (take (at + 1) xs) 0 (length (take (at + 1) xs))
  earlier_run =
      subst (λ (l : List Candidate). IsRunAt l 0 (length l)) (first_part (at + 1) xs)
      (run_alone xs 0 (at + 1) (run_part xs run 0 (at + 1) (omega arith) (omega (arith, best.inside))))

  pub later_run : IsRunAt (between at (length xs) xs) 0 (length (between at (length xs) xs))
  later_run = run_alone xs at (length xs) (run_part xs run at (length xs) best.inside (omega arith))

  pub high_in : (a : ℕ) → Contains (between (mid + 1) (length numbers) numbers) a → Contains numbers a
  high_in a found = between_in numbers (mid + 1) (length numbers) a (omega arith) found

  pub halves_tried : (old one low new : List Proposal) → Adds (IsTriedBy site reps xs (get_or numbers mid 0)) old one
      → Adds (OfSome (take mid numbers) (IsTriedBy site reps (between at (length xs) xs))) one low
      → Adds (OfSome (between (mid + 1) (length numbers) numbers) (IsTriedBy site reps (take (at + 1) xs))) low new
      → Adds (OfSome numbers (IsTriedBy site reps xs)) old new
  halves_tried old one low new of_mid of_low of_high =
      halves_all (IsTriedBy site reps xs) numbers mid (get_or numbers mid 0) old one low new inside b_is of_mid
      (subst (λ (l : List ℕ). Adds (OfSome l (IsTriedBy site reps xs)) one low) (sym (first_part mid numbers))
      (some_narrowed site reps (take mid numbers) xs (between at (length xs) xs) one low later_in
      (λ a a_in.
      later_beats site reps a xs run (rep_at reps (get_or numbers mid 0)).r at best (λ x x_in. charge x x_in a (left_in numbers mid a a_in))
      (low_r reps numbers are mid (get_or numbers mid 0) a inside b_is (subst (λ (l : List ℕ). Contains l a) (sym (first_part mid numbers)) a_in)))
      of_low))
      (some_narrowed site reps (between (mid + 1) (length numbers) numbers) xs (take (at + 1) xs) low new (left_in xs (at + 1))
      (λ a a_in q is.
      subst (λ (l : List Candidate). (z : Proposal) × IsTriedBy site reps l a z × Beats (priced z.offer) (priced q.offer)) (first_part (at + 1) xs)
      (earlier_beats site reps a xs run (rep_at reps (get_or numbers mid 0)).r at best (λ x x_in. charge x x_in a (high_in a a_in))
      (high_r reps numbers are mid (get_or numbers mid 0) a inside b_is a_in) q is))
      of_high)

-- THE BEST OF EACH
pub reached_adds : (A : Proposal → Type 0) (old new : List Proposal) (best : Option Offer) → Adds A old new → IsReached old best → IsReached new best
reached_adds A old new None is reached = tt
reached_adds A old new (Some best) is reached =
    let (x, x_in, x_best) = beaten_parts old (priced best) reached in
    beaten_over (proposed_by new) (priced x.offer) (priced best) (is.covers x (inl x_in)) x_best

pub bests_set : (A : Proposal → Type 0) (reps : List Rep) (old new : List Proposal) (bests : List (Option Offer)) (i : ℕ) (best : Option Offer)
    → AreBests reps old bests → Adds A old new → IsReached new best → AreBests reps new (set bests i best)
bests_set A reps old new bests i best are is reached = record {
  one_each = length-set bests i best ∙ are.one_each;
  reached = λ x found. elim (set_cases bests i best x found) [
    | inl there ↦ reached_adds A old new x is (are.reached x there)
    | inr e ↦ subst (IsReached new) (sym e) reached
  ];
}

-- LISTS, RUN BY RUN
pub runs_tried : (site : Site) (reps : List Rep) (numbers : List ℕ) (xs : List Candidate) (from end : ℕ) (old mid new : List Proposal)
    → from ≤ end → end ≤ length xs → Adds (OfSome numbers (IsTriedBy site reps (take from xs))) old mid
    → Adds (OfSome numbers (IsTriedBy site reps (between from end xs))) mid new → Adds (OfSome numbers (IsTriedBy site reps (take end xs))) old new
runs_tried site reps numbers xs from end old mid new order within one two =
    adds_then (OfSome numbers (IsTriedBy site reps (take from xs))) (OfSome numbers (IsTriedBy site reps (between from end xs)))
    (OfSome numbers (IsTriedBy site reps (take end xs))) old mid new one two
    (λ q (b, b_in, (x, x_in, may, q_is)). (b, b_in, (x, more_taken xs from end x order within x_in, may, q_is)))
    (λ q (b, b_in, (x, x_in, may, q_is)). (b, b_in, (x, between_taken xs from end x within x_in, may, q_is)))
    (λ q (b, b_in, (x, x_in, may, q_is)). elim (taken_cases xs from end x order within x_in) [
      | inl early ↦ inl (b, b_in, (x, early, may, q_is))
      | inr late ↦ inr (b, b_in, (x, late, may, q_is))
    ])

-- less load is within the limit
pub within_less : (limit : Option ℕ) (m n : ℕ) → m ≤ n → IsWithin limit n → IsWithin limit m
within_less None m n less within = tt
within_less (Some most) m n less within = omega (arith, less, within)
