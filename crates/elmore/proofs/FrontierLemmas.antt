-- Frontiers and undominated lists.
use Rattle.std.proofs.Common.{◌≡◌, ◌⊎◌, ℕ, zero, suc, ◌+◌, ◌-◌, ◌<◌, ◌≤◌, List, [], ◌∷◌, ◌++◌, ℤ, ◌≤ℤ◌, ◌<ℤ◌, Option, None, refl, sym, ap, ◌∙◌, subst, arith, inl, inr, length, get_or, take}
use Rattle.std.proofs.lemmas.Bool.{cases_lt, cases_order}
use Rattle.std.proofs.lemmas.Int.{ints, by_lt_z}
use Rattle.std.proofs.lemmas.List.{take_more, take_all, get_or_default}
use Rattle.std.proofs.lemmas.List.Elements.{All-contains}
use Rattle.std.specs.List.{Contains, All, AllPairs}
use Rattle.elmore.specs.Placements.{cost_of}
use Rattle.elmore.specs.Best.{IsBest}
use Rattle.elmore.specs.Pairs.{Dominates, IsBelow, IsUndominated}
use Rattle.elmore.specs.Frontier.{Point, Outdoes, IsAttained, IsOnFrontier, IsFrontier}
use Rattle.elmore.specs.FrontierLaws.{Exceeds}
use Rattle.elmore.specs.declared.pair.Pair.{Pair}
use Rattle.elmore.specs.declared.problem.Problem.{Problem}

pub rises : (In : Point → Type 0) (points : List Point) → IsFrontier In points → AllPairs Exceeds points
rises In points frontier i j d i_j j_n =
    let costs : (get_or points i d).cost < (get_or points j d).cost = frontier.rising i j d i_j j_n in
    record {
      costs = costs;
      slacks =
          by_lt_z (get_or points i d).slack (get_or points j d).slack (λ less. less) (λ no_less.
          let outdone : Outdoes (get_or points i d) (get_or points j d) = record { costs = omega arith; slacks = no_less } in
          let same : get_or points i d ≡ get_or points j d =
          (frontier.taken j d j_n).alone (get_or points i d) (frontier.taken i d (omega arith)).attained outdone in
          absurd (omega (arith, ap (λ (x : Point). x.cost) same)));
    }

pub is_whole : (In : Point → Type 0) (points : List Point) (point : Point) → IsFrontier In points → IsOnFrontier In point → Contains points point
is_whole In points point frontier on =
    let (other, other_in, outdoes) = frontier.covers point on.attained in
    subst (Contains points) (on.alone other (All-contains (IsOnFrontier In) points other frontier.taken other_in).attained outdoes) other_in

-- a list that is not empty ends
ends : {X : Type 0} (xs : List X) (n : ℕ) (d : X) → length xs ≡ n + 1 → xs ≡ take n xs ++ get_or xs n d ∷ []
ends xs n d e = sym (take_all (n + 1) xs (omega arith)) ∙ take_more xs n d (omega arith)

pub last_is_best : (p : Problem) (cells : List (Option ℕ)) (x : ℤ) (points : List Point) → IsBest p cells x → IsFrontier (IsAttained p None) points
    → (front : List Point) × (last : Point) × (points ≡ front ++ last ∷ []) × (last.slack ≡ x)
last_is_best p cells x points best frontier =
    let point : Point = record { cost = cost_of p cells; slack = x } in
    let (other, other_in, outdoes) = frontier.covers point (cells, record { good = best.good; within = tt; costs = refl; slacks = best.slack }) in
    let (k, k_n, is) = other_in in
    let last : Point = get_or points (length points - 1) other in
    let attained : IsAttained p None last = (frontier.taken (length points - 1) other (omega arith)).attained in
    let at_most : last.slack ≤ℤ x = best.most attained.0 last.slack attained.1.good attained.1.slacks in
    let at_least : x ≤ℤ last.slack =
    elim (cases_lt k (length points - 1)) [
      | inl before ↦
          let less : (get_or points k other).slack <ℤ last.slack = (rises (IsAttained p None) points frontier k (length points - 1) other before (omega arith)).slacks in
          omega (arith, ints, ap (λ (z : Point). z.slack) is)
      | inr at_end ↦
          let same : last ≡ get_or points k other = ap (λ (i : ℕ). get_or points i other) (end_of k k_n at_end) in
          omega (arith, ints, ap (λ (z : Point). z.slack) (same ∙ is))
    ] in
    (take (length points - 1) points, last, ends points (length points - 1) other (omega arith), omega (arith, ints))
  where
    end_of : (k : ℕ) → k < length points → length points - 1 ≤ k → length points - 1 ≡ k
    end_of k k_n at_end = omega arith

-- an element of a strictly rising list is its first or above it
least : {X : Type 0} (f : X → ℕ) (x : X) (xs : List X) → AllPairs (λ a b. f a < f b) (x ∷ xs) → (z : X) → Contains (x ∷ xs) z
    → (z ≡ x) ⊎ (Contains xs z × (f x < f z))
least f x xs rising z (zero, k_n, is) = inl (sym is)
least f x xs rising z (suc k, k_n, is) =
    inr ((k, omega arith, is), let above : f x < f (get_or xs k z) = rising 0 (suc k) z (omega arith) k_n in omega (arith, ap f is))

-- a strictly rising list is determined by its elements
one_list : {X : Type 0} (f : X → ℕ) (xs ys : List X) → AllPairs (λ a b. f a < f b) xs → AllPairs (λ a b. f a < f b) ys
    → All (Contains ys) xs → All (Contains xs) ys → xs ≡ ys
one_list f [] [] rising_x rising_y in_y in_x = refl
one_list f [] (y ∷ ys) rising_x rising_y in_y in_x = let (k, k_n, is) = in_x 0 y (omega arith) in absurd (omega arith)
one_list f (x ∷ xs) [] rising_x rising_y in_y in_x = let (k, k_n, is) = in_y 0 x (omega arith) in absurd (omega arith)
one_list {X} f (x ∷ xs) (y ∷ ys) rising_x rising_y in_y in_x =
    ap (λ (z : X). z ∷ xs) same
    ∙ ap (λ (zs : List X). y ∷ zs)
    (one_list f xs ys
    (λ i j d i_j j_n. rising_x (suc i) (suc j) d (omega arith) (omega arith))
    (λ i j d i_j j_n. rising_y (suc i) (suc j) d (omega arith) (omega arith))
    (rest x xs y ys same rising_x rising_y in_y)
    (rest y ys x xs (sym same) rising_y rising_x in_x))
  where
    same : x ≡ y
    same =
        elim (least f y ys rising_y x (in_y 0 x (omega arith))) [
          | inl e ↦ e
          | inr below ↦ elim (least f x xs rising_x y (in_x 0 y (omega arith))) [
            | inl e ↦ sym e
            | inr above ↦ absurd (omega (arith, below.1, above.1))
          ]
        ]

    rest : (a : X) (later : List X) (b : X) (bs : List X) → a ≡ b → AllPairs (λ u v. f u < f v) (a ∷ later) → AllPairs (λ u v. f u < f v) (b ∷ bs)
        → All (Contains (b ∷ bs)) (a ∷ later) → All (Contains bs) later
    rest a later b bs a_b rising_a rising_b in_b k d k_n =
        elim (least f b bs rising_b (get_or later k d) (in_b (suc k) d (omega arith))) [
          | inl e ↦
              let above : f a < f (get_or later k d) = rising_a 0 (suc k) d (omega arith) (omega arith) in
              absurd (omega (arith, ap f e, ap f a_b))
          | inr below ↦ below.0
        ]

pub one_of_each : (In : Point → Type 0) (points others : List Point) → IsFrontier In points → IsFrontier In others → points ≡ others
one_of_each In points others frontier other =
    one_list (λ (point : Point). point.cost) points others frontier.rising other.rising
    (λ k d h. is_whole In others (get_or points k d) other (frontier.taken k d h))
    (λ k d h. is_whole In points (get_or others k d) frontier (other.taken k d h))

-- two pairs of a strictly rising list, one of which dominates the other, are one
no_other : (xs : List Pair) (i j : ℕ) (d : Pair) → AllPairs IsBelow xs → i < length xs → j < length xs
    → Dominates (get_or xs i d) (get_or xs j d) → i ≡ j
no_other xs i j d rising i_n j_n over =
    elim (cases_order i j) [
      | inl e ↦ e
      | inr other ↦ elim other [
        | inl i_j ↦ let below : IsBelow (get_or xs i d) (get_or xs j d) = rising i j d i_j j_n in absurd (omega (arith, ints))
        | inr j_i ↦ let below : IsBelow (get_or xs j d) (get_or xs i d) = rising j i d j_i i_n in absurd (omega (arith, ints))
      ]
    ]

one_pair : (x y : Pair) → x.q ≡ y.q → x.c ≡ y.c → x ≡ y
one_pair x y e f = λ i. record { q = e i; c = f i }

pub undominated_holds : (In : Pair → Type 0) (xs : List Pair) → IsUndominated In xs
    → (x : Pair) → In x → ((y : Pair) → In y → Dominates y x → y ≡ x) → Contains xs x
undominated_holds In xs u x x_in alone =
    let (y, y_in, over) = u.covers x x_in in
    subst (Contains xs) (alone y (All-contains In xs y u.taken y_in) over) y_in

pub undominated_alone : (In : Pair → Type 0) (xs : List Pair) → IsUndominated In xs
    → All (λ x. (y : Pair) → In y → Dominates y x → y ≡ x) xs
undominated_alone In xs u k d k_n y y_in over =
    let (z, z_in, over_y) = u.covers y y_in in
    let (j, j_n, z_is) = z_in in
    let at_j : get_or xs j d ≡ z = get_or_default xs j d z j_n ∙ z_is in
    let over_x : Dominates (get_or xs j d) (get_or xs k d) = rw at_j (record { time = omega (arith, ints); room = omega arith }) in
    let same : get_or xs k d ≡ z = ap (λ (i : ℕ). get_or xs i d) (sym (no_other xs j k d u.rising j_n k_n over_x)) ∙ at_j in
    one_pair y (get_or xs k d)
    (omega (arith, ints, ap (λ (x : Pair). x.q) same))
    (omega (arith, ap (λ (x : Pair). x.c) same))
