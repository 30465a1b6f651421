-- The upper hull of a rising list: a pair goes on, and what it makes needless comes off.
use Rattle.std.proofs.Common.{◌≡◌, ◌↔◌, ℕ, ◌+◌, ◌-◌, ◌*◌, ◌/◌, ◌^◌, ◌<◌, ◌≤◌, List, [], ◌∷◌, ◌++◌, take, get_or, length, refl, ap, ◌∙◌, subst, arith, inl, inr, pos, ◌-ℤ◌, ◌≤ℤ◌, ◌<ℤ◌}
use Rattle.std.proofs.Math.Nat.{le-div_iff_mul-le, mul-le-mul_left}
use Rattle.std.proofs.lemmas.Bool.{cases_lt, cases_eq}
use Rattle.std.proofs.lemmas.Int.{ints}
use Rattle.std.proofs.lemmas.List.{get_or_default, get_or_push, get_or_append_left, length-append, get_or-take, length-take-le}
use Rattle.std.specs.List.{AllPairs}
use Rattle.elmore.specs.Pairs.{IsBelow}
use Rattle.elmore.specs.declared.pair.Pair.{Pair}
use Rattle.vg_check.specs.Hulls.{value, pair_at, point_at, IsLast, IsPlace, IsHull, IsReady}
use Rattle.vg_check.specs.declared.hull.Point.{Point}

-- A POINT of the hull
pub point_here : (points : List Point) (j : ℕ) (p : Point) → j < length points → p ≡ get_or points j p → p ≡ point_at points j
point_here points j p j_n is = is ∙ get_or_default points j p (record { at = 0; last = 0 }) j_n

pub point_below : (xs : List Pair) (n : ℕ) (points : List Point) (j : ℕ) → AllPairs IsBelow xs → IsHull xs n points → n < length xs
    → j < length points → IsBelow (pair_at xs (point_at points j).at) (pair_at xs n)
point_below xs n points j rise hull n_in j_n = rise (point_at points j).at n (record { q = pos 0; c = 0 }) (hull.named j j_n) n_in

-- THE LAST RESISTANCE above which the second of two pairs is worth more, which has s + 1 more of time, and u more of load
pub last_is : (a b : Pair) (s u last : ℕ) → pos s ≡ b.q -ℤ a.q -ℤ pos 1 → b.c ≡ a.c + u → 0 < u
    → last ≤ 10 ^ 9 → ((r : ℕ) → r ≤ 10 ^ 9 → (r ≤ last) ↔ (r ≤ s / u)) → IsLast a b last
last_is a b s u last time room apart low decides = record {
  most = low;
  until = λ r r_last.
      let less : r * u ≤ s = (le-div_iff_mul-le apart).0 ((decides r (omega (arith, r_last, low))).0 r_last) in
      let more : r * b.c ≡ r * (a.c + u) = ap (λ k. r * k) room in
      omega (arith, ints, less, more, time);
  after = λ r r_low last_r.
      let more : r * b.c ≡ r * (a.c + u) = ap (λ k. r * k) room in
      elim (cases_lt s (r * u)) [
        | inl past ↦ omega (arith, ints, past, more, time)
        | inr less ↦
            let early : r ≤ last = (decides r r_low).1 ((le-div_iff_mul-le apart).1 less) in
            absurd (omega (arith, early, last_r))
      ];
}

-- where it is worth more above a resistance, it is so above less
earlier : (r last : ℕ) (a b : Pair) → IsBelow a b → r ≤ last → value last a <ℤ value last b → value r a <ℤ value r b
earlier r last a b below less more =
    let u : b.c ≡ a.c + (b.c - a.c) = omega (arith, below.room) in
    let at_r : r * b.c ≡ r * (a.c + (b.c - a.c)) = ap (λ k. r * k) u in
    let at_last : last * b.c ≡ last * (a.c + (b.c - a.c)) = ap (λ k. last * k) u in
    let lost : (b.c - a.c) * r ≤ (b.c - a.c) * last = mul-le-mul_left (b.c - a.c) less in
    omega (arith, ints, more, at_r, at_last, lost)

-- THE NEXT PAIR
pub ready_begins : (xs : List Pair) (n : ℕ) (points : List Point) (top : ℕ) → IsHull xs n points → top + 1 ≡ length points → IsReady xs n points top
ready_begins xs n points top hull last = record {
  inside = omega (arith, last);
  most = λ r j r_low place i i_n. inl (hull.most r j r_low (subst (λ k. IsPlace points k r j) last place) i i_n);
}

-- the last point comes off
ready_less : (xs : List Pair) (n : ℕ) (points : List Point) (top : ℕ) → IsReady xs n points (top + 1)
    → IsBelow (pair_at xs (point_at points (top + 1)).at) (pair_at xs n)
    → value (point_at points (top + 1)).last (pair_at xs (point_at points (top + 1)).at) <ℤ value (point_at points (top + 1)).last (pair_at xs n)
    → IsReady xs n points top
ready_less xs n points top ready below less = record {
  inside = omega (arith, ready.inside);
  most = λ r j r_low place i i_n. elim (cases_eq j top) [
    | inr ne ↦
        let at : IsPlace points (top + 1 + 1) r j =
        record { inside = omega (arith, place.inside); until = place.until; next = λ _. place.next (omega (arith, ne, place.inside)) } in
        elim (ready.most r j r_low at i i_n) [
          | inl le ↦ inl le
          | inr (e, _) ↦ absurd (omega (arith, e, place.inside))
        ]
    | inl e ↦ elim (cases_lt (point_at points (top + 1)).last r) [
      | inr early ↦
          let at : IsPlace points (top + 1 + 1) r (top + 1) =
          record { inside = omega arith; until = early; next = λ more. absurd (omega (arith, more)) } in
          let beaten : value r (pair_at xs (point_at points (top + 1)).at) <ℤ value r (pair_at xs n) =
          earlier r (point_at points (top + 1)).last (pair_at xs (point_at points (top + 1)).at) (pair_at xs n) below early less in
          elim (ready.most r (top + 1) r_low at i i_n) [
            | inl le ↦ inr (e, omega (arith, ints, le, beaten))
            | inr (_, le) ↦ inr (e, le)
          ]
      | inl late ↦
          let at : IsPlace points (top + 1 + 1) r j =
          record { inside = omega (arith, place.inside); until = place.until; next = λ _. omega (arith, late, ap (λ k. (point_at points (k + 1)).last) e) } in
          elim (ready.most r j r_low at i i_n) [
            | inl le ↦ inl le
            | inr (f, _) ↦ absurd (omega (arith, e, f))
          ]
    ]
  ];
}

-- the same where the last point has a number more than 0
pub ready_less_one : (xs : List Pair) (n : ℕ) (points : List Point) (top : ℕ) → 0 < top → AllPairs IsBelow xs → IsHull xs n points → n < length xs
    → value (point_at points top).last (pair_at xs (point_at points top).at) <ℤ value (point_at points top).last (pair_at xs n)
    → IsReady xs n points top → IsReady xs n points (top - 1)
ready_less_one xs n points top some rise hull n_in less ready =
    let e : top ≡ top - 1 + 1 = omega (arith, some) in
    ready_less xs n points (top - 1) (subst (λ k. IsReady xs n points k) e ready)
    (subst (λ k. IsBelow (pair_at xs (point_at points k).at) (pair_at xs n)) e (point_below xs n points top rise hull n_in ready.inside))
    (subst (λ k. value (point_at points k).last (pair_at xs (point_at points k).at) <ℤ value (point_at points k).last (pair_at xs n)) e less)

-- the pair goes on
module _ (xs : List Pair) (n : ℕ) (points : List Point) (top last : ℕ) (hull : IsHull xs n points) (ready : IsReady xs n points top)
    (n_in : n < length xs) (over : IsLast (pair_at xs (point_at points top).at) (pair_at xs n) last) (low : last ≤ (point_at points top).last) (new : List Point) (len : length new ≡ top + 2)
    (same : (j : ℕ) → j ≤ top → point_at new j ≡ point_at points j) (newest : point_at new (top + 1) ≡ record { at = n; last = last }) where
  at_same : (j : ℕ) → j ≤ top → (point_at new j).at ≡ (point_at points j).at
  at_same j j_top = ap (λ (p : Point). p.at) (same j j_top)

  last_same : (j : ℕ) → j ≤ top → (point_at new j).last ≡ (point_at points j).last
  last_same j j_top = ap (λ (p : Point). p.last) (same j j_top)

  last_at : (j : ℕ) → j ≡ top + 1 → (point_at new j).at ≡ n
  last_at j e = ap (λ k. (point_at new k).at) e ∙ ap (λ (p : Point). p.at) newest

  last_last : (j : ℕ) → j ≡ top + 1 → (point_at new j).last ≡ last
  last_last j e = ap (λ k. (point_at new k).last) e ∙ ap (λ (p : Point). p.last) newest

  falls : (i j : ℕ) → i ≤ j → j < length new → (point_at new j).last ≤ (point_at new i).last
  falls i j i_j j_n = elim (cases_lt top j) [
    | inl after ↦
        let j_is : j ≡ top + 1 = omega (arith, after, j_n, len) in
        elim (cases_lt top i) [
          | inl i_after ↦
              let e : j ≡ i = omega (arith, i_after, j_is, i_j) in
              omega (arith, ap (λ k. (point_at new k).last) e)
          | inr i_top ↦ omega (arith, last_last j j_is, last_same i i_top, low, hull.falling i top i_top ready.inside)
        ]
    | inr j_top ↦
        omega (arith, last_same j j_top, last_same i (omega (arith, i_j, j_top)), hull.falling i j i_j (omega (arith, j_top, ready.inside)))
  ]

  -- above a resistance up to its last one the new pair is worth the most
  most_last : (r : ℕ) → r ≤ 10 ^ 9 → r ≤ last → (i : ℕ) → i < n + 1 → value r (pair_at xs i) ≤ℤ value r (pair_at xs n)
  most_last r r_low early i i_n = elim (cases_eq i n) [
    | inl e ↦ omega (arith, ints, ap (λ k. value r (pair_at xs k)) e)
    | inr ne ↦
        let at : IsPlace points (top + 1) r top =
        record { inside = omega arith; until = omega (arith, early, low); next = λ more. absurd (omega (arith, more)) } in
        elim (ready.most r top r_low at i (omega (arith, i_n, ne))) [
          | inl le ↦ omega (arith, ints, le, over.until r early)
          | inr (_, le) ↦ le
        ]
  ]

  -- above a greater one the point at its place stays so
  most_stays : (r j : ℕ) → r ≤ 10 ^ 9 → last < r → j ≤ top → r ≤ (point_at points j).last
      → (j + 1 < top + 1 → (point_at points (j + 1)).last < r) → (i : ℕ) → i < n + 1
      → value r (pair_at xs i) ≤ℤ value r (pair_at xs (point_at points j).at)
  most_stays r j r_low late j_top until next i i_n =
      let at : IsPlace points (top + 1) r j = record { inside = omega (arith, j_top); until = until; next = next } in
      let beaten : value r (pair_at xs n) ≤ℤ value r (pair_at xs (point_at points top).at) = over.after r r_low late in
      let top_low : value r (pair_at xs (point_at points top).at) ≤ℤ value r (pair_at xs (point_at points j).at) =
      elim (cases_eq j top) [
        | inl e ↦ omega (arith, ints, ap (λ k. value r (pair_at xs (point_at points k).at)) e)
        | inr ne ↦ elim (ready.most r j r_low at (point_at points top).at (hull.named top ready.inside)) [
          | inl le ↦ le
          | inr (e, _) ↦ absurd (omega (arith, e, ne))
        ]
      ] in
      elim (cases_eq i n) [
        | inl e ↦ omega (arith, ints, ap (λ k. value r (pair_at xs k)) e, beaten, top_low)
        | inr ne ↦ elim (ready.most r j r_low at i (omega (arith, i_n, ne))) [
          | inl le ↦ le
          | inr (_, le) ↦ omega (arith, ints, le, beaten, top_low)
        ]
      ]

  pub goes_on : IsHull xs (n + 1) new
  goes_on = record {
    inside = omega (arith, n_in);
    some = λ _. omega (arith, len);
    named = λ j j_n. elim (cases_lt top j) [
      | inl after ↦ omega (arith, last_at j (omega (arith, after, j_n, len)))
      | inr j_top ↦ omega (arith, at_same j j_top, hull.named j (omega (arith, j_top, ready.inside)))
    ];
    first = λ _. last_same 0 (omega arith) ∙ hull.first (omega (arith, ready.inside));
    falling = falls;
    most = λ r j r_low place i i_n. elim (cases_lt top j) [
      | inl after ↦
          let j_is : j ≡ top + 1 = omega (arith, after, place.inside, len) in
          omega (arith, ints, most_last r r_low (omega (arith, place.until, last_last j j_is)) i i_n, ap (λ k. value r (pair_at xs k)) (last_at j j_is))
      | inr j_top ↦
          let next : (point_at new (j + 1)).last < r = place.next (omega (arith, j_top, len)) in
          let late : last < r = omega (arith, next, falls (j + 1) (top + 1) (omega (arith, j_top)) (omega (arith, len)), last_last (top + 1) refl) in
          let le = most_stays r j r_low late j_top (omega (arith, place.until, last_same j j_top))
          (λ more. omega (arith, next, last_same (j + 1) (omega (arith, more)))) i i_n in
          omega (arith, ints, le, ap (λ k. value r (pair_at xs k)) (at_same j j_top))
    ];
  }

-- THE FIRST PAIR
pub hull_begins : (xs : List Pair) → IsHull xs 0 []
hull_begins xs = record {
  inside = omega arith;
  some = λ some. absurd (omega (arith, some));
  named = λ j j_n. absurd (omega (arith, j_n));
  first = λ some. absurd (omega (arith, some));
  falling = λ i j i_j j_n. absurd (omega (arith, j_n));
  most = λ r j r_low place i i_n. absurd (omega (arith, i_n));
}

one_goes_on : (xs : List Pair) (n : ℕ) (points : List Point) → IsHull xs n points → length points ≡ 0 → n < length xs
    → IsHull xs (n + 1) (record { at = n; last = 10 ^ 9 } ∷ [])
one_goes_on xs n points hull empty n_in =
    let none : n ≡ 0 = elim (cases_lt 0 n) [
      | inl some ↦ absurd (omega (arith, hull.some some, empty))
      | inr off ↦ omega (arith, off)
    ] in
    let one : (j : ℕ) → j < 1 → point_at (record { at = n; last = 10 ^ 9 } ∷ []) j ≡ record { at = n; last = 10 ^ 9 }
    = λ j j_n.
    let e : j ≡ 0 = omega (arith, j_n) in
    ap (point_at (record { at = n; last = 10 ^ 9 } ∷ [])) e in
    record {
      inside = omega (arith, n_in);
      some = λ _. omega arith;
      named = λ j j_n. omega (arith, ap (λ (p : Point). p.at) (one j j_n));
      first = λ _. refl;
      falling = λ i j i_j j_n. omega (arith, ap (λ (p : Point). p.last) (one j j_n), ap (λ (p : Point). p.last) (one i (omega (arith, i_j, j_n))));
      most = λ r j r_low place i i_n.
          let i_is : i ≡ n = omega (arith, i_n, none) in
          omega (arith, ints, ap (λ k. value r (pair_at xs k)) i_is, ap (λ k. value r (pair_at xs k)) (ap (λ (p : Point). p.at) (one j place.inside)));
    }

pub first_goes_on : (xs : List Pair) (n : ℕ) (points : List Point) → IsHull xs n points → length points ≡ 0 → n < length xs
    → IsHull xs (n + 1) (points ++ record { at = n; last = 10 ^ 9 } ∷ [])
first_goes_on xs n [] hull empty n_in = one_goes_on xs n [] hull empty n_in
first_goes_on xs n (point ∷ points) hull empty n_in = absurd (omega (arith, empty))

-- A FURTHER PAIR goes on the points that stay
last_low : (xs : List Pair) (n : ℕ) (points : List Point) (top last : ℕ) → IsHull xs n points → IsReady xs n points top
    → IsLast (pair_at xs (point_at points top).at) (pair_at xs n) last
    → (0 < top → value (point_at points top).last (pair_at xs n) ≤ℤ value (point_at points top).last (pair_at xs (point_at points top).at))
    → last ≤ (point_at points top).last
last_low xs n points top last hull ready over stays = elim (cases_lt (point_at points top).last last) [
  | inr low ↦ low
  | inl less ↦ elim (cases_eq top 0) [
    | inl e ↦ absurd (omega (arith, less, over.most, hull.first (omega (arith, ready.inside)), ap (λ k. (point_at points k).last) e))
    | inr some ↦ absurd (omega (arith, ints, over.until (point_at points top).last (omega (arith, less)), stays (omega (arith, some))))
  ]
]

pub further_goes_on : (xs : List Pair) (n : ℕ) (points kept : List Point) (top last : ℕ) → IsHull xs n points → IsReady xs n points top
    → n < length xs → IsLast (pair_at xs (point_at points top).at) (pair_at xs n) last
    → (0 < top → value (point_at points top).last (pair_at xs n) ≤ℤ value (point_at points top).last (pair_at xs (point_at points top).at)) → kept ≡ take (top + 1) points
    → IsHull xs (n + 1) (kept ++ record { at = n; last = last } ∷ [])
further_goes_on xs n points kept top last hull ready n_in over stays kept_are =
    let len : length kept ≡ top + 1 = ap (λ (l : List Point). length l) kept_are ∙ length-take-le (top + 1) points (omega (arith, ready.inside)) in
    goes_on xs n points top last hull ready n_in over (last_low xs n points top last hull ready over stays) (kept ++ record { at = n; last = last } ∷ [])
    (omega (arith, length-append kept (record { at = n; last = last } ∷ []), len))
    (λ j j_top.
    get_or_append_left kept (record { at = n; last = last } ∷ []) (record { at = 0; last = 0 }) j (omega (arith, len, j_top))
    ∙ ap (λ (l : List Point). point_at l j) kept_are ∙ get_or-take (top + 1) points j (record { at = 0; last = 0 }) (omega (arith, j_top)))
    (get_or_push kept (record { at = n; last = last }) (record { at = 0; last = 0 }) (top + 1) len)
