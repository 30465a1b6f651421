-- Runs of two branches that meet.
use Rattle.std.proofs.Common.{◌≡◌, ◌⊎◌, ℕ, ◌+◌, ◌-◌, ◌<◌, ◌≤◌, List, length, get_or, slice_index_or, refl, sym, ap, ◌∙◌, subst, arith, inl, inr, ◌≤ℤ◌}
use Rattle.std.proofs.lemmas.Bool.{cases_lt, cases_eq}
use Rattle.std.proofs.lemmas.Int.{ints, clamps}
use Rattle.std.specs.List.{Contains}
use Rattle.cand_pairs.specs.Priced.{Priced}
use Rattle.vg_front.specs.declared.offer.Candidate.{Candidate}
use Rattle.vg_front.specs.declared.offer.Proposal.{Proposal}
use Rattle.vg_front.specs.Offers.{priced, proposed_by, IsBeaten, IsPartOf, With, Adds}
use Rattle.vg_front.specs.Meeting.{met_of, IsMetOf, IsRun, IsAdvance, IsRunAt, GoesOn}
use Rattle.vg_front.proofs.OfferLemmas.{beaten_parts, beaten_itself}
use Rattle.vg_front.proofs.ListLemmas.{any_default}
use Rattle.vg_front.proofs.SeenLemmas.{beaten_over}

-- how far two runs have met: each pair of which one was passed is beaten
pub record AreMeeting (xs ys : List Candidate) (i j : ℕ) (before fresh : List Proposal) : Type 0 where
  pub i_in : i ≤ length xs
  pub j_in : j ≤ length ys
  pub part : (q : Proposal) → Contains fresh q → Contains before q ⊎ IsMetOf xs ys q
  pub old : (q : Proposal) → Contains before q → IsBeaten (proposed_by fresh) (priced q.offer)
  pub seen : (a b : ℕ) (d e : Candidate) → a < length xs → b < length ys → (a < i) ⊎ (b < j)
      → IsBeaten (proposed_by fresh) (priced (met_of (slice_index_or xs a d) (slice_index_or ys b e)).offer)

pub meeting_begins : (xs ys : List Candidate) (before : List Proposal) → AreMeeting xs ys 0 0 before before
meeting_begins xs ys before = record {
  i_in = omega arith;
  j_in = omega arith;
  part = λ q found. inl found;
  old = λ q found. beaten_itself before q found;
  seen = λ a b d e a_n b_n passed. elim passed [
    | inl low ↦ absurd (omega (arith, low))
    | inr low ↦ absurd (omega (arith, low))
  ];
}

module _ (xs ys : List Candidate) (i j : ℕ) (before fresh after : List Proposal) (x y : Candidate) (xs_run : IsRun xs) (ys_run : IsRun ys)
    (at : AreMeeting xs ys i j before fresh) (i_n : i < length xs) (j_n : j < length ys) (x_is : get_or xs i x ≡ x) (y_is : get_or ys j y ≡ y)
    (put : IsPartOf (With fresh (met_of x y)) after) where
  still : (z : Priced) → IsBeaten (proposed_by fresh) z → IsBeaten (proposed_by after) z
  still z beaten =
      let (q, q_in, q_z) = beaten_parts fresh z beaten in
      beaten_over (proposed_by after) (priced q.offer) z (put.covers q (inl q_in)) q_z

  here : IsBeaten (proposed_by after) (priced (met_of x y).offer)
  here = put.covers (met_of x y) (inr refl)

  -- x with a later one of the other run, where x has no more time than y
  x_passed : (b : ℕ) (e : Candidate) → x.offer.q ≤ℤ y.offer.q → j ≤ b → b < length ys
      → IsBeaten (proposed_by after) (priced (met_of x (slice_index_or ys b e)).offer)
  x_passed b e less later b_n =
      let run = ys_run j b e later b_n in
      let y_at : slice_index_or ys j e ≡ y = any_default ys j e y j_n ∙ y_is in
      beaten_over (proposed_by after) (priced (met_of x y).offer) (priced (met_of x (slice_index_or ys b e)).offer) here (record {
        cost = omega (arith, run.0, ap (λ (t : Candidate). t.offer.cost) y_at);
        pair = record {
          time = omega (arith, ints, clamps, less);
          room = omega (arith, run.1, ap (λ (t : Candidate). t.offer.c) y_at);
        };
      })

  y_passed : (a : ℕ) (d : Candidate) → y.offer.q ≤ℤ x.offer.q → i ≤ a → a < length xs
      → IsBeaten (proposed_by after) (priced (met_of (slice_index_or xs a d) y).offer)
  y_passed a d less later a_n =
      let run = xs_run i a d later a_n in
      let x_at : slice_index_or xs i d ≡ x = any_default xs i d x i_n ∙ x_is in
      beaten_over (proposed_by after) (priced (met_of x y).offer) (priced (met_of (slice_index_or xs a d) y).offer) here (record {
        cost = omega (arith, run.0, ap (λ (t : Candidate). t.offer.cost) x_at);
        pair = record {
          time = omega (arith, ints, clamps, less);
          room = omega (arith, run.1, ap (λ (t : Candidate). t.offer.c) x_at);
        };
      })

  -- a pair of which one was passed before stays beaten
  old_pair : (a b : ℕ) (d e : Candidate) → a < length xs → b < length ys → (a < i) ⊎ (b < j)
      → IsBeaten (proposed_by after) (priced (met_of (slice_index_or xs a d) (slice_index_or ys b e)).offer)
  old_pair a b d e a_n b_n passed = still (priced (met_of (slice_index_or xs a d) (slice_index_or ys b e)).offer) (at.seen a b d e a_n b_n passed)

  first_pair : (a b : ℕ) (d e : Candidate) → a < length xs → b < length ys → a ≡ i → x.offer.q ≤ℤ y.offer.q
      → IsBeaten (proposed_by after) (priced (met_of (slice_index_or xs a d) (slice_index_or ys b e)).offer)
  first_pair a b d e a_n b_n is less =
      elim (cases_lt b j) [
        | inl low ↦ old_pair a b d e a_n b_n (inr low)
        | inr later ↦
            let x_at : slice_index_or xs a d ≡ x = ap (λ (n : ℕ). slice_index_or xs n d) is ∙ any_default xs i d x i_n ∙ x_is in
            subst (λ (t : Candidate). IsBeaten (proposed_by after) (priced (met_of t (slice_index_or ys b e)).offer)) (sym x_at)
            (x_passed b e less later b_n)
      ]

  second_pair : (a b : ℕ) (d e : Candidate) → a < length xs → b < length ys → b ≡ j → y.offer.q ≤ℤ x.offer.q
      → IsBeaten (proposed_by after) (priced (met_of (slice_index_or xs a d) (slice_index_or ys b e)).offer)
  second_pair a b d e a_n b_n is less =
      elim (cases_lt a i) [
        | inl low ↦ old_pair a b d e a_n b_n (inl low)
        | inr later ↦
            let y_at : slice_index_or ys b e ≡ y = ap (λ (n : ℕ). slice_index_or ys n e) is ∙ any_default ys j e y j_n ∙ y_is in
            subst (λ (t : Candidate). IsBeaten (proposed_by after) (priced (met_of (slice_index_or xs a d) t).offer)) (sym y_at)
            (y_passed a d less later a_n)
      ]

  pub meeting_on : (i' j' : ℕ) → IsAdvance x.offer.q y.offer.q i j i' j' → AreMeeting xs ys i' j' before after
  meeting_on i' j' go = record {
    i_in = elim go.first [
      | inl (e, less) ↦ omega (arith, e, i_n)
      | inr e ↦ omega (arith, e, at.i_in)
    ];
    j_in = elim go.second [
      | inl (e, less) ↦ omega (arith, e, j_n)
      | inr e ↦ omega (arith, e, at.j_in)
    ];
    part = λ q found. elim (put.part q found) [
      | inl in_fresh ↦ at.part q in_fresh
      | inr e ↦ inr (x, y, (i, i_n, x_is), (j, j_n, y_is), e)
    ];
    old = λ q found. still (priced q.offer) (at.old q found);
    seen = λ a b d e a_n b_n passed. elim passed [
      | inl low ↦ elim go.first [
        | inr same ↦ old_pair a b d e a_n b_n (inl (omega (arith, low, same)))
        | inl (one, less) ↦ elim (cases_lt a i) [
          | inl before_i ↦ old_pair a b d e a_n b_n (inl before_i)
          | inr high ↦ first_pair a b d e a_n b_n (omega (arith, low, one, high)) less
        ]
      ]
      | inr low ↦ elim go.second [
        | inr same ↦ old_pair a b d e a_n b_n (inr (omega (arith, low, same)))
        | inl (one, less) ↦ elim (cases_lt b j) [
          | inl before_j ↦ old_pair a b d e a_n b_n (inr before_j)
          | inr high ↦ second_pair a b d e a_n b_n (omega (arith, low, one, high)) less
        ]
      ]
    ];
  }

pub meeting_ends : (xs ys : List Candidate) (i j : ℕ) (before fresh : List Proposal) → AreMeeting xs ys i j before fresh → (length xs ≤ i) ⊎ (length ys ≤ j)
    → Adds (IsMetOf xs ys) before fresh
meeting_ends xs ys i j before fresh at all = record {
  part = at.part;
  covers = λ q among. elim among [
    | inl found ↦ at.old q found
    | inr (x, y, (a, a_n, x_is), (b, b_n, y_is), is) ↦
        let passed : (a < i) ⊎ (b < j) = elim all [
          | inl xs_all ↦ inl (omega (arith, xs_all, a_n))
          | inr ys_all ↦ inr (omega (arith, ys_all, b_n))
        ] in
        subst (λ (t : Proposal). IsBeaten (proposed_by fresh) (priced t.offer)) (sym is)
        (subst (λ (t : Candidate). IsBeaten (proposed_by fresh) (priced (met_of t y).offer)) x_is
        (subst (λ (t : Candidate). IsBeaten (proposed_by fresh) (priced (met_of (slice_index_or xs a x) t).offer)) y_is (at.seen a b x y a_n b_n passed)))
  ];
}

-- RUNS
pub run_begins : (xs : List Candidate) (from : ℕ) → from < length xs → IsRunAt xs from (from + 1)
run_begins xs from inside = record {
  some = omega arith;
  within = omega (arith, inside);
  costs = λ k d low high. let e : k ≡ from = omega (arith, low, high) in ap (λ (n : ℕ). (slice_index_or xs n d).offer.cost) e;
  rises = λ k m d low order high. let e : k ≡ m = omega (arith, low, order, high) in omega (arith, ap (λ (n : ℕ). (slice_index_or xs n d).offer.c) e);
}

pub run_more : (xs : List Candidate) (from end : ℕ) → IsRunAt xs from end → GoesOn xs from end → IsRunAt xs from (end + 1)
run_more xs from end run on = record {
  some = omega (arith, run.some);
  within = omega (arith, on.inside);
  costs = λ k d low high. elim (cases_lt k end) [
    | inl before ↦ run.costs k d low before
    | inr late ↦ let e : k ≡ end = omega (arith, late, high) in ap (λ (n : ℕ). (slice_index_or xs n d).offer.cost) e ∙ on.cost d
  ];
  rises = λ k m d low order high. elim (cases_lt m end) [
    | inl before ↦ run.rises k m d low order before
    | inr late ↦
        let e : m ≡ end = omega (arith, late, high) in
        elim (cases_eq k m) [
          | inl same ↦ omega (arith, ap (λ (n : ℕ). (slice_index_or xs n d).offer.c) same)
          | inr other ↦
              let step = run.rises k (end - 1) d low (omega (arith, order, other, e)) (omega (arith, run.some)) in
              omega (arith, step, on.load d, ap (λ (n : ℕ). (slice_index_or xs n d).offer.c) e)
        ]
  ];
}
