-- Turns in which the runs of two lists meet.
use Rattle.std.proofs.Common.{◌≡◌, ◌⊎◌, ℕ, zero, suc, ◌+◌, ◌^◌, ◌<◌, ◌≤◌, List, [], ◌∷◌, length, take, get_or, refl, sym, ap, ◌∙◌, subst, arith, inl, inr, Option}
use Rattle.std.proofs.lemmas.Bool.{cases_lt, cases_eq}
use Rattle.std.proofs.lemmas.List.Elements.{Contains-get_or}
use Rattle.std.proofs.lemmas.List.Sorted.{Contains-permutation, IsPermutation-sym, sum_by_pushed, sum_by_popped}
use Rattle.std.specs.List.{Contains, sum_by}
use Rattle.std.specs.List.Sorted.{IsPermutation}
use Rattle.std.specs.declared.cmp.Reverse.{Reverse}
use Rattle.elmore.specs.Legal.{IsWithin}
use Rattle.cand_pairs.proofs.ChildLemmas.{in_cons}
use Rattle.vg_front.specs.declared.offer.Candidate.{Candidate}
use Rattle.vg_front.specs.declared.offer.Proposal.{Proposal}
use Rattle.vg_front.specs.declared.runs.Run.{Run}
use Rattle.vg_front.specs.declared.turns.Turn.{Turn}
use Rattle.vg_front.specs.Meeting.{IsMetOf, IsMet}
use Rattle.vg_front.specs.Offers.{priced, proposed_by, IsBeaten, IsPartOf, Adds}
use Rattle.vg_front.specs.Runs.{run_in, IsRunOf, AreRunsOf}
use Rattle.vg_front.specs.Turns.{MayMeet, Waits, left_in, IsPut, AreTurns}
use Rattle.vg_front.proofs.ListLemmas.{any_default}
use Rattle.vg_front.proofs.OfferLemmas.{beaten_parts}
use Rattle.vg_front.proofs.SeenLemmas.{beaten_over}
use Rattle.vg_front.proofs.TakenLemmas.{between_in, still_taken, now_taken, taken_one}

cons_cases : {X : Type 0} (y : X) (xs : List X) (x : X) → Contains (y ∷ xs) x → (y ≡ x) ⊎ Contains xs x
cons_cases {X} y xs x (zero, k_n, e) = inl e
cons_cases {X} y xs x (suc k, k_n, e) = inr (k, omega (arith, k_n), e)

first_in : {X : Type 0} (y : X) (xs : List X) → Contains (y ∷ xs) y
first_in {X} y xs = (0, omega arith, refl)

-- past the end of a list
abbrev pub no_run : Run
no_run = record { cost = 0; from = 0; end = 0 }

-- PUTTING TURNS
module _ (cap : Option ℕ) (first : Run) (seconds : List Run) (from : ℕ) where
  -- where it meets none, nothing is put
  pub put_none : (old new : List (Reverse Turn)) → new ≡ old → ((k : ℕ) → from ≤ k → MayMeet cap first seconds k → ⊥)
      → IsPut cap first seconds from old new
  put_none old new same never = subst (IsPut cap first seconds from old) (sym same) (record {
    each = λ t found. inl found;
    kept = λ t found. found;
    whole = λ k low may. absurd (never k low may);
    left = omega arith;
  })

  pub put_one : (old new : List (Reverse Turn)) (t : Reverse Turn) → t.0.first ≡ first → from ≤ t.0.second → MayMeet cap first seconds t.0.second
      → ((k : ℕ) → from ≤ k → k < t.0.second → MayMeet cap first seconds k → ⊥) → IsPermutation (t ∷ old) new → IsPut cap first seconds from old new
  put_one old new t first_is low may never order = record {
    each = λ x found. elim (cons_cases t old x (Contains-permutation new (t ∷ old) x (IsPermutation-sym (t ∷ old) new order) found)) [
      | inl e ↦ inr (
        ap (λ (r : Reverse Turn). r.0.first) (sym e) ∙ first_is,
        subst (λ (r : Reverse Turn). MayMeet cap first seconds r.0.second) e may,
      )
      | inr there ↦ inl there
    ];
    kept = λ x found. Contains-permutation (t ∷ old) new x order (in_cons t old x found);
    whole = λ k high may_k. elim (cases_lt k t.0.second) [
      | inl less ↦ absurd (never k high less may_k)
      | inr late ↦ (t, Contains-permutation (t ∷ old) new t order (first_in t old), first_is, late)
    ];
    left = let e = sum_by_pushed (left_in seconds) t old new order in omega (arith, e, low);
  }

pub turns_begin : (cap : Option ℕ) (seconds : List Run) (turns : List (Reverse Turn)) → turns ≡ [] → AreTurns cap [] seconds turns
turns_begin cap seconds turns none = subst (AreTurns cap [] seconds) (sym none) (record {
  each = λ t (k, k_n, e). absurd (omega arith);
  whole = λ a k (m, m_n, e) may. absurd (omega arith);
})

pub turns_more : (cap : Option ℕ) (firsts seconds : List Run) (n : ℕ) (d : Run) (old new : List (Reverse Turn)) → n < length firsts
    → AreTurns cap (take n firsts) seconds old → IsPut cap (get_or firsts n d) seconds 0 old new → AreTurns cap (take (n + 1) firsts) seconds new
turns_more cap firsts seconds n d old new inside so_far put = record {
  each = λ t found. elim (put.each t found) [
    | inl early ↦ let (first, may) = so_far.each t early in (still_taken firsts n d inside t.0.first first, may)
    | inr (e, may) ↦ (
      subst (Contains (take (n + 1) firsts)) (sym e) (now_taken firsts n d inside),
      subst (λ (a : Run). MayMeet cap a seconds t.0.second) (sym e) may,
    )
  ];
  whole = λ a k a_in may. elim (taken_one firsts n d inside a a_in) [
    | inl early ↦ let (t, t_in, is, low) = so_far.whole a k early may in (t, put.kept t t_in, is, low)
    | inr e ↦ subst (λ (b : Run). Waits new b k) e (put.whole k (omega arith) (subst (λ (b : Run). MayMeet cap b seconds k) (sym e) may))
  ];
}

-- TURN BY TURN
pub popped_in : (turns rest : List (Reverse Turn)) (t : Reverse Turn) → IsPermutation turns (t ∷ rest) → Contains turns t
popped_in turns rest t order = Contains-permutation (t ∷ rest) turns t (IsPermutation-sym turns (t ∷ rest) order) (first_in t rest)

-- what is left of the turns is less when one is taken and the next is put
pub left_less : (cap : Option ℕ) (seconds : List Run) (turns rest new : List (Reverse Turn)) (t : Reverse Turn) → IsPermutation turns (t ∷ rest)
    → t.0.second < length seconds → IsPut cap t.0.first seconds (t.0.second + 1) rest new → sum_by (left_in seconds) new < sum_by (left_in seconds) turns
left_less cap seconds turns rest new t order inside put = let e = sum_by_popped (left_in seconds) t turns rest order in omega (arith, e, put.left, inside)

-- what all runs make together is beaten, but of those that are still to meet
pub record AreMetBut (cap : Option ℕ) (xs ys : List Candidate) (firsts seconds : List Run) (turns : List (Reverse Turn)) (all : List Proposal) : Type 0 where
  pub each : (t : Reverse Turn) → Contains turns t → Contains firsts t.0.first × MayMeet cap t.0.first seconds t.0.second
  pub part : (q : Proposal) → Contains all q → IsMet cap xs ys q
  pub covers : (a : Run) (k : ℕ) (d : Run) → Contains firsts a → MayMeet cap a seconds k
      → Waits turns a k ⊎ ((q : Proposal) → IsMetOf (run_in xs a) (run_in ys (get_or seconds k d)) q → IsBeaten (proposed_by all) (priced q.offer))

module _ (cap : Option ℕ) (xs ys : List Candidate) (firsts seconds : List Run) (turns rest : List (Reverse Turn)) (all : List Proposal)
    (met : AreMetBut cap xs ys firsts seconds turns all) (t : Reverse Turn) (order : IsPermutation turns (t ∷ rest)) where
  pub turn_inside : t.0.second < length seconds
  turn_inside = (met.each t (popped_in turns rest t order)).1.0

  pub turn_first : AreRunsOf xs xs firsts → IsRunOf xs t.0.first
  turn_first of_xs = of_xs.each t.0.first (met.each t (popped_in turns rest t order)).0

  pub turn_small : AreRunsOf xs xs firsts → t.0.first.cost ≤ 10 ^ 17
  turn_small of_xs = of_xs.small t.0.first (met.each t (popped_in turns rest t order)).0

  pub turn_second : AreRunsOf ys ys seconds → (d : Run) → IsRunOf ys (get_or seconds t.0.second d)
  turn_second of_ys d = of_ys.each (get_or seconds t.0.second d) (Contains-get_or seconds t.0.second d turn_inside)

module _ (cap : Option ℕ) (xs ys : List Candidate) (firsts seconds : List Run) where
  pub met_begins : (turns : List (Reverse Turn)) (all : List Proposal) → AreTurns cap firsts seconds turns → all ≡ []
      → AreMetBut cap xs ys firsts seconds turns all
  met_begins turns all are none = record {
    each = are.each;
    part = λ q found. let (k, k_n, e) = subst (λ (l : List Proposal). Contains l q) none found in absurd (omega arith);
    covers = λ a k d a_in may. inl (are.whole a k a_in may);
  }

  -- a part of the proposals that beats them all
  pub met_kept : (turns : List (Reverse Turn)) (all kept : List Proposal) → AreMetBut cap xs ys firsts seconds turns all
      → IsPartOf (Contains all) kept → AreMetBut cap xs ys firsts seconds turns kept
  met_kept turns all kept met is = record {
    each = met.each;
    part = λ q found. met.part q (is.part q found);
    covers = λ a k d a_in may. elim (met.covers a k d a_in may) [
      | inl waits ↦ inl waits
      | inr beaten ↦ inr (λ q q_is.
          let (x, x_in, x_q) = beaten_parts all (priced q.offer) (beaten q q_is) in
          beaten_over (proposed_by kept) (priced x.offer) (priced q.offer) (is.covers x x_in) x_q)
    ];
  }

  -- two runs meet, and the next turn of the first one is put
  pub met_more : (turns rest new : List (Reverse Turn)) (t : Reverse Turn) (d : Run) (all more : List Proposal) → AreRunsOf xs xs firsts
      → AreRunsOf ys ys seconds → AreMetBut cap xs ys firsts seconds turns all → IsPermutation turns (t ∷ rest)
      → Adds (IsMetOf (run_in xs t.0.first) (run_in ys (get_or seconds t.0.second d))) all more
      → IsPut cap t.0.first seconds (t.0.second + 1) rest new → AreMetBut cap xs ys firsts seconds new more
  met_more turns rest new t d all more of_xs of_ys met order adds put = record {
    each = λ x found. elim (put.each x found) [
      | inl early ↦ met.each x (before x early)
      | inr (e, may) ↦ (
        subst (Contains firsts) (sym e) (met.each t here).0,
        subst (λ (a : Run). MayMeet cap a seconds x.0.second) (sym e) may,
      )
    ];
    part = λ q found. elim (adds.part q found) [
      | inl early ↦ met.part q early
      | inr is ↦ met_of q is
    ];
    covers = λ a k e a_in may. elim (met.covers a k e a_in may) [
      | inr beaten ↦ inr (λ q q_is. still q (beaten q q_is))
      | inl (x, x_in, x_is, low) ↦ elim (cons_cases t rest x (Contains-permutation turns (t ∷ rest) x order x_in)) [
        | inr there ↦ inl (x, put.kept x there, x_is, low)
        | inl same ↦
            let t_is : t.0.first ≡ a = ap (λ (r : Reverse Turn). r.0.first) same ∙ x_is in
            let t_low : t.0.second ≤ k = omega (arith, low, ap (λ (r : Reverse Turn). r.0.second) same) in
            elim (cases_eq t.0.second k) [
              | inl at ↦
                  inr (λ q q_is.
                  adds.covers q (inr (subst (λ (n : ℕ). IsMetOf (run_in xs t.0.first) (run_in ys (get_or seconds n d)) q) (sym at)
                  (subst (λ (b : Run). IsMetOf (run_in xs t.0.first) (run_in ys b) q) (any_default seconds k e d may.0)
                  (subst (λ (b : Run). IsMetOf (run_in xs b) (run_in ys (get_or seconds k e)) q) (sym t_is) q_is)))))
              | inr other ↦
                  inl (subst (λ (b : Run). Waits new b k) t_is
                  (put.whole k (omega (arith, t_low, other)) (subst (λ (b : Run). MayMeet cap b seconds k) (sym t_is) may)))
            ]
      ]
    ];
  }
    where
      here : Contains turns t
      here = Contains-permutation (t ∷ rest) turns t (IsPermutation-sym turns (t ∷ rest) order) (first_in t rest)

      before : (x : Reverse Turn) → Contains rest x → Contains turns x
      before x found = Contains-permutation (t ∷ rest) turns x (IsPermutation-sym turns (t ∷ rest) order) (in_cons t rest x found)

      still : (q : Proposal) → IsBeaten (proposed_by all) (priced q.offer) → IsBeaten (proposed_by more) (priced q.offer)
      still q beaten =
          let (x, x_in, x_q) = beaten_parts all (priced q.offer) beaten in
          beaten_over (proposed_by more) (priced x.offer) (priced q.offer) (adds.covers x (inl x_in)) x_q

      met_of : (q : Proposal) → IsMetOf (run_in xs t.0.first) (run_in ys (get_or seconds t.0.second d)) q → IsMet cap xs ys q
      met_of q (x, y, x_in, y_in, q_is) =
          let (first_in, may) = met.each t here in
          let one = of_xs.each t.0.first first_in in
          let b : Run = get_or seconds t.0.second d in
          let two = of_ys.each b (t.0.second, may.0, any_default seconds t.0.second b d may.0) in
          let same : t.0.first.cost + b.cost ≡ x.offer.cost + y.offer.cost = omega (arith, one.costs x x_in, two.costs y y_in) in (
            x,
            y,
            between_in xs t.0.first.from t.0.first.end x one.within x_in,
            between_in ys b.from b.end y two.within y_in,
            subst (IsWithin cap) same (may.1 d),
            q_is,
          )

  pub met_ends : (turns : List (Reverse Turn)) (all : List Proposal) → AreRunsOf xs xs firsts → AreRunsOf ys ys seconds → turns ≡ []
      → AreMetBut cap xs ys firsts seconds turns all → IsPartOf (IsMet cap xs ys) all
  met_ends turns all of_xs of_ys none met = record {
    part = met.part;
    covers = λ q (x, y, x_in, y_in, within, q_is).
        let (a, a_in, x_a) = of_xs.whole x x_in in
        let (b, b_in, y_b) = of_ys.whole y y_in in
        let (k, k_n, b_is) = b_in in
        let same : x.offer.cost + y.offer.cost ≡ a.cost + b.cost = omega (arith, (of_xs.each a a_in).costs x x_a, (of_ys.each b b_in).costs y y_b) in
        let may : MayMeet cap a seconds k = (
          k_n,
          λ d. subst (λ (r : Run). IsWithin cap (a.cost + r.cost)) (sym b_is ∙ any_default seconds k b d k_n) (subst (IsWithin cap) same within),
        ) in
        elim (met.covers a k b a_in may) [
          | inl (t, t_in, is, low) ↦ let (m, m_n, e) = subst (λ (l : List (Reverse Turn)). Contains l t) none t_in in absurd (omega arith)
          | inr beaten ↦ beaten q (x, y, x_a, subst (λ (r : Run). Contains (run_in ys r) y) (sym b_is) y_b, q_is)
        ];
  }
