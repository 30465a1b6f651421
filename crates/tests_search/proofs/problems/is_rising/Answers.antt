use Rattle.std.proofs.Common.{None, ℕ, ◌+◌, ◌-◌, ◌<◌, ◌≤◌, List, false, arith, ap, inl, inr, ◌≡◌, length, slice_index_or}
use Rattle.std.proofs.lemmas.Bool.{cases_eq}
use Rattle.std.proofs.lemmas.List.{get_or_default}
use Rattle.elmore.specs.declared.rep.Rep.{Rep}
use Rattle.tests_search.proofs.problems.is_rising.Goals as goal

resistance_read : (reps : List Rep) (i : ℕ) (d e : Rep) → i < length reps → (slice_index_or reps i d).r ≡ (slice_index_or reps i e).r
resistance_read reps i d e h = ap (λ (rep : Rep). rep.r) (get_or_default reps i d e h)

rising_more : (reps : List Rep) (i : ℕ) (e : Rep) → 0 < i → i < length reps → (slice_index_or reps (i - 1) e).r ≤ (slice_index_or reps i e).r
    → ((k j : ℕ) (d : Rep) → k < j → j < i → (slice_index_or reps k d).r ≤ (slice_index_or reps j d).r)
    → (k j : ℕ) (d : Rep) → k < j → j < i + 1 → (slice_index_or reps k d).r ≤ (slice_index_or reps j d).r
rising_more reps i e i_0 i_n next before k j d k_j j_i =
    elim (cases_eq j i) [
      | inr j_low ↦ before k j d k_j (omega arith)
      | inl e_j ↦
          let last : (slice_index_or reps (i - 1) d).r ≤ (slice_index_or reps i d).r =
          omega (arith, resistance_read reps (i - 1) d e (omega arith), resistance_read reps i d e i_n) in
          rw e_j
          (elim (cases_eq k (i - 1)) [
            | inl e_k ↦ rw e_k last
            | inr k_low ↦ omega (arith, before k (i - 1) d (omega arith) (omega arith))
          ])
    ]

pub reps-preserved : goal.reps-preserved
reps-preserved c =
    let nothing : Rep = record { inverts = false; cin = 0; k = 0; r = 0; cost = 0; limit = None } in
    rising_more c.args.reps.now c.reps.i nothing (omega arith) (omega arith) c.if-reps-i.false c.reps.invariant
