use Rattle.std.proofs.Common.{ℕ, ◌+◌, ◌-◌, ◌<◌, List, arith, inl, inr, length, slice_index_or}
use Rattle.std.proofs.lemmas.Bool.{cases_eq}
use Rattle.std.proofs.lemmas.List.{get_or_default}
use Rattle.tests_search.proofs.problems.do_rise.Goals as goal

rising_more : (xs : List ℕ) (i e : ℕ) → 0 < i → i < length xs → slice_index_or xs (i - 1) e < slice_index_or xs i e
    → ((k j d : ℕ) → k < j → j < i → slice_index_or xs k d < slice_index_or xs j d)
    → (k j d : ℕ) → k < j → j < i + 1 → slice_index_or xs k d < slice_index_or xs j d
rising_more xs i e i_0 i_n next before k j d k_j j_i =
    elim (cases_eq j i) [
      | inr j_low ↦ before k j d k_j (omega arith)
      | inl e_j ↦
          let last : slice_index_or xs (i - 1) d < slice_index_or xs i d =
          omega (arith, next, get_or_default xs (i - 1) d e (omega arith), get_or_default xs i d e i_n) in
          rw e_j
          (elim (cases_eq k (i - 1)) [
            | inl e_k ↦ rw e_k last
            | inr k_low ↦ omega (arith, last, before k (i - 1) d (omega arith) (omega arith))
          ])
    ]

pub numbers-preserved : goal.numbers-preserved
numbers-preserved c =
    rising_more c.args.numbers.now c.numbers.i 0 (omega arith) (omega arith) c.if-numbers-i.false c.numbers.invariant
