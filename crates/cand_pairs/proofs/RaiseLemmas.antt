-- The loads of a rising list, raised from the left, one after another.
use Rattle.std.proofs.Common.{◌≡◌, ℕ, ◌+◌, ◌<◌, ◌≤◌, List, length, get_or, set, refl, sym, ap, ◌∙◌, arith, inl, inr}
use Rattle.std.proofs.lemmas.Bool.{cases_eq}
use Rattle.std.proofs.lemmas.List.{get_or_default, get_or-set_same, get_or-set_other, length-set}
use Rattle.std.proofs.lemmas.List.Elements.{Contains-get_or}
use Rattle.std.specs.List.{AllPairs}
use Rattle.elmore.specs.Pairs.{IsBelow, IsUndominated}
use Rattle.elmore.specs.declared.pair.Pair.{Pair}
use Rattle.cand_pairs.specs.Merging.{raised, Raises}
use Rattle.cand_pairs.proofs.StepLemmas.{over_self}

-- those before i are raised, and the others are as they were
pub record AreRaised (more : ℕ) (before : List Pair) (i : ℕ) (now : List Pair) : Type 0 where
  pub each : length now ≡ length before
  pub done : (k : ℕ) (d : Pair) → k < i → k < length before → get_or now k d ≡ raised more (get_or before k d)
  pub rest : (k : ℕ) (d : Pair) → i ≤ k → get_or now k d ≡ get_or before k d

pub none_raised : (more : ℕ) (xs : List Pair) → AreRaised more xs 0 xs
none_raised more xs = record { each = refl; done = λ k d low. absurd (omega arith); rest = λ k d low. refl }

pub one_raised : (more : ℕ) (before : List Pair) (i : ℕ) (now : List Pair) (x e : Pair) → i < length before → x ≡ raised more (get_or before i e)
    → AreRaised more before i now → AreRaised more before (i + 1) (set now i x)
one_raised more before i now x e i_n here is = record {
  each = length-set {A = Pair} now i x ∙ is.each;
  done = λ k d low k_n.
      elim (cases_eq k i) [
        | inl at ↦
            rw at
            (get_or-set_same now i x d (omega (arith, is.each)) ∙ here ∙ ap (raised more) (get_or_default before i e d i_n))
        | inr other ↦ get_or-set_other now i k x d other ∙ is.done k d (omega arith) k_n
      ];
  rest = λ k d low. get_or-set_other now i k x d (λ e. omega arith) ∙ is.rest k d (omega arith);
}

pub all_raised : (more : ℕ) (before now : List Pair) (n : ℕ) → length before ≤ n → AllPairs IsBelow before → AreRaised more before n now
    → IsUndominated (Raises more before) now
all_raised more before now n all rise is = record {
  rising = λ k j d k_j j_n.
      let below : IsBelow (get_or before k d) (get_or before j d) = rise k j d k_j (omega (arith, is.each)) in
      rw (is.done k d (omega (arith, is.each)) (omega (arith, is.each)), is.done j d (omega (arith, is.each)) (omega (arith, is.each)))
      (record { time = below.time; room = omega (arith, below.room) });
  taken = λ k d k_n. (get_or before k d, Contains-get_or before k d (omega (arith, is.each)), is.done k d (omega (arith, is.each)) (omega (arith, is.each)));
  covers = λ y (x, (k, k_n, e), y_is).
      let at : get_or now k y ≡ y = is.done k y (omega arith) k_n ∙ ap (raised more) (get_or_default before k y x k_n ∙ e) ∙ sym y_is in
      (y, (k, omega (arith, is.each), at), over_self y);
}
