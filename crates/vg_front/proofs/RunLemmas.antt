-- Runs of lists.
use Rattle.std.proofs.Common.{◌≡◌, ℕ, ◌+◌, ◌^◌, ◌<◌, ◌≤◌, List, [], ◌∷◌, ◌++◌, length, take, get_or, sym, ap, ◌∙◌, subst, arith, inl}
use Rattle.std.proofs.Common.{inr}
use Rattle.std.proofs.lemmas.List.{take_all}
use Rattle.std.proofs.lemmas.List.Edits.{length-between, get_or-between}
use Rattle.std.proofs.lemmas.List.Elements.{Contains-get_or, Contains-append_left, Contains-push, Contains-push_cases}
use Rattle.std.specs.List.{between}
use Rattle.vg_front.specs.declared.offer.Candidate.{Candidate}
use Rattle.vg_front.specs.declared.runs.Run.{Run}
use Rattle.vg_front.specs.Held.{AreBounded}
use Rattle.vg_front.specs.Meeting.{IsRun, IsRunAt}
use Rattle.vg_front.specs.Runs.{run_in, IsRunOf, AreRunsOf}
use Rattle.vg_front.proofs.TakenLemmas.{of_between, taken_cases, between_in}
use Rattle.vg_front.proofs.ListLemmas.{any_default}

pub run_bounded : (xs : List Candidate) (r : Run) → IsRunOf xs r → AreBounded xs → AreBounded (run_in xs r)
run_bounded xs r run bounded x found = bounded x (between_in xs r.from r.end x run.within found)

-- a run as a list
pub run_alone : (xs : List Candidate) (from end : ℕ) → IsRunAt xs from end → IsRunAt (between from end xs) 0 (length (between from end xs))
run_alone xs from end run = record {
  some = omega (arith, length-between xs from end run.within, run.some);
  within = omega arith;
  costs = λ k d low high.
      let k_n : from + k < end = omega (arith, high, length-between xs from end run.within, run.some) in
      let first : from + 0 ≡ from = omega arith in
      ap (λ (x : Candidate). x.offer.cost) (get_or-between xs from end k d k_n) ∙ run.costs (from + k) d (omega arith) k_n
      ∙ sym (ap (λ (x : Candidate). x.offer.cost) (get_or-between xs from end 0 d (omega (arith, run.some)) ∙ ap (λ (n : ℕ). get_or xs n d) first));
  rises = λ k m d low order high.
      let m_n : from + m < end = omega (arith, high, length-between xs from end run.within, run.some) in
      omega (
        arith,
        run.rises (from + k) (from + m) d (omega arith) (omega (arith, order)) m_n,
        ap (λ (x : Candidate). x.offer.c) (get_or-between xs from end k d (omega (arith, order, m_n))),
        ap (λ (x : Candidate). x.offer.c) (get_or-between xs from end m d m_n),
      );
}

pub run_whole : (xs : List Candidate) → IsRunAt xs 0 (length xs) → IsRun xs
run_whole xs run k m d order inside = (
  omega (arith, run.costs k d (omega arith) (omega (arith, order, inside)), run.costs m d (omega arith) inside),
  run.rises k m d (omega arith) order
      inside,
)

-- THE RUNS OF A LIST
pub run_is : (xs : List Candidate) (from end cost : ℕ) (d : Candidate) → IsRunAt xs from end → cost ≡ (get_or xs from d).offer.cost
    → IsRunOf xs (record { cost = cost; from = from; end = end })
run_is xs from end cost d run cost_is = record {
  order = omega (arith, run.some);
  within = run.within;
  rises = run_whole (between from end xs) (run_alone xs from end run);
  costs = λ x found.
      let (k, low, high, e) = of_between xs from end x run.within found in
      let inside : from < length xs = omega (arith, run.some, run.within) in
      sym (ap (λ (t : Candidate). t.offer.cost) e) ∙ run.costs k x low high ∙ ap (λ (t : Candidate). t.offer.cost) (any_default xs from x d inside)
      ∙ sym cost_is;
}

pub runs_begin : (xs : List Candidate) → AreRunsOf xs (take 0 xs) []
runs_begin xs = record {
  each = λ r (k, k_n, e). absurd (omega arith);
  whole = λ x (k, k_n, e). absurd (omega arith);
  small = λ r (k, k_n, e). absurd (omega arith);
}

pub runs_more : (xs : List Candidate) (runs : List Run) (from end cost : ℕ) (d : Candidate) → AreBounded xs → IsRunAt xs from end
    → cost ≡ (get_or xs from d).offer.cost
    → AreRunsOf xs (take from xs) runs → AreRunsOf xs (take end xs) (runs ++ (record { cost = cost; from = from; end = end }) ∷ [])
runs_more xs runs from end cost d bounded run cost_is before = record {
  each = λ r found. elim (Contains-push_cases runs new r found) [
    | inl early ↦ before.each r early
    | inr e ↦ subst (IsRunOf xs) e (run_is xs from end cost d run cost_is)
  ];
  whole = λ x found. elim (taken_cases xs from end x (omega (arith, run.some)) run.within found) [
    | inl early ↦ let (r, r_in, x_in) = before.whole x early in (r, Contains-append_left runs (new ∷ []) r r_in, x_in)
    | inr late ↦ (new, Contains-push runs new, late)
  ];
  small = λ r found. elim (Contains-push_cases runs new r found) [
    | inl early ↦ before.small r early
    | inr e ↦ subst (λ (t : Run). t.cost ≤ 10 ^ 17) e (omega (
      arith,
      cost_is,
      (bounded (get_or xs from d) (Contains-get_or xs from d (omega (arith, run.some, run.within)))).cost,
    ))
  ];
}
  where
    new : Run
    new = record { cost = cost; from = from; end = end }

pub runs_all : (xs : List Candidate) (k : ℕ) (runs : List Run) → length xs ≤ k → AreRunsOf xs (take k xs) runs → AreRunsOf xs xs runs
runs_all xs k runs all is = subst (λ (l : List Candidate). AreRunsOf xs l runs) (take_all k xs all) is
