-- Whether rising lists cover others.
use Rattle.std.proofs.Common.{◌≡◌, ◌↔◌, ℕ, ◌+◌, ◌<◌, ◌≤◌, true, false, List, length, get_or, refl, sym, ap, ◌∙◌, subst, arith, inl, inr, ◌≤ℤ◌, ◌<ℤ◌, Some, Bool, not, cond, ◌-◌}
use Rattle.std.proofs.lemmas.Bool.{cases_lt, cases_eq}
use Rattle.std.proofs.lemmas.Int.{ints}
use Rattle.std.proofs.lemmas.List.{get_or_default}
use Rattle.std.proofs.lemmas.List.Elements.{Contains-get_or}
use Rattle.std.specs.List.{AllPairs, Contains}
use Rattle.elmore.specs.Cells.{rep_at}
use Rattle.elmore.specs.Pairs.{IsBelow}
use Rattle.elmore.specs.declared.rep.Rep.{Rep}
use Rattle.elmore.specs.declared.pair.Pair.{Pair}
use Rattle.elmore.specs.declared.problem.Problem.{Problem}
use Rattle.cand_pairs.specs.Candidates.{past_cell, IsCoveredBy}
use Rattle.cand_pairs.specs.Merging.{AreCoveredBy, Greatest, IsChoiceAt, IsGreatestBy, NoneFits, Owns}
use Rattle.cand_pairs.proofs.GreatestLemmas.{greatest_dense}
use Rattle.cand_pairs.proofs.MeetLemmas.{nil}
use Rattle.cand_pairs.proofs.MergeLemmas.{dense_covered}
use Rattle.vg_check.specs.Covers.{ClassLists, CoversCells, CoversFrom, CoversJoins, CoversOwns, IsCountWithin}
use Rattle.vg_check.specs.Orders.{IsOrder, rank_at}
use Rattle.vg_check.specs.declared.order.Rank.{Rank}

-- THE WALK
-- a pair has no more time and load than a later one of a rising list
no_less : (xs : List Pair) (i k : ℕ) → AllPairs IsBelow xs → i ≤ k → k < length xs
    → ((get_or xs i nil).q ≤ℤ (get_or xs k nil).q) × ((get_or xs i nil).c ≤ (get_or xs k nil).c)
no_less xs i k rise i_k k_n =
    elim (cases_eq i k) [
      | inl e ↦ (omega (arith, ints, ap (λ (n : ℕ). (get_or xs n nil).q) e), omega (arith, ap (λ (n : ℕ). (get_or xs n nil).c) e))
      | inr ne ↦
          let b : IsBelow (get_or xs i nil) (get_or xs k nil) = rise i k nil (omega arith) k_n in
          (omega (arith, ints, b.time), omega (arith, b.room))
    ]

-- the pairs before `next` are covered, and the entries before `at` have less time than any of the others
pub record Walking (entries pairs : List Pair) (at next : ℕ) : Type 0 where
  pub inside : at ≤ length entries
  pub late : (k j : ℕ) → k < at → next ≤ j → j < length pairs → (get_or entries k nil).q <ℤ (get_or pairs j nil).q
  pub covered : (j : ℕ) → j < next → IsCoveredBy (Contains entries) (get_or pairs j nil)

pub walk_starts : (entries pairs : List Pair) → Walking entries pairs 0 0
walk_starts entries pairs = record {
  inside = omega arith;
  late = λ k j k_at. absurd (omega arith);
  covered = λ j j_n. absurd (omega arith);
}

pub walk_passes : (entries pairs : List Pair) (at next : ℕ) → AllPairs IsBelow pairs → at < length entries
    → (get_or entries at nil).q <ℤ (get_or pairs next nil).q → Walking entries pairs at next → Walking entries pairs (at + 1) next
walk_passes entries pairs at next rise at_n less w = record {
  inside = omega arith;
  late = λ k j k_at next_j j_n. elim (cases_eq k at) [
    | inl e ↦ omega (arith, ints, less, (no_less pairs next j rise next_j j_n).0, ap (λ (n : ℕ). (get_or entries n nil).q) e)
    | inr ne ↦ w.late k j (omega arith) next_j j_n
  ];
  covered = w.covered;
}

pub walk_goes_on : (entries pairs : List Pair) (at next : ℕ) → at < length entries → (get_or pairs next nil).q ≤ℤ (get_or entries at nil).q
    → (get_or entries at nil).c ≤ (get_or pairs next nil).c → Walking entries pairs at next → Walking entries pairs at (next + 1)
walk_goes_on entries pairs at next at_n time room w = record {
  inside = w.inside;
  late = λ k j k_at next_j j_n. w.late k j k_at (omega arith) j_n;
  covered = λ j j_n. elim (cases_eq j next) [
    | inl e ↦
        subst (λ (n : ℕ). IsCoveredBy (Contains entries) (get_or pairs n nil)) (sym e)
        (get_or entries at nil, Contains-get_or entries at nil at_n, record { time = time; room = room })
    | inr ne ↦ w.covered j (omega arith)
  ];
}

pub walk_ends : (entries pairs : List Pair) (at next : ℕ) → length pairs ≤ next → Walking entries pairs at next → AreCoveredBy (Contains pairs) entries
walk_ends entries pairs at next all w x (j, j_n, x_is) =
    subst (IsCoveredBy (Contains entries)) (get_or_default pairs j nil x j_n ∙ x_is) (w.covered j (omega arith))

-- the next pair is covered by no entry: the ones before have less time, and the others more load
pub walk_fails : (entries pairs : List Pair) (at next : ℕ) → AllPairs IsBelow entries → next < length pairs
    → (at < length entries → (get_or pairs next nil).c < (get_or entries at nil).c) → Walking entries pairs at next
    → AreCoveredBy (Contains pairs) entries → ⊥
walk_fails entries pairs at next rise next_n more w covered =
    let (y, (k, k_n, y_is), dominates) = covered (get_or pairs next nil) (Contains-get_or pairs next nil next_n) in
    let is : get_or entries k nil ≡ y = get_or_default entries k nil y k_n ∙ y_is in
    elim (cases_lt k at) [
      | inl low ↦ absurd (omega (arith, ints, w.late k next low (omega arith) next_n, dominates.time, ap (λ (x : Pair). x.q) is))
      | inr high ↦
          absurd (omega (arith, (no_less entries at k rise high k_n).1, more (omega (arith, high, k_n)), dominates.room, ap (λ (x : Pair). x.c) is))
    ]

-- A PAIR: of the entries with no more load the last decides
pub last_covers : (entries : List Pair) (x : Pair) (n : ℕ) → IsCountWithin entries x.c n → 0 < n → x.q ≤ℤ (get_or entries (n - 1) nil).q
    → IsCoveredBy (Contains entries) x
last_covers entries x n count some time = (
  get_or entries (n - 1) nil,
  Contains-get_or entries (n - 1) nil (omega (arith, some, count.inside)),
  record { time = time; room = count.within (n - 1) (omega (arith, some)) },
)

pub last_decides : (entries : List Pair) (x : Pair) (n : ℕ) → AllPairs IsBelow entries → IsCountWithin entries x.c n → IsCoveredBy (Contains entries) x
    → (0 < n) × (x.q ≤ℤ (get_or entries (n - 1) nil).q)
last_decides entries x n rise count (y, (k, k_n, y_is), dominates) =
    let is : get_or entries k nil ≡ y = get_or_default entries k nil y k_n ∙ y_is in
    elim (cases_lt k n) [
      | inl low ↦ (
        omega (arith, low),
        omega (arith, ints, (no_less entries k (n - 1) rise (omega (arith, low)) (omega (arith, low, count.inside))).0, dominates.time, ap (λ (x : Pair). x.q) is),
      )
      | inr high ↦ absurd (omega (arith, count.past k high k_n, dominates.room, ap (λ (x : Pair). x.c) is))
    ]

-- the search by halves for them
pub record Halving (entries : List Pair) (load low high : ℕ) : Type 0 where
  pub order : low ≤ high
  pub inside : high ≤ length entries
  pub within : (k : ℕ) → k < low → (get_or entries k nil).c ≤ load
  pub past : (k : ℕ) → high ≤ k → k < length entries → load < (get_or entries k nil).c

pub halving_starts : (entries : List Pair) (load : ℕ) → Halving entries load 0 (length entries)
halving_starts entries load = record {
  order = omega arith;
  inside = omega arith;
  within = λ k k_low. absurd (omega (arith, k_low));
  past = λ k high k_n. absurd (omega (arith, high, k_n));
}

pub halving_up : (entries : List Pair) (load low high middle : ℕ) → AllPairs IsBelow entries → middle < high → (get_or entries middle nil).c ≤ load
    → Halving entries load low high → Halving entries load (middle + 1) high
halving_up entries load low high middle rise m_high room h = record {
  order = omega (arith, m_high);
  inside = h.inside;
  within = λ k k_m. omega (arith, room, (no_less entries k middle rise (omega (arith, k_m)) (omega (arith, m_high, h.inside))).1);
  past = h.past;
}

pub halving_down : (entries : List Pair) (load low high middle : ℕ) → AllPairs IsBelow entries → low ≤ middle → middle < high
    → load < (get_or entries middle nil).c → Halving entries load low high → Halving entries load low middle
halving_down entries load low high middle rise low_m m_high more h = record {
  order = low_m;
  inside = omega (arith, m_high, h.inside);
  within = h.within;
  past = λ k m_k k_n. omega (arith, more, (no_less entries middle k rise m_k k_n).1);
}

pub halving_ends : (entries : List Pair) (load low high : ℕ) → high ≤ low → Halving entries load low high → IsCountWithin entries load low
halving_ends entries load low high met h = record {
  inside = omega (arith, h.order, h.inside);
  within = h.within;
  past = λ k low_k k_n. h.past k (omega (arith, met, low_k)) k_n;
}

-- A CELL: its greatest pair decides
pub one_greatest : (rep : Rep) (xs entries : List Pair) (z : Pair) → IsGreatestBy rep xs z
    → IsCoveredBy (Contains entries) z ↔ AreCoveredBy (IsGreatestBy rep xs) entries
one_greatest rep xs entries z is = (
  λ (y, y_in, y_z) x x_is.
      let (a, a_in, a_fits, x_made) = x_is.made in
      let (b, b_in, b_fits, z_made) = is.made in (
        y,
        y_in,
        record {
          time = omega (arith, ints, y_z.time, is.most a a_in a_fits, ap (λ (t : Pair). t.q) x_made);
          room = omega (arith, y_z.room, ap (λ (t : Pair). t.c) x_made, ap (λ (t : Pair). t.c) z_made);
        },
      ),
  λ covered. covered z is,
)

pub no_greatest : (rep : Rep) (xs entries : List Pair) → NoneFits rep xs → AreCoveredBy (IsGreatestBy rep xs) entries
no_greatest rep xs entries none x x_is = let (y, y_in, fits, x_made) = x_is.made in absurd (none y y_in fits)

-- ALL CELLS so far, of one class of joins
abbrev pub CoversWith : Problem → Bool → List Pair → ClassLists → ℕ → Type 0
CoversWith p odd xs entries b = AreCoveredBy (IsGreatestBy (rep_at p.reps b) xs) (entries (past_cell (Some (rep_at p.reps b)) odd))

abbrev pub CoversBefore : Problem → ℕ → Bool → List Pair → ClassLists → List Rank → ℕ → Type 0
CoversBefore p v odd xs entries ranks n =
    (k : ℕ) → k < n → IsChoiceAt p v (rank_at ranks k).rep → CoversWith p odd xs entries (rank_at ranks k).rep

pub one_more : (p : Problem) (v : ℕ) (odd : Bool) (xs : List Pair) (entries : ClassLists) (ranks : List Rank) (n : ℕ)
    → (IsChoiceAt p v (rank_at ranks n).rep → CoversWith p odd xs entries (rank_at ranks n).rep)
    → CoversBefore p v odd xs entries ranks n → CoversBefore p v odd xs entries ranks (n + 1)
one_more p v odd xs entries ranks n here before k k_n choice = elim (cases_eq k n) [
  | inl e ↦
      subst (λ (i : ℕ). CoversWith p odd xs entries (rank_at ranks i).rep) (sym e) (here (subst (λ (i : ℕ). IsChoiceAt p v (rank_at ranks i).rep) e choice))
  | inr ne ↦ before k (omega (arith, k_n, ne)) choice
]

pub all_before : (p : Problem) (v : ℕ) (odd : Bool) (xs : List Pair) (entries : ClassLists) (ranks : List Rank) (n : ℕ) → IsOrder p.reps ranks
    → length ranks ≤ n → CoversBefore p v odd xs entries ranks n → CoversFrom p v odd xs entries
all_before p v odd xs entries ranks n order all before b choice =
    let (k, k_n, e) = order.all b choice.named in
    subst (CoversWith p odd xs entries) e (before k (omega (arith, k_n, all)) (subst (IsChoiceAt p v) (sym e) choice))

-- of both classes: a cell takes the class behind it to the one before it, and back
twice : (inverts odd : Bool) → cond inverts (not (cond inverts (not odd) odd)) (cond inverts (not odd) odd) ≡ odd
twice false false = refl
twice false true = refl
twice true false = refl
twice true true = refl

either : (p : Problem) (v : ℕ) (joins entries : ClassLists) → CoversFrom p v false (joins false) entries
    → CoversFrom p v true (joins true) entries → (odd : Bool) → CoversFrom p v odd (joins odd) entries
either p v joins entries even odds false = even
either p v joins entries even odds true = odds

pub cells_from : (p : Problem) (v : ℕ) (joins entries : ClassLists) → CoversFrom p v false (joins false) entries
    → CoversFrom p v true (joins true) entries → CoversCells p v joins entries
cells_from p v joins entries even odds b choice odd =
    subst (λ (c : Bool). AreCoveredBy (IsGreatestBy (rep_at p.reps b) (joins (past_cell (Some (rep_at p.reps b)) odd))) (entries c))
    (twice (rep_at p.reps b).inverts odd) (either p v joins entries even odds (past_cell (Some (rep_at p.reps b)) odd) b choice)

pub from_cells : (p : Problem) (v : ℕ) (joins entries : ClassLists) (odd : Bool) → CoversCells p v joins entries
    → CoversFrom p v odd (joins odd) entries
from_cells p v joins entries odd cells b choice =
    subst (λ (c : Bool). AreCoveredBy (IsGreatestBy (rep_at p.reps b) (joins c)) (entries (past_cell (Some (rep_at p.reps b)) odd)))
    (twice (rep_at p.reps b).inverts odd) (cells b choice (past_cell (Some (rep_at p.reps b)) odd))

-- WITH AND WITHOUT A CELL
pub owns_from : (p : Problem) (v : ℕ) (joins entries : ClassLists) → CoversJoins joins entries
    → CoversCells p v joins entries → CoversOwns p v joins entries
owns_from p v joins entries bare cells odd =
    dense_covered (Greatest p v odd joins) (Owns p v odd joins) (entries odd) (greatest_dense p v odd joins) (λ z z_in. elim z_in [
      | inl same ↦ bare odd z same
      | inr (b, choice, is) ↦ cells b choice odd z is
    ])

pub both_bare : (joins entries : ClassLists) → AreCoveredBy (Contains (joins false)) (entries false)
    → AreCoveredBy (Contains (joins true)) (entries true) → CoversJoins joins entries
both_bare joins entries even odd false = even
both_bare joins entries even odd true = odd

pub owns_bare : (p : Problem) (v : ℕ) (joins entries : ClassLists) → CoversOwns p v joins entries
    → CoversJoins joins entries
owns_bare p v joins entries owns odd z z_in = owns odd z ((greatest_dense p v odd joins).part z (inl z_in))

pub owns_cells : (p : Problem) (v : ℕ) (joins entries : ClassLists) → CoversOwns p v joins entries → CoversCells p v joins entries
owns_cells p v joins entries owns b choice odd z is = owns odd z ((greatest_dense p v odd joins).part z (inr (b, choice, is)))
