-- A node with and without a cell.
use Rattle.std.proofs.Common.{◌≡◌, ℕ, ◌+◌, ◌<◌, Bool, true, false, List, length, slice_index_or, refl, sym, ap, ◌∙◌, subst, arith, inl, inr, Option, Some, None}
use Rattle.elmore.specs.Cells.{rep_of}
use Rattle.elmore.specs.Legal.{MayHave}
use Rattle.elmore.specs.declared.problem.Problem.{Problem}
use Rattle.sol_arena.specs.declared.slot.Made.{Made}
use Rattle.cand_pairs.specs.Candidates.{fork_of, own_capacitance, past_cell}
use Rattle.cand_pairs.specs.Merging.{fork_from, live_from}
use Rattle.cand_pairs.specs.Priced.{Priced, IsBeatenBy, IsPricedPart, IsPricedAt, IsPricedOpenWith, IsPricedOpen, IsPricedStep, PricedOwns, with_price}
use Rattle.cand_pairs.specs.Solutions.{IsSolutionOf}
use Rattle.cand_pairs.proofs.FromLemmas.{live_all, own_all}
use Rattle.cand_pairs.proofs.PricedLemmas.{one_priced}
use Rattle.cand_pairs.proofs.PricedMergeLemmas.{part_trans, priced_owns, kept_part}
use Rattle.vg_front.specs.declared.offer.Candidate.{Candidate}
use Rattle.vg_front.specs.Offers.{priced}
use Rattle.vg_front.specs.Held.{MeanTheSame, IsBlend}
use Rattle.vg_front.specs.Fronts.{In, AreCells, AreSolved, IsOpenAt, IsClosedAt}
use Rattle.vg_front.proofs.CostLemmas.{bare_solved}
use Rattle.vg_front.proofs.FrontLemmas.{owns_part}
use Rattle.vg_front.proofs.SeenLemmas.{beats_self}

-- all children of a node came in
pub open_part : (p : Problem) (cap : Option ℕ) (v : ℕ) (odd : Bool) (G : Priced → Type 0) → v < length p.tree.nodes
    → IsPricedPart cap G (IsPricedOpenWith p (IsPricedAt p) odd (fork_from p v (v + 1))) → IsPricedPart cap G (IsPricedOpen p (IsPricedAt p) v odd)
open_part p cap v odd G v_n is =
    subst (λ (us : List ℕ). IsPricedPart cap G (IsPricedOpenWith p (IsPricedAt p) odd (fork_of v (own_capacitance p v) us))) (live_all p v v_n)
    (subst (λ (own : ℕ). IsPricedPart cap G (IsPricedOpenWith p (IsPricedAt p) odd (fork_of v own (live_from p v (v + 1))))) (own_all p v v_n) is)

module _ (p : Problem) (cap : Option ℕ) (v : ℕ) (v_n : v < length p.tree.nodes) (ms : List Made) (classes : Bool → List Candidate)
    (opens : IsOpenAt p cap (v + 1) v ms classes) where
  -- what is a part of all with and without a cell is closed
  pub closed_part : (odd : Bool) (kept : List Candidate) → IsPricedPart cap (In kept) (PricedOwns p v odd (λ o. In (classes o)))
      → IsPricedPart cap (In kept) (IsPricedAt p v odd)
  closed_part odd kept is =
      kept_part p cap v odd (In kept) (part_trans cap (In kept) (PricedOwns p v odd (λ o. In (classes o))) (IsPricedStep p (IsPricedAt p) v odd) is
      (priced_owns p cap (IsPricedAt p) v odd (λ o. In (classes o)) (λ o. open_part p cap v o (In (classes o)) v_n (opens.part o))))

  -- no place
  pub bare_closed : slice_index_or p.places v false ≡ false → IsClosedAt p cap v ms classes
  bare_closed none = record {
    part = λ odd. closed_part odd (classes odd) (record {
      part = λ a found. (None, a, (λ b e. absurd (cc)), found, one_priced a (with_price None a) (omega arith) refl);
      covers = λ a (own, y, may, y_in, a_is) within. go odd a own y may y_in a_is;
    });
    solved = λ odd x found. bare_solved p v odd ms ms x v_n refl (opens.solved odd x found);
  }
    where
      go : (odd : Bool) (a : Priced) (own : Option ℕ) (y : Priced) → MayHave p v own y.pair.c → In (classes (past_cell (rep_of p.reps own) odd)) y
          → a ≡ with_price (rep_of p.reps own) y → IsBeatenBy (In (classes odd)) a
      go odd a None y may y_in a_is =
          let same : a ≡ y = a_is ∙ one_priced (with_price None y) y (omega arith) refl in
          subst (IsBeatenBy (In (classes odd))) (sym same) (y, y_in, beats_self y)
      go odd a (Some b) y may y_in a_is = absurd (let clash : true ≡ false = sym (may b refl).at_place ∙ none in cc)

  -- a place
  pub place_closed : (middle after : List Made) (cells kept : Bool → List Candidate) → ((o : Bool) → MeanTheSame ms middle (classes o))
      → ((o : Bool) → AreCells p cap v o (λ u. In (classes u)) (cells o)) → ((o : Bool) → AreSolved p (IsSolutionOf p v o) middle (cells o))
      → ((o : Bool) → IsBlend (classes o) (cells o) (kept o)) → ((o : Bool) → MeanTheSame middle after (kept o))
      → IsClosedAt p cap v after kept
  place_closed middle after cells kept first are solved blends second = record {
    part = λ odd. closed_part odd (kept odd) (owns_part p cap v odd classes (cells odd) (kept odd) (are odd) (blends odd));
    solved = λ odd x found.
        elim ((blends odd).part x found) [
          | inl bare ↦ bare_solved p v odd ms after x v_n (second odd x found ∙ first odd x bare) (opens.solved odd x bare)
          | inr cell ↦ record {
            pair = subst (λ (f : ℕ → Option ℕ). IsSolutionOf p v odd f (priced x.offer).pair) (sym (second odd x found)) (solved odd x cell).pair;
            cost = (solved odd x cell).cost ∙ ap (Rattle.vg_front.specs.Fronts.cost_by p) (sym (second odd x found));
          }
        ];
  }
