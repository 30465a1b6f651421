-- What solutions cost, and that of the cells of a node.
use Rattle.std.proofs.Common.{◌≡◌, ℕ, ◌+◌, ◌<◌, Bool, cond, eqb, List, length, refl, sym, ap, ◌∙◌, subst, arith, inl, inr, Option, Some, None}
use Rattle.std.proofs.lemmas.Bool.{cases_eq, eq-eqb, ne_eqb}
use Rattle.elmore.specs.Cells.{rep_of, rep_at, cell_cost}
use Rattle.elmore.specs.Legal.{MayHave}
use Rattle.elmore.specs.Path.{nodes as node_numbers}
use Rattle.elmore.specs.Trees.{parent_of}
use Rattle.elmore.specs.declared.pair.Pair.{Pair}
use Rattle.elmore.specs.declared.problem.Problem.{Problem}
use Rattle.elmore.proofs.PathLemmas.{over_le}
use Rattle.elmore.proofs.SumLemmas.{sum_of_both, sum_of_same, sum_of_none, sum_at}
use Rattle.elmore.proofs.TreeLemmas.{tree_falls}
use Rattle.sol_arena.specs.declared.slot.Made.{Made}
use Rattle.sol_arena.specs.Meanings.{bare, with_own, joined, cells_of, AreApart}
use Rattle.cand_pairs.specs.Candidates.{with_cell, fork_of, whole_fork, own_capacitance}
use Rattle.cand_pairs.specs.Merging.{fork_from, live_from}
use Rattle.cand_pairs.specs.Solutions.{IsOpenSolutionOf, IsSolutionOf}
use Rattle.cand_pairs.proofs.ChildLemmas.{child_above}
use Rattle.cand_pairs.proofs.FromLemmas.{live_all, own_all}
use Rattle.cand_pairs.proofs.PairPartLemmas.{live_child_parts}
use Rattle.cand_pairs.proofs.SmallPairLemmas.{live_from_in}
use Rattle.cand_pairs.proofs.SolutionLemmas.{solution_closed, solution_bare}
use Rattle.vg_front.specs.declared.offer.Candidate.{Candidate}
use Rattle.vg_front.specs.declared.offer.Offer.{Offer}
use Rattle.vg_front.specs.Offers.{priced}
use Rattle.vg_front.specs.Making.{IsMadeOf}
use Rattle.vg_front.specs.Driving.{stand_of, driven_at, behind}
use Rattle.vg_front.specs.Fronts.{cost_by, IsSolved}

cost_at : Problem → (ℕ → Option ℕ) → ℕ → ℕ
cost_at p held u = cell_cost (rep_of p.reps (held u))

-- no cell costs nothing
pub bare_cost : (p : Problem) → cost_by p bare ≡ 0
bare_cost p = sum_of_none (node_numbers (length p.tree.nodes))

-- one cell more
pub own_cost : (p : Problem) (v b : ℕ) (f : ℕ → Option ℕ) → v < length p.tree.nodes → f v ≡ None
    → cost_by p (with_own v (Some b) f) ≡ cost_by p f + (rep_at p.reps b).cost
unfolding cost_at
own_cost p v b f v_n free =
    sum_of_same (λ u. cost_at p (with_own v (Some b) f) u) (λ u. cost_at p f u + cond (eqb u v) (rep_at p.reps b).cost 0)
    (node_numbers (length p.tree.nodes)) each
    ∙ sum_of_both (cost_at p f) (λ u. cond (eqb u v) (rep_at p.reps b).cost 0) (node_numbers (length p.tree.nodes))
    ∙ ap (λ (k : ℕ). cost_by p f + k) (sum_at (λ u. (rep_at p.reps b).cost) v 0 (length p.tree.nodes) (omega arith) (omega (arith, v_n)))
  where
    each : (u : ℕ) → cell_cost (rep_of p.reps (with_own v (Some b) f u)) ≡ cell_cost (rep_of p.reps (f u)) + cond (eqb u v) (rep_at p.reps b).cost 0
    each u = elim (cases_eq u v) [
      | inl e ↦
          let none : f u ≡ None = ap f e ∙ free in
          rw (eq-eqb u v e, none) (omega arith)
      | inr other ↦ rw (ne_eqb u v other) (omega arith)
    ]

-- two that share no node
pub joined_cost : (p : Problem) (f g : ℕ → Option ℕ) → AreApart f g → cost_by p (joined f g) ≡ cost_by p f + cost_by p g
joined_cost p f g apart =
    sum_of_same (λ u. cell_cost (rep_of p.reps (joined f g u))) (λ u. cell_cost (rep_of p.reps (f u)) + cell_cost (rep_of p.reps (g u)))
    (node_numbers (length p.tree.nodes))
    (λ u. each (f u) (g u) (λ x y. apart u x y))
    ∙ sum_of_both (λ u. cell_cost (rep_of p.reps (f u))) (λ u. cell_cost (rep_of p.reps (g u))) (node_numbers (length p.tree.nodes))
  where
    each : (a b : Option ℕ) → ((x y : ℕ) → a ≡ Some x → b ≡ Some y → ⊥)
        → cell_cost (rep_of p.reps (Rattle.sol_arena.specs.Meanings.either_of a b)) ≡ cell_cost (rep_of p.reps a) + cell_cost (rep_of p.reps b)
    each None b never = omega arith
    each (Some x) None never = omega arith
    each (Some x) (Some y) never = absurd (never x y refl refl)

none_or : (o : Option ℕ) → ((b : ℕ) → o ≡ Some b → ⊥) → o ≡ None
none_or None never = refl
none_or (Some b) never = absurd (never b refl)

-- a solution of what is open at a node has no cell there
pub free_at : (p : Problem) (v : ℕ) (odd : Bool) (f : ℕ → Option ℕ) (x : Pair) → IsOpenSolutionOf p odd (fork_from p v (v + 1)) f x → f v ≡ None
free_at p v odd f x is =
    none_or (f v) (λ b e.
    let (h, h_in, over) = is.inside v b e in
    omega (
      arith,
      child_above p.tree.nodes p.tree.a_tree v h (live_child_parts p v h (live_from_in p v (v + 1) h h_in)).child,
      over_le (parent_of p.tree.nodes) (tree_falls p.tree.nodes p.tree.a_tree) h v over,
    ))

-- all children of a node came in
pub whole_open : (p : Problem) (v : ℕ) (odd : Bool) (f : ℕ → Option ℕ) (x : Pair) → v < length p.tree.nodes
    → IsOpenSolutionOf p odd (fork_from p v (v + 1)) f x → IsOpenSolutionOf p odd (whole_fork p v) f x
whole_open p v odd f x v_n is =
    subst (λ (us : List ℕ). IsOpenSolutionOf p odd (fork_of v (own_capacitance p v) us) f x) (live_all p v v_n)
    (subst (λ (own : ℕ). IsOpenSolutionOf p odd (fork_of v own (live_from p v (v + 1))) f x) (own_all p v v_n) is)

-- the solution of a candidate with a cell at a place
pub cell_solved : (p : Problem) (v b : ℕ) (odd : Bool) (ms ms' : List Made) (x z : Candidate) → v < length p.tree.nodes → MayHave p v (Some b) x.offer.c
    → IsSolved p (IsOpenSolutionOf p (behind (rep_at p.reps b) odd) (fork_from p v (v + 1))) ms x → IsMadeOf ms ms' (driven_at (stand_of p v b) x) z
    → IsSolved p (IsSolutionOf p v odd) ms' z
cell_solved p v b odd ms ms' x z v_n may is made =
    let f : ℕ → Option ℕ = cells_of ms x.sol.0 in
    let free : f v ≡ None = free_at p v (behind (rep_at p.reps b) odd) f (priced x.offer).pair is.pair in
    let closed : IsSolutionOf p v odd (with_own v (Some b) f) (with_cell (Some (rep_at p.reps b)) (priced x.offer).pair) =
    solution_closed p v odd (Some b) f (priced x.offer).pair may (whole_open p v (behind (rep_at p.reps b) odd) f (priced x.offer).pair v_n is.pair) in
    record {
      pair = subst (λ (o : Offer). IsSolutionOf p v odd (cells_of ms' z.sol.0) (priced o).pair) (sym made.offer)
          (subst (λ (g : ℕ → Option ℕ). IsSolutionOf p v odd g (with_cell (Some (rep_at p.reps b)) (priced x.offer).pair)) (sym made.means) closed);
      cost =
          omega (
            arith,
            ap (λ (o : Offer). o.cost) made.offer,
            is.cost,
            own_cost p v b f v_n free,
            ap (cost_by p) made.means,
          );
    }

-- and of one without
pub bare_solved : (p : Problem) (v : ℕ) (odd : Bool) (ms ms' : List Made) (x : Candidate) → v < length p.tree.nodes
    → cells_of ms' x.sol.0 ≡ cells_of ms x.sol.0
    → IsSolved p (IsOpenSolutionOf p odd (fork_from p v (v + 1))) ms x → IsSolved p (IsSolutionOf p v odd) ms' x
bare_solved p v odd ms ms' x v_n same is = record {
  pair = subst (λ (g : ℕ → Option ℕ). IsSolutionOf p v odd g (priced x.offer).pair) (sym same)
      (solution_bare p v odd (cells_of ms x.sol.0) (priced x.offer).pair (whole_open p v odd (cells_of ms x.sol.0) (priced x.offer).pair v_n is.pair));
  cost = is.cost ∙ ap (cost_by p) (sym same);
}
