-- What the candidates of a node are worth: they beat all that placements come to there within the cap, each with a
-- solution that comes to it.
use Rattle.std.specs.Prelude.{◌≡◌, ℕ, Bool, List, length, Option, Some}
use Rattle.std.specs.List.{Contains, sum_by}
use Rattle.elmore.specs.Cells.{rep_of, cell_cost}
use Rattle.elmore.specs.Legal.{IsWithin, MayHave}
use Rattle.elmore.specs.Path.{nodes as node_numbers}
use Rattle.elmore.specs.declared.pair.Pair.{Pair}
use Rattle.elmore.specs.declared.problem.Problem.{Problem}
use Rattle.sol_arena.specs.declared.slot.Made.{Made}
use Rattle.sol_arena.specs.Meanings.{cells_of}
use Rattle.cand_pairs.specs.Candidates.{past_cell}
use Rattle.cand_pairs.specs.Merging.{HasEnd, live_from, fork_from}
use Rattle.cand_pairs.specs.Priced.{Priced, IsPricedPart, IsPricedOpenWith, IsPricedAt, PricedOwns, with_price}
use Rattle.cand_pairs.specs.Solutions.{IsOpenSolutionOf, IsSolutionOf}
use Rattle.vg_front.specs.declared.offer.Candidate.{Candidate}
use Rattle.vg_front.specs.Offers.{priced, offers_of, IsBeaten}

-- what the candidates of a list come to
abbrev pub In : List Candidate → Priced → Type 0
In xs z = Contains (offers_of xs) z

-- the costs of all cells of a solution
abbrev pub cost_by : Problem → (ℕ → Option ℕ) → ℕ
cost_by p held = sum_by (λ u. cell_cost (rep_of p.reps (held u))) (node_numbers (length p.tree.nodes))

-- the solution of a candidate comes to its pair in this sense, and its cells cost what the candidate does
pub record IsSolved (p : Problem) (Is : (ℕ → Option ℕ) → Pair → Type 0) (ms : List Made) (x : Candidate) : Type 0 where
  pub pair : Is (cells_of ms x.sol.0) (priced x.offer).pair
  pub cost : x.offer.cost ≡ cost_by p (cells_of ms x.sol.0)

abbrev pub AreSolved : Problem → ((ℕ → Option ℕ) → Pair → Type 0) → List Made → List Candidate → Type 0
AreSolved p Is ms xs = (x : Candidate) → Contains xs x → IsSolved p Is ms x

-- the candidates of each class of node v, with those of its children from number i on that came in, and without a cell
-- at v
pub record IsOpenAt (p : Problem) (cap : Option ℕ) (i v : ℕ) (ms : List Made)
    (classes : Bool → List Candidate) : Type 0 where
  pub end : HasEnd p v (live_from p v i)
  pub part : (odd : Bool)
      → IsPricedPart cap (In (classes odd)) (IsPricedOpenWith p (IsPricedAt p) odd (fork_from p v i))
  pub solved : (odd : Bool) → AreSolved p (IsOpenSolutionOf p odd (fork_from p v i)) ms (classes odd)

-- the candidates of each class of node v, with and without a cell there
pub record IsClosedAt (p : Problem) (cap : Option ℕ) (v : ℕ) (ms : List Made)
    (classes : Bool → List Candidate) : Type 0 where
  pub part : (odd : Bool) → IsPricedPart cap (In (classes odd)) (IsPricedAt p v odd)
  pub solved : (odd : Bool) → AreSolved p (IsSolutionOf p v odd) ms (classes odd)

-- the candidates with a cell at v: a part of what the classes come to with one, which beats it all within the cap
pub record AreCells (p : Problem) (cap : Option ℕ) (v : ℕ) (odd : Bool) (G : Bool → Priced → Type 0)
    (zs : List Candidate) : Type 0 where
  pub part : (a : Priced) → In zs a → PricedOwns p v odd G a
  pub covers : (b : ℕ) (y : Priced) → MayHave p v (Some b) y.pair.c → G (past_cell (rep_of p.reps (Some b)) odd) y
      → IsWithin cap (with_price (rep_of p.reps (Some b)) y).cost
      → IsBeaten (offers_of zs) (with_price (rep_of p.reps (Some b)) y)
