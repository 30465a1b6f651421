-- The problem of a net whose wires are divided: what was a slack, a good placement or the best one.
use Rattle.std.specs.Prelude.{◌≡◌, ℕ, ◌<◌, true, false, cond, List, length, map, slice_index_or, ℤ, ◌≤ℤ◌, Option, None}
use Rattle.elmore.specs.Path.{nodes as numbers}
use Rattle.elmore.specs.Problems.{sink_of}
use Rattle.elmore.specs.Allowances.{allowed_at}
use Rattle.elmore.specs.Placements.{IsSlack}
use Rattle.elmore.specs.Best.{IsGood, IsBest}
use Rattle.elmore.specs.declared.problem.Problem.{Problem}
use Rattle.divided_laws.specs.DividedTrees.{Chains, IsDivided, is_old}

-- sinks and places stand where they stood, and old nodes allow what they allowed; new nodes may be places, and allow
-- what they will
pub record IsDividedProblem (p q : Problem) (t : Chains) : Type 0 where
  pub divided : IsDivided p.tree.nodes q.tree.nodes t
  pub driver : q.driver ≡ p.driver
  pub reps : q.reps ≡ p.reps
  pub sinks : (u : ℕ) → u < length p.tree.nodes → sink_of q.sinks (t.at u) ≡ sink_of p.sinks u
  pub no_sinks : (x : ℕ) → x < length q.tree.nodes → is_old t x ≡ false → sink_of q.sinks x ≡ None
  pub places : (u : ℕ) → u < length p.tree.nodes → slice_index_or p.places u false ≡ true
      → slice_index_or q.places (t.at u) false ≡ true
  pub allowed : (u : ℕ) → u < length p.tree.nodes → allowed_at q.allowed (t.at u) ≡ allowed_at p.allowed u

-- the placement with the same cells at the same nodes
abbrev pub moved : Problem → Chains → List (Option ℕ) → List (Option ℕ)
moved q t cells =
    map (λ x. cond (is_old t x) (slice_index_or cells (t.owner x) None) None) (numbers (length q.tree.nodes))

-- it has the same slack
abbrev pub DividedProblemsKeepSlack : Type 0
DividedProblemsKeepSlack = (p q : Problem) (t : Chains) (cells : List (Option ℕ)) (x : ℤ) → IsDividedProblem p q t
    → IsSlack p cells x
    → IsSlack q (moved q t cells) x

-- it is good where it was
abbrev pub DividedProblemsKeepGood : Type 0
DividedProblemsKeepGood = (p q : Problem) (t : Chains) (cells : List (Option ℕ)) → IsDividedProblem p q t
    → IsGood p cells
    → IsGood q (moved q t cells)

-- so the best slack does not fall
abbrev pub DividedProblemsAreNoWorse : Type 0
DividedProblemsAreNoWorse = (p q : Problem) (t : Chains) (cells more : List (Option ℕ)) (x y : ℤ)
    → IsDividedProblem p q t → IsBest p cells x → IsBest q more y
    → x ≤ℤ y
