-- What the driver makes of the candidates of the root.
use Rattle.std.specs.Prelude.{◌≡◌, ℕ, ℤ, List, Option, MatchOption, false}
use Rattle.std.specs.List.{Contains}
use Rattle.elmore.specs.Pairs.{IsUndominated}
use Rattle.elmore.specs.declared.problem.Problem.{Problem}
use Rattle.sol_arena.specs.declared.arena.Arena.{Arena}
use Rattle.sol_arena.specs.Arenas.{slots_of, made_of}
use Rattle.cand_pairs.specs.Candidates.{Drives, DrivesNone, IsBoundedBy, root_value}
use Rattle.wire_widths.specs.WidePairs.{IsWidePairAt}
use Rattle.wire_widths.specs.WideSolutions.{IsWideSolutionOf}
use Rattle.wire_widths.specs.declared.width.Width.{Width}
use Rattle.cand_pool.specs.Candidates.{Candidate, Candidates}
use Rattle.cand_uses.specs.Pairs.{pair_of, pairs_of}
use Rattle.cand_uses.specs.Uses.{HoldsFor}
use Rattle.cand_turns.specs.Solved.{AreSolved}
use Rattle.vg_slack.specs.declared.root.Choice.{Choice}

-- a candidate with this solution leaves this slack; of all whose load the driver may charge, none leaves more
pub record IsChosen (p : Problem) (xs : Candidates) (slack : ℤ) (sol : ℕ) : Type 0 where
  pub candidate : Candidate
  pub among : Contains xs candidate
  pub drives : Drives p (pair_of candidate)
  pub worth : slack ≡ root_value p (pair_of candidate)
  pub solution : sol ≡ candidate.tag
  pub most : IsBoundedBy p (Contains (pairs_of xs)) slack

-- one of these was chosen, or none of them is one whose load the driver may charge
abbrev pub IsChoice : Problem → Candidates → Option Choice → Type 0
IsChoice p xs choice =
    MatchOption choice (DrivesNone p (Contains (pairs_of xs))) (λ (choice : Choice).
    IsChosen p xs choice.slack choice.sol.0)

-- this was chosen of the candidates of the root: all undominated pairs there, each with a solution in use that comes to
-- it
pub record IsRootChoice (p : Problem) (widths : List Width) (arena : Arena) (choice : Option Choice) : Type 0 where
  pub candidates : Candidates
  pub exact : IsUndominated (IsWidePairAt p widths 0 false) (pairs_of candidates)
  pub solved : AreSolved (IsWideSolutionOf p widths 0 false) (made_of arena) candidates
  pub uses : HoldsFor (slots_of arena) candidates
  pub chosen : IsChoice p candidates choice
