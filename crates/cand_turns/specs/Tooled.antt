-- The repeaters of a problem on their shelf, and what was found for them.
use Rattle.std.specs.Prelude.{ℕ, Bool, true, false, cond, length, slice_index_or}
use Rattle.elmore.specs.Allowances.{allowed_at}
use Rattle.elmore.specs.declared.problem.Problem.{Problem}
use Rattle.cand_pool.specs.Candidates.{Candidates}
use Rattle.vg_convex.specs.Answers.{HasFound, HaveFound as HaveFoundOf}
use Rattle.vg_convex.specs.Orders.{IsShelf}
use Rattle.vg_convex.specs.declared.work.Work.{Work}
use Rattle.cand_turns.specs.Celled.{behind}
use Rattle.cand_turns.specs.declared.tools.Tools.{Tools}

-- the shelf of the tools has the repeaters of the problem
pub record AreToolsOf (p : Problem) (tools : Tools) : Type 0 where
  pub shelf : IsShelf p.reps tools.shelf

-- one work has what the buffers make of a class's own list at node v, and the other one what the inverters make of the
-- other list
abbrev pub HaveFoundAt : Problem → ℕ → Bool → (Bool → Candidates) → Work → Work → Type 0
HaveFoundAt p v odd classes own other =
    HaveFoundOf (allowed_at p.allowed v) p.reps (λ inverts. classes (behind inverts odd)) own other

-- the tools have what each repeater makes of the list of each class at node v
pub record HaveFound (p : Problem) (v : ℕ) (classes : Bool → Candidates) (tools : Tools) : Type 0 where
  pub of_even : HasFound (allowed_at p.allowed v) p.reps (classes false) tools.even
  pub of_odd : HasFound (allowed_at p.allowed v) p.reps (classes true) tools.odd

-- how many candidates a node may add to each of its lists
abbrev pub added_at : Problem → ℕ → ℕ
added_at p v = cond (slice_index_or p.places v false) (length p.reps) 0
