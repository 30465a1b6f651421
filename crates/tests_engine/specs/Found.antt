-- What repeaters find in lists of candidates without cells.
use Rattle.std.specs.Prelude.{List}
use Rattle.elmore.specs.declared.allowed.Allowed.TheVariants.{All as AllOf}
use Rattle.elmore.specs.declared.rep.Rep.{Rep}
use Rattle.cand_pool.specs.Candidates.{Candidates}
use Rattle.vg_convex.specs.Answers.{HasFound}
use Rattle.vg_convex.specs.declared.work.Work.{Work}
use Rattle.tests_engine.specs.Ready.{AreBare}

-- the work has what these repeaters find in some list without cells, where all are allowed
pub record IsFoundOfBare (reps : List Rep) (work : Work) : Type 0 where
  pub xs : Candidates
  pub bare : AreBare xs
  pub found : HasFound AllOf reps xs work
