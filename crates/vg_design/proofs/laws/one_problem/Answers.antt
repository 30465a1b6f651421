use Rattle.vg_design.proofs.LawLemmas.{bare_accepts, one_problem, one_refusal, problem_or_refused}
use Rattle.vg_design.proofs.laws.one_problem.Goals as goal

pub returns-clause-problem : goal.returns-clause-problem
returns-clause-problem c = one_problem

pub returns-clause-either : goal.returns-clause-either
returns-clause-either c = problem_or_refused

pub returns-clause-refusal : goal.returns-clause-refusal
returns-clause-refusal c = one_refusal

pub returns-clause-bare : goal.returns-clause-bare
returns-clause-bare c = bare_accepts
