use Rattle.design_read.proofs.LawLemmas.{none_is, one_is}
use Rattle.design_read.proofs.laws.one_design.Goals as goal

pub returns-clause-one : goal.returns-clause-one
returns-clause-one c = one_is

pub returns-clause-none : goal.returns-clause-none
returns-clause-none c = none_is
