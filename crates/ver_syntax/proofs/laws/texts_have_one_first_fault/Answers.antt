use Rattle.ver_syntax.proofs.LawLemmas.{faults_once, modules_are_faultless}
use Rattle.ver_syntax.proofs.laws.texts_have_one_first_fault.Goals as goal

pub returns-clause-once : goal.returns-clause-once
returns-clause-once c = faults_once

pub returns-clause-none : goal.returns-clause-none
returns-clause-none c = modules_are_faultless
