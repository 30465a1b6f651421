use Rattle.ver_file.proofs.LawLemmas.{each_faults_once, netlists_are_faultless, reads_once}
use Rattle.ver_file.proofs.laws.texts_are_read_in_one_way.Goals as goal

pub returns-clause-netlists : goal.returns-clause-netlists
returns-clause-netlists c = reads_once

pub returns-clause-faults : goal.returns-clause-faults
returns-clause-faults c = each_faults_once

pub returns-clause-apart : goal.returns-clause-apart
returns-clause-apart c = netlists_are_faultless
