use Rattle.std.proofs.Common.{◌∙◌, sym}
use Rattle.spef_file.proofs.LawLemmas.{one_fault, file_or_fault}
use Rattle.spef_file.proofs.laws.says_one_thing.Goals as goal

pub returns-clause-file : goal.returns-clause-file
returns-clause-file c = λ text one other f g. f.says ∙ sym g.says

pub returns-clause-fault : goal.returns-clause-fault
returns-clause-fault c = one_fault

pub returns-clause-either : goal.returns-clause-either
returns-clause-either c = file_or_fault
