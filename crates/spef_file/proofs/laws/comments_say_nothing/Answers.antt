use Rattle.std.proofs.Common.{ap, sym}
use Rattle.vg_scan.specs.Lines.{lines_of}
use Rattle.vg_scan.specs.Comments.{without_comments}
use Rattle.vg_scan.specs.declared.comments.Comments.TheVariants.{Spef}
use Rattle.vg_scan.proofs.AgainLemmas.{without_again}
use Rattle.spef_file.proofs.LawLemmas.{file_along, fault_along, lines_along}
use Rattle.spef_file.proofs.laws.comments_say_nothing.Goals as goal

pub returns-clause-file : goal.returns-clause-file
returns-clause-file c = λ text file f. file_along (without_comments Spef text) text file (ap lines_of (without_again Spef text)) f

pub returns-clause-clear_file : goal.returns-clause-clear_file
returns-clause-clear_file c = λ text file f. file_along text (without_comments Spef text) file (sym (ap lines_of (without_again Spef text))) f

pub returns-clause-fault : goal.returns-clause-fault
returns-clause-fault c = λ text fault f. fault_along (without_comments Spef text) text fault (ap lines_of (without_again Spef text)) f

pub returns-clause-clear_fault : goal.returns-clause-clear_fault
returns-clause-clear_fault c = λ text fault f. fault_along text (without_comments Spef text) fault (sym (ap lines_of (without_again Spef text))) f

pub returns-clause-lines : goal.returns-clause-lines
returns-clause-lines c = λ text line. lines_along (without_comments Spef text) text line (without_again Spef text)
