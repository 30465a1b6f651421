use Rattle.elmore.proofs.ProblemLemmas.{wrong_is}
use Rattle.elmore.proofs.polarity.first_wrong_by.Goals as goal

pub returns : goal.returns
returns c =
    wrong_is c.args.p.now c.args.cells.now c.mark_inverted.new.inverted c.first_unlike.result
    (rw (c.as_slice.ensures, c.as_slice-2.ensures) at c.mark_inverted.ensures)
    (rw (c.as_slice-3.ensures) at c.first_unlike.ensures)
