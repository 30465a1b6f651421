use Rattle.vg_change.proofs.begins.+are_digits.Given as goal

abbrev pub decreases-are_digits : goal.decreases-are_digits
decreases-are_digits l = l.number
