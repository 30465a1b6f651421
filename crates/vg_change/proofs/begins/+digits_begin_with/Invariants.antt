use Rattle.vg_change.proofs.begins.+digits_begin_with.Given as goal

abbrev pub decreases-digits_begin_with : goal.decreases-digits_begin_with
decreases-digits_begin_with l = l.number
