use Rattle.std.proofs.Common.{◌≡◌, ℕ, ◌-◌, ◌+◌, get_or, vec_len}
use Rattle.spef_nodes.specs.declared.notes.Mark.TheVariants.{Fresh}
use Rattle.spef_nodes.proofs.notes.lengthen.Given as goal

abbrev pub invariant-more : goal.invariant-more
invariant-more l = (i : ℕ) → get_or l.marks.items i Fresh ≡ get_or l.fn.marks.items i Fresh

abbrev pub decreases-more : goal.decreases-more
decreases-more l = l.at + 1 - vec_len l.marks
