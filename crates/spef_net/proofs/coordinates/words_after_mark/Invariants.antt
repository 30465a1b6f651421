use Rattle.std.proofs.Common.{◌≡◌, length}
use Rattle.std.specs.List.{after_first}
use Rattle.vg_scan.specs.Lines.{words}
use Rattle.spef_net.specs.Positions.{is_mark}
use Rattle.spef_net.proofs.coordinates.words_after_mark.Given as goal

abbrev pub invariant-word : goal.invariant-word
invariant-word l = after_first is_mark l.words ≡ after_first is_mark (words l.note)

abbrev pub decreases-word : goal.decreases-word
decreases-word l = length l.words
