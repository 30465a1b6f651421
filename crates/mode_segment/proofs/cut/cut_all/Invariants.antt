use Rattle.mode_segment.proofs.CutLemmas.{AreCutBefore}
use Rattle.mode_segment.proofs.cut.cut_all.Given as goal

abbrev pub invariant-net : goal.invariant-net
invariant-net l = AreCutBefore l.spef l.index l.parts l.at l.kind l.text.items l.patch
