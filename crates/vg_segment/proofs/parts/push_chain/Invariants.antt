use Rattle.std.proofs.Common.{◌≡◌, ◌++◌, map}
use Rattle.std.specs.List.{range_with_len}
use Rattle.vg_segment.proofs.ChainLemmas.{piece}
use Rattle.vg_segment.proofs.parts.push_chain.Given as goal

abbrev pub invariant-part : goal.invariant-part
invariant-part l = l.cut.items ≡ l.initial.cut.items ++ map (piece l.parts l.first l.res) (range_with_len 0 l.i)
