use Rattle.std.proofs.Common.{◌≡◌, map, slice_index_or, take}
use Rattle.vg_design.specs.Designs.{NO_NODE}
use Rattle.vg_design.specs.Parts.{is_free}
use Rattle.vg_design.proofs.parts.free_of.Given as goal

abbrev pub invariant-node : goal.invariant-node
invariant-node l = l.free.items ≡ map (λ v. is_free l.cons (slice_index_or l.net.nodes v NO_NODE)) (take l.v-index l.order)
