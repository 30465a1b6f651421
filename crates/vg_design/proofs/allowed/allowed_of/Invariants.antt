use Rattle.std.proofs.Common.{◌≡◌, map, take}
use Rattle.vg_design.specs.Parts.{allowance_at}
use Rattle.vg_design.proofs.allowed.allowed_of.Given as goal

abbrev pub invariant-node : goal.invariant-node
invariant-node l = l.allowed.items ≡ map (allowance_at l.design l.net) (take l.v-index l.order)
