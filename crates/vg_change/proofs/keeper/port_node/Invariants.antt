use Rattle.std.proofs.Common.{◌≡◌, length, take, find, slice_index, None}
use Rattle.elmore.specs.Path.{nodes}
use Rattle.vg_design.specs.Designs.{is_port, name_of}
use Rattle.vg_change.proofs.keeper.port_node.Given as goal

abbrev pub invariant-node : goal.invariant-node
invariant-node l = find (λ w. is_port (name_of l.par (slice_index l.order w))) (take l.w (nodes (length l.order))) ≡ None
