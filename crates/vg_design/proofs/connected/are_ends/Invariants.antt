use Rattle.std.proofs.Common.{◌≡◌, ℕ, ◌<◌, ◌||◌, is_some, true}
use Rattle.vg_design.specs.Designs.{name_of}
use Rattle.vg_design.specs.Steps.{is_port_end, pin_at}
use Rattle.vg_design.proofs.connected.are_ends.Given as goal

abbrev pub invariant-end : goal.invariant-end
invariant-end l = (i : ℕ) → i < l.at → (is_some (pin_at l.pins i) || is_port_end l.module_net (name_of l.net i)) ≡ true
