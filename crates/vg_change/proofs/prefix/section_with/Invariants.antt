use Rattle.std.proofs.Common.{◌≡◌, ℕ, List, take, find, None}
use Rattle.vg_design.specs.Designs.{net_names}
use Rattle.vg_change.specs.Named.{begins}
use Rattle.vg_change.proofs.prefix.section_with.Given as goal

abbrev pub invariant-net : goal.invariant-net
invariant-net l = find (λ (name : List ℕ). begins name l.prefix) (take l.at (net_names l.design.spef)) ≡ None
