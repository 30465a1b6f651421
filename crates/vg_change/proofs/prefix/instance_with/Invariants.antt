use Rattle.std.proofs.Common.{◌≡◌, ℕ, List, map, take, find, None}
use Rattle.ver_module.specs.Netlists.{Instance}
use Rattle.vg_change.specs.Named.{begins}
use Rattle.vg_change.proofs.prefix.instance_with.Given as goal

abbrev pub invariant-instance : goal.invariant-instance
invariant-instance l = find (λ (name : List ℕ). begins name l.prefix) (take l.at (map (λ (i : Instance). i.name) l.netlist.instances)) ≡ None
