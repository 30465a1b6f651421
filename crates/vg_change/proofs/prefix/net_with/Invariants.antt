use Rattle.std.proofs.Common.{◌≡◌, ℕ, ◌-◌, List, length, map, take, find, None}
use Rattle.ver_module.specs.Netlists.{Net}
use Rattle.vg_change.specs.Named.{begins}
use Rattle.vg_change.proofs.prefix.net_with.Given as goal

abbrev pub invariant-net : goal.invariant-net
invariant-net l = find (λ (name : List ℕ). begins name l.prefix) (take l.at (map (λ (n : Net). n.name) l.netlist.nets)) ≡ None

abbrev pub decreases-net : goal.decreases-net
decreases-net l = length l.netlist.nets - l.at
