use Rattle.std.proofs.Common.{◌≡◌, take}
use Rattle.vg_design.specs.Designs.{ends_of}
use Rattle.vg_design.proofs.ends.table_of.Given as goal

abbrev pub invariant-end : goal.invariant-end
invariant-end l = l.table ≡ take l.at (ends_of l.net)
