use Rattle.std.proofs.Common.{◌≡◌, flat_map}
use Rattle.lib_cells.specs.FirstFlaws.{first_of}
use Rattle.lib_cells.specs.Flaws.{timing_flaws}
use Rattle.lib_cells.proofs.check.first_in_timings.Given as goal

abbrev pub invariant-timing : goal.invariant-timing
invariant-timing l = record {
  left : first_of l.bytes l.first (flat_map (timing_flaws l.units) l.timing-iterator) ≡ first_of l.bytes l.initial.first (flat_map (timing_flaws l.units) l.initial.timing-iterator);
}
