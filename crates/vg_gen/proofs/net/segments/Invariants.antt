use Rattle.std.proofs.Common.{◌≡◌, ◌*◌, map}
use Rattle.vg_gen.specs.Random.{random}
use Rattle.vg_gen.specs.Nets.{up_to, segment}
use Rattle.vg_gen.proofs.net.segments.Given as goal

abbrev pub invariant-segment : goal.invariant-segment
invariant-segment l = record {
  drawn : l.last ≡ random l.size (2 * l._i);
  made : l.line.items ≡ map (segment l.size) (up_to l._i);
}
