use Rattle.std.proofs.Common.{◌≡◌, drop}
use Rattle.std.specs.List.{find}
use Rattle.std.specs.Str.{bytes_eq}
use Rattle.vg_retime.specs.Passages.{repeater_of}
use Rattle.vg_retime.proofs.passages.repeater_of.Given as goal

abbrev pub invariant-repeater : goal.invariant-repeater
invariant-repeater l = repeater_of l.design.library l.cell ≡ find (λ r. bytes_eq l.cell r.cell) (drop l.repeater-index l.repeaters)
