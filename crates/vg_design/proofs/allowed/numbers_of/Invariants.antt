use Rattle.std.proofs.Common.{◌≡◌, [], filter, slice_index_or}
use Rattle.std.specs.List.{list_any, range_with_len}
use Rattle.std.specs.Str.{bytes_eq}
use Rattle.vg_design.specs.Parts.{cells_of}
use Rattle.vg_design.proofs.allowed.numbers_of.Given as goal

abbrev pub invariant-repeater : goal.invariant-repeater
invariant-repeater l = l.numbers.items ≡ filter (λ b. list_any (bytes_eq (slice_index_or (cells_of l.repeaters) b [])) l.cells) (range_with_len 0 l.at)
