use Rattle.std.proofs.Common.{◌≡◌, ◌++◌, take, length, None, slice_index_or}
use Rattle.std.specs.Prelude.{flat_map}
use Rattle.std.specs.List.{range_with_len}
use Rattle.vg_cert.specs.Written.{line_text, text_in, cell_lines}
use Rattle.vg_cert.proofs.write.write_cells.Given as goal

abbrev pub invariant-node : goal.invariant-node
invariant-node l = text_in l.to ≡ text_in l.initial.to ++ flat_map (λ v. flat_map line_text (cell_lines l.names v (slice_index_or l.cells v None))) (take l.v (range_with_len 0 (length l.cells)))
