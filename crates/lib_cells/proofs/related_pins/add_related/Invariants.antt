use Rattle.std.proofs.Common.{◌≡◌, fold}
use Rattle.name_tables.specs.Distinct.{with_name}
use Rattle.lib_cells.proofs.related_pins.add_related.Given as goal

abbrev pub invariant-word : goal.invariant-word
invariant-word l = record { left : fold with_name l.names l.word-iterator ≡ fold with_name l.initial.names l.initial.word-iterator }
