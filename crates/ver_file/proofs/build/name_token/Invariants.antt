use Rattle.std.proofs.Common.{◌≡◌, length}
use Rattle.std.specs.Prelude.{find}
use Rattle.ver_syntax.specs.declared.row.Place.TheVariants.{Head}
use Rattle.ver_syntax.specs.Rows.{rows_of}
use Rattle.ver_items.specs.Sections.{is_name_in}
use Rattle.ver_file.proofs.build.name_token.Given as goal

abbrev pub invariant-row : goal.invariant-row
invariant-row l = record { left : find (is_name_in Head) (rows_of l.text) ≡ find (is_name_in Head) l.rows }

abbrev pub decreases-row : goal.decreases-row
decreases-row l = length l.rows
