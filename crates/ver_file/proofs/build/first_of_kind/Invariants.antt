use Rattle.std.proofs.Common.{◌≡◌, length}
use Rattle.std.specs.Prelude.{find}
use Rattle.ver_syntax.specs.Grammar.{is}
use Rattle.ver_syntax.specs.Rows.{rows_of}
use Rattle.ver_file.proofs.build.first_of_kind.Given as goal

abbrev pub invariant-row : goal.invariant-row
invariant-row l = record { left : find (λ r. is l.kind r.kind) (rows_of l.text) ≡ find (λ r. is l.kind r.kind) l.rows }

abbrev pub decreases-row : goal.decreases-row
decreases-row l = length l.rows
