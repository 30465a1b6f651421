-- The rows of some lines, and of one line more: for the functions between; what the crate promises does not rest on it.
use Rattle.std.specs.Prelude.{◌++◌, [], ◌∷◌, Some, None, Result, Ok, Err}
use Rattle.std.specs.Option.{option_or}
use Rattle.vg_cons.specs.declared.fault.ConsKind.{ConsKind}
use Rattle.vg_cons.specs.Lines.{Line, heading_of}
use Rattle.vg_cons.specs.Statements.{Statement, default, required, arrival, want, drive, load, block, allow, block_box, statement_of}
use Rattle.vg_cons.specs.Rows.{Rows}

abbrev pub no_rows : Rows
no_rows =
    record { format = None; default = None; required = []; arrival = []; want = []; drive = []; load = []; block = []; allow = []; boxes = [] }

-- one row more, last of its kind; a default that is there stays
abbrev pub with_row : Rows → Statement → Rows
with_row rows (default t) = record rows { default = option_or rows.default (Some t) }
with_row rows (required row) = record rows { required = rows.required ++ row ∷ [] }
with_row rows (arrival row) = record rows { arrival = rows.arrival ++ row ∷ [] }
with_row rows (want pin) = record rows { want = rows.want ++ pin ∷ [] }
with_row rows (drive row) = record rows { drive = rows.drive ++ row ∷ [] }
with_row rows (load row) = record rows { load = rows.load ++ row ∷ [] }
with_row rows (block node) = record rows { block = rows.block ++ node ∷ [] }
with_row rows (allow row) = record rows { allow = rows.allow ++ row ∷ [] }
with_row rows (block_box box) = record rows { boxes = rows.boxes ++ box ∷ [] }

abbrev pub with_statement : Rows → Result Statement ConsKind → Rows
with_statement rows (Ok statement) = with_row rows statement
with_statement rows (Err _) = rows

-- what one line more gives; a version that is there stays
abbrev pub with_line : Rows → Line → Rows
with_line rows line =
    record (with_statement rows (statement_of line)) { format = option_or rows.format (heading_of line) }
