-- What the code's values stand for, and what may come when out of memory: for the functions between.
use Rattle.std.specs.Prelude.{◌≡◌, Bool, true, is_some, Option, Some, None, Result, Ok, Err, if◌then◌else◌}
use Rattle.vg_num.specs.declared.memory.Memory.{Memory as NoRoom}
use Rattle.vg_cons.specs.declared.fault.ConsKind.{ConsKind}
use Rattle.vg_cons.specs.declared.fault.ConsKind.TheVariants.{Version, Word, Number, Twice, Memory}
use Rattle.vg_cons.specs.declared.format.Format.{Format}
use Rattle.vg_cons.specs.declared.row.Row.{Row}
use Rattle.vg_cons.specs.declared.row.Row.TheVariants.{Default, Required, Arrival, Want, Drive, Load, Block, Allow, BlockBox}
use Rattle.vg_cons.specs.Lines.{Line}
use Rattle.vg_cons.specs.Statements.{Statement, default, required, arrival, want, drive, load, block, allow, block_box, statement_of}
use Rattle.vg_cons.specs.Rows.{Rows}
use Rattle.vg_cons.specs.Growth.{with_row, with_statement, with_line}
use Rattle.vg_cons.specs.Faults.{fault_of_statement, fault_of_words, fault_after}

abbrev pub as_statement : Row → Statement
as_statement (Default t) = default t
as_statement (Required pin t) = required (pin, t)
as_statement (Arrival pin t) = arrival (pin, t)
as_statement (Want pin) = want pin
as_statement (Drive port r) = drive (port, r)
as_statement (Load port c) = load (port, c)
as_statement (Block node) = block node
as_statement (Allow node cells) = allow (node, cells.items)
as_statement (BlockBox box) = block_box box

-- this fault, or out of memory
abbrev pub IsFaultOrMemory : Option ConsKind → ConsKind → Type 0
IsFaultOrMemory fault Memory = Unit {0}
IsFaultOrMemory fault Version = fault ≡ Some Version
IsFaultOrMemory fault Word = fault ≡ Some Word
IsFaultOrMemory fault Twice = fault ≡ Some Twice
IsFaultOrMemory fault (Number f) = fault ≡ Some (Number f)

abbrev pub fault_in : {A : Type 0} → Result A ConsKind → Option ConsKind
fault_in (Ok _) = None
fault_in (Err kind) = Some kind

-- an answer that stands for what is defined, or out of memory
abbrev pub Agrees : {A B : Type 0} → (A → B) → Result A ConsKind → Result B ConsKind → Type 0
Agrees view (Ok x) s = s ≡ Ok (view x)
Agrees view (Err kind) s = IsFaultOrMemory (fault_in s) kind

-- what inserting where a name is new says of the row
abbrev pub added_as : Result Bool NoRoom → Result (Unit {0}) ConsKind
added_as (Ok fresh) = if fresh then Ok tt else Err Twice
added_as (Err _) = Err Memory

-- what storing says of a row that may be given again
abbrev pub stored_as : Result (Unit {0}) NoRoom → Result (Unit {0}) ConsKind
stored_as (Ok _) = Ok tt
stored_as (Err _) = Err Memory

-- the version that a heading names is taken, or it names none
abbrev pub Begins : Result (Unit {0}) ConsKind → Rows → Rows → Option Format → Type 0
Begins (Ok _) old new heading = (is_some heading ≡ true) × (new ≡ record old { format = heading })
Begins (Err kind) old new heading = (heading ≡ None) × (kind ≡ Version)

-- a row is added that was not there, or it was there
abbrev pub Adds : Result (Unit {0}) ConsKind → Rows → Rows → Statement → Type 0
Adds (Ok _) old new statement = (fault_of_statement old (Ok statement) ≡ None) × (new ≡ with_row old statement)
Adds (Err kind) old new statement = IsFaultOrMemory (fault_of_statement old (Ok statement)) kind

-- a line with words is taken in a text of a version: the row that it states is added, or it has a fault
abbrev pub TakesRow : Result (Unit {0}) ConsKind → Format → Rows → Rows → Line → Type 0
TakesRow (Ok _) format old new line =
    (fault_of_words (Some format) old line ≡ None) × (new ≡ with_statement old (statement_of line))
TakesRow (Err kind) format old new line = IsFaultOrMemory (fault_of_words (Some format) old line) kind

-- a line is taken after others: what it gives is added, or it has a fault
abbrev pub Takes : Result (Unit {0}) ConsKind → Rows → Rows → Line → Type 0
Takes (Ok _) old new line = (fault_after old line ≡ None) × (new ≡ with_line old line)
Takes (Err kind) old new line = IsFaultOrMemory (fault_after old line) kind
