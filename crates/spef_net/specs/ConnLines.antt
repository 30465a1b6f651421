-- Lines of connections, as they are read.
use Rattle.std.specs.Prelude.{◌≡◌, ℕ, List, Result, Ok, Err}
use Rattle.spef_net.specs.declared.conn_line.ConnLine.{ConnLine}
use Rattle.spef_net.specs.declared.conn_line.ConnLine.TheVariants.{Joins, Stars}
use Rattle.spef_net.specs.declared.fault.NetKind.{NetKind}
use Rattle.spef_nodes.specs.Spellings.{named_by}
use Rattle.spef_net.specs.Lines.{note_after}
use Rattle.spef_net.specs.Statements.{Stated, Connects, Star}
use Rattle.spef_net.specs.Views.{IsFaultOrMemory, fault_in}

-- what a line says is read, but for its note; or its fault
abbrev pub Tells : Result ConnLine NetKind → List ℕ → Stated → Type 0
Tells (Ok (Joins kind direction node)) line s = s ≡ Ok (Connects kind direction (named_by node) (note_after 3 line))
Tells (Ok (Stars node)) line s = s ≡ Ok (Star (named_by node) (note_after 2 line))
Tells (Err kind) line s = IsFaultOrMemory (fault_in s) kind
