use Rattle.std.proofs.Common.{◌++◌, List, length}
use Rattle.ver_text.specs.declared.kind.Kind.{Kind}
use Rattle.ver_syntax.specs.Reading.{HasKinds, HasKindsBefore}
use Rattle.ver_syntax.specs.Rows.{kinds_in}
use Rattle.ver_syntax.proofs.machine.Machine.read_rows.Given as goal

abbrev pub invariant-phrase : goal.invariant-phrase
invariant-phrase l = record {
  read : (kinds : List Kind) → HasKinds kinds l.initial.self → HasKindsBefore (kinds_in l.left) (kinds ++ kinds_in l.rows) l.self;
}

abbrev pub decreases-phrase : goal.decreases-phrase
decreases-phrase l = length l.left
