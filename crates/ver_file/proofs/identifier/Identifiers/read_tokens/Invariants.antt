use Rattle.std.proofs.Common.{◌≡◌, ◌++◌, List, length}
use Rattle.ver_syntax.specs.declared.row.Row.{Row}
use Rattle.ver_items.specs.Declarations.{Declared}
use Rattle.ver_file.specs.Firsts.{declared_among}
use Rattle.ver_file.specs.Tables.{AreCounted, AreRead}
use Rattle.ver_file.proofs.ReadLemmas.{declared_left}
use Rattle.ver_file.proofs.identifier.Identifiers.read_tokens.Given as goal

abbrev pub invariant-row : goal.invariant-row
invariant-row g l = record {
  count : AreCounted l.self;
  read :
      (others : List Row) (ds : List Declared) → AreRead l.text ((g.T.Stretch.tokens l.rows) ++ others) ds l.initial.self
      → (done : List Declared) × AreRead l.text ((g.T.Stretch.tokens l.left) ++ others) done l.self × (ds ++ declared_among l.text (g.T.Stretch.tokens l.rows) ≡ done ++ declared_left l.text l.heading (g.T.Stretch.tokens l.left));
}

abbrev pub decreases-row : goal.decreases-row
decreases-row g l = length (g.T.Stretch.tokens l.left)
