use Rattle.std.proofs.Common.{◌≡◌, length}
use Rattle.ver_items.specs.Connections.{end_of, start_of}
use Rattle.ver_items.proofs.SpanLemmas.{last_end}
use Rattle.ver_items.proofs.connection.span_of.Given as goal

abbrev pub invariant-row : goal.invariant-row
invariant-row g l = record {
  ends :
      last_end l.to (g.T.Stretch.tokens l.left)
      ≡ end_of (start_of (g.T.Stretch.tokens l.connection)) (g.T.Stretch.tokens l.connection);
}

abbrev pub decreases-row : goal.decreases-row
decreases-row g l = length (g.T.Stretch.tokens l.left)
