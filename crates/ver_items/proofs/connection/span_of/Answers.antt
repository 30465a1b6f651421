use Rattle.ver_items.specs.Connections.{start_of}
use Rattle.ver_items.proofs.SpanLemmas.{ends_with_last}
use Rattle.ver_items.proofs.connection.span_of.Goals as goal

pub row-init : goal.row-init
row-init g c =
    let rows = g.T.Stretch.tokens c.args.connection.now in
    record { ends = rw (c.start_of-from.ensures, c.expression_in-left.ensures) (ends_with_last (start_of rows) rows) }
