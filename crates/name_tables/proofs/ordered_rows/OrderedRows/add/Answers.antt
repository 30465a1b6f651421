use Rattle.std.proofs.Common.{Some, ap, ◌∙◌, cond}
use Rattle.std.specs.Str.{bytes_eq}
use Rattle.name_tables.specs.OrderedRows.{row_kept}
use Rattle.name_tables.proofs.OrderedRowLemmas.{updated}
use Rattle.name_tables.proofs.ordered_rows.OrderedRows.add.Goals as goal

pub returns-clause-added : goal.returns-clause-added
unfolding row_kept
returns-clause-added c = λ other.
    updated c.args.self.now.rows c.insert.new.self c.in_ok-text.text c.args.row c.in-Ok.ensures.updates other
    ∙ ap (λ text. cond (bytes_eq text other) (Some c.args.row) (row_kept c.args.self.now other)) c.in_ok-text.ensures.items
