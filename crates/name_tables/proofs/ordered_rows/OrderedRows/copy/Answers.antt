use Rattle.name_tables.specs.OrderedRows.{row_kept}
use Rattle.name_tables.proofs.OrderedRowLemmas.{copied}
use Rattle.name_tables.proofs.ordered_rows.OrderedRows.copy.Goals as goal

pub returns : goal.returns
unfolding row_kept
returns c = copied _ (λ x y e. e) c.args.self.now.rows c.in_ok-rows.rows c.in_ok-rows.ensures.cases
