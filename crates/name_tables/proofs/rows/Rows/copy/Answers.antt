use Rattle.name_tables.specs.Hashes.{hash_of}
use Rattle.name_tables.specs.OrderedRows.{row_kept}
use Rattle.name_tables.proofs.FiledLemmas.{filed_same}
use Rattle.name_tables.proofs.rows.Rows.copy.Goals as goal

pub returns-clause-rows : goal.returns-clause-rows
returns-clause-rows c names h =
    filed_same hash_of (row_kept c.args.self.now.ordered) (row_kept c.in_ok-ordered.ordered) names c.args.self.now.chains c.in_ok-chains.chains h c.in_ok-chains.ensures.chains
    c.in_ok-chains.ensures.rows c.in_ok-ordered.ensures
