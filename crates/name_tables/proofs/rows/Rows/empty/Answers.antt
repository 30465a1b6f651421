use Rattle.std.proofs.Common.{refl}
use Rattle.name_tables.specs.Hashes.{hash_of}
use Rattle.name_tables.specs.OrderedRows.{row_kept}
use Rattle.name_tables.proofs.FiledLemmas.{filed_none}
use Rattle.name_tables.proofs.rows.Rows.empty.Goals as goal

pub returns-clause-rows : goal.returns-clause-rows
returns-clause-rows c = filed_none hash_of (row_kept c.new.result) _ c.empty.result refl c.empty.ensures.chains c.empty.ensures.rows c.new.ensures
