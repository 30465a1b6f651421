use Rattle.std.proofs.Common.{refl}
use Rattle.name_tables.proofs.NameTableLemmas.{no_table}
use Rattle.name_tables.proofs.names.Names.new.Goals as goal

pub invariant_of-result : goal.invariant_of-result
invariant_of-result c = no_table c.new.result c.empty.result 0 c.new.ensures c.empty.ensures.rows c.empty.ensures.buckets refl
