use Rattle.std.proofs.Common.{sym, subst}
use Rattle.name_tables.specs.Chains.{AreHalves}
use Rattle.name_tables.proofs.ChainLemmas.{halves_power}
use Rattle.name_tables.proofs.NameTableLemmas.{no_table}
use Rattle.name_tables.proofs.names.Names.with_room.Goals as goal

pub invariant_of-result : goal.invariant_of-result
invariant_of-result c =
    let power = c.next_power_of_two-buckets.ensures.power in
    no_table c.new-texts.result c.in_ok-rows.rows c.next_power_of_two-buckets.result c.new-texts.ensures c.in_ok-rows.ensures.rows c.in_ok-rows.ensures.buckets
    (subst (λ n. AreHalves n) (sym power.1) (halves_power power.0))
