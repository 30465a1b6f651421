use Rattle.std.proofs.Common.{refl, arith, Result, Ok, Err}
use Rattle.std.specs.Prelude.{OnOk, OnErr}
use Rattle.name_tables.specs.Hashes.{hash_of}
use Rattle.name_tables.specs.OrderedRows.{row_kept}
use Rattle.name_tables.proofs.FiledLemmas.{filed_count, filed_same}
use Rattle.name_tables.proofs.NameTableLemmas.{table_double, table_same}
use Rattle.name_tables.proofs.names.make_room.Goals as goal

pub double-requires-clause-few : goal.double-requires-clause-few
double-requires-clause-few c =
    let rows = c.args.rows.now in
    omega (arith, c.requires.few, filed_count hash_of (row_kept rows.ordered) c.args.texts.now rows.chains c.requires.table.filed)

either : {T E P Q C : Type 0} (r : Result T E) → OnOk r P → OnErr r Q → (P → C) → (Q → C) → C
either (Ok x) p q f g = f p
either (Err e) p q f g = g q

pub returns-then-count-gt0-clause-table : goal.returns-then-count-gt0-clause-table
returns-then-count-gt0-clause-table c =
    let old = c.args.rows.now in
    let names = c.args.texts.now in
    let table = c.requires.table in
    let kept = row_kept old.ordered in
    let filed = filed_same hash_of kept kept names old.chains c.double.new.self table.filed c.double.ensures.chains c.double.ensures.rows (λ key. refl) in
    either c.double.result c.double.ensures.doubled c.double.ensures.unchanged (table_double names old _ table filed) (table_same names old _ table filed)
