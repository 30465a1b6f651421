use Rattle.std.proofs.Common.{◌≡◌, ◌≢◌, ℕ, suc, ◌-◌, [], true, false, Option, None, Some, List, length, sym, ap, ◌∙◌, subst, arith, IsTrue}
use Rattle.std.specs.Prelude.{IfSome, IfNone, is_some}
use Rattle.std.specs.List.{slice_get}
use Rattle.std.proofs.lemmas.Option.{slice_get-get_or, get_or_from_slice_get}
use Rattle.name_tables.specs.Chains.{bucket_of, buckets_of, rows_of, LeadsTo}
use Rattle.name_tables.specs.Hashes.{hash_of}
use Rattle.name_tables.specs.OrderedRows.{row_kept}
use Rattle.name_tables.proofs.FiledLemmas.{held, filed_count, walk_begins, walk_turns}
use Rattle.name_tables.proofs.rows.Rows.find.Goals as goal

pub row-init : goal.row-init
row-init c =
    let s = c.args.self.now in
    let kept = row_kept s.ordered in
    let texts = c.args.texts.now in
    let rows = rows_of s.chains in
    let buckets = buckets_of s.chains in
    let leads = c.last-next.ensures in
    record {
      within = omega (arith, leads.within, filed_count hash_of kept texts s.chains c.requires.rows);
      absent = walk_begins hash_of kept buckets texts s.chains c.args.name.now c.last-next.result c.requires.rows
          (subst (λ h. LeadsTo buckets rows (length rows) (bucket_of buckets h) c.last-next.result) c.requires.hash leads);
      here = leads.here;
    }

pub link-link-requires-clause-row : goal.link-link-requires-clause-row
link-link-requires-clause-row c =
    let s = c.args.self.now in
    omega (arith, c.row-test.true, c.row.invariant.within, filed_count hash_of (row_kept s.ordered) c.args.texts.now s.chains c.requires.rows)

pub is_named-requires-clause-held : goal.is_named-requires-clause-held
is_named-requires-clause-held c =
    let s = c.args.self.now in
    let texts = c.args.texts.now in
    let row = c.row.next - 1 in
    let is_row : c.row.next ≡ suc row = omega (arith, c.row-test.true) in
    let holds = c.link-link.ensures.hash (bucket_of (buckets_of s.chains) c.args.hash) (c.row.invariant.here row is_row) in
    held hash_of (row_kept s.ordered) texts s.chains row c.link-link.result.hash _ c.requires.rows holds (slice_get-get_or texts row [] (omega (arith, is_row, c.row.invariant.within)))

pub row-preserved : goal.row-preserved
row-preserved c =
    let s = c.args.self.now in
    let kept = row_kept s.ordered in
    let texts = c.args.texts.now in
    let buckets = buckets_of s.chains in
    let row = c.row.next - 1 in
    let is_row : c.row.next ≡ suc row = omega (arith, c.row-test.true) in
    let leads = c.link-link.ensures.before (bucket_of buckets c.args.hash) (c.row.invariant.here row is_row) in
    let other : slice_get texts row ≢ Some c.args.name.now =
    λ same. let yes' : IsTrue c.is_named.result = c.is_named.ensures.1 (get_or_from_slice_get texts row c.args.name.now [] same) in let clash : true ≡ false = sym yes' ∙ c.if-is_named.false in cc in
    record {
      within = omega (arith, leads.within, is_row, c.row.invariant.within);
      absent = walk_turns hash_of kept buckets texts s.chains c.args.name.now c.row.next row c.link-link.result.before c.requires.rows is_row
          (subst (λ h. LeadsTo buckets (rows_of s.chains) row (bucket_of buckets h) c.link-link.result.before) c.requires.hash leads) other c.row.invariant.absent;
      here = leads.here;
    }

pub returns-then-is_named-clause-found : goal.returns-then-is_named-clause-found
returns-then-is_named-clause-found c =
    let row = c.row.next - 1 in
    slice_get-get_or c.args.texts.now row [] (omega (arith, c.row-test.true, c.row.invariant.within)) ∙ ap Some (c.is_named.ensures.0 c.if-is_named.true)

none_is : (r kept : Option ℕ) (texts : List (List ℕ)) (name : List ℕ) → r ≡ kept → (is_some kept ≡ false → (row : ℕ) → slice_get texts row ≢ Some name) → IfNone r ((row : ℕ) → slice_get texts row ≢ Some name)
none_is None kept texts name e h = h (ap is_some (sym e))
none_is (Some row) kept texts name e h = tt

pub returns-clause-found : goal.returns-clause-found
returns-clause-found c = subst (λ r. IfSome r (λ row. slice_get c.args.texts.now row ≡ Some c.args.name.now)) (sym c.find.ensures) (c.requires.rows.ordered c.args.name.now)

pub returns-clause-absent : goal.returns-clause-absent
returns-clause-absent c = none_is c.find.result _ c.args.texts.now c.args.name.now c.find.ensures (λ unkept row. c.row.invariant.absent row (omega (arith, c.row-test.false)) unkept)
