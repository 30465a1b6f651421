use Rattle.std.proofs.Common.{◌≡◌, suc, ◌-◌, ◌∙◌, ap, arith, sym, take, length}
use Rattle.std.proofs.Math.Seq.{take-length}
use Rattle.name_tables.specs.Chains.{bucket_of, buckets_of, count_in, is_in, rows_of}
use Rattle.name_tables.proofs.ChainLemmas.{count_none, count_step}
use Rattle.name_tables.proofs.chains.Chains.is_full.Goals as goal

pub row-init : goal.row-init
row-init c =
    let s = c.args.self.now in
    let rows = rows_of s in
    let buckets = buckets_of s in
    let bucket = bucket_of buckets c.args.hash in
    let leads = c.last-next.ensures in
    let all : count_in buckets rows bucket ≡ count_in buckets (take c.last-next.result rows) bucket =
    ap (λ rs. count_in buckets rs bucket) (sym (take-length rows)) ∙ count_none (is_in buckets bucket) rows c.last-next.result (length rows) leads.within (omega arith) leads.later in
    record {
      within = leads.within;
      here = leads.here;
      counted = omega (arith, all);
      few = omega arith;
    }

pub row-preserved : goal.row-preserved
row-preserved c =
    let s = c.args.self.now in
    let rows = rows_of s in
    let buckets = buckets_of s in
    let bucket = bucket_of buckets c.args.hash in
    let row = c.row.next - 1 in
    let is_row : c.row.next ≡ suc row = omega (arith, c.row-test.true) in
    let there = c.row.invariant.here row is_row in
    let leads = c.link-next.ensures.before bucket there in
    record {
      within = omega (arith, leads.within, c.row.invariant.within, is_row);
      here = leads.here;
      counted = omega (arith, c.row.invariant.counted, count_step buckets rows bucket row c.row.next c.link-next.result.before is_row (omega (arith, c.row.invariant.within, is_row)) there leads);
      few = omega (arith, c.if-count-lt-LONGEST.true);
    }
