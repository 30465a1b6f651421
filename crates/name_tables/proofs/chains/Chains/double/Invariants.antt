use Rattle.std.proofs.Common.{◌≡◌, ◌*◌, take}
use Rattle.name_tables.specs.Chains.{AreLinks, buckets_of, rows_of}
use Rattle.name_tables.proofs.chains.Chains.double.Given as goal

abbrev pub invariant-row : goal.invariant-row
invariant-row l = record {
  linked : AreLinks (buckets_of l.self) l.self.lasts.items (take l.row l.self.links.items);
  rows : rows_of l.self ≡ rows_of l.fn.self;
  buckets : buckets_of l.self ≡ 2 * buckets_of l.fn.self;
}
