use Rattle.std.proofs.Common.{◌≡◌, ◌≢◌, ℕ, suc, ◌≤◌, true, false, length, Some}
use Rattle.std.specs.Prelude.{is_some}
use Rattle.std.specs.List.{slice_get}
use Rattle.name_tables.specs.Chains.{bucket_of, buckets_of, hash_at, is_in, rows_of}
use Rattle.spef_nodes.specs.Members.{node_named}
use Rattle.spef_nodes.specs.NodeTables.{nodes_of}
use Rattle.spef_nodes.specs.OrderedNodes.{node_row}
use Rattle.spef_nodes.proofs.node_table.Table.find.Given as goal

abbrev pub invariant-row : goal.invariant-row
invariant-row l =
    let chains = l.self.rows.chains in
    let node = node_named l.owner l.leaf in
    record {
      within : l.next ≤ length l.self.owners;
      absent : (row : ℕ) → l.next ≤ row → is_some (node_row l.self.rows.ordered node) ≡ false → slice_get (nodes_of l.self) row ≢ Some node;
      here : (row : ℕ) → l.next ≡ suc row → is_in (buckets_of chains) (bucket_of (buckets_of chains) l.hash) (hash_at (rows_of chains) row) ≡ true;
    }

abbrev pub decreases-row : goal.decreases-row
decreases-row l = l.next
