use Rattle.std.proofs.Common.{◌≡◌, ◌≢◌, ◌<◌, ℕ, suc, ◌-◌, true, false, Option, None, Some, List, length, sym, ap, ◌∙◌, subst, arith, IsTrue}
use Rattle.std.specs.Prelude.{IfSome, IfNone, is_some}
use Rattle.std.specs.List.{slice_get}
use Rattle.vg_scan.specs.declared.name.NodeName.{NodeName}
use Rattle.vg_scan.specs.Nodes.{has_node}
use Rattle.name_tables.specs.Chains.{bucket_of, buckets_of, rows_of, LeadsTo}
use Rattle.name_tables.proofs.FiledLemmas.{held, filed_count, walk_begins, walk_turns}
use Rattle.spef_nodes.specs.Members.{node_named}
use Rattle.spef_nodes.specs.NodeTables.{node_hash, nodes_of}
use Rattle.spef_nodes.specs.OrderedNodes.{node_row}
use Rattle.spef_nodes.proofs.NodeTableLemmas.{nodes_count, nodes_get, none_there}
use Rattle.spef_nodes.proofs.node_table.Table.find.Goals as goal

some_is : {A : Type 0} (a b : A) → Some a ≡ Some b → a ≡ b
some_is a b e = cc

pub row-init : goal.row-init
row-init c =
    let s = c.args.self.now in
    let t = c.requires.table in
    let chains = s.rows.chains in
    let kept = node_row s.rows.ordered in
    let nodes = nodes_of s in
    let leads = c.last-next.ensures in
    record {
      within = omega (arith, leads.within, filed_count node_hash kept nodes chains t.rows_are.filed, nodes_count s.owners s.leaves t.even);
      absent = walk_begins node_hash kept (buckets_of chains) nodes chains (node_named c.args.owner.now c.args.leaf.now) c.last-next.result t.rows_are.filed
          (subst (λ h. LeadsTo (buckets_of chains) (rows_of chains) (length (rows_of chains)) (bucket_of (buckets_of chains) h) c.last-next.result) c.requires.hash leads);
      here = leads.here;
    }

pub link-link-requires-clause-row : goal.link-link-requires-clause-row
link-link-requires-clause-row c =
    let s = c.args.self.now in
    let t = c.requires.table in
    omega (arith, c.row-test.true, c.row.invariant.within, filed_count node_hash (node_row s.rows.ordered) (nodes_of s) s.rows.chains t.rows_are.filed, nodes_count s.owners s.leaves t.even)

pub is_named-requires-clause-held : goal.is_named-requires-clause-held
is_named-requires-clause-held c =
    let s = c.args.self.now in
    let t = c.requires.table in
    let chains = s.rows.chains in
    let row = c.row.next - 1 in
    let is_row : c.row.next ≡ suc row = omega (arith, c.row-test.true) in
    let low : row < length s.owners = omega (arith, is_row, c.row.invariant.within) in
    held node_hash (node_row s.rows.ordered) (nodes_of s) chains row c.link-link.result.hash _ t.rows_are.filed
    (c.link-link.ensures.hash (bucket_of (buckets_of chains) c.args.hash) (c.row.invariant.here row is_row))
    (nodes_get s.owners s.leaves row low (omega (arith, low, t.even)))

pub row-preserved : goal.row-preserved
row-preserved c =
    let s = c.args.self.now in
    let t = c.requires.table in
    let chains = s.rows.chains in
    let buckets = buckets_of chains in
    let nodes = nodes_of s in
    let node = node_named c.args.owner.now c.args.leaf.now in
    let row = c.row.next - 1 in
    let is_row : c.row.next ≡ suc row = omega (arith, c.row-test.true) in
    let low : row < length s.owners = omega (arith, is_row, c.row.invariant.within) in
    let leads = c.link-link.ensures.before (bucket_of buckets c.args.hash) (c.row.invariant.here row is_row) in
    let is = nodes_get s.owners s.leaves row low (omega (arith, low, t.even)) in
    let other : slice_get nodes row ≢ Some node =
    λ same. let there : IsTrue c.is_named.result = c.is_named.ensures.1 (some_is _ node (sym is ∙ same)) in let clash : true ≡ false = sym there ∙ c.if-is_named.false in cc in
    record {
      within = omega (arith, leads.within, is_row, c.row.invariant.within);
      absent = walk_turns node_hash (node_row s.rows.ordered) buckets nodes chains node c.row.next row c.link-link.result.before t.rows_are.filed is_row
          (subst (λ h. LeadsTo buckets (rows_of chains) row (bucket_of buckets h) c.link-link.result.before) c.requires.hash leads) other c.row.invariant.absent;
      here = leads.here;
    }

pub returns-then-is_named-clause-found : goal.returns-then-is_named-clause-found
returns-then-is_named-clause-found c =
    let s = c.args.self.now in
    let row = c.row.next - 1 in
    let low : row < length s.owners = omega (arith, c.row-test.true, c.row.invariant.within) in
    nodes_get s.owners s.leaves row low (omega (arith, low, c.requires.table.even)) ∙ ap Some (c.is_named.ensures.0 c.if-is_named.true)

none_is : (r kept : Option ℕ) (nodes : List NodeName) (node : NodeName) → r ≡ kept → (is_some kept ≡ false → (row : ℕ) → slice_get nodes row ≢ Some node) → IfNone r (has_node nodes node ≡ false)
none_is None kept nodes node e h = none_there nodes node (h (ap is_some (sym e)))
none_is (Some row) kept nodes node e h = tt

pub returns-clause-found : goal.returns-clause-found
returns-clause-found c =
    let node = node_named c.args.owner.now c.args.leaf.now in
    subst (λ r. IfSome r (λ row. slice_get (nodes_of c.args.self.now) row ≡ Some node)) (sym c.find.ensures) (c.requires.table.rows_are.filed.ordered node)

pub returns-clause-absent : goal.returns-clause-absent
returns-clause-absent c =
    let node = node_named c.args.owner.now c.args.leaf.now in
    none_is c.find.result (node_row c.args.self.now.rows.ordered node) (nodes_of c.args.self.now) node c.find.ensures (λ unkept row. c.row.invariant.absent row (omega (arith, c.row-test.false)) unkept)
