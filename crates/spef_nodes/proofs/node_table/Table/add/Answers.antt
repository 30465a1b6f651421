use Rattle.std.proofs.Common.{◌≡◌, ◌<◌, ℕ, List, [], ◌∷◌, ◌++◌, length, length-append, ap, arith}
use Rattle.vg_scan.specs.declared.name.NodeName.{NodeName}
use Rattle.name_tables.proofs.FiledLemmas.{filed_count}
use Rattle.spef_nodes.specs.Members.{node_named}
use Rattle.spef_nodes.specs.NodeTables.{nodes_in, nodes_of, node_hash}
use Rattle.spef_nodes.specs.OrderedNodes.{node_row}
use Rattle.spef_nodes.proofs.NodeTableLemmas.{nodes_back, nodes_count, not_there, table_of}
use Rattle.spef_nodes.proofs.node_table.Table.add.Goals as goal

-- where a node was put last there is one
some_last : (owners leaves : List (List ℕ)) (nodes : List NodeName) (node : NodeName) → length owners ≡ length leaves → nodes_in owners leaves ≡ nodes ++ node ∷ [] → 0 < length owners
some_last owners leaves nodes node even is = omega (arith, nodes_count owners leaves even, ap length is, length-append nodes (node ∷ []))

pub push-requires-clause-few : goal.push-requires-clause-few
push-requires-clause-few c =
    let s = c.args.self.now in
    let t = c.requires.table in
    omega (arith, filed_count node_hash (node_row s.rows.ordered) (nodes_of s) s.rows.chains t.rows_are.filed, nodes_count s.owners s.leaves t.even, c.len-count.ensures, c.if-count-ge4294967295.false)

pub pop-requires : goal.pop-requires
pop-requires c =
    some_last c.add_name.new.owners c.add_name.new.leaves (nodes_of c.args.self.now) (node_named c.args.owner.now c.args.leaf.now) c.add_name.ensures.even c.in_ok-add_name.ensures.last

pub pop-requires-in-Err : goal.pop-requires-in-Err
pop-requires-in-Err c =
    let some = some_last c.add_name.new.owners c.add_name.new.leaves (nodes_of c.args.self.now) (node_named c.args.owner.now c.args.leaf.now) c.add_name.ensures.even c.in_ok-add_name.ensures.last in
    omega (arith, some, c.add_name.ensures.even)

pub returns-in-Ok-clause-table : goal.returns-in-Ok-clause-table
returns-in-Ok-clause-table c =
    let s = c.args.self.now in
    let t = c.requires.table in
    let node = node_named c.args.owner.now c.args.leaf.now in
    table_of c.add_name.new.owners c.add_name.new.leaves (nodes_of s ++ node ∷ []) c.push.new.self (omega (arith, t.some, c.push.ensures.buckets)) c.add_name.ensures.even c.in_ok-add_name.ensures.last
    (c.in-Ok.ensures.last (nodes_of s) t.rows_are (not_there (nodes_of s) node c.requires.new))

pub returns-in-Ok-clause-number : goal.returns-in-Ok-clause-number
returns-in-Ok-clause-number c =
    let s = c.args.self.now in
    omega (arith, nodes_count s.owners s.leaves c.requires.table.even, c.len-count.ensures)

pub returns-in-Err-clause-table : goal.returns-in-Err-clause-table
returns-in-Err-clause-table c =
    let s = c.args.self.now in
    let t = c.requires.table in
    let back = nodes_back c.add_name.new.owners c.add_name.new.leaves c.pop.new.self c.pop-in-Err.new.self (nodes_of s) (node_named c.args.owner.now c.args.leaf.now) c.add_name.ensures.even c.in_ok-add_name.ensures.last
    c.pop.ensures c.pop-in-Err.ensures in
    table_of c.pop.new.self c.pop-in-Err.new.self (nodes_of s) c.push.new.self (omega (arith, t.some, c.push.ensures.buckets)) back.0 back.1 (c.in-Err.ensures.unchanged (nodes_of s) t.rows_are)

pub returns-in-Err-clause-unchanged : goal.returns-in-Err-clause-unchanged
returns-in-Err-clause-unchanged c =
    let back = nodes_back c.add_name.new.owners c.add_name.new.leaves c.pop.new.self c.pop-in-Err.new.self (nodes_of c.args.self.now) (node_named c.args.owner.now c.args.leaf.now)
    c.add_name.ensures.even c.in_ok-add_name.ensures.last c.pop.ensures c.pop-in-Err.ensures in
    back.1
