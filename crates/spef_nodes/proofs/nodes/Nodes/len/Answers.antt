use Rattle.std.proofs.Common.{ap, arith, length}
use Rattle.std.proofs.lemmas.Int.{clamps}
use Rattle.spef_nodes.proofs.NodeTableLemmas.{nodes_min, noted_count}
use Rattle.spef_nodes.specs.NodeTables.{nodes_in}
use Rattle.spef_nodes.proofs.nodes.Nodes.len.Goals as goal

pub returns : goal.returns
returns c =
    let s = c.self.inside in
    omega (arith, clamps, c.min.ensures, c.len.ensures, c.len-2.ensures, nodes_min s.owners s.leaves, noted_count (nodes_in s.owners s.leaves) s.notes, ap length c.self.view_is)
