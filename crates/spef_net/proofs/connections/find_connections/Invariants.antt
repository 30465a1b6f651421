use Rattle.std.proofs.Common.{◌≡◌, ◌≤◌, ◌-◌, drop, length, []}
use Rattle.std.specs.List.{fold}
use Rattle.std.specs.Str.Lines.{lines}
use Rattle.spef_file.specs.IndexFiles.{file_of}
use Rattle.spef_nodes.specs.Members.{with_node}
use Rattle.spef_net.specs.Statements.{statements, statements_from}
use Rattle.spef_net.specs.Rows.{connected_of}
use Rattle.spef_net.proofs.connections.find_connections.Given as goal

abbrev pub invariant-line : goal.invariant-line
invariant-line l = record {
  within : l.at ≤ length l.bytes;
  rest : fold with_node l.nodes (connected_of (statements_from (file_of l.index) l.part (lines (drop l.at l.bytes)))) ≡ fold with_node [] (connected_of (statements (file_of l.index) (lines l.bytes)));
}

abbrev pub decreases-line : goal.decreases-line
decreases-line l = length l.bytes - l.at
