use Rattle.std.proofs.Common.{◌≡◌, ◌<◌, ◌^◌, take}
use Rattle.std.specs.List.{fold}
use Rattle.spef_nodes.specs.NodeTables.{hash_with}
use Rattle.spef_nodes.proofs.node_table.hash_of.Given as goal

abbrev pub invariant-byte : goal.invariant-byte
invariant-byte l = record {
  hash : l.hash ≡ fold hash_with 0 (take l.byte-index l.text);
  within : l.hash < 2 ^ 32;
}
