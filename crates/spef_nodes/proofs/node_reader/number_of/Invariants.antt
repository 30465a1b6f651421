use Rattle.std.proofs.Common.{◌≡◌, true, take}
use Rattle.std.specs.List.{list_all}
use Rattle.vg_num.specs.Number.{is_digit, value_of}
use Rattle.spef_nodes.proofs.node_reader.number_of.Given as goal

abbrev pub invariant-digit : goal.invariant-digit
invariant-digit l = record {
  value : l.number ≡ value_of (take l.byte-index l.text);
  digits : list_all is_digit (take l.byte-index l.text) ≡ true;
}
