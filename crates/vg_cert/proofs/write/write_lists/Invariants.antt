use Rattle.std.proofs.Common.{◌≡◌, ◌++◌, take, drop, length, get_or, false, map, []}
use Rattle.std.specs.Prelude.{flat_map}
use Rattle.std.specs.List.{range_with_len}
use Rattle.vg_cert.specs.Denoted.{both}
use Rattle.vg_cert.specs.Written.{line_text, text_in, node_lines}
use Rattle.vg_cert.proofs.write.write_lists.Given as goal

abbrev pub invariant-node : goal.invariant-node
invariant-node l = record {
  left : l.own-iterator.rest.items ≡ drop l.v l.fn.lists.items;
  text : text_in l.to ≡ text_in l.initial.to ++ flat_map (λ v. flat_map line_text (node_lines l.names v (get_or l.live v false) (get_or (map both l.fn.lists.items) v ([], [])))) (take l.v (range_with_len 0 (length l.live)));
}
