use Rattle.std.proofs.Common.{◌≡◌, ◌++◌, map}
use Rattle.lib_cells.proofs.pin_rows.push_names.Given as goal

abbrev pub invariant-name : goal.invariant-name
invariant-name l = record {
  names : l.names ++ l.name-iterator ≡ l.initial.names ++ l.initial.name-iterator;
  numbers : l.numbers.items ++ map (λ _. l.number) l.name-iterator ≡ l.initial.numbers.items ++ map (λ _. l.number) l.initial.name-iterator;
}
