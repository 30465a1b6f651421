use Rattle.std.proofs.Common.{◌≡◌, ◌+◌, ◌++◌, false, length}
use Rattle.std.specs.List.{list_any}
use Rattle.ver_text.specs.declared.kind.Kind.TheVariants.{Semicolon}
use Rattle.ver_syntax.specs.Grammar.{is}
use Rattle.ver_items.proofs.items.read_part.Given as goal

abbrev pub invariant-row : goal.invariant-row
invariant-row l = record {
  cut : l.initial.rows ≡ l.part.items ++ l.rows;
  none : list_any (λ r. is Semicolon r.kind) l.part.items ≡ false;
  count : l._turn + length l.rows ≡ length l.initial.rows;
}
