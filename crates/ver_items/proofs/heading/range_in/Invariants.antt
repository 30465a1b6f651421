use Rattle.std.proofs.Common.{◌≡◌, ◌++◌, filter, length, map, option_to_list}
use Rattle.ver_syntax.specs.Grammar.{is_digits}
use Rattle.ver_items.specs.Declarations.{numbers_in, range_of}
use Rattle.ver_items.specs.Sections.{number_at}
use Rattle.ver_items.proofs.heading.range_in.Given as goal

abbrev pub invariant-row : goal.invariant-row
invariant-row g l = record {
  left :
      range_of (numbers_in l.text l.declaration)
      ≡ range_of (option_to_list l.first ++ map (number_at l.text) (filter (λ r. is_digits r.kind) (g.T.Stretch.tokens l.left)));
}

abbrev pub decreases-row : goal.decreases-row
decreases-row g l = length (g.T.Stretch.tokens l.left)
