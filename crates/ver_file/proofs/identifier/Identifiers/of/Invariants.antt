use Rattle.std.proofs.Common.{◌≡◌, ◌++◌, List, IfSome, length}
use Rattle.std.specs.List.{flat_map}
use Rattle.ver_text.specs.declared.kind.Kind.{Kind}
use Rattle.ver_text.specs.Kinds.{kinds_of}
use Rattle.ver_syntax.specs.Reading.{HasKinds}
use Rattle.ver_syntax.specs.Rows.{kinds_in}
use Rattle.ver_items.specs.Declarations.{Declared, declared_by, declared_of}
use Rattle.ver_items.specs.Sections.{items}
use Rattle.ver_items.specs.SectionSteps.{rows_in}
use Rattle.ver_file.specs.Tables.{AreCounted, AreRead}
use Rattle.ver_file.proofs.identifier.Identifiers.of.Given as goal

abbrev pub invariant-item : goal.invariant-item
invariant-item l = record {
  count : AreCounted l.found;
  read : (done : List Declared) × AreRead l.text (rows_in l.items) done l.found × (declared_of l.text ≡ done ++ flat_map (declared_by l.text) l.items);
  kept : IfSome l.kept (λ k. items l.text ≡ k ++ l.items);
  kinds : (kinds : List Kind) × HasKinds kinds l.machine × (kinds_of l.text ≡ kinds ++ kinds_in (rows_in l.items));
}

abbrev pub decreases-item : goal.decreases-item
decreases-item l = length l.items
