use Rattle.std.proofs.Common.{◌≡◌, ◌++◌, List, false, length, take}
use Rattle.std.specs.List.{list_any}
use Rattle.ver_text.specs.declared.kind.Kind.{Kind}
use Rattle.ver_text.specs.declared.kind.Kind.TheVariants.{Semicolon}
use Rattle.ver_syntax.specs.Grammar.{is}
use Rattle.ver_syntax.specs.Reading.{HasKinds}
use Rattle.ver_syntax.specs.Rows.{kinds_in}
use Rattle.ver_items.proofs.StretchLemmas.{IsHeld, IsRead}
use Rattle.ver_items.proofs.items.read_item_by.Given as goal

abbrev pub invariant-part : goal.invariant-part
invariant-part l = record {
  start : l.start ≡ l.initial.rows;
  read : IsRead l.start l.count l.rows;
  none : list_any (λ r. is Semicolon r.kind) (take l.count l.start) ≡ false;
  held : IsHeld l.start l.count l.room.held.items;
  kinds : (kinds : List Kind) → HasKinds kinds l.initial.machine → HasKinds (kinds ++ kinds_in (take l.count l.start)) l.machine;
}

abbrev pub decreases-part : goal.decreases-part
decreases-part l = length l.rows
