use Rattle.std.proofs.Common.{◌≡◌, false, length, take}
use Rattle.std.specs.List.{list_any}
use Rattle.ver_text.specs.declared.kind.Kind.TheVariants.{Semicolon}
use Rattle.ver_syntax.specs.Grammar.{is}
use Rattle.ver_items.proofs.StretchLemmas.{IsHeld, IsRead}
use Rattle.ver_items.proofs.items.read_item.Given as goal

abbrev pub invariant-row : goal.invariant-row
invariant-row l = record {
  start : l.start ≡ l.initial.rows;
  read : IsRead l.start l.count l.rows;
  none : list_any (λ r. is Semicolon r.kind) (take l.count l.start) ≡ false;
  held : IsHeld l.start l.count l.room.held.items;
}

abbrev pub decreases-row : goal.decreases-row
decreases-row l = length l.rows
