use Rattle.std.proofs.Common.{◌≡◌, drop, map}
use Rattle.std.specs.List.{list_any}
use Rattle.std.specs.Str.{bytes_eq}
use Rattle.ver_items.specs.Sections.{name_at}
use Rattle.ver_file.proofs.check.is_other.Given as goal

abbrev pub invariant-other : goal.invariant-other
invariant-other l = record {
  left :
      list_any (bytes_eq l.name) (map (name_at l.text) l.others) ≡ list_any (bytes_eq l.name) (map (name_at l.text) (drop l.other-index l.others));
}
