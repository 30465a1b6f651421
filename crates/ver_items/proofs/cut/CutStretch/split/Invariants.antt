use Rattle.std.proofs.Common.{◌≡◌, ◌++◌, length, take}
use Rattle.std.specs.List.{before_first}
use Rattle.ver_items.specs.Begins.{begins}
use Rattle.ver_items.proofs.StretchLemmas.{IsRead}
use Rattle.ver_items.proofs.cut.CutStretch.split.Given as goal

abbrev pub invariant-row : goal.invariant-row
invariant-row l = record {
  read : IsRead l.self l.count l.rest;
  before : before_first (begins l.begin) l.self ≡ take l.count l.self ++ before_first (begins l.begin) l.rest;
}

abbrev pub decreases-row : goal.decreases-row
decreases-row l = length l.rest
