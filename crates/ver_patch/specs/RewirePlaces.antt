-- Pins with their new nets, whose texts stand in one buffer: for the functions between.
use Rattle.std.specs.Prelude.{ℕ, ◌≤◌, List}
use Rattle.vg_scan.specs.Lines.{part}
use Rattle.ver_patch.specs.Rewires.{Rewire}
use Rattle.ver_patch.specs.declared.rewires.Place.{Place}

-- the one whose net stands at this place of a text
abbrev pub rewire_in : List ℕ → Place → Rewire
rewire_in text p = record { at = p.at; net = part text p.from p.to }

-- its net stands in a text of this length
pub record IsPlace (count : ℕ) (p : Place) : Type 0 where
  pub rise : p.from ≤ p.to
  pub within : p.to ≤ count
