-- Where printed nodes stand in a text: for the functions between.
use Rattle.std.specs.Prelude.{ℕ, ◌≤◌, List}
use Rattle.vg_scan.specs.Lines.{part}
use Rattle.spef_write.specs.Printed.{PrintedNode}
use Rattle.spef_write.specs.declared.printed.Place.{Place}

-- what stands at a place
abbrev pub printed_in : List ℕ → Place → PrintedNode
printed_in text place =
    record { name = part text place.name place.note; inner = place.inner; note = part text place.note place.end; charge = place.charge }

-- a place within a text of so many bytes
pub record IsPlace (length : ℕ) (place : Place) : Type 0 where
  pub name : place.name ≤ place.note
  pub note : place.note ≤ place.end
  pub end : place.end ≤ length
