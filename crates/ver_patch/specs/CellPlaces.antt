-- Instances that are put in, whose texts stand in one buffer: for the functions between.
use Rattle.std.specs.Prelude.{◌≡◌, ℕ, ◌≤◌, ◌++◌, List, length}
use Rattle.vg_scan.specs.Lines.{part}
use Rattle.ver_patch.specs.NewCells.{NewCell}
use Rattle.ver_patch.specs.declared.cells.Place.{Place}

-- all texts of an instance, one behind the other
abbrev pub all_texts : NewCell → List ℕ
all_texts c = c.cell ++ (c.name ++ (c.input ++ (c.output ++ (c.from ++ c.to))))

-- the one whose texts stand at these places of a text
abbrev pub cell_in : List ℕ → Place → NewCell
cell_in text p = record {
  cell = part text p.cell p.name;
  name = part text p.name p.input;
  input = part text p.input p.output;
  output = part text p.output p.from;
  from = part text p.from p.to;
  to = part text p.to p.end;
}

-- its texts stand in a text of this length, one behind the other
pub record IsPlace (count : ℕ) (p : Place) : Type 0 where
  pub name : p.cell ≤ p.name
  pub input : p.name ≤ p.input
  pub output : p.input ≤ p.output
  pub from : p.output ≤ p.from
  pub to : p.from ≤ p.to
  pub end : p.to ≤ p.end
  pub within : p.end ≤ count

-- its texts stand at these places behind a text
pub record IsPlaced (text : List ℕ) (c : NewCell) (p : Place) : Type 0 where
  pub is : cell_in (text ++ all_texts c) p ≡ c
  pub place : IsPlace (length (text ++ all_texts c)) p
