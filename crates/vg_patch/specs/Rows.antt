-- Parts and texts, as a patch keeps them: for the functions between.
use Rattle.std.specs.Prelude.{ℕ, ◌≤◌, List, length, map}
use Rattle.std.specs.List.{All}
use Rattle.vg_scan.specs.Lines.{part}
use Rattle.vg_patch.specs.Edits.{Edit, Rise, end_of}
use Rattle.vg_patch.specs.declared.patch.Row.{Row}

-- a part with what is to stand in its place, which stands in a text
abbrev pub edit_in : List ℕ → Row → Edit
edit_in text r = record { from = r.part.from; to = r.part.to; text = part text r.from r.to }

-- it stands in a text of this length
pub record IsRow (end : ℕ) (r : Row) : Type 0 where
  pub rise : r.from ≤ r.to
  pub within : r.to ≤ end

-- all stand in a text, and the parts stand one after another
pub record AreRows (text : List ℕ) (rows : List Row) : Type 0 where
  pub stand : All (IsRow (length text)) rows
  pub rise : Rise 0 (end_of (map (edit_in text) rows)) (map (edit_in text) rows)
