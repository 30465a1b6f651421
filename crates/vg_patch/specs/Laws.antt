-- What is true of every text with replaced parts.
use Rattle.std.specs.Prelude.{◌≡◌, ℕ, List, ◌∷◌, ◌++◌, length, map, take}
use Rattle.vg_scan.specs.Lines.{part}
use Rattle.vg_patch.specs.Edits.{Edit, Rise, patched, patched_from}

-- a part with what stands there in a text
abbrev pub kept : List ℕ → Edit → Edit
kept text e = record { from = e.from; to = e.to; text = part text e.from e.to }

-- a text of which each part is replaced by what stands there is the text
abbrev pub KeptPartsStay : Type 0
KeptPartsStay =
    (text : List ℕ) (edits : List Edit) → Rise 0 (length text) edits → patched text (map (kept text) edits) ≡ text

-- a part among others divides a text with replaced parts in two
abbrev pub PatchesAreSplit : Type 0
PatchesAreSplit =
    (text : List ℕ) (edits later : List Edit) (e : Edit) → Rise 0 (length text) (edits ++ e ∷ later)
    → patched text (edits ++ e ∷ later) ≡ patched (take e.from text) edits ++ (e.text ++ patched_from e.to text later)
