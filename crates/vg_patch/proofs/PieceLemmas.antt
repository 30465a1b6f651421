-- The pieces of a text with replaced parts.
use Rattle.std.proofs.Common.{◌≡◌, ℕ, List, [], ◌∷◌, ◌++◌, drop, ap}
use Rattle.std.proofs.lemmas.List.{append-nil}
use Rattle.std.specs.List.{concat}
use Rattle.vg_scan.specs.Lines.{part}
use Rattle.vg_patch.specs.Edits.{Edit, patched_from}
use Rattle.vg_patch.specs.Pieces.{pieces_from}

-- they are the text, one after another
pub concat-pieces : (at : ℕ) (text : List ℕ) (edits : List Edit) → concat (pieces_from at text edits) ≡ patched_from at text edits
concat-pieces at text [] = append-nil (drop at text)
concat-pieces at text (e ∷ edits) = ap (λ (rest : List ℕ). part text at e.from ++ (e.text ++ rest)) (concat-pieces e.to text edits)
