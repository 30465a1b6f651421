-- The texts of files that are written, and their pieces.
use Rattle.std.specs.Prelude.{ℕ, List, map, Vec}
use Rattle.std.specs.List.{flat_map}
use Rattle.std.specs.declared.alloc.Global.{Global}
use Rattle.vg_answer.specs.declared.new_text.NewText.{NewText}
use Rattle.vg_answer.specs.declared.new_text.NewText.TheVariants.{Patched, Made}
use Rattle.vg_answer.specs.declared.new_text.TextPieces.{TextPieces}
use Rattle.vg_answer.specs.declared.new_text.TextPieces.TheVariants.{Patched as PatchedPieces, Made as MadePieces}

-- the text whose pieces these are, one after another
abbrev pub joined : List (Vec ℕ Global) → List ℕ
joined pieces = flat_map (λ (piece : Vec ℕ Global). piece.items) pieces

-- the text of a new file
abbrev pub text_of : NewText → List ℕ
text_of (Patched text) = text
text_of (Made pieces) = joined pieces.items

-- the pieces of a text that are left
abbrev pub pieces_left : TextPieces → List (List ℕ)
pieces_left (PatchedPieces left) = left
pieces_left (MadePieces left) = map (λ (piece : Vec ℕ Global). piece.items) left.now
