-- The pieces of the text of a new file.
use Rattle.std.proofs.Common.{◌≡◌, ℕ, List, [], ◌∷◌, ◌++◌, map, refl, ap}
use Rattle.std.specs.Prelude.{Vec}
use Rattle.std.specs.List.{concat}
use Rattle.std.specs.declared.alloc.Global.{Global}
use Rattle.vg_answer.specs.NewTexts.{joined}

-- those of a text that was made are the text, one after another
pub concat-made : (pieces : List (Vec ℕ Global)) → concat (map (λ (piece : Vec ℕ Global). piece.items) pieces) ≡ joined pieces
concat-made [] = refl
concat-made (piece ∷ pieces) = ap (λ (rest : List ℕ). piece.items ++ rest) (concat-made pieces)
