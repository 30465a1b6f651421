-- A text's comments made blank byte by byte: a device for the proofs of the laws.
use Rattle.std.proofs.Common.{ℕ, ◌==◌, ◌&&◌, ◌||◌, List, [], ◌∷◌}
use Rattle.std.specs.Prelude.{if◌then◌else◌}
use Rattle.vg_scan.specs.Comments.{blanked}

-- what a byte stands in: no comment and no string, a string, a comment that its line's end ends, or one that `*/` ends
pub data Scan : Type 0 where
  Outside : Scan
  Quoted : Scan
  InLine : Scan
  InBlock : Scan

-- What a text becomes whose bytes go on in this. A mark of two bytes is taken at once, so that `/*/` does not close
-- itself.
unfoldable pub cleared_in : Scan → List ℕ → List ℕ
cleared_in scan [] = []
cleared_in Outside (b ∷ []) = b ∷ []
cleared_in Outside (b ∷ c ∷ bs) =
    if b == 92 then b ∷ c ∷ cleared_in Outside bs
    else (if b == 34 then b ∷ cleared_in Quoted (c ∷ bs)
    else (if (b == 47) && (c == 47) then 32 ∷ 32 ∷ cleared_in InLine bs
    else (if (b == 47) && (c == 42) then 32 ∷ 32 ∷ cleared_in InBlock bs
    else b ∷ cleared_in Outside (c ∷ bs))))
cleared_in Quoted (b ∷ bs) = b ∷ (if (b == 34) || (b == 10) then cleared_in Outside bs else cleared_in Quoted bs)
cleared_in InLine (b ∷ bs) = if b == 10 then b ∷ cleared_in Outside bs else 32 ∷ cleared_in InLine bs
cleared_in InBlock (b ∷ []) = blanked b ∷ []
cleared_in InBlock (b ∷ c ∷ bs) = if (b == 42) && (c == 47) then 32 ∷ 32 ∷ cleared_in Outside bs else blanked b ∷ cleared_in InBlock (c ∷ bs)
