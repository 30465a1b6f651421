-- Texts without comments.
use Rattle.std.specs.Prelude.{◌≡◌, ℕ, ◌≤◌, ◌^◌, List, length}
use Rattle.vg_scan.specs.Comments.{without_comments}
use Rattle.vg_scan.specs.declared.comments.Comments.TheVariants.{Spef}

-- a text of at most 2^28 bytes whose comments are blank
pub record IsClearText (bytes : List ℕ) : Type 0 where
  pub short : length bytes ≤ 2 ^ 28
  pub clear : without_comments Spef bytes ≡ bytes
