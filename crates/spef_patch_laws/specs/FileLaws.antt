-- Files in which nets are replaced.
use Rattle.std.specs.Prelude.{◌≡◌, ◌<◌, ℕ, List, [], ◌++◌, length, map}
use Rattle.std.specs.Str.Lines.{lines}
use Rattle.vg_scan.specs.Comments.{without_comments}
use Rattle.vg_scan.specs.Lines.{words}
use Rattle.vg_scan.specs.declared.comments.Comments.TheVariants.{Spef}
use Rattle.spef_file.specs.Nets.{NetHead}
use Rattle.spef_file.specs.Files.{File, IsFileOf}
use Rattle.name_tables.specs.Distinct.{AreNew}
use Rattle.spef_patch_laws.specs.NetTexts.{text_at, text_names, Splice, old_lines, spliced_lines, AreSplices, Place, all_places, new_texts, old_texts}

-- the lines of a text without its comments
abbrev pub lines_in : List ℕ → List (List ℕ)
lines_in text = lines (without_comments Spef text)

-- another text has the lines of a text with these splices, one or more, behind lines that stay
pub record HasSplices (text new : List ℕ) (front : List (List ℕ)) (splices : List Splice) : Type 0 where
  pub old_are : lines_in text ≡ front ++ old_lines splices
  pub new_are : lines_in new ≡ front ++ spliced_lines splices
  pub some : 0 < length splices
  pub splices_are : AreSplices (map words front) splices

-- A text says what a file says but for its nets. These, each as its name and its lines, are those of the file in their
-- order, with others in place of some.
pub record IsFileWith (text new : List ℕ) (file : File) (all : List Place) : Type 0 where
  pub nets : List NetHead
  pub said : IsFileOf new (record file { nets = nets })
  pub were : map (text_at (lines_in text)) file.nets ≡ old_texts all
  pub are : map (text_at (lines_in new)) nets ≡ new_texts all

-- a file of which nets are replaced is a file, if no two of its nets have the same name then
abbrev pub FilesAreSpliced : Type 0
FilesAreSpliced = (text new : List ℕ) (file : File) (front : List (List ℕ)) (splices : List Splice) → IsFileOf text file
    → HasSplices text new front splices → AreNew [] (text_names (new_texts (all_places front splices)))
    → IsFileWith text new file (all_places front splices)
