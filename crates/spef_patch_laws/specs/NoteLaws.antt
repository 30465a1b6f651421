-- The notes of nodes, where comments are made blank.
use Rattle.std.specs.Prelude.{ℕ, ◌==◌, List, [], ◌++◌, length, codes, if◌then◌else◌}
use Rattle.vg_scan.specs.declared.chars.Chars.{Chars}
use Rattle.vg_scan.specs.Printed.{printed}
use Rattle.spef_file.specs.Files.{File}
use Rattle.spef_file.specs.Nets.{NetHead}
use Rattle.spef_net.specs.Sections.{IsNetOf}
use Rattle.spef_net.specs.declared.net.ParNet.{ParNet}
use Rattle.spef_wire.specs.Nets.{IsNetNamed}
use Rattle.spef_write.specs.Texts.{IsQuietLine}
use Rattle.spef_patch_laws.specs.Replacements.{HasQuietNotes}

-- the notes of a net that is read from a text stay where comments are made blank, be it read by its head
abbrev pub ReadNotesAreQuiet : Type 0
ReadNotesAreQuiet =
    (text : List ℕ) (file : File) (head : NetHead) (net : ParNet) → IsNetOf text file head net → HasQuietNotes net

-- or by its name
abbrev pub NamedNotesAreQuiet : Type 0
NamedNotesAreQuiet = (text name : List ℕ) (net : ParNet) → IsNetNamed text name net → HasQuietNotes net

-- a note stays also where a cell stands behind it
abbrev pub NotesWithCellsAreQuiet : Type 0
NotesWithCellsAreQuiet = (chars : Chars) (note cell : List ℕ) → IsQuietLine note
    → IsQuietLine ((if length note == 0 then [] else note ++ codes " ") ++ codes "*D " ++ printed chars cell)
