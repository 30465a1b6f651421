-- What is true of every part of a file's lines.
use Rattle.std.specs.Prelude.{◌≡◌, ℕ, ◌+◌, false, List, [], ◌∷◌, ◌++◌, length}
use Rattle.vg_scan.specs.Lines.{Line}
use Rattle.spef_file.specs.Nets.{NetHead, end_at, is_taken}
use Rattle.spef_file.specs.Regions.{outside, place_of}
use Rattle.spef_file.specs.Statements.{nets_of}
use Rattle.name_tables.specs.Distinct.{AreNew}
use Rattle.spef_patch_laws.specs.Runs.{IsRun, SaysSame, IsAlike, MayBegin, NetLines, all_of, AreNetLines, IsHeadOf, Add, names_of}

-- after the lines of a net nothing else is said than before them, but the net
pub record IsPassed (before after : List Line) (head : NetHead) : Type 0 where
  pub says : SaysSame before after
  pub place : place_of after ≡ outside
  pub nets : nets_of after ≡ nets_of before ++ head ∷ []

-- a net that is written without the name map, on the line behind these
abbrev pub head_behind : List Line → List ℕ → NetHead
head_behind before name = record { name = name; reduced = false; line = length before + 1 }

-- the lines of a net of a free name have no fault, whatever follows, and say the net alone
abbrev pub NetsAreRead : Type 0
NetsAreRead = (before later : List Line) (net : NetLines) (name : List ℕ) → MayBegin before → AreNetLines net
    → IsHeadOf before net.head name
    → is_taken (nets_of before) name ≡ false
    → IsRun before (all_of net) later × IsPassed before (before ++ all_of net) (head_behind before name)

-- lines that are read elsewhere: nothing but other nets was said before them
pub record AreKept (old new lines later : List Line) : Type 0 where
  pub heads : List NetHead
  pub old_nets : Add old lines heads
  pub nets : Add new lines heads
  pub alike : IsAlike (old ++ lines) (new ++ lines)
  pub run : AreNew (names_of (nets_of new)) (names_of heads) → IsRun new lines later

-- lines without a fault have none elsewhere, where no net there has the name of one that they add, and they add the
-- same nets
abbrev pub LinesAreReadElsewhere : Type 0
LinesAreReadElsewhere = (old new lines later later_new : List Line) → IsAlike old new → IsRun old lines later
    → end_at later_new ≡ end_at later
    → AreKept old new lines later_new
