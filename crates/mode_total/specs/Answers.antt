-- What mode `total` answers: the frontier of a whole design, and the files with the cells of its last point.
use Rattle.std.specs.Prelude.{◌≡◌, ℕ, List, [], ◌++◌, Option, Some, None}
use Rattle.std.specs.List.{AllZip, flat_map, zip}
use Rattle.vg_front.specs.declared.root.Point.{Point as Pick}
use Rattle.vg_change.specs.Placed.{PlacedNet}
use Rattle.vg_change.specs.Taken.{taken}
use Rattle.vg_design.specs.Designs.{Design, net_names}
use Rattle.vg_design.specs.Nets.{IsPosedNet}
use Rattle.vg_design.specs.Parts.{cells_of}
use Rattle.vg_design.specs.declared.net_problem.PosedNet.{PosedNet}
use Rattle.design_read.specs.Designs.{Texts, IsDesign}
use Rattle.vg_answer.specs.Answers.{Said, Written}
use Rattle.vg_answer.specs.declared.kind.AnswerKind.{AnswerKind}
use Rattle.vg_place.specs.Placings.{AreFilesOf, Files, IsTaken, changed_files, kept, put_of}
use Rattle.mode_total.specs.Choices.{Accepted, AreChoices, Choice, Standing, Stands, accepted_in, last_picks}
use Rattle.mode_total.specs.Lines.{kind_for, refusal_in, total_report}

-- What is asked: the cap, and, where files are to be written, what the names of new cells and nets begin with.
pub record Asked : Type 0 where
  pub cap : Option ℕ
  pub prefix : Option (List ℕ)

-- how each net of a design stands, what choices the accepted ones have, and an answer of this kind that tells both
pub record IsTotalSaid (d : Design) (cap : Option ℕ) (kind : AnswerKind) (text : List ℕ) : Type 0 where
  pub standings : List Standing
  pub each : AllZip (Stands d) (net_names d.spef) standings
  pub choices : List Choice
  pub are : AreChoices (flat_map accepted_in standings) cap choices
  pub kind_is : kind ≡ kind_for standings choices
  pub text_is : text ≡ flat_map refusal_in standings
      ++ total_report (cells_of d.library.repeaters) (flat_map accepted_in standings) choices

-- the net with the cells of a pick, where it has any
abbrev pub IsPutFor : Design → Accepted × Pick → List PlacedNet → Type 0
IsPutFor d (own, pick) put =
    (net : PosedNet) × IsPosedNet d own.name net × (put ≡ put_of net pick.placement.cells)

-- these are the files in which the cells of each net's pick are put
pub record AreFilesWith (read : Files) (d : Design) (prefix : List ℕ) (picked : List (Accepted × Pick))
    (files : Files) : Type 0 where
  pub puts : List (List PlacedNet)
  pub each : AllZip (IsPutFor d) picked puts
  pub files_of : AreFilesOf read d prefix (flat_map (λ put. put) puts) files

-- the netlist and the parasitics are written with these cells, where a prefix is given, and no name of the design
-- begins with it; without a prefix no file is written
abbrev pub AreWrittenFor : Files → Design → Option (List ℕ) → List (Accepted × Pick) → List Written → Type 0
AreWrittenFor read d None picked written = written ≡ []
AreWrittenFor read d (Some prefix) picked written =
    (taken d prefix ≡ None)
    × ((files : Files) × AreFilesWith read d prefix picked files × (written ≡ changed_files files))

-- the accepted nets, each with what the last choice takes for it
abbrev pub last_picked : List Standing → List Choice → List (Accepted × Pick)
last_picked standings choices = zip (flat_map accepted_in standings) (last_picks choices)

-- the four texts are a design, of which this is said, and what the last choice takes is written
pub record IsTotalAnswer (texts : Texts) (asked : Asked) (kind : AnswerKind) (said : Said) : Type 0 where
  pub design : Design
  pub design_of : IsDesign texts design
  pub total : IsTotalSaid design asked.cap kind said.text
  pub written : AreWrittenFor (kept texts) design asked.prefix (last_picked total.standings total.choices) said.files

-- files are to be written, and this is the first name of the design that begins with the prefix
pub record IsTotalTaken (texts : Texts) (asked : Asked) (name : List ℕ) : Type 0 where
  pub prefix : List ℕ
  pub given : asked.prefix ≡ Some prefix
  pub is_taken : IsTaken texts prefix name
