-- What follows where the cells of placements are put into nets, and the texts of their design are written anew.
use Rattle.std.specs.Prelude.{◌≡◌, ℕ, true, List, Option, Some, slice_get}
use Rattle.std.specs.List.{AllZip, flat_map}
use Rattle.vg_scan.specs.Prefixes.{is_prefix}
use Rattle.vg_design.specs.Designs.{Design}
use Rattle.vg_design.specs.Nets.{IsPosedNet}
use Rattle.vg_design.specs.declared.net_problem.PosedNet.{PosedNet}
use Rattle.vg_slack.specs.Bests.{IsGoodWith}
use Rattle.vg_slack.specs.declared.answer.Best.{Best}
use Rattle.design_read.specs.Designs.{Texts}
use Rattle.change_laws.specs.Laws.{RetimesInTexts}
use Rattle.vg_answer.specs.Nets.{nets_for}
use Rattle.vg_answer.specs.Verdicts.{Verdict, put_in}
use Rattle.vg_answer.specs.declared.kind.AnswerKind.{AnswerKind}
use Rattle.vg_place.specs.Placings.{AreFilesOf, Files, IsFreeDesign, IsPutSaid, kept, placed_verdict}

-- the texts with the netlist and the parasitics that were written
abbrev pub with_files : Texts → Files → Texts
with_files texts files = record texts { spef = files.spef; verilog = files.verilog }

-- Four texts are a design without a name that begins with the prefix, this is said of the nets that are asked for, each
-- of which gets the cells of a good placement or none, and these are the files with the cells of all of them.
pub record AreWrittenWith (texts : Texts) (d : Design) (prefix : List ℕ) (net : Option (List ℕ))
    (verdicts : List Verdict) (files : Files) : Type 0 where
  pub design_of : IsFreeDesign texts prefix d
  pub prefix_is : is_prefix prefix ≡ true
  pub each : AllZip (IsPutSaid d) (nets_for d net) verdicts
  pub files_of : AreFilesOf (kept texts) d prefix (flat_map put_in verdicts) files

-- of the net of a name, which is asked for, a placement is told that is good and has the slack that is told with it
pub record TellsPlacement (d : Design) (asked : Option (List ℕ)) (verdicts : List Verdict) (name : List ℕ)
    (best : Best) : Type 0 where
  pub place : ℕ
  pub named : slice_get (nets_for d asked) place ≡ Some name
  pub net : PosedNet
  pub net_of : IsPosedNet d name net
  pub is_good : IsGoodWith net.problem best.placement.cells best.slack
  pub kind : AnswerKind
  pub told : slice_get verdicts place ≡ Some (placed_verdict kind d name net best)

-- Where the files with the cells of all nets are written, they are a design, in which each net of which a placement is
-- told re-times to the slack of this placement.
abbrev pub WrittenPlacementsRetime : Type 0
WrittenPlacementsRetime =
    (texts : Texts) (d : Design) (prefix : List ℕ) (net : Option (List ℕ)) (verdicts : List Verdict) (files : Files)
    → AreWrittenWith texts d prefix net verdicts files → (name : List ℕ) (best : Best)
    → TellsPlacement d net verdicts name best
    → RetimesInTexts (with_files texts files) prefix name best.slack
