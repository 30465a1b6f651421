-- What mode `gen` answers.
use Rattle.std.specs.Prelude.{◌≡◌, ℕ, List, Option, codes}
use Rattle.vg_design.specs.Designs.{Design}
use Rattle.vg_design.specs.Nets.{IsPosedNet, IsTimedOf}
use Rattle.vg_design.specs.Refusals.{IsFirstRefusal}
use Rattle.vg_design.specs.declared.time.Timed.{Timed}
use Rattle.design_read.specs.Designs.{Texts, IsDesign}
use Rattle.vg_verdict.specs.Judged.{CountsEntries}
use Rattle.spef_wire.specs.declared.refusal.Refusal.{Refusal}
use Rattle.vg_design.specs.declared.net_problem.PosedNet.{PosedNet}
use Rattle.vg_slack.specs.Bests.{IsAnswer}
use Rattle.vg_slack.specs.declared.answer.Best.{Best}
use Rattle.vg_report.specs.Reports.{gen_line, place_count, refusal_line}
use Rattle.vg_answer.specs.declared.kind.AnswerKind.{AnswerKind}
use Rattle.vg_answer.specs.declared.kind.AnswerKind.TheVariants.{Report, Refusal as Refused}
use Rattle.vg_gen.specs.Nets.{branch_count}
use Rattle.vg_gen.specs.Texts.{constraints_text, library_text, netlist_text, spef_text}
use Rattle.vg_answer.specs.Answers.{Said, IsText}

-- the net of a made-up design
abbrev pub made_net : List ℕ
made_net = codes "g"

-- the texts of the made-up design of a size
abbrev pub made_up : ℕ → Texts
made_up size = record {
  spef = spef_text size;
  lib = library_text;
  verilog = netlist_text (branch_count size);
  cons = constraints_text (branch_count size);
}

-- four texts are a design whose net has these places, this slack without a cell, this best placement, and so many
-- undominated pairs at its nodes; the text tells of them
pub record IsSummary (texts : Texts) (text : List ℕ) : Type 0 where
  pub design : Design
  pub design_of : IsDesign texts design
  pub timed : Timed
  pub timed_of : IsTimedOf design made_net timed
  pub net : PosedNet
  pub net_of : IsPosedNet design made_net net
  pub found : Option Best
  pub found_of : IsAnswer net.problem found
  pub entries : ℕ
  pub entries_are : CountsEntries net.problem entries
  pub text_is : text ≡ gen_line (place_count net.problem.places) timed.slack found entries

-- or its net is refused, and the text says why
pub record IsMadeRefusal (texts : Texts) (text : List ℕ) : Type 0 where
  pub design : Design
  pub design_of : IsDesign texts design
  pub refusal : Refusal
  pub refused : IsFirstRefusal design made_net refusal
  pub text_is : text ≡ refusal_line made_net refusal

-- the design of this size is summed up, or its net is refused
abbrev pub IsGenAnswer : ℕ → AnswerKind → Said → Type 0
IsGenAnswer size Report said = IsText (IsSummary (made_up size)) said
IsGenAnswer size Refused said = IsText (IsMadeRefusal (made_up size)) said
IsGenAnswer size kind said = ⊥
