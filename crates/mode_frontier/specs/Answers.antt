-- What mode `frontier` answers.
use Rattle.std.specs.Prelude.{◌≡◌, ◌≢◌, ℕ, List, [], Option}
use Rattle.elmore.specs.Best.{IsGood}
use Rattle.elmore.specs.Legal.{IsWithin}
use Rattle.elmore.specs.Placements.{cost_of}
use Rattle.elmore.specs.declared.problem.Problem.{Problem}
use Rattle.vg_design.specs.Designs.{Design}
use Rattle.vg_design.specs.Nets.{IsPosedNet}
use Rattle.vg_design.specs.Refusals.{IsFirstRefusal}
use Rattle.design_read.specs.Designs.{Texts, IsDesign}
use Rattle.spef_wire.specs.declared.refusal.Refusal.{Refusal}
use Rattle.vg_design.specs.Parts.{cells_of}
use Rattle.vg_design.specs.declared.net_problem.NetProblem.{NetProblem}
use Rattle.vg_design.specs.declared.net_problem.PosedNet.{PosedNet}
use Rattle.vg_front.specs.Points.{IsFrontierOf}
use Rattle.vg_front.specs.declared.root.Point.{Point}
use Rattle.vg_report.specs.Reports.{front_report, none_line, refusal_line}
use Rattle.vg_answer.specs.Verdicts.{Verdict, AreSaid, bare_verdict}
use Rattle.vg_answer.specs.declared.kind.AnswerKind.{AnswerKind}
use Rattle.vg_answer.specs.declared.kind.AnswerKind.TheVariants.{Report, NoneGood, Refusal as Refused}
use Rattle.vg_answer.specs.Answers.{Said}
use Rattle.vg_answer.specs.Nets.{nets_for, problem_in}

-- the net of this name is posed with this problem
abbrev pub IsPosedIn : Design → List ℕ → NetProblem → Type 0
IsPosedIn d name net = (posed : PosedNet) × IsPosedNet d name posed × (net ≡ problem_in posed)

-- no good placement is within the cap
abbrev pub HasNoneWithin : Problem → Option ℕ → Type 0
HasNoneWithin p cap = (cells : List (Option ℕ)) → IsGood p cells → IsWithin cap (cost_of p cells) → ⊥

-- the points of the net's frontier within the cap are reported, each with a placement; or no good placement is within
-- the cap; or the net is refused
pub data IsFrontSaid (d : Design) (cap : Option ℕ) (name : List ℕ) (said : Verdict) : Type 0 where
  told_front : (net : PosedNet) → IsPosedNet d name net → (points : List Point)
      → IsFrontierOf net.problem cap points → points ≢ []
      → said ≡ bare_verdict Report (front_report name (cells_of d.library.repeaters) (problem_in net) points)
      → IsFrontSaid d cap name said
  told_no_point : (net : PosedNet) → IsPosedNet d name net → HasNoneWithin net.problem cap
      → said ≡ bare_verdict NoneGood (none_line name)
      → IsFrontSaid d cap name said
  told_refusal : (refusal : Refusal) → IsFirstRefusal d name refusal
      → said ≡ bare_verdict Refused (refusal_line name refusal)
      → IsFrontSaid d cap name said

-- the four texts are a design, and this is said of the nets that are asked for
pub record IsFrontAnswer (texts : Texts) (net : Option (List ℕ)) (cap : Option ℕ) (kind : AnswerKind)
    (said : Said) : Type 0 where
  pub design : Design
  pub design_of : IsDesign texts design
  pub nets : AreSaid (IsFrontSaid design cap) (nets_for design net) kind said.text
  pub no_files : said.files ≡ []
