-- What is said of the net of a made-up design: for the functions between.
use Rattle.std.specs.Prelude.{ℕ, Option}
use Rattle.vg_design.specs.Designs.{Design}
use Rattle.vg_design.specs.Nets.{IsPosedNet, IsTimedOf}
use Rattle.vg_design.specs.declared.net_problem.PosedNet.{PosedNet}
use Rattle.vg_design.specs.declared.time.Timed.{Timed}
use Rattle.vg_slack.specs.Bests.{IsAnswer}
use Rattle.vg_slack.specs.declared.answer.Best.{Best}
use Rattle.vg_verdict.specs.Judged.{CountsEntries}
use Rattle.vg_answer.specs.Answers.{IsAnswerWith}
use Rattle.vg_report.specs.Reports.{gen_line, place_count}
use Rattle.mode_gen.specs.Answers.{made_net}
use Rattle.vg_answer.specs.declared.answer.Answer.{Answer}
use Rattle.vg_answer.specs.declared.kind.AnswerKind.TheVariants.{Report}

-- the answer tells of a posed net, which has this timing without a cell
pub record SumsUpNet (timed : Timed) (net : PosedNet) (answer : Answer) : Type 0 where
  pub found : Option Best
  pub found_of : IsAnswer net.problem found
  pub entries : ℕ
  pub entries_are : CountsEntries net.problem entries
  pub with : IsAnswerWith Report (gen_line (place_count net.problem.places) timed.slack found entries) answer

-- this is the net of a made-up design, with its timing without a cell
pub record IsNetOf (d : Design) (found : Timed × PosedNet) : Type 0 where
  pub timed : IsTimedOf d made_net found.0
  pub posed : IsPosedNet d made_net found.1
