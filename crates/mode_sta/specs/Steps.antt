-- What is said of the timing of a design: for the functions between.
use Rattle.std.specs.Prelude.{◌≡◌, []}
use Rattle.vg_design.specs.Designs.{Design}
use Rattle.vg_report.specs.Reports.{refusal_line}
use Rattle.vg_sta.specs.declared.answer.StaFault.{StaFault}
use Rattle.vg_sta.specs.declared.answer.StaFault.TheVariants.{Net, Cycle, NoPath, Memory}
use Rattle.vg_answer.specs.Answers.{IsRefusedWith}
use Rattle.vg_answer.specs.declared.answer.Answer.{Answer}
use Rattle.mode_sta.specs.Answers.{IsStaSaid}
use Rattle.mode_sta.specs.Lines.{cycle_line, no_path_line}

-- the answer tells a fault, where there is a line for it
abbrev pub TellsFault : StaFault → Answer → Type 0
TellsFault (Net name refusal) answer = IsRefusedWith (refusal_line name refusal) answer
TellsFault (Cycle name) answer = IsRefusedWith (cycle_line name) answer
TellsFault NoPath answer = IsRefusedWith no_path_line answer
TellsFault Memory answer = ⊥

-- the answer says this of the timing of a design
pub record SaysTiming (d : Design) (answer : Answer) : Type 0 where
  pub says : IsStaSaid d answer.kind answer.text.items
  pub no_files : answer.files.items ≡ []
