-- What is said of a design that is not timed.
use Rattle.std.proofs.Common.{IfOk, Result, Ok, Err}
use Rattle.vg_num.specs.declared.memory.Memory.{Memory as OutOfMemory}
use Rattle.vg_design.specs.Designs.{Design}
use Rattle.vg_sta.specs.Timings.{IsFault}
use Rattle.vg_sta.specs.declared.answer.StaFault.{StaFault}
use Rattle.vg_sta.specs.declared.answer.StaFault.TheVariants.{Net, Cycle, NoPath, Memory}
use Rattle.vg_answer.specs.declared.answer.Answer.{Answer}
use Rattle.mode_sta.specs.Answers.{IsStaSaid}
use Rattle.mode_sta.specs.Steps.{SaysTiming, TellsFault}

says_fault : (d : Design) (fault : StaFault) (answer : Answer) → IsFault d fault → TellsFault fault answer → SaysTiming d answer
says_fault d (Net name refusal) answer first tells = record { says = IsStaSaid.told_refusal name refusal first tells.kind_is tells.text_is; no_files = tells.no_files }
says_fault d (Cycle name) answer behind tells = record { says = IsStaSaid.told_cycle name behind tells.kind_is tells.text_is; no_files = tells.no_files }
says_fault d NoPath answer none tells = record { says = IsStaSaid.told_no_path none tells.kind_is tells.text_is; no_files = tells.no_files }
says_fault d Memory answer unknown tells = absurd tells

-- the fault of a design that an answer tells
pub fault_said : (d : Design) (fault : StaFault) (answered : Result Answer OutOfMemory) → IsFault d fault → IfOk answered (TellsFault fault)
    → IfOk answered (SaysTiming d)
fault_said d fault (Ok answer) of tells = says_fault d fault answer of tells
fault_said d fault (Err memory) of tells = tt
