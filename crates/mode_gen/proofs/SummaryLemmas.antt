-- What mode `gen` says of a made-up design.
use Rattle.std.proofs.Common.{◌≡◌, ℕ, refl, Ok}
use Rattle.vg_design.specs.Designs.{Design}
use Rattle.design_read.specs.Designs.{IsDesign}
use Rattle.spef_wire.specs.declared.refusal.Refusal.{Refusal}
use Rattle.vg_answer.specs.Answers.{IsRefusedWith, AnswersBy, NoneTaken}
use Rattle.vg_design.specs.Refusals.{IsFirstRefusal}
use Rattle.vg_gen.specs.Designs.{IsDesign as IsMadeDesign}
use Rattle.vg_gen.specs.declared.design.Generated.{Generated}
use Rattle.vg_design.specs.declared.net_problem.PosedNet.{PosedNet}
use Rattle.vg_design.specs.declared.time.Timed.{Timed}
use Rattle.mode_gen.specs.Steps.{IsNetOf, SumsUpNet}
use Rattle.mode_gen.specs.Answers.{made_up, made_net, IsGenAnswer}
use Rattle.vg_report.specs.Reports.{refusal_line, gen_line, place_count}
use Rattle.vg_answer.specs.declared.answer.Answer.{Answer}
use Rattle.vg_answer.specs.declared.kind.AnswerKind.TheVariants.{Refusal as Refused, Report}
use Rattle.vg_answer.proofs.AnswerLemmas.{answer_with}
use Rattle.vg_answer.specs.Faults.{IsDesignFault}

-- the texts that were made are those of the size
pub made_texts : (size : ℕ) (made : Generated) → IsMadeDesign size made
    → record { spef = made.spef.items; lib = made.lib.items; verilog = made.verilog.items; cons = made.cons.items } ≡ made_up size
made_texts size made is = λ i. record { spef = is.spef i; lib = is.lib i; verilog = is.verilog i; cons = is.cons i }

pub gen_answered : (size : ℕ) (d : Design) (found : Timed × PosedNet) (answer : Answer) → IsDesign (made_up size) d → IsNetOf d found
    → SumsUpNet found.0 found.1 answer → AnswersBy (IsGenAnswer size) (IsDesignFault (made_up size)) NoneTaken (Ok answer)
gen_answered size d found answer of net is =
    answer_with (IsGenAnswer size) Report (gen_line (place_count found.1.problem.places) found.0.slack is.found is.entries) answer (
      record {
        design = d;
        design_of = of;
        timed = found.0;
        timed_of = net.timed;
        net = found.1;
        net_of = net.posed;
        found = is.found;
        found_of = is.found_of;
        entries = is.entries;
        entries_are = is.entries_are;
        text_is = refl;
      },
      refl,
    ) is.with

pub gen_refused : (size : ℕ) (d : Design) (refusal : Refusal) (answer : Answer) → IsDesign (made_up size) d → IsFirstRefusal d made_net refusal
    → IsRefusedWith (refusal_line made_net refusal) answer → AnswersBy (IsGenAnswer size) (IsDesignFault (made_up size)) NoneTaken (Ok answer)
gen_refused size d refusal answer of refused with =
    answer_with (IsGenAnswer size) Refused (refusal_line made_net refusal) answer
    (record { design = d; design_of = of; refusal = refusal; refused = refused; text_is = refl }, refl) with
