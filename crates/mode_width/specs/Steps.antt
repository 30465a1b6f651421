-- What is said of a net whose wires have widths: for the functions between.
use Rattle.std.specs.Prelude.{◌≡◌, ℕ, List, []}
use Rattle.vg_design.specs.Designs.{Design}
use Rattle.wire_widths.specs.declared.width.Width.{Width}
use Rattle.vg_answer.specs.Faults.{IsWidthsFault}
use Rattle.vg_answer.specs.Verdicts.{bare_verdict}
use Rattle.vg_answer.specs.declared.answer.Answer.{Answer}
use Rattle.vg_answer.specs.declared.answer.NoAnswer.{NoAnswer}
use Rattle.vg_answer.specs.declared.answer.NoAnswer.TheVariants.{Faulty, Taken, Memory}
use Rattle.vg_answer.specs.declared.input.Input.TheVariants.{Widths}
use Rattle.mode_width.specs.Answers.{IsWidthSaid}

-- the answer says this of the net of a name with these widths
pub record SaysWidths (d : Design) (widths : List Width) (name : List ℕ) (answer : Answer) : Type 0 where
  pub says : IsWidthSaid d widths name (bare_verdict answer.kind answer.text.items)
  pub no_files : answer.files.items ≡ []

-- why a text has no widths, as an answer tells it
abbrev pub IsNoWidths : List ℕ → NoAnswer → Type 0
IsNoWidths file (Faulty input line) = (input ≡ Widths) × IsWidthsFault file line
IsNoWidths file (Taken name) = ⊥
IsNoWidths file Memory = Unit {0}
