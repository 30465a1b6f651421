-- What is said of a certificate: for the functions between.
use Rattle.std.specs.Prelude.{◌≡◌, ℕ, List, []}
use Rattle.vg_design.specs.Designs.{Design}
use Rattle.mode_check.specs.Answers.{IsCheckSaid}
use Rattle.vg_answer.specs.Verdicts.{bare_verdict}
use Rattle.vg_answer.specs.declared.answer.Answer.{Answer}

-- the answer says this of a text as a certificate of the net of a name
pub record ChecksNet (d : Design) (name cert : List ℕ) (answer : Answer) : Type 0 where
  pub says : IsCheckSaid d name cert (bare_verdict answer.kind answer.text.items)
  pub no_files : answer.files.items ≡ []
