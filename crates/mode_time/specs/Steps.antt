-- What is said of the slacks of nets: for the functions between.
use Rattle.std.specs.Prelude.{◌≡◌, ℕ, List, [], Option}
use Rattle.vg_design.specs.Designs.{Design}
use Rattle.mode_time.specs.Answers.{IsTimeSaid, nets_to_time}
use Rattle.vg_answer.specs.Verdicts.{AreSaid}
use Rattle.vg_answer.specs.declared.answer.Answer.{Answer}

-- the answer says this of the nets of a design that are to be timed
pub record TimesNets (d : Design) (net : Option (List ℕ)) (prefix : List ℕ) (answer : Answer) : Type 0 where
  pub nets : AreSaid (IsTimeSaid d prefix) (nets_to_time d prefix net) answer.kind answer.text.items
  pub no_files : answer.files.items ≡ []
