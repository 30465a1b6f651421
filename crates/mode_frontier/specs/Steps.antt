-- What is said of the frontiers of nets: for the functions between.
use Rattle.std.specs.Prelude.{◌≡◌, ℕ, List, [], Option}
use Rattle.vg_design.specs.Designs.{Design}
use Rattle.mode_frontier.specs.Answers.{IsFrontSaid}
use Rattle.vg_answer.specs.Nets.{nets_for}
use Rattle.vg_answer.specs.Verdicts.{AreSaid}
use Rattle.vg_answer.specs.declared.answer.Answer.{Answer}

-- the answer says this of the nets of a design whose frontiers are asked for
pub record FrontsNets (d : Design) (net : Option (List ℕ)) (cap : Option ℕ) (answer : Answer) : Type 0 where
  pub nets : AreSaid (IsFrontSaid d cap) (nets_for d net) answer.kind answer.text.items
  pub no_files : answer.files.items ≡ []
