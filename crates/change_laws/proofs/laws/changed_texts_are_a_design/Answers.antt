use Rattle.change_laws.proofs.DesignLemmas.{changed_texts}
use Rattle.change_laws.proofs.laws.changed_texts_are_a_design.Goals as goal

pub returns : goal.returns
returns c = changed_texts
