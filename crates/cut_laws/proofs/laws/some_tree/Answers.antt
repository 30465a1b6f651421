use Rattle.cut_laws.proofs.SomeTreeLemmas.{some_tree as law}
use Rattle.cut_laws.proofs.laws.some_tree.Goals as goal

pub returns : goal.returns
returns c = law
