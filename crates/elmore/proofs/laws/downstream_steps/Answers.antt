use Rattle.std.proofs.Common.{length}
use Rattle.elmore.specs.Trees.{parent_of, capacitance}
use Rattle.elmore.proofs.WireLemmas.{downstream_children}
use Rattle.elmore.proofs.TreeLemmas.{tree_of}
use Rattle.elmore.proofs.laws.downstream_steps.Goals as goal

pub returns : goal.returns
returns c = λ nodes t v v_n. downstream_children (parent_of nodes) (length nodes) (tree_of nodes t) (capacitance nodes) v v_n
