use Rattle.elmore.specs.Pairs.{IsPairAt}
use Rattle.elmore.proofs.FrontierLemmas.{undominated_holds, undominated_alone}
use Rattle.elmore.proofs.frontier_laws.undominated_is_exact.Goals as goal

pub returns : goal.returns
returns c = λ p v odd xs u. (undominated_holds (IsPairAt p v odd) xs u, undominated_alone (IsPairAt p v odd) xs u)
