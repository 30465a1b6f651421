use Rattle.change_netlist_laws.proofs.ConsistentLemmas.{changes_are_consistent, netlists_are_read_again}
use Rattle.change_netlist_laws.proofs.laws.netlists_are_read_again.Goals as goal

pub returns-clause-consistent : goal.returns-clause-consistent
returns-clause-consistent c = changes_are_consistent

pub returns-clause-read : goal.returns-clause-read
returns-clause-read c = netlists_are_read_again
