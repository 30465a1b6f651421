use Rattle.std.proofs.Common.{subst}
use Rattle.vg_cert.specs.Readings.{IsFound}
use Rattle.vg_cert.proofs.FoundLemmas.{later_named, found_ok}
use Rattle.vg_cert.proofs.names.node_named.Goals as goal

pub returns-in-Some : goal.returns-in-Some
returns-in-Some c =
    later_named c.args.nodes.now c.requires.differ c.args.word.now c.args.next c.in-Some.v (subst (IsFound c.args.nodes.now c.args.next c.args.word.now) c.in-Some.is c.in_ok-v.ensures)

pub returns-in-None : goal.returns-in-None
returns-in-None c = found_ok c.args.nodes.now c.args.word.now c.find_node-in-None.result c.find_node-in-None.ensures
