use Rattle.std.proofs.Common.{rules}
use Rattle.spef_wire.specs.Refusals.{IsWithinNetLimits}
use Rattle.spef_wire.proofs.PassLemmas.{passes_limits}
use Rattle.spef_wire.proofs.wire.wire_of.Goals as goal

pub returns-clause-accepted : goal.returns-clause-accepted
returns-clause-accepted c =
    let found = c.args.found.now in
    let within : IsWithinNetLimits found.net found.tree.nodes = search rules in
    passes_limits found.net found.tree.nodes found.order c.requires.accepted c.requires.tree within
