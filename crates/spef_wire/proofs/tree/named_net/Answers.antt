use Rattle.std.proofs.Common.{arith}
use Rattle.spef_wire.proofs.NamedLemmas.{none_named, net_named, fault_named}
use Rattle.spef_wire.proofs.tree.named_net.Goals as goal

pub returns-in-Ok-clause-net : goal.returns-in-Ok-clause-net
returns-in-Ok-clause-net c =
    net_named c.args.spef.now c.args.index.now c.args.name.now c.requires c.in-Some.at c.in-Ok.net c.in-Some.ensures.place c.in-Ok.ensures.net

pub returns-in_default-kind : goal.returns-in_default-kind
returns-in_default-kind c = record {
  net = tt;
  sized = tt;
  refused = (fault_named c.args.spef.now c.args.index.now c.args.name.now c.requires c.in-Some.at c.in-Err.fault c.in-Some.ensures.place c.in_default-kind.not-Memory c.in-Err.ensures.fault, omega arith);
}

pub returns-in_default-clause-refused : goal.returns-in_default-clause-refused
returns-in_default-clause-refused c = (none_named c.args.spef.now c.args.index.now c.args.name.now c.requires c.in_default.ensures.place, omega arith)
