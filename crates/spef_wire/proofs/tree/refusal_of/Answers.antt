use Rattle.std.proofs.Common.{arith}
use Rattle.spef_wire.proofs.PassLemmas.{first_loop}
use Rattle.spef_wire.proofs.WireLemmas.{is_named}
use Rattle.spef_wire.proofs.tree.refusal_of.Goals as goal

pub returns-in-Loop : goal.returns-in-Loop
returns-in-Loop c =
    let net = c.args.net.now in
    let root = c.requires.fault.root in
    (first_loop net root c.requires.accepted c.requires.fault.driven (rw c.in-Loop.is at c.requires.fault.fault_is), omega arith)

pub returns-in-Ok : goal.returns-in-Ok
returns-in-Ok c =
    let net = c.args.net.now in
    let root = c.requires.fault.root in
    let floating = rw c.in-Floating.is at c.requires.fault.fault_is in (
      record {
        holds = record {
          root = root;
          driven = c.requires.fault.driven;
          v = c.in-Floating.node;
          floating = floating;
          named = is_named net c.in-Floating.node c.in-Ok.name floating.node c.in-Ok.ensures;
        };
        first = c.requires.accepted;
      },
      omega arith,
    )
