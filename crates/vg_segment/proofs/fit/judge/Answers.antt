use Rattle.std.proofs.Common.{◌<◌, arith, inr, refl, rules}
use Rattle.spef_wire.specs.Refusals.{IsWithinNetLimits, PassesUpTo, most_nodes}
use Rattle.spef_wire.proofs.PassLemmas.{passes_limits}
use Rattle.vg_segment.specs.Texts.{cut_count}
use Rattle.vg_segment.proofs.fit.judge.Goals as goal

pub returns-then-cut_count-gt-MOST_NODES-clause-refused : goal.returns-then-cut_count-gt-MOST_NODES-clause-refused
returns-then-cut_count-gt-MOST_NODES-clause-refused c =
    let net = c.args.net.now in
    let built = c.in_ok-built.built in
    let within : IsWithinNetLimits net built.tree.nodes = search rules in
    let accepted : PassesUpTo 17 net = passes_limits net built.tree.nodes built.order c.in_ok-built.ensures.accepted c.in_ok-built.ensures.tree within in
    let many : most_nodes < cut_count c.args.parts net = omega (arith, c.cut_count.ensures, c.if-cut_count-gt-MOST_NODES.true) in
    inr (refl, accepted, many)

pub returns-clause-fit : goal.returns-clause-fit
returns-clause-fit c =
    let net = c.args.net.now in
    let built = c.in_ok-built.built in
    let within : IsWithinNetLimits net built.tree.nodes = search rules in
    record {
      accepted = passes_limits net built.tree.nodes built.order c.in_ok-built.ensures.accepted c.in_ok-built.ensures.tree within;
      a_tree = c.in_ok-built.ensures.tree;
      within = within;
      few = omega (arith, c.cut_count.ensures, c.if-cut_count-gt-MOST_NODES.false);
    }
