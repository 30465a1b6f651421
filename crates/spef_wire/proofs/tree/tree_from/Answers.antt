use Rattle.std.proofs.Common.{arith, sym, ◌∙◌, ap}
use Rattle.std.specs.List.{list_any}
use Rattle.spef_wire.specs.Refusals.{is_sink}
use Rattle.spef_wire.proofs.EndLemmas.{net_is, tree_is}
use Rattle.spef_wire.proofs.PassLemmas.{passes_loop, passes_sink, first_no_sink}
use Rattle.spef_wire.proofs.tree.tree_from.Goals as goal

pub build-requires : goal.build-requires
build-requires c =
    net_is c.args.net.now c.args.root c.len.result c.as_slice-caps.result.now c.as_slice-ress.result.now c.requires.sized c.requires.driven c.len.ensures c.as_slice-caps.ensures c.as_slice-ress.ensures

pub returns-then-has_sink-clause-accepted : goal.returns-then-has_sink-clause-accepted
returns-then-has_sink-clause-accepted c =
    let net = c.args.net.now in
    passes_sink net
    (passes_loop net c.args.root c.in-Ok.built.tree.nodes c.in-Ok.built.order c.requires.accepted c.requires.driven
    (tree_is net c.args.root c.len.result c.as_slice-caps.result.now c.as_slice-ress.result.now c.in-Ok.built.tree.nodes c.in-Ok.built.order c.len.ensures c.as_slice-caps.ensures c.as_slice-ress.ensures c.in-Ok.ensures))
    (sym (ap (list_any is_sink) c.as_slice.ensures) ∙ sym c.has_sink.ensures ∙ c.if-has_sink.true)

pub returns-else-has_sink-clause-refused : goal.returns-else-has_sink-clause-refused
returns-else-has_sink-clause-refused c =
    let net = c.args.net.now in (
      first_no_sink net
          (passes_loop net c.args.root c.in-Ok.built.tree.nodes c.in-Ok.built.order c.requires.accepted c.requires.driven
          (tree_is net c.args.root c.len.result c.as_slice-caps.result.now c.as_slice-ress.result.now c.in-Ok.built.tree.nodes c.in-Ok.built.order c.len.ensures c.as_slice-caps.ensures c.as_slice-ress.ensures c.in-Ok.ensures))
          (sym (ap (list_any is_sink) c.as_slice.ensures) ∙ sym c.has_sink.ensures ∙ c.if-has_sink.false),
      omega arith,
    )
