use Rattle.std.proofs.Common.{length, arith, subst, sym, ◌∙◌}
use Rattle.std.proofs.lemmas.List.{with_items_is}
use Rattle.sta_graph.specs.Passes.{IsBackward}
use Rattle.sta_graph.specs.Begins.{AreEnds}
use Rattle.sta_graph.proofs.BeginLaws.{ends_none, ends_all}
use Rattle.sta_graph.proofs.slacks.last_times.Goals as goal

pub hold_ends-requires-clause-begun : goal.hold_ends-requires-clause-begun
hold_ends-requires-clause-begun c =
    subst (AreEnds c.args.g.now c.args.leading.now 0) (sym c.deref_mut.ensures.value)
    (ends_none c.args.g.now c.args.leading.now c.in_ok-times.times.items (c.in_ok-times.ensures.count ∙ c.len.ensures) c.in_ok-times.ensures.none)

pub returns : goal.returns
returns c = λ order.
    subst (IsBackward c.args.g.now order (length order) 2)
    (sym (with_items_is c.in_ok-times.times c.hold_ends.new.times (omega (arith, c.hold_ends.ensures.count, c.in_ok-times.ensures.count, c.len.ensures, c.in_ok-times.times.ok.0))))
    (ends_all c.args.g.now order c.args.leading.now c.hold_ends.new.times c.requires.graph c.requires.leading c.hold_ends.ensures)
