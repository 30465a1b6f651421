use Rattle.std.proofs.Common.{◌≡◌}
use Rattle.elmore.specs.Problems.{places as places_of}
use Rattle.elmore.proofs.LiveLemmas.{places_are}
use Rattle.elmore.proofs.problem.Problem.new.Goals as goal

pub invariant_of-result-clause-places_are : goal.invariant_of-result-clause-places_are
invariant_of-result-clause-places_are c =
    let are : c.in_ok-marks.marks.places ≡ places_of c.args.tree.nodes c.args.sinks c.args.free.now =
    rw (c.as_slice.ensures, c.as_slice-2.ensures) at c.in_ok-marks.ensures.places in
    rw are (places_are c.args.tree.nodes c.args.sinks c.args.free.now c.args.tree.a_tree.some_node c.requires.no_sink c.requires.root)

pub invariant_of-result-clause-live_are : goal.invariant_of-result-clause-live_are
invariant_of-result-clause-live_are c = rw (c.as_slice.ensures, c.as_slice-2.ensures) at c.in_ok-marks.ensures.live
