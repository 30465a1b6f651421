use Rattle.std.proofs.Common.{◌∙◌, sym, ap, arith, length}
use Rattle.std.proofs.lemmas.List.FromFn.{length-map-range_with_len}
use Rattle.elmore.specs.Problems.{is_live}
use Rattle.elmore.proofs.LiveLemmas.{are_places}
use Rattle.elmore.proofs.live.Marks.of.Goals as goal

pub free_and_live-requires : goal.free_and_live-requires
free_and_live-requires c =
    ap length (c.as_slice.ensures ∙ c.in_ok-live.ensures)
    ∙ length-map-range_with_len (is_live c.args.nodes.now c.args.sinks.now) 0 (length c.args.nodes.now)
    ∙ sym c.requires.free_each

pub returns-clause-places : goal.returns-clause-places
returns-clause-places c =
    are_places c.args.nodes.now c.requires.tree c.args.sinks.now c.args.free.now c.as_slice.result.now c.in_ok-places.places c.requires.no_sink
    (c.as_slice.ensures ∙ c.in_ok-live.ensures) (c.in_ok-places.ensures.one_each ∙ c.requires.free_each)
    (λ v v_n. c.in_ok-places.ensures.both v (omega arith))
