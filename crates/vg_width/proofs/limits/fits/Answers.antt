use Rattle.std.proofs.Common.{◌≡◌, ◌+◌, arith, ap, ◌∙◌, length, leb-true, le-leb}
use Rattle.std.proofs.lemmas.List.FromFn.{length-map-range_with_len}
use Rattle.elmore.specs.Problems.{is_live}
use Rattle.elmore.specs.Trees.{resistance}
use Rattle.wire_widths.specs.Fits.{most_added, widest_load}
use Rattle.vg_width.proofs.FitLemmas.{live_sum}
use Rattle.vg_width.proofs.limits.fits.Goals as goal

pub all_added-added-requires-clause-one_each : goal.all_added-added-requires-clause-one_each
all_added-added-requires-clause-one_each c =
    let p = c.args.p.now in
    rw (c.as_slice.ensures, c.as_slice-nodes.ensures)
    (ap length p.live_are ∙ length-map-range_with_len (is_live p.tree.nodes p.sinks) 0 (length p.tree.nodes))

pub overflow_add-result : goal.overflow_add-result
overflow_add-result c = omega (arith, c.greatest_load.ensures, c.all_added-added.ensures.small, c.args.p.now.within.capacitances)

pub returns : goal.returns
returns c =
    let p = c.args.p.now in
    let added = rw (c.as_slice-nodes.ensures, c.as_slice.ensures, c.as_slice-2.ensures) at c.all_added-added.ensures.sum in
    let all : c.greatest_load.result + c.all_added-added.result ≡ widest_load p c.args.widths.now.rows =
    omega (
      arith,
      c.greatest_load.ensures,
      added,
      live_sum p.tree.nodes p.sinks p.live (λ u. most_added c.args.widths.now.rows (resistance p.tree.nodes u)) p.live_are,
    ) in (
      λ small. omega (arith, all, leb-true _ _ small),
      λ fits. le-leb _ _ (omega (arith, all, fits)),
    )
