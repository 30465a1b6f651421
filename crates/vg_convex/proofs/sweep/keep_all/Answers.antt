use Rattle.std.proofs.Common.{None, Some, get_or, refl, sym, subst, ◌∙◌, false}
use Rattle.std.proofs.lemmas.List.{get_or_default}
use Rattle.vg_convex.specs.Answers.{IsKept}
use Rattle.vg_convex.specs.declared.shelf.Pin.{Pin}
use Rattle.vg_convex.specs.declared.work.Made.{Made}
use Rattle.vg_convex.proofs.Sweeps.{swept_more}
use Rattle.vg_convex.proofs.sweep.keep_all.Goals as goal
use Rattle.vg_convex.proofs.sweep.keep_all.Goals.{in-Some+in_ok-last, in_default}

abbrev pin0 : Pin
pin0 = record { cin = 0; rep = 0; inverts = false }

pub pins-preserved : goal.pins-preserved
pins-preserved c = elim c.match-found_for.branch [
  | in-Some+in_ok-last w ↦ rw (w.kept-is, w.last-is) (record {
    last = w.in_ok-last.ensures.last;
    swept =
        swept_more c.args.reps.now c.args.buffers.now c.args.inverters.now c.args.pins.now c.pins.at (get_or c.args.pins.now c.pins.at pin0) (Some w.in-Some.best) c.pins.kept.items w.keep.new.kept.items
        c.requires.pins c.requires.by_input c.pins-test.true (get_or_default c.args.pins.now c.pins.at pin0 (get_or c.args.pins.now c.pins.at pin0) c.pins-test.true) w.in-Some.ensures
        (subst (λ (m : Made). IsKept c.pins.kept.items m w.keep.new.kept.items) w.made_of.ensures w.in_ok-last.ensures.kept) c.pins.invariant.swept;
  })
  | in_default w ↦ rw (w.kept-is, w.last-is) (record {
    last = c.pins.invariant.last;
    swept =
        swept_more c.args.reps.now c.args.buffers.now c.args.inverters.now c.args.pins.now c.pins.at (get_or c.args.pins.now c.pins.at pin0) None c.pins.kept.items c.pins.kept.items
        c.requires.pins c.requires.by_input c.pins-test.true (get_or_default c.args.pins.now c.pins.at pin0 (get_or c.args.pins.now c.pins.at pin0) c.pins-test.true)
        (sym w.in_default.is ∙ c.found_for.ensures) refl c.pins.invariant.swept;
  })
]
