use Rattle.std.proofs.Common.{[], ◌∷◌, ◌++◌, List, None, Some, get_or, inl, refl, sym, ap, ◌∙◌, false}
use Rattle.std.proofs.lemmas.List.{get_or_default}
use Rattle.vg_convex.specs.declared.shelf.Pin.{Pin}
use Rattle.vg_convex.specs.declared.work.Made.{Made}
use Rattle.vg_convex.proofs.Sweeps.{swept_more, last_pushed}
use Rattle.vg_convex.proofs.sweep.sweep.Goals as goal

abbrev pin0 : Pin
pin0 = record { cin = 0; rep = 0; inverts = false }

pub keep_all-requires-clause-swept : goal.keep_all-requires-clause-swept
keep_all-requires-clause-swept c =
    swept_more c.args.reps.now c.args.buffers.now c.args.inverters.now c.args.pins.now c.pins.at (get_or c.args.pins.now c.pins.at pin0) (Some c.in-Some.best) c.pins.kept.items c.push.new.self.items
    c.requires.pins c.requires.by_input c.pins-test.true (get_or_default c.args.pins.now c.pins.at pin0 (get_or c.args.pins.now c.pins.at pin0) c.pins-test.true) c.in-Some.ensures
    (inl (c.pins.invariant.none, c.in_ok-push.ensures.items ∙ ap (λ (l : List Made). l ++ c.made_of-made.result ∷ []) c.pins.invariant.none ∙ ap (λ (m : Made). m ∷ []) c.made_of-made.ensures))
    c.pins.invariant.swept

pub keep_all-requires-clause-first : goal.keep_all-requires-clause-first
keep_all-requires-clause-first c = last_pushed c.pins.kept.items c.made_of-made.result c.push.new.self.items c.in_ok-push.ensures.items

pub pins-preserved : goal.pins-preserved
pins-preserved c = record {
  none = c.pins.invariant.none;
  swept =
      swept_more c.args.reps.now c.args.buffers.now c.args.inverters.now c.args.pins.now c.pins.at (get_or c.args.pins.now c.pins.at pin0) None c.pins.kept.items c.pins.kept.items
      c.requires.pins c.requires.by_input c.pins-test.true (get_or_default c.args.pins.now c.pins.at pin0 (get_or c.args.pins.now c.pins.at pin0) c.pins-test.true)
      (sym c.in_default.is ∙ c.found_for.ensures) refl c.pins.invariant.swept;
}
