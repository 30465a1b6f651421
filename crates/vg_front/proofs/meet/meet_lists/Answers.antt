use Rattle.std.proofs.Common.{List, sym, ◌∙◌, subst}
use Rattle.std.specs.BinaryHeap.{heap_items}
use Rattle.vg_front.specs.declared.runs.Run.{Run}
use Rattle.vg_front.specs.Meeting.{IsMet}
use Rattle.vg_front.specs.Runs.{AreSmall, AreRunsOf}
use Rattle.vg_front.specs.Turns.{AreTurns}
use Rattle.vg_front.proofs.OfferLemmas.{part_kept}
use Rattle.vg_front.proofs.meet.meet_lists.Goals as goal

pub put_all-requires : goal.put_all-requires
put_all-requires c = record {
  none = c.new-turns.ensures.items;
  firsts = subst (λ (l : List Run). AreSmall l) (sym c.deref.ensures.value) c.in_ok-firsts.ensures.small;
  seconds = subst (λ (l : List Run). AreSmall l) (sym c.deref-2.ensures.value) c.in_ok-seconds.ensures.small;
}

pub meet_by_turns-requires : goal.meet_by_turns-requires
meet_by_turns-requires c = record {
  firsts = subst (AreRunsOf c.args.xs.now c.args.xs.now) (sym c.deref-3.ensures.value) c.in_ok-firsts.ensures;
  seconds = subst (AreRunsOf c.args.ys.now c.args.ys.now) (sym c.deref-4.ensures.value) c.in_ok-seconds.ensures;
  turns =
      subst (λ (l : List Run). AreTurns c.args.cap l c.deref-4.result.now (heap_items c.put_all.new.turns)) (c.deref.ensures.value ∙ sym c.deref-3.ensures.value)
      (subst (λ (l : List Run). AreTurns c.args.cap c.deref.result.now l (heap_items c.put_all.new.turns)) (c.deref-2.ensures.value ∙ sym c.deref-4.ensures.value)
      c.in_ok-put_all.ensures);
  bounded_first = c.requires.bounded_first;
  bounded_second = c.requires.bounded_second;
}

pub returns : goal.returns
returns c =
    part_kept (IsMet c.args.cap c.args.xs.now c.args.ys.now) c.meet_by_turns.new.desk.made.items c.meet_by_turns.new.desk.fresh.items
    c.settle.new.self.made.items c.in_ok-meet_by_turns.ensures.met c.in_ok-settle.ensures.kept
