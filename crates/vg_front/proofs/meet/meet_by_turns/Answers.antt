use Rattle.std.proofs.Common.{rules, arith, ◌≡◌, ◌<◌, ◌++◌, ◌∙◌, List, [], length, ap}
use Rattle.std.specs.BinaryHeap.{heap_items}
use Rattle.vg_front.specs.Desks.{all_in}
use Rattle.vg_front.specs.declared.offer.Proposal.{Proposal}
use Rattle.vg_front.proofs.HeldLemmas.{is_empty}
use Rattle.vg_front.proofs.TurnLemmas.{no_run, turn_inside, turn_first, turn_small, turn_second, met_begins, met_kept, met_more, met_ends, left_less}
use Rattle.vg_front.proofs.meet.meet_by_turns.Goals as goal

pub turns-init : goal.turns-init
turns-init c = record {
  met =
      met_begins c.args.cap c.args.xs.now c.args.ys.now c.args.firsts.now c.args.seconds.now (heap_items c.args.turns.now) (all_in c.clear.new.self)
      c.requires.turns (ap (λ (l : List Proposal). l ++ c.clear.new.self.fresh.items) c.clear.ensures.none ∙ c.clear.ensures.fresh);
  reached = c.clear.ensures.reached;
}

pub bounds-seconds-turn : goal.bounds-seconds-turn
bounds-seconds-turn c =
    turn_inside c.args.cap c.args.xs.now c.args.ys.now c.args.firsts.now c.args.seconds.now (heap_items c.turns.turns) (heap_items c.pop.new.self)
    (all_in c.turns.desk) c.turns.invariant.met c.in-Some.next c.in-Some.ensures.permutation

pub offset_bounds-seconds-turn : goal.offset_bounds-seconds-turn
offset_bounds-seconds-turn c =
    let inside : c.in-Some.next.0.second < length c.args.seconds.now =
    turn_inside c.args.cap c.args.xs.now c.args.ys.now c.args.firsts.now c.args.seconds.now (heap_items c.turns.turns) (heap_items c.pop.new.self)
    (all_in c.turns.desk) c.turns.invariant.met c.in-Some.next c.in-Some.ensures.permutation in
    search rules

pub overflow_add-turn : goal.overflow_add-turn
overflow_add-turn c =
    let inside : c.in-Some.next.0.second < length c.args.seconds.now =
    turn_inside c.args.cap c.args.xs.now c.args.ys.now c.args.firsts.now c.args.seconds.now (heap_items c.turns.turns) (heap_items c.pop.new.self)
    (all_in c.turns.desk) c.turns.invariant.met c.in-Some.next c.in-Some.ensures.permutation in
    search rules

pub meet_one-requires-clause-first : goal.meet_one-requires-clause-first
meet_one-requires-clause-first c =
    turn_first c.args.cap c.args.xs.now c.args.ys.now c.args.firsts.now c.args.seconds.now (heap_items c.turns.turns) (heap_items c.pop.new.self)
    (all_in c.turns.desk) c.turns.invariant.met c.in-Some.next c.in-Some.ensures.permutation c.requires.firsts

pub meet_one-requires-clause-second : goal.meet_one-requires-clause-second
meet_one-requires-clause-second c =
    turn_second c.args.cap c.args.xs.now c.args.ys.now c.args.firsts.now c.args.seconds.now (heap_items c.turns.turns) (heap_items c.pop.new.self)
    (all_in c.turns.desk) c.turns.invariant.met c.in-Some.next c.in-Some.ensures.permutation c.requires.seconds no_run

pub put-requires-clause-first : goal.put-requires-clause-first
put-requires-clause-first c =
    turn_small c.args.cap c.args.xs.now c.args.ys.now c.args.firsts.now c.args.seconds.now (heap_items c.turns.turns) (heap_items c.pop.new.self)
    (all_in c.turns.desk) c.turns.invariant.met c.in-Some.next c.in-Some.ensures.permutation c.requires.firsts

pub turns-preserved : goal.turns-preserved
turns-preserved c = record {
  met =
      met_more c.args.cap c.args.xs.now c.args.ys.now c.args.firsts.now c.args.seconds.now (heap_items c.turns.turns) (heap_items c.pop.new.self)
      (heap_items c.put.new.turns) c.in-Some.next no_run (all_in c.turn_to.new.desk) (all_in c.meet_one.new.desk) c.requires.firsts c.requires.seconds
      (met_kept c.args.cap c.args.xs.now c.args.ys.now c.args.firsts.now c.args.seconds.now (heap_items c.turns.turns) (all_in c.turns.desk)
      (all_in c.turn_to.new.desk) c.turns.invariant.met c.in_ok-turn_to.ensures.kept)
      c.in-Some.ensures.permutation c.in_ok-meet_one.ensures.met c.in_ok-put.ensures;
  reached = c.in_ok-meet_one.ensures.reached;
}

pub turns-smaller : goal.turns-smaller
turns-smaller c =
    left_less c.args.cap c.args.seconds.now (heap_items c.turns.turns) (heap_items c.pop.new.self) (heap_items c.put.new.turns) c.in-Some.next
    c.in-Some.ensures.permutation
    (turn_inside c.args.cap c.args.xs.now c.args.ys.now c.args.firsts.now c.args.seconds.now (heap_items c.turns.turns) (heap_items c.pop.new.self)
    (all_in c.turns.desk) c.turns.invariant.met c.in-Some.next c.in-Some.ensures.permutation)
    c.in_ok-put.ensures

pub returns-clause-met : goal.returns-clause-met
returns-clause-met c =
    let none : heap_items c.turns.turns ≡ [] = is_empty (heap_items c.turns.turns) (omega (arith, c.in_default.ensures.none)) in
    met_ends c.args.cap c.args.xs.now c.args.ys.now c.args.firsts.now c.args.seconds.now (heap_items c.turns.turns) (all_in c.turns.desk)
    c.requires.firsts c.requires.seconds none c.turns.invariant.met
