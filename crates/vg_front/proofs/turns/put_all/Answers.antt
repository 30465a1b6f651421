use Rattle.std.proofs.Common.{rules, List, get_or, subst}
use Rattle.std.proofs.lemmas.List.{take_all}
use Rattle.std.proofs.lemmas.List.Elements.{Contains-get_or}
use Rattle.std.specs.BinaryHeap.{heap_items}
use Rattle.vg_front.specs.declared.runs.Run.{Run}
use Rattle.vg_front.specs.Turns.{AreTurns}
use Rattle.vg_front.proofs.TurnLemmas.{turns_begin, turns_more}
use Rattle.vg_front.proofs.turns.put_all.Goals as goal

pub firsts-init : goal.firsts-init
firsts-init c = turns_begin c.args.cap c.args.seconds.now (heap_items c.args.turns.now) c.requires.none

pub put-requires-clause-first : goal.put-requires-clause-first
put-requires-clause-first c =
    c.requires.firsts (get_or c.args.firsts.now c.firsts.first-index _) (Contains-get_or c.args.firsts.now c.firsts.first-index _ c.firsts-test.true)

pub firsts-preserved : goal.firsts-preserved
firsts-preserved c =
    turns_more c.args.cap c.args.firsts.now c.args.seconds.now c.firsts.first-index _ (heap_items c.firsts.turns) (heap_items c.put.new.turns)
    c.firsts-test.true c.firsts.invariant c.in_ok-put.ensures

pub returns : goal.returns
returns c =
    subst (λ (l : List Run). AreTurns c.args.cap l c.args.seconds.now (heap_items c.firsts.turns))
    (take_all c.firsts.first-index c.args.firsts.now (search rules)) c.firsts.invariant
