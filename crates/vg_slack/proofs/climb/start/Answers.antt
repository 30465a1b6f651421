use Rattle.std.proofs.Common.{◌≡◌, ◌+◌, ◌++◌, ◌∷◌, [], length, sym, ap, ◌∙◌, subst, arith}
use Rattle.std.proofs.lemmas.List.{length-append}
use Rattle.sol_arena.specs.Arenas.{slots_of, made_of}
use Rattle.cand_turns.specs.Swaps.{Slots, search, at_slots, IsTurn}
use Rattle.cand_turns.proofs.StartLemmas.{held_nothing}
use Rattle.cand_turns.proofs.AddLemmas.{grown, grown_turn}
use Rattle.cand_turns.proofs.SwapLemmas.{turn_then}
use Rattle.cand_turns.specs.Parts.{lists_in}
use Rattle.vg_slack.specs.Climbs.{all_lists, IsSoFar, AreBegun}
use Rattle.vg_slack.proofs.BoundLemmas.{start_few}
use Rattle.vg_slack.proofs.ClimbLemmas.{begun_beside, begun_more}
use Rattle.vg_slack.proofs.PartsLemmas.{turn_itself, start_more}
use Rattle.vg_slack.proofs.climb.start.Goals as goal

pub nodes-init : goal.nodes-init
nodes-init c = record {
  count = ap length c.requires.none;
  turn = λ slots. subst (λ parts. IsTurn (at_slots c.args.pool.now slots) [] (at_slots c.args.pool.now slots) (all_lists parts)) (sym c.requires.none)
      (turn_itself (at_slots c.args.pool.now slots) [] (held_nothing (at_slots c.args.pool.now slots)));
  begun = λ v v_n. absurd (omega (arith, v_n, ap length c.requires.none));
}

pub start-part-requires-clause-room : goal.start-part-requires-clause-room
start-part-requires-clause-room c = omega (arith, c.in_ok-reserve.ensures.room)

pub nodes-preserved : goal.nodes-preserved
nodes-preserved c =
    let p = c.args.p.now in
    let ws = c.args.widths.now in
    let arena = c.args.arena.now in
    let old = c.nodes.parts.items in
    let part = c.start-part.result in
    let pool = c.reserve.new.self in
    let items : c.push.new.self.items ≡ old ++ part ∷ [] = c.in_ok-push.ensures.items in
    let turn : (slots : Slots) → IsTurn (at_slots c.nodes.pool slots) (all_lists old) (at_slots pool slots) (all_lists old)
    = λ slots. grown_turn c.nodes.pool pool slots (all_lists old) (c.nodes.invariant.turn slots).held c.in_ok-reserve.ensures.others c.in_ok-reserve.ensures.more in
    let grows : IsTurn (search c.nodes.pool arena) [] (search pool arena) []
    = grown c.nodes.pool pool (slots_of arena) c.in_ok-reserve.ensures.others c.in_ok-reserve.ensures.more in
    let still : AreBegun p ws (made_of arena) c.start-part.new.pool old
    = begun_beside p ws arena arena pool c.start-part.new.pool [] (lists_in part) old (turn (slots_of arena)).held (c.start-part.ensures.turn (slots_of arena))
    (begun_beside p ws arena arena c.nodes.pool pool [] [] old (c.nodes.invariant.turn (slots_of arena)).held grows c.nodes.invariant.begun) in
    let begun : IsSoFar p ws (length p.tree.nodes) c.nodes.node (made_of arena) c.start-part.new.pool part
    = record { part = c.start-part.ensures.part; few = start_few p ws c.nodes.node c.start-part.new.pool part c.start-part.ensures.few } in
    record {
      count = ap length items ∙ length-append old (part ∷ []) ∙ ap (λ k. k + 1) c.nodes.invariant.count;
      turn = λ slots. subst (λ parts. IsTurn (at_slots c.args.pool.now slots) [] (at_slots c.start-part.new.pool slots) (all_lists parts)) (sym items)
          (turn_then (at_slots c.args.pool.now slots) (at_slots c.nodes.pool slots) (at_slots c.start-part.new.pool slots) _ _ _ (c.nodes.invariant.turn slots)
          (turn_then (at_slots c.nodes.pool slots) (at_slots pool slots) (at_slots c.start-part.new.pool slots) _ _ _ (turn slots)
          (start_more (at_slots pool slots) (at_slots c.start-part.new.pool slots) old part (turn slots).held (c.start-part.ensures.turn slots))));
      begun = subst (AreBegun p ws (made_of arena) c.start-part.new.pool) (sym items)
          (begun_more p ws (made_of arena) c.start-part.new.pool old part still
          (subst (λ k. IsSoFar p ws (length p.tree.nodes) k (made_of arena) c.start-part.new.pool part) (sym c.nodes.invariant.count) begun));
    }

pub returns-clause-all : goal.returns-clause-all
returns-clause-all c = omega (arith, c.nodes.invariant.count, c.nodes-test.false, c.nodes.auto.node-end, c.len-node-end.ensures)

pub returns-clause-turn : goal.returns-clause-turn
returns-clause-turn c = c.nodes.invariant.turn

pub returns-clause-begun : goal.returns-clause-begun
returns-clause-begun c = c.nodes.invariant.begun
