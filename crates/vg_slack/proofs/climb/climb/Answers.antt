use Rattle.std.proofs.Common.{◌≡◌, ◌<◌, refl, sym, ap, ◌∙◌, subst, arith}
use Rattle.cand_turns.specs.Swaps.{search}
use Rattle.cand_turns.proofs.SwapLemmas.{turn_then}
use Rattle.vg_slack.specs.Climbs.{all_lists}
use Rattle.vg_slack.specs.Waits.{last_at, IsWaiting}
use Rattle.vg_slack.proofs.PartsLemmas.{turn_itself}
use Rattle.vg_slack.proofs.WaitLemmas.{left_from, down_less, in_less, goes_down, at_root}
use Rattle.vg_slack.proofs.climb.climb.Goals as goal

pub nodes-init : goal.nodes-init
nodes-init g c = record {
  waiting = c.requires.waiting;
  tools = c.requires.tools;
  turn = turn_itself (search c.args.pool.now c.args.arena.now) (all_lists c.args.parts.now.items) c.requires.held;
  parts = c.requires.parts;
  nodes = refl;
  kept = c.requires.kept;
}

pub last-last-requires : goal.last-last-requires
last-last-requires g c = omega (arith, c.nodes.invariant.waiting.node, c.nodes.invariant.waiting.linked.lasts)

pub nodes-smaller-then-last-at : goal.nodes-smaller-then-last-at
nodes-smaller-then-last-at g c =
    subst (λ last. left_from c.args.p.now c.nodes.waiting last < left_from c.args.p.now c.nodes.waiting c.nodes.at) (sym c.last-last.ensures)
    (down_less c.args.p.now c.nodes.waiting c.nodes.at c.nodes.invariant.waiting (λ e. c.if-last-at.true (c.last-last.ensures ∙ e)))

pub nodes-preserved-then-last-at : goal.nodes-preserved-then-last-at
nodes-preserved-then-last-at g c = record {
  waiting = subst (IsWaiting c.args.p.now c.nodes.waiting) (sym c.last-last.ensures)
      (goes_down c.args.p.now c.nodes.waiting c.nodes.at c.nodes.invariant.waiting (λ e. c.if-last-at.true (c.last-last.ensures ∙ e)));
  tools = c.nodes.invariant.tools;
  turn = c.nodes.invariant.turn;
  parts = c.nodes.invariant.parts;
  nodes = c.nodes.invariant.nodes;
  kept = c.nodes.invariant.kept;
}

pub turn-requires-clause-waiting : goal.turn-requires-clause-waiting
turn-requires-clause-waiting g c = c.nodes.invariant.waiting

pub turn-requires-clause-tools : goal.turn-requires-clause-tools
turn-requires-clause-tools g c = c.nodes.invariant.tools

pub turn-requires-clause-held : goal.turn-requires-clause-held
turn-requires-clause-held g c = c.nodes.invariant.turn.held

pub turn-requires-clause-parts : goal.turn-requires-clause-parts
turn-requires-clause-parts g c = c.nodes.invariant.parts

pub turn-requires-clause-kept : goal.turn-requires-clause-kept
turn-requires-clause-kept g c = c.nodes.invariant.kept

pub returns-in_err-turn-clause-turn : goal.returns-in_err-turn-clause-turn
returns-in_err-turn-clause-turn g c =
    turn_then (search c.args.pool.now c.args.arena.now) (search c.nodes.pool c.nodes.arena) (search c.turn.new.pool c.turn.new.arena) _ _ _
    c.nodes.invariant.turn c.turn.ensures.turn

pub returns-in_err-turn-clause-nodes : goal.returns-in_err-turn-clause-nodes
returns-in_err-turn-clause-nodes g c = c.turn.ensures.nodes ∙ c.nodes.invariant.nodes

pub nodes-smaller : goal.nodes-smaller
nodes-smaller g c = in_less c.args.p.now c.nodes.waiting c.turn.new.waiting c.nodes.at c.parent_of-at.result c.in_ok-turn.ensures.fewer

pub nodes-preserved : goal.nodes-preserved
nodes-preserved g c = record {
  waiting = subst (IsWaiting c.args.p.now c.turn.new.waiting) (sym c.parent_of-at.ensures.parent) c.in_ok-turn.ensures.waiting;
  tools = c.in_ok-turn.ensures.tools;
  turn = turn_then (search c.args.pool.now c.args.arena.now) (search c.nodes.pool c.nodes.arena) (search c.turn.new.pool c.turn.new.arena) _ _ _
      c.nodes.invariant.turn c.in_ok-turn.ensures.turn;
  parts = c.in_ok-turn.ensures.parts;
  nodes = c.in_ok-turn.ensures.nodes ∙ c.nodes.invariant.nodes;
  kept = c.in_ok-turn.ensures.kept;
}

pub returns-else-at-ne0-clause-root : goal.returns-else-at-ne0-clause-root
returns-else-at-ne0-clause-root g c =
    let here : c.nodes.at ≡ 0 = omega arith in
    let last : c.last-last.result ≡ c.nodes.at = omega arith in
    at_root c.args.p.now c.nodes.waiting (subst (IsWaiting c.args.p.now c.nodes.waiting) here c.nodes.invariant.waiting)
    (ap (last_at c.nodes.waiting) (sym here) ∙ sym c.last-last.ensures ∙ last ∙ here)

pub returns-else-at-ne0-clause-tools : goal.returns-else-at-ne0-clause-tools
returns-else-at-ne0-clause-tools g c = c.nodes.invariant.tools

pub returns-else-at-ne0-clause-turn : goal.returns-else-at-ne0-clause-turn
returns-else-at-ne0-clause-turn g c = c.nodes.invariant.turn

pub returns-else-at-ne0-clause-parts : goal.returns-else-at-ne0-clause-parts
returns-else-at-ne0-clause-parts g c = c.nodes.invariant.parts

pub returns-else-at-ne0-clause-nodes : goal.returns-else-at-ne0-clause-nodes
returns-else-at-ne0-clause-nodes g c = c.nodes.invariant.nodes

pub returns-else-at-ne0-clause-kept : goal.returns-else-at-ne0-clause-kept
returns-else-at-ne0-clause-kept g c = c.nodes.invariant.kept
