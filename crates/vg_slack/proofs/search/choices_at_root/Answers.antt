use Rattle.std.proofs.Common.{[], ◌≡◌, true, false, sym, ◌∙◌, subst}
use Rattle.sol_arena.specs.Arenas.{made_of}
use Rattle.cand_pairs.proofs.CoverLemmas.{root_live}
use Rattle.cand_pairs.proofs.TurnLemmas.{part_is_dead}
use Rattle.cand_pool.specs.Pools.{items_of}
use Rattle.cand_turns.specs.Swaps.{search, IsSwap}
use Rattle.cand_turns.specs.Branches.{lists_of}
use Rattle.cand_turns.specs.Parts.{lists_in, IsPart}
use Rattle.cand_turns.proofs.BranchLemmas.{two_held}
use Rattle.cand_turns.proofs.WireLemmas.{small_modest, closed_small}
use Rattle.cand_turns.proofs.SwapLemmas.{swap_then}
use Rattle.vg_slack.specs.Climbs.{IsSoFar}
use Rattle.vg_slack.proofs.ClimbLemmas.{branch_live}
use Rattle.vg_slack.proofs.KeptLemmas.{if_ok, root_kept}
use Rattle.vg_slack.proofs.search.choices_at_root.Goals as goal

pub unreachable-requires : goal.unreachable-requires
unreachable-requires g c =
    let p = c.args.p.now in
    let part = subst (IsPart p c.args.widths.now 1 0 (made_of c.args.arena.now) c.args.pool.now) c.in_default.is c.requires.whole.part in
    absurd (let clash : true ≡ false = sym (root_live p) ∙ part_is_dead p 0 c.in_default.field-0 p.tree.a_tree.some_node part in cc)

pub close-requires-clause-whole : goal.close-requires-clause-whole
close-requires-clause-whole g c = subst (IsSoFar c.args.p.now c.args.widths.now 1 0 (made_of c.args.arena.now) c.args.pool.now) c.in-Live.is c.requires.whole

pub best_candidate-choice-requires-clause-live : goal.best_candidate-choice-requires-clause-live
best_candidate-choice-requires-clause-live g c =
    branch_live (search c.close.new.pool c.close.new.arena) c.in_ok-branch.branch c.in_ok-branch.ensures.turn.held false

pub best_candidate-choice-requires-clause-modest : goal.best_candidate-choice-requires-clause-modest
best_candidate-choice-requires-clause-modest g c =
    small_modest (items_of c.close.new.pool c.in_ok-branch.branch.even)
    (closed_small c.args.p.now c.args.widths.now 0 false (items_of c.close.new.pool c.in_ok-branch.branch.even) c.requires.widths (c.in_ok-branch.ensures.closed.exact false))

pub choices_of-found-requires : goal.choices_of-found-requires
choices_of-found-requires g c = record {
  widths = c.requires.widths;
  root = record {
    candidates = items_of c.close.new.pool c.in_ok-branch.branch.even;
    exact = c.in_ok-branch.ensures.closed.exact false;
    solved = c.in_ok-branch.ensures.closed.solved false;
    uses = (two_held (search c.close.new.pool c.close.new.arena) c.in_ok-branch.branch.even c.in_ok-branch.branch.odd c.in_ok-branch.ensures.turn.held).first;
    chosen = c.best_candidate-choice.ensures.choice;
  };
}

pub returns-clause-swap : goal.returns-clause-swap
returns-clause-swap g c =
    subst (λ part. IsSwap (search c.args.pool.now c.args.arena.now) (lists_in part) (search c.give_up.new.pool c.give_up.new.arena) []) (sym c.in-Live.is)
    (swap_then (search c.args.pool.now c.args.arena.now) (search c.close.new.pool c.close.new.arena) (search c.give_up.new.pool c.give_up.new.arena)
    (lists_of c.in-Live.branch) (lists_of c.in_ok-branch.branch) [] c.in_ok-branch.ensures.turn.swap c.give_up.ensures.swap)

pub returns-clause-kept : goal.returns-clause-kept
returns-clause-kept g c =
    if_ok c.choices_of-found.result
    (root_kept c.args.p.now c.args.widths.now c.args.lists.now c.close.new.lists c.requires.below c.in_ok-branch.ensures.nodes c.in_ok-branch.ensures.others
    c.in_ok-branch.ensures.kept)
