use Rattle.std.proofs.Common.{[], arith}
use Rattle.sol_arena.specs.Arenas.{made_of}
use Rattle.cand_turns.specs.Branches.{classes_in, lists_of}
use Rattle.cand_turns.specs.Swaps.{search}
use Rattle.cand_turns.proofs.SwapLemmas.{swap_then}
use Rattle.vg_slack.proofs.BoundLemmas.{closed_few}
use Rattle.vg_slack.proofs.ClimbLemmas.{branch_live, node_live}
use Rattle.vg_slack.proofs.KeptLemmas.{live_kept}
use Rattle.vg_slack.proofs.climb.close.Goals as goal

pub keep-requires-clause-live : goal.keep-requires-clause-live
keep-requires-clause-live g c = branch_live (search c.close.new.pool c.close.new.arena) c.in_ok-branch.branch c.in_ok-branch.ensures.turn.held

pub returns-in-Err-clause-turn : goal.returns-in-Err-clause-turn
returns-in-Err-clause-turn g c =
    swap_then (search c.args.pool.now c.args.arena.now) (search c.close.new.pool c.close.new.arena) (search c.give_up.new.pool c.give_up.new.arena)
    (lists_of c.args.branch) (lists_of c.in_ok-branch.branch) [] c.in_ok-branch.ensures.turn.swap c.give_up.ensures.swap

pub returns-clause-kept : goal.returns-clause-kept
returns-clause-kept g c = λ low.
    live_kept c.args.p.now c.args.widths.now c.args.node c.keep.new.self (made_of c.close.new.arena) (classes_in c.close.new.pool c.in_ok-branch.branch)
    c.in_ok-branch.ensures.closed
    (node_live c.args.p.now c.args.widths.now c.args.node (made_of c.args.arena.now) c.args.pool.now c.args.branch c.requires.node c.requires.whole)
    (closed_few c.args.p.now c.args.widths.now c.args.node c.args.pool.now c.close.new.pool c.args.branch c.in_ok-branch.branch c.requires.node c.requires.whole.few c.in_ok-branch.ensures.few)
    (c.in_default.ensures.kept (omega (arith, low, c.in_default.ensures.nodes)))
