use Rattle.std.proofs.Common.{true, false}
use Rattle.cand_uses.specs.Pairs.{pairs_of}
use Rattle.cand_turns.specs.Branches.{classes_in}
use Rattle.vg_slack.proofs.KeptLemmas.{on_ok, both_kept}
use Rattle.vg_slack.proofs.lists.NodeLists.fill.Goals as goal

pub copy-requires : goal.copy-requires
copy-requires g c = record { live = c.requires.live false }

pub copy-requires-2 : goal.copy-requires-2
copy-requires-2 g c = record { live = c.requires.live true }

pub returns-clause-kept : goal.returns-clause-kept
returns-clause-kept g c =
    on_ok c.copy-2.result
    (both_kept c.args.self.now (record { even = c.copy.new.to; odd = c.copy-2.new.to })
    (λ odd. pairs_of (classes_in c.args.pool.now c.args.branch.now odd)) c.requires.none c.in_ok-copy.ensures.pairs)
    c.copy-2.ensures.pairs
