use Rattle.std.proofs.Common.{List, ℕ, length, slice_index, sym, ap, ◌∙◌, arith}
use Rattle.elmore.specs.Trees.{parent_of}
use Rattle.vg_split.specs.Splits.{forest}
use Rattle.vg_split.proofs.MemberLemmas.{first_is, some_member}
use Rattle.vg_split.proofs.SplitLemmas.{falls}
use Rattle.vg_change.specs.Placed.{stage_at}
use Rattle.vg_change.proofs.StageLemmas.{stage_is}
use Rattle.vg_change.proofs.cells.above.Goals as goal

pub bounds-members-0 : goal.bounds-members-0
bounds-members-0 c = omega (arith, ap (λ (ws : List ℕ). length ws) c.members.ensures.are, some_member c.args.x.now c.args.stage c.requires)

pub returns-clause-is : goal.returns-clause-is
returns-clause-is c =
    let x = c.args.x.now in
    let at = ap (λ (ws : List ℕ). slice_index ws 0) c.members.ensures.are ∙ first_is x c.args.stage c.requires in
    sym (stage_is (forest x) (falls x) c.stage_of.result _ c.stage_of.ensures)
    ∙ ap (stage_at (forest x)) (c.above-parent.ensures.parent ∙ ap (parent_of x.problem.tree.nodes) at)
