use Rattle.std.proofs.Common.{ℕ, ◌<◌, List, length, slice_index, Vec, Global, sym, ap, subst, ◌∙◌}
use Rattle.vg_split.specs.Stages.{AreStages}
use Rattle.vg_split.specs.Splits.{Split as SplitSpec, forest}
use Rattle.vg_split.proofs.MemberLemmas.{members_low}
use Rattle.vg_split.proofs.StageNumberLemmas.{stage_nodes}
use Rattle.vg_split.proofs.split.Split.members.Goals as goal

pub returns-clause-are : goal.returns-clause-are
returns-clause-are c =
    let are = subst (λ (x : SplitSpec). AreStages (forest x) c.self.inside.stages.now) c.self.view_is c.self.invariant.1 in
    c.as_slice.ensures.value ∙ ap (λ (v : Vec ℕ Global). v.items) c.index.ensures
    ∙ stage_nodes (forest c.args.self.now) c.self.inside.stages.now c.args.stage c.index.result.now are c.requires

pub returns-clause-within : goal.returns-clause-within
returns-clause-within c =
    let are = subst (λ (x : SplitSpec). AreStages (forest x) c.self.inside.stages.now) c.self.view_is c.self.invariant.1 in
    let is = c.as_slice.ensures.value ∙ ap (λ (v : Vec ℕ Global). v.items) c.index.ensures
    ∙ stage_nodes (forest c.args.self.now) c.self.inside.stages.now c.args.stage c.index.result.now are c.requires in
    subst (λ (ws : List ℕ). (i : ℕ) → i < length ws → slice_index ws i < length c.args.self.now.problem.tree.nodes) (sym is)
    (λ i low. members_low c.args.self.now c.args.stage i 0 low)
