use Rattle.std.proofs.Common.{◌≡◌, ℕ, ◌+◌, ◌<◌, List, length, slice_index, take, ap, ◌∙◌, subst, arith}
use Rattle.std.specs.List.{sum_by}
use Rattle.std.proofs.Math.Seq.{take-length}
use Rattle.vg_split.specs.Conditions.{IsSplit}
use Rattle.vg_split.specs.Splits.{cap_in, forest, head}
use Rattle.vg_split.specs.Stages.{members}
use Rattle.vg_split.proofs.ChargeLemmas.{few_summed, one_summed, own_sum}
use Rattle.vg_split.proofs.stage.charge_of.Goals as goal

pub overflow_add-sum : goal.overflow_add-sum
overflow_add-sum c =
    let x = c.args.x.now in
    let k = c.args.stage in
    let i = c.node.node-index in
    let low : i < length (members (forest x) (head x k)) = subst (λ (l : List ℕ). i < length l) c.members-node-items.ensures.are c.node-test.true in
    let charge : c.charge_in-sum.result ≡ cap_in x k (slice_index (members (forest x) (head x k)) i)
    = c.charge_in-sum.ensures ∙ ap (λ (l : List ℕ). cap_in x k (slice_index l i)) c.members-node-items.ensures.are in
    let sum : c.node.sum ≡ sum_by (cap_in x k) (take i (members (forest x) (head x k))) = c.node.invariant in
    omega (arith, sum, charge, few_summed x k i (subst IsSplit c.x.view_is c.x.invariant.0) low)

pub node-preserved : goal.node-preserved
node-preserved c =
    let x = c.args.x.now in
    let k = c.args.stage in
    let i = c.node.node-index in
    let ws = members (forest x) (head x k) in
    let low : i < length ws = subst (λ (l : List ℕ). i < length l) c.members-node-items.ensures.are c.node-test.true in
    let charge : c.charge_in-sum.result ≡ cap_in x k (slice_index ws i)
    = c.charge_in-sum.ensures ∙ ap (λ (l : List ℕ). cap_in x k (slice_index l i)) c.members-node-items.ensures.are in
    ap (λ n. n + c.charge_in-sum.result) c.node.invariant ∙ ap (λ n. sum_by (cap_in x k) (take i ws) + n) charge ∙ one_summed (cap_in x k) ws i low

pub returns : goal.returns
returns c =
    let x = c.args.x.now in
    let k = c.args.stage in
    let ws = members (forest x) (head x k) in
    let count : c.node.node-index ≡ length ws
    = omega (arith, c.node-test.false, c.node.auto.node-index-end, ap (λ (l : List ℕ). length l) c.members-node-items.ensures.are) in
    c.node.invariant ∙ ap (λ n. sum_by (cap_in x k) (take n ws)) count ∙ ap (sum_by (cap_in x k)) (take-length ws) ∙ own_sum x k ws
