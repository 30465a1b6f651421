use Rattle.std.proofs.Common.{◌≡◌, ℕ, arith, sym, ap, ◌∙◌, cond, length}
use Rattle.std.specs.List.{sum_by}
use Rattle.elmore.specs.Path.{nodes as node_numbers}
use Rattle.elmore.specs.Steps.{marked}
use Rattle.elmore.specs.Trees.{resistance}
use Rattle.elmore.proofs.SumLemmas.{sum_of_more, sum_of_filter}
use Rattle.elmore.proofs.TreeLemmas.{resistance_read}
use Rattle.wire_widths.specs.Fits.{most_added}
use Rattle.vg_width.proofs.limits.all_added.Goals.{then-live-v, else-live-v}
use Rattle.vg_width.proofs.limits.all_added.Goals as goal

pub nodes-preserved : goal.nodes-preserved
nodes-preserved c =
    let v = c.nodes.v in
    let most : ℕ → ℕ = λ u. most_added c.args.widths.now (resistance c.args.nodes.now u) in
    let here : ℕ → ℕ = λ u. cond (marked c.args.live.now u) (most u) 0 in
    elim c.if-live-v.branch [
      | then-live-v w ↦
          let r = resistance_read c.args.nodes.now v (record { parent = 0; r = 0; c = 0 }) (omega arith) in
          let added : w.most_added.result ≡ here v =
          w.most_added.ensures ∙ ap (most_added c.args.widths.now) r ∙ sym (ap (λ b. cond b (most v) 0) w.if-live-v.true) in
          record { sum_is = omega (arith, sum_of_more here v, c.nodes.invariant.sum_is, added, w.from-sum.ensures, w.sum-is); small = omega (arith, c.nodes.invariant.small, w.from-sum.ensures, w.sum-is, w.most_added.type_inv) }
      | else-live-v w ↦
          let none : here v ≡ 0 = ap (λ b. cond b (most v) 0) w.if-live-v.false in
          record { sum_is = omega (arith, sum_of_more here v, c.nodes.invariant.sum_is, none, w.sum-is); small = omega (arith, c.nodes.invariant.small, w.sum-is) }
    ]

pub returns-clause-sum : goal.returns-clause-sum
returns-clause-sum c =
    let most : ℕ → ℕ = λ u. most_added c.args.widths.now (resistance c.args.nodes.now u) in
    let end : c.nodes.v ≡ length c.args.nodes.now = omega arith in
    sym c.nodes.invariant.sum_is
    ∙ ap (λ k. sum_by (λ u. cond (marked c.args.live.now u) (most u) 0) (node_numbers k)) end
    ∙ sym (sum_of_filter most (marked c.args.live.now) (node_numbers (length c.args.nodes.now)))
